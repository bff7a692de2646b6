use Rattle.encoder.proofs.Wholes.{encoded_none, encoded_some}
use Rattle.encoder.proofs.encoding.encode.Goals as goal

pub returns-in_err-truth-clause-says : goal.returns-in_err-truth-clause-says
returns-in_err-truth-clause-says c = rw c.from_residual.ensures (encoded_none c.args.shape c.args.description.now c.args.circuit.now c.sentence.new.circuit c.silent.result c.silent.ensures c.in_err-truth.ensures.says)

pub returns-clause-says : goal.returns-clause-says
returns-clause-says c = encoded_some c.args.shape c.args.description.now c.args.circuit.now c.sentence.new.circuit c.silent.result c.silent.ensures c.in_ok-truth.truth.end c.in_ok-truth.truth.value c.in_ok-truth.ensures.says
