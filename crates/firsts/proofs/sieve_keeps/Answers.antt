use Rattle.firsts.proofs.Sieve.{sieve_keeps}
use Rattle.firsts.proofs.sieve_keeps.Goals as goal

pub returns : goal.returns
returns c = sieve_keeps
