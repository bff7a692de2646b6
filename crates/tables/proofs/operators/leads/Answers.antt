use Rattle.std.proofs.Common.{◌+◌, ◌*◌, ◌&&◌, get_or, sym, refl, rules}
use Rattle.std.proofs.lemmas.Bool.{eq-eqb, ne_eqb}
use Rattle.descriptions.specs.Pictures.{any}
use Rattle.descriptions.proofs.Quantifiers.{any_cong}
use Rattle.clauses.specs.Formulas.{value}
use Rattle.gates.proofs.Literals.{value_true}
use Rattle.tables.specs.Tables.{shown}
use Rattle.tables.proofs.Filling.{gives_is, came_is, false_gives}
use Rattle.tables.proofs.operators.leads.Goals as goal

pub returns-then-pair-clause-came : goal.returns-then-pair-clause-came
returns-then-pair-clause-came c = gives_is _ _ (λ α o. sym (rw (ne_eqb _ _ c.if-pair.true) refl)) (false_gives c.args.circuit.now.sound.some)

pub returns-clause-came : goal.returns-clause-came
unfolding shown
returns-clause-came c =
    came_is c.some_both.new.circuit _ (λ α. any c.args.size.things (λ k. value α 0 && value α (get_or c.args.one.now (c.args.pair.first * c.args.size.things + k) 0))) _
    (λ α o. sym (rw (eq-eqb _ _ c.if-pair.false) (any_cong c.args.size.things _ _ (λ k h. sym (rw (value_true α o.top) refl)))))
    (c.some_both.ensures.came (λ k. 0) (λ k. get_or c.args.one.now (c.args.pair.first * c.args.size.things + k) 0) (λ k r h p. search rules))
