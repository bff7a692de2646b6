use Rattle.std.proofs.Common.{refl, sym, subst, arith, of_calls}
use Rattle.clauses.specs.Stores.{from, to, Stored}
use Rattle.clauses.specs.Views.{StoreView}
use Rattle.clauses.proofs.Literals.{formula_long}
use Rattle.clauses.proofs.Answering.{answered_all}
use Rattle.clauses.proofs.Retaining.{stored_seen, keeping_none, keeping_less, keeping_more, keeping_over, next_behind, next_ordered, next_within}
use Rattle.clauses.proofs.store.Store.retain.Goals as goal
use Rattle.clauses.proofs.store.Store.retain.Goals.{then-wants, else-wants, else-taken-via-then-taken+else-from-written, else-taken-via-else-taken}

pub loop-number-init : goal.loop-number-init
loop-number-init g c = record { keeping = keeping_none _ _ _ _ _ _ _; callable = c.requires }

-- a store that was not taken over is in order, and of another it is seen
pub prove-unreachable-requires : goal.prove-unreachable-requires
unfolding from
prove-unreachable-requires g c = elim c.else-taken.branch [
  | else-taken-via-then-taken+else-from-written w ↦ let h = w.if-from-written.false in omega arith
  | else-taken-via-else-taken w ↦ let h = next_behind _ _ _ _ _ _ _ _ _ _ _ _ _ c.loop-number.wants (stored_seen c.self.inside _ c.self.view_is c.self.invariant.stored) c.loop-number.invariant.keeping (omega arith) (c.self.invariant.in_order w.if-taken.false) in omega arith
]

pub prove-unreachable-requires-in-loop-number : goal.prove-unreachable-requires-in-loop-number
unfolding from to
prove-unreachable-requires-in-loop-number g c = let h = next_ordered _ _ _ _ _ _ _ _ _ _ _ _ _ c.loop-number.wants (stored_seen c.self.inside _ c.self.view_is c.self.invariant.stored) c.loop-number.invariant.keeping (omega arith) in omega arith

pub prove-unreachable-requires-in-loop-number-2 : goal.prove-unreachable-requires-in-loop-number-2
unfolding from to
prove-unreachable-requires-in-loop-number-2 g c = let h = next_within _ _ _ _ _ _ _ _ _ _ _ _ _ c.loop-number.wants (stored_seen c.self.inside _ c.self.view_is c.self.invariant.stored) c.loop-number.invariant.keeping (omega arith) in omega arith

pub loop-number-preserved-then-from-written : goal.loop-number-preserved-then-from-written
unfolding from
loop-number-preserved-then-from-written g c = record {
  keeping = keeping_over _ _ _ _ _ _ _ _ _ _ _ _ _ c.loop-number.wants (stored_seen c.self.inside _ c.self.view_is c.self.invariant.stored) c.loop-number.invariant.keeping (omega arith) c.if-from-written.true;
  callable = c.loop-number.invariant.callable;
}

pub loop-number-preserved : goal.loop-number-preserved
unfolding from to
loop-number-preserved g c =
    let keeping = c.loop-number.invariant.keeping in
    let stored = stored_seen c.self.inside _ c.self.view_is c.self.invariant.stored in
    record {
      keeping = elim c.if-wants.branch [
        | then-wants w ↦ let copied = w.copy_within.ensures.by_index in rw (w.spans-is, w.words-is, w.kept-is, w.written-is) (keeping_more _ _ _ _ _ _ _ _ _ _ _ _ _ _ stored keeping (omega arith) c.if-prove.false _ _ c.wants.ensures refl _ w.if-wants.true w.copy_within.ensures.len copied.0 copied.1 copied.2)
        | else-wants w ↦ rw (w.spans-is, w.words-is, w.kept-is, w.written-is) (keeping_less _ _ _ _ _ _ _ _ _ _ _ _ _ _ stored keeping (omega arith) c.if-prove.false _ _ c.wants.ensures refl w.if-wants.false)
      ];
      callable = search of_calls;
    }

pub invariant_of-self : goal.invariant_of-self
invariant_of-self g c = record { stored = subst (λ (x : StoreView). Stored x.variables c.loop-number.spans c.loop-number.words c.loop-number.kept c.loop-number.written) (sym c.self.view_is) c.loop-number.invariant.keeping.stored; in_order = λ _. c.loop-number.invariant.keeping.in_order }

pub returns-clause-wanted : goal.returns-clause-wanted
returns-clause-wanted g c =
    let l = formula_long c.self.inside.spans.now c.self.inside.words.now c.self.inside.count in
    rw (← c.self.view_is) (λ o. answered_all _ _ _ _ _ _ (omega arith) (c.loop-number.invariant.keeping.answered (λ j k jk h. o j k jk (omega arith))))

pub returns-clause-in_order : goal.returns-clause-in_order
returns-clause-in_order g c = λ j k jk h. c.loop-number.invariant.keeping.in_order j k jk (omega (arith, h, formula_long c.loop-number.spans c.loop-number.words c.loop-number.kept))

pub returns-clause-some : goal.returns-clause-some
returns-clause-some g c = rw (← c.self.view_is) c.loop-number.invariant.keeping.some

pub returns-clause-fewer : goal.returns-clause-fewer
returns-clause-fewer g c = rw (← c.self.view_is) (omega (arith, formula_long c.self.inside.spans.now c.self.inside.words.now c.self.inside.count, formula_long c.loop-number.spans c.loop-number.words c.loop-number.kept, c.loop-number.invariant.keeping.low))
