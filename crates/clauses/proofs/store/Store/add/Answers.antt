use Rattle.std.proofs.Common.{ℕ, ◌+◌, ◌-◌, ◌*◌, ◌<◌, ◌≤◌, ◌∙◌, List, length, set, refl, arith, rules}
use Rattle.std.proofs.Math.ListN.{length-set}
use Rattle.std.proofs.lemmas.List.{get_or-set_other}
use borrow.Rule.Slice.PartMut.{put_mid}
use Rattle.clauses.specs.Stores.{to, formula, InOrder, Known}
use Rattle.clauses.proofs.Literals.{formula_long}
use Rattle.clauses.proofs.Copies.{Copied, copied_part, added_formula, added_stored, order_more}
use Rattle.clauses.proofs.store.Store.add.Goals as goal

module _ (c : goal.After-self-3-1) where
  abbrev xs : List ℕ
  xs = c.args.clause.now

  known : Known c.self.inside.variables xs
  known = search rules

  copied : Copied xs c.self.inside.used c.self.inside.words.now (put_mid c.self.inside.used (c.self.inside.used + length xs - c.self.inside.used) c.self.inside.words.now c.copy_from_slice.new.self) (length xs)
  copied = copied_part xs c.self.inside.words.now _ c.self.inside.used (omega arith) (search rules)

-- spans in order, of so many clauses as a formula has, are in order with one more behind them
order_added : (spans words words' : List ℕ) (count begin end : ℕ) → 2 * (count + 1) ≤ length spans → ((k : ℕ) → k < count → to spans k ≤ begin) → InOrder spans (length (formula spans words count)) → InOrder (set (set spans (2 * count) begin) (2 * count + 1) end) (length (formula (set (set spans (2 * count) begin) (2 * count + 1) end) words' (count + 1)))
order_added spans words words' count begin end room inside o j k jk l =
    order_more spans count begin end room (λ a b ab h. o a b ab (omega (arith, formula_long spans words count))) inside j k jk (omega (arith, l, formula_long (set (set spans (2 * count) begin) (2 * count + 1) end) words' (count + 1)))

pub invariant_of-self : goal.invariant_of-self
invariant_of-self c = record {
  stored = added_stored _ (xs c) _ _ _ _ _ c.self.invariant.stored (known c) (omega arith) (omega arith) (omega arith) (copied c);
  in_order = λ t. order_more _ _ _ _ (omega arith) (c.self.invariant.in_order t) c.self.invariant.stored.inside;
}

pub returns-then-clause-room-clause-added : goal.returns-then-clause-room-clause-added
returns-then-clause-room-clause-added c = rw (← c.self.view_is) ((λ f. let w = f.words in let s = f.small in omega arith), refl)

pub returns-then-self-clause-added : goal.returns-then-self-clause-added
returns-then-self-clause-added c = rw (← c.self.view_is) ((λ f. let s = f.spans in omega (arith, formula_long c.self.inside.spans.now c.self.inside.words.now c.self.inside.count)), refl)

pub returns-clause-added : goal.returns-clause-added
returns-clause-added c = rw (← c.self.view_is) (record { known = known c; fits = record { spans = let l = formula_long c.self.inside.spans.now c.self.inside.words.now c.self.inside.count in omega arith; words = omega arith; small = omega arith }; formula = added_formula _ (xs c) _ _ _ _ _ c.self.invariant.stored (known c) (omega arith) (omega arith) (omega arith) (copied c); used = refl; memory = record { variables = refl; spans_named = refl; words_named = refl; spans_size = simp length-set refl; words_size = (copied c).long }; spans = λ p h. let n : ℕ = 2 * c.self.inside.count in let l = formula_long c.self.inside.spans.now c.self.inside.words.now c.self.inside.count in get_or-set_other _ (n + 1) p _ 0 (omega arith) ∙ get_or-set_other _ n p _ 0 (omega arith); words = (copied c).before })

pub returns-clause-in_order : goal.returns-clause-in_order
returns-clause-in_order c = rw (← c.self.view_is) (order_added c.self.inside.spans.now c.self.inside.words.now _ c.self.inside.count _ _ (omega arith) c.self.invariant.stored.inside)
