-- A store that grows, step by step.
use Rattle.std.proofs.Common.{◌≡◌, ℕ, ◌+◌, List, [], ◌∷◌, ◌++◌, length, refl, sym, ap, ◌∙◌, subst, append_assoc, append-nil, arith}
use Rattle.std.proofs.Math.ListN.{length-append}
use Rattle.clauses.specs.Views.{StoreView}
use Rattle.clauses.specs.Stores.{SameMemory, Added, Grown}

pub memory_same : (s : StoreView) → SameMemory s s
memory_same s = record { variables = refl; spans_named = refl; words_named = refl; spans_size = refl; words_size = refl }

pub memory_on : (s t u : StoreView) → SameMemory s t → SameMemory t u → SameMemory s u
memory_on s t u a b =
    record {
      variables = b.variables ∙ a.variables;
      spans_named = b.spans_named ∙ a.spans_named;
      words_named = b.words_named ∙ a.words_named;
      spans_size = b.spans_size ∙ a.spans_size;
      words_size = b.words_size ∙ a.words_size;
    }

pub grown_none : (s : StoreView) → Grown s s
grown_none s = record { memory = memory_same s; spans = λ p h. refl; words = λ p h. refl; used = omega arith; more = []; formula = sym (append-nil s.formula) }

pub grown_same : (s t : StoreView) → t ≡ s → Grown s t
grown_same s t e = subst (Grown s) (sym e) (grown_none s)

pub grown_by : (c : List ℕ) (s t : StoreView) → Added c s t → Grown s t
grown_by c s t a = record { memory = a.memory; spans = a.spans; words = a.words; used = omega (arith, a.used); more = c ∷ []; formula = a.formula }

pub grown_on : (s t u : StoreView) → Grown s t → Grown t u → Grown s u
grown_on s t u a b =
    let l : length s.formula + length a.more ≡ length t.formula = sym (ap length a.formula ∙ length-append s.formula a.more) in
    record {
      memory = memory_on s t u a.memory b.memory;
      spans = λ p h. b.spans p (omega arith) ∙ a.spans p h;
      words = λ p h. b.words p (omega (arith, a.used)) ∙ a.words p h;
      used = omega (arith, a.used, b.used);
      more = a.more ++ b.more;
      formula = b.formula ∙ ap (λ f. f ++ b.more) a.formula ∙ append_assoc s.formula a.more b.more;
    }
