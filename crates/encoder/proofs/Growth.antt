-- Circuits that grow, and what was said of them before.
use Rattle.std.proofs.Common.{ℕ, List, arith}
use Rattle.descriptions.specs.Meaning.{Expression, Sentence}
use Rattle.gates.specs.declared.circuit.Circuit.{Circuit}
use Rattle.gates.specs.Circuits.{GrewC, Claims}
use Rattle.gates.proofs.Gates.{goes_fewer}
use Rattle.gates.proofs.Claims.{goes_unclaimed}
use Rattle.tables.proofs.Filling.{filled_still}
use Rattle.encoder.specs.Encoding.{ShowsE, Means}

-- what a table shows and a literal means, they go on to
pub shows_still : (relations things : ℕ) (v : List ℕ) (c d : Circuit) (t : List ℕ) (e : Expression) → GrewC c d → ShowsE relations things v c t e → ShowsE relations things v d t e
shows_still relations things v c d t e g s = record { filled = filled_still g s.filled; is = λ α o. s.is α (goes_fewer g α o) }

pub means_still : (relations things : ℕ) (v : List ℕ) (c d : Circuit) (l : ℕ) (e : Sentence) → GrewC c d → Means relations things v c l e → Means relations things v d l e
means_still relations things v c d l e g s = record { low = omega (arith, s.low, g.same, g.more); is = λ α o. s.is α (goes_fewer g α o) }

pub means_claimed : (relations things : ℕ) (v : List ℕ) (c d : Circuit) (l m n o : ℕ) (e : Sentence) → Claims c m n o d → Means relations things v c l e → Means relations things v d l e
means_claimed relations things v c d l m n o e k s = record { low = omega (arith, s.low, k.base, k.count); is = λ α z. s.is α (goes_unclaimed c m n o d k α z) }
