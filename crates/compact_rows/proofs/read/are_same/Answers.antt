use Rattle.compact_rows.proofs.Words.{Bool, true, false, refl}
use Rattle.std.proofs.Common.{rules, MatchBool}
use Rattle.std.specs.Bool.{Decides}
use Rattle.std.proofs.lemmas.Slice.Eq.{slice_eq-Decides}
use Rattle.compact_rows.proofs.read.are_same.Goals as goal

decided : {P : Type 0} (r : Bool) → Decides r P → MatchBool r P (P → ⊥)
decided true d = d.0 refl
decided false d = λ p. cc (d.1 p)

pub returns : goal.returns
returns c = decided c.eq.result (slice_eq-Decides (λ a b. search rules) c.args.one.now c.args.other.now c.eq.result c.eq.ensures)
