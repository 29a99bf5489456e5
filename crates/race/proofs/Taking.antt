-- Laws of what is taken from an input.
use Rattle.std.proofs.Common.{◌≡◌, ℕ, List, [], ◌++◌, Option, Bool, false, not, ◌↔◌, ◌⊎◌}
use Rattle.std.proofs.lemmas.List.{append-nil}
use Rattle.std.specs.Io.KnownBytes.{Consumes}
use Rattle.tree_limits.specs.declared.limits.Limits.{Limits}
use Rattle.byte_streams.specs.Output.{Sink, Prints, Writes}
use Rattle.race.specs.Race.{IsRace, TellsJobs}

-- ---- a whole race

module _ (none_behind : (a b c : Sink) (t u : List ℕ) → Prints a b t → Prints b c u → Prints a c (t ++ u))
    (whole : (a b : Sink) (t : List ℕ) → Prints a b t → a.failed ≡ false → a.held ≡ [] → (b.failed ≡ false → b.held ≡ []) → Writes a.contents b.contents t (not b.failed)) where
  pub is_race : (limits : Limits) (in_old in_new : Option (List ℕ)) (rf : Bool) (a b c : Sink) (taken text : List ℕ) (refused : Bool) (status : ℕ)
      → Consumes in_old in_new taken → TellsJobs in_new limits taken rf text refused → Prints a b text → Prints b c [] → a.failed ≡ false → a.held ≡ [] → (c.failed ≡ false → c.held ≡ [])
      → (status ≡ 0) ↔ ((rf ≡ false) × (c.failed ≡ false) × (refused ≡ false)) → (status ≡ 0) ⊎ (status ≡ 1)
      → IsRace limits in_old in_new rf a.contents c.contents c.failed status
  is_race limits in_old in_new rf a b c taken text refused status reads tells shows last sound fresh ends is either = record {
    taken = taken;
    text = text;
    refused = refused;
    reads = reads;
    tells = tells;
    writes = whole a c text (rw append-nil at (none_behind a b c text [] shows last)) sound fresh ends;
    status_is = is;
    status_else = either;
  }
