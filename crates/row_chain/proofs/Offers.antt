-- What a row says is there, as its items.
use Rattle.row_chain.proofs.Words.{◌≡◌, ◌∷◌, true, refl, if◌then◌else◌, Content, content_at, Record, Delete, Unterm, IsSpellable, items_said, content_in}
use Rattle.std.proofs.Common.{ℕ, List, [], Bool, None}
use Rattle.std.specs.Prelude.{Option, false}
use Rattle.deltas.specs.declared.record.Record.TheVariants.{Split, Merge}
use Rattle.row_chain.proofs.WalkLaws.{in_range}

-- nothing is said, whether or not the key is named
nothing : (b : Bool) → ◌≡◌ {A = Option Content} (if b then None else None) None
nothing true = refl
nothing false = refl

pub by_items : (row : Record) (q : List ℕ) → IsSpellable row → content_in (row ∷ []) q ≡ content_at (items_said row) q
by_items (Delete delete) q h = nothing _
by_items (Split split) q h = nothing _
by_items (Merge merge) q h = in_range _ h.3.ruled.is_page q
by_items (Unterm unterm) q h = nothing _
by_items other q h = refl
