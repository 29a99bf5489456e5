use Rattle.std.proofs.Common.{◌≡◌, ◌<◌, ℕ, Bool}
use Rattle.std.specs.Prelude.{slice_index_or}
use Rattle.base_page.specs.declared.item.Content.TheVariants.{Child}
use Rattle.base_page.specs.declared.item.Item.{Item}
use Rattle.tree_picture.proofs.links.term_in.Given as goal

abbrev pub invariant-loop-item : goal.invariant-loop-item
invariant-loop-item l = (place : ℕ) (d : Item) → place < l.item-index → (held : Bool) → (slice_index_or l.items place d).content ≡ Child l.pid held → ⊥
