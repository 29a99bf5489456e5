-- When the term of a page that was merged may go.
use Rattle.std.specs.Prelude.{◌≡◌, Some, true, false, IsTrue, IsFalse, IfSome}
use Rattle.bw_model.specs.Bytes.{is_below}
use Rattle.base_page.specs.declared.item.Content.TheVariants.{Child}
use Rattle.deltas.specs.declared.record.Record.TheVariants as kind
use Rattle.deltas.specs.declared.record.Unterm.{Unterm}
use Rattle.traces.specs.chain.Chains.{content_in, high_in, is_removed, level_in, low_in}
use Rattle.traces.specs.discipline.Discipline.{FitsOn}
use Rattle.structure_changes.specs.Versions.{Version}
use Rattle.structure_changes.specs.Neighbours.{IsNextTo}
use Rattle.structure_changes.specs.Sizes.{HasFewDeltas}

-- A page that isn't removed begins below the removed page's low key and ends at or above it, or nowhere, and the removed page
-- isn't the next one. The parent isn't removed, and has the removed page's term held, and fewer than 8 deltas.
pub record CanUnterm (parent left removed : Version) : Type 0 where
  pub standing : is_removed parent.chain ≡ false
  pub alive : is_removed left.chain ≡ false
  pub above : IsTrue (is_below (low_in left.chain) (low_in removed.chain))
  pub within : IfSome (high_in left.chain) (λ high. IsFalse (is_below high (low_in removed.chain)))
  pub apart : ¬ IsNextTo left removed
  pub held : content_in parent.chain (low_in removed.chain) ≡ Some (Child removed.pid true)
  pub short : HasFewDeltas parent.chain
  pub gone : is_removed removed.chain ≡ true

-- the unterm of the removed page, over the parent
abbrev pub unterm_of : Version → Version → Unterm
unterm_of parent removed = record { level = level_in parent.chain; next = parent.head; separator = low_in removed.chain; child = removed.pid }

-- The parent may get the unterm, which fits it.
pub record IsUntermPlan (parent left removed : Version) (unterm : Unterm) : Type 0 where
  pub can : CanUnterm parent left removed
  pub is : unterm ≡ unterm_of parent removed
  pub fits : FitsOn parent.chain (kind.Unterm unterm)
