-- When a parent may get the term of a page.
use Rattle.std.specs.Prelude.{◌≡◌, suc, None, false, IsTrue}
use Rattle.deltas.specs.declared.record.Record.TheVariants as kind
use Rattle.deltas.specs.declared.record.Term.{Term}
use Rattle.traces.specs.chain.Chains.{content_in, covers, is_removed, level_in, low_in}
use Rattle.traces.specs.discipline.Discipline.{FitsOn}
use Rattle.structure_changes.specs.Versions.{Version}
use Rattle.structure_changes.specs.Sizes.{HasFewDeltas, HasFewItems}

-- Neither is removed; the parent is one level up, has the page's low key in its range and no term there, fewer than 8 deltas and
-- fewer than 16 items.
pub record CanPost (parent page : Version) : Type 0 where
  pub above : is_removed parent.chain ≡ false
  pub alive : is_removed page.chain ≡ false
  pub level : level_in parent.chain ≡ suc (level_in page.chain)
  pub covered : IsTrue (covers parent.chain (low_in page.chain))
  pub absent : content_in parent.chain (low_in page.chain) ≡ None
  pub short : HasFewDeltas parent.chain
  pub roomy : HasFewItems parent.chain

-- the term of the page, over the parent
abbrev pub term_of : Version → Version → Term
term_of parent page = record { level = level_in parent.chain; next = parent.head; separator = low_in page.chain; child = page.pid }

-- The parent may get the term, which fits it.
pub record IsTermPlan (parent page : Version) (term : Term) : Type 0 where
  pub can : CanPost parent page
  pub is : term ≡ term_of parent page
  pub fits : FitsOn parent.chain (kind.Term term)
