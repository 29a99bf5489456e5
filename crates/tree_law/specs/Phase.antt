-- The life of a page: nobody's, an actor's own, in the tree at a level and a low key, or cleared.
use Rattle.std.specs.Prelude.{ℕ, Option, Some, None, Bool, true, false}
use Rattle.base_page.specs.declared.item.Content.{Content}
use Rattle.base_page.specs.declared.item.Content.TheVariants.{Value, Child}
use Rattle.tree_law.specs.Keys.{Key}

pub data Stage : Type 0 where
  Fresh : Stage  -- on its side chain, without a term
  Indexed : Stage  -- its parent has its term
  Held : Stage  -- with its term held
  Removed : Stage  -- its chain has a Remove
  Merged : Stage  -- on no side chain, its term still held

pub data PageOwner : Type 0 where
  Nobody : PageOwner
  Keeps : (actor : ℕ) → PageOwner
  Placed : (stage : Stage) (level : ℕ) (low : Key) → PageOwner
  Cleared : (actor level : ℕ) (low : Key) → PageOwner

-- the term that the index has for a page at this stage
abbrev pub mark : Stage → ℕ → Option Content
mark Fresh q = None
mark Indexed q = Some (Child q false)
mark Held q = Some (Child q true)
mark Removed q = Some (Child q true)
mark Merged q = Some (Child q true)

abbrev pub stage_removed : Stage → Bool
stage_removed Fresh = false
stage_removed Indexed = false
stage_removed Held = false
stage_removed Removed = true
stage_removed Merged = true

abbrev pub rank : Stage → ℕ
rank Fresh = 0
rank Indexed = 1
rank Held = 2
rank Removed = 3
rank Merged = 4

-- the child that a term names; a value names none, and no page 0 is ever in the tree
abbrev pub child_of : Content → ℕ
child_of (Child q held) = q
child_of (Value v) = 0

-- how far a page is whose term is this
abbrev pub rank_of : Content → ℕ
rank_of (Child q false) = 1
rank_of (Child q true) = 2
rank_of (Value v) = 5
