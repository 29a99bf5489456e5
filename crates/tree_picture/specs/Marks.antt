-- How pages stand to the level above them, as their boxes are marked.
use Rattle.std.specs.Prelude.{◌≡◌, ◌≢◌, ◌++◌, ◌∷◌, ◌⊎◌, [], ℕ, Bool, true, false, List, Option, None, Some}
use Rattle.std.specs.List.{AllZip, Contains}
use Rattle.base_page.specs.declared.item.Content.TheVariants.{Child}
use Rattle.base_page.specs.declared.item.Item.{Item}
use Rattle.base_page.specs.Pages.{content_at}
use Rattle.traces.specs.chain.Chains.{content_in, is_removed}
use Rattle.traces.specs.chain.SideChain.{LivePage}
use Rattle.tree_picture.specs.declared.shape.Mark.{Mark}
use Rattle.tree_picture.specs.declared.shape.Mark.TheVariants.{Termed, Termless, Held, Removed}

-- A page of the level has a term for this PID, held or not.
abbrev pub HasTermOf : List LivePage → ℕ → Bool → Type 0
HasTermOf level pid held = (parent : LivePage) × Contains level parent × (key : List ℕ) × (content_in parent.chain key ≡ Some (Child pid held))

-- A page is marked by the PID in slot 0 and the level above: as removed if it is; else as the root, or one whose term isn't held; as one whose
-- term is held; as one without a term.
abbrev pub IsMarkFor : ℕ → List LivePage → LivePage → Mark → Type 0
IsMarkFor root above page Removed = is_removed page.chain ≡ true
IsMarkFor root above page Termed = (is_removed page.chain ≡ false) × ((page.pid ≡ root) ⊎ HasTermOf above page.pid false)
IsMarkFor root above page Held = (is_removed page.chain ≡ false) × (page.pid ≢ root) × HasTermOf above page.pid true
IsMarkFor root above page Termless = (is_removed page.chain ≡ false) × (page.pid ≢ root) × ((held : Bool) → HasTermOf above page.pid held → ⊥)

-- Each page of some levels has its mark, level by level and from left to right; above the first of them is this level.
abbrev pub AreMarked : ℕ → List LivePage → List (List LivePage) → List Mark → Type 0
AreMarked root above [] marks = marks ≡ []
AreMarked root above (level ∷ levels) marks = (own : List Mark) × (others : List Mark) × (marks ≡ own ++ others) × AllZip (IsMarkFor root above) level own × AreMarked root level levels others

-- The item is the PID's term, held or not; or it isn't a term of it.
abbrev pub IsTermFor : Item → ℕ → Option Bool → Type 0
IsTermFor item pid (Some held) = item.content ≡ Child pid held
IsTermFor item pid None = (held : Bool) → item.content ≡ Child pid held → ⊥

-- the term that is found for a PID, by whether it is held: among items, and on a level
abbrev pub FindsChild : List Item → ℕ → Option Bool → Type 0
FindsChild items pid (Some held) = (key : List ℕ) × (content_at items key ≡ Some (Child pid held))
FindsChild items pid None = (held : Bool) (key : List ℕ) → content_at items key ≡ Some (Child pid held) → ⊥

abbrev pub FindsTerm : List LivePage → ℕ → Option Bool → Type 0
FindsTerm level pid (Some held) = HasTermOf level pid held
FindsTerm level pid None = (held : Bool) → HasTermOf level pid held → ⊥
