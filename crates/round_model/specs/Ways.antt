-- Which page a page leads to, on the way to a key.
use Rattle.std.specs.Prelude.{◌≡◌, ◌<◌, ◌⊎◌, ℕ, suc, List, Bool, Some, true, false, not, IsTrue}
use Rattle.bw_model.specs.Bytes.{is_below}
use Rattle.base_page.specs.declared.item.Content.TheVariants.{Child}
use Rattle.base_page.specs.Places.{IsGreatest}
use Rattle.deltas.specs.declared.record.Record.{Record}
use Rattle.traces.specs.chain.Chains.{content_in, covers, high_in, level_in, right_in}

-- A page on the way to a key begins at or below the key;
abbrev pub reaches : List ℕ → List ℕ → Bool
reaches key low = not (is_below key low)

-- on the way to the left of a page that begins at the key, below it.
abbrev pub precedes : List ℕ → List ℕ → Bool
precedes key low = is_below low key

-- which low keys are on a way: those below the key, or also the key
abbrev pub passes : Bool → List ℕ → List ℕ → Bool
passes false key = reaches key
passes true key = precedes key

-- The chain names the page on the level and at the low key: as its right, or as a child.
abbrev pub NamesAt : List Record → ℕ → ℕ → List ℕ → Type 0
NamesAt chain page level low =
    ((right_in chain ≡ Some page) × (level_in chain ≡ level) × (high_in chain ≡ Some low))
    ⊎ ((held : Bool) × (level_in chain ≡ suc level) × IsTrue (covers chain low) × (content_in chain low ≡ Some (Child page held)))

-- The page ends on the way, which so goes on at its right, which begins there.
pub record LeadsRight (way : List ℕ → Bool) (chain : List Record) (right : ℕ) : Type 0 where
  pub low : List ℕ
  pub is_right : right_in chain ≡ Some right
  pub is_high : high_in chain ≡ Some low
  pub on_way : IsTrue (way low)

-- The page ends beyond the way, or nowhere.
pub record StaysLeft (way : List ℕ → Bool) (chain : List Record) : Type 0 where
  pub off : (high : List ℕ) → high_in chain ≡ Some high → way high ≡ false

-- The way goes down to the child of the greatest term on it.
pub record LeadsDown (way : List ℕ → Bool) (chain : List Record) (child : ℕ) : Type 0 where
  pub low : List ℕ
  pub held : Bool
  pub covered : IsTrue (covers chain low)
  pub greatest : IsGreatest (content_in chain) way low (Child child held)

-- The way goes on to the page: to the right where the page ends on it, else down from an index page.
abbrev pub LeadsOn : (List ℕ → Bool) → List Record → ℕ → Type 0
LeadsOn way chain page = LeadsRight way chain page ⊎ (StaysLeft way chain × (0 < level_in chain) × LeadsDown way chain page)

-- The way ends at this leaf.
pub record EndsHere (way : List ℕ → Bool) (chain : List Record) : Type 0 where
  pub leaf : level_in chain ≡ 0
  pub stays : StaysLeft way chain
