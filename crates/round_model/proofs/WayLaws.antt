-- Which page is on the way.
use Rattle.round_model.proofs.Words.{◌≡◌, ◌<◌, ◌-◌, ◌⊎◌, inl, inr, ℕ, List, [], ◌∷◌, Bool, true, false, Option, Some, None, sym, ap, ◌∙◌, refl, arith, Limits, not_true, Record, content_in}
use Rattle.round_model.proofs.Words.{covers, high_in, level_in, low_in, right_in, NamesChild, IsFitted, NamesPages, LeadsDown, LeadsOn, LeadsRight, NamesAt, StaysLeft, reaches}
use Rattle.std.specs.Prelude.{is_some, not, IsTrue, MatchOption}
use Rattle.bw_model.specs.Bytes.{is_below, is_in_range}
use Rattle.base_page.specs.Places.{IsGreatestChild}
use Rattle.round_model.proofs.PageLaws.{covered, ends}

pub goes_down : (way : List ℕ → Bool) (chain : List Record) (child : ℕ) → IsFitted chain → IsGreatestChild (content_in chain) way child → LeadsDown way chain child
goes_down way chain child fit h = record { low = h.separator; held = h.held; covered = covered chain h.separator _ fit h.greatest.has; greatest = h.greatest }

pub goes_right : (way : List ℕ → Bool) (chain : List Record) (high : List ℕ) (right : Option ℕ) → IsFitted chain → high_in chain ≡ Some high → IsTrue (way high) → right ≡ right_in chain
    → MatchOption right (StaysLeft way chain) (LeadsRight way chain)
goes_right way chain high None fit at on is = let none : Option ℕ = None in let some : is_some none ≡ true = ap is_some is ∙ ends chain fit ∙ ap is_some at in cc
goes_right way chain high (Some right) fit at on is = record { low = high; is_right = sym is; is_high = at; on_way = on }

-- the page to which the way leads is named at a place

pub right_names : (way : List ℕ → Bool) (chain : List Record) (page : ℕ) (h : LeadsRight way chain page) → NamesAt chain page (level_in chain) h.low
right_names way chain page h = inl (h.is_right, refl, h.is_high)

pub down_names : (way : List ℕ → Bool) (chain : List Record) (page : ℕ) → 0 < level_in chain → (h : LeadsDown way chain page) → NamesAt chain page (level_in chain - 1) h.low
down_names way chain page index h = inr (h.held, omega (arith, index), h.covered, h.greatest.has)

-- what is named at a place is the right or a child
pub named_of : (chain : List Record) (page level : ℕ) (low : List ℕ) → NamesAt chain page level low → (right_in chain ≡ Some page) ⊎ NamesChild chain page
named_of chain page level low h = elim h [ inl right ↦ inl right.0 | inr child ↦ inr (level, low, child.0, child.1, child.2, child.3) ]

-- where the way leads, there may be a page

pub named_within : (limits : Limits) (chain : List Record) (page level : ℕ) (low : List ℕ) → NamesPages limits chain → NamesAt chain page level low → (0 < page) × (page < limits.pids)
named_within limits chain page level low names h = elim h [
  | inl right ↦ names.right page right.0
  | inr child ↦ names.child level page low child.0 child.1 child.2 child.3
]

pub right_within : (limits : Limits) (way : List ℕ → Bool) (chain : List Record) (page : ℕ) → NamesPages limits chain → LeadsRight way chain page → (0 < page) × (page < limits.pids)
right_within limits way chain page names h = named_within limits chain page (level_in chain) h.low names (right_names way chain page h)

pub down_within : (limits : Limits) (way : List ℕ → Bool) (chain : List Record) (page : ℕ) → NamesPages limits chain → 0 < level_in chain → LeadsDown way chain page → (0 < page) × (page < limits.pids)
down_within limits way chain page names index h = named_within limits chain page (level_in chain - 1) h.low names (down_names way chain page index h)

pub on_within : (limits : Limits) (way : List ℕ → Bool) (chain : List Record) (page : ℕ) → NamesPages limits chain → LeadsOn way chain page → (0 < page) × (page < limits.pids)
on_within limits way chain page names h = elim h [
  | inl right ↦ right_within limits way chain page names right
  | inr down ↦ down_within limits way chain page names down.1 down.2
]

-- nothing is below the empty key
pub lowest : (key : List ℕ) → IsTrue (reaches key [])
lowest [] = refl
lowest (x ∷ xs) = refl

pub negated : (b : Bool) → not b ≡ false → b ≡ true
negated true h = refl
negated false h = cc

-- a key that the page reaches, and that its end doesn't reach, is in the range
pub in_range : (low : List ℕ) (high : Option (List ℕ)) (key : List ℕ) → is_below key low ≡ false → ((end : List ℕ) → high ≡ Some end → reaches key end ≡ false) → IsTrue (is_in_range low high key)
in_range low None key e f = rw e refl
in_range low (Some end) key e f = rw e (negated (is_below key end) (f end refl))

pub covers_here : (key : List ℕ) (chain : List Record) → IsTrue (reaches key (low_in chain)) → StaysLeft (reaches key) chain → IsTrue (covers chain key)
covers_here key chain reached stays = in_range (low_in chain) (high_in chain) key (not_true (is_below key (low_in chain)) reached) stays.off
