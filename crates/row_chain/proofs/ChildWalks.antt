-- The child of the greatest term that a walk finds.
use Rattle.row_chain.proofs.Words.{◌≡◌, ◌<◌, ◌++◌, true, refl, sym, ap, ◌∙◌, arith, MatchOption, is_below, Content, Child, IsGreatest, belongs, Record, content_in, IsFitted, page_of}
use Rattle.row_chain.proofs.Words.{ruled, is_left, IsGreatestKey}
use Rattle.std.proofs.Common.{ℕ, List, Bool, false, Option, Some, None}
use Rattle.base_page.specs.declared.item.Content.TheVariants.{Value}
use Rattle.base_page.specs.Pages.{child_in}
use Rattle.base_page.specs.Places.{IsGreatestChild, HasNoChild}
use Rattle.base_page.proofs.KeyLaws.{not_true}
use Rattle.row_chain.proofs.WalkLaws.{kept}

no_child : (o : Option Content) → ((child : ℕ) (held : Bool) → o ≡ Some (Child child held) → ⊥) → child_in o ≡ None
no_child None f = refl
no_child (Some (Value value)) f = refl
no_child (Some (Child child held)) f = absurd (f child held refl)

-- the best key so far, and the child that the records have at it
abbrev pub IsBest : (List ℕ → Option Content) → (List ℕ → Bool) → Option (List ℕ) → Option ℕ → Type 0
IsBest contents passes best child = IsGreatestKey contents passes best × MatchOption best (child ≡ None) (λ key. child ≡ child_in (contents key))

pub best_new : (records : List Record) (passes : List ℕ → Bool) (key : List ℕ) (content : Content) (child : Option ℕ)
    → IsGreatest (content_in records) passes key content → child ≡ child_in (Some content)
    → IsBest (content_in records) passes (Some key) child
best_new records passes key content child g e = ((content, g), e ∙ ap child_in (sym g.has))

pub best_kept : (newer older : List Record) (passes : List ℕ → Bool) (best : Option (List ℕ)) (child : Option ℕ) → IsBest (content_in newer) passes best child
    → IsGreatestKey (content_in (newer ++ older)) passes best → IsBest (content_in (newer ++ older)) passes best child
best_kept newer older passes None child b g = (g, b.1)
best_kept newer older passes (Some key) child b g = (g, b.1 ∙ ap child_in (b.0.1.has ∙ sym (kept newer older key b.0.0 b.0.1.has)))

-- A key at the bound is the greatest, whatever is under the records.
pub at_bound : (front rest : List Record) (below : Bool) (bound key : List ℕ) (content : Content) → below ≡ false → key ≡ bound
    → IsGreatest (content_in front) (is_left below bound) key content → IsGreatest (content_in (front ++ rest)) (is_left below bound) key content
at_bound front rest true bound key content e is g = cc
at_bound front rest false bound key content e is g = record {
  has = kept front rest key content g.has;
  passing = g.passing;
  greatest = λ other pass some. rw is (not_true (is_below bound other) pass);
}

module _ (chain : List Record) (fitted : IsFitted chain) where
  -- where one key has a value, no key has a child
  one_kind : (key q value : List ℕ) (child : ℕ) (held : Bool) → content_in chain key ≡ Some (Value value) → content_in chain q ≡ Some (Child child held) → ⊥
  one_kind key q value child held a b =
      let made = page_of chain fitted in
      let is = (ruled chain made.0 fitted made.1).is_page in
      let leaf : made.0.level ≡ 0 = (belongs made.0 is key (Value value) (made.1.items.contents key ∙ a)).kind in
      let index : 0 < made.0.level = (belongs made.0 is q (Child child held) (made.1.items.contents q ∙ b)).kind in
      omega (arith, leaf, index)

  -- the child at the greatest key that passes
  child_at_greatest : (passes : List ℕ → Bool) (key : List ℕ) (content : Content) → IsGreatest (content_in chain) passes key content
      → MatchOption (child_in (Some content)) (HasNoChild (content_in chain) passes) (IsGreatestChild (content_in chain) passes)
  child_at_greatest passes key (Value value) g = record { none = λ q pass. no_child (content_in chain q) (λ child held e. one_kind key q value child held g.has e) }
  child_at_greatest passes key (Child child held) g = record { separator = key; held = held; greatest = g }

  pub child_found : (passes : List ℕ → Bool) (key : List ℕ) (content : Content) (child : Option ℕ) → IsGreatest (content_in chain) passes key content → child ≡ child_in (Some content)
      → MatchOption child (HasNoChild (content_in chain) passes) (IsGreatestChild (content_in chain) passes)
  child_found passes key content child g e =
      rw e (child_at_greatest passes key content g)

  pub child_best : (passes : List ℕ → Bool) (best : Option (List ℕ)) (child : Option ℕ) → IsBest (content_in chain) passes best child
      → MatchOption child (HasNoChild (content_in chain) passes) (IsGreatestChild (content_in chain) passes)
  child_best passes None child b =
      rw b.1 (record { none = λ q pass. ap child_in (b.0 q pass) })
  child_best passes (Some key) child b = child_found passes key b.0.0 child b.0.1 (b.1 ∙ ap child_in b.0.1.has)
