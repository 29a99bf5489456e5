-- The items that a record says are there, by its kind and its parts.
use Rattle.std.proofs.Common.{◌≡◌, ◌==◌, ◌<◌, ◌+◌, ◌%◌, ℕ, zero, suc, Bool, true, false, List, [], ◌∷◌, length, get_or, take, drop, refl, sym, ap, subst, ◌∙◌, arith}
use Rattle.std.specs.Prelude.{Some, not}
use Rattle.row_search.proofs.Words.{is_eq, Less, Equal, Greater, key_cmp, Child, Item, AreItems, child_in, IsAt, IsGap, IsAscending-from, below, same, Record, first_at, held_mark, text_size}
use Rattle.row_search.proofs.Words.{items_of, row_of, IsSpelling, IsText}
use Rattle.deltas.specs.declared.record.Record.TheVariants.{Put, Term, Hold}
use Rattle.row_search.specs.Items.{is_term, items_said, may_take}
use Rattle.row_search.proofs.RowTexts.{first_text}

-- which kinds are terms, and which may take a key away

pub term_kind : (content : Record) → (row_of content).kind ≡ 5 → true ≡ is_term content
term_kind (Term term) e = refl
term_kind content e = absurd (omega arith)

pub hold_kind : (content : Record) → ((row_of content).kind ≡ 5 → ⊥) → ((row_of content).kind == 6) ≡ is_term content
hold_kind (Term term) e = absurd (e refl)
hold_kind content e = refl

pub put_keeps : (content : Record) → (row_of content).kind ≡ 2 → false ≡ may_take content
put_keeps (Put put) e = refl
put_keeps content e = absurd (omega arith)

pub others_take : (content : Record) → ((row_of content).kind ≡ 2 → ⊥) → not (is_term content) ≡ may_take content
others_take (Put put) e = absurd (e refl)
others_take content e = refl

-- the items of a record that is no term stand in it, and a term has one

pub standing : (content : Record) → is_term content ≡ false → items_said content ≡ items_of content
standing (Term term) e = cc
standing (Hold hold) e = cc
standing content e = refl

abbrev one : Record → Bool → Item
one content held = record { key = (row_of content).first; content = Child (row_of content).page held }

pub single : (content : Record) → is_term content ≡ true → (held : Bool) × (items_said content ≡ one content held ∷ [])
single (Term term) e = (false, refl)
single (Hold hold) e = (true, refl)
single content e = cc

first_alone : (item d : Item) (place : ℕ) → place < length (item ∷ []) → get_or (item ∷ []) place d ≡ item
first_alone item d zero h = refl
first_alone item d (suc place) h = absurd (omega arith)

module _ (content : Record) (e : is_term content ≡ true) where
  abbrev mark : Bool
  mark = (single content e).0

  is : items_said content ≡ one content mark ∷ []
  is = (single content e).1

  pub one_there : (place : ℕ) (d : Item) → place < length (items_said content) → get_or (items_said content) place d ≡ one content mark
  one_there place d within = ap (λ (items : List Item). get_or items place d) is ∙ first_alone (one content mark) d place (rw is at within)

  pub one_child : (place : ℕ) (d : Item) → place < length (items_said content) → Some (row_of content).page ≡ child_in (Some (get_or (items_said content) place d).content)
  one_child place d within = ap (λ (item : Item). child_in (Some item.content)) (sym (one_there place d within))

  pub are_one : AreItems (items_said content)
  are_one = subst AreItems (sym is) (record { few = omega arith; ascending = IsAscending-from (one content mark ∷ []) (tt, tt) })

  module _ (key : List ℕ) where
    pub behind_it : Less ≡ key_cmp (row_of content).first key → IsGap (items_said content) key 1
    behind_it h = rw is (record { within = omega arith; below = (sym h, tt); above = tt })

    pub at_it : Equal ≡ key_cmp (row_of content).first key → IsAt (items_said content) key 0
    at_it h = rw is (record { within = omega arith; found = λ d. same (row_of content).first key (sym (ap is_eq h)) })

    pub before_it : Greater ≡ key_cmp (row_of content).first key → IsGap (items_said content) key 0
    before_it h = rw is (record { within = omega arith; below = tt; above = (below (row_of content).first key (sym h), tt) })

  pub one_text : (words : List ℕ) → IsSpelling content words → (place : ℕ) (d : Item) → place < length (items_said content)
      → IsText (get_or words first_at 0 % held_mark) (take text_size (drop (first_at + 1) words)) (get_or (items_said content) place d).key
  one_text words spelled place d within =
      let text = first_text words content spelled in
      let counts = text.counts in
      let short = text.short.short in
      let small : get_or words first_at 0 ≡ get_or words first_at 0 % held_mark = omega (arith, counts, short) in
      rw (← small)
      (rw (one_there place d within) text)
