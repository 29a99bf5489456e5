-- The opening words with a view of all actors keep the rule.
use Rattle.table_rule.proofs.Words.{AreWordsOf, Bool, Each, Entry, HasSpelling, IsSettled, IsSpelledRow, Limits, List, None, Part, PartFits, Record, Running}
use Rattle.table_rule.proofs.Words.{Some, ap, arith, compact_words, dite, eq-eqb, eqb, eqb-true, extends_self, false, get_elem?, if◌then◌else◌, length, ne_eqb}
use Rattle.table_rule.proofs.Words.{one_width, refl, same_Some, some, some-injective, some-ne-none, some_words, stored, subst, suc, sym, times, true, width_of}
use Rattle.table_rule.proofs.Words.{zero, ℕ, ℕ_discrete, [], ◌+◌, ◌<◌, ◌∷◌, ◌≡◌, ◌≢◌, ◌≤◌}
use Rattle.std.specs.List.Sorted.{IsStrictlySortedBy}
use Rattle.std.proofs.lemmas.List.Elements.{All-nil}
use Rattle.atomic_table.specs.Table.{opening}
use Rattle.base_page.specs.Pages.{IsAscending, empty_leaf}
use Rattle.deltas.specs.declared.record.Record.TheVariants.{Base}
use Rattle.deltas.specs.Memory.{opening as memory_opening}
use Rattle.deltas.specs.Spellable.{IsSpellablePage}
use Rattle.record_slots.specs.Spelling.{words_of}
use Rattle.record_slots.proofs.SpellingLaws.{spelling_length}
use Rattle.table_rule.specs.Views.{dealt, dealt_from}
use Rattle.table_rule.proofs.Parts.{mark, spells_views}

mark_most : (b : Bool) → mark b ≤ 1
mark_most true = omega arith
mark_most false = omega arith

empty_ascends : IsAscending []
unfolding IsStrictlySortedBy
empty_ascends = tt

empty_is_spellable : IsSpellablePage empty_leaf
empty_is_spellable = record {
  ruled = record {
    is_page = record { spans = refl; ordered = record { few = omega arith; ascending = empty_ascends }; within = All-nil _; kinds = All-nil _ };
    ends = refl;
    top = omega arith;
    terms = λ h. absurd (omega arith);
  };
  alive = refl;
  right = tt;
  children = All-nil _;
}

empty_is_spelt : HasSpelling (Base empty_leaf)
empty_is_spelt = record { spellable = empty_is_spellable; short = (record { short = omega arith; bytes_fit = tt }, tt, All-nil _); are = refl }

at_least : (first actor : ℕ) → first ≤ actor → first ≢ actor → suc first ≤ actor
at_least first actor from ne = omega (arith, from, ne)

module _ (limits : Limits) where
  dealt_above : (actor first n : ℕ) → actor < first → times actor (dealt_from limits first n) ≡ 0
  dealt_above actor first zero above = refl
  dealt_above actor first (suc n) above =
      let rest = dealt_above actor (suc first) n (omega arith) in
      let none : mark (eqb first actor) ≡ 0 = ap mark (ne_eqb first actor (λ e. absurd (omega arith))) in omega arith

  dealt_once : (actor first n : ℕ) → times actor (dealt_from limits first n) ≤ 1
  dealt_once actor first zero = omega arith
  dealt_once actor first (suc n) = dite (ℕ_discrete first actor)
      (λ e. let rest = dealt_above actor (suc first) n (omega arith) in let one = mark_most (eqb first actor) in omega arith)
      (λ ne. let rest = dealt_once actor (suc first) n in let none : mark (eqb first actor) ≡ 0 = ap mark (ne_eqb first actor ne) in omega arith)

  dealt_all : (actor first n : ℕ) → first ≤ actor → actor < first + n → 1 ≤ times actor (dealt_from limits first n)
  dealt_all actor first zero from below = absurd (omega arith)
  dealt_all actor first (suc n) from below = dite (ℕ_discrete first actor)
      (λ e. let one : mark (eqb first actor) ≡ 1 = ap mark (eq-eqb first actor e) in omega arith)
      (λ ne. let rest = dealt_all actor (suc first) n (at_least first actor from ne) (omega arith) in omega arith)

  dealt_fits : (words : List ℕ) (first n : ℕ) → first + n ≤ limits.actors → Each (PartFits limits words []) (dealt_from limits first n)
  dealt_fits words first zero below = tt
  dealt_fits words first (suc n) below = (record { extends = extends_self first []; reach = tt; there = omega arith; own_limits = refl }, dealt_fits words (suc first) n (omega arith))

  leaf_fills : length (stored limits (Base empty_leaf)) ≤ width_of limits 1
  leaf_fills = by limits.is_large refl
    where
      by : (large : Bool) → limits.is_large ≡ large → length (if large then compact_words (Base empty_leaf) else words_of (Base empty_leaf)) ≤ width_of limits 1
      by true e = let long : length (compact_words (Base empty_leaf)) ≡ 2 = refl in let some = some_words limits 1 in omega (arith, long, some)
      by false e = let long = spelling_length (Base empty_leaf) (words_of (Base empty_leaf)) empty_is_spelt in let wide = (one_width limits e 1).1 in omega (arith, long, wide)

  opening_kept : (row : ℕ) (content : Record) → (memory_opening limits).rows row ≡ Some content → IsSpelledRow limits row content
  opening_kept row content e = go (eqb row 1) refl e
    where
      go : (b : Bool) → eqb row 1 ≡ b → (if b then Some (Base empty_leaf) else None) ≡ Some content → IsSpelledRow limits row content
      go true is e =
          let one : row ≡ 1 = eqb-true row 1 is in
          record {
            there = omega (arith, limits.allowed.some_rows);
            spelling = subst HasSpelling (same_Some (Base empty_leaf) content e) empty_is_spelt;
            fills = rw one (rw (← same_Some (Base empty_leaf) content e) leaf_fills);
          }
      go false is e = cc

  pub opens : (law : List Entry → Type 0) (words : List ℕ) → AreWordsOf limits (memory_opening limits) words → law [] → Running limits law (opening words [] (dealt limits))
  opens law words are legal = record {
    run = [];
    legal = legal;
    wide = are.wide;
    spells = spells_views limits words (memory_opening limits) (λ _. Unit {0}) (IsSettled (dealt limits ∷ [])) (λ row _. tt) are.spells;
    kept = opening_kept;
    begins = tt;
    actors = tt;
    once = λ actor. let o = dealt_once actor 0 limits.actors in omega arith;
    somewhere = λ actor below. let o = dealt_all actor 0 limits.actors (omega arith) (omega (arith, below)) in omega arith;
    each = only;
  } where
    only : (id : ℕ) (view : List Part) → get_elem? (dealt limits ∷ []) id ≡ some view → Each (PartFits limits words []) view
    only zero view at = rw (← some-injective _ _ at) (dealt_fits words 0 limits.actors (omega arith))
    only (suc id) view at = absurd (some-ne-none view (sym at))
