-- A small leaf that is neither removed nor held is kept back by the page above it.
use Rattle.std.proofs.Common.{◌≡◌, ◌≢◌, ◌<◌, ◌≤◌, ◌||◌, ◌&&◌, ◌⊎◌, inl, inr, ℕ, zero, suc, List, [], ◌∷◌, length, Bool, true, false, Option, Some, None, refl, sym, ap, ◌∙◌, arith}
use Rattle.op_machine.proofs.Words.{nat_lt, IfSome, IsTrue, is_eq, nat_tests, Command, Limits, Child, Item, content_in, is_removed, low_in, IsFitted, Makes, Knowledge, Recalled, ruled}
use Rattle.op_machine.proofs.Words.{Version, IsIdleFor, tidies}
use Rattle.base_page.specs.Pages.{Page}
use Rattle.base_page.specs.Rules.{IsFirstAt, IsRuled, held_count, is_held}
use Rattle.base_page.proofs.KeyLaws.{itself}
use Rattle.traces.specs.discipline.Discipline.{IsHeldBack}
use Rattle.traces.specs.chain.HeldBack.{HoldsBack, begins_at, has_held_neighbour}
use Rattle.round_model.specs.WriteRounds.{IsTermed, IsUpper}
use Rattle.structure_changes.specs.Holds.{CanHold, HasFreeNeighbours}
use Rattle.structure_changes.specs.Upkeep.{IsIdle, IsSmall}
use Rattle.structure_changes.proofs.Places.{from_made, index_at, made}
use Rattle.std.proofs.lemmas.Bool.{or_parts}

not_both : (a b : Bool) → (a && b) ≡ false → a ≡ true → b ≡ false
not_both true b h first = h
not_both false b h first = cc

-- the first item has the key that it has
begins : (key : List ℕ) (item : Item) → item.key ≡ key → begins_at key (item ∷ []) ≡ true
begins key item e = rw e (ap is_eq (itself key))

-- where none of the neighbours is held
none_beside : (key : List ℕ) (item next : Item) (items : List Item) → has_held_neighbour key (item ∷ next ∷ items) ≡ false
    → (item.key ≡ key → is_held next.content ≡ false) × (next.key ≡ key → is_held item.content ≡ false) × (has_held_neighbour key (next ∷ items) ≡ false)
none_beside key item next items none =
    let one = begins_at key (item ∷ []) && is_held next.content in
    let other = begins_at key (next ∷ []) && is_held item.content in
    let last = or_parts (one || other) (has_held_neighbour key (next ∷ items)) none in
    let both = or_parts one other last.0 in (
      (λ at. not_both (begins_at key (item ∷ [])) (is_held next.content) both.0 (begins key item at)),
      (λ at. not_both (begins_at key (next ∷ [])) (is_held item.content) both.1 (begins key next at)),
      last.1,
    )

free_neighbours : (key : List ℕ) (items : List Item) → has_held_neighbour key items ≡ false → HasFreeNeighbours key items
free_neighbours key [] none place lt = absurd (omega (arith, lt))
free_neighbours key (item ∷ []) none place lt = absurd (omega (arith, lt))
free_neighbours key (item ∷ next ∷ items) none zero lt = let here = none_beside key item next items none in ((λ at d. here.0 (at item)), (λ at d. here.1 (at next)))
free_neighbours key (item ∷ next ∷ items) none (suc place) lt = free_neighbours key (next ∷ items) (none_beside key item next items none).2 place (omega (arith, lt))

-- the first item of a page's terms has its low key
first_begins : (low key : List ℕ) (items : List Item) → IsFirstAt low items → key ≡ low → begins_at key items ≡ true
first_begins low key [] first e = absurd first
first_begins low key (item ∷ items) first e = rw (first.0, e) (ap is_eq (itself low))

module _ (parent leaf : Version) (fitted : IsFitted parent.chain) (above : is_removed parent.chain ≡ false) (short : length parent.chain ≤ 8) where
  abbrev low : List ℕ
  low = low_in leaf.chain

  -- the term isn't held, and may not be
  unheld : content_in parent.chain low ≡ Some (Child leaf.pid false) → ¬ CanHold parent leaf → HoldsBack parent.chain leaf.pid low
  unheld there cannot = record { held = false; there = there; items = page.items; are = makes.items; why = by_first (begins_at low page.items) refl }
    where
      page : Page
      page = (made parent.chain fitted).0

      makes : Makes parent.chain page
      makes = (made parent.chain fitted).1

      rules : IsRuled page
      rules = ruled parent.chain page fitted makes

      first : IsFirstAt page.low page.items
      first = (rules.terms (index_at page rules low leaf.pid false (makes.items.contents low ∙ there))).first

      by_first : (b : Bool) → begins_at low page.items ≡ b → IsTrue (begins_at low page.items) ⊎ ((false ≡ false) × ((4 ≤ held_count page.items) ⊎ IsTrue (has_held_neighbour low page.items)))
      by_first true e = inl e
      by_first false e = inr (refl, by_neighbour (has_held_neighbour low page.items) refl)
        where
          inner : low ≢ low_in parent.chain
          inner same = let clash : true ≡ false = sym (first_begins page.low low page.items first (same ∙ sym makes.low)) ∙ e in cc

          by_neighbour : (b : Bool) → has_held_neighbour low page.items ≡ b → (4 ≤ held_count page.items) ⊎ IsTrue (has_held_neighbour low page.items)
          by_neighbour true is = inr is
          by_neighbour false is = by_count (nat_lt (held_count page.items) 4) refl
            where
              may : held_count page.items < 4 → CanHold parent leaf
              may few = record {
                above = above;
                there = there;
                inner = inner;
                few = from_made parent.chain page (λ items. held_count items < 4) makes few;
                free = from_made parent.chain page (HasFreeNeighbours low) makes (free_neighbours low page.items is);
                short = short;
              }

              by_count : (b : Bool) → nat_lt (held_count page.items) 4 ≡ b → (4 ≤ held_count page.items) ⊎ IsTrue (has_held_neighbour low page.items)
              by_count true less = absurd (cannot (may (grind (arith, nat_tests, less))))
              by_count false less = inl (grind (arith, nat_tests, less))

  -- the leaf may not be removed either
  pub held_back : (held : Bool) → content_in parent.chain low ≡ Some (Child leaf.pid held) → is_removed leaf.chain ≡ false → length leaf.chain ≤ 8
      → IsSmall leaf → IsIdle parent leaf → HoldsBack parent.chain leaf.pid low
  held_back true there alive few small idle = absurd ((idle small).0 (record { held = there; alive = alive; few = small.few; unheld = small.unheld; short = few }))
  held_back false there alive few small idle = unheld there (idle small).1

-- by the page above, where there is one
pub kept_back : (limits : Limits) (k : Knowledge) (r : Recalled) (command : Command) (parent : Option Version) (leaf : Version) → tidies command ≡ true
    → IfSome parent (IsUpper limits k r leaf) → IsTermed leaf parent → IsIdleFor command parent leaf
    → is_removed leaf.chain ≡ false → length leaf.chain ≤ 8 → IsSmall leaf → (low_in leaf.chain ≡ []) ⊎ IsHeldBack k leaf.pid (low_in leaf.chain)
kept_back limits k r command None leaf tidy above termed idle alive few small = inl termed
kept_back limits k r command (Some parent) leaf tidy above termed idle alive few small =
    let hand = above.page.in_hand in
    inr (record {
      parent = parent.pid;
      row = parent.head;
      above = record { head = hand.seen.head; chain = parent.chain; read = hand.seen.read; alive = above.page.alive };
      order = above.after;
      holds = held_back parent leaf hand.sound.is_chain.fitted above.page.alive termed.0 termed.1.0 termed.1.1 alive few small (idle tidy);
    })
