-- The longest run is one that a seat has seen: its last entry is an actor's, and each actor stands in a seat.
use Rattle.table_rule.proofs.Words.{Begin, Bool, Each, Entry, Extends, Idle, Limits, List, Noted, Part, PartFits, Reach, Some, Step, Writing, ap, append-nil}
use Rattle.table_rule.proofs.Words.{arith, entry_actor, eq-eqb, eqb-true, everywhere, false, get_elem?, if◌then◌else◌, is_at, is_entry_of, own_entries, refl}
use Rattle.table_rule.proofs.Words.{slice_get, some, subst, suc, sym, times, true, zero, ℕ, [], ◌++◌, ◌<◌, ◌∙◌, ◌∷◌, ◌≡◌, ◌≢◌, ◌≤◌}
use Rattle.table_rule.specs.Longest.{LongestIsSeen}
use Rattle.table_rule.proofs.Parts.{Stands, goes_extends, mark}

-- the last entry is the actor's
abbrev EndsBy : ℕ → List Entry → Type 0
EndsBy actor [] = ⊥
EndsBy actor (entry ∷ []) = entry_actor entry ≡ actor
EndsBy actor (first ∷ second ∷ rest) = EndsBy actor (second ∷ rest)

pub is_own : (actor : ℕ) (entry : Entry) → entry_actor entry ≡ actor → is_entry_of actor entry ≡ true
is_own actor (Begin other command) e = eq-eqb actor other (sym e)
is_own actor (Step other step answer reply) e = eq-eqb actor other (sym e)

-- a run that ends by the actor's entry has one of its own
some_own : (actor : ℕ) (run : List Entry) → EndsBy actor run → own_entries actor run ≢ []
some_own actor [] ends none = ends
some_own actor (entry ∷ []) ends none = let one : entry ∷ [] ≡ [] = sym (ap (λ (own : Bool). if own then entry ∷ [] else []) (is_own actor entry ends)) ∙ none in cc
some_own actor (first ∷ second ∷ rest) ends none = by (is_entry_of actor first) (some_own actor (second ∷ rest) ends) none
  where
    by : (own : Bool) → own_entries actor (second ∷ rest) ≢ [] → (if own then first ∷ own_entries actor (second ∷ rest) else own_entries actor (second ∷ rest)) ≢ []
    by true more none = cc
    by false more none = more none

-- so the actor has seen all of it
saw_all : (actor : ℕ) (seen rest : List Entry) → EndsBy actor (seen ++ rest) → own_entries actor rest ≡ [] → rest ≡ []
saw_all actor seen [] ends none = refl
saw_all actor [] (entry ∷ rest) ends none = absurd (some_own actor (entry ∷ rest) ends none)
saw_all actor (first ∷ []) (entry ∷ rest) ends none = absurd (some_own actor (entry ∷ rest) ends none)
saw_all actor (first ∷ second ∷ seen) (entry ∷ rest) ends none = saw_all actor (second ∷ seen) (entry ∷ rest) ends none

ends_by : (limits : Limits) (entry : Entry) (run : List Entry) → Each (λ one. entry_actor one < limits.actors) (entry ∷ run) → (actor : ℕ) × (actor < limits.actors) × EndsBy actor (entry ∷ run)
ends_by limits entry [] all = (entry_actor entry, all.0, refl)
ends_by limits first (second ∷ rest) all = ends_by limits second rest all.1

-- Some actor has all of the run, wherever its seat has seen it up to its own last entry.
pub whole : (limits : Limits) (run : List Entry) → Each (λ one. entry_actor one < limits.actors) run → (actor : ℕ) × (actor < limits.actors)
    × ((seen : List Entry) → Extends actor seen run → seen ≡ run)
whole limits [] all = (0, omega (arith, limits.allowed.some_actor), nothing)
  where
    nothing : (seen : List Entry) → Extends 0 seen [] → seen ≡ []
    nothing [] extends = refl
    nothing (entry ∷ seen) extends = let grown = extends.1 in cc
whole limits (entry ∷ run) all =
    let last = ends_by limits entry run all in (
      last.0,
      last.1,
      λ seen extends.
          let rest : extends.0 ≡ [] = saw_all last.0 seen extends.0 (subst (EndsBy last.0) extends.1 last.2) extends.2 in
          sym (extends.1 ∙ ap (λ (more : List Entry). seen ++ more) rest ∙ append-nil seen),
    )

-- the part by which the actor stands in a view
pub in_view : (actor : ℕ) (view : List Part) → 1 ≤ times actor view → (place : ℕ) × (part : Part) × (slice_get view place ≡ Some part) × (is_at actor part.actor part.reach ≡ true)
in_view actor [] stands = absurd (omega arith)
in_view actor (part ∷ parts) stands = by (is_at actor part.actor part.reach) refl (λ more. in_view actor parts more)
  where
    by : (at : Bool) → is_at actor part.actor part.reach ≡ at → (1 ≤ times actor parts → (place : ℕ) × (one : Part) × (slice_get parts place ≡ Some one) × (is_at actor one.actor one.reach ≡ true))
        → (place : ℕ) × (one : Part) × (slice_get (part ∷ parts) place ≡ Some one) × (is_at actor one.actor one.reach ≡ true)
    by true is later = (0, part, refl, is)
    by false is later =
        let none : mark (is_at actor part.actor part.reach) ≡ 0 = ap mark is in
        let rest = later (omega arith) in (suc rest.0, rest.1, rest.2, rest.3)

pub in_views : (actor : ℕ) (views : List (List Part)) → 1 ≤ everywhere actor views → (id : ℕ) × (view : List Part) × (get_elem? views id ≡ some view) × (1 ≤ times actor view)
in_views actor [] stands = absurd (omega arith)
in_views actor (view ∷ views) stands = by (times actor view) refl (λ more. in_views actor views more)
  where
    by : (n : ℕ) → times actor view ≡ n → (1 ≤ everywhere actor views → (id : ℕ) × (one : List Part) × (get_elem? views id ≡ some one) × (1 ≤ times actor one))
        → (id : ℕ) × (one : List Part) × (get_elem? (view ∷ views) id ≡ some one) × (1 ≤ times actor one)
    by zero none later = let rest = later (omega arith) in (suc rest.0, rest.1, rest.2, rest.3)
    by (suc n) is later = (0, view, refl, omega arith)

pub stands_as : (actor other : ℕ) (reach : Reach) → is_at actor other reach ≡ true → Stands reach × (other ≡ actor)
stands_as actor other Idle is = (tt, eqb-true other actor is)
stands_as actor other (Writing row first words) is = (tt, eqb-true other actor is)
stands_as actor other Noted is = cc

pub each_get : (P : Part → Type 0) (parts : List Part) (n : ℕ) (part : Part) → Each P parts → slice_get parts n ≡ Some part → P part
each_get P [] n part each at = cc
each_get P (first ∷ parts) zero part each at = let same : first ≡ part = cc in subst P same each.0
each_get P (first ∷ parts) (suc n) part each at = each_get P parts n part each.1 at

pub longest_seen : (limits : Limits) (law : List Entry → Type 0) → LongestIsSeen limits law
longest_seen limits law s h =
    let all = whole limits h.run h.actors in
    let found = in_views all.0 s.views (h.somewhere all.0 all.1) in
    let mine = in_view all.0 found.1 found.3 in
    let part : Part = mine.1 in
    let is = stands_as all.0 part.actor part.reach mine.3 in
    let fit : PartFits limits s.words h.run part = each_get (PartFits limits s.words h.run) found.1 mine.0 part (h.each found.0 found.1 found.2) mine.2 in
    record {
      id = found.0;
      view = found.1;
      at = found.2;
      place = mine.0;
      part = part;
      there = mine.2;
      stands = λ e. subst Stands e is.0;
      saw = all.2 part.seen (rw is.1 at (goes_extends part.reach part.actor part.seen h.run is.0 fit.extends));
    }
