-- The look at an own row's first word, by which a record begins to be placed there, keeps the rule.
use Rattle.table_rule.proofs.Words.{Allows, Entry, Idle, IsSettled, KeepsRowsApart, KnowsPlaceable, LeavesRow, Limits, List, Memory, Mine, Noted, Part}
use Rattle.table_rule.proofs.Words.{PartFits, Reach, ReachFits, SitsAt, Writing, alone, ap, arith, dite, get_elem?, get_or, keeps, knows, memory_of, none}
use Rattle.table_rule.proofs.Words.{one_width, refl, row_at, seen_of, set-get_or, some, some_words, step, words_in, ℕ, ℕ_discrete, [], ◌<◌, ◌∙◌, ◌≡◌}
use Rattle.table_rule.proofs.RowPlaces.{same_row}
use Rattle.table_rule.specs.Steps.{Measures}
use Rattle.table_rule.proofs.OwnRows.{no_other}
use Rattle.table_rule.proofs.UsedWords.{all_used, few_in, some_used}
use Rattle.table_rule.proofs.Parts.{IsApart, apart_ne, each_zip, elsewhere, times_alone}
use Rattle.table_rule.proofs.Roster.{same_view}
use Rattle.table_rule.proofs.Turns.{TableState, Rule, extends_now, knows_now, turn, same_actor, same_limits, spares_quiet, spells_quiet}

module _ (limits : Limits) (law : Limits → List Entry → Type 0) (apart : KeepsRowsApart limits (law limits)) where
  -- No seat writes into a row of an idle seat's own.
  module _ (s : TableState) (h : Rule limits law s) (id actor : ℕ) (seen : List Entry) (there : get_elem? s.views id ≡ some (alone limits actor seen Idle)) (row : ℕ)
      (may : KnowsPlaceable (knows h.run actor) row) where
    other_leaves : (other : Part) → IsApart actor other.actor other.reach → PartFits limits s.words h.run other → LeavesRow row other.reach
    other_leaves other away fits = go other.reach away fits.reach
      where
        go : (reach : Reach) → IsApart actor other.actor reach → ReachFits limits s.words h.run other.actor reach → LeavesRow row reach
        go Idle away fits = tt
        go Noted away fits = tt
        go (Writing at first written) away fits = no_other limits law apart actor other.actor row at h.run h.legal may (apart_ne actor other.actor away) fits.may

    own_settled : IsSettled s.views row
    own_settled j view here = let one = times_alone limits actor seen Idle tt in dite (ℕ_discrete j id)
        (λ e. rw (← same_view s.views id j (alone limits actor seen Idle) view there here e) (tt, tt))
        (λ ne. each_zip (λ p. IsApart actor p.actor p.reach) (PartFits limits s.words h.run) (λ p. LeavesRow row p.reach) other_leaves view
        (elsewhere s.views id j (alone limits actor seen Idle) view actor h.once there (omega arith) here ne) (h.each j view here))

  module _ (slots id actor : ℕ) (me : Mine) (row : ℕ) (within : row < limits.rows) (is : SitsAt limits actor Idle me) (owned : KnowsPlaceable (knows (seen_of me) actor) row) where
    pub measures : Allows (Rule limits law) slots id me (row_at limits row 0) (λ n. n) (Measures (step slots (row_at limits row 0) 0 0 none) me)
    measures s h _ here _ =
        let there : get_elem? s.views id ≡ some (alone limits actor (seen_of me) Idle) = here ∙ ap (λ (z : Mine). some z.0) is in
        let extends = extends_now limits law s h id actor (seen_of me) Idle tt there in
        let may : KnowsPlaceable (knows h.run actor) row = rw (knows_now limits law s h id actor (seen_of me) Idle tt there) owned in
        let at : ℕ = row_at limits row 0 in
        let n : ℕ = get_or s.words at 0 in
        let memory : Memory = memory_of limits h.run in
        let view : List Part = alone limits actor (seen_of me) (Writing row n []) in
        let settled : IsSettled s.views row = own_settled s h id actor (seen_of me) there row may in
        let some = some_words limits row in
        let first : n ≡ get_or (words_in limits (memory.rows row)) 0 0 = h.spells.rows row 0 within (omega arith) (some_used limits (memory.rows row)) settled in (
          view,
          keeps,
          tt,
          turn limits law s h id actor (seen_of me) Idle tt there me.1 at n h.run (seen_of me) (Writing row n []) tt h.legal
              (spares_quiet limits law actor at s.words h.run) extends h.kept h.begins h.actors
              record {
                may = may;
                there = within;
                short = omega arith;
                old = λ small. first;
                front = λ j below. absurd (omega arith);
                behind = λ kind j above small. ap (λ (words : List ℕ). get_or words (row_at limits row j) 0) (set-get_or s.words at 0)
                    ∙ h.spells.rows row j within (let is = (one_width limits kind row).1 in omega (arith, is, small)) (all_used limits kind (memory.rows row) j small) settled;
              }
              (spells_quiet limits law s h id actor (seen_of me) there at view),
          λ limits' actor' row' is' word.
              let tree : limits ≡ limits' = same_limits limits limits' actor actor' Idle Idle me is is' in
              let row_same : row ≡ row' = same_row limits limits' tree row row' 0 (omega arith) word in
              let sits : SitsAt limits actor (Writing row n []) (view, me.1) = ap (λ (c : List (ℕ × Unit {0})). (view, c)) (ap (λ (z : Mine). z.1) is) in (
                rw (← tree, ← same_actor limits limits' actor actor' Idle Idle me is is', ← row_same) sits,
                refl,
                rw first (few_in limits (memory.rows row) (λ content e. (h.kept row content e).spelling)),
              ),
        )

-- the same as the function asks for it
module _ (law : Limits → List Entry → Type 0) (key limits : Limits) (own : key ≡ limits) (apart : KeepsRowsApart limits (law limits)) (slots id actor : ℕ) (me : Mine) (row word : ℕ)
    (within : row < limits.rows) (is : SitsAt limits actor Idle me) (owned : KnowsPlaceable (knows (seen_of me) actor) row) where
  pub measures_at : word ≡ row_at limits row 0 → Allows (Rule key law) slots id me word (λ n. n) (Measures (step slots word 0 0 none) me)
  measures_at at = rw (own, at) (measures limits law apart slots id actor me row within is owned)
