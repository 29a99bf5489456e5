-- The store of the second word of an own row, by which a record begins to be placed there in a large tree, keeps the rule.
use Rattle.table_rule.proofs.Words.{Allows, Entry, Idle, KeepsRowsApart, KnowsPlaceable, Limits, List, Mine, Part, SitsAt, Writing, alone, ap, arith, few_words}
use Rattle.table_rule.proofs.Words.{get_elem?, keeps, knows, none, refl, row_at, row_within, seen_of, some, some_words, step, true, ℕ, [], ◌<◌, ◌∙◌, ◌∷◌, ◌≡◌}
use Rattle.table_rule.specs.Steps.{Begins}
use Rattle.table_rule.proofs.OwnRows.{may_now, part_stored, stand_with}
use Rattle.table_rule.proofs.RowPlaces.{same_row}
use Rattle.table_rule.proofs.Turns.{Rule, same_actor, same_limits}

module _ (limits : Limits) (law : Limits → List Entry → Type 0) (apart : KeepsRowsApart limits (law limits)) (large : limits.is_large ≡ true)
    (slots id actor : ℕ) (me : Mine) (row x : ℕ)
    (within : row < limits.rows) (is : SitsAt limits actor Idle me) (owned : KnowsPlaceable (knows (seen_of me) actor) row) where
  begins : Allows (Rule limits law) slots id me (row_at limits row 1) (λ _. x) (λ _. Begins (step slots (row_at limits row 1) x 0 none) me x)
  begins s h _ here _ =
      let there : get_elem? s.views id ≡ some (alone limits actor (seen_of me) Idle) = here ∙ ap (λ (z : Mine). some z.0) is in
      let view : List Part = alone limits actor (seen_of me) (Writing row 0 (x ∷ [])) in
      let some = some_words limits row in
      let few = few_words limits row in
      let inside = row_within limits row within in
      let wide = h.wide in (
        view,
        keeps,
        tt,
        part_stored limits law apart s h id actor (seen_of me) Idle tt there row within owned (λ other ne. tt) 1 x 0 (x ∷ []) me.1 (omega arith) record {
          may = may_now limits law apart s h id actor (seen_of me) Idle tt there row within owned (λ other ne. tt);
          there = within;
          short = omega arith;
          old = λ small. cc;
          front = stand_with limits row [] s.words x (omega arith) (λ j below. absurd (omega arith));
          behind = λ small. cc;
        },
        λ limits' actor' row' large' is' word. (
          let tree : limits ≡ limits' = same_limits limits limits' actor actor' Idle Idle me is is' in
              rw (← tree, ← same_actor limits limits' actor actor' Idle Idle me is is', ← same_row limits limits' tree row row' 1 (omega arith) word)
              (ap (λ (z : Mine). (view, z.1)) is),
          refl,
        ),
      )

-- as the function requires it
module _ (law : Limits → List Entry → Type 0) (key limits : Limits) (own : key ≡ limits) (apart : KeepsRowsApart limits (law limits))
    (large : limits.is_large ≡ true) (slots id actor : ℕ) (me : Mine) (row word x : ℕ)
    (within : row < limits.rows) (is : SitsAt limits actor Idle me) (owned : KnowsPlaceable (knows (seen_of me) actor) row) where
  pub begins_at : word ≡ row_at limits row 1 → Allows (Rule key law) slots id me word (λ _. x) (λ _. Begins (step slots word x 0 none) me x)
  begins_at at = rw (own, at) (begins limits law apart large slots id actor me row x within is owned)
