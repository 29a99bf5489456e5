-- The load of a row's first word, which is the step, and looks at its words keep the rule.
use Rattle.table_rule.proofs.Words.{Allows, Content, Each, Entry, HasSpelling, Idle, IsLawfulStep, IsSettled, IsSpelledRow, KeepsRowsApart, LeavesRow, Limits}
use Rattle.table_rule.proofs.Words.{List, Mine, None, Noted, Part, PartFits, Reach, ReachFits, Record, Row, SitsAt, Some, Writing, alone, ap, arith, get_elem?}
use Rattle.table_rule.proofs.Words.{get_or, keeps, knows, memory_of, none, refl, row_at, row_size, seen_of, set-get_or, some, some_words, step, stored, sym}
use Rattle.table_rule.proofs.Words.{used_in, width_of, words_in, ℕ, [], ◌<◌, ◌∙◌, ◌∷◌, ◌≡◌}
use Rattle.table_rule.proofs.RowPlaces.{same_row}
use Rattle.table_rule.specs.Running.{KnowsReadable}
use Rattle.table_rule.specs.Steps.{HasReadRecord, Looks, ReadsRow}
use Rattle.table_rule.proofs.UsedWords.{some_used, used_few}
use Rattle.table_rule.proofs.Turns.{TableState, Rule, extends_now, knows_now, turn, event_telling, same_actor, same_limits, spares_quiet, spells_quiet}

module _ (limits : Limits) (law : Limits → List Entry → Type 0) (apart : KeepsRowsApart limits (law limits)) where
  -- no other seat writes into a row that the actor may read
  leaves_by : (words : List ℕ) (run : List Entry) (actor row : ℕ) (other : Part) → law limits run → KnowsReadable (knows run actor) row → PartFits limits words run other → LeavesRow row other.reach
  leaves_by words run actor row other legal may fits = go other.reach fits.reach
    where
      go : (reach : Reach) → ReachFits limits words run other.actor reach → LeavesRow row reach
      go Idle fits = tt
      go Noted fits = tt
      go (Writing at first written) fits = λ e. absurd (apart.unread other.actor actor row run legal (rw (← e) fits.may) may)

  each_leaves : (words : List ℕ) (run : List Entry) (actor row : ℕ) (view : List Part) → law limits run → KnowsReadable (knows run actor) row
      → Each (PartFits limits words run) view → Each (λ p. LeavesRow row p.reach) view
  each_leaves words run actor row [] legal may fits = tt
  each_leaves words run actor row (other ∷ view) legal may fits = (leaves_by words run actor row other legal may fits.0, each_leaves words run actor row view legal may fits.1)

  -- into a row that an actor may read no seat writes
  settled : (s : TableState) (h : Rule limits law s) (actor row : ℕ) → KnowsReadable (knows h.run actor) row → IsSettled s.views row
  settled s h actor row may id view there = each_leaves s.words h.run actor row view h.legal may (h.each id view there)

  -- the word j of the record of a row that the actor may read
  word_is : (s : TableState) (h : Rule limits law s) (actor row j : ℕ) → KnowsReadable (knows h.run actor) row → row < limits.rows → j < width_of limits row
      → j < used_in limits ((memory_of limits h.run).rows row)
      → get_or s.words (row_at limits row j) 0 ≡ get_or (words_in limits ((memory_of limits h.run).rows row)) j 0
  word_is s h actor row j may within small used = h.spells.rows row j within small used (settled s h actor row may)

  -- the record of a row that the actor may read
  row_is : (s : TableState) (h : Rule limits law s) (actor row : ℕ) → KnowsReadable (knows h.run actor) row
      → (content : Record) × ((memory_of limits h.run).rows row ≡ Some content) × HasSpelling content
  row_is s h actor row may = let p = apart.placed actor row h.run h.legal may in (p.0, p.1, (h.kept row p.0 p.1).spelling)

  module _ (slots id actor : ℕ) (me : Mine) (row : ℕ) (within : row < limits.rows) (is : SitsAt limits actor Idle me) (known : KnowsReadable (knows (seen_of me) actor) row) where
    -- what the seat knows now
    module _ (s : TableState) (h : Rule limits law s) (there : get_elem? s.views id ≡ some (alone limits actor (seen_of me) Idle)) where
      may_now : KnowsReadable (knows h.run actor) row
      may_now = rw (knows_now limits law s h id actor (seen_of me) Idle tt there) known

      -- a record that the seat has read since it entered is still in its row
      stands_now : (actor' : ℕ) → actor ≡ actor' → (row' : ℕ) (content : Record) → HasReadRecord (knows (seen_of me) actor') row' content → (memory_of limits h.run).rows row' ≡ Some content
      stands_now actor' who row' content has =
          let seen : (knows h.run actor).read.seen row' ≡ Some content = ap (λ k. k.read.seen row')
          (knows_now limits law s h id actor (seen_of me) Idle tt there) ∙ ap (λ (z : ℕ). (knows (seen_of me) z).read.seen row') who ∙ has.seen in
          apart.stands actor row' content h.run h.legal seen

      read_word : (limits' : Limits) → limits ≡ limits' → (actor' : ℕ) → actor ≡ actor' → (row' place' : ℕ) (content : Record) → place' < used_in limits' (Some content)
          → HasReadRecord (knows (seen_of me) actor') row' content → get_or s.words (row_at limits' row' place') 0 ≡ get_or (stored limits' content) place' 0
      read_word limits' tree actor' who row' place' content used has =
          rw (← tree) (by (rw tree used))
        where
          stays : (memory_of limits h.run).rows row' ≡ Some content
          stays = stands_now actor' who row' content has

          kept : IsSpelledRow limits row' content
          kept = h.kept row' content stays

          may : KnowsReadable (knows h.run actor) row'
          may =
              rw (knows_now limits law s h id actor (seen_of me) Idle tt there)
              (rw who has.may)

          by : place' < used_in limits (Some content) → get_or s.words (row_at limits row' place') 0 ≡ get_or (stored limits content) place' 0
          by used =
              let fills = kept.fills in
              let few = used_few limits content kept.spelling in
              word_is s h actor row' place' may kept.there (omega (arith, used, fills, few)) (rw stays used)
              ∙ ap (λ o. get_or (words_in limits o) place' 0) stays

    looks : (place : ℕ) → place < row_size → Allows (Rule limits law) slots id me (row_at limits row place) (λ n. n) (Looks (step slots (row_at limits row place) 0 0 none) me)
    looks place small s h _ here _ =
        let there : get_elem? s.views id ≡ some (alone limits actor (seen_of me) Idle) = here ∙ ap (λ (z : Mine). some z.0) is in
        let at : ℕ = row_at limits row place in
        let n : ℕ = get_or s.words at 0 in
        let view : List Part = alone limits actor (seen_of me) Idle in (
          view,
          keeps,
          tt,
          turn limits law s h id actor (seen_of me) Idle tt there me.1 at n h.run (seen_of me) Idle tt h.legal (spares_quiet limits law actor at s.words h.run)
              (extends_now limits law s h id actor (seen_of me) Idle tt there) h.kept h.begins h.actors tt
              (spells_quiet limits law s h id actor (seen_of me) there at view),
          (
            ap (λ (c : List (ℕ × Unit {0})). (view, c)) (ap (λ (z : Mine). z.1) is) ∙ sym is,
            λ limits' actor' row' place' content is' small' used has word.
                let tree : limits ≡ limits' = same_limits limits limits' actor actor' Idle Idle me is is' in
                let who : actor ≡ actor' = same_actor limits limits' actor actor' Idle Idle me is is' in
                let here : n ≡ get_or s.words (row_at limits' row' place') 0 = ap (λ (i : ℕ). get_or s.words i 0) word in
                here ∙ read_word s h there limits' tree actor' who row' place' content used has,
            λ limits' actor' row' place' content is' small' has word.
                let tree : limits ≡ limits' = same_limits limits limits' actor actor' Idle Idle me is is' in
                let who : actor ≡ actor' = same_actor limits limits' actor actor' Idle Idle me is is' in
                (h.kept row' content (stands_now s h there actor' who row' content has)).spelling,
          ),
        )

    reads : IsLawfulStep law limits actor (seen_of me) None (Row row) None
        → Allows (Rule limits law) slots id me (row_at limits row 0) (λ n. n) (ReadsRow law (step slots (row_at limits row 0) 0 0 none) me)
    reads may = event_telling limits law slots id actor me Idle (row_at limits row 0) (λ n. n) None (Row row) None (ReadsRow law (step slots (row_at limits row 0) 0 0 none) me) tt is may
        (λ s h there.
        let at : ℕ = row_at limits row 0 in
        let n : ℕ = get_or s.words at 0 in
        let now = may_now s h there in
        let x = row_is s h actor row now in
        let first : n ≡ get_or (stored limits x.0) 0 0 =
        word_is s h actor row 0 now within (let some = some_words limits row in omega (arith, some)) (some_used limits ((memory_of limits h.run).rows row))
        ∙ ap (λ o. get_or (words_in limits o) 0 0) x.1 in (
          Content x.0,
          record {
            answered = (x.0, x.1, refl);
            spells = λ view _. spells_quiet limits law s h id actor (seen_of me) there at view;
            kept = h.kept;
            writes = λ other row' _ _ _ j small. ap (λ (u : List ℕ). get_or u (row_at limits row' j) 0) (set-get_or s.words at 0);
            records = λ other row' _ _. refl;
          },
          λ me' is_after took limits' actor' row' is' word.
              let tree : limits ≡ limits' = same_limits limits limits' actor actor' Idle Idle me is is' in
              let row_same : row ≡ row' = same_row limits limits' tree row row' 0 (omega arith) word in
              rw (← tree, ← same_actor limits limits' actor actor' Idle Idle me is is', ← row_same)
              (is_after, (x.0, x.2, first, took)),
        ))

-- the same as the functions ask for them
module _ (law : Limits → List Entry → Type 0) (key limits : Limits) (own : key ≡ limits) (apart : KeepsRowsApart limits (law limits)) (slots id actor : ℕ) (me : Mine) (row word : ℕ)
    (within : row < limits.rows) (is : SitsAt limits actor Idle me) (known : KnowsReadable (knows (seen_of me) actor) row) where
  pub looks_at : (place : ℕ) → place < row_size → word ≡ row_at limits row place → Allows (Rule key law) slots id me word (λ n. n) (Looks (step slots word 0 0 none) me)
  looks_at place small at = rw (own, at) (looks limits law apart slots id actor me row within is known place small)

  pub reads_at : word ≡ row_at limits row 0 → IsLawfulStep law limits actor (seen_of me) None (Row row) None
      → Allows (Rule key law) slots id me word (λ n. n) (ReadsRow law (step slots word 0 0 none) me)
  reads_at at may = rw (own, at) (reads limits law apart slots id actor me row within is known may)
