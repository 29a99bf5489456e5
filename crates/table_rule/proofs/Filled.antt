-- The stores of a row that is written keep the rule.
use Rattle.table_rule.proofs.Words.{Allows, Done, Entry, HasSpelling, Idle, IsLawfulStep, IsPartWritten, IsSettled, IsStored, KeepsRowsApart, KnowsPlaceable}
use Rattle.table_rule.proofs.Words.{LeavesRow, Limits, List, Memory, Mine, None, Noted, Option, Part, Place, Reach, Record, SitsAt, Some, StepOf, Took, Writing}
use Rattle.table_rule.proofs.Words.{add-one, alone, ap, arith, cases_lt, compact_words, dite, few_words, get_elem?, get_or, get_or-set_other, get_or-set_same}
use Rattle.table_rule.proofs.Words.{inl, inr, keeps, knows, length, length-append, length-take-le, memory_of, one_width, refl, row_at, row_size, row_within}
use Rattle.table_rule.proofs.Words.{same_Some, seen_of, set, some, some_words, stored, subst, suc, sym, tail_from, used_by, used_in, width_of, words_in}
use Rattle.table_rule.proofs.Words.{words_over, written_over, zero, ℕ, ℕ_discrete, [], ⊎_elim, ◌++◌, ◌+◌, ◌<◌, ◌∙◌, ◌∷◌, ◌≡◌, ◌≢◌, ◌≤◌}
use Rattle.std.specs.Prelude.{true, false}
use Rattle.std.proofs.lemmas.Bool.{cases_Bool}
use Rattle.std.proofs.lemmas.List.{get_or-take}
use Rattle.deltas.specs.Memory.{replaced_at}
use Rattle.table_rule.specs.Steps.{Fills, Places}
use Rattle.table_rule.proofs.ByWord.{spells_row}
use Rattle.table_rule.proofs.OwnRows.{may_now, no_other, other_row, others_row, part_stored, stand_with}
use Rattle.table_rule.proofs.UsedWords.{over_few, over_large, over_small, zero_behind_in}
use Rattle.table_rule.proofs.Turns.{TableState, Rule, at_each, fits_now, event_telling}
use Rattle.deltas.proofs.Replaced.{replaced_same, replaced_other}

-- where a seat stands that has written one more word
abbrev with_word : ℕ → Reach → Reach
with_word x Idle = Idle
with_word x (Writing row first written) = Writing row first (written ++ x ∷ [])
with_word x Noted = Noted

-- What was written begins what stands behind the header of the record. In a large tree it is all that the record has; in a small one behind it neither
-- the record has words that aren't 0, nor had the one with this first word.
pub record IsEnough (limits : Limits) (content : Record) (header first : ℕ) (written : List ℕ) : Type 0 where
  pub spelled : HasSpelling content
  pub head : header ≡ get_or (stored limits content) 0 0
  pub front : (j : ℕ) → j < length written → get_or written j 0 ≡ get_or (stored limits content) (j + 1) 0
  pub all : limits.is_large ≡ true → length (compact_words content) ≤ length written + 1
  pub both : limits.is_large ≡ false → (used_by header ≤ length written + 1) × (used_by first ≤ length written + 1)

module _ (limits : Limits) (law : Limits → List Entry → Type 0) (apart : KeepsRowsApart limits (law limits)) where
  module _ (slots id actor : ℕ) (me : Mine) (row first : ℕ) (written : List ℕ) (within : row < limits.rows)
      (is : SitsAt limits actor (Writing row first written) me) (owned : KnowsPlaceable (knows (seen_of me) actor) row) where
    -- The seat is in the midst of placing a record into no other row.
    leaves : (other : ℕ) → row ≢ other → LeavesRow other (Writing row first written)
    leaves other ne = ne

    pub fills : (x : ℕ) → length written + 1 < width_of limits row → Allows (Rule limits law) slots id me (row_at limits row (length written + 1)) (λ _. x) (λ _. Fills me x)
    fills x short s h _ here _ =
        let there : get_elem? s.views id ≡ some (alone limits actor (seen_of me) (Writing row first written)) = here ∙ ap (λ (z : Mine). some z.0) is in
        let at : ℕ = row_at limits row (length written + 1) in
        let now_fits = (fits_now limits law s h id actor (seen_of me) (Writing row first written) tt there).reach in
        let more : length (written ++ x ∷ []) ≡ suc (length written) = omega (arith, length-append written (x ∷ [])) in
        let wide = h.wide in
        let inside = row_within limits row within in
        let few = few_words limits row in
        let view : List Part = alone limits actor (seen_of me) (Writing row first (written ++ x ∷ [])) in (
          view,
          keeps,
          tt,
          part_stored limits law apart s h id actor (seen_of me) (Writing row first written) tt there row within owned leaves
              (length written + 1) x first (written ++ x ∷ []) me.1 short
              record {
                may = may_now limits law apart s h id actor (seen_of me) (Writing row first written) tt there row within owned leaves;
                there = within;
                short = omega arith;
                old = now_fits.old;
                front = stand_with limits row written s.words x (omega arith) now_fits.front;
                behind = λ kind j above small. get_or-set_other s.words at (row_at limits row j) x 0 (λ e. absurd (omega arith)) ∙ now_fits.behind kind j (omega arith) small;
              },
          λ limits' actor' row' first' written' is'. (
            at_each (λ l b reach. SitsAt l b (with_word x reach) (view, me.1)) limits actor (Writing row first written) me is
                (ap (λ (c : List (ℕ × Unit {0})). (view, c)) (ap (λ (z : Mine). z.1) is)) limits' actor' (Writing row' first' written') is',
            refl,
          ),
        )

    -- Once the header is written, the row has the record's words.
    placed_word : (s : TableState) (h : Rule limits law s) (header : ℕ) (content : Record) (j : ℕ) → IsPartWritten limits s.words h.run actor row first written
        → IsEnough limits content header first written → j < width_of limits row → j < used_in limits (Some content)
        → get_or (set s.words (row_at limits row 0) header) (row_at limits row j) 0 ≡ get_or (stored limits content) j 0
    placed_word s h header content zero fits enough small used = let wide = h.wide in let inside = row_within limits row within in
        get_or-set_same s.words (row_at limits row 0) header 0 (omega arith) ∙ enough.head
    placed_word s h header content (suc j) fits enough small used =
        let next : suc j ≡ j + 1 = omega arith in
        get_or-set_other s.words (row_at limits row 0) (row_at limits row (suc j)) header 0 (omega arith)
        ∙ ⊎_elim
        (λ below. ap (λ (k : ℕ). get_or s.words (row_at limits row k) 0) next ∙ fits.front j below ∙ enough.front j below ∙ ap (λ (k : ℕ). get_or (stored limits content) k 0) (sym next))
        (λ above. elim (cases_Bool limits.is_large) [
          | inl large ↦
              let all : length (compact_words content) ≤ length written + 1 = enough.all large in
              let within : suc j < length (compact_words content) = rw large at used in
              absurd (omega (arith, above, all, within))
          | inr kind ↦ behind kind above
        ])
        (cases_lt j (length written))
      where
        there : Option Record
        there = (memory_of limits h.run).rows row

        behind : limits.is_large ≡ false → length written ≤ j → get_or s.words (row_at limits row (suc j)) 0 ≡ get_or (stored limits content) (suc j) 0
        behind kind above =
            let old : used_by (get_or (words_in limits there) 0 0) ≤ length written + 1 = rw (← fits.old kind) (enough.both kind).1 in
            let new : used_by (get_or (stored limits content) 0 0) ≤ length written + 1 = rw (← enough.head) (enough.both kind).0 in
            fits.behind kind (suc j) (omega (arith, above)) (let is = (one_width limits kind row).1 in omega (arith, is, small))
            ∙ zero_behind_in limits kind there (λ one e. (h.kept row one e).spelling) (suc j) (omega (arith, old, above))
            ∙ sym (zero_behind_in limits kind (Some content) (λ one e. subst HasSpelling (same_Some content one e) enough.spelled) (suc j) (omega (arith, new, above)))

    pub places : (header : ℕ) (content : Record) → IsEnough limits content header first written → length (stored limits content) ≤ width_of limits row
        → IsLawfulStep law limits actor (seen_of me) None (Place row content) None
        → Allows (Rule limits law) slots id me (row_at limits row 0) (λ _. header) (λ _. Places law (Place row content) me header)
    places header content enough fits may =
        event_telling limits law slots id actor me (Writing row first written) (row_at limits row 0) (λ _. header) None (Place row content) None
        (λ _. Places law (Place row content) me header) tt is may
        (λ s h there.
        let at : ℕ = row_at limits row 0 in
        let memory : Memory = memory_of limits h.run in
        let now = may_now limits law apart s h id actor (seen_of me) (Writing row first written) tt there row within owned leaves in
        let another = other_row limits law apart s h id actor (seen_of me) (Writing row first written) tt there row within owned leaves in
        let others = others_row limits law apart s h id actor (seen_of me) (Writing row first written) tt there row within owned leaves in
        let some = some_words limits row in
        let rows : ℕ → Option Record = replaced_at row (Some content) memory.rows in (
          Done,
          record {
            answered = refl;
            spells = λ view _. spells_row limits s.words memory (record memory { rows = rows }) (IsSettled s.views) (IsSettled (set s.views id view)) h.spells row 0 header within (omega arith) refl
                (λ other j below small used st. dite (ℕ_discrete other row)
                (λ e. rw e
                (placed_word s h header content j (fits_now limits law s h id actor (seen_of me) (Writing row first written) tt there).reach enough
                (rw (← e) small) (rw (ap rows e ∙ replaced_same row (Some content) memory.rows) at used)
                ∙ ap (λ o. get_or (words_in limits o) j 0) (sym (replaced_same row (Some content) memory.rows))))
                (λ ne. another 0 header other j view (omega arith) below small
                (rw (← replaced_other row (Some content) memory.rows other ne) used) (λ e. ne (sym e)) st ∙ ap (λ o. get_or (words_in limits o) j 0)
                (sym (replaced_other row (Some content) memory.rows other ne))));
            kept = λ other stays e. dite (ℕ_discrete other row)
                (λ same. let new : Some content ≡ Some stays = sym (ap rows same ∙ replaced_same row (Some content) memory.rows) ∙ e in
                record {
                  there = rw same within;
                  spelling = subst HasSpelling (same_Some content stays new) enough.spelled;
                  fills = rw (← same_Some content stays new, same) fits;
                })
                (λ ne. h.kept other stays (sym (replaced_other row (Some content) memory.rows other ne) ∙ e));
            writes = λ other row' ne may' _ j small. others 0 header other row' j (omega arith) ne may' small;
            records = λ other row' ne may'. replaced_other row (Some content) memory.rows row' (no_other limits law apart actor other row row' h.run h.legal now ne may');
          },
          λ me' is_after took limits' actor' row' first' written' is'.
              at_each (λ l b _. SitsAt l b Idle me' × Took law l b (seen_of me) None (Place row content) Done None (seen_of me')) limits actor
              (Writing row first written) me is (is_after, took) limits' actor' (Writing row' first' written') is',
        ))

-- the same as the functions ask for them
module _ (law : Limits → List Entry → Type 0) (key limits : Limits) (own : key ≡ limits) (apart : KeepsRowsApart limits (law limits)) (slots id actor : ℕ)
    (me : Mine) (row first : ℕ) (written : List ℕ) (word : ℕ) (seen : List Entry) (is_seen : seen_of me ≡ seen)
    (within : row < limits.rows) (is : SitsAt limits actor (Writing row first written) me) (owned : KnowsPlaceable (knows seen actor) row) where
  owned_of : KnowsPlaceable (knows (seen_of me) actor) row
  owned_of = rw is_seen owned

  pub fills_at : (x : ℕ) → word ≡ row_at limits row (length written + 1) → length written + 1 < width_of limits row → Allows (Rule key law) slots id me word (λ _. x) (λ _. Fills me x)
  fills_at x at short = rw (own, at) (fills limits law apart slots id actor me row first written within is owned_of x short)

  pub places_at : (header : ℕ) (content : Record) (told : StepOf Record) → word ≡ row_at limits row 0 → Place row content ≡ told → IsEnough limits content header first written
      → length (stored limits content) ≤ width_of limits row → IsLawfulStep law limits actor seen None (Place row content) None
      → Allows (Rule key law) slots id me word (λ _. header) (λ _. Places law told me header)
  places_at header content told at is_told enough fits may =
      rw (own, at, ← is_told)
      (places limits law apart slots id actor me row first written within is owned_of header content enough fits
      (rw is_seen may))

pub next_in_tail : (xs : List ℕ) (i : ℕ) → get_or xs (i + 1) 0 ≡ get_or (tail_from xs) i 0
next_in_tail [] i = refl
next_in_tail (x ∷ xs) i = ap (λ k. get_or (x ∷ xs) k 0) (add-one i)

-- The words that are written over are enough.
pub enough_written : (limits : Limits) (first row : ℕ) (content : Record) (words : List ℕ) → length words ≤ width_of limits row → used_by first ≤ row_size → IsStored limits content words
    → IsEnough limits content (get_or words 0 0) first (written_over limits first words)
enough_written limits first row content words fits room is =
    let tail : List ℕ = tail_from words in
    let over : ℕ = words_over limits first words in
    let few = over_few limits first content words is row fits room in
    let long : length (written_over limits first words) ≡ over = length-take-le over tail few.1 in
    record {
      spelled = is.spelling;
      head = ap (λ (us : List ℕ). get_or us 0 0) (sym is.are);
      front = λ j below. get_or-take over tail j 0 (omega (arith, below, long)) ∙ sym (next_in_tail words j) ∙ ap (λ (us : List ℕ). get_or us (j + 1) 0) (sym is.are);
      all = λ large. let all = over_large limits first content words is large in omega (arith, all, long);
      both = λ small. let both = over_small limits first content words is small in (omega (arith, both.0, long), omega (arith, both.1, long));
    }
