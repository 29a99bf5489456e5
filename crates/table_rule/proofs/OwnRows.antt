-- A store into a row into which the seat's actor may place a record.
use Rattle.table_rule.proofs.Words.{Entry, IsPartWritten, IsSettled, KeepsRowsApart, KnowsPlaceable, LeavesRow, Limits, List, Part, Reach, Writing, alone}
use Rattle.table_rule.proofs.Words.{arith, dite, get_elem?, get_or, get_or-set_other, get_or-set_same, keeps, knows, length, length-append, memory_of, refl}
use Rattle.table_rule.proofs.Words.{row_at, set, some, stepped, sym, used_in, width_of, words_in, ℕ, ℕ_discrete, [], ◌++◌, ◌+◌, ◌<◌, ◌∙◌, ◌∷◌, ◌≡◌, ◌≢◌}
use Rattle.std.proofs.Math.Seq.{get_or-append_seam}
use Rattle.std.proofs.lemmas.List.{get_or_append_left}
use Rattle.table_rule.proofs.ByWord.{spells_row}
use Rattle.table_rule.proofs.Parts.{Stands, settled_back, starts_self}
use Rattle.table_rule.proofs.Roster.{set_at}
use Rattle.table_rule.proofs.RowPlaces.{same_place}
use Rattle.table_rule.proofs.Turns.{TableState, Rule, extends_now, knows_now, turn}

-- the words that are written behind the header, with one more
pub stand_with : (limits : Limits) (row : ℕ) (written words : List ℕ) (x : ℕ) → row_at limits row (length written + 1) < length words
    → ((j : ℕ) → j < length written → get_or words (row_at limits row (j + 1)) 0 ≡ get_or written j 0)
    → (j : ℕ) → j < length (written ++ x ∷ [])
    → get_or (set words (row_at limits row (length written + 1)) x) (row_at limits row (j + 1)) 0 ≡ get_or (written ++ x ∷ []) j 0
stand_with limits row written words x small stand j below =
    let at : ℕ = row_at limits row (length written + 1) in
    let more = length-append written (x ∷ []) in
    dite (ℕ_discrete j (length written))
    (λ e. rw e (get_or-set_same words at x 0 small ∙ sym (get_or-append_seam written x [] 0)))
    (λ ne. get_or-set_other words at (row_at limits row (j + 1)) x 0 (λ e. ne (omega arith)) ∙ stand j (omega arith)
    ∙ sym (get_or_append_left written (x ∷ []) 0 j (omega arith)))

module _ (limits : Limits) (law : Limits → List Entry → Type 0) (apart : KeepsRowsApart limits (law limits)) where
  -- The row into which one actor may place a record is no other's.
  pub no_other : (actor other row row' : ℕ) (run : List Entry) → law limits run → KnowsPlaceable (knows run actor) row → other ≢ actor
      → KnowsPlaceable (knows run other) row' → row' ≢ row
  no_other actor other row row' run legal may ne may' e = ne (apart.one_owner other actor row run legal (rw (← e) may') may)

  -- The seat stands there, and is in the midst of placing a record into no other row.
  module _ (s : TableState) (h : Rule limits law s) (id actor : ℕ) (seen : List Entry) (reach : Reach) (stands : Stands reach)
      (there : get_elem? s.views id ≡ some (alone limits actor seen reach)) (row : ℕ) (within : row < limits.rows)
      (owned : KnowsPlaceable (knows seen actor) row)
      (leaves : (other : ℕ) → row ≢ other → LeavesRow other reach) where
    pub may_now : KnowsPlaceable (knows h.run actor) row
    may_now = rw (knows_now limits law s h id actor seen reach stands there) owned

    -- another row, of which no seat writes a word
    pub other_row : (k x other j : ℕ) (view : List Part) → k < width_of limits row → other < limits.rows → j < width_of limits other
        → j < used_in limits ((memory_of limits h.run).rows other) → row ≢ other → IsSettled (set s.views id view) other
        → get_or (set s.words (row_at limits row k) x) (row_at limits other j) 0 ≡ get_or (words_in limits ((memory_of limits h.run).rows other)) j 0
    other_row k x other j view small below short used ne settled =
        get_or-set_other s.words (row_at limits row k) (row_at limits other j) x 0 (λ e. ne (same_place limits row other k j small short (omega (arith, e))))
        ∙ h.spells.rows other j below short used (settled_back s.views id limits actor seen reach view other there (leaves other ne) settled)

    -- a row into which another seat writes
    pub others_row : (k x other row' j : ℕ) → k < width_of limits row → other ≢ actor → KnowsPlaceable (knows h.run other) row' → j < width_of limits row'
        → get_or (set s.words (row_at limits row k) x) (row_at limits row' j) 0 ≡ get_or s.words (row_at limits row' j) 0
    others_row k x other row' j small ne may short =
        let no : row' ≢ row = no_other actor other row row' h.run h.legal may_now ne may in
        get_or-set_other s.words (row_at limits row k) (row_at limits row' j) x 0 (λ e. no (same_place limits row' row j k short small (omega (arith, e))))

    -- a store by which the row is in part written
    pub part_stored : (k x first : ℕ) (written : List ℕ) (carried : List (ℕ × Unit {0})) → k < width_of limits row
        → IsPartWritten limits (set s.words (row_at limits row k) x) h.run actor row first written
        → Rule limits law (stepped s (row_at limits row k) x id carried (alone limits actor seen (Writing row first written)) keeps)
    part_stored k x first written carried small part =
        let at : ℕ = row_at limits row k in
        let view : List Part = alone limits actor seen (Writing row first written) in
        let stays : get_elem? (set s.views id view) id ≡ some view = set_at s.views id (alone limits actor seen reach) view there in
        turn limits law s h id actor seen reach stands there carried at x h.run seen (Writing row first written) tt h.legal
        record {
          grows = starts_self h.run;
          extends = λ other seen ne t. t;
          same = λ other ne. refl;
          writes = λ other row' ne may _ j short. others_row k x other row' j small ne may short;
          records = λ other row' ne may. refl;
        }
        (extends_now limits law s h id actor seen reach stands there) h.kept h.begins h.actors part
        (spells_row limits s.words (memory_of limits h.run) (memory_of limits h.run) (IsSettled s.views) (IsSettled (set s.views id view)) h.spells
        row k x within small refl
        (λ other j below short used settled. other_row k x other j view small below short used (settled id view stays).0 settled))
