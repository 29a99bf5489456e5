-- A mark set later, at an own step at which the command makes no update: each log stays.
use lib.Seq.{take-take}
use Rattle.traces.proofs.Cuts.{get_take}
use Rattle.tree_law.proofs.Words.{false, ◌⊎◌, ap, refl, Option, suc, None, List, true, inl, ◌≢◌, length, ◌++◌, ◌≤◌, inr, ◌∷◌, sym, ℕ, ◌≡◌, Bool, zero, ◌∙◌, ◌<◌, arith, Some, take, cases_lt}
use Rattle.tree_law.proofs.Words.{slice_get, MatchOption, Update, logged_value, update_of, command_key, Command, Reply, Limits, slice_get_below, command_of, Entry, Begin, Step, same_operation}
use Rattle.tree_law.proofs.Words.{IsOperation, Operation, Finishes, IsOwnStep, log_at, log_of, IsPoint, IsQuiet, UpdatesAtLinks, Tells, operation_from, IsMarked, []}
use Rattle.std.proofs.Common.{set}
use Rattle.linearization.specs.Points.{updates_at}
use Rattle.linearization.proofs.LogLaws.{log_of-marked, log_at-step}
use Rattle.tree_law.proofs.shape.Puts.{by_equal}

set_length : {X : Type 0} (xs : List X) (i : ℕ) (x : X) → length (set xs i x) ≡ length xs
set_length (z ∷ xs) (suc i) x = ap suc (set_length xs i x)
set_length xs i x = refl

get_set_same : {X : Type 0} (xs : List X) (m : ℕ) (x : X) → m < length xs → slice_get (set xs m x) m ≡ Some x
get_set_same [] m x lt = absurd (omega arith)
get_set_same (y ∷ xs) zero x lt = refl
get_set_same (y ∷ xs) (suc m) x lt = get_set_same xs m x (omega arith)

get_set_other : {X : Type 0} (xs : List X) (m : ℕ) (x : X) (n : ℕ) → n ≢ m → slice_get (set xs m x) n ≡ slice_get xs n
get_set_other (y ∷ xs) zero x zero ne = absurd (ne refl)
get_set_other (y ∷ xs) (suc m) x (suc n) ne = get_set_other xs m x n (λ e. ne (ap suc e))
get_set_other xs m x n ne = refl

take_set_below : {X : Type 0} (xs : List X) (m : ℕ) (x : X) (n : ℕ) → n ≤ m → take n (set xs m x) ≡ take n xs
take_set_below xs m x zero le = refl
take_set_below [] m x (suc n) le = refl
take_set_below (y ∷ xs) zero x (suc n) le = absurd (omega arith)
take_set_below (y ∷ xs) (suc m) x (suc n) le = rw (take_set_below xs m x n (omega arith))

take_set_above : {X : Type 0} (xs : List X) (m : ℕ) (x : X) (n : ℕ) → m < n → take n (set xs m x) ≡ set (take n xs) m x
take_set_above xs m x zero lt = absurd (omega arith)
take_set_above [] m x (suc n) lt = refl
take_set_above (y ∷ xs) zero x (suc n) lt = refl
take_set_above (y ∷ xs) (suc m) x (suc n) lt = rw (take_set_above xs m x n (omega arith))

unmarked : (points : List Bool) (m : ℕ) → m < length points → (IsPoint points m → ⊥) → slice_get points m ≡ Some false
unmarked [] m lt never = absurd (omega arith)
unmarked (true ∷ points) zero lt never = absurd (never refl)
unmarked (false ∷ points) zero lt never = refl
unmarked (p ∷ points) (suc m) lt never = unmarked points m (omega arith) never

-- a step is one operation's own
pub own_same : (entries : List Entry) (p q : Operation) (m : ℕ) → IsOperation entries p → IsOperation entries q → IsOwnStep entries p m → IsOwnStep entries q m → p ≡ q
own_same entries p q m is is' own own' =
    let h = own.2.1 in
    let h' = own'.2.1 in
    let actors : p.actor ≡ q.actor = cc (h.entry, h'.entry) in
    let starts : p.start ≡ q.start = elim (cases_lt p.start q.start) [
      | inl lt ↦ absurd (h.not_ended q.start q.command lt h'.begun (rw actors is'))
      | inr le ↦ elim (cases_lt q.start p.start) [ inl lt ↦ absurd (h'.not_ended p.start p.command lt h.begun (rw (sym actors) is)) | inr ge ↦ omega arith ]
    ] in
    same_operation p q starts actors (let e : slice_get entries p.start ≡ Some (Begin q.actor q.command) = rw starts is' in cc (is, e))

module _ (limits : Limits) (entries : List Entry) (points : List Bool) (a : ℕ) (asked : Command) (logs : List (List Update))
    (marked : IsMarked limits entries points) (t : Tells entries points a asked None logs)
    (place : ℕ) (mine : IsOwnStep entries (operation_from t.start a asked) place) (asks : command_of (take place entries) a ≡ Some asked)
    (none : update_of a asked (logged_value (log_at entries points place) (command_key asked)) ≡ None) where
  abbrev pub remarked : List Bool
  remarked = set points place true

  below : place < length points
  below = let lt : place < length entries = slice_get_below entries place _ mine.2.1.entry in let b = marked.beside in omega arith

  was_unmarked : slice_get points place ≡ Some false
  was_unmarked = unmarked points place below (t.point_at place mine)

  no_update : updates_at (take place entries) (Step a mine.0 mine.1 mine.2.0) (log_at entries points place) ≡ []
  no_update = rw (asks, none)

  pub log_of_same : log_of entries remarked ≡ log_of entries points
  log_of_same = log_of-marked entries points place _ mine.2.1.entry was_unmarked no_update

  pub log_at_same : (n : ℕ) → log_at entries remarked n ≡ log_at entries points n
  log_at_same n = elim (cases_lt place n) [
    | inl lt ↦ rw (take_set_above points place true n lt)
        (log_of-marked (take n entries) (take n points) place (Step a mine.0 mine.1 mine.2.0) (get_take entries place n lt ∙ mine.2.1.entry) (get_take points place n lt ∙ was_unmarked)
        (rw (take-take place n entries (omega arith), take-take place n points (omega arith)) no_update))
    | inr le ↦ rw (take_set_below points place true n le)
  ]

  pub beside' : length remarked ≡ length entries
  beside' = set_length points place true ∙ marked.beside

  point_kept : (n : ℕ) → IsPoint points n → IsPoint remarked n
  point_kept n p = by_equal n place (λ e t. rw e (get_set_same points place true below)) (λ ne t. get_set_other points place true n ne ∙ p)

  point_cases : (n : ℕ) → IsPoint remarked n → (n ≡ place) ⊎ IsPoint points n
  point_cases n p = by_equal n place (λ e t. inl e) (λ ne t. inr (sym (get_set_other points place true n ne) ∙ p))

  -- no own step of the operation was marked
  alone : (op : Operation) (i j : ℕ) → IsOperation entries op → IsOwnStep entries op i → i ≡ place → IsOwnStep entries op j → IsPoint points j → ⊥
  alone op i j is own e own' p =
      t.point_at j (rw (own_same entries op (operation_from t.start a asked) place is t.begins (rw e at own) mine) at own') p

  pub marked' : ((n : ℕ) (reply : Reply) → Finishes entries (operation_from t.start a asked) n reply → ⊥) → IsMarked limits entries remarked
  marked' unfinished = record {
    beside = beside';
    own = λ n p. elim (point_cases n p) [ inl e ↦ (operation_from t.start a asked, t.begins, rw e mine) | inr p' ↦ marked.own n p' ];
    one = λ op i j is oi oj pi pj. elim (point_cases i pi) [
      | inl ei ↦ elim (point_cases j pj) [ inl ej ↦ ei ∙ sym ej | inr pj' ↦ absurd (alone op i j is oi ei oj pj') ]
      | inr pi' ↦ elim (point_cases j pj) [ inl ej ↦ absurd (alone op j i is oj ej oi pi') | inr pj' ↦ marked.one op i j is oi oj pi' pj' ]
    ];
    answered = λ op n reply is ends. elim (marked.answered op n reply is ends) [
      | inl h ↦ inl (h.0, h.1, point_kept h.0 h.2, rw (log_at_same h.0) h.3)
      | inr h ↦ inr (record {
        unmarked = λ m own p. elim (point_cases m p) [
          | inl e ↦
              unfinished n reply (rw (own_same entries op (operation_from t.start a asked) place is t.begins (rw e at own) mine) at ends)
          | inr p' ↦ h.unmarked m own p'
        ];
        finds = h.finds;
      })
    ];
  }

  pub logs_told : (b : ℕ) (c : Command) (start : ℕ) (k : List Update)
      → ((m : ℕ) × IsOwnStep entries (operation_from start b c) m × (log_at entries points m ≡ k) × (command_of (take m entries) b ≡ Some c))
      → (m : ℕ) × IsOwnStep entries (operation_from start b c) m × (log_at entries remarked m ≡ k) × (command_of (take m entries) b ≡ Some c)
  logs_told b c start k h = (h.0, h.1, log_at_same h.0 ∙ h.2, h.3)

  pub marked_now : IsPoint remarked place
  marked_now = get_set_same points place true below

  -- now its point is told
  abbrev pub told : Tells entries remarked a asked (Some (log_at entries points place)) logs
  told = record {
    start = t.start;
    begins = t.begins;
    unended = t.unended;
    logs_at = λ k h. logs_told a asked t.start k (t.logs_at k h);
    point_at = (place, mine, marked_now, log_at_same place);
  }

  pub told_other : (b : ℕ) (c : Command) (point : Option (List Update)) (logs' : List (List Update)) → b ≢ a → Tells entries points b c point logs' → Tells entries remarked b c point logs'
  told_other b c point logs' ne u = record {
    start = u.start;
    begins = u.begins;
    unended = u.unended;
    logs_at = λ k h. logs_told b c u.start k (u.logs_at k h);
    point_at = go point u.point_at;
  }
    where
      go : (o : Option (List Update))
          → MatchOption o ((m : ℕ) → IsOwnStep entries (operation_from u.start b c) m → IsPoint points m → ⊥)
          (λ k. (m : ℕ) × IsOwnStep entries (operation_from u.start b c) m × IsPoint points m × (log_at entries points m ≡ k))
          → MatchOption o ((m : ℕ) → IsOwnStep entries (operation_from u.start b c) m → IsPoint remarked m → ⊥)
          (λ k. (m : ℕ) × IsOwnStep entries (operation_from u.start b c) m × IsPoint remarked m × (log_at entries remarked m ≡ k))
      go None h = λ m own p. elim (point_cases m p) [
        | inl e ↦ let e1 = (rw e at own).2.1.entry in let e2 = mine.2.1.entry in absurd (ne (cc (e1, e2)))
        | inr p' ↦ h m own p'
      ]
      go (Some k) h = (h.0, h.1, point_kept h.0 h.2, log_at_same h.0 ∙ h.3)

  pub quiet' : IsQuiet limits entries points → IsQuiet limits entries remarked
  quiet' q = record { at_each = λ n le. rw (log_at_same n) (q.at_each n le) }

  -- the later mark makes no update, so updates are where they were
  pub updates' : UpdatesAtLinks limits entries points → UpdatesAtLinks limits entries remarked
  updates' old n = (
    λ h. elim (point_cases n h.0) [
      | inl here ↦ absurd (longer (log_at entries points place) h.1.0 (sym (log_at-step entries points place _ false marked.beside mine.2.1.entry was_unmarked)
          ∙ ap (log_at entries points) (ap suc (sym here)) ∙ sym (log_at_same (suc n)) ∙ h.1.1 ∙ ap (λ l. l ++ h.1.0 ∷ [])
          (log_at_same n ∙ ap (log_at entries points) here)))
      | inr was ↦ (old n).0 (was, (h.1.0, sym (log_at_same (suc n)) ∙ h.1.1 ∙ ap (λ l. l ++ h.1.0 ∷ []) (log_at_same n)))
    ],
    λ h. let was = (old n).1 h in (point_kept n was.0, (was.1.0, log_at_same (suc n) ∙ was.1.1 ∙ ap (λ l. l ++ was.1.0 ∷ []) (sym (log_at_same n)))),
  )
    where
      longer : (l : List Update) (u : Update) → l ≡ l ++ u ∷ [] → ⊥
      longer [] u e = cc
      longer (v ∷ l) u e = longer l u (let f : ◌≡◌ {A = List Update} (v ∷ l) (v ∷ (l ++ u ∷ [])) = e in cc)
