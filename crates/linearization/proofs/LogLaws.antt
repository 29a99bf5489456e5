-- What one more entry makes of the log.
use Rattle.std.proofs.Common.{◌≡◌, ◌<◌, ◌≤◌, ℕ, zero, suc, List, [], ◌∷◌, ◌++◌, length, take, set, Bool, true, false, Some, refl, sym, subst, ap, arith, append_assoc, ◌∙◌}
use Rattle.linearization.proofs.Words.{if◌then◌else◌, slice_get, Entry}
use Rattle.std.specs.List.{fold, zip}
use Rattle.std.proofs.lemmas.List.{append-nil, length-take-le}
use Rattle.std.proofs.lemmas.List.Sums.{fold-append}
use Rattle.traces.proofs.Pushes.{slice_get_below, take-push}
use Rattle.linearization.specs.Points.{History, history_after, updates_at, log_of, log_at}

zip-push : {X Y : Type 0} (xs : List X) (ys : List Y) (x : X) (y : Y) → length ys ≡ length xs → zip (xs ++ x ∷ []) (ys ++ y ∷ []) ≡ zip xs ys ++ (x, y) ∷ []
zip-push [] [] x y e = refl
zip-push [] (b ∷ ys) x y e = absurd (omega arith)
zip-push (a ∷ xs) [] x y e = absurd (omega arith)
zip-push (a ∷ xs) (b ∷ ys) x y e = ap (λ rest. (a, b) ∷ rest) (zip-push xs ys x y (omega arith))

abbrev start : History
start = record { entries = []; log = [] }

-- the entries so far are those folded over
entries-fold : (so_far : History) (xs : List Entry) (ys : List Bool) → length ys ≡ length xs → (fold history_after so_far (zip xs ys)).entries ≡ so_far.entries ++ xs
entries-fold so_far [] [] e = sym (append-nil so_far.entries)
entries-fold so_far [] (b ∷ ys) e = absurd (omega arith)
entries-fold so_far (a ∷ xs) [] e = absurd (omega arith)
entries-fold so_far (a ∷ xs) (b ∷ ys) e = entries-fold (history_after so_far (a, b)) xs ys (omega arith) ∙ append_assoc so_far.entries (a ∷ []) xs

pub log_of-push : (entries : List Entry) (points : List Bool) (entry : Entry) (marked : Bool) → length points ≡ length entries
    → log_of (entries ++ entry ∷ []) (points ++ marked ∷ []) ≡ (if marked then log_of entries points ++ updates_at entries entry (log_of entries points) else log_of entries points)
log_of-push entries points entry marked e =
    let before : History = fold history_after start (zip entries points) in
    let folded : fold history_after start (zip (entries ++ entry ∷ []) (points ++ marked ∷ [])) ≡ history_after before (entry, marked) =
    ap (fold history_after start) (zip-push entries points entry marked e) ∙ fold-append history_after start (zip entries points) ((entry, marked) ∷ []) in
    let same : before.entries ≡ entries = entries-fold start entries points e in
    ap (λ h. h.log) folded ∙ ap (λ es. if marked then before.log ++ updates_at es entry before.log else before.log) same

-- the log before an earlier step stays
pub log_at-push : (entries : List Entry) (points : List Bool) (more : List Entry) (marks : List Bool) (n : ℕ) → length points ≡ length entries
    → n ≤ length entries → log_at (entries ++ more) (points ++ marks) n ≡ log_at entries points n
log_at-push entries points more marks n e h =
    let le : n ≤ length points = omega arith in
    rw (take-push entries more n h, take-push points marks n le) refl

-- A mark at a step that makes no update changes no log.
fold-marked : (so_far : History) (xs : List Entry) (ys : List Bool) (n : ℕ) (entry : Entry) → slice_get xs n ≡ Some entry → slice_get ys n ≡ Some false
    → updates_at (so_far.entries ++ take n xs) entry (fold history_after so_far (zip (take n xs) (take n ys))).log ≡ []
    → fold history_after so_far (zip xs (set ys n true)) ≡ fold history_after so_far (zip xs ys)
fold-marked so_far [] ys n entry e f none = cc
fold-marked so_far (x ∷ xs) [] n entry e f none = cc
fold-marked so_far (x ∷ xs) (y ∷ ys) zero entry e f none =
    let is : x ≡ entry = cc in
    let unmarked : y ≡ false = cc in
    let nothing : updates_at so_far.entries x so_far.log ≡ [] = rw is (rw (append-nil so_far.entries) at none) in
    let same : so_far.log ++ updates_at so_far.entries x so_far.log ≡ so_far.log = rw nothing (append-nil so_far.log) in
    let whole : history_after so_far (x, true) ≡ history_after so_far (x, y) = rw unmarked (λ i. record { entries = so_far.entries ++ x ∷ []; log = same i }) in
    ap (λ h. fold history_after h (zip xs ys)) whole
fold-marked so_far (x ∷ xs) (y ∷ ys) (suc n) entry e f none =
    fold-marked (history_after so_far (x, y)) xs ys n entry e f
    (rw (← append_assoc so_far.entries (x ∷ []) (take n xs)) at none)

pub log_of-marked : (entries : List Entry) (points : List Bool) (n : ℕ) (entry : Entry) → slice_get entries n ≡ Some entry → slice_get points n ≡ Some false
    → updates_at (take n entries) entry (log_at entries points n) ≡ [] → log_of entries (set points n true) ≡ log_of entries points
log_of-marked entries points n entry e f none = ap (λ h. h.log) (fold-marked start entries points n entry e f none)

pub take-one : {X : Type 0} (xs : List X) (n : ℕ) (x : X) → slice_get xs n ≡ Some x → take (suc n) xs ≡ take n xs ++ x ∷ []
take-one [] n x e = cc
take-one (y ∷ xs) zero x e = let same : y ≡ x = cc in ap (λ z. z ∷ []) same
take-one (y ∷ xs) (suc n) x e = ap (λ rest. y ∷ rest) (take-one xs n x e)

-- the log after step n
pub log_at-step : (entries : List Entry) (points : List Bool) (n : ℕ) (entry : Entry) (marked : Bool) → length points ≡ length entries
    → slice_get entries n ≡ Some entry → slice_get points n ≡ Some marked
    → log_at entries points (suc n) ≡ (if marked then log_at entries points n ++ updates_at (take n entries) entry (log_at entries points n) else log_at entries points n)
log_at-step entries points n entry marked beside e f =
    let below : n < length entries = slice_get_below entries n entry e in
    let longs : length (take n entries) ≡ n = length-take-le n entries (omega arith) in
    let shorts : length (take n points) ≡ n = length-take-le n points (omega arith) in
    rw (take-one entries n entry e, take-one points n marked f) (log_of-push (take n entries) (take n points) entry marked (shorts ∙ sym longs))
