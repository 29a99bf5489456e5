-- Calls of a seat, one after another.
use Rattle.workers.proofs.Words.{Command, GoesOn, List, None, Reply, Seat, Some, ap, append-nil, append_assoc, arith, length, map, refl, same_on}
use Rattle.workers.proofs.Words.{slice_index_or, starts_on, sym, unfinished_command, zip, ℕ, [], ◌++◌, ◌+◌, ◌<◌, ◌∙◌, ◌∷◌, ◌≡◌}
use Rattle.std.proofs.Common.{Option}
use Rattle.std.specs.Prelude.{take}
use Rattle.std.proofs.lemmas.List.{length-take, take_more}
use Rattle.running_tree.specs.Calls.{calls_in}

-- a seat that has made no call
pub stays : (seat : Seat) → unfinished_command seat ≡ None → GoesOn seat [] seat
stays seat idle = record {
  same = record { table = refl; limits = refl; actor = refl };
  grows = ([], sym (append-nil seat.seen));
  calls = sym (append-nil (calls_in seat));
  idle = idle;
}

pub goes_on : (a b c : Seat) (xs ys : List (Command × Option Reply)) → GoesOn a xs b → GoesOn b ys c → GoesOn a (xs ++ ys) c
goes_on a b c xs ys g h = record {
  same = same_on a b c g.same h.same;
  grows = starts_on a.seen b.seen c.seen g.grows h.grows;
  calls = h.calls ∙ ap (λ z. z ++ ys) g.calls ∙ append_assoc (calls_in a) xs ys;
  idle = h.idle;
}

-- one command more, and its reply
pub zipped : (xs : List Command) (ys : List Reply) (x : Command) (y : Reply) → length ys ≡ length xs → zip (xs ++ x ∷ []) (map Some (ys ++ y ∷ [])) ≡ zip xs (map Some ys) ++ (x, Some y) ∷ []
zipped [] [] x y long = refl
zipped [] (b ∷ ys) x y long = absurd (omega (arith, long))
zipped (a ∷ xs) [] x y long = absurd (omega (arith, long))
zipped (a ∷ xs) (b ∷ ys) x y long = ap (λ z. (a, Some b) ∷ z) (zipped xs ys x y (omega (arith, long)))

-- one command of many was run
pub ran : (first mid new : Seat) (commands : List Command) (i : ℕ) (item command : Command) (replies news : List Reply) (reply : Reply)
    → GoesOn first (zip (take i commands) (map Some replies)) mid → GoesOn mid ((command, Some reply) ∷ []) new
    → command ≡ item → i < length commands → item ≡ slice_index_or commands i item → length replies ≡ i → news ≡ replies ++ reply ∷ []
    → GoesOn first (zip (take (i + 1) commands) (map Some news)) new
ran first mid new commands i item command replies news reply before now same below is count grown =
    let more : take (i + 1) commands ≡ take i commands ++ command ∷ [] = take_more commands i item below ∙ ap (λ z. take i commands ++ z ∷ []) (sym is ∙ sym same) in
    let long : length replies ≡ length (take i commands) = omega (arith, count, length-take i commands, below) in
    let zip_is : zip (take (i + 1) commands) (map Some news) ≡ zip (take i commands) (map Some replies) ++ (command, Some reply) ∷ [] =
    ap (λ z. zip z (map Some news)) more ∙ ap (λ z. zip (take i commands ++ command ∷ []) (map Some z)) grown ∙ zipped (take i commands) replies command reply long in
    rw zip_is (goes_on first mid new (zip (take i commands) (map Some replies)) ((command, Some reply) ∷ []) before now)
