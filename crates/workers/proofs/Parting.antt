-- Workers are made of seats, and parted from them again.
use Rattle.workers.specs.Worked.{AreNamed}
use Rattle.workers.proofs.Words.{All, All-weaker, AreIdle, AreResultsOf, AreSeatsOf, Bool, Command, GoesOn, HaveComeBack, IsPermutation, Job, JobResult, List}
use Rattle.workers.proofs.Words.{Reply, Seat, Some, Tree, Worker, ap, append-nil, arith, calls_told, false, flat_map, flat_map-append, index_is, length}
use Rattle.workers.proofs.Words.{length-map, map, map-append, refl, same_Some, same_on, slice_get, slice_get_below, starts_on, subst, suc, sym, there, true}
use Rattle.workers.proofs.Words.{vec_len, zero, ℕ, [], ◌*◌, ◌++◌, ◌+◌, ◌<◌, ◌∙◌, ◌∷◌, ◌≡◌, ◌≤◌}
use Rattle.std.proofs.Common.{Vec}
use Rattle.std.specs.Prelude.{MatchBool, Option}
use Rattle.std.specs.List.Sorted.{IsNonDecreasingBy}
use Rattle.std.proofs.Math.Nat.{mul-le-mul_right}
use Rattle.std.proofs.lemmas.List.Sorted.{All-permutation}
use Rattle.workers.specs.declared.job.JobsRefusal.{JobsRefusal}
use Rattle.workers.specs.declared.job.JobsRefusal.TheVariants.{NotRun, Results}
use Rattle.seats.specs.Gathered.{HaveGathered, SeesOn}
use Rattle.workers.specs.Worked.{HasWorked, HaveOneHistory, HaveStopped, HaveWorked}
use Rattle.workers.specs.Begun.{ComesBack}
use Rattle.workers.proofs.Named.{ArePlaced, all_within, done_by, named, reordered}

abbrev pub seat_of : {A : Type 0} → Worker A → Seat
seat_of worker = worker.seat

-- one worker more was parted
pub seats_more : {A : Type 0} (seats news : List Seat) (ones : List (Worker A)) (seat : Seat) (one : Worker A) → news ≡ seats ++ seat ∷ [] → seat ≡ one.seat
    → seats ≡ map seat_of ones → news ≡ map seat_of (ones ++ one ∷ [])
seats_more seats news ones seat one more is before = more ∙ ap (λ z. seats ++ z ∷ []) is ∙ ap (λ z. z ++ one.seat ∷ []) before ∙ sym (map-append seat_of ones (one ∷ []))

pub results_more : {A : Type 0} (results news : List (JobResult A)) (ones : List (Worker A)) (done : Vec (JobResult A) A) (one : Worker A)
    → news ≡ results ++ done.items → done ≡ one.done → results ≡ flat_map done_by ones → news ≡ flat_map done_by (ones ++ one ∷ [])
results_more results news ones done one more is before =
    more ∙ ap (λ z. results ++ z.items) is ∙ ap (λ z. z ++ one.done.items) before ∙ sym (flat_map-append done_by ones (one ∷ []) ∙ ap (λ z. flat_map done_by ones ++ z) (append-nil one.done.items))

times_more : (n k : ℕ) → (n + 1) * k ≡ n * k + k
times_more n k = omega arith

pub few_more : {A : Type 0} (before after limit count more : ℕ) (done : Vec (JobResult A) A) (one : Worker A) → after ≡ before + vec_len done → done ≡ one.done
    → vec_len one.done ≤ limit → before ≤ count * limit → more ≡ count + 1 → after ≤ more * limit
few_more before after limit count more done one added is few some next =
    let long = ap (λ z. vec_len z) is in
    let times = ap (λ n. n * limit) next ∙ times_more count limit in omega (arith, added, long, few, some, times)

-- and there is room for its results
pub has_room : {A : Type 0} (before room limit count all : ℕ) (done : Vec (JobResult A) A) (one : Worker A) → done ≡ one.done → vec_len one.done ≤ limit
    → before ≤ count * limit → count < all → all * limit ≤ room → room < before + vec_len done → ⊥
has_room before room limit count all done one is few some below given full =
    let long = ap (λ z. vec_len z) is in
    let most : (count + 1) * limit ≤ all * limit = mul-le-mul_right limit (omega (arith, below)) in
    let times = times_more count limit in omega (arith, long, few, some, most, times, given, full)

-- what stands in a mapped list is of what stands in the list
of_map : {X Y : Type 0} (f : X → Y) (xs : List X) (n : ℕ) (y : Y) → slice_get (map f xs) n ≡ Some y → (x : X) × (slice_get xs n ≡ Some x) × (f x ≡ y)
of_map f [] n y e = cc
of_map f (x ∷ xs) zero y e = (x, refl, same_Some (f x) y e)
of_map f (x ∷ xs) (suc n) y e = of_map f xs n y e

-- what holds of each element of a mapped list
all_mapped : {X Y : Type 0} (f : X → Y) (P : Y → Type 0) (xs : List X) → ((n : ℕ) (y : Y) → slice_get (map f xs) n ≡ Some y → P y) → All (λ x. P (f x)) xs
all_mapped f P [] each n d below = absurd (omega (arith, below))
all_mapped f P (x ∷ xs) each zero d below = each 0 (f x) refl
all_mapped f P (x ∷ xs) each (suc n) d below = all_mapped f P xs (λ m y e. each (suc m) y e) n d (omega (arith, below))

-- what holds of each seat holds of each worker's
pub all_seats : {A : Type 0} (P : Seat → Type 0) (workers : List (Worker A)) → ((n : ℕ) (seat : Seat) → slice_get (map seat_of workers) n ≡ Some seat → P seat)
    → All (λ worker. P (seat_of worker)) workers
all_seats P workers each = all_mapped seat_of P workers each

-- two lists of one length, of which each element of the one is that of the other
same_list : {X : Type 0} (xs ys : List X) → length ys ≡ length xs → ((n : ℕ) (x y : X) → slice_get xs n ≡ Some x → slice_get ys n ≡ Some y → y ≡ x) → ys ≡ xs
same_list [] [] count each = refl
same_list [] (y ∷ ys) count each = absurd (omega (arith, count))
same_list (x ∷ xs) [] count each = absurd (omega (arith, count))
same_list (x ∷ xs) (y ∷ ys) count each =
    ap (λ z. z ∷ ys) (each 0 x y refl refl) ∙ ap (λ zs. x ∷ zs) (same_list xs ys (omega (arith, count)) (λ n. each (suc n)))

-- where no job might be run all workers are as they were
pub all_same : {A : Type 0} (told : Bool) (limit : ℕ) (olds news : List (Worker A)) → HaveComeBack told limit olds news → told ≡ false → news ≡ olds
all_same told limit olds news back is =
    let same = rw is at back in
    same_list olds news same.count same.each

few_of : {A : Type 0} (told : Bool) (limit place : ℕ) (old new : Worker A) → vec_len old.done ≤ limit → ComesBack told limit place old new → vec_len new.done ≤ limit
few_of true limit place old new few comes = comes.0.few
few_of false limit place old new few same = rw same few

-- no worker has more results than there are jobs
pub all_few : {A : Type 0} (told : Bool) (limit : ℕ) (olds news : List (Worker A)) → All (λ w. vec_len w.done ≤ limit) olds → HaveComeBack told limit olds news → All (λ w. vec_len w.done ≤ limit) news
all_few told limit olds news few back k d below =
    let new = there news k below in
    let old = there olds k (omega (arith, below, back.count)) in
    let before = rw (index_is olds k old.0 d old.1) at (few k d (omega (arith, below, back.count))) in
    rw (index_is news k new.0 d new.1) (few_of told limit k old.0 new.0 before (back.each k old.0 new.0 old.1 new.1))

placed : {A : Type 0} (limit : ℕ) (olds news : List (Worker A)) → HaveComeBack true limit olds news → ArePlaced 0 news
placed limit olds news back n worker at =
    let below = slice_get_below news n worker at in
    let old = there olds n (omega (arith, below, back.count)) in
    All-weaker (λ result. result.seat ≡ n) (λ result. result.seat ≡ 0 + n) (λ result e. omega (arith, e)) (done_by worker) (back.each n old.0 worker old.1 at).0.named

none_more : (place : ℕ) → 0 + place ≡ place
none_more place = omega arith

-- where jobs might be run all seats have worked
pub have_worked : {A : Type 0} (told : Bool) (limit : ℕ) (olds news : List (Worker A)) → HaveComeBack told limit olds news → told ≡ true
    → HaveWorked (flat_map done_by news) (map seat_of olds) (map seat_of news)
have_worked told limit olds news comes is =
    let back = subst (λ z. HaveComeBack z limit olds news) is comes in
    let many = length-map olds seat_of in
    let same = back.count in record {
      count = length-map news seat_of ∙ back.count ∙ sym (length-map olds seat_of);
      seated = all_within (length (map seat_of olds)) 0 news (omega (arith, many, same)) (placed limit olds news back);
      each = λ place before after at_before at_after.
          let old = of_map seat_of olds place before at_before in
          let new = of_map seat_of news place after at_after in
          let h = back.each place old.0 new.0 old.1 new.1 in
          subst (HasWorked (flat_map done_by news) place before) new.2 (subst (λ z. HasWorked (flat_map done_by news) place z (seat_of new.0)) old.2 record {
            order = done_by new.0;
            named = subst (λ k. AreNamed k (flat_map done_by news) (done_by new.0)) (none_more place) (named 0 news (placed limit olds news back) place new.0 new.1);
            goes = h.0.goes;
            history = h.1;
          });
    }

-- in whatever order the results stand
pub worked_reordered : {A : Type 0} (xs ys : List (JobResult A)) (olds news : List Seat) → IsPermutation xs ys → HaveWorked xs olds news → HaveWorked ys olds news
worked_reordered xs ys olds news moved worked = record {
  count = worked.count;
  seated = All-permutation (λ result. result.seat < length olds) xs ys moved worked.seated;
  each = λ place before after at_before at_after.
      let h = worked.each place before after at_before at_after in
      record { order = h.order; named = reordered place xs ys h.order moved h.named; goes = h.goes; history = h.history };
}

-- seats that have worked are the tree's, and idle
pub own_after : {A : Type 0} (tree : Tree) (results : List (JobResult A)) (olds news : List Seat) → HaveWorked results olds news → AreSeatsOf tree olds → AreSeatsOf tree news
own_after tree results olds news worked own place after at =
    let below = slice_get_below news place after at in
    let old = there olds place (omega (arith, below, worked.count)) in
    let before = own place old.0 old.1 in
    let h = (worked.each place old.0 after old.1 at).goes in
    record { table = h.same.table ∙ before.table; limits = h.same.limits ∙ before.limits }

pub idle_after : {A : Type 0} (results : List (JobResult A)) (olds news : List Seat) → HaveWorked results olds news → AreIdle news
idle_after results olds news worked place after at =
    let below = slice_get_below news place after at in
    let old = there olds place (omega (arith, below, worked.count)) in
    (worked.each place old.0 after old.1 at).goes.idle

pub worked_as : {A : Type 0} (results others : List (JobResult A)) (olds before news after : List Seat) → HaveWorked results olds news → others ≡ results
    → before ≡ olds → after ≡ news → HaveWorked others before after
worked_as results others olds before news after worked same_results same_olds same_news =
    rw same_results (rw same_olds (subst (HaveWorked results olds) (sym same_news) worked))

-- and when they see what all have seen
goes_on_seen : (old mid new : Seat) (made : List (Command × Option Reply)) → GoesOn old made mid → SeesOn mid new → GoesOn old made new
goes_on_seen old mid new made goes on = record {
  same = same_on old mid new goes.same on.same;
  grows = starts_on old.seen mid.seen new.seen goes.grows (on.extends.0, on.extends.1);
  calls = on.calls ∙ goes.calls;
  idle = on.command ∙ goes.idle;
}

-- each seat was there before
was_there : (mids news : List Seat) → HaveGathered mids news → (n : ℕ) (new : Seat) → slice_get news n ≡ Some new → (mid : Seat) × (slice_get mids n ≡ Some mid)
was_there mids news g n new at =
    let below = slice_get_below news n new at in
    let count = g.count in there mids n (omega (arith, below, count))

pub gathered : {A : Type 0} (results : List (JobResult A)) (olds mids news : List Seat) → HaveWorked results olds mids → HaveGathered mids news → HaveWorked results olds news
gathered results olds mids news worked g = record {
  count = g.count ∙ worked.count;
  seated = worked.seated;
  each = λ place old new at_old at_new.
      let mid = was_there mids news g place new at_new in
      let h = worked.each place old mid.0 at_old mid.1 in
      let sees = g.each place mid.0 new mid.1 at_new in
      record { order = h.order; named = h.named; goes = goes_on_seen old mid.0 new (flat_map calls_told h.order) h.goes sees.on; history = sees.history };
}

pub one_history : (mids news : List Seat) → HaveGathered mids news → HaveOneHistory news
one_history mids news g = (g.run, λ n seat at. let mid = was_there mids news g n seat at in (g.each n mid.0 seat mid.1 at).all)

-- what a refusal is told with
pub stopped : {A : Type 0} (jobs : List Job) (refusal : JobsRefusal) (results given : List (JobResult A)) (olds news backs : List Seat) → refusal ≡ Results
    → given ≡ results → backs ≡ news → HaveWorked results olds news → HaveOneHistory news
    → IsNonDecreasingBy (λ result. result.job) results → (AreResultsOf jobs results → ⊥) → HaveStopped jobs refusal given olds backs
stopped jobs refusal results given olds news backs is same_results same worked one order other =
    rw is (rw same_results (subst (HaveStopped jobs Results results olds) (sym same) (worked, one, order, other)))

-- where no job was run the seats are as they were
pub not_run : {A : Type 0} (jobs : List Job) (refusal : JobsRefusal) (results : List (JobResult A)) (olds backs : List Seat) → refusal ≡ NotRun → backs ≡ olds
    → results ≡ [] → HaveStopped jobs refusal results olds backs
not_run jobs refusal results olds backs is same none = rw is (same, none)

-- what is so where a test is false
pub where_false : (P Q : Type 0) (test : Bool) → test ≡ false → MatchBool test P Q → Q
where_false P Q test is h = rw is at h
