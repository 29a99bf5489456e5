-- Free numbers that are counted by words of free bits.
use Rattle.std.proofs.Common.{◌≡◌, ◌<◌, ◌≤◌, ◌+◌, ◌*◌, ◌/◌, ◌%◌, ◌^◌, ℕ, zero, suc, Bool, true, false, List, count_ones, ltb, refl, sym, ap, subst, arith, ◌∙◌}
use Rattle.running_tree.proofs.Words.{if◌then◌else◌, Limits, Extends, command_of, memory_of, OwnLasts, Answer, Number, Record, count_of, Kind, IsSame, Seat}
use Rattle.std.specs.Int.{bit_at}
use Rattle.std.proofs.lemmas.Nat.{ones-le}
use Rattle.std.proofs.lemmas.Nat.Bits.{bit_at-suc, bit_at_lowest}
use Rattle.std.proofs.Math.Nat.{pow-suc}
use lib.Count.{ones_step}
use Rattle.std.proofs.lemmas.Bool.{le-ltb, lt-ltb, ltb-true}
use Rattle.deltas.specs.Memory.{Memory, how_many}
use Rattle.traces.specs.declared.trace.Entry.{Entry}
use Rattle.traces.specs.trace.Steps.{IsAnswer, IsWordOf}
use Rattle.traces.proofs.OwnEntries.{extends_on, extends_self}
use Rattle.running_tree.specs.Room.{HasCounted, HasSeenRoom, HasWatched, bits_step, free_among, is_free}
use Rattle.change_machine.specs.declared.taking.Kind.TheVariants.{Pid, Row}
use Rattle.running_tree.specs.declared.room.Room.{Room}

abbrev mark : Bool → ℕ
mark b = if b then 1 else 0

how_many_first : (f : ℕ → Bool) (k : ℕ) → how_many f (suc k) ≡ mark (f 0) + how_many (λ i. f (suc i)) k
how_many_first f zero = omega arith
how_many_first f (suc k) = let rest = how_many_first f k in omega arith

pub how_many_split : (f : ℕ → Bool) (a b : ℕ) → how_many f (a + b) ≡ how_many f a + how_many (λ i. f (a + i)) b
how_many_split f a zero = let whole : a + 0 ≡ a = omega arith in ap (how_many f) whole ∙ omega arith
how_many_split f a (suc b) =
    let rest = how_many_split f a b in
    let whole : a + suc b ≡ suc (a + b) = omega arith in
    let one : how_many f (suc (a + b)) ≡ how_many f a + how_many (λ i. f (a + i)) (suc b) = omega (arith, rest) in
    ap (how_many f) whole ∙ one

how_many_same : (f g : ℕ → Bool) (n : ℕ) → ((i : ℕ) → i < n → f i ≡ g i) → how_many f n ≡ how_many g n
how_many_same f g zero same = refl
how_many_same f g (suc n) same =
    let rest = how_many_same f g n (λ i below. same i (omega (arith, below))) in
    let one : mark (f n) ≡ mark (g n) = ap mark (same n (omega arith)) in
    omega (arith, rest, one)

-- the bits of a number that are set are as many as are said
ones_are : (k n : ℕ) (f : ℕ → Bool) → n < 2 ^ k → ((i : ℕ) → i < k → bit_at n i ≡ mark (f i)) → count_ones n ≡ how_many f k
ones_are zero n f small says = omega (arith, ones-le 0 n small)
ones_are (suc k) n f small says =
    let double : 2 ^ suc k ≡ 2 ^ k * 2 = pow-suc 2 k in
    let half : count_ones (n / 2) ≡ how_many (λ i. f (suc i)) k = ones_are k (n / 2) (λ i. f (suc i)) (omega (arith, small, double))
    (λ i below. sym (bit_at-suc n i) ∙ says (suc i) (omega (arith, below))) in
    let low : n % 2 ≡ mark (f 0) = sym (bit_at_lowest n) ∙ says 0 (omega arith) in
    omega (arith, ones_step n, half, low, how_many_first f k)

pub word_counted : (free : ℕ → Bool) (word bits : ℕ) → IsWordOf free word bits → count_ones bits ≡ how_many (λ i. free (64 * word + i)) 64
word_counted free word bits is = ones_are 64 bits (λ i. free (64 * word + i)) is.fits is.says

abbrev number : ℕ → Answer Record
number n = Number n

same_number : (n m : ℕ) → number n ≡ number m → n ≡ m
same_number n m is = cc

-- the bits that a step would be told are those of the memory
pub bits_counted : (kind : Kind) (memory : Memory) (word bits : ℕ) → IsAnswer memory (bits_step kind word) (Number bits) → count_ones bits ≡ how_many (λ bit. is_free kind memory (64 * word + bit)) 64
bits_counted Pid memory word bits told = word_counted memory.free_pids word bits (subst (IsWordOf memory.free_pids word) (sym (same_number bits told.0 told.2)) told.1)
bits_counted Row memory word bits told = word_counted memory.free_rows word bits (subst (IsWordOf memory.free_rows word) (sym (same_number bits told.0 told.2)) told.1)

pub extends_trans : (actor : ℕ) (seen run later : List Entry) → Extends actor seen run → Extends actor run later → Extends actor seen later
extends_trans actor seen run later a b = subst (Extends actor seen) (sym b.1) (extends_on actor seen run b.0 b.2 a)

-- the runs of the words below k, and for each other word the last run
abbrev until : ℕ → (ℕ → List Entry) → List Entry → ℕ → List Entry
until k run_at later word = if ltb word k then run_at word else later

module _ (limits : Limits) (actor : ℕ) (kind : Kind) (seen : List Entry) where
  pub counted_none : HasCounted limits actor kind (64 * 0) seen seen 0
  counted_none = record {
    run_at = λ word. seen;
    first = extends_self actor seen;
    next = λ word. extends_self actor seen;
    last = λ word. extends_self actor seen;
    counted = refl;
  }

  -- one word more is counted, after a run that goes on
  module _ (k : ℕ) (now later : List Entry) (count more : ℕ) (h : HasCounted limits actor kind (64 * k) seen now count) (goes : Extends actor now later)
      (found : more ≡ how_many (λ bit. is_free kind (memory_of limits later) (64 * k + bit)) 64) where
    to_later : (word : ℕ) → Extends actor (h.run_at word) later
    to_later word = extends_trans actor (h.run_at word) now later (h.last word) goes

    from_before : (word : ℕ) (b : Bool) → Extends actor (h.run_at word) (if b then h.run_at word else later)
    from_before word true = extends_self actor (h.run_at word)
    from_before word false = to_later word

    to_last : (word : ℕ) (b : Bool) → Extends actor (if b then h.run_at word else later) later
    to_last word true = to_later word
    to_last word false = extends_self actor later

    to_next : (word : ℕ) (b c : Bool) → (c ≡ true → b ≡ true) → Extends actor (if b then h.run_at word else later) (if c then h.run_at (suc word) else later)
    to_next word b false up = to_last word b
    to_next word true true up = h.next word
    to_next word false true up = let apart : false ≡ true = up refl in cc

    abbrev free_then : ℕ → Bool
    free_then number = is_free kind (memory_of limits (until k h.run_at later (number / 64))) number

    -- the numbers of the words before are as they were, and those of the word are free in the memory after the last run
    before_it : (number : ℕ) → number < 64 * k → free_then number ≡ is_free kind (memory_of limits (h.run_at (number / 64))) number
    before_it number below =
        let is : ltb (number / 64) k ≡ true = lt-ltb (number / 64) k (omega (arith, below)) in
        ap (λ (b : Bool). is_free kind (memory_of limits (if b then h.run_at (number / 64) else later)) number) is

    in_it : (bit : ℕ) → bit < 64 → free_then (64 * k + bit) ≡ is_free kind (memory_of limits later) (64 * k + bit)
    in_it bit below =
        let is : ltb ((64 * k + bit) / 64) k ≡ false = le-ltb ((64 * k + bit) / 64) k (omega (arith, below)) in
        ap (λ (b : Bool). is_free kind (memory_of limits (if b then h.run_at ((64 * k + bit) / 64) else later)) (64 * k + bit)) is

    pub counted_more : HasCounted limits actor kind (64 * (k + 1)) seen later (count + more)
    counted_more = record {
      run_at = until k h.run_at later;
      first = extends_trans actor seen (h.run_at 0) (until k h.run_at later 0) h.first (from_before 0 (ltb 0 k));
      next = λ word. to_next word (ltb word k) (ltb (suc word) k) (λ is. lt-ltb word k (omega (arith, ltb-true (suc word) k is)));
      last = λ word. to_last word (ltb word k);
      counted =
          let whole : 64 * (k + 1) ≡ 64 * k + 64 = omega arith in
          let split : how_many free_then (64 * k + 64) ≡ how_many free_then (64 * k) + how_many (λ bit. free_then (64 * k + bit)) 64 = how_many_split free_then (64 * k) 64 in
          let old : how_many free_then (64 * k) ≡ free_among limits kind h.run_at (64 * k) = how_many_same free_then _ (64 * k) before_it in
          let one : how_many (λ bit. free_then (64 * k + bit)) 64 ≡ how_many (λ bit. is_free kind (memory_of limits later) (64 * k + bit)) 64 = how_many_same _ _ 64 in_it in
          (λ j. h.counted j + found j) ∙ (λ j. sym old j + sym one j) ∙ sym split ∙ ap (how_many free_then) (sym whole);
    }

-- the same of a seat
pub watched_more : (kind : Kind) (old now new : Seat) (word count more : ℕ) → IsSame old now
    → HasCounted old.limits old.actor kind (64 * word) old.seen now.seen count → HasWatched kind word now new more
    → HasCounted old.limits old.actor kind (64 * (word + 1)) old.seen new.seen (count + more)
watched_more kind old now new word count more same h watched =
    let extends : Extends old.actor now.seen new.seen = subst (λ (a : ℕ). Extends a now.seen new.seen) same.actor watched.extends in
    let found : more ≡ how_many (λ bit. is_free kind (memory_of old.limits new.seen) (64 * word + bit)) 64 =
    subst (λ (l : Limits). more ≡ how_many (λ bit. is_free kind (memory_of l new.seen) (64 * word + bit)) 64) same.limits watched.counted in
    counted_more old.limits old.actor kind old.seen word now.seen new.seen count more h extends found

counted_extends : (limits : Limits) (actor : ℕ) (kind : Kind) (n : ℕ) (seen later : List Entry) (count : ℕ) → HasCounted limits actor kind n seen later count → Extends actor seen later
counted_extends limits actor kind n seen later count h = extends_trans actor seen (h.run_at 0) later h.first (h.last 0)

pub room_seen : OwnLasts → (old mid new : Seat) (room : Room) → IsSame old mid → IsSame mid new → HasCounted old.limits old.actor Pid old.limits.pids old.seen mid.seen room.free_pids
    → HasCounted mid.limits mid.actor Row mid.limits.rows mid.seen new.seen room.free_rows → HasSeenRoom old room new
room_seen own old mid new room same same_on pids rows =
    let rows_so : HasCounted old.limits old.actor Row old.limits.rows mid.seen new.seen room.free_rows =
    subst (λ (z : Limits × ℕ). HasCounted z.0 z.1 Row z.0.rows mid.seen new.seen room.free_rows) (λ k. (same.limits k, same.actor k)) rows in
    let extends : Extends old.actor old.seen new.seen = extends_trans old.actor old.seen mid.seen new.seen (counted_extends _ _ _ _ _ _ _ pids) (counted_extends _ _ _ _ _ _ _ rows_so) in
    record {
      between = mid.seen;
      pids = pids;
      rows = rows_so;
      extends = extends;
      command = ap (command_of new.seen) (same_on.actor ∙ same.actor) ∙ (own old.limits old.actor old.seen new.seen extends).command;
    }

-- words of 64 are all that there are
whole_words : (limits : Limits) (kind : Kind) → count_of limits kind % 64 ≡ 0
whole_words limits Pid = limits.allowed.whole_pids
whole_words limits Row = limits.allowed.whole_rows

pub all_counted : (limits : Limits) (kind : Kind) (word all : ℕ) → all ≡ count_of limits kind → word ≤ all / 64 → all / 64 ≤ word → 64 * word ≡ count_of limits kind
all_counted limits kind word all same below over = let whole = whole_words limits kind in omega (arith, same, below, over, whole)
