-- What changes of the tree pay for of what a writer meets, after one entry more.
use Rattle.progress.proofs.Words.{◌≡◌, ◌<◌, ◌≤◌, ◌+◌, ◌-◌, ◌*◌, ◌++◌, ℕ, suc, List, [], ◌∷◌, length, drop, Bool, true, false, cond, refl, sym, ap, ◌∙◌, arith, ◌==◌, drop-append-le, either}
use Rattle.progress.proofs.Words.{Memory, add-mul, if◌then◌else◌, All-push, count_by, Limits, Entry, Happens, memory_of, increasing_push, pushed_length, ChangesTree, IsState, changes_tree}
use Rattle.progress.proofs.Words.{and-false, PaysForWriter, PaysMeets, few_meets, IsLawfulWriting, WriterMoment, WriterState, meets_at}
use Rattle.std.proofs.lemmas.List.{drop_all}
use Rattle.traces.proofs.TraceLaws.{Happens-last}
use Rattle.progress.specs.WriterStates.{MeetsFewer}
use Rattle.progress.specs.WritersAmong.{changes_among, own_meets}
use Rattle.progress.proofs.ReaderPays.{change_is, changes_kept, count_push, kept_enough}
use Rattle.progress.proofs.meetings.Among.{writers_meet_few}
use Rattle.progress.proofs.rounds.Counts.{many}
use Rattle.progress.proofs.rounds.Ending.{many_is_count}

end_enough : (left met : ℕ) → met ≡ 0 → left ≤ 21 → met + left ≤ (1 + 0) * 21
end_enough left met none few = omega (arith, none, few)

more_enough : (changes more before own left rest met : ℕ) → met ≡ before + own → own ≡ 0 → more ≡ suc changes → rest ≤ left + 21
    → before + left ≤ (1 + changes) * 21 → met + rest ≤ (1 + more) * 21
more_enough changes more before own left rest met same none one less paid = omega (arith, same, none, one, less, paid)

-- from the end of the trace on nothing is met
pub pays_end : (limits : Limits) (entries : List Entry) (actor m left : ℕ) → length entries ≤ m → left ≤ 21 → PaysMeets limits entries actor m left
pays_end limits entries actor m left past few = record {
  changes = [];
  increasing = λ j h. absurd (omega arith);
  each = λ j d h. absurd (omega arith);
  paid = end_enough left (count_by (meets_at actor) (drop m entries)) (ap (count_by (meets_at actor)) (drop_all m entries past)) few;
}

module _ (limits : Limits) (entries : List Entry) (last : Entry) (actor : ℕ) where
  abbrev longer : List Entry
  longer = entries ++ last ∷ []

  -- how often the entry is a meeting of the actor's
  abbrev pub met_now : ℕ
  met_now = cond (meets_at actor last) 1 0

  pub counted : (m : ℕ) → m ≤ length entries → count_by (meets_at actor) (drop m longer) ≡ count_by (meets_at actor) (drop m entries) + cond (meets_at actor last) 1 0
  counted m within = ap (count_by (meets_at actor)) (drop-append-le m entries (last ∷ []) within) ∙ count_push (meets_at actor) (drop m entries) last

  pub pays_kept : (m left rest : ℕ) → m ≤ length entries → rest + cond (meets_at actor last) 1 0 ≤ left → PaysMeets limits entries actor m left → PaysMeets limits longer actor m rest
  pays_kept m left rest within less h = record {
    changes = h.changes;
    increasing = h.increasing;
    each = changes_kept limits entries last actor m h.changes h.each;
    paid =
        kept_enough ((1 + length h.changes) * few_meets) (count_by (meets_at actor) (drop m entries)) (cond (meets_at actor last) 1 0) left rest
        (count_by (meets_at actor) (drop m longer)) (counted m within) less h.paid;
  }

  -- the entry changes the tree
  pub pays_more : (m left rest : ℕ) → m ≤ length entries → ChangesTree (memory_of limits entries) last → meets_at actor last ≡ false
      → rest ≤ left + 21 → PaysMeets limits entries actor m left → PaysMeets limits longer actor m rest
  pays_more m left rest within change none less h = record {
    changes = h.changes ++ length entries ∷ [];
    increasing = increasing_push h.changes (length entries) h.increasing
        (λ k d lt. (h.each k d lt).1);
    each =
        let long : length longer ≡ suc (length entries) = pushed_length entries last in
        All-push (λ place. (m ≤ place) × (place < length longer) × Happens limits longer place ChangesTree) h.changes (length entries)
        (changes_kept limits entries last actor m h.changes h.each) (within, omega arith, Happens-last limits entries last ChangesTree change);
    paid =
        more_enough (length h.changes) (length (h.changes ++ length entries ∷ [])) (count_by (meets_at actor) (drop m entries)) (cond (meets_at actor last) 1 0) left rest
        (count_by (meets_at actor) (drop m longer)) (counted m within) (ap (λ (b : Bool). cond {A = ℕ} b 1 0) none) (pushed_length h.changes (length entries)) less h.paid;
  }

moment_on : (own after all more changes left rest : ℕ) → all ≡ own + after → all ≤ left + (more + changes) * 21 → left + more * 21 ≤ rest + own → after ≤ rest + changes * 21
moment_on own after all more changes left rest same few less = omega (arith, same, few, less)

moment_some : (own all more left : ℕ) → all ≡ own + 0 → all ≤ left + (more + 0) * 21 → own ≤ left + more * 21
moment_some own all more left same few = omega (arith, same, few)

module _ (limits : Limits) (actor : ℕ) where
  -- in the memory of a state
  pub few_fresh : (entries : List Entry) (writer : WriterState) → IsState limits entries → MeetsFewer limits actor entries writer 21
  few_fresh entries writer state moments are =
      let few = writers_meet_few limits actor entries writer moments state are in
      let product = add-mul 1 (changes_among limits entries moments) few_meets in
      omega (arith, few, product)

  all_meets : (moment : WriterMoment) (moments : List WriterMoment) → own_meets actor (moment ∷ moments) ≡ cond (meets_at actor moment.entry) 1 0 + own_meets actor moments
  all_meets moment moments =
      sym_many (moment ∷ moments) ∙ ap (λ (n : ℕ). cond (meets_at actor moment.entry) 1 0 + n) (many_is_count (λ (m : WriterMoment). meets_at actor m.entry) moments)
    where
      sym_many : (xs : List WriterMoment) → own_meets actor xs ≡ many (λ (m : WriterMoment). meets_at actor m.entry) xs
      sym_many xs = sym (many_is_count (λ (m : WriterMoment). meets_at actor m.entry) xs)

  -- after one moment
  pub few_on : (entries : List Entry) (writer : WriterState) (moment : WriterMoment) (own more left rest : ℕ) → IsLawfulWriting limits actor entries writer moment
      → cond {A = ℕ} (meets_at actor moment.entry) 1 0 ≡ own → ◌≡◌ {A = ℕ} (if changes_tree (memory_of limits entries) moment.entry then 1 else 0) more
      → left + more * 21 ≤ rest + own → MeetsFewer limits actor entries writer left → MeetsFewer limits actor (entries ++ moment.entry ∷ []) moment.state rest
  few_on entries writer moment own more left rest is one changes less few moments are =
      let all = all_meets moment moments in
      let whole = few (moment ∷ moments) (is, are) in
      moment_on (cond {A = ℕ} (meets_at actor moment.entry) 1 0) (own_meets actor moments) (own_meets actor (moment ∷ moments)) (if changes_tree (memory_of limits entries) moment.entry then 1 else 0)
      (changes_among limits (entries ++ moment.entry ∷ []) moments) left rest all whole (omega (arith, less, one, changes))

  -- what the moment meets was left
  pub few_some : (entries : List Entry) (writer : WriterState) (moment : WriterMoment) (more left : ℕ) → IsLawfulWriting limits actor entries writer moment
      → ◌≡◌ {A = ℕ} (if changes_tree (memory_of limits entries) moment.entry then 1 else 0) more → MeetsFewer limits actor entries writer left
      → cond {A = ℕ} (meets_at actor moment.entry) 1 0 ≤ left + more * 21
  few_some entries writer moment more left is changes few =
      let all = all_meets moment [] in
      let whole = few (moment ∷ []) (is, tt) in
      let some = moment_some (cond {A = ℕ} (meets_at actor moment.entry) 1 0) (own_meets actor (moment ∷ [])) (if changes_tree (memory_of limits entries) moment.entry then 1 else 0) left all whole in
      omega (arith, some, changes)

-- with less left
pub pays_less : (limits : Limits) (entries : List Entry) (actor m left rest : ℕ) → rest ≤ left → PaysMeets limits entries actor m left → PaysMeets limits entries actor m rest
pays_less limits entries actor m left rest less h = record {
  changes = h.changes;
  increasing = h.increasing;
  each = h.each;
  paid = less_enough (count_by (meets_at actor) (drop m entries)) left rest ((1 + length h.changes) * few_meets) less h.paid;
}
  where
    less_enough : (met left rest bound : ℕ) → rest ≤ left → met + left ≤ bound → met + rest ≤ bound
    less_enough met left rest bound less paid = omega (arith, less, paid)

-- an exchange that changes the tree has won
change_won : (memory : Memory) (actor : ℕ) (entry : Entry) → ChangesTree memory entry → meets_at actor entry ≡ false
change_won memory actor entry c = rw c.5.0.1 (and-false (c.0 == actor))

-- One moment more, the writer's own or another actor's: what it meets was left, and a change of the tree pays for more.
pub goes_on : (limits : Limits) (entries : List Entry) (actor : ℕ) (writer : WriterState) (moment : WriterMoment) (m : ℕ) → IsLawfulWriting limits actor entries writer moment → m ≤ length entries
    → PaysForWriter limits entries actor writer m → PaysForWriter limits (entries ++ moment.entry ∷ []) actor moment.state m
goes_on limits entries actor writer moment m lawful within pays = either (changes_tree (memory_of limits entries) moment.entry) changed same
  where
    one_more : (left : ℕ) → left + 1 * 21 ≤ left + 21 + 0
    one_more left = omega arith

    as_much : (own left : ℕ) → own ≤ left + 0 * 21 → left + 0 * 21 ≤ left - own + own
    as_much own left some = omega (arith, some)

    spent : (own left : ℕ) → own ≤ left + 0 * 21 → left - own + own ≤ left
    spent own left some = omega (arith, some)

    changed : changes_tree (memory_of limits entries) moment.entry ≡ true → PaysForWriter limits (entries ++ moment.entry ∷ []) actor moment.state m
    changed on =
        let change = change_is (memory_of limits entries) moment.entry on in
        let none = change_won (memory_of limits entries) actor moment.entry change in
        record {
          left = pays.left + 21;
          few =
              few_on limits actor entries writer moment 0 1 pays.left (pays.left + 21) lawful (ap (λ (b : Bool). cond {A = ℕ} b 1 0) none)
              (ap (λ (b : Bool). if◌then◌else◌ {A = ℕ} b 1 0) on) (one_more pays.left) pays.few;
          pays = pays_more limits entries moment.entry actor m pays.left (pays.left + 21) within change none (omega arith) pays.pays;
        }

    same : changes_tree (memory_of limits entries) moment.entry ≡ false → PaysForWriter limits (entries ++ moment.entry ∷ []) actor moment.state m
    same off =
        let zeroth : ◌≡◌ {A = ℕ} (if changes_tree (memory_of limits entries) moment.entry then 1 else 0) 0 = rw off in
        let some = few_some limits actor entries writer moment 0 pays.left lawful zeroth pays.few in
        record {
          left = pays.left - cond (meets_at actor moment.entry) 1 0;
          few =
              few_on limits actor entries writer moment (cond (meets_at actor moment.entry) 1 0) 0 pays.left (pays.left - cond (meets_at actor moment.entry) 1 0) lawful refl zeroth
              (as_much (cond (meets_at actor moment.entry) 1 0) pays.left some) pays.few;
          pays =
              pays_kept limits entries moment.entry actor m pays.left (pays.left - cond (meets_at actor moment.entry) 1 0) within
              (spent (cond (meets_at actor moment.entry) 1 0) pays.left some) pays.pays;
        }

-- a writer from the end of a state on
pub writer_fresh : (limits : Limits) (entries : List Entry) (actor : ℕ) (writer : WriterState) (m : ℕ) → IsState limits entries
    → PaysMeets limits entries actor m 21 → PaysForWriter limits entries actor writer m
writer_fresh limits entries actor writer m state pays = record { left = 21; few = few_fresh limits actor entries writer state; pays = pays }
