-- An operation that runs alone ends, where nobody has placed a removal.
use Rattle.progress.proofs.Words.{◌≡◌, ◌<◌, ◌≤◌, ◌+◌, ◌-◌, ◌*◌, ℕ, suc, List, Some, true, cond, length, sym, ap, ◌∙◌, inl, inr, arith}
use Rattle.progress.proofs.Words.{mul-le-mul_left, cases_lt, count_by}
use Rattle.progress.proofs.Words.{◌||◌, slice_get, slice_range, Limits, Whether, TakePid, TakeRow, Entry, Begin, Step, cause_worth, Happens}
use Rattle.progress.proofs.Words.{memory_at, HasFewChanges, AreAmong, ChangesTree, IsDirect, IsRun, KeepsPhases}
use Rattle.progress.proofs.Words.{is_begin, steps_from, Hinders, RunsAlone, Command}
use Rattle.linearization.specs.UntilRemoval.{EndAloneUntilRemoval}
use Rattle.progress.proofs.Hindering.{among_hinder, changes_at, hinder, takes_beside, paid_by_hinder}
use Rattle.progress.proofs.Later.{paid_since}
use Rattle.progress.proofs.Tallies.{counted_range, listed, passes, passes_in, tally, tally_none, tally_split}

module _ (limits : Limits) (entries : List Entry) (a m n : ℕ) (alone : RunsAlone entries a m n) where
  -- what hinders it meanwhile is its own change of the tree
  own_change : (k : ℕ) → m ≤ k → k ≤ n → Happens limits entries k (Hinders a) → Happens limits entries k ChangesTree
  own_change k low high h = by_kind h.holds
    where
      step : Some h.entry ≡ Some (Step a (alone k low high).0 (alone k low high).1 (alone k low high).2.0)
      step = sym h.at ∙ (alone k low high).2.1

      by_kind : Hinders a (memory_at limits entries k) h.entry → Happens limits entries k ChangesTree
      by_kind (inl change) = record { entry = h.entry; at = h.at; holds = change }
      by_kind (inr (b, number, ne, inl took)) =
          absurd
          (ne (let e : Some (Step b (TakePid number) (Whether true) took.0) ≡ Some (Step a (alone k low high).0 (alone k low high).1 (alone k low high).2.0) = sym (ap Some took.1) ∙ step in cc))
      by_kind (inr (b, number, ne, inr took)) =
          absurd
          (ne (let e : Some (Step b (TakeRow number) (Whether true) took.0) ≡ Some (Step a (alone k low high).0 (alone k low high).1 (alone k low high).2.0) = sym (ap Some took.1) ∙ step in cc))

  -- and nobody begins anything
  begins_none : count_by is_begin (slice_range entries m n) ≡ 0
  begins_none = counted_range is_begin entries m (n - m) ∙ tally_none (passes_in is_begin entries) m (n - m) (λ i lt. ap (passes is_begin) (alone (m + i) (omega arith) (omega arith)).2.1)

  pub lone_changes : HasFewChanges limits entries → m ≤ n → tally (hinder limits entries a) m (suc n - m) ≤ 154 * limits.pids + 8 * limits.actors
  lone_changes few le =
      let list = listed (hinder limits entries a) m (suc n - m) in
      let among = among_hinder limits entries a m (suc n - m) n (omega arith) list in
      let changes : AreAmong limits entries m n ChangesTree list.places = record {
        increasing = among.increasing;
        each = λ i d lt. let h = among.each i d lt in (h.0, h.1, own_change _ h.0 h.1 h.2);
      } in
      let most = few.since m n list.places le changes in
      let counts = list.counts in
      omega (arith, most, counts, begins_none)

-- what hindered an operation until it ran alone, and since
pub lone_pays : (limits : Limits) (entries : List Entry) (changes : HasFewChanges limits entries) (worth a start m n steps earlier : ℕ) → start < m → m ≤ suc n → RunsAlone entries a m n
    → earlier ≡ tally (hinder limits entries a) start (m - start) → steps ≤ worth * (tally (hinder limits entries a) start (suc n - start) + 1)
    → steps ≤ worth * (earlier + 154 * limits.pids + 8 * limits.actors + 1)
lone_pays limits entries changes worth a start m n steps earlier after within alone counts paid =
    let parts : suc n - start ≡ (m - start) + (suc n - m) = omega arith in
    let at : start + (m - start) ≡ m = omega arith in
    let split : tally (hinder limits entries a) start (suc n - start) ≡ tally (hinder limits entries a) start (m - start) + tally (hinder limits entries a) m (suc n - m) =
    ap (tally (hinder limits entries a) start) parts ∙ tally_split (hinder limits entries a) start (m - start) (suc n - m)
    ∙ ap (λ k. tally (hinder limits entries a) start (m - start) + tally (hinder limits entries a) k (suc n - m)) at in
    let since : tally (hinder limits entries a) m (suc n - m) ≤ 154 * limits.pids + 8 * limits.actors = since_then in
    let most : tally (hinder limits entries a) start (suc n - start) + 1 ≤ earlier + 154 * limits.pids + 8 * limits.actors + 1 = omega (arith, split, since, counts) in
    let grown : worth * (tally (hinder limits entries a) start (suc n - start) + 1) ≤ worth * (earlier + 154 * limits.pids + 8 * limits.actors + 1) = mul-le-mul_left
    worth most in
    omega (arith, paid, grown)
  where
    since_then : tally (hinder limits entries a) m (suc n - m) ≤ 154 * limits.pids + 8 * limits.actors
    since_then = elim (cases_lt n m) [
      | inl past ↦ let none : suc n - m ≡ 0 = omega arith in let same : tally (hinder limits entries a) m (suc n - m) ≡ 0 = ap (tally (hinder limits entries a) m) none in omega (arith, same)
      | inr le ↦ lone_changes limits entries a m n alone changes le
    ]

-- nothing has hindered an operation when it begins
none_first : (limits : Limits) (entries : List Entry) (a start : ℕ) (c : Command) → slice_get entries start ≡ Some (Begin a c) → 0 ≡ tally (hinder limits entries a) start (suc start - start)
none_first limits entries a start c begun =
    let one : suc start - start ≡ 1 = omega arith in
    let here : start + 0 ≡ start = omega arith in
    sym (ap (tally (hinder limits entries a) start) one ∙ ap (λ k. 0 + cond {A = ℕ} (hinder limits entries a k) 1 0) here
    ∙ ap (λ o. 0 + cond {A = ℕ} (changes_at (memory_at limits entries start) o || takes_beside a o) 1 0) begun)

-- what hinders until an entry is enough, where there is nothing after it
pub enough : (limits : Limits) (worth hindrances steps : ℕ) → steps ≤ worth * (hindrances + 1) → steps ≤ worth * (hindrances + 154 * limits.pids + 8 * limits.actors + 1)
enough limits worth hindrances steps paid =
    let grown : worth * (hindrances + 1) ≤ worth * (hindrances + 154 * limits.pids + 8 * limits.actors + 1) = mul-le-mul_left worth (omega arith) in
    omega (arith, paid, grown)

pub lone_end : (limits : Limits) (entries : List Entry) → IsRun limits entries → KeepsPhases limits entries → IsDirect limits entries
    → HasFewChanges limits entries → EndAloneUntilRemoval limits entries
lone_end limits entries run keeps direct changes = record {
  few = λ op m n begun after own alone none.
      let list = listed (hinder limits entries op.actor) op.start (m - op.start) in
      let paid = paid_by_hinder limits entries run keeps direct op begun n none own in
      elim (cases_lt n m) [
        | inl past ↦
            let start : op.start < n = own.2.1.begun in
            let whole = listed (hinder limits entries op.actor) op.start (suc n - op.start) in (
              whole.places,
              among_hinder limits entries op.actor op.start (suc n - op.start) m (omega arith) whole,
              enough limits (cause_worth limits) (length whole.places)
                  (steps_from entries op.actor op.start n) (rw whole.counts paid),
            )
        | inr le ↦ (
          list.places,
          among_hinder limits entries op.actor op.start (m - op.start) m (omega arith) list,
          lone_pays limits entries changes (cause_worth limits) op.actor op.start m n (steps_from entries op.actor op.start n) (length list.places) after (omega arith) alone list.counts paid,
        )
      ];
  whole = λ op n begun own alone none.
      let start : op.start < n = own.2.1.begun in
      let same : 0 + 154 * limits.pids + 8 * limits.actors + 1 ≡ 154 * limits.pids + 8 * limits.actors + 1 = omega arith in
      rw (← same)
      (lone_pays limits entries changes (cause_worth limits) op.actor op.start (suc op.start) n (steps_from entries op.actor op.start n) 0 (omega arith) (omega arith) alone
      (none_first limits entries op.actor op.start op.command begun)
      (paid_by_hinder limits entries run keeps direct op begun n none own));
  since = λ op m n begun after le own alone none.
      let paid = paid_since limits entries run keeps direct op begun n none m after le own in
      let most = lone_changes limits entries op.actor m n alone changes le in
      let grown : cause_worth limits * (tally (hinder limits entries op.actor) m (suc n - m) + limits.pids + 11) ≤ cause_worth limits * (155 * limits.pids + 8 * limits.actors + 11) = mul-le-mul_left
      (cause_worth limits) (omega (arith, most)) in
      omega (arith, paid, grown);
}
