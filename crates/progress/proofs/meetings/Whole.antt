-- Changes of the tree and numbers that others take pay for all steps of a run, an operation that runs alone ends, and all together are lock-free, where
-- writers meet what is gone seldom.
use Rattle.progress.proofs.Words.{◌<◌, ◌≤◌, ◌+◌, ◌-◌, ◌*◌, ℕ, suc, List, length, take, inl, inr, arith, mul-le-mul_left, cases_lt, count_by, Limits, Entry, IsRun, HasFewChanges, IsDirect}
use Rattle.progress.proofs.Words.{IsOperation, IsOwnStep, Operation, is_begin, steps_from, ReadersEnd, hindrance_worth, MeetsSeldom}
use Rattle.linearization.specs.Progress.{is_end, is_step}
use Rattle.linearization.specs.Whole.{AlwaysEndAlone, AreLockFree, OperationsEnd, most_worth}
use Rattle.progress.specs.Writers.{RunsMakeProgress}
use Rattle.progress.proofs.Alone.{enough, lone_changes, lone_pays}
use Rattle.progress.proofs.Hindering.{among_hinder, hinder}
use Rattle.progress.proofs.Tallies.{listed, tally}
use Rattle.progress.proofs.Together.{all_few, by_ends, open_most}
use Rattle.progress.proofs.meetings.Paying.{paid_by_all, within_most}
use Rattle.progress.proofs.meetings.Since.{paid_since}

module _ (limits : Limits) (entries : List Entry) (run : IsRun limits entries) (direct : IsDirect limits entries) (ends : ReadersEnd limits entries) (seldom : MeetsSeldom limits entries)
    (changes : HasFewChanges limits entries) where
  all_end : OperationsEnd limits entries
  all_end = record {
    few = λ op n begun own.
        let list = listed (hinder limits entries op.actor) op.start (suc n - op.start) in
        let start : op.start < n = own.2.1.begun in
        let paid = paid_by_all limits entries run direct op begun n ends seldom own in
        (list.places, among_hinder limits entries op.actor op.start (suc n - op.start) n (omega arith) list, rw list.counts paid);
    since = λ op m n begun after le own.
        let list = listed (hinder limits entries op.actor) m (suc n - m) in
        let paid = paid_since limits entries run direct op begun m n le ends seldom after own in
        (list.places, among_hinder limits entries op.actor m (suc n - m) n (omega (arith, le)) list, rw list.counts paid);
  }

  alone : AlwaysEndAlone limits entries
  alone = record {
    few = λ op m n begun after own apart.
        let list = listed (hinder limits entries op.actor) op.start (m - op.start) in
        let paid = paid_by_all limits entries run direct op begun n ends seldom own in
        elim (cases_lt n m) [
          | inl past ↦
              let start : op.start < n = own.2.1.begun in
              let whole = listed (hinder limits entries op.actor) op.start (suc n - op.start) in (
                whole.places,
                among_hinder limits entries op.actor op.start (suc n - op.start) m (omega arith) whole,
                enough limits (hindrance_worth limits op.command) (length whole.places) (steps_from entries op.actor op.start n) (rw whole.counts paid),
              )
          | inr le ↦ (
            list.places,
            among_hinder limits entries op.actor op.start (m - op.start) m (omega arith) list,
            lone_pays limits entries changes (hindrance_worth limits op.command) op.actor op.start m n (steps_from entries op.actor op.start n) (length list.places) after (omega arith) apart
                list.counts paid,
          )
        ];
    since = λ op m n begun after le own apart.
        let paid = paid_since limits entries run direct op begun m n le ends seldom after own in
        let most = lone_changes limits entries op.actor m n apart changes le in
        grown (hindrance_worth limits op.command) (steps_from entries op.actor m n) (tally (hinder limits entries op.actor) m (suc n - m)) (154 * limits.pids + 8 * limits.actors) most paid;
  }
    where
      grown : (worth steps hinders most : ℕ) → hinders ≤ most → steps ≤ worth * (hinders + 2) → steps ≤ worth * (most + 2)
      grown worth steps hinders most le paid = let more : worth * (hinders + 2) ≤ worth * (most + 2) = mul-le-mul_left worth (omega (arith, le)) in omega (arith, paid, more)

  pays : (top : ℕ) (op : Operation) (n : ℕ) → n ≤ top → IsOperation entries op → IsOwnStep entries op n
      → steps_from entries op.actor op.start n ≤ most_worth limits * (tally (hinder limits entries op.actor) op.start (suc n - op.start) + 1)
  pays top op n le begun own =
      within_most limits op.command (steps_from entries op.actor op.start n) (tally (hinder limits entries op.actor) op.start (suc n - op.start) + 1)
      (paid_by_all limits entries run direct op begun n ends seldom own)

  together : AreLockFree limits entries
  together = record {
    few = λ n. all_few limits entries run (most_worth limits) n (pays n) changes;
    ended = λ n. by_ends limits (most_worth limits) (count_by is_step (take n entries)) (count_by is_begin (take n entries)) (count_by is_end (take n entries))
        (open_most limits entries run n) (all_few limits entries run (most_worth limits) n (pays n) changes);
  }

pub runs_progress : RunsMakeProgress
runs_progress limits entries run direct ends seldom changes = record {
  ends = all_end limits entries run direct ends seldom changes;
  alone = alone limits entries run direct ends seldom changes;
  together = together limits entries run direct ends seldom changes;
}
