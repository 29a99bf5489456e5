-- Seats that have seen one run, in which each has all its calls.
use Rattle.std.proofs.Common.{inl, inr, ◌≡◌, ◌<◌, ◌++◌, ◌∷◌, [], ◌∙◌, ℕ, zero, suc, List, Some, ap, arith, length, refl, subst, sym}
use Rattle.std.specs.Prelude.{slice_get}
use Rattle.std.proofs.lemmas.List.{append_assoc, append_cancel_left, length-append}
use Rattle.traces.specs.declared.trace.Entry.{Entry}
use Rattle.traces.specs.discipline.Disciplined.{Extends, own_entries}
use Rattle.traces.proofs.OwnEntries.{extends_self, own_append, own_extends}
use Rattle.traces.proofs.Pushes.{slice_get-push_cases, slice_get_below}
use Rattle.tree_law.specs.Own.{OwnLasts}
use Rattle.running_tree.specs.Calls.{calls_along}
use Rattle.running_tree.specs.Notes.{HasHeeded, note_of}
use Rattle.running_tree.specs.Runs.{IsOneHistory, StartsWith}
use Rattle.running_tree.specs.Seats.{Seat}
use Rattle.running_tree.specs.Trees.{AreSeatsOf, IsSeatOf, Tree}
use Rattle.seats.specs.Gathered.{IsHistoryOf, HasSeenAll, HaveGathered, HaveHeeded, IsGathered, SeesOn}
use Rattle.seats.proofs.Seeing.{heeded}

left_empty : {X : Type 0} (xs ys : List X) → xs ++ ys ≡ [] → xs ≡ []
left_empty [] ys e = refl
left_empty (x ∷ xs) ys e = cc

right_empty : {X : Type 0} (xs ys : List X) → xs ++ ys ≡ [] → ys ≡ []
right_empty [] ys e = e
right_empty (x ∷ xs) ys e = cc

-- A run stands between two, and the actor has no entries from the first to the last: so it has none to the middle, and none from there.
module _ (actor : ℕ) (a b c : List Entry) (to : StartsWith b a) (from : StartsWith c b) (whole : Extends actor a c) where
  parts : whole.0 ≡ to.0 ++ from.0
  parts = append_cancel_left a whole.0 (to.0 ++ from.0) (sym whole.1 ∙ from.1 ∙ ap (λ z. z ++ from.0) to.1 ∙ append_assoc a to.0 from.0)

  none : own_entries actor to.0 ++ own_entries actor from.0 ≡ []
  none = sym (own_append actor to.0 from.0) ∙ ap (own_entries actor) (sym parts) ∙ whole.2

  pub extends_to : Extends actor a b
  extends_to = (to.0, to.1, left_empty (own_entries actor to.0) (own_entries actor from.0) none)

  pub extends_from : Extends actor b c
  extends_from = (from.0, from.1, right_empty (own_entries actor to.0) (own_entries actor from.0) none)

is_history : (run : List Entry) (seat : Seat) → IsOneHistory seat.limits run → Extends seat.actor run seat.seen → IsHistoryOf run seat
is_history run seat history extends = record { history = history; extends = extends; calls = ap (calls_along []) (sym (own_extends seat.actor run seat.seen extends)) }

-- the seat whose note the others have heeded
one_gathered : (old new : Seat) → SeesOn old new → IsOneHistory new.limits new.seen → IsGathered new.seen old new
one_gathered old new on history = record {
  on = on;
  extends = on.extends;
  all = is_history new.seen new history (extends_self new.actor new.seen);
  history = history;
}

-- and one of these
other_gathered : OwnLasts → (one old new : Seat) → IsOneHistory new.limits one.seen → StartsWith one.seen old.seen → HasHeeded old (note_of one) new
    → IsOneHistory new.limits new.seen → IsGathered one.seen old new
other_gathered own one old new of_one starts h history = record {
  on = heeded own old new (note_of one) h;
  extends = extends_to old.actor old.seen one.seen new.seen starts h.begins h.extends;
  all = is_history one.seen new of_one (subst (λ n. Extends n one.seen new.seen) (sym h.same.actor) (extends_from old.actor old.seen one.seen new.seen starts h.begins h.extends));
  history = history;
}

-- the others, and the one behind them
module _ (own : OwnLasts) (tree : Tree) (front others olds news : List Seat) (last later : Seat) (before : olds ≡ front ++ last ∷ []) (after : news ≡ others ++ later ∷ [])
    (own_front : AreSeatsOf tree front) (own_last : IsSeatOf tree last) (on : SeesOn last later) (seen : HasSeenAll front later) (heeds : HaveHeeded (note_of later) front others) where
  one_of_front : (n : ℕ) (old new : Seat) → slice_get front n ≡ Some old → slice_get others n ≡ Some new → IsGathered later.seen old new
  one_of_front n old new there there_new =
      let h = heeds.each n old new there there_new in
      let limits : later.limits ≡ new.limits = on.same.limits ∙ own_last.limits ∙ sym (h.0.same.limits ∙ (own_front n old there).limits) in
      other_gathered own later old new (subst (λ z. IsOneHistory z later.seen) limits seen.history) (seen.each n old there) h.0 h.1

  pub all_gathered : HaveGathered olds news
  all_gathered =
      let long = ap length before in
      let long_after = ap length after in
      let is_long = length-append front (last ∷ []) in
      let is_long_after = length-append others (later ∷ []) in
      let count = heeds.count in record {
        run = later.seen;
        count = omega (arith, long, long_after, is_long, is_long_after, count);
        each = λ n old new at_old at_new. elim (slice_get-push_cases front last n old (sym (ap (λ z. slice_get z n) before) ∙ at_old)) [
          | inl there ↦ elim (slice_get-push_cases others later n new (sym (ap (λ z. slice_get z n) after) ∙ at_new)) [
            | inl there_new ↦ one_of_front n old new there there_new
            | inr is ↦ let below = slice_get_below front n old there in let place = is.0 in absurd (omega (arith, below, place, count))
          ]
          | inr is ↦ elim (slice_get-push_cases others later n new (sym (ap (λ z. slice_get z n) after) ∙ at_new)) [
            | inl there_new ↦ let below = slice_get_below others n new there_new in let place = is.0 in absurd (omega (arith, below, place, count))
            | inr is_new ↦ subst (λ z. IsGathered later.seen z new) (sym is.1) (subst (IsGathered later.seen last) (sym is_new.1) (one_gathered last later on seen.history))
          ]
        ];
      }

-- something stands at each place within
pub there : {X : Type 0} (xs : List X) (n : ℕ) → n < length xs → (x : X) × (slice_get xs n ≡ Some x)
there [] n below = absurd (omega (arith, below))
there (x ∷ xs) zero below = (x, refl)
there (x ∷ xs) (suc n) below = there xs n (omega (arith, below))

-- they are the tree's, as they were
pub own_gathered : (tree : Tree) (olds news : List Seat) → HaveGathered olds news → AreSeatsOf tree olds → AreSeatsOf tree news
own_gathered tree olds news h own n new at =
    let below = slice_get_below news n new at in
    let count = h.count in
    let old = there olds n (omega (arith, below, count)) in
    let was = own n old.0 old.1 in
    let same = (h.each n old.0 new old.1 at).on.same in
    record { table = same.table ∙ was.table; limits = same.limits ∙ was.limits }
