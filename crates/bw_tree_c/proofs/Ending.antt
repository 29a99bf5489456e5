-- An open tree is closed: its last slot is out, then those of its seats, or not.
use Rattle.std.proofs.Common.{◌≡◌, ◌∙◌, ◌⊎◌, ℕ, None, Some, ap, arith, inl, inr, subst, sym, ⊎_elim}
use Rattle.bw_tree_c.specs.Closing.{IsHeld, IsOutElsewhere, HasUnfinished, IsRefusedFor, LooksOn, RunsNothing}
use Rattle.bw_tree_c.specs.Handles.{MayCall, opened_in}
use Rattle.bw_tree_c.specs.Receipts.{SeatHand}
use Rattle.bw_tree_c.specs.Shutting.{AreAllIdle, GoesTo, IsInside, IsKeptAs, HasStoppedClosing, IsStoppedFor}
use Rattle.bw_tree_c.specs.Statuses.{status_of_refusal}
use Rattle.bw_tree_c.specs.declared.handle.shared.Shared.{Shared}
use Rattle.bw_tree_c.specs.declared.handle.slots.Inside.{Inside}
use Rattle.bw_tree_c.specs.declared.handle.slots.Inside.TheVariants as inside
use Rattle.bw_tree_c.specs.declared.receipt.Receipt.{Receipt}
use Rattle.bw_tree_c.specs.declared.refusal.Refusal.{Refusal}
use Rattle.bw_tree_c.specs.declared.statuses.TheConstants.{BUSY, NO_MEMORY, UNFINISHED}
use Rattle.running_tree.specs.Seats.{Seat}
use Rattle.bw_tree_c.proofs.Shut.{all_run, only_last}
use Rattle.bw_tree_c.proofs.Stopping.{stopped_busy, stopped_mid, stopped_unfinished}

no_seat : (P : Type 0) (seat : Seat) → None ≡ Some seat → P
no_seat P seat e = cc

-- It waits, whole, or is open still.
pub held_open : (shared : Shared) (since : Receipt) (hand : SeatHand) (kept : Inside) (it : Receipt) → IsKeptAs shared since LooksOn hand kept it → IsHeld shared since it
held_open shared since hand kept it back = record {
  author = back.author;
  mine = back.mine;
  written = back.written;
  deeds = all_run back.author back.mine back.deeds;
  kept = kept;
  waits = back.waits;
}

module _ (shared : Shared) (since : Receipt) (may : MayCall shared since) (n : ℕ) (is : n ≡ shared.limits.actors) (old : SeatHand)
    (mid : IsInside shared since may shared.limits.actors 0 LooksOn inside.Nothing old) where
  pub mid_n : IsInside shared since may n 0 LooksOn inside.Nothing old
  mid_n = subst (λ k. IsInside shared since may k 0 LooksOn inside.Nothing old) (sym is) mid

  -- The slots of all seats are out.
  module _ (out : SeatHand) (goes : GoesTo shared old n 0 LooksOn out 0 0 LooksOn) where
    pub all_out : IsInside shared since may 0 0 LooksOn inside.Nothing out
    all_out = goes since may inside.Nothing mid_n

    pub idle_out : (AreAllIdle old.me.1 → AreAllIdle out.me.1) → AreAllIdle out.me.1
    idle_out idle = idle (subst (λ m. AreAllIdle m.1) (sym (only_last shared since may 0 LooksOn inside.Nothing old mid)) ((λ seat has. no_seat _ seat has), tt))

    pub given_back : (back : SeatHand) → GoesTo shared out 0 0 LooksOn back shared.limits.actors 0 LooksOn
        → IsInside shared since may shared.limits.actors 0 LooksOn inside.Nothing back
    given_back back puts = puts since may inside.Nothing all_out

    pub all_left : (hand : SeatHand) → GoesTo shared out 0 0 LooksOn hand shared.limits.actors 1 RunsNothing
        → IsInside shared since may shared.limits.actors 1 RunsNothing inside.Nothing hand
    all_left hand leaves = leaves since may inside.Nothing all_out

  -- They couldn't be taken out.
  module _ (refusal : Refusal) (hand : SeatHand) (stops : IsStoppedFor shared old n refusal hand) where
    pub stopped_now : HasStoppedClosing shared since may n LooksOn inside.Nothing refusal hand
    stopped_now = stops since may inside.Nothing mid_n

    pub back_now : IsInside shared since may shared.limits.actors 0 LooksOn inside.Nothing hand
    back_now = stopped_mid shared since may n is refusal hand stopped_now

    module _ (told : ℕ) (tells : told ≡ status_of_refusal refusal) where
      pub told_so : (told ≡ BUSY) ⊎ (told ≡ UNFINISHED)
      told_so = ⊎_elim (λ t. inl (tells ∙ ap status_of_refusal t.0)) (λ t. inr (tells ∙ ap status_of_refusal t.0)) stopped_now.why

      pub not_for_memory : (P : Type 0) → told ≡ NO_MEMORY → P
      not_for_memory P memory = absurd (⊎_elim (λ busy. omega (arith, memory, busy)) (λ unfinished. omega (arith, memory, unfinished)) told_so)

      pub refused_busy : (it : Receipt) → IsKeptAs shared since LooksOn hand inside.Nothing it → told ≡ BUSY → IsRefusedFor shared (IsOutElsewhere (opened_in shared)) since it
      refused_busy it kept busy = stopped_busy shared since may n is refusal hand stopped_now it kept
          (⊎_elim (λ t. t.0) (λ t. absurd (let other = tells ∙ ap status_of_refusal t.0 in omega (arith, busy, other))) stopped_now.why)

      pub refused_unfinished : (it : Receipt) → IsKeptAs shared since LooksOn hand inside.Nothing it → told ≡ UNFINISHED
          → IsRefusedFor shared (λ author log. HasUnfinished (opened_in shared) log) since it
      refused_unfinished it kept unfinished = stopped_unfinished shared since may n is refusal hand stopped_now it kept
          (⊎_elim (λ t. absurd (let other = tells ∙ ap status_of_refusal t.0 in omega (arith, unfinished, other))) (λ t. t.0) stopped_now.why)
