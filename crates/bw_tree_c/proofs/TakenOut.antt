-- The slots of seats are taken out, the last of them first.
use Rattle.std.proofs.Common.{◌≡◌, ◌≢◌, ◌+◌, ◌-◌, ◌<◌, ◌≤◌, ◌∷◌, ◌∙◌, ℕ, ap, arith, refl, subst, sym}
use Rattle.atomic_table.specs.Table.{rest}
use Rattle.call_log.specs.Steps.{CanEnd, EndsSo, HasTried}
use Rattle.bw_tree_c.specs.Closing.{LooksOn}
use Rattle.bw_tree_c.specs.Handles.{MayCall}
use Rattle.bw_tree_c.specs.Receipts.{SeatHand}
use Rattle.bw_tree_c.specs.Shutting.{AreAllIdle, IsBusyIn, IsTakenLast, IsIdleIn, IsInside, HasStoppedClosing}
use Rattle.bw_tree_c.specs.Slots.{IsPutBack}
use Rattle.bw_tree_c.specs.declared.handle.shared.Shared.{Shared}
use Rattle.bw_tree_c.specs.declared.handle.slots.Inside.{Inside}
use Rattle.bw_tree_c.specs.declared.receipt.Receipt.{Receipt}
use Rattle.bw_tree_c.specs.declared.refusal.Refusal.{Refusal}
use Rattle.bw_tree_c.specs.declared.refusal.Refusal.TheVariants.{Busy, Unfinished}
use Rattle.bw_tree_c.proofs.Shut.{can_give, here_inside, same_hand, stops_busy, stops_so, stops_unfinished, took}

module _ (shared : Shared) (since : Receipt) (may : MayCall shared since) (last : Inside) (count : ℕ) (some : count ≢ 0) (most : count ≤ shared.limits.actors) where
  abbrev n : ℕ
  n = count - 1

  is : count ≡ n + 1
  is = omega (arith, some)

  below : n < shared.limits.actors
  below = omega (arith, some, most)

  module _ (h h1 : SeatHand) (mid : IsInside shared since may count 0 LooksOn last h) (same : h1.table_id ≡ h.table_id) (found : ℕ) (tried : HasTried IsPutBack n found h.me h1.me) where
    mid_n : IsInside shared since may (n + 1) 0 LooksOn last h
    mid_n = subst (λ k. IsInside shared since may k 0 LooksOn last h) is mid

    took_it : found ≡ 0 → IsInside shared since may n 0 LooksOn last h1
    took_it hit = took shared since may last n below h h1 same mid_n found tried hit

    pub busy_it : found ≢ 0 → HasStoppedClosing shared since may count LooksOn last Busy h1
    busy_it ne = subst (λ k. HasStoppedClosing shared since may k LooksOn last Busy h1) (sym is) (stops_busy shared since may last n below h h1 same mid_n found tried ne)

    pub here_it : found ≡ 0 → IsTakenLast n h1
    here_it hit = here_inside shared since may n 0 LooksOn last h1 (let c = shared.own.count in omega (arith, c, some, most)) (took_it hit)

    -- It was looked at.
    pub seen_it : found ≡ 0 → (h2 : SeatHand) → h2.table_id ≡ h1.table_id → h2.me ≡ h1.me → IsInside shared since may n 0 LooksOn last h2
    seen_it hit h2 same2 me2 = same_hand shared since may n 0 LooksOn last h1 h2 (took_it hit) same2 me2

  module _ (h h1 : SeatHand) (mid : IsInside shared since may n 0 LooksOn last h) where
    pub gives_it : CanEnd IsPutBack n h.me
    gives_it = can_give shared since may last n below h h refl mid

    pub unfinished_it : h1.table_id ≡ h.table_id → EndsSo IsPutBack n h.me h1.me → IsBusyIn n h → HasStoppedClosing shared since may count LooksOn last Unfinished h1
    unfinished_it same ends busy = subst (λ k. HasStoppedClosing shared since may k LooksOn last Unfinished h1) (sym is) (stops_unfinished shared since may last n below h h1 same mid ends busy)

  pub stopped_it : (h h1 : SeatHand) (refusal : Refusal) → HasStoppedClosing shared since may n LooksOn last refusal h → h1.table_id ≡ h.table_id → EndsSo IsPutBack n h.me h1.me
      → HasStoppedClosing shared since may count LooksOn last refusal h1
  stopped_it h h1 refusal stopped same ends = subst (λ k. HasStoppedClosing shared since may k LooksOn last refusal h1) (sym is) (stops_so shared since may last n below h h1 same refusal stopped ends)

-- One more idle seat is out.
pub more_idle : (n : ℕ) (h h1 : SeatHand) (x : Inside) → h1.me.1 ≡ (n, x) ∷ h.me.1 → AreAllIdle h.me.1 → IsIdleIn n h1 → AreAllIdle h1.me.1
more_idle n h h1 x is all idle = subst AreAllIdle (sym is) ((λ seat has. idle x seat (is ∙ (λ i. (n, x) ∷ rest (sym is i))) has), all)

pub busy_same : (n : ℕ) (h h1 : SeatHand) → h1.me ≡ h.me → IsBusyIn n h → IsBusyIn n h1
busy_same n h h1 same busy = (busy.0, busy.1, ap (λ m. m.1) same ∙ busy.2 ∙ (λ i. (n, busy.0) ∷ rest (sym same i).1), busy.3, busy.4)
