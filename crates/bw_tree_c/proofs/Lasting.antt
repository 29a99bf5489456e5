-- The last slot is put back by a closing, or left for good, whatever its number is called.
use Rattle.std.proofs.Common.{◌≡◌, ◌∷◌, ◌∙◌, ℕ, List, [], ap, arith, inl, inr, refl, subst, sym}
use Rattle.atomic_table.specs.Table.{rest}
use Rattle.call_log.specs.declared.log.Deed.{Deed}
use Rattle.call_log.specs.declared.log.Deed.TheVariants.{Ended}
use Rattle.call_log.specs.declared.log.Event.{Event}
use Rattle.call_log.specs.Logs.{stage_of}
use Rattle.call_log.specs.Rule.{knows}
use Rattle.call_log.specs.Steps.{CanEmpty, CanEnd, EndsSo, HasEmptied, WasLog}
use Rattle.bw_tree_c.specs.Closing.{LooksOn, RunsNothing}
use Rattle.bw_tree_c.specs.Handles.{MayCall, opened_in}
use Rattle.bw_tree_c.specs.Receipts.{SeatHand}
use Rattle.bw_tree_c.specs.Shutting.{IsEmptiedAs, IsInside, IsKeptAs}
use Rattle.bw_tree_c.specs.Slots.{IsPutBack, WaitsFrom, seat_in}
use Rattle.bw_tree_c.specs.declared.handle.shared.Shared.{Shared}
use Rattle.bw_tree_c.specs.declared.handle.slots.Inside.{Inside}
use Rattle.bw_tree_c.specs.declared.handle.slots.Inside.TheVariants as inside
use Rattle.bw_tree_c.specs.declared.receipt.Receipt.{Receipt}
use Rattle.bw_tree_c.proofs.Last.{waiting_no_seat, waits_on}
use Rattle.bw_tree_c.proofs.Shut.{can_empty, can_keep, is_emptied, is_kept, kept_empty, only_last, over_empty}

-- What waits is put back.
module _ (shared : Shared) (since : Receipt) (may : MayCall shared since) (such : Deed Inside → Type 0) (last : Inside) (h : SeatHand)
    (mid : IsInside shared since may shared.limits.actors 1 such last h) (y : Inside) (waits : WaitsFrom (opened_in shared) h.me.0.log y)
    (does : seat_in y ≡ seat_in last → such (Ended shared.limits.actors last y)) (n : ℕ) (is : n ≡ shared.limits.actors)
    (h1 : SeatHand) (same1 : h1.table_id ≡ h.table_id) (me1 : h1.me ≡ (h.me.0, (n, y) ∷ rest h.me.1)) where
  me_z : h1.me ≡ (h.me.0, (shared.limits.actors, y) ∷ rest h.me.1)
  me_z = me1 ∙ ap (λ k. (h.me.0, (k, y) ∷ rest h.me.1)) is

  waits_mid : WaitsFrom (opened_in shared) mid.log y
  waits_mid = subst (λ l. WaitsFrom (opened_in shared) l y) (ap (λ m. m.0.log) mid.me) waits

  puts : (later : List (Event Inside)) → WasLog IsPutBack (knows may.authors (opened_in shared) mid.log) later → stage_of later ≡ 1 → IsPutBack (opened_in shared) later shared.limits.actors last y
  puts later was one = inr (
    one,
    sym shared.own.count,
    waits_on (opened_in shared) shared.limits shared.own mid.log later was.seen was.legal (let s = mid.at.stage in omega (arith, s)) y waits_mid,
  )

  done_so : such (Ended shared.limits.actors last y)
  done_so = does (waiting_no_seat (opened_in shared) mid.log y waits_mid ∙ sym mid.at.no_seat)

  pub can_keep_it : CanEnd IsPutBack n h1.me
  can_keep_it = subst (λ k. CanEnd IsPutBack k h1.me) (sym is) (can_keep shared since may 1 such last h mid y h1 same1 me_z puts done_so)

  module _ (h2 : SeatHand) (same2 : h2.table_id ≡ h1.table_id) (ends : EndsSo IsPutBack n h1.me h2.me) where
    ends_z : EndsSo IsPutBack shared.limits.actors h1.me h2.me
    ends_z = subst (λ k. EndsSo IsPutBack k h1.me h2.me) is ends

    pub kept_none : h2.me.1 ≡ []
    kept_none = kept_empty shared since may 1 such last h mid y h1 same1 me_z puts done_so h2 same2 ends_z

    pub kept_it : (it : Receipt) → it.table_id ≡ h2.table_id → it.views ≡ h2.me.0 ∷ [] → IsKeptAs shared since such h y it
    kept_it it same views = is_kept shared since may 1 such last h mid y h1 same1 me_z puts done_so h2 same2 ends_z it same views

-- The tree stays open.
module _ (shared : Shared) (since : Receipt) (may : MayCall shared since) (h : SeatHand) (mid : IsInside shared since may shared.limits.actors 0 LooksOn inside.Nothing h)
    (n : ℕ) (is : n ≡ shared.limits.actors) where
  me_same : h.me ≡ (h.me.0, (shared.limits.actors, inside.Nothing) ∷ rest h.me.1)
  me_same = let e = only_last shared since may 0 LooksOn inside.Nothing h mid in λ i. (h.me.0, (ap (λ m. m.1) e ∙ ap (λ r. (shared.limits.actors, inside.Nothing) ∷ r) (sym (ap (λ m. rest m.1) e))) i)

  puts_open : (later : List (Event Inside)) → WasLog IsPutBack (knows may.authors (opened_in shared) mid.log) later → stage_of later ≡ 0
      → IsPutBack (opened_in shared) later shared.limits.actors inside.Nothing inside.Nothing
  puts_open later was none = inl (none, refl)

  pub can_stop : CanEnd IsPutBack n h.me
  can_stop = subst (λ k. CanEnd IsPutBack k h.me) (sym is) (can_keep shared since may 0 LooksOn inside.Nothing h mid inside.Nothing h refl me_same puts_open refl)

  module _ (h2 : SeatHand) (same2 : h2.table_id ≡ h.table_id) (ends : EndsSo IsPutBack n h.me h2.me) where
    ends_open : EndsSo IsPutBack shared.limits.actors h.me h2.me
    ends_open = subst (λ k. EndsSo IsPutBack k h.me h2.me) is ends

    pub stopped_none : h2.me.1 ≡ []
    stopped_none = kept_empty shared since may 0 LooksOn inside.Nothing h mid inside.Nothing h refl me_same puts_open refl h2 same2 ends_open

    pub stopped_it : (it : Receipt) → it.table_id ≡ h2.table_id → it.views ≡ h2.me.0 ∷ [] → IsKeptAs shared since LooksOn h inside.Nothing it
    stopped_it it same views = is_kept shared since may 0 LooksOn inside.Nothing h mid inside.Nothing h refl me_same puts_open refl h2 same2 ends_open it same views

-- Nothing waits any more.
module _ (shared : Shared) (since : Receipt) (may : MayCall shared since) (last : Inside) (h : SeatHand) (mid : IsInside shared since may shared.limits.actors 1 RunsNothing last h)
    (n : ℕ) (is : n ≡ shared.limits.actors) where
  pub can_empty_it : CanEmpty n h.me
  can_empty_it = subst (λ k. CanEmpty k h.me) (sym is) (can_empty shared since may 1 RunsNothing last h mid refl)

  module _ (h2 : SeatHand) (same2 : h2.table_id ≡ h.table_id) (empties : HasEmptied IsPutBack h.me h2.me) where
    pub emptied_none : h2.me.1 ≡ []
    emptied_none = over_empty shared since may 1 RunsNothing last h mid refl h2 same2 empties

    pub emptied_it : (it : Receipt) → it.table_id ≡ h2.table_id → it.views ≡ h2.me.0 ∷ [] → IsEmptiedAs shared since h it
    emptied_it it same views = is_emptied shared since may 1 RunsNothing last h mid refl h2 same2 empties (λ d. d) it same views
