-- What a closing hands over, or leaves in the last slot; and who may call then.
use Rattle.std.proofs.Common.{◌≡◌, ◌<◌, ◌∙◌, ℕ, List, [], None, Some, ap, arith, length, subst, sym}
use Rattle.std.specs.Prelude.{Option}
use Rattle.call_log.specs.declared.log.Event.{Event}
use Rattle.call_log.specs.Logs.{GoesOn, stage_of}
use Rattle.call_log.proofs.Logs.{goes_on_self}
use Rattle.bw_tree_c.specs.Closing.{HasClosed, HasHanded, HasMore, HasNoMemory, HasPairs, HandsOver, IsBusy, IsClosed, IsClosedBy, IsHeld, IsInUse}
use Rattle.bw_tree_c.specs.Closing.{IsRefusedFor, IsUnfinished, KeepsPairs, LooksOn, RunsNothing}
use Rattle.bw_tree_c.specs.Handles.{MayCall, MayCallOn, opened_in}
use Rattle.bw_tree_c.specs.Receipts.{SeatHand}
use Rattle.bw_tree_c.specs.Shown.{ShowFirst}
use Rattle.bw_tree_c.specs.Shutting.{IsEmptiedAs, IsInside, IsKeptAs}
use Rattle.bw_tree_c.specs.Slots.{LeavesPairs}
use Rattle.bw_tree_c.specs.declared.c_types.Pair.{Pair}
use Rattle.bw_tree_c.specs.declared.handle.shared.Shared.{Shared}
use Rattle.bw_tree_c.specs.declared.handle.slots.Inside.{Inside}
use Rattle.bw_tree_c.specs.declared.receipt.Receipt.{Receipt}
use Rattle.bw_tree_c.proofs.Calling.{written_may}
use Rattle.bw_tree_c.proofs.Last.{pairs_on}
use Rattle.bw_tree_c.proofs.Stopping.{refused_for}

-- The tree is in use: what was in the last slot is back.
pub in_use_of : (shared : Shared) (since : Receipt) (may : MayCall shared since) (far : ℕ) (x y : Inside) (hand : SeatHand) (it : Receipt)
    → IsInside shared since may shared.limits.actors far LooksOn x hand → IsKeptAs shared since LooksOn hand y it → IsRefusedFor shared (λ author log. stage_of log < 2) since it
in_use_of shared since may far x y hand it mid kept = refused_for shared since may hand y it (λ author log. stage_of log < 2) mid.log mid.at.on
    (subst (λ l. GoesOn l mid.log) (sym (ap (λ m. m.0.log) mid.me)) (goes_on_self mid.log))
    (let stage = mid.at.stage in let near = mid.at.near in omega (arith, stage, near)) kept

-- The tree was closed, and its pairs are known.
module _ (shared : Shared) (since : Receipt) (may : MayCall shared since) (last : Inside) (hand : SeatHand) (mid : IsInside shared since may shared.limits.actors 1 RunsNothing last hand)
    (pairs : List (List ℕ × List ℕ)) (left : LeavesPairs (opened_in shared) hand.me.0.log pairs) (it : Receipt) where
  stage_is : stage_of hand.me.0.log ≡ 1
  stage_is = ap (λ m. stage_of m.0.log) mid.me ∙ mid.at.stage

  some_stage : 0 < stage_of hand.me.0.log
  some_stage = let is = stage_is in omega (arith, is)

  pub handed : (emptied : IsEmptiedAs shared since hand it) (told : ℕ) (written : List Pair) → told ≡ length pairs → ShowFirst (length pairs) pairs written
      → HasHanded shared since it told written
  handed emptied told written count shows = record {
    closed = emptied.closed;
    pairs = pairs;
    left = pairs_on (opened_in shared) shared.limits shared.own hand.me.0.log emptied.closed.written.after emptied.upto emptied.closed.written.has.legal some_stage pairs left;
    count = count;
    shows = shows;
  }

  pub keeps_pairs : (kept : Inside) → IsKeptAs shared since RunsNothing hand kept it → HasPairs kept pairs → (room told : ℕ) → told ≡ length pairs
      → room < length pairs → KeepsPairs shared since it room told
  keeps_pairs kept back are room told count more = record {
    author = back.author;
    mine = back.mine;
    written = back.written;
    deeds = back.deeds;
    stage = back.stage ∙ stage_is;
    kept = kept;
    waits = back.waits;
    pairs = pairs;
    are = are;
    left = pairs_on (opened_in shared) shared.limits shared.own hand.me.0.log back.written.after back.upto back.written.has.legal some_stage pairs left;
    count = count;
    more = more;
  }

-- It waits, whole.
pub held : (shared : Shared) (since : Receipt) (hand : SeatHand) (kept : Inside) (it : Receipt) → IsKeptAs shared since RunsNothing hand kept it → IsHeld shared since it
held shared since hand kept it back = record { author = back.author; mine = back.mine; written = back.written; deeds = back.deeds; kept = kept; waits = back.waits }

-- Whoever called a closing may call again.
pub refused_may : (shared : Shared) (cause : ℕ → List (Event Inside) → Type 0) (since it : Receipt) → IsRefusedFor shared cause since it → MayCall shared it
refused_may shared cause since it is = written_may shared is.author is.mine since it is.written

pub closed_may : (shared : Shared) (since it : Receipt) → IsClosedBy shared since it → MayCall shared it
closed_may shared since it is = written_may shared is.author _ since it is.written

module _ (since it : Receipt) where
  pub may_ok : (kept : Option Shared) → HasClosed kept since it → MayCallOn kept it
  may_ok None is = tt
  may_ok (Some shared) is = closed_may shared since it is

  pub may_busy : (kept : Option Shared) → IsBusy kept since it → MayCallOn kept it
  may_busy None is = tt
  may_busy (Some shared) is = written_may shared is.author is.mine since it is.written

  pub may_unfinished : (kept : Option Shared) → IsUnfinished kept since it → MayCallOn kept it
  may_unfinished None is = tt
  may_unfinished (Some shared) is = written_may shared is.author is.mine since it is.written

  pub may_in_use : (kept : Option Shared) → IsInUse kept since it → MayCallOn kept it
  may_in_use None is = tt
  may_in_use (Some shared) is = written_may shared is.author is.mine since it is.written

  pub may_closed : (kept : Option Shared) → IsClosed kept since it → MayCallOn kept it
  may_closed None is = tt
  may_closed (Some shared) is = written_may shared is.author [] since it is.written

  pub may_memory : (kept : Option Shared) → HasNoMemory kept since it → MayCallOn kept it
  may_memory None is = tt
  may_memory (Some shared) is = written_may shared is.author is.mine since it is.written

  pub may_more : (kept : Option Shared) (room told : ℕ) → HasMore kept since it room told → MayCallOn kept it
  may_more None room told is = tt
  may_more (Some shared) room told is = written_may shared is.author is.mine since it is.written

  pub may_handed : (kept : Option Shared) (told : ℕ) (written : List Pair) → HandsOver kept since it told written → MayCallOn kept it
  may_handed None told written is = tt
  may_handed (Some shared) told written is = closed_may shared since it is.closed
