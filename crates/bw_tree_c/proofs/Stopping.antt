-- How a closing ends: what was taken is back, or nothing waits.
use Rattle.std.proofs.Common.{◌≡◌, ◌≢◌, ◌∷◌, ◌∙◌, ℕ, List, [], Box, Global, ap, refl, subst, sym, ⊎_elim}
use Rattle.std.specs.Prelude.{Vec}
use Rattle.call_log.specs.declared.log.Authors.{Authors}
use Rattle.call_log.specs.declared.log.Authors.TheVariants.{Nobody}
use Rattle.call_log.specs.declared.log.Event.{Event}
use Rattle.call_log.specs.declared.log.Knows.{Knows}
use Rattle.call_log.specs.Logs.{GoesOn, WritesAs}
use Rattle.call_log.proofs.Logs.{same_first}
use Rattle.bw_tree_c.specs.Closing.{HasUnfinished, IsOutElsewhere, IsRefusedFor, LooksOn, RunsNothing}
use Rattle.bw_tree_c.specs.Handles.{HasSeenLog, MayCall, opened_in}
use Rattle.bw_tree_c.specs.Receipts.{SeatHand}
use Rattle.bw_tree_c.specs.Shutting.{HasBegunAs, IsInside, IsKeptAs, HasStoppedClosing}
use Rattle.bw_tree_c.specs.Slots.{WaitsFrom}
use Rattle.bw_tree_c.specs.declared.closing.whole.Whole.{Whole}
use Rattle.bw_tree_c.specs.declared.handle.shared.Shared.{Shared}
use Rattle.bw_tree_c.specs.declared.handle.slots.Inside.{Inside}
use Rattle.bw_tree_c.specs.declared.handle.slots.Inside.TheVariants as inside
use Rattle.bw_tree_c.specs.declared.receipt.Receipt.{Receipt}
use Rattle.bw_tree_c.specs.declared.refusal.Refusal.{Refusal}
use Rattle.bw_tree_c.specs.declared.refusal.Refusal.TheVariants.{Busy, Unfinished}
use Rattle.bw_tree_c.proofs.Outs.{on_from}
use Rattle.bw_tree_c.proofs.Shut.{all_run}

abbrev log_in : List (Knows Inside) → List (Event Inside)
log_in [] = []
log_in (view ∷ views) = view.log

abbrev authors_in : List (Knows Inside) → Authors
authors_in [] = Nobody
authors_in (view ∷ views) = view.authors

-- A receipt has seen one log, and has the same authors, whoever says so.
module _ (shared : Shared) (a b : Authors) (k l : List (Event Inside)) (it : Receipt) (one : HasSeenLog shared a k it) (other : HasSeenLog shared b l it) where
  pub same_log : k ≡ l
  same_log = ap log_in (sym one.view ∙ other.view)

  pub same_authors : a ≡ b
  same_authors = ap authors_in (sym one.view ∙ other.view)

-- A closing that has its last slot back was refused for what it had seen.
pub refused_for : (shared : Shared) (since : Receipt) (may : MayCall shared since) (hand : SeatHand) (x : Inside) (it : Receipt) (cause : ℕ → List (Event Inside) → Type 0)
    (log : List (Event Inside)) → GoesOn log may.log → GoesOn hand.me.0.log log → cause may.author log → IsKeptAs shared since LooksOn hand x it → IsRefusedFor shared cause since it
refused_for shared since may hand x it cause log from upto why kept =
    let w = kept.written in
    let before : may.log ≡ w.before = same_log shared may.authors w.authors may.log w.before since may.seen w.had in
    let authors : may.authors ≡ w.authors = same_authors shared may.authors w.authors may.log w.before since may.seen w.had in
    let who : may.author ≡ kept.author = same_first w.authors may.author kept.author (subst (λ a. WritesAs a may.author) authors may.writes) w.writes in record {
      author = kept.author;
      mine = kept.mine;
      written = w;
      deeds = kept.deeds;
      log = log;
      from = subst (GoesOn log) before from;
      upto = on_from w.after hand.me.0.log log kept.upto upto;
      why = subst (λ a. cause a log) who why;
    }

two_apart : (P : Type 0) → Busy ≡ Unfinished → P
two_apart P e = cc

busy_not : (P : Type 0) (refusal : Refusal) → refusal ≡ Busy → refusal ≡ Unfinished → P
busy_not P refusal a b = two_apart P (sym a ∙ b)

-- The slots of seats couldn't be taken out.
module _ (shared : Shared) (since : Receipt) (may : MayCall shared since) (count : ℕ) (is : count ≡ shared.limits.actors) (refusal : Refusal) (hand : SeatHand)
    (stopped : HasStoppedClosing shared since may count LooksOn inside.Nothing refusal hand) where
  pub stopped_mid : IsInside shared since may shared.limits.actors 0 LooksOn inside.Nothing hand
  stopped_mid = subst (λ k. IsInside shared since may k 0 LooksOn inside.Nothing hand) is stopped.mid

  upto_hand : GoesOn hand.me.0.log stopped.log
  upto_hand = subst (λ l. GoesOn l stopped.log) (sym (ap (λ m. m.0.log) stopped.mid.me)) stopped.upto

  pub stopped_busy : (it : Receipt) → IsKeptAs shared since LooksOn hand inside.Nothing it → refusal ≡ Busy → IsRefusedFor shared (IsOutElsewhere (opened_in shared)) since it
  stopped_busy it kept busy = refused_for shared since may hand inside.Nothing it (IsOutElsewhere (opened_in shared)) stopped.log stopped.since_then upto_hand
      (⊎_elim (λ t. t.1) (λ t. busy_not _ refusal busy t.0) stopped.why) kept

  pub stopped_unfinished : (it : Receipt) → IsKeptAs shared since LooksOn hand inside.Nothing it → refusal ≡ Unfinished
      → IsRefusedFor shared (λ author log. HasUnfinished (opened_in shared) log) since it
  stopped_unfinished it kept unfinished = refused_for shared since may hand inside.Nothing it (λ author log. HasUnfinished (opened_in shared) log) stopped.log stopped.since_then upto_hand
      (⊎_elim (λ t. busy_not _ refusal t.0 unfinished) (λ t. t.1) stopped.why) kept

pub inside_run : (shared : Shared) (since : Receipt) (may : MayCall shared since) (from far : ℕ) (last : Inside) (hand : SeatHand) → IsInside shared since may from far LooksOn last hand
    → IsInside shared since may from far RunsNothing last hand
inside_run shared since may from far last hand mid = record {
  log = mid.log;
  mine = mid.mine;
  carried = mid.carried;
  table = mid.table;
  me = mid.me;
  at = record {
    legal = mid.at.legal;
    on = mid.at.on;
    only = mid.at.only;
    did = all_run may.author mid.mine mid.at.did;
    stage = mid.at.stage;
    near = mid.at.near;
    carries = mid.at.carries;
    last_out = mid.at.last_out;
    no_seat = mid.at.no_seat;
    below = mid.at.below;
  };
}

waits_else : (opened : List Inside) (log : List (Event Inside)) (x : Inside) (P : Type 0) → ((pairs : Vec (List ℕ × List ℕ) Global) → x ≡ inside.Pairs pairs → ⊥)
    → ((whole : Box Whole Global) → x ≡ inside.Whole whole → ⊥) → WaitsFrom opened log x → P
waits_else opened log inside.Nothing P no_pairs no_whole h = absurd h
waits_else opened log (inside.Seat place) P no_pairs no_whole h = absurd h
waits_else opened log (inside.Pairs pairs) P no_pairs no_whole h = absurd (no_pairs pairs refl)
waits_else opened log (inside.Whole whole) P no_pairs no_whole h = absurd (no_whole whole refl)

-- What was in the last slot says how far the tree is.
module _ (shared : Shared) (since : Receipt) (may : MayCall shared since) (x : Inside) (hand : SeatHand) (begun : HasBegunAs shared since may x hand) where
  far_is : (n : ℕ) → begun.far ≡ n → IsInside shared since may shared.limits.actors n LooksOn x hand
  far_is n is = subst (λ far. IsInside shared since may shared.limits.actors far LooksOn x hand) is begun.closing

  pub begun_open : x ≡ inside.Nothing → IsInside shared since may shared.limits.actors 0 LooksOn inside.Nothing hand
  begun_open is = ⊎_elim
      (λ t. subst (λ y. IsInside shared since may shared.limits.actors 0 LooksOn y hand) is (far_is 0 t.0))
      (λ t. absurd (subst (WaitsFrom (opened_in shared) hand.me.0.log) is t.1))
      begun.what

  pub begun_waits : x ≢ inside.Nothing → WaitsFrom (opened_in shared) hand.me.0.log x
  begun_waits not = ⊎_elim (λ t. absurd (not t.1)) (λ t. t.1) begun.what

  pub begun_closed : x ≢ inside.Nothing → IsInside shared since may shared.limits.actors 1 LooksOn x hand
  begun_closed not = ⊎_elim (λ t. absurd (not t.1)) (λ t. far_is 1 t.0) begun.what

  pub begun_to_end : x ≢ inside.Nothing → IsInside shared since may shared.limits.actors 1 RunsNothing x hand
  begun_to_end not = inside_run shared since may shared.limits.actors 1 x hand (begun_closed not)

  pub begun_else : ((pairs : Vec (List ℕ × List ℕ) Global) → x ≡ inside.Pairs pairs → ⊥) → ((whole : Box Whole Global) → x ≡ inside.Whole whole → ⊥)
      → IsInside shared since may shared.limits.actors 0 LooksOn inside.Nothing hand
  begun_else no_pairs no_whole = ⊎_elim
      (λ t. subst (λ y. IsInside shared since may shared.limits.actors 0 LooksOn y hand) t.1 (far_is 0 t.0))
      (λ t. waits_else (opened_in shared) hand.me.0.log x _ no_pairs no_whole t.1)
      begun.what

pub pairs_not : {pairs : Vec (List ℕ × List ℕ) Global} → inside.Pairs pairs ≡ inside.Nothing → ⊥
pairs_not e = cc

pub whole_not : {whole : Box Whole Global} → inside.Whole whole ≡ inside.Nothing → ⊥
whole_not e = cc
