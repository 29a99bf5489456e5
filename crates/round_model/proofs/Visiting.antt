-- What the steps of a visit leave it.
use Rattle.round_model.proofs.Words.{◌≡◌, ◌<◌, ◌==◌, ◌++◌, inl, inr, ℕ, zero, suc, true, List, [], ◌∷◌, Option, Some, None, refl, ap, ◌∙◌, arith, eq-eqb, Limits, Answer, Record}
use Rattle.round_model.proofs.Words.{replaced_at, next_row, IsChainFrom, IsFront, Fits, FitsRow, IsReadWhole, Knowledge, learn, learn_slot, Version}
use Rattle.bw_model.specs.declared.step.Step.TheVariants as step
use Rattle.bw_model.specs.declared.step.Answer.TheVariants as answer
use Rattle.round_model.specs.Visits.{Sight, Empty, Whole, VisitState, Slot, Row, Arrives, FindsHead, Completes, Continues, Follows, Reads, Responds, Shows, Visit, at, wanted_step}
use Rattle.round_model.specs.Versions.{IsSound}
use Rattle.round_model.proofs.FrontLaws.{front_more, front_next, front_end}

-- what is so of a whole chain
pub sound_from : (limits : Limits) (k : Knowledge) (page : ℕ) (chain : List Record) → IsReadWhole limits k page chain → IsSound limits page chain
sound_from limits k page chain w = record { is_chain = w.is_chain; own = w.own; names = λ alive. record { right = w.right alive; child = w.child alive } }

replaced_same : {X : Type 0} (f : ℕ → X) (i : ℕ) (x : X) → replaced_at i x f i ≡ x
replaced_same f i x = let e : (i == i) ≡ true = eq-eqb i i refl in rw e refl

-- the slot was read as a row
read_head : (k : Knowledge) (pid row : ℕ) → 0 < pid → 0 < row → Reads (learn_slot pid row k) pid row [] row
read_head k zero row some linked = absurd (omega (arith, some))
read_head k (suc pid) zero some linked = absurd (omega (arith, linked))
read_head k (suc pid) (suc row) some linked = record
    { linked = linked; in_slot = replaced_same k.read.heads (suc pid) (Some (suc row)); seen = refl; named = replaced_same k.read.learnt (suc row) true }

inside_slot : (k : Knowledge) (pid n : ℕ) → (learn_slot pid n k).inside ≡ k.inside
inside_slot k (suc pid) zero = refl
inside_slot k pid n = refl

-- a slot that was read has a row that there is
pub row_below : (limits : Limits) (k : Knowledge) (pid row : ℕ) → 0 < pid → Fits limits k (step.Slot pid) (answer.Number row) → row < limits.rows
row_below limits k zero row some fits = absurd (omega (arith, some))
row_below limits k (suc pid) row some fits = fits.0

pub begins_chain : (k : Knowledge) (visit : Visit) (row : ℕ) → 0 < row → row < visit.limits.rows → Shows (at visit Slot) k
    → Shows (record visit { part = []; state = Row row row }) (learn k (step.Slot visit.pid) (answer.Number row))
begins_chain k visit row linked few h = record { inside = rw (inside_slot k visit.pid row) h.inside; page = h.page; below = h.below; head = few; stands = read_head k visit.pid row h.page linked }

-- a row was read
module _ (limits : Limits) (k : Knowledge) (pid head row : ℕ) (part : List Record) (w : Record) where
  abbrev now : Knowledge
  now = learn k (step.Row row) (answer.Content w)

  seen_more : Reads k pid head part row → FitsRow limits k row w → IsFront (replaced_at row (Some w) k.read.seen) head part row
  seen_more r f = front_more k.read.seen k.read.seen row w f.same part head row r.seen r.seen

  read_on : (next : ℕ) → next_row w ≡ Some next → Reads k pid head part row → FitsRow limits k row w → Reads now pid head (part ++ w ∷ []) next
  read_on next i r f = record {
    linked = r.linked;
    in_slot = r.in_slot;
    seen = front_next (replaced_at row (Some w) k.read.seen) w part head row next (seen_more r f) (replaced_same k.read.seen row (Some w)) i;
    named = rw i (replaced_same k.read.learnt next true);
  }

  read_whole : next_row w ≡ None → Reads k pid head part row → FitsRow limits k row w
      → (now.read.heads pid ≡ Some head) × IsChainFrom now.read.seen head (part ++ w ∷ []) × IsReadWhole limits k pid (part ++ w ∷ [])
  read_whole i r f = (
    r.in_slot,
    front_end (replaced_at row (Some w) k.read.seen) w part head row (seen_more r f) (replaced_same k.read.seen row (Some w)) i,
    f.whole pid head part r.in_slot r.seen i,
  )

pub goes_on : (k : Knowledge) (visit : Visit) (head row : ℕ) (w : Record) (next : ℕ) → next_row w ≡ Some next → Shows (at visit (Row head row)) k → FitsRow visit.limits k row w
    → Shows (record visit { part = visit.part ++ w ∷ []; state = Row head next }) (learn k (step.Row row) (answer.Content w))
goes_on k visit head row w next i h f = record { inside = h.inside; page = h.page; below = h.below; head = h.head; stands = read_on visit.limits k visit.pid head row visit.part w next i h.stands f }

pub whole_chain : (k : Knowledge) (visit : Visit) (head row : ℕ) (w : Record) → next_row w ≡ None → Shows (at visit (Row head row)) k
    → FitsRow visit.limits k row w → IsReadWhole visit.limits k visit.pid (visit.part ++ w ∷ [])
whole_chain k visit head row w i h f = (read_whole visit.limits k visit.pid head row visit.part w i h.stands f).2

pub arrives_at : (k : Knowledge) (visit : Visit) (row : ℕ) (w : Record) (version : Version) → version.pid ≡ visit.pid → version.chain ≡ visit.part ++ w ∷ []
    → next_row w ≡ None → Shows (at visit (Row version.head row)) k → FitsRow visit.limits k row w
    → Arrives k (learn k (step.Row row) (answer.Content w)) (at visit (Row version.head row)) version
arrives_at k visit row w version pid chain i h f =
    let read = read_whole visit.limits k visit.pid version.head row visit.part w i h.stands f in
    let whole : IsReadWhole visit.limits k version.pid version.chain = rw chain
    (rw pid read.2) in
    record {
      pid = pid;
      inside = h.inside;
      in_hand = record {
        page = rw pid h.below;
        row = h.head;
        seen = record { head = ap k.read.heads pid ∙ read.0; read = rw chain read.1 };
        sound = sound_from visit.limits k version.pid version.chain whole;
      };
      whole = whole;
    }

-- the answer to the step wanted last is the one that the state was waiting for

pub back : (visit : Visit) (P : Visit → Answer Record → Type 0) (state : VisitState) (told real : Answer Record) → visit.state ≡ state → real ≡ told → P (at visit state) told → P visit real
back visit P state told real e i h = rw (i, e) h

pub there : (visit : Visit) (P : Visit → Answer Record → Type 0) (state : VisitState) (told real : Answer Record) → visit.state ≡ state → real ≡ told → P visit real → P (at visit state) told
there visit P state told real e i h = rw (i, e) at h

module _ (k : Knowledge) (old : Visit) where
  abbrev Then : Visit → Option Sight → Visit → Answer Record → Type 0
  Then new result v x = Shows v k → Fits v.limits k (wanted_step v) x → Follows k v x new result

  begins : (told : Answer Record) (new : Visit) → FindsHead old told new → Shows old k → Fits old.limits k (wanted_step old) told → Follows k old told new None
  begins told new b = back old (Then new None) Slot (answer.Number b.row) told b.asked b.is (λ h f. rw b.goes (begins_chain k old b.row b.some (row_below old.limits k old.pid b.row h.page f) h))

  continues : (told : Answer Record) (new : Visit) → Continues old told new → Shows old k → Fits old.limits k (wanted_step old) told → Follows k old told new None
  continues told new b = back old (Then new None) (Row b.head b.row) (answer.Content b.content) told b.asked b.is (λ h f. rw b.goes (goes_on k old b.head b.row b.content b.under b.more h f))

  completes : (told : Answer Record) (new : Visit) (version : Version) → Completes old told version → Shows old k → Fits old.limits k (wanted_step old) told
      → Follows k old told new (Some (Whole version))
  completes told new version b =
      back old (Then new (Some (Whole version))) (Row version.head b.row) (answer.Content b.content) told b.asked b.is (λ h f. arrives_at k old b.row b.content version b.pid b.chain b.last h f)

-- what follows from what a visit makes of an answer
pub follows_from : (k : Knowledge) (old : Visit) (told : Answer Record) (new : Visit) (result : Option Sight) → Responds old told new result → Shows old k
    → Fits old.limits k (wanted_step old) told → Follows k old told new result
follows_from k old told new None b = elim b [ inl begun ↦ begins k old told new begun | inr more ↦ continues k old told new more ]
follows_from k old told new (Some Empty) b = λ h f. tt
follows_from k old told new (Some (Whole version)) b = completes k old told new version b
