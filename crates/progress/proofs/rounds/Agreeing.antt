-- What a reader's round reads is as in the memory in which its steps are counted.
use Rattle.progress.proofs.Words.{◌≡◌, ◌⊎◌, ◌++◌, ℕ, List, [], ◌∷◌, Option, Some, refl, sym, ap, ◌∙◌, inl, inr, Limits, Answer, Number, Memory, Record, IsChainFrom, IsChainOf, level_in, low_in}
use Rattle.progress.proofs.Words.{Entry, Knowledge, knows, Recalled, IsAnswer, memory_of, IsChainFrom-unique, WayState, Root, Page, ReadGoal, Leg, Down, Round, Past, IsOnWay, Key, IsInTree}
use Rattle.progress.proofs.Words.{IsState, ReadRound, wanted_step, Slot, Row, Visit, VisitState}
use Rattle.round_model.specs.Descents as way
use Rattle.round_model.specs.ReadRounds.{ShowsState, ShowsVisit}
use Rattle.round_model.specs.ReadRounds as read
use Rattle.round_model.specs.Visits as seen
use Rattle.progress.proofs.rounds.Known.{expected_reached, read_front}
use Rattle.progress.proofs.rounds.Pages.{Standing}
use Rattle.progress.proofs.rounds.Resuming.{SettledAt, SettledLeft}
use Rattle.progress.proofs.rounds.Running.{HasLeft, StandsAt}
use Rattle.progress.proofs.rounds.Unchanged.{IsSame, reached_in}
use Rattle.progress.proofs.rounds.Visiting.{IsAtHead, IsLeft}

cancel : (xs ys zs : List Record) → xs ++ ys ≡ xs ++ zs → ys ≡ zs
cancel [] ys zs e = e
cancel (x ∷ xs) ys zs e = cancel xs ys zs (let both : x ∷ (xs ++ ys) ≡ x ∷ (xs ++ zs) = e in cc)

module _ (limits : Limits) (entries : List Entry) (state : IsState limits entries) (actor : ℕ) (w : Standing) (same : IsSame limits w entries state) where
  abbrev k : Knowledge
  k = knows entries actor

  abbrev memory : Memory
  memory = memory_of limits entries

  -- where a visit stands on its way
  pub record OnItsWay (within : Limits) (r : Recalled) (visit : Visit) : Type 0 where
    pub level : ℕ
    pub low : Key
    pub earlier : List ℕ
    pub on_way : IsOnWay within k r visit level low earlier

  way_of : (within : Limits) (key : Key) (goal : ReadGoal) (leg : Leg) (r : Recalled) (visit : Visit) → ShowsVisit within key goal leg k r visit → OnItsWay within r visit
  way_of within key goal (Down above) r visit v = record { level = v.level; low = v.low; earlier = v.earlier; on_way = v.seeks.on_way }
  way_of within key goal (Past above) r visit v = record { level = v.level; low = v.low; earlier = v.earlier; on_way = v.seeks.on_way }
  way_of within key goal (Round removed) r visit v = record { level = v.nears.level; low = v.nears.low; earlier = v.nears.earlier; on_way = v.nears.seeks.on_way }

  slot_same : (within : Limits) (r : Recalled) (visit : Visit) → OnItsWay within r visit → memory.slots visit.pid ≡ w.memory.slots visit.pid
  slot_same within r visit o =
      let e = expected_reached limits entries state actor within visit.pid o.level o.low o.earlier o.on_way.expected in
      same.slots visit.pid o.on_way.shows.page (reached_in e.least e.level e.low (state.owners.page visit.pid) e.reached)

  first_same : (rows others : ℕ → Option Record) (row : ℕ) (rest : List Record) (content : Record) → IsChainFrom rows row rest → IsChainFrom others row rest
      → rows row ≡ Some content → others row ≡ Some content
  first_same rows others row [] content a b e = absurd a
  first_same rows others row (newest ∷ under) content a b e = b.0 ∙ sym a.0 ∙ e

  row_same : (within : Limits) (r : Recalled) (visit : Visit) (head row left : ℕ) (chain : List Record) → OnItsWay within r visit → visit.state ≡ Row head row
      → IsChainOf w.memory visit.pid chain → IsLeft w.memory chain visit.part (Row head row) left → head ≡ w.memory.slots visit.pid
      → (content : Record) → memory.rows row ≡ Some content → w.memory.rows row ≡ Some content
  row_same within r visit head row left chain o at is_chain is_left at_head content there =
      let reads : seen.Reads k visit.pid head visit.part row = rw at at o.on_way.shows.stands in
      let f = read_front limits entries state actor visit.pid head row visit.part reads.in_slot reads.seen in
      let in_tree : IsInTree (state.owners.page visit.pid) = reached_in 0 (level_in (visit.part ++ f.0)) (low_in (visit.part ++ f.0)) (state.owners.page visit.pid) f.2.reached in
      let here = same.chains visit.pid chain in_tree is_chain in
      let slot : memory.slots visit.pid ≡ head = same.slots visit.pid is_chain.page in_tree ∙ sym at_head in
      let from : IsChainFrom memory.rows head chain = rw (← slot) here.records in
      let whole : chain ≡ visit.part ++ f.0 = IsChainFrom-unique memory.rows head chain (visit.part ++ f.0) from f.2.is_chain in
      let rest : is_left.0 ≡ f.0 = cancel visit.part is_left.0 f.0 (is_left.3 ∙ whole) in
      first_same memory.rows w.memory.rows row is_left.0 content (rw rest f.1) is_left.2 there

  -- a page that is being read
  pub record Reading (visit : Visit) : Type 0 where
    pub chain : List Record
    pub left : ℕ
    pub is_chain : IsChainOf w.memory visit.pid chain
    pub is_left : IsLeft w.memory chain visit.part visit.state left
    pub at_head : IsAtHead w.memory visit.pid visit.state

  at_visit : (leg : Leg) (goal : ReadGoal) (key : Key) (visit : Visit) (steps : ℕ)
      → StandsAt w leg goal key (Page visit) steps ⊎ SettledAt w leg goal (Page visit) steps → (visit.state ≡ Slot) ⊎ Reading visit
  at_visit leg goal key visit steps (inl v) =
      inr (record { chain = v.page.chain; left = v.left; is_chain = rw (← v.is_pid) v.stands.stands; is_left = v.is_left; at_head = v.at_head })
  at_visit leg goal key visit steps (inr (inl v)) =
      inr (record { chain = v.page.chain; left = v.left; is_chain = rw (← v.is_pid) v.loose.stands.stands; is_left = v.is_left; at_head = v.at_head })
  at_visit leg goal key visit steps (inr (inr v)) = inl v.at_slot

  pub visit_same : (within : Limits) (r : Recalled) (visit : Visit) → OnItsWay within r visit → (visit.state ≡ Slot) ⊎ Reading visit → (answer : Answer Record)
      → (state : VisitState) → visit.state ≡ state → IsAnswer memory (seen.wanted_at visit.pid state) answer
      → IsAnswer w.memory (seen.wanted_at visit.pid state) answer
  visit_same within r visit o here answer Slot e is = is ∙ ap Number (slot_same within r visit o)
  visit_same within r visit o here answer (Row head row) e (content, there, is) = elim here [
    | inl at_slot ↦ absurd (let both : Slot ≡ Row head row = sym at_slot ∙ e in cc)
    | inr v ↦ (
      content,
      row_same within r visit head row v.left v.chain o e v.is_chain (rw e at v.is_left)
          (rw e at v.at_head) content there,
      is,
    )
  ]

  state_same : (within : Limits) (key : Key) (goal : ReadGoal) (leg : Leg) (r : Recalled) (steps : ℕ) (at : WayState) → ShowsState within key goal leg k r at
      → StandsAt w leg goal key at steps ⊎ SettledAt w leg goal at steps
      → (answer : Answer Record) → IsAnswer memory (way.wanted_at at) answer → IsAnswer w.memory (way.wanted_at at) answer
  state_same within key goal leg r steps Root shows has answer is = is ∙ ap Number same.root
  state_same within key goal leg r steps (Page visit) shows has answer is =
      visit_same within r visit (way_of within key goal leg r visit shows) (at_visit leg goal key visit steps has) answer visit.state refl is

  pub answer_same : (round : ReadRound) (r : Recalled) (steps : ℕ) → read.Shows round k r → HasLeft w round steps ⊎ SettledLeft w round steps
      → (answer : Answer Record) → IsAnswer memory (wanted_step round) answer → IsAnswer w.memory (wanted_step round) answer
  answer_same round r steps shows has answer is = state_same round.limits round.key round.goal round.leg r steps round.state shows has answer is
