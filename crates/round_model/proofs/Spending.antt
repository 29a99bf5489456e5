-- How many reads the steps of a visit leave a round.
use Rattle.std.proofs.Common.{◌≡◌, ◌<◌, ◌≤◌, ◌+◌, ◌-◌, ◌*◌, ◌++◌, ◌||◌, inl, inr, ◌⊎◌, ℕ, zero, suc, List, [], ◌∷◌, length, Bool, true, false, None, refl, sym, ap, ◌∙◌, arith, length-append}
use Rattle.round_model.proofs.Words.{IsFalse, IsTrue, if◌then◌else◌, Limits, Answer, Record, next_row, is_removed, Fits, FitsRow, Knowledge, Version, IsSeeking, reads_left_at, reads_left_in}
use Rattle.round_model.proofs.Words.{with_walk}
use Rattle.bw_model.specs.declared.step.Step.{Step}
use Rattle.bw_model.specs.declared.step.Step.TheVariants as step
use Rattle.bw_model.specs.declared.step.Answer.TheVariants as answer
use Rattle.deltas.specs.declared.record.Record.TheVariants as kind
use Rattle.traces.specs.discipline.Recalled.{AnyNames, IsPaid, IsSpentWith, IsUnread, Recalled, Walk, is_lower, is_removal, recall, trail}
use Rattle.round_model.specs.Visits.{VisitState, Slot, Row, FindsHead, Completes, Continues, FindsEmpty, Visit, at, wanted_step}
use Rattle.round_model.proofs.Meeting.{few_pages, removed_push}
use Rattle.round_model.proofs.Removals.{base_is_none, lower_first, paid_lower}
use Rattle.round_model.proofs.Seeking.{arrived}
use Rattle.round_model.proofs.Walking.{trail_on}
use Rattle.round_model.proofs.Visiting.{back, there}

module _ (reserve : ℕ) (limits : Limits) (way : List ℕ → Bool) (beyond : Bool) (k : Knowledge) (r : Recalled) (visit : Visit) (level : ℕ) (low : List ℕ) (earlier : List ℕ) where
  abbrev Seeks : VisitState → Type 0
  Seeks state = IsSeeking limits way beyond k r (at visit state) level low earlier

  recall_walk : (pid n : ℕ) → 0 < pid → (recall r (step.Slot pid) (answer.Number n)).walk ≡ record r.walk { visited = pid ∷ trail r.walk; passed = r.walk.removed }
  recall_walk zero n some = absurd (omega (arith, some))
  recall_walk (suc pid) n some = refl

  spent_slot : (row : ℕ) → Seeks Slot
      → reads_left_in limits reserve (recall r (step.Slot visit.pid) (answer.Number row)) (record visit { part = []; state = Row row row }) < reads_left_in limits reserve r (at visit Slot)
  spent_slot row h =
      let few = few_pages limits (visit.pid ∷ earlier) h.on_way.distinct in
      rw (recall_walk visit.pid row h.on_way.shows.page, h.on_way.visited) (omega (arith, few))

  abbrev full : ℕ
  full = with_walk limits reserve

  -- a removal that is a cause is paid
  reserved : (content : Record) (part : List Record) → (delta : is_removed (part ++ content ∷ []) ≡ (is_removal content || is_removed part))
      → ((if is_removed (part ++ content ∷ []) then full else 0) ≡ (if is_removed part then full else 0)) ⊎ ((is_removal content ≡ true) × (is_removed part ≡ false))
  reserved content part is = by_tests (is_removal content) (is_removed part) refl refl is
    where
      by_tests : (b t : Bool) → is_removal content ≡ b → is_removed part ≡ t → is_removed (part ++ content ∷ []) ≡ (b || t)
          → ((if is_removed (part ++ content ∷ []) then full else 0) ≡ (if t then full else 0)) ⊎ ((b ≡ true) × (t ≡ false))
      by_tests true true e f g = inl (rw g refl)
      by_tests true false e f g = inr (refl, refl)
      by_tests false true e f g = inl (rw g refl)
      by_tests false false e f g = inl (rw g refl)

  at_most : (b : Bool) → (if b then full else 0) ≤ full
  at_most true = omega arith
  at_most false = omega arith

  spent_row : (head row : ℕ) (content : Record) (under : ℕ) → FitsRow limits k row content → Seeks (Row head row)
      → IsSpentWith (1 + full) r (step.Row row) (answer.Content content) (reads_left_in limits reserve r (at visit (Row head row)))
      (reads_left_in limits reserve (recall r (step.Row row) (answer.Content content)) (record visit { part = visit.part ++ content ∷ []; state = Row head under }))
  spent_row head row content under fits h = by_tests (is_lower content r.walk) r.walk.passed refl refl
    where
      few : length visit.part < 13
      few = fits.short visit.pid head visit.part h.on_way.shows.stands.in_slot h.on_way.shows.stands.seen

      one : length (visit.part ++ content ∷ []) ≡ length visit.part + 1
      one = length-append visit.part (content ∷ [])

      Spent : Bool → Bool → Type 0
      Spent had has = IsSpentWith (1 + full) r (step.Row row) (answer.Content content)
          (14 * (limits.pids - length r.walk.visited) + (13 - length visit.part) + (if had then reserve else (if is_removed visit.part then full else 0)))
          (14 * (limits.pids - length r.walk.visited) + (13 - length (visit.part ++ content ∷ [])) + (if has then reserve else (if is_removed (visit.part ++ content ∷ []) then full else 0)))

      by_tests : (l p : Bool) → is_lower content r.walk ≡ l → r.walk.passed ≡ p → Spent p (if l then false else p)
      by_tests true p e is =
          let most = at_most (is_removed (visit.part ++ content ∷ [])) in
          inr (paid_lower r row content e h.on_way.rooted, omega (arith, few, one, most))
      by_tests false true e is = inl (omega (arith, few, one))
      by_tests false false e is =
          let delta = removed_push k.read.seen visit.part head row content h.on_way.shows.stands.seen in
          let tells : r.walk.removed ≡ is_removed visit.part = rw is at h.on_way.removed in
          elim (reserved content visit.part delta) [
            | inl same ↦ inl (rw same (omega (arith, few, one)))
            | inr gone ↦ absurd (let clash : true ≡ false = sym (lower_first content r.walk gone.0 (tells ∙ gone.1)) ∙ e in cc)
          ]

  -- a page wasn't there

  paid_empty : (pid : ℕ) → 0 < pid → r.walk.rooted ≡ true → r.walk.removed ≡ false → IsUnread pid r.walk.visited → AnyNames r.walk.records pid → IsPaid r (step.Slot pid) (answer.Number 0)
  paid_empty zero some rooted none new met = absurd (omega (arith, some))
  paid_empty (suc pid) some rooted none new met = (rooted, none, new, met)

  never_root : (pid : ℕ) → 0 < pid → IsTrue (k.read.roots pid) → Fits limits k (step.Slot pid) (answer.Number 0) → ⊥
  never_root zero some root fits = absurd (omega (arith, some))
  never_root (suc pid) some root fits = let more : 0 < 0 = fits.1 root in omega (arith, more)

  empty : IsFalse beyond → Seeks Slot → Fits limits k (step.Slot visit.pid) (answer.Number 0) → IsPaid r (step.Slot visit.pid) (answer.Number 0)
  empty here h fits = elim (h.named here) [
    | inl root ↦ absurd (never_root visit.pid h.on_way.shows.page root fits)
    | inr met ↦
        let none = h.fresh here in
        let visited : r.walk.visited ≡ earlier = rw none at h.on_way.visited in
        paid_empty visit.pid h.on_way.shows.page h.on_way.rooted none (rw visited h.on_way.distinct.2) met
  ]

  -- the same by what a visit makes of an answer

  module _ (told : Answer Record) (h : IsSeeking limits way beyond k r visit level low earlier) (f : Fits limits k (wanted_step visit) told) where
    seeks_at : (state : VisitState) → visit.state ≡ state → Seeks state
    seeks_at state e = rw e at h

    abbrev FitsAt : Visit → Answer Record → Type 0
    FitsAt v x = Fits limits k (wanted_step v) x

    pub spent_on : (new : Visit) → FindsHead visit told new ⊎ Continues visit told new
        → IsSpentWith (1 + full) r (wanted_step visit) told (reads_left_in limits reserve r visit) (reads_left_in limits reserve (recall r (wanted_step visit) told) new)
    spent_on new moves =
        let P : Visit → Answer Record → Type 0 = λ v x. IsSpentWith (1 + full) r (wanted_step v) x (reads_left_in limits reserve r v) (reads_left_in limits reserve (recall r (wanted_step v) x) new) in
        elim moves [
          | inl b ↦ back visit P Slot (answer.Number b.row) told b.asked b.is (rw b.goes (inl (spent_slot b.row (seeks_at Slot b.asked))))
          | inr b ↦ back visit P (Row b.head b.row) (answer.Content b.content) told b.asked b.is
              (rw b.goes (spent_row b.head b.row b.content b.under (there visit FitsAt (Row b.head b.row) (answer.Content b.content) told b.asked b.is f) (seeks_at (Row b.head b.row) b.asked)))
        ]

    pub spent_empty : IsFalse beyond → FindsEmpty visit told → IsPaid r (wanted_step visit) told
    spent_empty here b =
        back visit (λ v x. IsPaid r (wanted_step v) x) Slot (answer.Number 0) told b.asked b.is (empty here (seeks_at Slot b.asked) (there visit FitsAt Slot (answer.Number 0) told b.asked b.is f))

    -- there are pages that weren't visited
    pub left_empty : FindsEmpty visit told → 0 < reads_left_in limits reserve r visit
    left_empty b =
        let seeks = seeks_at Slot b.asked in
        let few = few_pages limits (visit.pid ∷ earlier) seeks.on_way.distinct in
        back visit (λ v x. 0 < reads_left_in limits reserve r v) Slot (answer.Number 0) told b.asked b.is (rw seeks.on_way.visited (omega (arith, few)))

    -- so it is once the round has gone on from a removed page, beside what is reserved
    pub left_gone : FindsEmpty visit told → r.walk.removed ≡ true → reserve < reads_left_in limits reserve r visit
    left_gone b gone =
        let seeks = seeks_at Slot b.asked in
        let few = few_pages limits (visit.pid ∷ earlier) seeks.on_way.distinct in
        let same : (if r.walk.removed then reserve else 0) ≡ reserve = rw gone refl in
        back visit (λ v x. reserve < reads_left_in limits reserve r v) Slot (answer.Number 0) told b.asked b.is (rw seeks.on_way.visited (omega (arith, few, same)))

    -- a page was read whole
    module _ (version : Version) (b : Completes visit told version) where
      fits_row : FitsRow limits k b.row b.content
      fits_row = there visit FitsAt (Row version.head b.row) (answer.Content b.content) told b.asked b.is f

      seeks : Seeks (Row version.head b.row)
      seeks = seeks_at (Row version.head b.row) b.asked

      few : length visit.part < 13
      few = fits_row.short visit.pid version.head visit.part seeks.on_way.shows.stands.in_slot seeks.on_way.shows.stands.seen

      -- what is reserved
      abbrev kept : ℕ
      kept = if r.walk.passed then reserve else (if is_removed visit.part then full else 0)

      -- what was left is more than what is left for the other pages
      pub more_left : 14 * (limits.pids - length r.walk.visited) + kept < reads_left_in limits reserve r visit
      more_left =
          let here : 14 * (limits.pids - length r.walk.visited) + kept < reads_left_in limits reserve r (at visit (Row version.head b.row)) = omega (arith, few) in
          back visit (λ v x. 14 * (limits.pids - length r.walk.visited) + kept < reads_left_in limits reserve r v) (Row version.head b.row) (answer.Content b.content) told b.asked b.is here

      pub left_some : 0 < reads_left_in limits reserve r visit
      left_some = let more = more_left in omega (arith, more)

      -- the base is no removal
      pub base_passed : (recall r (wanted_step visit) told).walk.passed ≡ r.walk.passed
      base_passed =
          back visit (λ v x. (recall r (wanted_step v) x).walk.passed ≡ r.walk.passed) (Row version.head b.row) (answer.Content b.content) told b.asked b.is
          (rw (base_is_none b.content r.walk b.last) refl)

      -- once a removed page was met, what is reserved is left
      pub left_kept : r.walk.removed ≡ true → reserve < reads_left_in limits reserve r visit
      left_kept gone = by_tests r.walk.passed (is_removed visit.part) refl refl (sym seeks.on_way.removed ∙ gone)
        where
          by_tests : (p t : Bool) → r.walk.passed ≡ p → is_removed visit.part ≡ t → (r.walk.passed || is_removed visit.part) ≡ true → reserve < reads_left_in limits reserve r visit
          by_tests true t e f g = let same : kept ≡ reserve = rw e refl in let more = more_left in omega (arith, more, same)
          by_tests false true e f g = let same : kept ≡ full = rw (e, f) refl in let more = more_left in omega (arith, more, same)
          by_tests false false e f g = let clash : false ≡ true = rw (e, f) at g in absurd cc

      -- the round goes on from a page that isn't removed
      pub left_on : is_removed version.chain ≡ false → reads_left_at limits reserve (recall r (wanted_step visit) told).walk [] Slot < reads_left_in limits reserve r visit
      left_on alive =
          back visit (λ v x. reads_left_at limits reserve (recall r (wanted_step v) x).walk [] Slot < reads_left_in limits reserve r visit) (Row version.head b.row)
          (answer.Content b.content) told b.asked b.is (by_passed r.walk.passed refl)
        where
          now : Walk
          now = (recall r (step.Row b.row) (answer.Content b.content)).walk

          same_passed : now.passed ≡ r.walk.passed
          same_passed = rw (base_is_none b.content r.walk b.last) refl

          told_now : now.removed ≡ (now.passed || is_removed version.chain)
          told_now = (arrived limits way beyond k r visit level low earlier b.row b.content fits_row version b.pid b.chain b.last seeks).removed

          tells : now.removed ≡ (r.walk.passed || is_removed version.chain)
          tells = told_now ∙ ap (λ (p : Bool). p || is_removed version.chain) same_passed

          all : trail now ≡ r.walk.visited
          all = trail_on now version.chain told_now alive

          by_passed : (p : Bool) → r.walk.passed ≡ p → reads_left_at limits reserve now [] Slot < reads_left_in limits reserve r visit
          by_passed true e =
              let gone : now.removed ≡ true = rw e at tells in
              let same : kept ≡ (if now.removed then reserve else 0) = rw (gone, e) refl in
              let more = more_left in
              rw all (omega (arith, more, same))
          by_passed false e =
              let gone : now.removed ≡ false = rw (e, alive) at tells in
              let none : (if now.removed then reserve else 0) ≡ 0 = rw gone refl in
              let more = more_left in
              rw all (omega (arith, more, none))

      part_removed : is_removed version.chain ≡ true → is_removed visit.part ≡ true
      part_removed gone =
          let pushed = removed_push k.read.seen visit.part version.head b.row b.content seeks.on_way.shows.stands.seen in
          let here : is_removed (visit.part ++ b.content ∷ []) ≡ true = sym (ap is_removed b.chain) ∙ gone in
          ap (λ (t : Bool). t || is_removed visit.part) (sym (no_removal b.content b.last)) ∙ sym pushed ∙ here
        where
          no_removal : (content : Record) → next_row content ≡ None → is_removal content ≡ false
          no_removal (kind.Remove remove) e = cc
          no_removal content e = refl

      pub left_removed : is_removed version.chain ≡ true → reserve < reads_left_in limits reserve r visit
      left_removed gone = by_passed r.walk.passed refl
        where
          by_passed : (p : Bool) → r.walk.passed ≡ p → reserve < reads_left_in limits reserve r visit
          by_passed true e = let same : kept ≡ reserve = rw e refl in let more = more_left in omega (arith, more, same)
          by_passed false e = let is = part_removed gone in let same : kept ≡ full = rw (e, is) refl in let more = more_left in omega (arith, more, same)

      -- the round goes round a removed page, whose removal was a cause: the pages that it has read don't count any more
      pub left_round : is_removed version.chain ≡ true → r.walk.passed ≡ false → reads_left_at limits reserve (recall r (wanted_step visit) told).walk [] Slot < reads_left_in limits reserve r visit
      left_round gone first =
          back visit (λ v x. reads_left_at limits reserve (recall r (wanted_step v) x).walk [] Slot < reads_left_in limits reserve r visit) (Row version.head b.row)
          (answer.Content b.content) told b.asked b.is here
        where
          now : Walk
          now = (recall r (step.Row b.row) (answer.Content b.content)).walk

          same_passed : now.passed ≡ false
          same_passed = rw (base_is_none b.content r.walk b.last) first

          met : now.removed ≡ true
          met = (arrived limits way beyond k r visit level low earlier b.row b.content fits_row version b.pid b.chain b.last seeks).removed ∙ rw (same_passed, gone) refl

          here : reads_left_at limits reserve now [] Slot < reads_left_in limits reserve r visit
          here =
              let is = part_removed gone in
              let same : kept ≡ full = rw (first, is) refl in
              let none : trail now ≡ [] = rw (met, same_passed) refl in
              let all : (if now.removed then reserve else 0) ≡ reserve = rw met refl in
              let more = more_left in
              rw none (omega (arith, more, same, all))

-- the same with more that is kept
pub still : (reserve : ℕ) (r : Recalled) (asked : Step Record) (told : Answer Record) (had has kept : ℕ) → IsSpentWith (1 + reserve) r asked told had has
    → IsSpentWith (1 + reserve) r asked told (had + kept) (has + kept)
still reserve r asked told had has kept h = elim h [ inl less ↦ inl (omega (arith, less)) | inr paid ↦ inr (paid.0, (let few = paid.1 in omega (arith, few))) ]
