-- A direct trace stays direct with one entry more, where its operation can afford it.
use Rattle.tree_law.proofs.Words.{[], ap, Option, suc, None, List, true, inl, length, ◌++◌, ◌≤◌, inr, ◌∷◌, sym, ℕ, ◌≡◌, ◌∙◌, ◌<◌, arith, Some, ◌+◌, drop, ◌*◌, All-weaker, same_Some, All}
use Rattle.tree_law.proofs.Words.{count_by, IsStrictlyIncreasing, IsSome, slice_range, Reply, Limits, Answer, Whether, Link, StepOf, Exchange, Record, IsChainOf, knows, memory_at, memory_of}
use Rattle.tree_law.proofs.Words.{IsUseful, IsReading, IsInPhase, cleared, Slot, Number, false, Entry, Step, is_step_of, Links, IsCause, IsDirect, link_of, IsOperation, Operation, IsOwnStep}
use Rattle.tree_law.proofs.Words.{TakesOwnStep, IsUpdateLink, IsLast, Affords, IsDirectState, cause_worth, owned}
use Rattle.std.proofs.lemmas.List.{take_rest}
use Rattle.tree_law.specs.Direct.{AffordsFrom}
use Rattle.bw_model.specs.Replies.{is_writer}
use Rattle.bw_model.specs.declared.step.Link.TheVariants as link
use Rattle.linearization.specs.Direct.{IsOfTree}
use Rattle.std.specs.Prelude.{◌⊎◌}
use Rattle.linearization.proofs.PhaseLaws.{IsInPhase-kept}
use Rattle.tree_law.proofs.trace.Owned.{pushed_length}
use Rattle.tree_law.proofs.direct.Appended.{memory_kept, memory_last, operation_before, takes_below, takes_cases}
use Rattle.tree_law.proofs.direct.Causes.{LinksLast, cause_kept, links_cases}
use Rattle.tree_law.proofs.direct.Linking.{IsChange}
use Rattle.tree_law.proofs.direct.Counting.{range_kept}

-- the causes until a step pay for the steps until then
abbrev Few : Limits → List Entry → Operation → ℕ → Type 0
Few limits trace op n = (causes : List ℕ) × IsStrictlyIncreasing causes × All (λ cause. (cause ≤ n) × IsCause limits trace op cause) causes
    × (count_by (is_step_of op.actor) (slice_range trace op.start (suc n)) ≤ cause_worth limits * (length causes + 1))

-- an operation that can afford its last step has taken few
few_last : (limits : Limits) (trace : List Entry) (op : Operation) (n rest : ℕ) → suc n ≡ length trace → Affords limits trace op rest → Few limits trace op n
few_last limits trace op n rest whole h = (
  h.causes,
  h.increasing,
  All-weaker (λ cause. (cause < length trace) × IsCause limits trace op cause) (λ cause. (cause ≤ n) × IsCause limits trace op cause)
      (λ cause g. let below : cause < length trace = g.0 in (omega arith, g.1)) h.causes h.each,
  (
      let same : slice_range trace op.start (suc n) ≡ drop op.start trace = rw whole (take_rest trace op.start) in
      let counted : count_by (is_step_of op.actor) (slice_range trace op.start (suc n)) ≡ count_by (is_step_of op.actor) (drop op.start trace) = ap (count_by (is_step_of op.actor)) same in
      let paid : count_by (is_step_of op.actor) (drop op.start trace) + rest ≤ cause_worth limits * (length h.causes + 1) = h.paid in
      omega arith
      ),
)

-- the causes from an entry on until a step, and ten more, pay for the steps since then
abbrev Since : Limits → List Entry → Operation → ℕ → ℕ → Type 0
Since limits trace op m n = (causes : List ℕ) × IsStrictlyIncreasing causes × All (λ cause. (m ≤ cause) × (cause ≤ n) × IsCause limits trace op cause) causes
    × (count_by (is_step_of op.actor) (slice_range trace m (suc n)) ≤ cause_worth limits * (length causes + 10))

since_last : (limits : Limits) (trace : List Entry) (op : Operation) (m n rest : ℕ) → suc n ≡ length trace → AffordsFrom limits trace op rest m → Since limits trace op m n
since_last limits trace op m n rest whole h = (
  h.causes,
  h.increasing,
  All-weaker (λ cause. (m ≤ cause) × (cause < length trace) × IsCause limits trace op cause)
      (λ cause. (m ≤ cause) × (cause ≤ n) × IsCause limits trace op cause) (λ cause g. let below : cause < length trace = g.1 in (g.0, omega arith, g.2))
      h.causes h.each,
  (
      let same : slice_range trace m (suc n) ≡ drop m trace = rw whole (take_rest trace m) in
      let counted : count_by (is_step_of op.actor) (slice_range trace m (suc n)) ≡ count_by (is_step_of op.actor) (drop m trace) = ap (count_by (is_step_of op.actor)) same in
      let paid : count_by (is_step_of op.actor) (drop m trace) + rest ≤ cause_worth limits * (length h.causes + 10) = h.paid in
      omega arith
      ),
)

module _ (limits : Limits) (entries : List Entry) (last : Entry) (kept : IsDirectState limits entries) where
  abbrev longer : List Entry
  longer = entries ++ last ∷ []

  few_kept : (op : Operation) (n : ℕ) → IsOperation entries op → IsOwnStep entries op n → Few limits longer op n
  few_kept op n begun own =
      let h = kept.direct.few op n begun own in
      let below : n < length entries = takes_below entries last op n own.0 own.1 own.2 in
      let start : op.start < n = own.2.1.begun in (
        h.0,
        h.1,
        All-weaker (λ cause. (cause ≤ n) × IsCause limits entries op cause) (λ cause. (cause ≤ n) × IsCause limits longer op cause)
            (λ cause g. (g.0, cause_kept limits entries last op cause g.1)) h.0 h.2,
        rw (range_kept entries last op.start (suc n) (omega arith) (omega arith)) h.3,
      )

  since_kept : (op : Operation) (m n : ℕ) → IsOperation entries op → op.start < m → m ≤ n → IsOwnStep entries op n → Since limits longer op m n
  since_kept op m n begun after le own =
      let h = kept.direct.since op m n begun after le own in
      let below : n < length entries = takes_below entries last op n own.0 own.1 own.2 in (
        h.0,
        h.1,
        All-weaker (λ cause. (m ≤ cause) × (cause ≤ n) × IsCause limits entries op cause) (λ cause. (m ≤ cause) × (cause ≤ n) × IsCause limits longer op cause)
            (λ cause g. (g.0, g.1, cause_kept limits entries last op cause g.2)) h.0 h.2,
        rw (range_kept entries last m (suc n) (omega arith) (omega arith)) h.3,
      )

  module _ (afford : (op : Operation) (s : StepOf Record) (x : Answer Record) (reply : Option Reply) → IsLast entries op → last ≡ Step op.actor s x reply → (rest : ℕ) × Affords limits longer op rest)
      (change : (b slot old new : ℕ) (reply : Option Reply) → last ≡ Step b (Exchange slot old new) (Whether true) reply → IsChange limits entries b slot old
      new × IsUseful (knows entries b) (Exchange slot old new))
      (reads_now : (op : Operation) (s : StepOf Record) (x : Answer Record) (reply : Option Reply) → IsLast entries op → last ≡ Step op.actor s x reply → is_writer op.command ≡ false → IsReading s)
      (cleared_now : (op : Operation) (pid : ℕ) (reply : Option Reply) → last ≡ Step op.actor (Slot pid) (Number 0) reply → IsInPhase limits entries (length entries) pid cleared)
      (settled_now : (op : Operation) (pid row : ℕ) (reply : Option Reply) → last ≡ Step op.actor (Slot pid) (Number row) reply → 0 < pid → 0 < row → IsOfTree limits entries (length entries) pid)
      (links_now : (b slot old new : ℕ) (reply : Option Reply) → last ≡ Step b (Exchange slot old new) (Whether true) reply
      → (kind : Link) × (link_of (memory_of limits entries) slot old new ≡ Some kind) × ((kind ≡ link.Ready) ⊎ (kind ≡ link.Undo) → IsInPhase limits entries (length entries) slot owned)) where
    few : (op : Operation) (n : ℕ) → IsOperation longer op → IsOwnStep longer op n → Few limits longer op n
    few op n begun own =
        let before : IsOperation entries op = operation_before entries last op n own.0 own.1 begun own.2 in
        elim (takes_cases entries last op n own.0 own.1 own.2) [
          | inl old ↦ few_kept op n before (own.0, own.1, old)
          | inr at ↦
              let h = afford op own.0 own.1 at.1.0 (record { begun = before; unended = at.2 }) at.1.1 in
              let long : length longer ≡ suc (length entries) = pushed_length entries last in
              let same : n ≡ length entries = at.0 in
              few_last limits longer op n h.0 (omega arith) h.1
        ]

    since : (op : Operation) (m n : ℕ) → IsOperation longer op → op.start < m → m ≤ n → IsOwnStep longer op n → Since limits longer op m n
    since op m n begun after le own =
        let before : IsOperation entries op = operation_before entries last op n own.0 own.1 begun own.2 in
        elim (takes_cases entries last op n own.0 own.1 own.2) [
          | inl old ↦ since_kept op m n before after le (own.0, own.1, old)
          | inr at ↦
              let h = afford op own.0 own.1 at.1.0 (record { begun = before; unended = at.2 }) at.1.1 in
              let long : length longer ≡ suc (length entries) = pushed_length entries last in
              let same : n ≡ length entries = at.0 in
              since_last limits longer op m n h.0 (omega arith) (h.1.since m after (omega arith))
        ]

    -- an operation that has linked an update links no other
    apart : (op : Operation) (m : ℕ) (first second : Link) → IsLast entries op → Links limits entries op m first → LinksLast limits entries last op second
        → IsUpdateLink first → IsUpdateLink second → ⊥
    apart op m first second latest before now one two =
        let made = (change op.actor now.slot now.old now.new now.reply now.is).0 in
        let false : IsSome {T = ℕ} None = rw (made.once (rw (same_Some _ _ (sym made.is ∙ now.link)) two)) at (kept.linked op m first latest before one) in
        cc

    once : (op : Operation) (m n : ℕ) (first second : Link) → IsOperation longer op → Links limits longer op m first → Links limits longer op n second
        → IsUpdateLink first → IsUpdateLink second → m ≡ n
    once op m n first second begun one two is_one is_two =
        let before : IsOperation entries op = operation_before entries last op m _ _ begun one.3 in
        elim (links_cases limits entries last op m first one) [
          | inl old ↦ elim (links_cases limits entries last op n second two) [
            | inl other ↦ kept.direct.once op m n first second before old other is_one is_two
            | inr at ↦ absurd (apart op m first second (record { begun = before; unended = at.2 }) old at.1 is_one is_two)
          ]
          | inr at ↦ elim (links_cases limits entries last op n second two) [
            | inl other ↦ absurd (apart op n second first (record { begun = before; unended = at.2 }) other at.1 is_two is_one)
            | inr also ↦ at.0 ∙ sym also.0
          ]
        ]

    useful : (op : Operation) (n slot old new : ℕ) (chain : List Record) → IsOperation longer op
        → TakesOwnStep longer op n (Exchange slot old new) (Whether true) → link_of (memory_at limits longer n) slot old new ≡ Some link.Base
        → IsChainOf (memory_at limits longer n) slot chain → 1 < length chain
    useful op n slot old new chain begun took is is_chain =
        let before : IsOperation entries op = operation_before entries last op n _ _ begun took in
        elim (takes_cases entries last op n _ _ took) [
          | inl own ↦
              let below : n < length entries = takes_below entries last op n _ _ own in
              let same : memory_at limits longer n ≡ memory_at limits entries n = memory_kept entries last limits n (omega arith) in
              kept.direct.useful op n slot old new chain before own (rw same at is) (rw same at is_chain)
          | inr at ↦
              let made = change op.actor slot old new at.1.0 at.1.1 in
              let same : memory_at limits longer n ≡ memory_of limits entries = ap (memory_at limits longer) at.0 ∙ memory_last entries last limits in
              let kind : made.0.kind ≡ link.Base = same_Some _ _ (sym made.0.is ∙ (rw same at is)) in
              made.0.useful made.1 kind chain (rw same at is_chain)
        ]

    reads : (op : Operation) (n : ℕ) (s : StepOf Record) (x : Answer Record) → IsOperation longer op → is_writer op.command ≡ false → TakesOwnStep longer op n s x → IsReading s
    reads op n s x begun reader took =
        let before : IsOperation entries op = operation_before entries last op n _ _ begun took in
        elim (takes_cases entries last op n _ _ took) [
          | inl own ↦ kept.direct.reads op n s x before reader own
          | inr at ↦ reads_now op s x at.1.0 (record { begun = before; unended = at.2 }) at.1.1 reader
        ]

    emptied : (op : Operation) (n pid : ℕ) → IsOperation longer op → TakesOwnStep longer op n (Slot pid) (Number 0) → IsInPhase limits longer n pid cleared
    emptied op n pid begun took =
        let before : IsOperation entries op = operation_before entries last op n _ _ begun took in
        elim (takes_cases entries last op n _ _ took) [
          | inl own ↦
              let below : n < length entries = takes_below entries last op n _ _ own in
              IsInPhase-kept limits entries last n pid cleared (omega arith) (kept.direct.emptied op n pid before own)
          | inr at ↦ rw at.0 (IsInPhase-kept limits entries last (length entries) pid cleared (omega arith) (cleared_now op pid at.1.0 at.1.1))
        ]

    settled : (op : Operation) (n pid row : ℕ) → IsOperation longer op → TakesOwnStep longer op n (Slot pid) (Number row) → 0 < pid → 0 < row → IsOfTree limits longer n pid
    settled op n pid row begun took some held =
        let before : IsOperation entries op = operation_before entries last op n _ _ begun took in
        elim (takes_cases entries last op n _ _ took) [
          | inl own ↦
              let below : n < length entries = takes_below entries last op n _ _ own in
              let (phase, at, one, two, there) = kept.direct.settled op n pid row before own some held in
              (phase, IsInPhase-kept limits entries last n pid phase (omega arith) at, one, two, there)
          | inr at ↦
              let (phase, is, one, two, there) = settled_now op pid row at.1.0 at.1.1 some held in
              (phase, rw at.0 (IsInPhase-kept limits entries last (length entries) pid phase (omega arith) is), one, two, there)
        ]

    links : (op : Operation) (n slot old new : ℕ) → IsOperation longer op → TakesOwnStep longer op n (Exchange slot old new) (Whether true)
        → (kind : Link) × (link_of (memory_at limits longer n) slot old new ≡ Some kind) × ((kind ≡ link.Ready) ⊎ (kind ≡ link.Undo) → IsInPhase limits longer n slot owned)
    links op n slot old new begun took =
        let before : IsOperation entries op = operation_before entries last op n _ _ begun took in
        elim (takes_cases entries last op n _ _ took) [
          | inl own ↦
              let below : n < length entries = takes_below entries last op n _ _ own in
              let same : memory_at limits longer n ≡ memory_at limits entries n = memory_kept entries last limits n (omega arith) in
              let h = kept.direct.links op n slot old new before own in
              (h.0, rw same h.1, λ kind. IsInPhase-kept limits entries last n slot owned (omega arith) (h.2 kind))
          | inr at ↦
              let same : memory_at limits longer n ≡ memory_of limits entries = ap (memory_at limits longer) at.0 ∙ memory_last entries last limits in
              let h = links_now op.actor slot old new at.1.0 at.1.1 in
              (h.0, rw same h.1, λ kind. rw at.0 (IsInPhase-kept limits entries last (length entries) slot owned (omega arith) (h.2 kind)))
        ]

    pub direct : IsDirect limits longer
    direct = record { few = few; since = since; once = once; useful = useful; reads = reads; emptied = emptied; settled = settled; links = links }
