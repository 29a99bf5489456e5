-- A begin keeps a trace direct, and so does a step that its operation can afford.
use Rattle.tree_law.proofs.Words.{false, ap, refl, Option, List, true, inl, ◌≢◌, length, ◌++◌, ◌≤◌, inr, ◌∷◌, subst, sym, ℕ, ◌≡◌, ◌∙◌, ◌<◌, ◌*◌, arith, Some, ◌==◌, eqb_tells, same_Some, IsSome}
use Rattle.tree_law.proofs.Words.{Command, Reply, Limits, Answer, Whether, Content, Link, StepOf, Row, Exchange, replaced_at, Record, May, after_begin, knows, Knowledge, after_reply, Ready}
use Rattle.tree_law.proofs.Words.{learn, recall, Recalled, blank, recalls, IsAnswer, memory_of, IsUseful, IsOfUse, IsReading, IsInPhase, cleared, Slot, Number, None, zero, suc, slice_get}
use Rattle.tree_law.proofs.Words.{Placed, Indexed, phase_of, slot_in, row_in, Entry, Begin, Step, is_step_of, Links, Operation, IsUpdateLink, Accounts, IsLast, Affords, IsDirectState}
use Rattle.tree_law.proofs.Words.{Recollects, Walks, StaysDirect, IsState, Opens, [], cause_worth, MayExchange, OwnPage, link_of, owned, Reached, Key, PageOwner, Nobody, Keeps, Cleared, Fresh}
use Rattle.tree_law.proofs.Words.{Held, Removed, Merged}
use Rattle.traces.specs.discipline.Recalled.{IsStepSpent}
use Rattle.bw_model.specs.Replies.{is_writer}
use Rattle.tree_law.proofs.answering.Fitted.{fits}
use Rattle.std.specs.Prelude.{◌⊎◌}
use Rattle.bw_model.specs.declared.step.Link.TheVariants as link
use Rattle.linearization.specs.Direct.{IsOfTree}
use Rattle.linearization.specs.Phases as phase
use Rattle.tree_law.proofs.links.Keeping.{met_placed, slot_of}
use Rattle.tree_law.proofs.trace.Owned.{same_start}
use Rattle.tree_law.proofs.shape.Puts.{at_place, by_equal}
use Rattle.tree_law.proofs.direct.Appended.{knows-push, last_begun, last_cases, recalls-push, takes_below}
use Rattle.tree_law.proofs.direct.Causes.{LinksLast, links_cases}
use Rattle.tree_law.proofs.direct.Counting.{affords_begun, affords_cause, affords_kept, affords_less}
use Rattle.tree_law.proofs.direct.Directing.{direct}
use Rattle.tree_law.proofs.direct.Linking.{IsChange, change, linked_kept}
use Rattle.tree_law.proofs.direct.Owning.{never_read, was_ready}
use Rattle.tree_law.proofs.direct.Paying.{paid}
use Rattle.tree_law.proofs.direct.Recollecting.{heads_cases, recollects_blank, recollects_other, recollects_own}
use Rattle.tree_law.proofs.direct.Walking.{walks_kept, walks_own}

pub not_step_of : (actor other : ℕ) (s : StepOf Record) (x : Answer Record) (reply : Option Reply) → actor ≢ other → is_step_of actor (Step other s x reply) ≡ false
not_step_of actor other s x reply ne = elim (eqb_tells other actor) [ inl same ↦ absurd (ne (sym same.1)) | inr apart ↦ apart.0 ]

pub opens : Opens IsDirectState
opens limits = record {
  direct = record {
    few = λ op n begun own. absurd (cc);
    since = λ op m n begun after le own. absurd (cc);
    once = λ op m n first second begun one two is_one
        is_two. absurd (cc);
    useful = λ op n slot old new chain begun took is is_chain. absurd (cc);
    reads = λ op n s x begun reader took. absurd (cc);
    emptied =
        λ op n pid begun took. absurd (cc);
    settled = λ op n pid row begun took some held. absurd (cc);
    links = λ op n slot old new begun took. absurd (cc);
  };
  recollects = λ op latest. absurd (cc latest.begun);
  walks = λ op latest. absurd (cc latest.begun);
  foreign = λ actor page head base e f. absurd (cc);
  linked = λ op n kind latest. absurd (cc latest.begun);
}

-- no slot that is recalled is that of a page which its actor has made ready
abbrev AreForeign : Recalled → Knowledge → Type 0
AreForeign r k = (page head base : ℕ) → r.heads page ≡ Some head → k.own.pages page ≡ Ready base → ⊥

module _ (limits : Limits) (entries : List Entry) (a : ℕ) (c : Command) (kept : IsDirectState limits entries) where
  abbrev last : Entry
  last = Begin a c

  abbrev longer : List Entry
  longer = entries ++ Begin a c ∷ []

  recollects_begun : (op : Operation) → IsLast longer op → Recollects limits longer op (recalls longer op.actor)
  recollects_begun op latest = rw (recalls-push entries last) (at_place (Recollects limits longer op) a blank (recalls entries) op.actor (λ same. recollects_blank limits entries last op)
      (λ ne. elim (last_cases entries last op latest) [
        | inl before ↦ recollects_other limits entries last op (recalls entries op.actor) (λ step answer reply is. cc) (kept.recollects op before)
        | inr at ↦ absurd (ne (let e = at.1 in cc))
      ]))

  linked_begun : (op : Operation) (n : ℕ) (kind : Link) → IsLast longer op → Links limits longer op n kind → IsUpdateLink kind → IsSome (knows longer op.actor).asked.linked
  linked_begun op n kind latest links is = rw (knows-push entries last) (elim (links_cases limits entries last op n kind links) [
    | inl old ↦
        let below : n < length entries = takes_below entries last op n _ _ old.3 in
        let start : op.start < n = old.3.1.begun in
        at_place (λ (k : Knowledge). IsSome k.asked.linked) a (after_begin (knows entries a) c) (knows entries) op.actor
        (λ same. absurd (let at : op.start ≡ length entries = last_begun entries last op c (ap (λ b. Begin b c) (sym same)) latest in omega arith))
        (λ ne. elim (last_cases entries last op latest) [ inl before ↦ kept.linked op n kind before old is | inr at ↦ let e : op.start ≡ length entries = at.0 in absurd (omega arith) ])
    | inr at ↦ let e = at.1.is in absurd (cc)
  ])

  walks_begun : (op : Operation) → IsLast longer op → (recalls longer op.actor).walk.rooted ≡ true → Walks limits longer op (knows longer op.actor).read.seen (recalls longer op.actor).walk
  walks_begun op latest =
      rw (recalls-push entries last) (rw (knows-push entries last) (by_equal op.actor a
      (λ same t. rw t λ rooted. absurd (cc))
      (λ ne t. rw t λ rooted. elim (last_cases entries last op latest) [
        | inl before ↦ walks_kept limits entries last op (knows entries op.actor).read.seen (recalls entries op.actor).walk (λ step answer reply is. cc) (kept.walks op before rooted)
        | inr at ↦ absurd (ne (let e = at.1 in cc))
      ])))

  foreign_begun : (actor : ℕ) → AreForeign (recalls longer actor) (knows longer actor)
  foreign_begun actor = rw (recalls-push entries last) (rw (knows-push entries last) (by_equal actor a (λ same t. rw t λ page head base e f. absurd (cc)) (λ ne t. rw t (kept.foreign actor))))

  pub begins : (left : ℕ) → left ≤ cause_worth limits → StaysDirect limits entries (Begin a c) a left
  begins left few = record {
    state = record {
      direct =
          direct limits entries last kept (λ op s x reply latest is. absurd (cc)) (λ b slot old new reply is. absurd (cc))
          (λ op s x reply latest is reader. absurd (cc)) (λ op pid reply is. absurd (cc))
          (λ op pid row reply is some held. absurd (cc)) (λ b slot old new reply is. absurd (cc));
      recollects = recollects_begun;
      walks = walks_begun;
      foreign = foreign_begun;
      linked = linked_begun;
    };
    account = λ op latest same. affords_begun limits entries last op left (last_begun entries last op c (ap (λ b. Begin b c) (sym same)) latest) refl few;
    others = λ other more ne accounts op latest same. elim (last_cases entries last op latest) [
      | inl before ↦ affords_kept limits entries last op more before.begun refl (accounts op before same)
      | inr at ↦ absurd (ne (sym same ∙ (let e : Begin a c ≡ Begin op.actor op.command = at.1 in let f : op.actor ≡ a = cc in f)))
    ];
  }

same_number : (j k : ℕ) → ◌≡◌ {A = Answer Record} (Whether true) (Whether (j == k)) → j ≡ k
same_number j k e = elim (eqb_tells j k) [ inl same ↦ same.1 | inr apart ↦ absurd (cc apart.0) ]

-- a PID that isn't free is one that there is
there_is : (limits : Limits) (p : phase.Phase) (pid : ℕ) → (p ≡ phase.free) ⊎ ((0 < pid) × (pid < limits.pids)) → p ≢ phase.free → pid < limits.pids
there_is limits p pid (inl none) other = absurd (other none)
there_is limits p pid (inr some) other = some.1

-- a page that is reached in the tree is one of the tree
of_tree : (limits : Limits) (entries : List Entry) (n pid : ℕ) (w : PageOwner) (r l : ℕ) (s : Key) → Reached r l s w
    → IsInPhase limits entries n pid (phase_of w) → (phase_of w ≡ phase.free) ⊎ ((0 < pid) × (pid < limits.pids)) → IsOfTree limits entries n pid
of_tree limits entries n pid Nobody r l s reached at below = absurd reached
of_tree limits entries n pid (Keeps b) r l s reached at below = absurd reached
of_tree limits entries n pid (Placed Fresh l' s') r l s reached at below = (phase.fresh, at, (λ e. cc e), (λ e. cc e), there_is limits phase.fresh pid below (λ e. cc e))
of_tree limits entries n pid (Placed Indexed l' s') r l s reached at below = (phase.indexed, at, (λ e. cc e), (λ e. cc e), there_is limits phase.indexed pid below (λ e. cc e))
of_tree limits entries n pid (Placed Held l' s') r l s reached at below = (phase.held, at, (λ e. cc e), (λ e. cc e), there_is limits phase.held pid below (λ e. cc e))
of_tree limits entries n pid (Placed Removed l' s') r l s reached at below = (phase.removed, at, (λ e. cc e), (λ e. cc e), there_is limits phase.removed pid below (λ e. cc e))
of_tree limits entries n pid (Placed Merged l' s') r l s reached at below = (phase.merged, at, (λ e. cc e), (λ e. cc e), there_is limits phase.merged pid below (λ e. cc e))
of_tree limits entries n pid (Cleared b l' s') r l s reached at below = (phase.cleared, at, (λ e. cc e), (λ e. cc e), there_is limits phase.cleared pid below (λ e. cc e))

-- who fills the slot of a page, or empties it again, keeps the page
keeps_slot : (limits : Limits) (entries : List Entry) (state : IsState limits entries) (b slot old new : ℕ) (kind : Link)
    → MayExchange b (knows entries b) slot old new → (memory_of limits entries).slots slot ≡ old
    → link_of (memory_of limits entries) slot old new ≡ Some kind → (kind ≡ link.Ready) ⊎ (kind ≡ link.Undo) → state.owners.page slot ≡ Keeps b
keeps_slot limits entries state b zero old new kind may at linked own_kind = absurd (elim own_kind [ inl e ↦ cc (e, linked) | inr e ↦ cc (e, linked) ])
keeps_slot limits entries state b (suc p) zero zero kind may at linked own_kind = absurd may
keeps_slot limits entries state b (suc p) zero (suc row) kind may at linked own_kind = (rw may.0 at (state.is_tree.owns_pages b (suc p))).0
keeps_slot limits entries state b (suc p) (suc old) new kind may at linked own_kind =
    let made = change limits entries b state (suc p) (suc old) new may at in
    let same : made.kind ≡ kind = same_Some _ _ (sym made.is ∙ linked) in
    by_page ((knows entries b).own.pages (suc p)) refl (λ never. let counts = made.counts (omega arith) never in
    elim own_kind [ inl e ↦ counts.0 (same ∙ e) | inr e ↦ counts.1 (same ∙ e) ])
  where
    by_page : (page : OwnPage) → (knows entries b).own.pages (suc p) ≡ page → (((base : ℕ) → (knows entries b).own.pages (suc p) ≡ Ready base → ⊥) → ⊥) → state.owners.page (suc p) ≡ Keeps b
    by_page (Ready base) e none = (rw e at (state.is_tree.owns_pages b (suc p))).0
    by_page page e none = absurd (none (λ base f. cc (e, f)))

module _ (limits : Limits) (entries : List Entry) (a : ℕ) (s : StepOf Record) (x : Answer Record) (reply : Option Reply) (state : IsState limits entries)
    (may : May a (knows entries a) s) (useful : IsOfUse (knows entries a) s)
    (is_answer : IsAnswer (memory_of limits entries) s x) (kept : IsDirectState limits entries) where
  abbrev next : Entry
  next = Step a s x reply

  abbrev grown : List Entry
  grown = entries ++ Step a s x reply ∷ []

  -- the entry is the actor's
  of_actor : (op : Operation) → op.actor ≡ a → next ≡ Step op.actor s x reply
  of_actor op same = rw (← same)

  -- what is known of the entry
  abbrev IsKnown : Entry → Type 0
  IsKnown (Begin b c) = Unit {0}
  IsKnown (Step b t y r) = May b (knows entries b) t × IsUseful (knows entries b) t × IsAnswer (memory_of limits entries) t y

  changes : (b slot old new : ℕ) (r : Option Reply) → next ≡ Step b (Exchange slot old new) (Whether true) r
      → IsChange limits entries b slot old new × IsUseful (knows entries b) (Exchange slot old new)
  changes b slot old new r is =
      let h : May b (knows entries b) (Exchange slot old new) × IsUseful (knows entries b) (Exchange slot old new) × IsAnswer (memory_of limits entries) (Exchange slot old new) (Whether true) = subst
      IsKnown is (may, useful.useful, is_answer) in
      (change limits entries b state slot old new h.0.1 (same_number _ _ h.2), h.1)

  -- a reader only reads
  asked_last : (op : Operation) → IsLast entries op → op.actor ≡ a → op.command ≡ useful.command
  asked_last op latest same =
      let t = state.tells a useful.command (sym (state.named.commands a) ∙ useful.going) in
      let begins_at : slice_get entries op.start ≡ Some (Begin a op.command) = rw same at latest.begun in
      let at : op.start ≡ t.start = same_start entries op.start t.start a op.command useful.command begins_at t.begins (rw same at latest.unended) t.unended in
      let e : Some (Begin a op.command) ≡ Some (Begin a useful.command) = sym begins_at ∙ ap (slice_get entries) at ∙ t.begins in
      cc

  reads_now : (op : Operation) (t : StepOf Record) (y : Answer Record) (r : Option Reply) → IsLast entries op → next ≡ Step op.actor t y r → is_writer op.command ≡ false → IsReading t
  reads_now op t y r latest is reader =
      let mine : op.actor ≡ a = cc in
      let step : s ≡ t = cc in
      rw step at (useful.reads (rw (asked_last op latest mine) at reader))

  -- a slot that is found empty is that of a page that was cleared
  finds_cleared : (pid : ℕ) → s ≡ Slot pid → x ≡ Number 0 → IsInPhase limits entries (length entries) pid cleared
  finds_cleared zero i j =
      let root : Number 0 ≡ Number ((memory_of limits entries).slots 0) = rw (i, j) at is_answer in
      let at : state.owners.page 0 ≡ Placed Indexed state.is_tree.tree.top [] = rw (let e : (memory_of limits entries).slots 0 ≡ 0 = cc in e) at state.is_tree.tree.exact.is_root in
      elim (state.named.pid_below 0) [ inl none ↦ absurd (cc (at, none)) | inr some ↦ let above = some.0 in absurd (omega arith) ]
  finds_cleared (suc p) i j =
      let there = met_placed state.is_tree a (suc p) (rw i at may).1 in
      let none : Number 0 ≡ Number ((memory_of limits entries).slots (suc p)) = rw (i, j) at is_answer in
      let empty : slot_in (memory_of limits entries).slots (suc p) ≡ None = ap row_in (let e : (memory_of limits entries).slots (suc p) ≡ 0 = cc in e) in
      elim (slot_of state.is_tree a (suc p) there.0 there.1 there.2) [
        | inl out ↦ subst (IsInPhase limits entries (length entries) (suc p)) (ap phase_of out.1.3) (state.in_phase (suc p))
        | inr some ↦ let held = some.1 in absurd (cc (held, empty))
      ]

  cleared_now : (op : Operation) (pid : ℕ) (r : Option Reply) → next ≡ Step op.actor (Slot pid) (Number 0) r → IsInPhase limits entries (length entries) pid cleared
  cleared_now op pid r is = finds_cleared pid (let e : s ≡ Slot pid = cc in e) (let e : x ≡ Number 0 = cc in e)

  -- a slot in which a row is found is that of a page of the tree
  settled_now : (op : Operation) (pid row : ℕ) (r : Option Reply) → next ≡ Step op.actor (Slot pid) (Number row) r → 0 < pid → 0 < row → IsOfTree limits entries (length entries) pid
  settled_now op pid row r is some held = met pid (let e : s ≡ Slot pid = cc in e) some
    where
      met : (p : ℕ) → s ≡ Slot p → 0 < p → IsOfTree limits entries (length entries) p
      met zero i lt = absurd (omega arith)
      met (suc p) i lt =
          let there = met_placed state.is_tree a (suc p) (rw i at may).1 in
          of_tree limits entries (length entries) (suc p) (state.owners.page (suc p)) 0 there.0 there.1 there.2 (state.in_phase (suc p)) (state.named.pid_below (suc p))

  -- an exchange that wins has a link, and a slot that is filled, or emptied again, is that of an own page
  links_now : (b slot old new : ℕ) (r : Option Reply) → next ≡ Step b (Exchange slot old new) (Whether true) r
      → (kind : Link) × (link_of (memory_of limits entries) slot old new ≡ Some kind) × ((kind ≡ link.Ready) ⊎ (kind ≡ link.Undo) → IsInPhase limits entries (length entries) slot owned)
  links_now b slot old new r is =
      let h : May b (knows entries b) (Exchange slot old new) × IsUseful (knows entries b) (Exchange slot old new) × IsAnswer (memory_of limits entries) (Exchange slot old new) (Whether true) = subst
      IsKnown is (may, useful.useful, is_answer) in
      let made = (changes b slot old new r is).0 in (
        made.kind,
        made.is,
        λ own_kind. subst (IsInPhase limits entries (length entries) slot)
            (ap phase_of (keeps_slot limits entries state b slot old new made.kind h.0.1 (same_number _ _ h.2) made.is own_kind)) (state.in_phase slot),
      )

  recollects_stepped : (op : Operation) → IsLast grown op → Recollects limits grown op (recalls grown op.actor)
  recollects_stepped op latest = elim (last_cases entries next op latest) [
    | inl before ↦ rw (recalls-push entries next) (at_place (Recollects limits grown op) a (recall (recalls entries a) s x) (recalls entries) op.actor
        (λ same. recollects_own limits entries next op s x reply before (of_actor op same) (recalls entries a)
        (rw (← same) (kept.recollects op before)))
        (λ ne. recollects_other limits entries next op (recalls entries op.actor) (λ step answer r is. ne (let e : op.actor ≡ a = cc in e)) (kept.recollects op before)))
    | inr at ↦ let e = at.1 in absurd (cc)
  ]

  walks_stepped : (op : Operation) → IsLast grown op → (recalls grown op.actor).walk.rooted ≡ true → Walks limits grown op (knows grown op.actor).read.seen (recalls grown op.actor).walk
  walks_stepped op latest =
      let mine : Recalled = recall (recalls entries a) s x in
      elim (last_cases entries next op latest) [
        | inl before ↦
            rw (recalls-push entries next) (rw (knows-push entries next) (by_equal op.actor a
            (λ same t. rw t (walks_own limits entries next op s x reply before (of_actor op same) (knows entries a) (recalls entries a) (memory_of limits entries) is_answer
            (rw (← same) (kept.walks op before))))
            (λ ne t. rw t λ rooted. walks_kept limits entries next op (knows entries op.actor).read.seen (recalls entries op.actor).walk
            (λ step answer r is. absurd (ne (let e : op.actor ≡ a = cc in e))) (kept.walks op before rooted))))
        | inr at ↦ let e = at.1 in absurd (cc)
      ]

  foreign_stepped : (actor : ℕ) → AreForeign (recalls grown actor) (knows grown actor)
  foreign_stepped actor =
      let own : AreForeign (recall (recalls entries a) s x) (learn (knows entries a) s x) = λ page head base e f. elim (heads_cases (recalls entries a) s x page head e) [
        | inl now ↦ never_read limits entries state a page base (rw now.0 at may) (was_ready page base (knows entries a) s x (λ i. rw now.0 at i) f)
        | inr old ↦ kept.foreign a page head base old.0 (was_ready page base (knows entries a) s x old.1 f)
      ] in
      rw (recalls-push entries next) (rw (knows-push entries next) (by_equal actor a (λ same t. rw t own) (λ ne t. rw t (kept.foreign actor))))

  linked_stepped : (op : Operation) (n : ℕ) (kind : Link) → IsLast grown op → Links limits grown op n kind → IsUpdateLink kind → IsSome (knows grown op.actor).asked.linked
  linked_stepped op n kind latest links is = elim (last_cases entries next op latest) [
    | inr at ↦ let e = at.1 in absurd (cc)
    | inl before ↦ rw (knows-push entries next) (elim (links_cases limits entries next op n kind links) [
      | inl old ↦
          let some : IsSome (knows entries op.actor).asked.linked = kept.linked op n kind before old is in
          at_place (λ (k : Knowledge). IsSome k.asked.linked) a (after_reply (learn (knows entries a) s x) reply) (knows entries) op.actor
          (λ same. linked_kept (knows entries a) s x (rw same at some))
          (λ ne. some)
      | inr at ↦ now op kind at.1 is
    ])
  ]
    where
      now : (op : Operation) (kind : Link) → LinksLast limits entries next op kind → IsUpdateLink kind
          → IsSome (replaced_at a (after_reply (learn (knows entries a) s x) reply) (knows entries) op.actor).asked.linked
      now op kind at is =
          let made = (changes op.actor at.slot at.old at.new at.reply at.is).0 in
          let same : made.kind ≡ kind = same_Some _ _ (sym made.is ∙ at.link) in
          at_place (λ (k : Knowledge). IsSome k.asked.linked) a (after_reply (learn (knows entries a) s x) reply) (knows entries) op.actor
          (λ e. subst Learns (sym at.is) (made.known (rw same is)))
          (λ ne. absurd (ne (let f = at.is in let e : op.actor ≡ a = cc in e)))
        where
          Learns : Entry → Type 0
          Learns (Begin b c) = ⊥
          Learns (Step b t y r) = IsSome (learn (knows entries b) t y).asked.linked

  -- a record that is read again is the one that was read before
  read_again : (row : ℕ) (content before : Record) → s ≡ Row row → x ≡ Content content → (knows entries a).read.seen row ≡ Some before → content ≡ before
  read_again row content before i j e =
      (rw j at (rw i at (fits limits entries state a s x may is_answer))).same before e

  module _ (left rest : ℕ) (accounts : Accounts limits entries a left) (spent : IsStepSpent limits (recalls entries a) s x left rest) (few : rest ≤ cause_worth limits * 10) where
    afford : (op : Operation) → IsLast entries op → op.actor ≡ a → Affords limits grown op rest
    afford op latest same = elim spent [
      | inl less ↦ affords_less limits entries next op left rest latest.begun (accounts op latest same) less
      | inr h ↦ affords_cause limits entries next op left rest latest.begun (accounts op latest same)
          (paid limits entries next op latest reply s x (recalls entries a) (knows entries a).read.seen (of_actor op same)
          (λ slot old new is_step is_won. (changes op.actor slot old new reply (λ i. Step (same' same i) (is_step i) (is_won i) reply)).0)
          (λ page head base e f. kept.foreign a page head base e (rw same at f))
          read_again
          (rw (← same) (kept.recollects op latest))
          (rw (← same) (kept.walks op latest))
          h.0)
          h.1
          few
    ]
      where
        same' : {b : ℕ} → b ≡ a → a ≡ b
        same' e = sym e

    pub steps : StaysDirect limits entries next a rest
    steps = record {
      state = record {
        direct = direct limits entries next kept (λ op t y r latest is. (rest, afford op latest (let e : op.actor ≡ a = cc in e))) changes reads_now cleared_now settled_now links_now;
        recollects = recollects_stepped;
        walks = walks_stepped;
        foreign = foreign_stepped;
        linked = linked_stepped;
      };
      account = λ op latest same. elim (last_cases entries next op latest) [ inl before ↦ afford op before same | inr at ↦ let e = at.1 in absurd (cc) ];
      others = λ other more ne accounts_of op latest same. elim (last_cases entries next op latest) [
        | inl before ↦ affords_kept limits entries next op more before.begun (not_step_of op.actor a s x reply (λ e. ne (sym same ∙ e))) (accounts_of op before same)
        | inr at ↦ let e = at.1 in absurd (cc)
      ];
    }
