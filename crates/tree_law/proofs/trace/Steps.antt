-- A step keeps a state, and a state is linearized.
use Rattle.tree_law.proofs.Words.{false, ◌⊎◌, ap, refl, cond, Option, suc, None, List, true, inl, ◌≢◌, length, ◌++◌, inr, ◌∷◌, sym, ℕ, ◌≡◌, Bool, ◌∙◌, ◌<◌, arith, Some, same_Some, slice_get}
use Rattle.tree_law.proofs.Words.{IsSome, IfSome, IsFalse, if◌then◌else◌, IsTrue, ◌↔◌, bytes_eq, Update, logged_value, command_key, reply_of, Command, Swap}
use Rattle.tree_law.proofs.Words.{Reply, Limits, Answer}
use Rattle.tree_law.proofs.Words.{Number, StepOf, ReuseRows, ReusePids, Leave, Slot, Memory, Record, slice_get_kept, slice_get-push_cases, IsRun-push, memory_of-push, command_of-push, MayReply}
use Rattle.tree_law.proofs.Words.{IsAllowed, knows, Knowledge, after_reply, learn, IsAnswer, memory_after, command_of, memory_of, commands_after, Entry, Begin, Step, same_operation, log_of-push}
use Rattle.tree_law.proofs.Words.{RepliesAt, IsOperation, Operation, IsOwnStep, IsInPhase, MovesPhase, Phase, log_of, IsPoint, LinksUpdate, IsFirst, IsReuse}
use Rattle.tree_law.proofs.Words.{After, IsDue, Indexed, Linked, Phased, put, shared_part}
use Rattle.tree_law.proofs.Words.{slot_in, IsReadyPage, Tells, operation_from, IsSearch, IsState, phase_of, IsInTree, IsUnended, IsAnsweredBy, HasFound}
use Rattle.tree_law.proofs.Words.{HaveStood, Times, Timed, times_after, IsTree, []}
use Rattle.std.specs.Option.{option_to_list}
use Rattle.bw_model.specs.declared.command.Command.TheVariants.{Add, Back, DeleteIf, Page, Tidy}
use Rattle.bw_model.specs.declared.command.Reply.TheVariants as reply
use Rattle.bw_model.specs.Numbers.{is_number}
use Rattle.linearization.specs.Answered.{IsTrueReply}
use Rattle.linearization.specs.Points.{updates_by, has_point}
use Rattle.tree_law.specs.Next.{grown, log_at_point as pointed'}
use Rattle.tree_law.specs.TraceLaws.{StatesAreIndexed, StatesAreLinearized, StatesFreeByRule, StatesKeepPhases, Steps}
use Rattle.tree_law.proofs.epochs.Freeing.{t1, t2, rows_after, rows_timed, pages_after, pages_timed}
use Rattle.tree_law.proofs.epochs.Reused.{rows_numbers, rows_held, pages_numbers, pages_held}
use Rattle.tree_law.proofs.epochs.Timewise.{timed_step}
use Rattle.tree_law.proofs.epochs.Allowed.{after_of}
use Rattle.tree_law.proofs.trace.Beginning.{knows-push}
use Rattle.tree_law.proofs.trace.Ending.{ends_push, step_ends}
use Rattle.tree_law.proofs.shape.{is_indexed, root_indexed, first_stays, grows, fitted_after, unheld_after, indexed_push, map_of, by_equal, put_same, put_other}
use Rattle.tree_law.proofs.trace.Roots.{learns_root}
use Rattle.tree_law.proofs.epochs.Handed.{rows_in_limbo, pids_in_limbo, freed_after}
use Rattle.tree_law.proofs.trace.Lives.{only_after, pid_below_after, steps_in_phase, steps_phases}
use Rattle.tree_law.proofs.links.UpdateLinks.{update_links, link_updates}
use Rattle.tree_law.proofs.trace.Updates.{UpdatesNow, updates_push}
use Rattle.tree_law.proofs.trace.Marks.{take_whole, marked_push, tells_other, tells_own, quiet_push}
use Rattle.tree_law.proofs.trace.Names.{faithful_push, Numbers, calm_numbers, named_steps, reads_known, touches_outside, may_take}
use Rattle.tree_law.proofs.trace.Owned.{pushed_length, same_start, own_new}
use Rattle.tree_law.proofs.trace.Phasing.{moves_between, clears_cleared, moves_or_rests, removes_unheld}
use Rattle.tree_law.proofs.trace.Remark.{own_same}
use Rattle.tree_law.proofs.trace.Searches.{search_other, search_own}
use Rattle.tree_law.proofs.trace.Settling.{Settled, no_point, settled}
use Rattle.tree_law.proofs.trace.Slots.{held_after}
use Rattle.tree_law.proofs.trace.Standing.{stood_kept, stood_own}
use Rattle.tree_law.proofs.links.Stepping.{step as one_step}

-- The trace with one step more is a state; whose the pages are then, and that linked rows have their records still.
pub record Onward (limits : Limits) (entries : List Entry) (a : ℕ) (step : StepOf Record) (answer : Answer Record) (r : Option Reply) (state : IsState limits entries) : Type 0 where
  pub after : IsState limits (entries ++ Step a step answer r ∷ [])
  pub phased : Phased a (shared_part (memory_of limits entries)) step answer state.owners.page after.owners.page
  pub same : (row : ℕ) → state.owners.row row ≡ Linked → (memory_after a step (memory_of limits entries)).rows row ≡ (memory_of limits entries).rows row

abbrev is_update : Option Update → Bool
is_update None = false
is_update (Some u) = true

module _ (limits : Limits) (entries : List Entry) (a : ℕ) (step : StepOf Record) (answer : Answer Record) (r : Option Reply) (asked : Command)
    (state : IsState limits entries) (asks : command_of entries a ≡ Some asked)
    (allowed : IsAllowed limits a (knows entries a) step r) (is : IsAnswer (memory_of limits entries) step answer)
    (n : After a (shared_part (memory_of limits entries)) (shared_part (memory_after a step (memory_of limits entries))) (log_of entries state.points) state.owners
    (knows entries) state.point state.logs step answer r)
    (numbers : Numbers state.is_tree state.named a step answer r allowed.may is n.owners)
    (held' : (p q : ℕ) → slot_in (memory_after a step (memory_of limits entries)).slots p ≡ Some q → IsInTree (n.owners.page p) ⊎ IsReadyPage n.owners
    (memory_after a step (memory_of limits entries)) (put (knows entries) a (after_reply (learn (knows entries a) step answer) r)) p q)
    (times' : Times)
    (timed' : Timed limits (memory_after a step (memory_of limits entries)) n.owners (put (knows entries) a (after_reply (learn (knows entries a) step answer) r)) (suc (length entries)) times')
    (z : Settled limits entries (log_of entries state.points) state.point state.logs a asked r) where
  abbrev last : Entry
  last = Step a step answer r

  abbrev longer : List Entry
  longer = entries ++ last ∷ []

  abbrev mark : Bool
  mark = is_update n.update

  -- a step with a reply is no point
  unpointed : (reply : Reply) → r ≡ Some reply → mark ≡ false
  unpointed reply e = ap is_update (n.last (rw e at allowed.replied).0)

  -- an update is its operation's first
  alone : mark ≡ true → state.point a ≡ None
  alone = (elim n.update as (λ u. IfSome u (IsDue a (knows entries a) (log_of entries state.points)) → is_update u ≡ true → state.point a ≡ None) [
    | None ↦ λ due e. absurd (cc)
    | Some u ↦ λ due e. no_point limits entries a asked state asks due.2
  ]) n.due

  -- a step that is a point has no reply, and its operation had no point
  pointed : mark ≡ true → z.own_point ≡ None
  pointed e = (elim r as (λ o. r ≡ o → z.own_point ≡ None) [ None ↦ λ i. z.quietly i ∙ alone e | Some reply ↦ λ i. let f = unpointed reply i in absurd (cc) ]) refl

  is_mine : (op : Operation) → IsOperation entries op → op.actor ≡ a → IsUnended entries op.start op.actor → op ≡ operation_from z.mine.start a asked
  is_mine op begun actor unended =
      let begun' : slice_get entries op.start ≡ Some (Begin a op.command) = rw actor at begun in
      let start : op.start ≡ z.mine.start = same_start entries op.start z.mine.start a op.command asked begun' z.mine.begins (rw actor at unended) z.mine.unended in
      same_operation op (operation_from z.mine.start a asked) start actor (cc ((rw start at begun'), z.mine.begins))

  justified : (op : Operation) (reply : Reply) → IsOperation entries op → op.actor ≡ a → IsUnended entries op.start op.actor → r ≡ Some reply → IsAnsweredBy limits entries z.points op reply
  justified op reply begun actor unended e = rw (is_mine op begun actor unended) (z.replied reply e)

  -- what the step adds to the log is what its operation's command makes there
  logged : cond mark (log_of entries state.points ++ updates_by a (command_of entries a) (log_of entries state.points)) (log_of entries state.points) ≡ grown (log_of entries state.points) n.update
  logged = go n.update n.due
    where
      go : (u : Option Update) → IfSome u (IsDue a (knows entries a) (log_of entries state.points))
          → cond (is_update u) (log_of entries state.points ++ updates_by a (command_of entries a) (log_of entries state.points)) (log_of entries state.points) ≡ grown (log_of entries state.points) u
      go None due = refl
      go (Some u) due =
          ap (λ us. log_of entries state.points ++ us) (rw (sym (state.named.commands a) ∙ due.1) (ap option_to_list due.3))

  -- the step makes an update exactly where it links a put or a delete
  updated_now : UpdatesNow limits entries z.points last mark z.marked.beside ↔ LinksUpdate (memory_of limits entries) last
  updated_now =
      let logged' : log_of longer (z.points ++ mark ∷ []) ≡ grown (log_of entries z.points) n.update = rw (log_of-push entries z.points last mark z.marked.beside, z.log_is) logged in (
        λ h. let l = update_links (memory_of limits entries) state.is_tree a step answer r allowed.may is n (some_update n.update h.0) in
            (a, l.slot, l.old, l.new, l.kind, ((r, λ d. Step a (l.step d) (l.won d) r), l.link), l.update),
        λ h. makes_one n.update (link_updates (memory_of limits entries) state.is_tree a step answer r allowed.may is n
            (let e = h.5.0.1 in record { slot = h.1; old = h.2; new = h.3; kind = h.4; step = cc; won = cc; link = h.5.1; update = h.6 })) (log_of entries
            z.points) (log_of longer (z.points ++ mark ∷ [])) logged',
      )
    where
      some_update : (u : Option Update) → is_update u ≡ true → IsSome u
      some_update None e = absurd (cc)
      some_update (Some u) e = refl

      makes_one : (u : Option Update) → IsSome u → (l l' : List Update) → l' ≡ grown l u → (is_update u ≡ true) × ((update : Update) × (l' ≡ l ++ update ∷ []))
      makes_one None some l l' e = absurd (cc)
      makes_one (Some u) some l l' e = (refl, (u, e))

  point_after : (u : Option Update) → pointed' (log_of entries state.points) u (state.point a) ≡ cond (is_update u) (Some (log_of entries state.points)) (state.point a)
  point_after None = refl
  point_after (Some u) = refl

  tree_after : IsTree (shared_part (memory_of limits longer)) (log_of longer (z.points ++ mark ∷ [])) n.owners
      (knows longer) (put state.point a (cond mark (Some (log_of entries state.points)) (state.point a))) (put state.logs a (log_of entries state.points ∷ state.logs a))
  tree_after = rw (memory_of-push limits entries last, log_of-push entries z.points last mark z.marked.beside, z.log_is, knows-push entries last, logged, sym (point_after n.update)) n.is_tree

  other_command : (o : Option Reply) (b : ℕ) → b ≢ a → commands_after (command_of entries) (Step a step answer o) b ≡ command_of entries b
  other_command None b ne = refl
  other_command (Some y) b ne = put_other (command_of entries) a None b ne

  tells_mine : (o : Option Reply) → r ≡ o → (c : Command) → commands_after (command_of entries) (Step a step answer o) a ≡ Some c
      → Tells longer (z.points ++ mark ∷ []) a c (cond mark (Some (log_of entries state.points)) (state.point a)) (log_of entries state.points ∷ state.logs a)
  tells_mine None i c f =
      let log = log_of entries state.points in
      rw (same_Some asked c (sym asks ∙ f)) at
      (tells_own entries z.points last mark z.marked.beside a step answer r asked (state.point a) (state.logs a) log refl z.log_is asks alone (rw (z.quietly i) at z.mine))
  tells_mine (Some y) i c f = let e = put_same (command_of entries) a None in let g : None ≡ Some c = sym e ∙ f in absurd (cc)

  -- what is so of each unfinished operation: the actor's own, where it goes on, and those of others
  unfinished_after : (P : Operation → Knowledge → Type 0)
      → ((start : ℕ) (c : Command) → slice_get entries start ≡ Some (Begin a c) → IsUnended entries start a → command_of entries a ≡ Some c → r ≡ None → P
      (operation_from start a c) (after_reply (learn (knows entries a) step answer) r))
      → ((op : Operation) → op.actor ≢ a → IsOperation entries op → IsUnended entries op.start op.actor → command_of entries op.actor ≡ Some op.command → P op (knows entries op.actor))
      → (op : Operation) → IsOperation longer op → IsUnended longer op.start op.actor → command_of longer op.actor ≡ Some op.command → P op (knows longer op.actor)
  unfinished_after P goes_on others op begun' unended' asks' = rw (knows-push entries last) (by_equal op.actor a
      (λ i t. rw t (own r refl i))
      (λ ne t. rw t (others op ne begun unended (sym (other_command r op.actor ne) ∙ asked'))))
    where
      begun : IsOperation entries op
      begun = elim (slice_get-push_cases entries last op.start _ begun') [ inl before ↦ before | inr at ↦ let e = at.1 in absurd (cc) ]

      unended : IsUnended entries op.start op.actor
      unended later d low e = unended' later d low (slice_get_kept entries (last ∷ []) later _ e)

      asked' : commands_after (command_of entries) last op.actor ≡ Some op.command
      asked' = rw (command_of-push entries last) at asks'

      own : (o : Option Reply) → r ≡ o → op.actor ≡ a → P op (after_reply (learn (knows entries a) step answer) r)
      own None no_reply i =
          let same : op ≡ operation_from op.start a op.command = same_operation op (operation_from op.start a op.command) refl i refl in
          let begun_a : slice_get entries op.start ≡ Some (Begin a op.command) = rw i at begun in
          let asked_a : command_of entries a ≡ Some op.command = rw i at (rw no_reply at asked') in
          rw same (goes_on op.start op.command begun_a (rw i at unended) asked_a no_reply)
      own (Some y) replies i =
          let e : commands_after (command_of entries) (Step a step answer (Some y)) a ≡ Some op.command = rw i at (rw replies at asked') in
          let g : None ≡ Some op.command = sym (put_same (command_of entries) a None) ∙ e in absurd (cc)

  searches_after : (op : Operation) → IsOperation longer op → IsUnended longer op.start op.actor → command_of longer op.actor ≡ Some op.command
      → IsSearch longer op (knows longer op.actor)
  searches_after = unfinished_after (IsSearch longer)
      (λ start c begun unended asks no_reply. rw (← no_reply) at
      (search_own entries last start a c step answer (knows entries a) begun unended (λ d. Step a step answer (no_reply d)) (state.searches (operation_from start a c) begun unended asks)))
      (λ op ne begun unended asks. search_other entries last op (knows entries op.actor) (state.searches op begun unended asks) (λ s x y e. ne (let j : a ≡ op.actor = cc in sym j)))

  stood_after : (op : Operation) → IsOperation longer op → IsUnended longer op.start op.actor → command_of longer op.actor ≡ Some op.command
      → HaveStood limits longer op (memory_of limits longer).rows (knows longer op.actor).read
  stood_after op = rw (memory_of-push limits entries last) (unfinished_after (λ op k. HaveStood limits longer op (memory_after a step (memory_of limits entries)).rows k.read)
      (λ start c begun unended asks no_reply. stood_own limits entries last (memory_of limits entries) state.is_tree a start c step answer r
      (ap (memory_of limits) (take_whole entries (length entries) refl)) begun unended asks refl allowed.may is n.same
      (state.stood (operation_from start a c) begun unended asks))
      (λ op ne begun unended asks. stood_kept limits entries last state.is_tree (memory_after a step (memory_of limits entries)).rows n.same op op.actor (state.stood op begun unended asks)) op)

  between : (pid : ℕ) (from to : Phase) → MovesPhase (memory_of limits entries) last pid from to → (phase_of (state.owners.page pid) ≡ from) × (phase_of (n.owners.page pid) ≡ to)
  between = moves_between (memory_of limits entries) state.is_tree state.named.in_slots a step answer r allowed.may is n.owners.page n.phased

  lives : (pid : ℕ)
      → MovesPhase (memory_of limits entries) last pid (phase_of (state.owners.page pid)) (phase_of (n.owners.page pid)) ⊎ (phase_of (n.owners.page pid) ≡ phase_of (state.owners.page pid))
  lives = moves_or_rests (memory_of limits entries) state.is_tree state.named.in_slots a step answer r allowed.may is n.owners.page n.phased

  in_phase_after : (pid : ℕ) → IsInPhase limits longer (length longer) pid (phase_of (n.owners.page pid))
  in_phase_after = steps_in_phase limits entries last state.owners.page n.owners.page state.in_phase between lives

  only_phase_after : (pid : ℕ) (phase : Phase) → IsInPhase limits longer (length longer) pid phase → phase ≡ phase_of (n.owners.page pid)
  only_phase_after pid phase h = only_after limits entries last state.owners.page n.owners.page state.in_phase between lives state.only_phase pid phase (rw (pushed_length entries last) at h)

  rooted_after : (b p : ℕ) → (knows longer b).read.roots p ≡ true → (level : ℕ) × IsFirst n.owners level p
  rooted_after b p e =
      let stays : (level : ℕ) × IsFirst state.owners level p → (level : ℕ) × IsFirst n.owners level p =
      λ h. (h.0, first_stays (memory_of limits entries) (memory_of limits longer) state.is_tree tree_after a step answer is n.phased h.0 p h.1) in
      let at_root : (q : ℕ) → step ≡ Slot 0 → answer ≡ Number q → (level : ℕ) × IsFirst state.owners level q = λ q asked told.
      let here : IsAnswer (memory_of limits entries) (Slot 0) (Number q) = rw asked at (rw told at is) in
      let same : q ≡ (memory_of limits entries).slots 0 = (let e = here in cc) in
      let top = is_indexed (memory_of limits entries) state.is_tree in
      (top.top, (Indexed, rw same (root_indexed (memory_of limits entries) state.is_tree), omega arith)) in
      by_equal b a
      (λ i t. let f = rw t at (rw (knows-push entries last) at e) in elim (learns_root (knows entries a) step answer p f)
      [ inl before ↦ stays (state.rooted a p before) | inr now ↦ stays (at_root p now.0 now.1) ])
      (λ ne t. let f = rw t at (rw (knows-push entries last) at e) in stays (state.rooted b p f))

  state_after : IsState limits longer
  state_after = record {
    points = z.points ++ mark ∷ [];
    owners = n.owners;
    point = put state.point a (cond mark (Some (log_of entries state.points)) (state.point a));
    logs = put state.logs a (log_of entries state.points ∷ state.logs a);
    is_tree = tree_after;
    fitted =
        rw (memory_of-push limits entries last)
        (fitted_after state.owners (shared_part (memory_of limits entries)) state.is_tree.closed state.fitted n.owners (memory_after a step (memory_of limits entries)).rows n.same n.added);
    unheld =
        rw (memory_of-push limits entries last)
        (unheld_after state.owners (shared_part (memory_of limits entries)) state.is_tree.closed state.unheld n.owners (memory_after a step (memory_of limits entries)).rows n.same n.added);
    named = rw (memory_of-push limits entries last, knows-push entries last)
        (named_steps state.is_tree state.named a step answer r allowed.may is n.owners numbers (state.timed.holds a).learnt_inside (state.timed.epochs a)
        (pid_below_after limits state.owners.page n.owners.page is lives state.named.free_pid_below state.named.pid_below)
        held' (command_of-push entries last));
    searches = searches_after;
    stood = stood_after;
    tells = λ b c e. by_equal b a
        (λ i t. rw t (rw i (tells_mine r refl c (rw i at (rw (command_of-push entries last) at e)))))
        (λ ne t. rw t (tells_other entries z.points last mark z.marked.beside b c (state.point b) (state.logs b) (λ d i. absurd (cc)) (λ s x y i. ne (let j : a ≡ b = cc in sym j))
        (z.others b c ne (sym (other_command r b ne) ∙ (rw (command_of-push entries last) at e)))));
    marked = marked_push entries z.points last mark z.marked.beside limits z.marked
        (λ e. (operation_from z.mine.start a asked, z.mine.begins, own_new entries last z.mine.start a asked step answer r z.mine.begins z.mine.unended refl))
        (λ e op begun own m own' p.
        let same : op ≡ operation_from z.mine.start a asked = own_same longer op (operation_from z.mine.start a asked) (length entries)
        (slice_get_kept entries (last ∷ []) op.start _ begun) (slice_get_kept entries (last ∷ []) z.mine.start _ z.mine.begins) own
        (own_new entries last z.mine.start a asked step answer r z.mine.begins z.mine.unended refl) in
        let none = rw (pointed e) at z.mine.point_at in
        none m (rw same at own') p)
        (λ op s x reply begun e unended. let same : r ≡ Some reply = cc in (justified op reply begun (let i : a ≡ op.actor = cc in sym i) unended same, unpointed reply same))
        (λ e op begun own m reply ends.
        let same : op ≡ operation_from z.mine.start a asked = own_same longer op (operation_from z.mine.start a asked) (length entries)
        (slice_get_kept entries (last ∷ []) op.start _ begun) (slice_get_kept entries (last ∷ []) z.mine.start _ z.mine.begins) own
        (own_new entries last z.mine.start a asked step answer r z.mine.begins z.mine.unended refl) in
        (state.searches (operation_from z.mine.start a asked) z.mine.begins z.mine.unended asks).unfinished m reply (rw same at ends));
    run = IsRun-push limits entries last state.run (rw asks refl, may_take state.is_tree state.named a step answer r allowed.may is refl step allowed.may, is);
    ends = ends_push entries last state.ends (step_ends limits (knows entries a) a step answer r allowed.replied allowed.ends);
    updates = updates_push limits entries z.points last mark z.marked.beside z.updates updated_now;
    quiet = quiet_push entries z.points last mark z.marked.beside limits z.quiet (map_of tree_after);
    in_phase = in_phase_after;
    only_phase = only_phase_after;
    phases = steps_phases limits entries last state.owners.page n.owners.page state.in_phase between state.phases
        (clears_cleared (memory_of limits entries) state.is_tree state.named.in_slots a step answer r allowed.may is n.owners.page n.phased)
        (removes_unheld (memory_of limits entries) state.is_tree state.named.in_slots a step answer r allowed.may is n.owners.page n.phased);
    limbo_rows = rw (knows-push entries last) (rows_in_limbo limits entries a step answer r state allowed is n.is_tree timed' held');
    limbo_pids = rw (knows-push entries last) (pids_in_limbo limits entries a step answer r state allowed is n.is_tree timed' held');
    freed = freed_after limits entries a step answer r state allowed is;
    times = times';
    timed = rw (memory_of-push limits entries last, knows-push entries last, pushed_length entries last) timed';
    faithful = faithful_push limits entries last state.faithful
        (reads_known state.is_tree state.named a step answer r allowed.may is)
        (touches_outside state.is_tree state.named a step answer r allowed.may is);
    rooted = rooted_after;
    indexed = indexed_push limits entries last state.is_tree tree_after
        (first_stays (memory_of limits entries) (memory_of limits longer) state.is_tree tree_after a step answer is n.phased)
        (grows (memory_of limits entries) (memory_of limits longer) state.is_tree tree_after a step answer is n.phased)
        in_phase_after only_phase_after state.indexed;
  }

  onward : Onward limits entries a step answer r state
  unfolding state_after
  onward = record { after = state_after; phased = n.phased; same = n.same }

-- what an allowed step with the memory's answer leaves
pub onwards : (limits : Limits) (entries : List Entry) (a : ℕ) (step : StepOf Record) (answer : Answer Record) (r : Option Reply) (state : IsState limits entries) → IsSome (command_of entries a)
    → IsAllowed limits a (knows entries a) step r → IsAnswer (memory_of limits entries) step answer → Onward limits entries a step answer r state
onwards limits entries a step answer r state busy allowed is = go (command_of entries a) refl busy
  where
    replied : (o : Option Reply) → IfSome o (λ y. (step ≡ Leave) × MayReply limits a (knows entries a) y) → IfSome o (MayReply limits a (knows entries a))
    replied None h = tt
    replied (Some y) h = h.1

    go : (o : Option Command) → command_of entries a ≡ o → IsSome o → Onward limits entries a step answer r state
    go None e b = absurd (cc)
    go (Some asked) e b = by_kind step r answer allowed is (settled limits entries a asked state e r (replied r allowed.replied))
      where
        m : Memory
        m = memory_of limits entries

        -- the actor is one of the stated number
        actor : a < limits.actors
        actor = (state.run.each (state.tells a asked e).start (Begin a asked) (state.tells a asked e).begins).0

        calmly : (step : StepOf Record) → (IsReuse step → ⊥)
            → (r : Option Reply) (answer : Answer Record) (allowed : IsAllowed limits a (knows entries a) step r) (is : IsAnswer m step answer)
            → Settled limits entries (log_of entries state.points) state.point state.logs a asked r → Onward limits entries a step answer r state
        calmly step calm r answer allowed is z =
            let n = one_step m state.is_tree a step calm r allowed.may answer is in
            onward limits entries a step answer r asked state e allowed is (after_of n)
            (calm_numbers state.is_tree state.named a step answer r allowed.may is calm n.owners n.moved)
            (held_after m state.is_tree state.named.in_slots a n.owners (λ q l. (n.kept q l).0) n.moved step calm answer r allowed.may is n.phased)
            (times_after a m state.owners (length entries) step answer state.times)
            (timed_step state.is_tree state.timed a step calm answer r allowed.may is actor n)
            z

        by_kind : (step : StepOf Record) (r : Option Reply) (answer : Answer Record) (allowed : IsAllowed limits a (knows entries a) step r) (is : IsAnswer m step answer)
            → Settled limits entries (log_of entries state.points) state.point state.logs a asked r → Onward limits entries a step answer r state
        by_kind (ReuseRows word bits) r answer allowed is z = onward limits entries a (ReuseRows word bits) answer r asked state e allowed is
            (rows_after state.is_tree state.timed a allowed.may word bits allowed.frees r answer)
            (rows_numbers state.is_tree state.timed state.named a allowed.may word bits answer r allowed.frees is)
            (rows_held state.is_tree state.timed state.named a allowed.may word bits answer r allowed.frees is)
            (t1 state.is_tree state.timed a allowed.may word bits allowed.frees r answer)
            (rows_timed state.is_tree state.timed a allowed.may word bits allowed.frees r answer)
            z
        by_kind (ReusePids word bits) r answer allowed is z = onward limits entries a (ReusePids word bits) answer r asked state e allowed is
            (pages_after state.is_tree state.timed a allowed.may word bits allowed.frees r answer)
            (pages_numbers state.is_tree state.timed state.named a allowed.may word bits answer r allowed.frees is)
            (pages_held state.is_tree state.timed state.named a allowed.may word bits answer r allowed.frees is)
            (t2 state.is_tree state.timed a allowed.may word bits allowed.frees r answer)
            (pages_timed state.is_tree state.timed a allowed.may word bits allowed.frees r answer)
            z
        by_kind step r answer allowed is z = calmly step (λ h. h) r answer allowed is z

pub steps : Steps
steps limits entries a step answer r state busy allowed is = (onwards limits entries a step answer r state busy allowed is).after

-- a reply that a test decides has a point, if both have one
chosen_points : (test : Bool) (x y : Reply) → has_point x ≡ true → has_point y ≡ true → IfSome (if test then Some x else Some y) (λ r. has_point r ≡ true)
chosen_points true x y h k = h
chosen_points false x y h k = k

-- a reply by a value has a point, and so has a cursor page of either direction
value_points : (c : Command) (v : Option (List ℕ)) → IfSome (reply_of c v) (λ r. has_point r ≡ true)
value_points (DeleteIf k x) (Some o) = chosen_points (bytes_eq o x) (reply.Deleted o) (reply.Differs o) refl refl
value_points (Swap k x w) (Some o) = chosen_points (bytes_eq o x) reply.Swapped (reply.Differs o) refl refl
value_points (Add k n) (Some o) = chosen_points (is_number o) (reply.Replaced o) (reply.Differs o) refl refl
value_points (Page k) v = tt
value_points (Back k) v = tt
value_points (Tidy k) v = tt
value_points c None = refl
value_points c v = refl

points_at : (memory : Memory) (log : List Update) (c : Command) (r : Reply) → RepliesAt memory log c r → has_point r ≡ true
points_at memory log c r (inl e) = rw e at (value_points c (logged_value log (command_key c)))
points_at memory log c r (inr (inl shown)) = ap has_point shown.is
points_at memory log c r (inr (inr shown)) = ap has_point shown.is

-- an operation without a point has replied one of the two
without_point : (limits : Limits) (entries : List Entry) (op : Operation) (answer : Reply) → HasFound limits entries op answer → has_point answer ≡ false
without_point limits entries op answer (inl h) = ap has_point h.0
without_point limits entries op answer (inr h) = ap has_point h.0

true_reply : (limits : Limits) (entries : List Entry) (points : List Bool) (op : Operation) (answer : Reply) → IsAnsweredBy limits entries points op answer
    → IsTrueReply limits entries points op answer
true_reply limits entries points op reply.Full (inl h) = absurd (cc (points_at _ _ op.command reply.Full h.3))
true_reply limits entries points op reply.Full (inr h) = elim h.finds [ inl tidied ↦ let e = tidied.0 in absurd (cc) | inr full ↦ (full.1, full.2) ]
true_reply limits entries points op reply.Tidied (inl h) = absurd (cc (points_at _ _ op.command reply.Tidied h.3))
true_reply limits entries points op reply.Tidied (inr h) = elim h.finds [ inl tidied ↦ tidied.1 | inr full ↦ let e = full.0 in absurd (cc) ]
true_reply limits entries points op answer (inl h) = h
true_reply limits entries points op answer (inr h) = let e = without_point limits entries op answer h.finds in absurd (cc)

pointed_by : (limits : Limits) (entries : List Entry) (points : List Bool) (op : Operation) (answer : Reply) → IsAnsweredBy limits entries points op answer
    → IsTrue (has_point answer) → (m : ℕ) × IsOwnStep entries op m × IsPoint points m
pointed_by limits entries points op answer (inl h) e = (h.0, h.1, h.2)
pointed_by limits entries points op answer (inr h) e = let f = without_point limits entries op answer h.finds in absurd (cc)

pointless : (limits : Limits) (entries : List Entry) (points : List Bool) (op : Operation) (answer : Reply) → IsAnsweredBy limits entries points op answer
    → IsFalse (has_point answer) → (m : ℕ) → IsOwnStep entries op m → IsPoint points m → ⊥
pointless limits entries points op answer (inl h) e m own p = let f = points_at _ _ op.command answer h.3 in cc
pointless limits entries points op answer (inr h) e m own p = h.unmarked m own p

pub is_one_map : StatesAreLinearized
is_one_map limits entries state = record {
  run = record { in_turn = refl; run = state.run };
  ends = state.ends;
  points = state.points;
  pointed = record {
    beside = state.marked.beside;
    own = state.marked.own;
    one = state.marked.one;
    pointed = λ op n r is ends asks. pointed_by limits entries state.points op r (state.marked.answered op n r is ends) asks;
    pointless = λ op m n r is ends asks own p. pointless limits entries state.points op r (state.marked.answered op n r is ends) asks m own p;
  };
  answered = record { each = λ op n r is ends. true_reply limits entries state.points op r (state.marked.answered op n r is ends) };
  updates = state.updates;
  quiet = state.quiet;
  faithful = state.faithful;
}

pub keeps_phases : StatesKeepPhases
keeps_phases limits entries state = state.phases

pub frees_by_rule : StatesFreeByRule
frees_by_rule limits entries state = state.freed

pub index_is_exact : StatesAreIndexed
index_is_exact limits entries state = state.indexed.exact
