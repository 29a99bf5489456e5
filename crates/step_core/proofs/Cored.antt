-- What a turn makes of a core.
use Rattle.std.proofs.Common.{◌≡◌, ◌≢◌, ◌<◌, inl, inr, ℕ, List, [], ◌∷◌, ◌++◌, length, Some, None, Option, Bool, true, false, set, get_or, ltb, refl, sym, ap, subst, ◌∙◌, append_assoc}
use Rattle.std.specs.Prelude.{slice_get, is_some, nat_lt, if◌then◌else◌, ◌==◌}
use Rattle.std.specs.Option.{option_map}
use Rattle.std.proofs.lemmas.List.{append-nil}
use Rattle.std.proofs.lemmas.Option.{same_Some, slice_get-map}
use Rattle.std.proofs.lemmas.Bool.{lt-ltb, ltb-true}
use Rattle.std.proofs.lemmas.Bool.Decides.{eqb_tells}
use Rattle.bw_model.specs.declared.command.Command.{Command}
use Rattle.bw_model.specs.declared.command.Reply.{Reply}
use Rattle.tree_limits.specs.declared.limits.Limits.{Limits}
use Rattle.bw_model.specs.declared.step.Answer.{Answer}
use Rattle.bw_model.specs.declared.step.Step.{Step as StepOf}
use Rattle.bw_model.specs.declared.step.Step.TheVariants.{Leave}
use Rattle.deltas.specs.declared.record.Record.{Record}
use Rattle.traces.specs.declared.trace.Entry.{Entry}
use Rattle.traces.specs.declared.trace.Entry.TheVariants.{Begin, Step}
use Rattle.traces.specs.declared.trace.Turn.TheVariants as turn
use Rattle.deltas.specs.Memory.{opening}
use Rattle.traces.specs.trace.Steps.{IsAnswer, memory_after}
use Rattle.core_memory.specs.Looks.{StandsIn}
use Rattle.core_memory.specs.Tables.{CoreTable, memory_in}
use Rattle.round_model.specs.Machines.{AreThere}
use Rattle.traces.specs.trace.Trace.{command_of, commands_after, memory_of}
use Rattle.traces.specs.discipline.Discipline.{May}
use Rattle.traces.specs.discipline.Disciplined.{IsDisciplinedFrom, MayStand, is_entry_of, own_entries}
use Rattle.traces.specs.discipline.Knowledge.{Knowledge, after_begin, after_reply, knows, knows_after, learn, nothing}
use Rattle.tree_law.specs.Changes.{IsPaidState, StepsPay}
use Rattle.tree_law.specs.Direct.{IsDirectState, StaysDirect}
use Rattle.tree_law.specs.Own.{RowsAreApart}
use Rattle.tree_law.specs.State.{IsState}
use Rattle.tree_law.specs.TraceLaws.{AnswersFit, BeginsKeep, Grows, Steps}
use Rattle.traces.specs.discipline.Recalled.{Recalled, blank, recall, recalls, recalls_after}
use Rattle.op_machine.specs.machine.Actors.{Actor, ActsOn, IsActor, IsActorShown, IsActorWith, command_at, command_left, idle_actor, running_command, wanted_by}
use Rattle.op_parts.specs.Hands.{Hand}
use Rattle.op_machine.specs.machine.UnderWay.{UnderWay, steps_due}
use Rattle.step_core.specs.Actors.{IsReady, IsServedAt, IsWithinAt, wanted_in}
use Rattle.step_core.proofs.Lawful.{Asks, asks, is_placed, read_stands, served_at, within_at}
use Rattle.progress.specs.ReaderStates.{IsReadersState, PaysReader, ReadersGoOn}
use Rattle.progress.specs.WriterStates.{IsWritersState, PaysWriter, WritersGoOn}
use Rattle.step_core.specs.Cores.{IsCore, Pays}
use Rattle.step_core.specs.Turns.{Core, Demand, KeepsMore, LeavesAt, WantsMemory, busy_of, refused_by, refusal_of}
use Rattle.step_core.proofs.Replaced.{get_is, set_cases, set_length, set_other}
use Rattle.deltas.proofs.Replaced.{replaced_same, replaced_other}
use Rattle.traces.proofs.Pushes.{slice_get_below}

-- a begin that isn't refused
pub begin_goes : (core : Core) (i : ℕ) (command : Command) → refusal_of core (turn.Begin i command) ≡ None → (i < core.limits.actors) × (command_of core.entries i ≡ None)
begin_goes core i command goes = go (ltb i core.limits.actors) refl (command_of core.entries i) goes
  where
    go : (t : Bool) → ltb i core.limits.actors ≡ t → (o : Option Command)
        → refused_by (length core.entries) (turn.Begin i command) (if t then Some (is_some o) else None) ≡ None → (i < core.limits.actors) × (o ≡ None)
    go true e None h = (ltb-true i core.limits.actors e, refl)
    go true e (Some other) h = cc
    go false e o h = cc

-- a step that isn't refused
pub step_goes : (core : Core) (i : ℕ) → refusal_of core (turn.Step i) ≡ None → (i < core.limits.actors) × (is_some (command_of core.entries i) ≡ true)
step_goes core i goes = go (ltb i core.limits.actors) refl (command_of core.entries i) goes
  where
    go : (t : Bool) → ltb i core.limits.actors ≡ t → (o : Option Command)
        → refused_by (length core.entries) (turn.Step i) (if t then Some (is_some o) else None) ≡ None → (i < core.limits.actors) × (is_some o ≡ true)
    go true e None h = cc
    go true e (Some other) h = (ltb-true i core.limits.actors e, refl)
    go false e o h = cc

-- each actor runs what the longer trace says, where one actor runs something else
each_set : (actors : List Actor) (i : ℕ) (new : Actor) (old now : ℕ → Option Command) → ((a : ℕ) (at : Actor) → slice_get actors a ≡ Some at → running_command at ≡ old a)
    → running_command new ≡ now i → ((a : ℕ) → a ≢ i → now a ≡ old a) → (a : ℕ) (at : Actor) → slice_get (set actors i new) a ≡ Some at → running_command at ≡ now a
each_set actors i new old now each own others a at e = elim (set_cases actors i new a at e) [
  | inl h ↦ ap running_command h.1 ∙ own ∙ ap now (sym h.0)
  | inr h ↦ each a at h.1 ∙ sym (others a h.0)
]

-- each actor shows what the longer trace lets it know, where one actor learns something
shows_set : (limits : Limits) (actors : List Actor) (i : ℕ) (new : Actor) (old now : ℕ → Knowledge) (before after : ℕ → Recalled)
    → ((a : ℕ) (at : Actor) → slice_get actors a ≡ Some at → IsActor limits a (old a) (before a) at)
    → IsActor limits i (now i) (after i) new → ((a : ℕ) → a ≢ i → now a ≡ old a) → ((a : ℕ) → a ≢ i → after a ≡ before a) → (a : ℕ) (at : Actor)
    → slice_get (set actors i new) a ≡ Some at → IsActor limits a (now a) (after a) at
shows_set limits actors i new old now before after each own others rest a at e = elim (set_cases actors i new a at e) [
  | inl h ↦ rw (h.0, h.1) own
  | inr h ↦ rw (others a h.0, rest a h.0) (each a at h.1)
]

-- each operation is paid for after the longer trace too
pays_set : (limits : Limits) (actors : List Actor) (entries : List Entry) (entry : Entry) (i : ℕ) (new : Actor) → Grows limits entries entry
    → ((a : ℕ) (at : Actor) → slice_get actors a ≡ Some at → Pays limits entries a at)
    → ((a : ℕ) → a ≢ i → recalls_after (recalls entries) entry a ≡ recalls entries a) → StaysDirect limits entries entry i (steps_due (recalls_after (recalls entries) entry i) new.hand new.running)
    → (a : ℕ) (at : Actor) → slice_get (set actors i new) a ≡ Some at → Pays limits (entries ++ entry ∷ []) a at
pays_set limits actors entries entry i new grows each others stays a at e = elim (set_cases actors i new a at e) [
  | inl h ↦ rw (h.0, h.1) (rw grows.recalled stays.account)
  | inr h ↦ rw (grows.recalled, others a h.0) (stays.others a (steps_due (recalls entries a) at.hand at.running) h.0 (each a at h.1))
]

-- an entry of one actor is no other's
none_own : (i a : ℕ) (entry : Entry) → is_entry_of a entry ≡ (a == i) → a ≢ i → own_entries a (entry ∷ []) ≡ []
none_own i a entry is apart =
    let other : (a == i) ≡ false = elim (eqb_tells a i) [ inl same ↦ absurd (apart same.1) | inr off ↦ off.0 ] in
    ap (λ (b : Bool). if b then entry ∷ [] else []) (is ∙ other)

-- each reader is paid for after the longer trace too
reads_set : ReadersGoOn → (limits : Limits) (actors : List Actor) (entries : List Entry) (entry : Entry) (i : ℕ) (new : Actor) → ((a : ℕ) → is_entry_of a entry ≡ (a == i))
    → ((a : ℕ) (at : Actor) → slice_get actors a ≡ Some at → IsActor limits a (knows entries a) (recalls entries a) at)
    → ((a : ℕ) (at : Actor) → slice_get actors a ≡ Some at → PaysReader limits entries a at.running)
    → IsReadersState limits (entries ++ entry ∷ []) → PaysReader limits (entries ++ entry ∷ []) i new.running → (a : ℕ) (at : Actor)
    → slice_get (set actors i new) a ≡ Some at → PaysReader limits (entries ++ entry ∷ []) a at.running
reads_set laws limits actors entries entry i new of shows each readers own a at e = elim (set_cases actors i new a at e) [
  | inl h ↦ rw (h.0, h.1) own
  | inr h ↦ laws.lasts limits a entries (entries ++ entry ∷ []) at (entry ∷ [], refl, none_own i a entry (of a) h.0) readers (shows a at h.1) (each a at h.1)
]

-- and each writer
writes_set : WritersGoOn → (limits : Limits) (actors : List Actor) (entries : List Entry) (entry : Entry) (i : ℕ) (new : Actor) → ((a : ℕ) → is_entry_of a entry ≡ (a == i))
    → ((a : ℕ) (at : Actor) → slice_get actors a ≡ Some at → IsActor limits a (knows entries a) (recalls entries a) at)
    → ((a : ℕ) (at : Actor) → slice_get actors a ≡ Some at → PaysWriter limits entries a at.running)
    → IsWritersState limits (entries ++ entry ∷ []) → PaysWriter limits (entries ++ entry ∷ []) i new.running → (a : ℕ) (at : Actor)
    → slice_get (set actors i new) a ≡ Some at → PaysWriter limits (entries ++ entry ∷ []) a at.running
writes_set laws limits actors entries entry i new of shows each writers own a at e = elim (set_cases actors i new a at e) [
  | inl h ↦ rw (h.0, h.1) own
  | inr h ↦ laws.lasts limits a entries (entries ++ entry ∷ []) at (entry ∷ [], refl, none_own i a entry (of a) h.0) writers (shows a at h.1) (each a at h.1)
]

-- an actor without an operation is outside
outside : (limits : Limits) (a : ℕ) (k : Knowledge) (r : Recalled) (hand : Hand) (o : Option UnderWay) → IsActorWith limits a k r hand o → command_at o ≡ None → k.inside ≡ false
outside limits a k r hand None shows idle = shows.spares.outside
outside limits a k r hand (Some running) shows idle = cc

pub idle_outside : (limits : Limits) (a : ℕ) (k : Knowledge) (r : Recalled) (at : Actor) → IsActor limits a k r at → running_command at ≡ None → k.inside ≡ false
idle_outside limits a k r at shows idle = outside limits a k r at.hand at.running shows idle

-- a trace in which each actor obeys its discipline, with one entry more
stands_push : (limits : Limits) (before entries : List Entry) (last : Entry) → IsDisciplinedFrom limits before entries
    → MayStand limits (before ++ entries) last → IsDisciplinedFrom limits before (entries ++ last ∷ [])
stands_push limits before [] last h may = (subst (λ es. MayStand limits es last) (append-nil before) may, tt)
stands_push limits before (entry ∷ entries) last h may =
    (h.0, stands_push limits (before ++ entry ∷ []) entries last h.1 (subst (λ es. MayStand limits es last) (sym (append_assoc before (entry ∷ []) entries)) may))

module _ (limits : Limits) where
  pub core_opens : (table : CoreTable) (actors : List Actor) (entries : List Entry) → table.limits ≡ limits → memory_in table ≡ opening limits → length actors ≡ limits.actors
      → ((a : ℕ) (at : Actor) → slice_get actors a ≡ Some at → at ≡ idle_actor limits)
      → ((limits : Limits) (number : ℕ) (r : Recalled) → IsActor limits number nothing r (idle_actor limits)) → IsState limits [] → IsDirectState limits []
      → IsPaidState limits [] → IsReadersState limits [] → IsWritersState limits [] → entries ≡ [] → IsCore limits table actors entries
  core_opens table actors entries same has count each rest state direct paid readers writers none = rw none (record {
    state = state;
    direct = direct;
    paid = paid;
    readers = readers;
    writers = writers;
    disciplined = tt;
    same_limits = same;
    has = has;
    count = count;
    each_shows = λ a at e. rw (each a at e) (rest limits a blank);
    each_running = λ a at e. rw (each a at e) refl;
    each_pays = λ a at e. rw (each a at e) (λ operation last own. cc);
    each_reads = λ a at e. rw (each a at e) tt;
    each_writes = λ a at e. rw (each a at e) tt;
  })

  -- the actor of a turn that isn't refused
  pub core_begins : (table : CoreTable) (actors : List Actor) (entries : List Entry) (i j : ℕ) (old : Actor) (command : Command) → IsCore limits table actors entries
      → (demand : Demand) (v : Core) → record { limits = limits; entries = entries; demand = demand } ≡ v → refusal_of v (turn.Begin i command) ≡ None → j ≡ i → old ≡ get_or actors j old
      → (j < length actors) × IsActor limits i (knows entries i) (recalls entries i) old × (running_command old ≡ None) × (i < limits.actors)
  core_begins table actors entries i j old command core demand v is refusal same at =
      let goes : (i < limits.actors) × (command_of entries i ≡ None) = begin_goes (record { limits = limits; entries = entries; demand = demand }) i command
      (subst (λ u. refusal_of u (turn.Begin i command) ≡ None) (sym is) refusal) in
      let lt : i < length actors = rw core.count goes.0 in
      let found : slice_get actors i ≡ Some old = get_is actors i old lt (subst (λ k. old ≡ get_or actors k old) same at) in
      (rw same lt, core.each_shows i old found, core.each_running i old found ∙ goes.1, goes.0)

  -- there are as many actors as the limits say
  pub core_there : (table : CoreTable) (actors : List Actor) (entries : List Entry) (i : ℕ) → IsCore limits table actors entries → (demand : Demand) (v : Core)
      → record { limits = limits; entries = entries; demand = demand } ≡ v
      → nat_lt i (length actors) ≡ nat_lt i v.limits.actors
  core_there table actors entries i core demand v is = ap (nat_lt i) (core.count ∙ ap (λ (u : Core). u.limits.actors) is)

  -- an actor that there is not has no operation
  pub core_missing : (table : CoreTable) (actors : List Actor) (entries : List Entry) (i : ℕ) → IsCore limits table actors entries
      → (demand : Demand) (v : Core) → record { limits = limits; entries = entries; demand = demand } ≡ v
      → false ≡ nat_lt i (length actors) → None ≡ busy_of v i
  core_missing table actors entries i core demand v is none = rw (← core_there table actors entries i core demand v is, ← none) refl

  -- whether an actor that there is has an operation
  pub core_busy : (table : CoreTable) (actors : List Actor) (entries : List Entry) (i : ℕ) (at : Actor) → IsCore limits table actors entries
      → (demand : Demand) (v : Core) → record { limits = limits; entries = entries; demand = demand } ≡ v
      → slice_get actors i ≡ Some at → Some (is_some (running_command at)) ≡ busy_of v i
  core_busy table actors entries i at core demand v is found =
      let lt : i < limits.actors = rw (← core.count) (slice_get_below actors i at found) in
      rw (← is, lt-ltb i limits.actors lt, core.each_running i at found) refl

  -- an actor that there is keeps what its entries show
  pub core_seen : (table : CoreTable) (actors : List Actor) (entries : List Entry) (i : ℕ) (at : Actor) → IsCore limits table actors entries
      → (demand : Demand) (v : Core) → record { limits = limits; entries = entries; demand = demand } ≡ v
      → slice_get actors i ≡ Some at → IsActor v.limits i (knows v.entries i) (recalls v.entries i) at × (running_command at ≡ command_of v.entries i)
  core_seen table actors entries i at core demand v is found =
      subst (λ (seen : Core). IsActor seen.limits i (knows seen.entries i) (recalls seen.entries i) at × (running_command at ≡ command_of seen.entries i)) is
      (core.each_shows i at found, core.each_running i at found)

  -- what the operation of an actor that there is wants
  pub core_next : (actors : List Actor) (entries : List Entry) (i : ℕ) (at : Actor) (room : ℕ) (v : Core)
      → record { limits = limits; entries = entries; demand = record { room = room; wanted = wanted_in actors } } ≡ v
      → slice_get actors i ≡ Some at → slice_get v.demand.wanted i ≡ Some (wanted_by at.running)
  core_next actors entries i at room v is found =
      subst (λ (u : Core). slice_get u.demand.wanted i ≡ Some (wanted_by at.running)) is
      (slice_get-map (λ (a : Actor). wanted_by a.running) actors i ∙ ap (option_map (λ (a : Actor). wanted_by a.running)) found)

  -- the actor of a turn that goes on with its operation shows what is known
  pub core_shown : (table : CoreTable) (actors : List Actor) (entries : List Entry) (i j : ℕ) (old : Actor) → IsCore limits table actors entries
      → (demand : Demand) (v : Core) → record { limits = limits; entries = entries; demand = demand } ≡ v → refusal_of v (turn.Step i) ≡ None → j ≡ i → old ≡ get_or actors j old
      → IsActorShown old × (is_some (running_command old) ≡ true)
  core_shown table actors entries i j old core demand v is refusal same at =
      let goes : (i < limits.actors) × (is_some (command_of entries i) ≡ true) = step_goes (record { limits = limits; entries = entries; demand = demand }) i
      (subst (λ u. refusal_of u (turn.Step i) ≡ None) (sym is) refusal) in
      let found : slice_get actors i ≡ Some old = get_is actors i old (rw core.count goes.0) (subst (λ k. old ≡ get_or actors k old) same at) in
      ((limits, i, knows entries i, recalls entries i, core.each_shows i old found), ap is_some (core.each_running i old found) ∙ goes.1)

  pub core_asks : RowsAreApart → AnswersFit → (table : CoreTable) (actors : List Actor) (entries : List Entry) (i j : ℕ) (old : Actor) → IsCore limits table actors entries
      → (demand : Demand) (v : Core) → record { limits = limits; entries = entries; demand = demand } ≡ v → refusal_of v (turn.Step i) ≡ None → j ≡ i → old ≡ get_or actors j old
      → (i < limits.actors) × (j < length actors) × IsReady limits i (knows entries i) (recalls entries i) (memory_in table) old ×
      (is_some (running_command old) ≡ true) × IsWithinAt table i (wanted_by old.running)
  core_asks apart fit table actors entries i j old core demand v is refusal same at =
      let goes : (i < limits.actors) × (is_some (command_of entries i) ≡ true) = step_goes (record { limits = limits; entries = entries; demand = demand }) i
      (subst (λ u. refusal_of u (turn.Step i) ≡ None) (sym is) refusal) in
      let lt : i < length actors = rw core.count goes.0 in
      let found : slice_get actors i ≡ Some old = get_is actors i old lt (subst (λ k. old ≡ get_or actors k old) same at) in
      let shows = core.each_shows i old found in (
        goes.0,
        rw same lt,
        (
          shows,
          subst (λ m. IsServedAt limits (knows entries i) m (wanted_by old.running)) (sym core.has) (served_at limits entries core.state i fit (recalls entries i) old.hand old.running shows),
          subst (λ m. AreThere (StandsIn m) (knows entries i)) (sym core.has) (read_stands limits entries core.state i apart),
        ),
        ap is_some (core.each_running i old found) ∙ goes.1,
        within_at limits entries core.state i apart table core.same_limits core.has goes.0 (recalls entries i) old.hand old.running shows,
      )

  -- the step that the actor of a turn wants
  pub core_wanted : (table : CoreTable) (actors : List Actor) (entries : List Entry) (i j : ℕ) (old : Actor) (room : ℕ) → IsCore limits table actors entries
      → (v : Core) → record { limits = limits; entries = entries; demand = record { room = room; wanted = wanted_in actors } } ≡ v
      → refusal_of v (turn.Step i) ≡ None → j ≡ i → old ≡ get_or actors j old
      → (slice_get actors i ≡ Some old) × (slice_get v.demand.wanted i ≡ Some (wanted_by old.running))
  core_wanted table actors entries i j old room core v is refusal same at =
      let goes : (i < limits.actors) × (is_some (command_of entries i) ≡ true) = step_goes
      (record { limits = limits; entries = entries; demand = record { room = room; wanted = wanted_in actors } }) i
      (subst (λ u. refusal_of u (turn.Step i) ≡ None) (sym is) refusal) in
      let lt : i < length actors = rw core.count goes.0 in
      let found : slice_get actors i ≡ Some old = get_is actors i old lt (subst (λ k. old ≡ get_or actors k old) same at) in
      (found, core_next actors entries i old room v is found)

  -- no other actor wants another step, where one actor is replaced
  pub core_others : (actors : List Actor) (entries : List Entry) (i j : ℕ) (new : Actor) (room : ℕ) (v : Core)
      → record { limits = limits; entries = entries; demand = record { room = room; wanted = wanted_in actors } } ≡ v
      → j ≡ i → (other : ℕ) → other ≢ i → slice_get (wanted_in (set actors j new)) other ≡ slice_get v.demand.wanted other
  core_others actors entries i j new room v is same other apart =
      slice_get-map (λ (at : Actor). wanted_by at.running) (set actors j new) other
      ∙ ap (option_map (λ (at : Actor). wanted_by at.running)) (set_other actors j new other (λ h. apart (h ∙ same)))
      ∙ sym (slice_get-map (λ (at : Actor). wanted_by at.running) actors other)
      ∙ ap (λ (u : Core). slice_get u.demand.wanted other) is

  pub core_leaves : (table : CoreTable) (actors : List Actor) (entries : List Entry) (i j : ℕ) (old : Actor) (room : ℕ) → IsCore limits table actors entries
      → (v : Core) → record { limits = limits; entries = entries; demand = record { room = room; wanted = wanted_in actors } } ≡ v
      → refusal_of v (turn.Step i) ≡ None → j ≡ i → old ≡ get_or actors j old
      → wanted_by old.running ≡ Some Leave → LeavesAt v i
  core_leaves table actors entries i j old room core v is refusal same at leaves = (core_wanted table actors entries i j old room core v is refusal same at).1 ∙ ap Some leaves

  pub core_leaving : (table : CoreTable) (actors : List Actor) (entries : List Entry) (i j : ℕ) (old : Actor) (room : ℕ) → IsCore limits table actors entries
      → (v : Core) → record { limits = limits; entries = entries; demand = record { room = room; wanted = wanted_in actors } } ≡ v
      → refusal_of v (turn.Step i) ≡ None → j ≡ i → old ≡ get_or actors j old
      → LeavesAt v i → wanted_by old.running ≡ Some Leave
  core_leaving table actors entries i j old room core v is refusal same at leaves =
      same_Some (wanted_by old.running) (Some Leave) (sym (core_wanted table actors entries i j old room core v is refusal same at).1 ∙ leaves)

  -- a step of which more is kept than an entry has room for may want memory
  pub core_wants : (table : CoreTable) (actors : List Actor) (entries : List Entry) (i j : ℕ) (old : Actor) (room : ℕ) → IsCore limits table actors entries
      → (v : Core) → record { limits = limits; entries = entries; demand = record { room = room; wanted = wanted_in actors } } ≡ v
      → refusal_of v (turn.Step i) ≡ None → j ≡ i → old ≡ get_or actors j old
      → KeepsMore (running_command old) (wanted_by old.running) → WantsMemory v (turn.Step i)
  core_wants table actors entries i j old room core v is refusal same at keeps =
      let (found, wanted) = core_wanted table actors entries i j old room core v is refusal same at in
      inr (wanted_by old.running, wanted, subst (λ c. KeepsMore c (wanted_by old.running)) (core.each_running i old found ∙ ap (λ (u : Core). command_of u.entries i) is) keeps)

  pub core_begun : BeginsKeep IsState → BeginsKeep IsPaidState → ReadersGoOn → WritersGoOn
      → (table : CoreTable) (actors : List Actor) (entries entries' : List Entry) (i j : ℕ) (new : Actor) (command : Command)
      → IsCore limits table actors entries
      → (demand : Demand) (v : Core) → record { limits = limits; entries = entries; demand = demand } ≡ v → refusal_of v (turn.Begin i command) ≡ None → j ≡ i
      → (knows entries i).inside ≡ false → IsActor limits i (after_begin (knows entries i) command) blank new → running_command new ≡ Some command
      → Grows limits entries (Begin i command) → StaysDirect limits entries (Begin i command) i (steps_due blank new.hand new.running)
      → entries' ≡ entries ++ Begin i command ∷ [] → IsCore limits table (set actors j new) entries'
  core_begun begins pays reads writes table actors entries entries' i j new command core demand v is refusal same out shows runs grows stays grown =
      let goes : (i < limits.actors) × (command_of entries i ≡ None) = begin_goes (record { limits = limits; entries = entries; demand = demand }) i command
      (subst (λ u. refusal_of u (turn.Begin i command) ≡ None) (sym is) refusal) in
      let later : IsState limits (entries ++ Begin i command ∷ []) = begins limits entries i command core.state goes.0 goes.1 in
      let readers : IsReadersState limits (entries ++ Begin i command ∷ []) = reads.begins limits entries i command core.readers later stays.state.direct in
      let writers : IsWritersState limits (entries ++ Begin i command ∷ []) = writes.begins limits entries i command core.writers later stays.state.direct in
      rw (grown, same) (record {
        state = later;
        direct = stays.state;
        paid = pays limits entries i command core.paid goes.0 goes.1;
        readers = readers;
        writers = writers;
        disciplined = stands_push limits [] entries (Begin i command) core.disciplined (goes.0, goes.1);
        same_limits = core.same_limits;
        has = rw grows.memory core.has;
        count = set_length actors i new ∙ core.count;
        each_shows =
            rw (grows.known, grows.recalled)
            (shows_set limits actors i new (knows entries) (knows_after (knows entries) (Begin i command)) (recalls entries) (recalls_after (recalls entries) (Begin i command)) core.each_shows
            (rw (replaced_same i (after_begin (knows entries i) command) (knows entries), replaced_same i blank (recalls entries)) shows)
            (λ a other. replaced_other i (after_begin (knows entries i) command) (knows entries) a other)
            (λ a other. replaced_other i blank (recalls entries) a other));
        each_running = rw grows.commands (each_set actors i new (command_of entries) (commands_after (command_of entries) (Begin i command)) core.each_running
            (runs ∙ sym (replaced_same i (Some command) (command_of entries)))
            (λ a other. replaced_other i (Some command) (command_of entries) a other));
        each_pays = pays_set limits actors entries (Begin i command) i new grows core.each_pays (λ a other. replaced_other i blank (recalls entries) a other)
            (subst (λ r. StaysDirect limits entries (Begin i command) i (steps_due r new.hand new.running)) (sym (replaced_same i blank (recalls entries))) stays);
        each_reads =
            reads_set reads limits actors entries (Begin i command) i new (λ a. refl) core.each_shows core.each_reads readers
            (reads.begun limits entries i command (after_begin (knows entries i) command) blank new shows out runs);
        each_writes =
            writes_set writes limits actors entries (Begin i command) i new (λ a. refl) core.each_shows core.each_writes writers
            (writes.begun limits entries i command (after_begin (knows entries i) command) blank new shows out runs);
      })

  -- the commands after a step
  left_same : (commands : ℕ → Option Command) (i : ℕ) (step : StepOf Record) (answer : Answer Record) (reply : Option Reply)
      → command_left reply (commands i) ≡ commands_after commands (Step i step answer reply) i
  left_same commands i step answer None = refl
  left_same commands i step answer (Some reply) = sym (replaced_same i None commands)

  left_other : (commands : ℕ → Option Command) (i : ℕ) (step : StepOf Record) (answer : Answer Record) (reply : Option Reply) (a : ℕ) → a ≢ i
      → commands_after commands (Step i step answer reply) a ≡ commands a
  left_other commands i step answer None a other = refl
  left_other commands i step answer (Some reply) a other = replaced_other i None commands a other

  -- what the step of an actor was
  pub core_took : RowsAreApart → (table : CoreTable) (actors : List Actor) (entries : List Entry) (i : ℕ) (step : StepOf Record) (answer : Answer Record)
      → IsCore limits table actors entries → IsAnswer (memory_in table) step answer
      → May i (knows entries i) step → Asks (is_placed (memory_of limits entries)) step × IsAnswer (memory_of limits entries) step answer
  core_took apart table actors entries i step answer core answered may = (asks limits entries core.state i apart step may, subst (λ m. IsAnswer m step answer) core.has answered)

  -- causes have paid for the actor's steps so far
  pub core_affords : (table : CoreTable) (actors : List Actor) (entries : List Entry) (i j : ℕ) (old : Actor) → IsCore limits table actors entries → j ≡ i
      → j < length actors → old ≡ get_or actors j old → Pays limits entries i old
  core_affords table actors entries i j old core same lt at = core.each_pays i old (get_is actors i old (rw (sym same) lt) (subst (λ k. old ≡ get_or actors k old) same at))

  pub core_stepped : Steps → StepsPay → ReadersGoOn → WritersGoOn
      → (table table' : CoreTable) (actors : List Actor) (entries entries' : List Entry) (i j : ℕ) (old new : Actor) (step : StepOf Record) (answer : Answer Record) (reply : Option Reply)
      → IsCore limits table actors entries
      → j ≡ i → j < length actors → old ≡ get_or actors j old → is_some (running_command old) ≡ true → wanted_by old.running ≡ Some step
      → ActsOn limits i (knows entries i) (recalls entries i) old step answer reply new
      → running_command new ≡ command_left reply (running_command old) → Grows limits entries (Step i step answer reply)
      → StaysDirect limits entries (Step i step answer reply) i (steps_due (recall (recalls entries i) step answer) new.hand new.running)
      → table'.limits ≡ table.limits → IsAnswer (memory_of limits entries) step answer → memory_in table' ≡ memory_after i step (memory_in table)
      → entries' ≡ entries ++ Step i step answer reply ∷ [] → IsCore limits table' (set actors j new) entries'
  core_stepped steps pays reads writes table table' actors entries entries' i j old new step answer reply core same lt at some wants acts runs grows stays kept_limits answered kept grown =
      let found : slice_get actors i ≡ Some old = get_is actors i old (rw (sym same) lt) (subst (λ k. old ≡ get_or actors k old) same at) in
      let going : is_some (command_of entries i) ≡ true = ap is_some (sym (core.each_running i old found)) ∙ some in
      let later : IsState limits (entries ++ Step i step answer reply ∷ []) = steps limits entries i step answer reply core.state going acts.allowed answered in
      let readers : IsReadersState limits (entries ++ Step i step answer reply ∷ []) = reads.steps limits entries i step answer reply old core.readers
      (core.each_reads i old found) wants later stays.state.direct in
      let writers : IsWritersState limits (entries ++ Step i step answer reply ∷ []) = writes.steps limits entries i step answer reply old core.writers
      (core.each_writes i old found) wants later stays.state.direct in
      rw (grown, same) (record {
        state = later;
        direct = stays.state;
        paid = pays limits entries i step answer reply core.paid going acts.allowed acts.useful.useful acts.halved answered;
        readers = readers;
        writers = writers;
        disciplined = stands_push limits [] entries (Step i step answer reply) core.disciplined (going, acts.allowed, answered);
        same_limits = kept_limits ∙ core.same_limits;
        has = rw grows.memory (kept ∙ ap (memory_after i step) core.has);
        count = set_length actors i new ∙ core.count;
        each_shows =
            rw (grows.known, grows.recalled) (shows_set limits actors i new (knows entries) (knows_after (knows entries) (Step i step answer reply))
            (recalls entries) (recalls_after (recalls entries) (Step i step answer reply)) core.each_shows
            (rw (replaced_same i (after_reply (learn (knows entries i) step answer) reply) (knows entries), replaced_same i (recall (recalls entries i) step answer) (recalls entries)) acts.shows)
            (λ a other. replaced_other i (after_reply (learn (knows entries i) step answer) reply) (knows entries) a other)
            (λ a other. replaced_other i (recall (recalls entries i) step answer) (recalls entries) a other));
        each_running = rw grows.commands (each_set actors i new (command_of entries) (commands_after (command_of entries) (Step i step answer reply)) core.each_running
            (runs ∙ ap (command_left reply) (core.each_running i old found) ∙ left_same (command_of entries) i step answer reply)
            (left_other (command_of entries) i step answer reply));
        each_pays =
            pays_set limits actors entries (Step i step answer reply) i new grows core.each_pays (λ a other. replaced_other i (recall (recalls entries i) step answer) (recalls entries) a other)
            (subst (λ r. StaysDirect limits entries (Step i step answer reply) i (steps_due r new.hand new.running))
            (sym (replaced_same i (recall (recalls entries i) step answer) (recalls entries))) stays);
        each_reads = reads_set reads limits actors entries (Step i step answer reply) i new (λ a. refl) core.each_shows core.each_reads readers
            (reads.stepped limits entries i step answer reply old new core.state (core.each_shows i old found) (core.each_reads i old found) wants later stays.state.direct acts runs);
        each_writes = writes_set writes limits actors entries (Step i step answer reply) i new (λ a. refl) core.each_shows core.each_writes writers
            (writes.stepped limits entries i step answer reply old new core.state (core.each_shows i old found) (core.each_writes i old found) wants later stays.state.direct acts runs);
      })
