-- A seat whose operation begins with its first step.
use Rattle.std.proofs.Common.{◌≡◌, ◌≢◌, ◌<◌, ℕ, List, [], ◌∷◌, ◌++◌, Option, Bool, true, false, refl, sym, ap, ◌∙◌, subst, arith}
use Rattle.running_tree.proofs.Words.{same_Some, Actor, IsActor, IsActorWith, IsToldActor, command_at, command_left, running_command, wanted_by, UnderWay, steps_due, Command, Reply, Limits}
use Rattle.running_tree.proofs.Words.{Answer, StepOf, Record, Begin, May, Extends, Recalled, blank, cause_worth, recalls, IsAnswer, command_of, memory_of, IsWithin, Hand, IsLawfulStep, Took}
use Rattle.running_tree.proofs.Words.{Accounts, HasWord, HaveLaws, IsLawfulRun, IsSeated, Seat, unfinished_command, replaced_same, extends_self}
use Rattle.std.specs.Prelude.{IsSome, Some, None, IsTrue}
use Rattle.bw_model.specs.declared.step.Step.TheVariants as step
use Rattle.traces.specs.declared.trace.Entry.{Entry}
use Rattle.traces.specs.discipline.Knowledge.{Knowledge, after_begin, knows}
use Rattle.running_tree.proofs.LackLaws.{lack_begun}
use Rattle.running_tree.proofs.Advancing.{Takes, known_may, may_go, seated_on, told_on, within}
use Rattle.running_tree.proofs.Seats.{without_begin}

-- an actor without a command is outside
idle_outside : (limits : Limits) (a : ℕ) (k : Knowledge) (r : Recalled) (hand : Hand) (running : Option UnderWay) → command_at running ≡ None → IsActorWith limits a k r hand running → k.inside ≡ false
idle_outside limits a k r hand None e h = h.spares.outside
idle_outside limits a k r hand (Some running) e h = cc

not_inside : (b : Bool) → IsTrue b → b ≡ false → ⊥
not_inside true t e = cc
not_inside false t e = cc

-- Who is outside takes only steps on a word.
word_of : (limits : Limits) (a : ℕ) (k : Knowledge) (s : StepOf Record) → May a k s → IsWithin limits s → k.inside ≡ false → HasWord limits s
word_of limits a k (step.Row r) m w out = not_inside k.inside m.0 out
word_of limits a k step.Epoch m w out = tt
word_of limits a k (step.Announce b) m w out = let l = limits.allowed.few_actors in omega arith
word_of limits a k (step.PidBits b) m w out = let l = limits.allowed.whole_pids in omega arith
word_of limits a k (step.RowBits b) m w out = let l = limits.allowed.whole_rows in omega arith
word_of limits a k (step.Place r c) m w out = not_inside k.inside m.0 out
word_of limits a k (step.Exchange p x y) m w out = w.0
word_of limits a k (step.Enter e) m w out = tt
word_of limits a k step.Leave m w out = tt
word_of limits a k (step.ReusePids b c) m w out = let l = limits.allowed.whole_pids in let v = w.0 in omega arith
word_of limits a k (step.ReuseRows b c) m w out = let l = limits.allowed.whole_rows in let v = w.0 in omega arith
word_of limits a k other m w out = w

-- what is asked of a seat, of what it shows
pub idle_of : (old seat : Seat) → seat ≡ old → unfinished_command old ≡ None → unfinished_command seat ≡ None
idle_of old seat is idle = subst (λ s. unfinished_command s ≡ None) (sym is) idle

module _ (laws : HaveLaws) (limits : Limits) (a : ℕ) (seen : List Entry) (now new : Actor) (command : Command) (there : a < limits.actors)
    (h : IsSeated limits a seen now) (free : command_of seen a ≡ None)
    (begins : (k : Knowledge) (r : Recalled) → IsActor limits a k r now → IsActor limits a (after_begin k command) blank new)
    (has : running_command new ≡ Some command) (few : steps_due blank new.hand new.running < cause_worth limits) (quiet : new.lacks ≡ None) where
  idle : running_command now ≡ None
  idle = h.runs ∙ free

  shows : IsActor limits a (after_begin (knows seen a) command) blank new
  shows = begins (knows seen a) (recalls seen a) h.shows

  -- once the begin stands behind the longest run, the seat's operation is at its first step
  pub begun_seated : (run : List Entry) → IsLawfulRun limits run → Extends a seen run → IsSeated limits a (run ++ Begin a command ∷ []) new
  begun_seated run legal x =
      let lasts = laws.own limits a seen run x in
      let grows = laws.grow limits run (Begin a command) in
      let direct = laws.begins_directly limits run a (steps_due blank new.hand new.running) command legal.direct (omega arith) in
      let known : after_begin (knows seen a) command ≡ knows (run ++ Begin a command ∷ []) a =
      sym (ap (λ (ks : ℕ → Knowledge). ks a) grows.known ∙ replaced_same a (after_begin (knows run a) command) (knows run) ∙ ap (λ q. after_begin q command) lasts.known) in
      let recalled : blank ≡ recalls (run ++ Begin a command ∷ []) a = sym (ap (λ (rs : ℕ → Recalled). rs a) grows.recalled ∙ replaced_same a blank (recalls run)) in
      let later = laws.begins limits run a command legal.state there (lasts.command ∙ free) in
      record {
        lawful = record {
          state = later;
          direct = direct.state;
          paid = laws.begins_paid limits run a command legal.paid there (lasts.command ∙ free);
          readers =
              laws.readers.begins limits run a command legal.readers later direct.state.direct;
          writers =
              laws.writers.begins limits run a command legal.writers later direct.state.direct;
        };
        shows = subst (λ q. IsActorWith limits a q (recalls (run ++ Begin a command ∷ []) a) new.hand new.running) known
            (subst (λ q. IsActorWith limits a (after_begin (knows seen a) command) q new.hand new.running) recalled shows);
        runs = has ∙ sym (ap (λ (cs : ℕ → Option Command). cs a) grows.commands ∙ replaced_same a (Some command) (command_of run));
        pays = subst (λ q. Accounts limits (run ++ Begin a command ∷ []) a (steps_due q new.hand new.running)) recalled direct.account;
        reads = laws.readers.begun limits run a command (after_begin (knows seen a) command) blank new shows
            (idle_outside limits a (knows seen a) (recalls seen a) now.hand now.running idle h.shows) has;
        writes = laws.writers.begun limits run a command (after_begin (knows seen a) command) blank new shows
            (idle_outside limits a (knows seen a) (recalls seen a) now.hand now.running idle h.shows) has;
        lacks = lack_begun limits a run command new.lacks quiet;
      }

  -- its actor is outside
  outside : (run : List Entry) → Extends a seen run → (knows (run ++ Begin a command ∷ []) a).inside ≡ false
  outside run x =
      ap (λ (ks : ℕ → Knowledge). (ks a).inside) (laws.grow limits run (Begin a command)).known ∙ ap (λ (q : Knowledge). q.inside) (replaced_same a (after_begin (knows run a) command) (knows run))
      ∙ ap (λ (q : Knowledge). q.inside) (laws.own limits a seen run x).known ∙ idle_outside limits a (knows seen a) (recalls seen a) now.hand now.running idle h.shows

  same_memory : (run : List Entry) → memory_of limits (run ++ Begin a command ∷ []) ≡ memory_of limits run
  same_memory run = (laws.grow limits run (Begin a command)).memory

  busy_then : (run : List Entry) → IsLawfulRun limits run → Extends a seen run → IsSome (command_of (run ++ Begin a command ∷ []) a)
  busy_then run legal x = subst IsSome (sym has ∙ (begun_seated run legal x).runs) refl

  module _ (asked : StepOf Record) (e : wanted_by new.running ≡ Some asked) where
    -- the first step is one on a word, and no leave
    may_first : May a (knows (seen ++ Begin a command ∷ []) a) asked
    may_first = known_may laws limits a (seen ++ Begin a command ∷ []) new (begun_seated seen h.lawful (extends_self a seen)) (busy_then seen h.lawful (extends_self a seen)) asked e

    pub first_word : HasWord limits asked
    first_word = word_of limits a (knows (seen ++ Begin a command ∷ []) a) asked may_first
        (within laws limits a (seen ++ Begin a command ∷ []) new (begun_seated seen h.lawful (extends_self a seen)) (busy_then seen h.lawful (extends_self a seen)) asked e)
        (outside seen (extends_self a seen))

    not_leaving : asked ≡ step.Leave → ⊥
    not_leaving is = not_inside (knows (seen ++ Begin a command ∷ []) a).inside (subst (May a (knows (seen ++ Begin a command ∷ []) a)) is may_first) (outside seen (extends_self a seen))

    pub first_stays : wanted_by new.running ≢ Some step.Leave
    first_stays is = not_leaving (same_Some asked step.Leave (sym e ∙ is))

    pub may_begin : IsLawfulStep IsLawfulRun limits a seen (Some command) asked None
    may_begin run told legal x is =
        let seen' : List Entry = run ++ Begin a command ∷ [] in
        let at' : IsSeated limits a seen' new = begun_seated run legal x in
        subst (IsLawfulRun limits) (sym (without_begin seen' a asked told None))
        (may_go laws limits a seen' new at' (busy_then run legal x) asked e not_leaving seen' told at'.lawful (extends_self a seen') (subst (λ m. IsAnswer m asked told) (sym (same_memory run)) is))

    module _ (told : Answer Record) (later : List Entry) (took : Took IsLawfulRun limits a seen (Some command) asked told None later) where
      abbrev seen' : List Entry
      seen' = took.run ++ Begin a command ∷ []

      at' : IsSeated limits a seen' new
      at' = begun_seated took.run took.legal took.extends

      -- the step is taken after the run with the begin
      took' : Took IsLawfulRun limits a seen' None asked told None later
      took' = record {
        run = seen';
        legal = at'.lawful;
        extends = extends_self a seen';
        answered = subst (λ m. IsAnswer m asked told) (sym (same_memory took.run)) took.answered;
        grown = took.grown ∙ without_begin seen' a asked told None;
        begins = took.begins;
        kept = took.kept;
      }

      busy' : IsSome (command_of seen' a)
      busy' = busy_then took.run took.legal took.extends

      pub told_first : IsToldActor new told
      told_first = told_on laws limits a seen' new at' busy' asked e told later took'

      module _ (reply : Option Reply) (then : Actor) (takes : Takes new told reply then) where
        pub seated_first : running_command then ≡ command_left reply (running_command new) → IsSeated limits a later then
        seated_first runs = seated_on laws limits a seen' new at' busy' asked e told later took' reply then not_leaving takes runs
