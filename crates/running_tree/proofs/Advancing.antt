-- A seat that takes the step that its operation wants.
use Rattle.std.proofs.Common.{◌≡◌, ℕ, List, Option, sym, subst}
use Rattle.std.specs.Prelude.{IsSome, Some, None}
use Rattle.running_tree.proofs.Words.{TableId, Reply, Limits, Answer, Done, StepOf, Leave, Record, AreThere, May, Fits, Knowledge, knows, learn, Recalled, recalls, command_of, IsWithin}
use Rattle.running_tree.proofs.Words.{IsLawfulStep, Took, Advances, HaveLaws, IsLawfulRun, IsSeated, Seat, unfinished_command}
use Rattle.op_machine.specs.machine.Actors.{Actor, ActsOn, IsGoing, IsToldActor, IsToldActorThere, command_left, running_command, wanted_by}
use Rattle.traces.specs.declared.trace.Entry.{Entry}
use Rattle.running_tree.proofs.Seats.{Wants, known_after, wants, may, allowed, useful, halved, due, going, is_told, goes_so, no_reply, may_take, grown, leaves, command_then, seated_then}

-- what an actor promises of an answer that it takes
abbrev pub Takes : Actor → Answer Record → Option Reply → Actor → Type 0
Takes now told reply new = (limits : Limits) (number : ℕ) (k : Knowledge) (r : Recalled) (going : IsGoing limits number k r now told) → ActsOn limits number k r now going.running.wanted told reply new

abbrev pub seat_of : TableId → Limits → ℕ → List Entry → Seat
seat_of table limits a seen = record { table = table; limits = limits; actor = a; seen = seen }

-- what is asked and ensured of a seat, of what it shows
pub busy_of : (old seat : Seat) → seat ≡ old → IsSome (unfinished_command old) → IsSome (unfinished_command seat)
busy_of old seat is busy = subst (λ s. IsSome (unfinished_command s)) (sym is) busy

pub advances_of : (old seat new : Seat) (reply : Option Reply) → seat ≡ old → Advances seat reply new → Advances old reply new
advances_of old seat new reply is h = subst (λ s. Advances s reply new) is h

module _ (laws : HaveLaws) (limits : Limits) (a : ℕ) (seen : List Entry) (now : Actor) (h : IsSeated limits a seen now) (busy : IsSome (command_of seen a))
    (asked : StepOf Record) (e : wanted_by now.running ≡ Some asked) where
  abbrev k : Knowledge
  k = knows seen a

  abbrev r : Recalled
  r = recalls seen a

  w : Wants limits a k r now asked
  w = wants limits a k r now asked h.shows e

  pub may_go : (asked ≡ Leave → ⊥) → IsLawfulStep IsLawfulRun limits a seen None asked None
  may_go other =
      may_take laws limits a seen now h asked None (allowed limits a k r now asked w other) (useful limits a k r now asked w) (halved limits a k r now asked w) e busy (due limits a k r now asked w)

  pub known_may : May a k asked
  known_may = may limits a k r now asked w

  pub within : IsWithin limits asked
  within = subst (IsWithin limits) w.wanted (subst (λ l. IsWithin l w.running.wanted) w.shows.own_limits w.shows.goes.may.within)

  pub goes : (told : Answer Record) (reply : Option Reply) (new : Actor) → Fits limits k asked told → Takes now told reply new → ActsOn limits a k r now asked told reply new
  goes told reply new f takes = goes_so limits a k r now asked w told f reply new (takes limits a k r (going limits a k r now asked w told f))

  -- a step with its reply, for which the actor was asked, before or after it was taken
  module _ (told : Answer Record) (reply : Option Reply) (later : List Entry) (new : Actor) (took : Took IsLawfulRun limits a seen None asked told reply later)
      (g : ActsOn limits a k r now asked told reply new) where
    pub seated_so : running_command new ≡ command_left reply (running_command now) → IsSeated limits a later new
    seated_so runs = seated_then laws limits a seen now h asked reply g.allowed g.useful g.halved told later took e new g runs busy

    pub advances_so : (table table' : TableId) → Advances (seat_of table limits a seen) reply (seat_of table' limits a later)
    advances_so table table' = record {
      run = took.run;
      extends = took.extends;
      step = asked;
      told = told;
      answered = took.answered;
      grown = grown laws limits a seen now h asked reply g.allowed g.useful g.halved told later took;
      last = leaves laws limits a seen now h asked reply g.allowed g.useful g.halved told later took;
      command = command_then laws limits a seen now h asked reply g.allowed g.useful g.halved told later took;
    }

  -- a step that goes on: its answer, and what the actor makes of it
  module _ (told : Answer Record) (later : List Entry) (took : Took IsLawfulRun limits a seen None asked told None later) where
    -- the answer fits what the seat's own entries show
    fit : Fits limits k asked told
    fit = let lasts = laws.own limits a seen took.run took.extends in
        subst (λ q. Fits limits q asked told) lasts.known (laws.fit limits took.run a asked told took.legal.state (subst (λ q. May a q asked) (sym lasts.known) known_may) took.answered)

    pub told_on : IsToldActor now told
    told_on = is_told limits a k r now asked w told fit

    -- what was read then is there, where that holds of all that is known later
    pub told_there : (is_there : ℕ → Record → Type 0) → AreThere is_there (knows later a) → IsToldActorThere is_there now told
    told_there is_there there = record {
      limits = limits;
      actor = a;
      k = k;
      r = r;
      going = going limits a k r now asked w told fit;
      there = subst (λ s. AreThere is_there (learn k s told)) (sym w.wanted) (subst (AreThere is_there) (known_after laws limits a seen asked told None later took) there);
    }

    module _ (reply : Option Reply) (new : Actor) (other : asked ≡ Leave → ⊥) (takes : Takes now told reply new) where
      none : reply ≡ None
      none = no_reply limits a k asked reply other (goes told reply new fit takes).allowed

      took_so : Took IsLawfulRun limits a seen None asked told reply later
      took_so = subst (λ o. Took IsLawfulRun limits a seen None asked told o later) (sym none) took

      pub seated_on : running_command new ≡ command_left reply (running_command now) → IsSeated limits a later new
      seated_on runs = seated_so told reply later new took_so (goes told reply new fit takes) runs

      pub advances_on : (table table' : TableId) → Advances (seat_of table limits a seen) reply (seat_of table' limits a later)
      advances_on table table' = advances_so told reply later new took_so (goes told reply new fit takes) table table'

-- a Leave, whose reply was asked for before it was taken
module _ (laws : HaveLaws) (limits : Limits) (a : ℕ) (seen : List Entry) (now : Actor) (h : IsSeated limits a seen now) (busy : IsSome (command_of seen a))
    (e : wanted_by now.running ≡ Some Leave) where
  wl : Wants limits a (knows seen a) (recalls seen a) now Leave
  wl = wants limits a (knows seen a) (recalls seen a) now Leave h.shows e

  pub leave_told : IsToldActor now Done
  leave_told = is_told limits a (knows seen a) (recalls seen a) now Leave wl Done tt

  module _ (reply : Option Reply) (new : Actor) (takes : Takes now Done reply new) where
    g : ActsOn limits a (knows seen a) (recalls seen a) now Leave Done reply new
    g = goes laws limits a seen now h busy Leave e Done reply new tt takes

    pub leave_may : IsLawfulStep IsLawfulRun limits a seen None Leave reply
    leave_may = may_take laws limits a seen now h Leave reply g.allowed g.useful g.halved e busy (due limits a (knows seen a) (recalls seen a) now Leave wl)

    module _ (told : Answer Record) (later : List Entry) (took : Took IsLawfulRun limits a seen None Leave told reply later) where
      gt : ActsOn limits a (knows seen a) (recalls seen a) now Leave told reply new
      gt = let is : told ≡ Done = took.answered in subst (λ t. ActsOn limits a (knows seen a) (recalls seen a) now Leave t reply new) (sym is) g

      pub leave_seated : running_command new ≡ command_left reply (running_command now) → IsSeated limits a later new
      leave_seated runs = seated_so laws limits a seen now h busy Leave e told reply later new took gt runs

      pub leave_advances : (table table' : TableId) → Advances (seat_of table limits a seen) reply (seat_of table' limits a later)
      leave_advances table table' = advances_so laws limits a seen now h busy Leave e told reply later new took gt table table'
