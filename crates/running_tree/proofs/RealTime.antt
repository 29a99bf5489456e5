-- Calls keep the order of real time.
use Rattle.std.proofs.Common.{◌≡◌, ℕ, ◌++◌, ◌∷◌, List, refl, sym, ap, ◌∙◌}
use Rattle.std.specs.Prelude.{◌≢◌}
use mathlib.Core.Option.{some}
use lib.ListN.{get_elem?}
use Rattle.bw_model.specs.declared.command.Command.{Command}
use Rattle.bw_model.specs.declared.command.Reply.{Reply}
use Rattle.tree_limits.specs.declared.limits.Limits.{Limits}
use Rattle.traces.specs.declared.trace.Entry.{Entry}
use Rattle.traces.specs.declared.trace.Entry.TheVariants.{Begin}
use Rattle.table_rule.specs.Growing.{HasSat, HasSeen, KeepsRealTime}
use Rattle.table_rule.specs.Moments.{Moment}
use Rattle.table_rule.specs.Views.{alone, part}
use Rattle.table_rule.specs.declared.view.Reach.TheVariants.{Idle, Noted}
use Rattle.running_tree.specs.Calls.{BeginsIn, EndsWith, IsCalled}
use Rattle.running_tree.specs.RealTime.{CallsKeepRealTime, HasCalled, HasResumed, IsLaterMoment, IsTreeMoment, RestsAt}
use Rattle.running_tree.specs.Runs.{IsLawfulRun}
use Rattle.running_tree.specs.Seats.{IsSame, Seat}
use Rattle.running_tree.specs.declared.called.Called.{Called}
use Rattle.running_tree.specs.declared.called.Called.TheVariants as called

abbrev seen_at : (s : Moment) (seat : Seat) (actor : ℕ) (run : List Entry) → RestsAt s seat → seat.actor ≡ actor → seat.seen ≡ run → HasSeen s.views actor run
seen_at s seat actor run rests own saw = record {
  id = rests.0;
  view = alone seat.limits seat.actor seat.seen Idle;
  at = rests.1;
  place = 0;
  part = part seat.limits seat.actor seat.seen Idle;
  there = refl;
  own = own;
  saw = saw;
}

idle_stands : Idle ≢ Noted
idle_stands e = cc

begins_of : (old : Seat) (command : Command) (budget : ℕ) (result : Called) (new : Seat) → IsCalled old command budget result new → BeginsIn old command new.seen
begins_of old command budget (called.Done reply) new h = h.begins
begins_of old command budget called.Spent new h = h.begins

module _ (laws : (limits : Limits) → KeepsRealTime limits IsLawfulRun) (limits : Limits) where
  pub in_real_time : (HasReplied : Seat → Reply → Type 0) → ((first : Seat) (reply : Reply) → HasReplied first reply → EndsWith first reply) → CallsKeepRealTime limits HasReplied
  in_real_time HasReplied ends s t u now later on on' first reply has rests old new command budget result same is rests_old rests_new =
      let begins : BeginsIn old command new.seen = begins_of old command budget result new is in record {
        ends = ends first reply has;
        begins = begins;
        before = laws limits s t u now later on on' first.actor old.actor first.seen old.seen begins.before begins.after command
            (seen_at s first first.actor first.seen rests refl refl)
            record { saw = seen_at t old old.actor old.seen rests_old refl refl; stands = idle_stands }
            (seen_at u new old.actor (begins.before ++ Begin old.actor command ∷ begins.after) rests_new same.actor begins.is) begins.extends;
      }

  pub after_calls : CallsKeepRealTime limits HasCalled
  after_calls = in_real_time HasCalled (λ first reply has. has.3.ends)

  pub after_resumed : CallsKeepRealTime limits HasResumed
  after_resumed = in_real_time HasResumed (λ first reply has. has.2.ends)
