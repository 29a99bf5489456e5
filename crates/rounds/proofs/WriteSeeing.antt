-- What a writer's round in its place makes of an answer, by what its descent makes of it.
use Rattle.rounds.proofs.Words.{◌≡◌, inl, inr, ℕ, List, Option, None, Some, refl, ap, option_map, Limits, Answer, Record, IsTold, machine, PlacedDescent, sight_of, PlacedWrite, More}
use Rattle.std.proofs.Common.{Bool}
use Rattle.structure_changes.specs.declared.after.After.{After}
use Rattle.structure_changes.specs.declared.plan.Plan.{Plan}
use Rattle.round_model.specs.Descents as from_root
use Rattle.round_model.specs.Rounds.{Responds}
use Rattle.round_model.specs.WriteResponses as response
use Rattle.round_model.specs.WriteRounds as writer
use Rattle.round_model.specs.Visits as sight
use Rattle.round_model.specs.WriteEnds as end
use Rattle.round_model.proofs.Writing.{can_see, treats_as, way_shows}
use Rattle.rounds.specs.Courses.{PlacedCourse}
use Rattle.rounds.specs.WriteRounds.{ended_write}
use Rattle.rounds.specs.declared.descents.SightKind.{SightKind}
use Rattle.rounds.specs.declared.descents.SightKind.TheVariants.{Empty, Whole}
use Rattle.rounds.specs.declared.write_end_kind.WriteEndKind.{WriteEndKind}

-- an answer that fits the round fits its descent
pub way_told : (round : writer.WriteRound) (told : Answer Record) → IsTold (machine response.writing) round told → IsTold from_root.descending (response.writing.way round) told
way_told round told h = record { k = h.k; r = h.r; shows = way_shows round h.k h.r h.shows; fits = h.fits }

-- the round with its descent as an answer left it
abbrev pub after : PlacedWrite → PlacedDescent → PlacedWrite
after was now = record was { round = record was.round { limits = now.way.limits; state = now.way.state }; page = now.page }

module _ (was : PlacedWrite) (now : PlacedDescent) (told : Answer Record) where
  abbrev pub Moved : SightKind → Type 0
  Moved seen = from_root.Responds (response.writing.way was.round) told now.way (sight_of seen now.page)

  -- with the limits that it had
  abbrev with_limits : Limits → writer.WriteRound
  with_limits limits = record was.round { limits = limits; state = now.way.state }

  -- the page that is whole is one that the round has reached
  pub can_treat_now : Moved Whole → now.way.limits ≡ was.round.limits → IsTold (machine response.writing) was.round told → response.CanTreatWrite (after was now).round now.page
  can_treat_now b limits t = rw limits (can_see was.round now.way.state told (sight.Whole now.page) b t)

  -- the round reads on
  pub goes_on : Moved More → now.way.limits ≡ was.round.limits → Responds response.writing was.round told (after was now).round None
  goes_on b limits = inl (record { on = b; same = ap with_limits limits; none = refl })

  -- a page that was named isn't there
  pub is_missing : Moved Empty → Responds response.writing was.round told (after was now).round (Some end.Again)
  is_missing b = inr (record { sight = sight.Empty; finds = b; sees = refl })

  -- the round responds as it treats the page that is whole
  pub treats_now : (new : PlacedWrite) (result : Option WriteEndKind) → Moved Whole → now.way.limits ≡ was.round.limits
      → response.TreatsWrite (after was now).round now.page new.round (option_map (ended_write new) result)
      → Responds response.writing was.round told new.round (option_map (ended_write new) result)
  treats_now new result b limits treats =
      let there = rw limits at treats in
      inr (record { sight = sight.Whole now.page; finds = b; sees = treats_as was.round new.round was.round.state now.way.state now.page (option_map (ended_write new) result) there })

-- the round whose fields these are
abbrev pub placed : List ℕ → ℕ → Bool → Bool → ℕ → PlacedCourse → PlacedDescent → Plan → After → PlacedWrite
placed key due tends splits floor course descent plan after = record {
  round = record {
    limits = descent.way.limits;
    key = key;
    due = due;
    tends = tends;
    splits = splits;
    floor = floor;
    goal = course.course.goal;
    parent = course.course.parent;
    left = course.course.left;
    state = descent.way.state;
  };
  page = descent.page;
  parent = course.parent;
  left = course.left;
  plan = plan;
  after = after;
}
