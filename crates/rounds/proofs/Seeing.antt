-- What a reader's round in its place makes of an answer, by what its descent makes of it.
use Rattle.rounds.proofs.Words.{◌≡◌, inl, inr, ℕ, List, Option, None, Some, refl, ap, option_map, Limits, Answer, Record, Version, IsTold, machine, PlacedDescent, sight_of, PlacedRead, More}
use Rattle.round_model.specs.Descents as from_root
use Rattle.round_model.specs.ReadEnds as end
use Rattle.round_model.specs.ReadRounds as reader
use Rattle.round_model.specs.Rounds.{Responds}
use Rattle.round_model.specs.Visits as sight
use Rattle.round_model.proofs.Reading.{can_see, treats_as, way_shows}
use Rattle.rounds.specs.Legs.{PlacedLeg}
use Rattle.rounds.specs.ReadRounds.{ended_read, read_goal}
use Rattle.rounds.specs.declared.descents.SightKind.{SightKind}
use Rattle.rounds.specs.declared.descents.SightKind.TheVariants.{Empty, Whole}
use Rattle.rounds.specs.declared.read_round.ReadGoalKind.{ReadGoalKind}
use Rattle.rounds.specs.declared.read_round.ReadEndKind.{ReadEndKind}

-- an answer that fits the round fits its descent
pub way_told : (round : reader.ReadRound) (told : Answer Record) → IsTold (machine reader.reading) round told → IsTold from_root.descending (reader.reading.way round) told
way_told round told h = record { k = h.k; r = h.r; shows = way_shows round h.k h.r h.shows; fits = h.fits }

-- the round with its descent as an answer left it
abbrev pub after : PlacedRead → PlacedDescent → PlacedRead
after was now = record { round = record was.round { limits = now.way.limits; state = now.way.state }; page = now.page; aside = was.aside; met = was.met }

module _ (was : PlacedRead) (now : PlacedDescent) (told : Answer Record) where
  abbrev pub Moved : SightKind → Type 0
  Moved seen = from_root.Responds (reader.reading.way was.round) told now.way (sight_of seen now.page)

  -- with the limits that it had
  abbrev with_limits : Limits → reader.ReadRound
  with_limits limits = record was.round { limits = limits; state = now.way.state }

  -- the page that is whole is one that the round has reached
  pub can_treat_now : Moved Whole → now.way.limits ≡ was.round.limits → IsTold (machine reader.reading) was.round told → reader.CanTreatRead (after was now).round now.page
  can_treat_now b limits t = rw limits (can_see was.round now.way.state told (sight.Whole now.page) b t)

  -- the round reads on
  pub goes_on : Moved More → now.way.limits ≡ was.round.limits → Responds reader.reading was.round told (after was now).round None
  goes_on b limits = inl (record { on = b; same = ap with_limits limits; none = refl })

  -- a page that was named isn't there
  pub is_missing : Moved Empty → Responds reader.reading was.round told (after was now).round (Some end.Again)
  is_missing b = inr (record { sight = sight.Empty; finds = b; sees = refl })

  -- the round responds as it treats the page that is whole
  pub treats_now : (new : PlacedRead) (result : Option ReadEndKind) → Moved Whole → now.way.limits ≡ was.round.limits
      → reader.TreatsRead (after was now).round now.page new.round (option_map (ended_read new) result)
      → Responds reader.reading was.round told new.round (option_map (ended_read new) result)
  treats_now new result b limits treats =
      let there = rw limits at treats in
      inr (record { sight = sight.Whole now.page; finds = b; sees = treats_as was.round new.round was.round.state now.way.state now.page (option_map (ended_read new) result) there })

-- the round whose fields these are
abbrev pub placed : List ℕ → ReadGoalKind → Version → PlacedLeg → PlacedDescent → PlacedRead
placed key kind aside leg descent = record {
  round = record { limits = descent.way.limits; key = key; goal = read_goal kind aside; leg = leg.leg; state = descent.way.state };
  page = descent.page;
  aside = aside;
  met = leg.page;
}
