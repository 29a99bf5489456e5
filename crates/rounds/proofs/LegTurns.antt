-- What a reader's round finds on its way round a removed index page.
use Rattle.rounds.proofs.Words.{◌≡◌, ◌<◌, inl, inr, ℕ, List, true, false, Option, None, Some, refl, arith, IsTrue, MatchOption, Limits, content_in, level_in, low_in, right_in, IsFitted}
use Rattle.rounds.proofs.Words.{Version, Round, above_of, read_way, down_within}
use Rattle.std.proofs.Common.{◌≢◌, ◌-◌, ◌⊎◌, Bool}
use Rattle.std.proofs.lemmas.Option.{same_Some}
use Rattle.base_page.specs.Places.{HasNoChild, IsGreatestChild}
use Rattle.traces.specs.chain.Chains.{is_removed}
use Rattle.traces.specs.discipline.Discipline.{NamesChild}
use Rattle.round_model.specs.ReadGoals.{ReadGoal}
use Rattle.round_model.specs.ReadLegs.{Leg, Down, Past}
use Rattle.round_model.specs.ReadRounds.{CanGoRound, CanMeetLeg, CanTreatRead, IsAtLevel, IsAtMergedPage, LacksLeft, ReadRound, TreatsRead, reading_on_to, left_of, on}
use Rattle.round_model.specs.Walks.{IsReached}
use Rattle.round_model.specs.Ways.{LeadsDown, LeadsOn, LeadsRight, StaysLeft}
use Rattle.round_model.proofs.Passing.{before_on}
use Rattle.round_model.proofs.WayLaws.{goes_down, on_within}
use Rattle.rounds.specs.ReadRounds.{IsOnLevelOf, LeadsLeft}

-- the child below a page that the page above has is where it leads to the left of the page
pub leads_left : (version above : Version) (found : Option ℕ) → IsFitted above.chain
    → MatchOption found (HasNoChild (content_in above.chain) (left_of version)) (IsGreatestChild (content_in above.chain) (left_of version))
    → (leg : Leg) → above_of leg ≡ Some above → MatchOption found (LacksLeft version leg) (LeadsLeft version leg)
leads_left version above None fit h (Down (Some page)) e = let same : page ≡ above = same_Some _ _ e in rw same h
leads_left version above None fit h (Past (Some page)) e = let same : page ≡ above = same_Some _ _ e in rw same h
leads_left version above (Some child) fit h (Down (Some page)) e = let same : page ≡ above = same_Some _ _ e in rw same (goes_down (left_of version) above.chain child fit h)
leads_left version above (Some child) fit h (Past (Some page)) e = let same : page ≡ above = same_Some _ _ e in rw same (goes_down (left_of version) above.chain child fit h)
leads_left version above other fit h others e = cc

-- the page above leads to the left
pub above_leads : (version : Version) (next : ℕ) (leg : Leg) → LeadsLeft version leg next → (above : Version) × (above_of leg ≡ Some above) × LeadsDown (left_of version) above.chain next
above_leads version next (Down (Some above)) h = (above, refl, h)
above_leads version next (Past (Some above)) h = (above, refl, h)
above_leads version next other h = absurd h

pub left_within : (limits : Limits) (way : List ℕ → Bool) (goal : ReadGoal) (version : Version) (next : ℕ) (leg : Leg) → CanMeetLeg limits way goal version leg
    → LeadsLeft version leg next → (0 < next) × (next < limits.pids)
left_within limits way goal version next (Down (Some above)) can h = down_within limits (left_of version) above.chain next can.1.names can.1.index h
left_within limits way goal version next (Past (Some above)) can h = down_within limits (left_of version) above.chain next can.1.names can.1.index h
left_within limits way goal version next other can h = absurd h

-- a page that isn't one of the removed page's level, and alive
pub is_off : (version removed : Version) → ¬ IsOnLevelOf version removed → (is_removed version.chain ≡ true) ⊎ (level_in version.chain ≢ level_in removed.chain)
is_off version removed not = by_test (is_removed version.chain) refl
  where
    by_test : (b : Bool) → is_removed version.chain ≡ b → (is_removed version.chain ≡ true) ⊎ (level_in version.chain ≢ level_in removed.chain)
    by_test true e = inl e
    by_test false e = inr (λ same. not (record { alive = e; same = same }))

-- where the page doesn't end to the left of the removed one
module _ (round : ReadRound) (version removed : Version) (can : CanTreatRead round version) (leg : round.leg ≡ Round removed) (of_level : IsOnLevelOf version removed) where
  meets : CanGoRound round.limits (read_way round.goal round.key) version removed
  meets = rw leg at can.meets

  pub index_of : 0 < level_in version.chain
  index_of = let some = meets.index in let same = of_level.same in omega (arith, some, same)

  -- the page is on the way, as it is to the left of the removed one
  pub reached_page : IsTrue (read_way round.goal round.key (low_in version.chain))
  reached_page =
      let there : IsReached round.limits (left_of removed) version = rw leg at can.reached in
      before_on round.goal round.key (low_in version.chain) (low_in removed.chain) there.reached meets.reached

  left_is : IsAtLevel round version removed
  left_is = record { leg = leg; alive = of_level.alive; same = of_level.same }

  named : (next : ℕ) → LeadsOn (read_way round.goal round.key) removed.chain next → (right_in removed.chain ≡ Some next) ⊎ NamesChild removed.chain next
  named next leads = elim leads [
    | inl right ↦ inl right.is_right
    | inr down ↦ (let index = meets.index in let child = down.2 in inr (level_in removed.chain - 1, child.low, child.held, omega (arith, index), child.covered, child.greatest.has))
  ]

  -- it has the removed one as its right
  module _ (beside : right_in version.chain ≡ Some removed.pid) (next : ℕ) (leads : LeadsOn (read_way round.goal round.key) removed.chain next) where
    pub through_within : (0 < next) × (next < round.limits.pids)
    through_within = meets.names of_level.alive beside next (named next leads)

    pub goes_through : (new : ReadRound) → new ≡ reading_on_to next (on (Past None) round) → StaysLeft (left_of removed) version.chain → TreatsRead round version new None
    goes_through new goes stays = inr (inr (inr (inr (inr (inr (inl (record { removed = removed; left = left_is; stays = stays; beside = beside; next = next; leads = leads; goes = goes })))))))

  -- that one was merged
  module _ (merged : right_in version.chain ≢ Some removed.pid) (stays : StaysLeft (left_of removed) version.chain) where
    there : IsAtMergedPage round version removed
    there = record { left = left_is; stays = stays; merged = merged }

    pub right_within_past : (next : ℕ) → LeadsRight (read_way round.goal round.key) version.chain next → (0 < next) × (next < round.limits.pids)
    right_within_past next right = on_within round.limits (read_way round.goal round.key) version.chain next (can.reached.names of_level.alive) (inl right)

    pub down_within_past : (next : ℕ) → StaysLeft (read_way round.goal round.key) version.chain → LeadsDown (read_way round.goal round.key) version.chain next → (0 < next) × (next < round.limits.pids)
    down_within_past next ends down = on_within round.limits (read_way round.goal round.key) version.chain next (can.reached.names of_level.alive) (inr (ends, index_of, down))

    pub goes_right_past : (next : ℕ) → LeadsRight (read_way round.goal round.key) version.chain next → (new : ReadRound)
        → new ≡ reading_on_to next (on (Past None) round) → TreatsRead round version new None
    goes_right_past next leads new goes = inr (inr (inr (inr (inr (inr (inr (inl (record { removed = removed; there = there; next = next; leads = leads; goes = goes }))))))))

    pub goes_down_past : (next : ℕ) → StaysLeft (read_way round.goal round.key) version.chain → LeadsDown (read_way round.goal round.key) version.chain next
        → (new : ReadRound) → new ≡ reading_on_to next (on (Past (Some version)) round)
        → TreatsRead round version new None
    goes_down_past next ends leads new goes =
        inr (inr (inr (inr (inr (inr (inr (inr (record { removed = removed; there = there; ends = ends; index = index_of; next = next; leads = leads; goes = goes }))))))))
