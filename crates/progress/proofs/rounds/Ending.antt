-- How many steps a reader's rounds take in one memory, by the limits.
use Rattle.progress.proofs.Words.{◌≡◌, ◌≤◌, ◌+◌, ◌*◌, ℕ, zero, suc, List, Bool, true, false, cond, refl, ap, inl, inr, arith, count_by, Limits, Memory, is_removed, low_in, LivePage, Version}
use Rattle.progress.proofs.Words.{Left, ReadRound, first_read, read_left_of, Task, memory_of, HasWholeTree, EndsWithin, FindsEach, IsRoundIn, WasRemovedLeaf, add-mul, suc-mul, one_walk}
use Rattle.std.proofs.Math.Nat.{mul-le-mul_right}
use Rattle.std.proofs.lemmas.List.Recursion.{is_count_by}
use Rattle.progress.specs.RoundsEnd.{IsRemovedLeaf, LeftRoundsEnd, LookupsEnd, LookupsEndInStates, RoundsEndInStates, StaleRoundsEnd, StandingRoundsEnd, removed_leaves}
use Rattle.progress.proofs.rounds.Counts.{many, many_within}
use Rattle.progress.proofs.rounds.Known.{tree}
use Rattle.progress.proofs.rounds.Measures.{after_few, all_removed, one_round, removed_after, times, times_up}
use Rattle.progress.proofs.rounds.Pages.{Standing}
use Rattle.progress.proofs.rounds.Tops.{top_of}
use Rattle.progress.proofs.rounds.Resuming.{from_place, resumed_within}
use Rattle.progress.proofs.rounds.Showing.{shown_in}
use Rattle.progress.proofs.rounds.Running.{ends_within}
use Rattle.progress.proofs.rounds.Turning.{Keeps}

pub many_is_count : {X : Type 0} (p : X → Bool) (xs : List X) → many p xs ≡ count_by p xs
many_is_count p = is_count_by (many p) p refl (λ x xs. step (p x) (many p xs))
  where
    step : (b : Bool) (n : ℕ) → cond b 1 0 + n ≡ cond b (1 + n) n
    step true n = refl
    step false n = omega arith

module _ (limits : Limits) (memory : Memory) (tree : HasWholeTree limits memory) where
  standing : Standing
  standing = record { limits = limits; memory = memory; tree = tree }

  round_few : one_round standing ≤ one_walk limits
  unfolding standing
  round_few =
      let root = tree.each tree.top tree.root.0 tree.root.1 in
      let top = top_of tree.root.0.chain root.fits.fitted in
      let is = root.level_is in
      omega (arith, top, is)

  times_few : (n : ℕ) → times standing n ≤ n * one_walk limits
  times_few zero = omega arith
  times_few (suc n) = let rest = times_few n in let one = round_few in let product = suc-mul n (one_walk limits) in omega (arith, rest, one, product)

  all_count : all_removed standing ≡ removed_leaves tree
  unfolding standing
  all_count = many_is_count (λ (leaf : LivePage). is_removed leaf.chain) (tree.pages 0)

  begin_left : (task : Task) (leaf : Version) (round : ReadRound) (n : ℕ) → Keeps standing (Left leaf) round.key (n * one_walk limits)
      → EndsWithin memory task (read_left_of leaf round) ((1 + n) * one_walk limits) × FindsEach memory task (read_left_of leaf round)
  unfolding standing
  begin_left task leaf round n keeps =
      let one = round_few in
      let product = add-mul 1 n (one_walk limits) in
      ends_within standing task (read_left_of leaf round) ((1 + n) * one_walk limits) (record { down = refl; later = n * one_walk limits; keeps = keeps; few = omega (arith, one, product) })

  pub lookup_ends : (task : Task) → EndsWithin memory task (first_read task) (2 * one_walk limits) × FindsEach memory task (first_read task)
  unfolding standing
  lookup_ends task =
      ends_within standing task (first_read task) (2 * one_walk limits) (record { down = refl; later = one_round standing; keeps = omega arith; few = (let one = round_few in omega (arith, one)) })

  pub left_round_ends : (task : Task) (leaf : Version) (round : ReadRound) → IsRemovedLeaf tree leaf
      → EndsWithin memory task (read_left_of leaf round) ((1 + removed_leaves tree) * one_walk limits) × FindsEach memory task (read_left_of leaf round)
  unfolding standing
  left_round_ends task leaf round removed =
      let up = times_up standing (removed_after standing round.key (low_in leaf.chain)) (all_removed standing) (after_few standing round.key (low_in leaf.chain)) in
      let all = times_few (all_removed standing) in
      let same = ap (λ (n : ℕ). n * one_walk limits) all_count in
      begin_left task leaf round (removed_leaves tree)
      (inl (record { stands = removed.stands; gone = removed.gone; above = removed.above; on = removed.on; term = removed.term }, omega (arith, up, all, same)))

  pub stale_round_ends : (task : Task) (leaf : Version) (round : ReadRound) → WasRemovedLeaf tree leaf
      → EndsWithin memory task (read_left_of leaf round) ((2 + removed_leaves tree) * one_walk limits) × FindsEach memory task (read_left_of leaf round)
  unfolding standing
  stale_round_ends task leaf round removed =
      let one = round_few in
      let all = times_few (all_removed standing) in
      let same = ap (λ (n : ℕ). n * one_walk limits) all_count in
      let product = add-mul 1 (removed_leaves tree) (one_walk limits) in
      let few : one_round standing + times standing (all_removed standing) ≤ (1 + removed_leaves tree) * one_walk limits = omega (arith, one, all, same, product) in
      let rounds : 1 + (1 + removed_leaves tree) ≡ 2 + removed_leaves tree = omega arith in
      rw (← rounds)
      (begin_left task leaf round (1 + removed_leaves tree) (inr (removed, few)))

  pub standing_round_ends : (task : Task) (round : ReadRound) → IsRoundIn tree round → EndsWithin memory task round ((4 + removed_leaves tree) * one_walk limits + 14)
  unfolding standing
  standing_round_ends task round is =
      let one = round_few in
      let all = times_few (all_removed standing) in
      let same = ap (λ (n : ℕ). n * one_walk limits) all_count in
      let product = add-mul 4 (removed_leaves tree) (one_walk limits) in
      resumed_within standing task round ((4 + removed_leaves tree) * one_walk limits + 14) is (omega (arith, one, all, same, product))

  removed_few : removed_leaves tree + 1 ≤ limits.pids
  unfolding standing
  removed_few =
      let same = all_count in
      let within = many_within (λ (leaf : LivePage). is_removed leaf.chain) (tree.pages 0) in
      let few = tree.few 0 in
      omega (arith, same, within, few)

  -- from a state on as many steps are left at most
  pub enough : 14 + from_place (record { limits = limits; memory = memory; tree = tree }) ≤ (4 + limits.pids) * one_walk limits
  unfolding standing
  enough =
      let one = round_few in
      let all = times_few (all_removed standing) in
      let same = ap (λ (n : ℕ). n * one_walk limits) all_count in
      let product = add-mul 4 (removed_leaves tree) (one_walk limits) in
      let few : (4 + removed_leaves tree + 1) * one_walk limits ≤ (4 + limits.pids) * one_walk limits = mul-le-mul_right (one_walk limits) (let few = removed_few in omega (arith, few)) in
      let last = add-mul (4 + removed_leaves tree) 1 (one_walk limits) in
      omega (arith, one, all, same, product, few, last)

  -- by the limits alone
  pub round_ends : (task : Task) (round : ReadRound) → IsRoundIn tree round → EndsWithin memory task round ((4 + limits.pids) * one_walk limits)
  round_ends task round is = record {
    short = λ rounds run.
        let short = (standing_round_ends task round is).short rounds run in
        let few : (4 + removed_leaves tree + 1) * one_walk limits ≤ (4 + limits.pids) * one_walk limits = mul-le-mul_right (one_walk limits) (let few = removed_few in omega (arith, few)) in
        let product = add-mul (4 + removed_leaves tree) 1 (one_walk limits) in
        omega (arith, short, few, product);
  }

pub lookups_end : LookupsEnd
lookups_end limits memory tree task = lookup_ends limits memory tree task

pub left_rounds_end : LeftRoundsEnd
left_rounds_end limits memory tree task leaf round removed = left_round_ends limits memory tree task leaf round removed

pub stale_rounds_end : StaleRoundsEnd
stale_rounds_end limits memory tree task leaf round removed = stale_round_ends limits memory tree task leaf round removed

pub standing_rounds_end : StandingRoundsEnd
standing_rounds_end limits memory tree task round is = standing_round_ends limits memory tree task round is

pub lookups_end_in_states : LookupsEndInStates
lookups_end_in_states limits entries task state = lookup_ends limits (memory_of limits entries) (tree limits entries state 0) task

pub rounds_end_in_states : RoundsEndInStates
rounds_end_in_states limits entries actor r task round state shows =
    round_ends limits (memory_of limits entries) (tree limits entries state actor) task round (shown_in limits entries state actor round r shows)
