-- What a writer's round finds at a page: how long and how wide it is, and where the round goes.
use Rattle.rounds.proofs.Words.{◌≡◌, ◌<◌, inl, ℕ, true, false, List, None, Some, refl, ap, ◌∙◌, arith, Limits, Record, level_in, IsFitted, PlacedChain, Version}
use Rattle.std.proofs.Common.{◌≤◌, suc, Bool, length}
use Rattle.std.proofs.Math.Nat.{lt_of_not-le}
use Rattle.base_page.specs.declared.item.Item.{Item}
use Rattle.traces.specs.chain.Chains.{IsItemsOf}
use Rattle.structure_changes.specs.Reads.{chain_of}
use Rattle.structure_changes.specs.Sizes.{HasFewDeltas, HasManyItems, HasMergeRoom, many_of}
use Rattle.structure_changes.proofs.Few.{few_many}
use Rattle.structure_changes.proofs.Places.{made}
use Rattle.round_model.specs.Courses.{WriteGoal, Seek, Left, Merge, Unterm, removed_of}
use Rattle.round_model.specs.WriteRounds.{IsLong, SeeksLeaf, ends_at}

-- what a test would have said isn't so
pub denied : (b : Bool) (P : Type 0) → (P → b ≡ true) → b ≡ false → P → ⊥
denied b P tells off h = let on = tells h in cc

-- the records of a page's chain, and their level, are those of the version that it is
pub records_of : {chain : PlacedChain} {page now : Version} → chain ≡ chain_of page → page ≡ now → chain.records ≡ now.chain
records_of are is = ap (λ (chain : PlacedChain). chain.records) are ∙ ap (λ (v : Version). v.chain) is

pub level_of : {chain : PlacedChain} {page now : Version} {level : ℕ} → level ≡ level_in chain.records → chain ≡ chain_of page → page ≡ now
    → level ≡ level_in now.chain
level_of same are is = same ∙ ap level_in (records_of are is)

-- a page that isn't long has few deltas
pub few_deltas : (limits : Limits) (due : ℕ) (chain : List Record) → ¬ IsLong limits due chain → HasFewDeltas chain
few_deltas limits due chain short =
    let few = few_many limits (level_in chain) in let most = lt_of_not-le (λ (many : suc (many_of limits (level_in chain)) ≤ length chain). short (inl many)) in omega (arith, few, most)

-- how many items a chain has says whether they are many
module _ (chain : List Record) (count : ℕ) (counted : (items : List Item) → IsItemsOf chain items → count ≡ length items) where
  pub many_by_count : IsFitted chain → 16 ≤ count → HasManyItems chain
  many_by_count fit many = let m = made chain fit in let all = counted m.0.items m.1.items in (m.0.items, m.1.items, omega (arith, many, all))

  pub count_of_many : HasManyItems chain → 16 ≤ count
  count_of_many h = let all = counted h.0 h.1 in let many = h.2 in omega (arith, many, all)

  pub few_by_count : IsFitted chain → count ≤ 16 → HasMergeRoom chain
  few_by_count fit few = let m = made chain fit in let all = counted m.0.items m.1.items in (m.0.items, m.1.items, omega (arith, few, all))

-- a bound on how many items a chain has may say that there is room
pub few_by_most : (chain : List Record) (most : ℕ) → ((items : List Item) → IsItemsOf chain items → length items ≤ most) → IsFitted chain → most ≤ 16 → HasMergeRoom chain
few_by_most chain most within fit few = let m = made chain fit in let all = within m.0.items m.1.items in (m.0.items, m.1.items, omega (arith, few, all))

-- the goal, by the removed page to whose left it is

pub left_by : (goal : WriteGoal) (pid : ℕ) → removed_of goal ≡ Some pid → goal ≡ Left pid
left_by (Left other) pid e = let is : other ≡ pid = cc in cc
left_by other pid e = cc

pub seek_by : (goal : WriteGoal) → SeeksLeaf goal → removed_of goal ≡ None → goal ≡ Seek
seek_by Seek seeks e = refl
seek_by (Left pid) seeks e = cc
seek_by (Merge left) seeks e = absurd seeks
seek_by (Unterm parent left) seeks e = absurd seeks

-- a page below the level where a round ends is below that of a removed page
pub below_left : (goal : WriteGoal) (floor level : ℕ) → SeeksLeaf goal → level < ends_at goal floor → (pid : ℕ) × (goal ≡ Left pid) × (level < floor)
below_left Seek floor level seeks less = absurd (omega arith)
below_left (Left pid) floor level seeks less = (pid, refl, less)
below_left (Merge left) floor level seeks less = absurd seeks
below_left (Unterm parent left) floor level seeks less = absurd seeks
