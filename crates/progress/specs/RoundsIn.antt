-- Where a reader's round may stand in a memory, after it began in earlier ones: what it has read, and where it goes, isn't false there.
use Rattle.std.specs.Prelude.{◌≡◌, ◌++◌, ◌⊎◌, ℕ, List, Bool, true, false, Some, None, ⊤}
use Rattle.std.specs.List.{Contains}
use Rattle.tree_limits.specs.declared.limits.Limits.{Limits}
use Rattle.base_page.specs.declared.item.Content.TheVariants.{Child}
use Rattle.deltas.specs.Memory.{Memory}
use Rattle.deltas.specs.declared.record.Record.{Record}
use Rattle.traces.specs.chain.Chains.{IsChainFrom, content_in, is_removed, right_in}
use Rattle.traces.specs.chain.Fitted.{IsPageChain}
use Rattle.traces.specs.chain.SideChain.{LivePage}
use Rattle.structure_changes.specs.Versions.{Version}
use Rattle.round_model.specs.Descents.{WayState, Root, Page}
use Rattle.round_model.specs.ReadGoals.{ReadGoal, Seek, Left, Beyond}
use Rattle.round_model.specs.ReadLegs.{Leg, Down, Round, Past}
use Rattle.round_model.specs.ReadRounds.{ReadRound}
use Rattle.round_model.specs.Visits.{Slot, Row, VisitState}
use Rattle.tree_law.specs.LevelPages.{IsPageOn}
use Rattle.tree_law.specs.OneMemory.{HasWholeTree}

module _ {limits : Limits} {memory : Memory} (tree : HasWholeTree limits memory) where
  -- A page stands that is removed, or one of its level.
  pub record IsThere (page : LivePage) : Type 0 where
    pub level : ℕ
    pub stands : IsPageOn limits memory level page
    pub is : (is_removed page.chain ≡ true) ⊎ Contains (tree.pages level) page

  -- A PID that a reader has learnt isn't used again while it is inside, so its slot is empty, or its page is there.
  abbrev pub IsPlace : ℕ → Type 0
  IsPlace pid = (memory.slots pid ≡ 0) ⊎ ((page : LivePage) × (page.pid ≡ pid) × IsThere page)

  -- All that the chain names are places.
  pub record NamesPlaces (chain : List Record) : Type 0 where
    pub right : (next : ℕ) → right_in chain ≡ Some next → IsPlace next
    pub child : (key : List ℕ) (next : ℕ) (held : Bool) → content_in chain key ≡ Some (Child next held) → IsPlace next

  -- A removed page stays as it was read until its slot is emptied: where a page of a level has it as its right, it stands so on that level.
  abbrev pub KeepsItsPlace : LivePage → Type 0
  KeepsItsPlace page = (level : ℕ) (other : LivePage) → Contains (tree.pages level) other → right_in other.chain ≡ Some page.pid → Contains (tree.pages level) page

  -- A removed leaf was read, maybe in an earlier memory.
  pub record WasRemovedLeaf (leaf : Version) : Type 0 where
    pub fits : IsPageChain leaf.chain
    pub gone : is_removed leaf.chain ≡ true
    pub kept : KeepsItsPlace (record { pid = leaf.pid; chain = leaf.chain })

  -- by the goal of a round
  abbrev pub IsGoalIn : ReadGoal → Type 0
  IsGoalIn Seek = ⊤
  IsGoalIn (Left removed) = WasRemovedLeaf removed
  IsGoalIn Beyond = ⊤

  -- by its leg: the page above, or the removed one that it goes round
  abbrev pub IsLegIn : Leg → Type 0
  IsLegIn (Down None) = ⊤
  IsLegIn (Down (Some above)) = NamesPlaces above.chain
  IsLegIn (Round removed) = KeepsItsPlace (record { pid = removed.pid; chain = removed.chain })
  IsLegIn (Past None) = ⊤
  IsLegIn (Past (Some above)) = NamesPlaces above.chain

  -- A page is being read, maybe as it was when its slot was read: the records under those that were read still stand. It names places, if it isn't
  -- removed; and the removed page to the left of which the round goes, or which it goes round, does where the page has that one as its right.
  pub record IsReadIn (goal : ReadGoal) (leg : Leg) (pid : ℕ) (part : List Record) (row : ℕ) : Type 0 where
    pub rest : List Record
    pub stands : IsChainFrom memory.rows row rest
    pub fits : IsPageChain (part ++ rest)
    pub names : is_removed (part ++ rest) ≡ false → NamesPlaces (part ++ rest)
    pub kept : is_removed (part ++ rest) ≡ true → KeepsItsPlace (record { pid = pid; chain = part ++ rest })
    pub left : (removed : Version) → goal ≡ Left removed → is_removed (part ++ rest) ≡ false → right_in (part ++ rest) ≡ Some removed.pid → NamesPlaces removed.chain
    pub round : (removed : Version) → leg ≡ Round removed → is_removed (part ++ rest) ≡ false → right_in (part ++ rest) ≡ Some removed.pid → NamesPlaces removed.chain

  -- by where the visit of a page stands
  abbrev pub IsVisitIn : ReadGoal → Leg → ℕ → List Record → VisitState → Type 0
  IsVisitIn goal leg pid part Slot = IsPlace pid
  IsVisitIn goal leg pid part (Row head row) = IsReadIn goal leg pid part row

  -- by where the round stands
  abbrev pub IsStateIn : ReadGoal → Leg → WayState → Type 0
  IsStateIn goal leg Root = ⊤
  IsStateIn goal leg (Page visit) = IsVisitIn goal leg visit.pid visit.part visit.state

  -- What the round has read, and where it goes, is so in the memory.
  pub record IsRoundIn (round : ReadRound) : Type 0 where
    pub goal : IsGoalIn round.goal
    pub leg : IsLegIn round.leg
    pub state : IsStateIn round.goal round.leg round.state
