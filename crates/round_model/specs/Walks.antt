-- What is known on the way from page to page.
use Rattle.std.specs.Prelude.{◌≡◌, ◌≢◌, ◌<◌, ◌≤◌, ◌+◌, ◌-◌, ◌*◌, ◌⊎◌, ◌||◌, ℕ, List, [], ◌∷◌, length, Bool, Option, None, Some, true, false, IsTrue, IsFalse, if◌then◌else◌, ⊤}
use Rattle.std.specs.List.{AllByRecursion}
use Rattle.tree_limits.specs.declared.limits.Limits.{Limits}
use Rattle.bw_model.specs.Bytes.{is_below}
use Rattle.deltas.specs.declared.record.Record.{Record}
use Rattle.traces.specs.chain.Chains.{IsChainFrom, is_removed, level_in, low_in}
use Rattle.traces.specs.discipline.Discipline.{IsBeyond}
use Rattle.traces.specs.discipline.Knowledge.{Knowledge}
use Rattle.traces.specs.discipline.Recalled.{AnyNames, IsUnread, Recalled, Walk, is_removal, removal_level, trail}
use Rattle.structure_changes.specs.Versions.{Version}
use Rattle.round_model.specs.Visits.{VisitState, Slot, Row, Arrives, Shows, Visit}
use Rattle.round_model.specs.Versions.{IsInHand, NamesPages}
use Rattle.round_model.specs.Ways.{NamesAt}

-- One place is past another: on a higher level, or on the same level to the left.
abbrev pub IsPastAt : ℕ → List ℕ → ℕ → List ℕ → Type 0
IsPastAt level low other_level other_low = (level < other_level) ⊎ ((other_level ≡ level) × IsTrue (is_below other_low low))

-- A page was read whole that is past this place.
pub record IsPast (k : Knowledge) (level : ℕ) (low : List ℕ) (page : ℕ) : Type 0 where
  pub head : ℕ
  pub chain : List Record
  pub in_slot : k.read.heads page ≡ Some head
  pub read : IsChainFrom k.read.seen head chain
  pub past : IsPastAt level low (level_in chain) (low_in chain)

-- A page in hand, which isn't removed, names the page on the level and at the low key.
pub record IsNamedAt (limits : Limits) (k : Knowledge) (page level : ℕ) (low : List ℕ) : Type 0 where
  pub naming : Version
  pub in_hand : IsInHand limits k naming
  pub alive : is_removed naming.chain ≡ false
  pub apart : naming.pid ≢ page
  pub names : NamesAt naming.chain page level low

-- A page in hand, which isn't removed, had a removed page to its right, which was read before it, and names the page on the level
-- and at the low key.
pub record IsNextAt (limits : Limits) (k : Knowledge) (page level : ℕ) (low : List ℕ) : Type 0 where
  pub left : Version
  pub in_hand : IsInHand limits k left
  pub alive : is_removed left.chain ≡ false
  pub apart : left.pid ≢ page
  pub beyond : IsBeyond k left.pid left.chain page
  pub names : NamesAt beyond.chain page level low

-- What is known of a page that is to be read: it is the root, and the first page; or a page in hand names it, or the removed page
-- that stood to the right of one does.
abbrev pub IsExpected : Limits → Knowledge → ℕ → ℕ → List ℕ → List ℕ → Type 0
IsExpected limits k page level low earlier = (IsTrue (k.read.roots page) × (low ≡ []) × (earlier ≡ [])) ⊎ IsNamedAt limits k page level low ⊎ IsNextAt limits k page level low

-- the pages whose slots were read since slot 0 was, by the state of the visit
abbrev pub been : VisitState → ℕ → List ℕ → List ℕ
been Slot page earlier = earlier
been (Row head row) page earlier = page ∷ earlier

-- once the page's slot was read, the other page was read before it
abbrev pub IsAhead : Knowledge → Version → ℕ → VisitState → Type 0
IsAhead k other page Slot = ⊤
IsAhead k other page (Row head row) = k.read.before page other.pid ≡ Some other.head

-- the pages that count, by the state of the visit
abbrev pub counting_pages : Walk → VisitState → List ℕ
counting_pages walk Slot = trail walk
counting_pages walk (Row head row) = walk.visited

-- Once the page's slot was read, a removal was read since slot 0 was, where the round has gone on from the last one that was a cause, or it
-- is among the deltas.
abbrev pub TellsRemoved : Walk → List Record → VisitState → Type 0
TellsRemoved walk part Slot = ⊤
TellsRemoved walk part (Row head row) = walk.removed ≡ (walk.passed || is_removed part)

-- one of the records removes a page of this level
abbrev pub HasRemovalAt : List Record → ℕ → Type 0
HasRemovalAt [] level = ⊥
HasRemovalAt (content ∷ part) level = ((is_removal content ≡ true) × (removal_level content ≡ level)) ⊎ HasRemovalAt part level

-- A removal that was a cause, and from which the round hasn't gone on, is among the deltas.
abbrev pub TellsLevel : Walk → List Record → VisitState → Type 0
TellsLevel walk part Slot = ⊤
TellsLevel walk part (Row head row) = walk.removed ≡ true → walk.passed ≡ false → HasRemovalAt part walk.level

-- no removed page was met before the visited one
abbrev pub HasMetNone : Walk → VisitState → Type 0
HasMetNone walk Slot = walk.removed ≡ false
HasMetNone walk (Row head row) = walk.passed ≡ false

-- each removal among the records is of a higher level
abbrev pub AreRemovalsAbove : ℕ → List Record → Type 0
AreRemovalsAbove level part = AllByRecursion (λ content. is_removal content ≡ true → level < removal_level content) part

-- A page is of the level of the last removal that was a cause at most; below a page above, which was read after that one, it is of a
-- lower one, and none of its records is a removal that was one, either.
abbrev pub IsUnderRemoval : Option Version → ℕ → ℕ → List Record → Type 0
IsUnderRemoval None level last part = level ≤ last
IsUnderRemoval (Some above) level last part = (level < last) × AreRemovalsAbove level part

-- A removed page was met before the visited one, which is under it, unless a further removal was read that is a cause.
abbrev pub IsUnderLast : Option Version → ℕ → List ℕ → Walk → List Record → VisitState → Type 0
IsUnderLast above level earlier walk part Slot = (earlier ≢ []) × (walk.removed ≡ true) × IsUnderRemoval above level walk.level []
IsUnderLast above level earlier walk part (Row head row) = (earlier ≢ []) × (walk.removed ≡ true) × (walk.passed ≡ true → IsUnderRemoval above level walk.level part)

-- The removed page was met before the visited one, and is of the level of the last removal at most, unless a further one was read that is
-- a cause.
abbrev pub IsRoundLast : Version → Walk → VisitState → Type 0
IsRoundLast removed walk Slot = (walk.removed ≡ true) × (level_in removed.chain ≤ walk.level)
IsRoundLast removed walk (Row head row) = (walk.removed ≡ true) × (walk.passed ≡ true → level_in removed.chain ≤ walk.level)

-- no record is read before the slot
abbrev pub HasNoneRead : VisitState → List Record → Type 0
HasNoneRead Slot part = part ≡ []
HasNoneRead (Row head row) part = ⊤

-- No page is twice among these, and each is one that there may be.
abbrev pub AreDistinct : Limits → List ℕ → Type 0
AreDistinct limits [] = ⊤
AreDistinct limits (page ∷ pages) = (0 < page) × (page < limits.pids) × IsUnread page pages × AreDistinct limits pages

-- The slots of these pages are recalled as they are known.
abbrev pub AreRecalled : Knowledge → Recalled → List ℕ → Type 0
AreRecalled k r pages = AllByRecursion (λ page. r.heads page ≡ k.read.heads page) pages

-- A page is visited, which is expected at a place; all pages visited earlier that count are past it.
pub record IsOnWay (limits : Limits) (k : Knowledge) (r : Recalled) (visit : Visit) (level : ℕ) (low : List ℕ) (earlier : List ℕ) : Type 0 where
  pub shows : Shows visit k
  pub same : visit.limits ≡ limits
  pub bare : HasNoneRead visit.state visit.part
  pub visited : counting_pages r.walk visit.state ≡ been visit.state visit.pid earlier
  pub recalled : AreRecalled k r (been visit.state visit.pid earlier)
  pub expected : IsExpected limits k visit.pid level low earlier
  pub distinct : AreDistinct limits (visit.pid ∷ earlier)
  pub past : AllByRecursion (IsPast k level low) earlier
  pub rooted : r.walk.rooted ≡ true
  pub removed : TellsRemoved r.walk visit.part visit.state
  pub lowest : TellsLevel r.walk visit.part visit.state
  pub kept : (page : ℕ) → AnyNames visit.part page → AnyNames r.walk.records page

-- The page was read whole: it is where it was expected, and so on.
pub record HasArrived (limits : Limits) (k now : Knowledge) (r : Recalled) (version : Version) (level : ℕ) (low : List ℕ) (earlier : List ℕ) : Type 0 where
  pub visit : Visit
  pub same : visit.limits ≡ limits
  pub arrives : Arrives k now visit version
  pub more : (other row : ℕ) (chain : List Record) → k.read.heads other ≡ Some row → IsChainFrom k.read.seen row chain → (now.read.heads other ≡ Some row) × IsChainFrom now.read.seen row chain
  pub is_low : low_in version.chain ≡ low
  pub is_level : (earlier ≡ []) ⊎ (level_in version.chain ≡ level)
  pub visited : r.walk.visited ≡ version.pid ∷ earlier
  pub recalled : AreRecalled now r (version.pid ∷ earlier)
  pub distinct : AreDistinct limits (version.pid ∷ earlier)
  pub past : AllByRecursion (IsPast k level low) earlier
  pub rooted : r.walk.rooted ≡ true
  pub removed : r.walk.removed ≡ (r.walk.passed || is_removed version.chain)
  pub lowest : r.walk.removed ≡ true → r.walk.passed ≡ false → r.walk.level ≡ level_in version.chain
  pub kept : (page : ℕ) → AnyNames version.chain page → AnyNames r.walk.records page

-- The page is the root, or a record names it that was read since slot 0 was.
abbrev pub IsNamedNow : Knowledge → Recalled → ℕ → Type 0
IsNamedNow k r page = IsTrue (k.read.roots page) ⊎ AnyNames r.walk.records page

-- A page is visited on a way. Unless it may have been named before slot 0 was read, as the right of a removed page, or may be visited
-- once more, as a removed page was met, it is named now, and none was met.
pub record IsSeeking (limits : Limits) (way : List ℕ → Bool) (beyond : Bool) (k : Knowledge) (r : Recalled) (visit : Visit) (level : ℕ) (low : List ℕ) (earlier : List ℕ) : Type 0 where
  pub on_way : IsOnWay limits k r visit level low earlier
  pub passing : IsTrue (way low)
  pub named : IsFalse beyond → IsNamedNow k r visit.pid
  pub fresh : IsFalse beyond → HasMetNone r.walk visit.state

-- The page is on the way, and the pages that it names are such as there may be.
pub record IsReached (limits : Limits) (way : List ℕ → Bool) (version : Version) : Type 0 where
  pub reached : IsTrue (way (low_in version.chain))
  pub names : IsFalse (is_removed version.chain) → NamesPages limits version.chain

-- the page is one of these
abbrev pub IsAmongPids : ℕ → List ℕ → Type 0
IsAmongPids page [] = ⊥
IsAmongPids page (other ∷ others) = (page ≡ other) ⊎ IsAmongPids page others

-- how many reads a round takes at most once it goes on from a removed page, with those that are reserved for rounds after it
abbrev pub with_walk : Limits → ℕ → ℕ
with_walk limits reserve = 14 * limits.pids + reserve

-- how many reads a round takes at most from a visit on, with the one that it has asked for, and with those that are reserved
-- once a removal was read
abbrev pub reads_left_at : Limits → ℕ → Walk → List Record → VisitState → ℕ
reads_left_at limits reserve walk part Slot = 14 * (limits.pids - length (trail walk)) + (if walk.removed then reserve else 0)
reads_left_at limits reserve walk part (Row head row) =
    14 * (limits.pids - length walk.visited) + (13 - length part) + (if walk.passed then reserve else (if is_removed part then with_walk limits reserve else 0))

abbrev pub reads_left_in : Limits → ℕ → Recalled → Visit → ℕ
reads_left_in limits reserve r visit = reads_left_at limits reserve r.walk visit.part visit.state
