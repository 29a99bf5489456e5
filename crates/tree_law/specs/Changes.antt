-- What a trace of allowed steps keeps true of how often the tree is changed: what pages and actors have in store pays for the changes that
-- are to come.
use Rattle.std.specs.Prelude.{◌≡◌, ◌≤◌, ◌+◌, ◌*◌, ◌-◌, ℕ, zero, suc, List, [], ◌∷◌, ◌++◌, length, drop, Option, None, Some, Bool, true, false, IsSome, ⊤}
use Rattle.std.specs.List.{All, count_by}
use Rattle.std.specs.List.Sorted.{IsStrictlyIncreasing}
use Rattle.tree_limits.specs.declared.limits.Limits.{Limits}
use Rattle.bw_model.specs.declared.command.Command.{Command}
use Rattle.bw_model.specs.declared.command.Reply.{Reply}
use Rattle.bw_model.specs.declared.step.Answer.{Answer}
use Rattle.bw_model.specs.declared.step.Step.{Step as StepOf}
use Rattle.base_page.specs.declared.item.Item.{Item}
use Rattle.deltas.specs.declared.record.Record.{Record}
use Rattle.traces.specs.chain.Chains.{IsChainFrom, IsItemsOf}
use Rattle.traces.specs.declared.trace.Entry.{Entry}
use Rattle.traces.specs.declared.trace.Entry.TheVariants.{Begin, Step}
use Rattle.traces.specs.discipline.Discipline.{IsAllowed}
use Rattle.traces.specs.discipline.Disciplined.{IsDisciplined}
use Rattle.traces.specs.discipline.Knowledge.{Asked, Knowledge, OwnRow, Foreign, Taken, Written, OwnPage, Other, Empty, Ready, Gone, knows}
use Rattle.traces.specs.discipline.Useful.{IsUseful}
use Rattle.traces.specs.trace.Steps.{IsAnswer}
use Rattle.traces.specs.trace.Trace.{Happens, command_of, memory_of}
use Rattle.linearization.specs.Changes.{HasFewChanges}
use Rattle.linearization.specs.Halves.{IsHalved}
use Rattle.linearization.specs.Progress.{ChangesTree, is_begin, takes_number}
use Rattle.tree_law.specs.Keys.{Key}
use Rattle.tree_law.specs.Owners.{Linked, Owners}
use Rattle.tree_law.specs.Phase.{Fresh, Indexed, Held, Removed, Merged, PageOwner, Nobody, Keeps, Placed, Cleared}
use Rattle.tree_law.specs.Shared.{Shared, shared_part}
use Rattle.tree_law.specs.State.{IsState}

-- what the life of a page that begins at the key is worth: one that begins at the empty key is never removed
abbrev pub from_low : Key → ℕ → ℕ
from_low [] worth = 0
from_low (byte ∷ bytes) worth = worth

-- how many changes the life of a page pays for still, by whose it is and what its slot holds
abbrev pub life : PageOwner → Option ℕ → ℕ
life Nobody slot = 0
life (Keeps actor) slot = 0
life (Placed Fresh level low) slot = from_low low 40
life (Placed Indexed level low) slot = from_low low 32
life (Placed Held level low) slot = from_low low 30
life (Placed Removed level low) slot = 29
life (Placed Merged level low) slot = 3
life (Cleared actor level low) None = 0
life (Cleared actor level low) (Some row) = 1

-- in the tree, and not removed
abbrev pub is_alive : PageOwner → Bool
is_alive (Placed Fresh level low) = true
is_alive (Placed Indexed level low) = true
is_alive (Placed Held level low) = true
is_alive owner = false

-- the chain of a page that is alive, and the items that it decides
pub record AliveChain (o : Owners) (m : Shared) (page : ℕ) : Type 0 where
  pub row : ℕ
  pub head : m.slots page ≡ Some row
  pub linked : o.row row ≡ Linked
  pub chain : List Record
  pub is_chain : IsChainFrom m.rows row chain
  pub items : List Item
  pub are : IsItemsOf chain items

-- how many changes a chain pays for: 1 for each delta, and 6 for each item above the seventh
abbrev pub chain_worth : List Record → List Item → ℕ
chain_worth chain items = (length chain - 1) + 6 * (length items - 7)

abbrev pub IsWorthBy : Bool → Owners → Shared → ℕ → ℕ → Type 0
IsWorthBy true o m page worth = (c : AliveChain o m page) × (worth ≡ chain_worth c.chain c.items)
IsWorthBy false o m page worth = worth ≡ 0

-- The chain of the page is worth so much; one of a page that isn't alive is worth nothing.
abbrev pub IsWorth : Owners → Shared → ℕ → ℕ → Type 0
IsWorth o m page worth = IsWorthBy (is_alive (o.page page)) o m page worth

-- an operation that may still link its update pays for 8 changes
abbrev pub credit_of : Option Command → Option (Option ℕ) → ℕ
credit_of (Some command) None = 8
credit_of command linked = 0

abbrev pub credit : Asked → ℕ
credit asked = credit_of asked.command asked.linked

-- the sum of the first n numbers
abbrev pub total : (ℕ → ℕ) → ℕ → ℕ
total f zero = 0
total f (suc n) = total f n + f n

-- what is in store, where the chains are worth so much
abbrev pub store : (limits : Limits) (entries : List Entry) → IsState limits entries → (ℕ → ℕ) → ℕ
store limits entries state worths =
    total (λ page. life (state.owners.page page) ((shared_part (memory_of limits entries)).slots page)) limits.pids + total worths limits.pids + total
    (λ actor. credit (knows entries actor).asked) limits.actors

-- what may be in store: nothing before the first entry, and from then on 154 for each page that there may be, and 8 for each actor
abbrev pub most_in_store : Limits → ℕ → ℕ
most_in_store limits zero = 0
most_in_store limits (suc n) = 154 * limits.pids + 8 * limits.actors

-- whether a row, or a page, is an actor's own, and not in the tree, as a number
abbrev pub row_mark : OwnRow → ℕ
row_mark Foreign = 0
row_mark Taken = 1
row_mark (Written content) = 1

abbrev pub page_mark : OwnPage → ℕ
page_mark Other = 0
page_mark Empty = 1
page_mark (Ready row) = 1
page_mark Gone = 0

-- how many rows and PIDs an actor has that are not in the tree
abbrev pub rows_had : Limits → Knowledge → ℕ
rows_had limits k = total (λ row. row_mark (k.own.rows row)) limits.rows

abbrev pub pids_had : Limits → Knowledge → ℕ
pids_had limits k = total (λ page. page_mark (k.own.pages page)) limits.pids

-- how many all actors have
abbrev pub numbers_had : Limits → (ℕ → Knowledge) → ℕ
numbers_had limits ks = total (λ actor. rows_had limits (ks actor) + pids_had limits (ks actor)) limits.actors

-- The changes so far have used all numbers that were taken, but those that actors have.
pub record AreUsed (limits : Limits) (entries : List Entry) : Type 0 where
  pub changes : List ℕ
  pub increasing : IsStrictlyIncreasing changes
  pub each : All (λ place. Happens limits entries place ChangesTree) changes
  pub used : count_by takes_number entries ≤ numbers_had limits (knows entries) + 3 * length changes

-- There are few changes. What is in store is no more than may have been at any moment before, and the operations that were begun since have
-- paid, and the changes have not used.
pub record IsPaidState (limits : Limits) (entries : List Entry) : Type 0 where
  pub state : IsState limits entries
  pub worths : ℕ → ℕ
  pub each : (page : ℕ) → IsWorth state.owners (shared_part (memory_of limits entries)) page (worths page)
  pub few : HasFewChanges limits entries
  pub taken : AreUsed limits entries
  pub paid : (m : ℕ) (changes : List ℕ) → IsStrictlyIncreasing changes → All (λ place. (m ≤ place) × Happens limits entries place ChangesTree) changes
      → length changes + store limits entries state worths ≤ most_in_store limits m + 8 * count_by is_begin (drop m entries)

-- A begin keeps one, and so does a step that is allowed, of use, and no split of too few items.
abbrev pub StepsPay : Type 0
StepsPay = (limits : Limits) (entries : List Entry) (actor : ℕ) (step : StepOf Record) (answer : Answer Record) (reply : Option Reply) → IsPaidState limits entries → IsSome (command_of entries actor)
    → IsAllowed limits actor (knows entries actor) step reply → IsUseful (knows entries actor) step → IsHalved (knows entries actor) step
    → IsAnswer (memory_of limits entries) step answer → IsPaidState limits (entries ++ Step actor step answer reply ∷ [])

-- Along these entries each step is of use, and no split of too few items.
abbrev pub AreUsefulFrom : List Entry → List Entry → Type 0
AreUsefulFrom before [] = ⊤
AreUsefulFrom before (Begin actor command ∷ entries) = AreUsefulFrom (before ++ Begin actor command ∷ []) entries
AreUsefulFrom before (Step actor step answer reply ∷ entries) = IsUseful (knows before actor) step × IsHalved (knows before actor) step × AreUsefulFrom
    (before ++ Step actor step answer reply ∷ []) entries

-- A trace in which each actor obeys its discipline, by such steps, has few changes.
abbrev pub RunsHaveFewChanges : Type 0
RunsHaveFewChanges = (limits : Limits) (entries : List Entry) → IsDisciplined limits entries → AreUsefulFrom [] entries → HasFewChanges limits entries
