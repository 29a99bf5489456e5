-- What each finished operation has replied.
use Rattle.std.specs.Prelude.{◌≡◌, ◌≢◌, ◌<◌, ◌≤◌, ◌/◌, ℕ, List, [], ◌∷◌, length, Option, Bool, Some, IsTrue, ◌⊎◌, false}
use Rattle.std.specs.List.{Contains}
use Rattle.bw_model.specs.declared.command.Command.{Command}
use Rattle.bw_model.specs.declared.command.Command.TheVariants.{Back, Page, Tidy}
use Rattle.bw_model.specs.declared.command.Reply.{Reply}
use Rattle.bw_model.specs.declared.command.Reply.TheVariants as reply
use Rattle.tree_limits.specs.declared.limits.Limits.{Limits}
use Rattle.bw_model.specs.declared.step.Step.TheVariants.{PidBits, RowBits, Slot}
use Rattle.bw_model.specs.declared.step.Answer.TheVariants.{Number}
use Rattle.bw_model.specs.Bytes.{IsShort}
use Rattle.bw_model.specs.Log.{Update, logged_value}
use Rattle.bw_model.specs.NextKeys.{key_after, key_before}
use Rattle.bw_model.specs.Pairs.{IsPairsOf}
use Rattle.bw_model.specs.Replies.{command_key, is_writer, reply_of}
use Rattle.base_page.specs.declared.page.Page.{Page as BasePage}
use Rattle.deltas.specs.declared.record.Record.{Record}
use Rattle.deltas.specs.declared.record.Record.TheVariants.{Base}
use Rattle.deltas.specs.Memory.{Memory}
use Rattle.traces.specs.declared.trace.Entry.{Entry}
use Rattle.traces.specs.chain.Chains.{IsChainOf, covers, high_in, is_removed, low_in}
use Rattle.traces.specs.chain.HeldBack.{HoldsBack}
use Rattle.traces.specs.chain.SideChain.{LivePage, IsLeaves}
use Rattle.traces.specs.trace.Trace.{memory_at}
use Rattle.linearization.specs.Operations.{Operation, IsOperation, IsOwnStep, TakesOwnStep, Finishes}
use Rattle.linearization.specs.Points.{log_at, IsPoint}

-- the leaf of the memory that has the key
pub record IsLeafOf (memory : Memory) (key : List ℕ) (leaf : LivePage) : Type 0 where
  pub leaves : List LivePage
  pub are : IsLeaves memory leaves
  pub among : Contains leaves leaf
  pub covers : IsTrue (covers leaf.chain key)

-- A cursor page ends at the high key of the leaf that has its first key, and has the log's pairs in between.
pub record IsCursorPage (memory : Memory) (log : List Update) (from : List ℕ) (items : List (List ℕ × List ℕ)) (next : Option (List ℕ)) : Type 0 where
  pub leaf : LivePage
  pub stands : IsLeafOf memory from leaf
  pub ends : high_in leaf.chain ≡ next
  pub pairs : IsPairsOf log from next items

-- a cursor page as a command's reply
pub record ShowsPage (memory : Memory) (log : List Update) (command : Command) (answer : Reply) : Type 0 where
  pub from : List ℕ
  pub asks : command ≡ Page from
  pub items : List (List ℕ × List ℕ)
  pub next : Option (List ℕ)
  pub is : answer ≡ reply.Page items next
  pub page : IsCursorPage memory log from items next

-- A page backward begins at the low key of the leaf that has its key, and has the log's pairs from there up to that key; the next one
-- goes on at the greatest key below the leaf.
pub record IsBackPage (memory : Memory) (log : List Update) (upto : List ℕ) (items : List (List ℕ × List ℕ)) (next : Option (List ℕ)) : Type 0 where
  pub leaf : LivePage
  pub stands : IsLeafOf memory upto leaf
  pub short : IsShort (low_in leaf.chain)
  pub goes_on : key_before (low_in leaf.chain) ≡ next
  pub pairs : IsPairsOf log (low_in leaf.chain) (Some (key_after upto)) items

-- a page backward as a command's reply
pub record ShowsBack (memory : Memory) (log : List Update) (command : Command) (answer : Reply) : Type 0 where
  pub upto : List ℕ
  pub asks : command ≡ Back upto
  pub items : List (List ℕ × List ℕ)
  pub next : Option (List ℕ)
  pub is : answer ≡ reply.BackPage items next
  pub page : IsBackPage memory log upto items next

-- What a command replies at its point, where the memory and the log are these: by its key's value, or with a page of either direction.
abbrev pub RepliesAt : Memory → List Update → Command → Reply → Type 0
RepliesAt memory log command answer =
    (reply_of command (logged_value log (command_key command)) ≡ Some answer) ⊎ ShowsPage memory log command answer ⊎ ShowsBack memory log command answer

-- Nothing is due at the leaf that has the key: it is a base alone, with fewer than 16 items. A base alone isn't removed.
pub record IsTidy (memory : Memory) (key : List ℕ) : Type 0 where
  pub leaf : LivePage
  pub stands : IsLeafOf memory key leaf
  pub base : BasePage
  pub alone : leaf.chain ≡ Base base ∷ []
  pub few : length base.items < 16

module _ (limits : Limits) (entries : List Entry) where
  -- The operation has read each word of the free PIDs as 0, or each word of the free rows that have room for any record,
  -- which are all where all rows have one width.
  abbrev pub FindsNothingFree : Operation → Type 0
  FindsNothingFree operation = ((word : ℕ) → word < limits.pids / 64 → (n : ℕ) × TakesOwnStep entries operation n (PidBits word) (Number 0))
      ⊎ ((word : ℕ) → limits.wide_from / 64 ≤ word → word < limits.rows / 64 → (n : ℕ) × TakesOwnStep entries operation n (RowBits word) (Number 0))

  -- At an own step before this one the operation read the slot of a page above the leaf, which was not removed and held the
  -- leaf back.
  pub record WasHeldBack (operation : Operation) (n : ℕ) (leaf : LivePage) : Type 0 where
    pub step : ℕ
    pub before : step < n
    pub parent : ℕ
    pub row : ℕ
    pub own : TakesOwnStep entries operation step (Slot parent) (Number row)
    pub chain : List Record
    pub stood : IsChainOf (memory_at limits entries step) parent chain
    pub alive : is_removed chain ≡ false
    pub holds : HoldsBack chain leaf.pid (low_in leaf.chain)

  -- The operation is a tidying, and nothing was due at its key's leaf at one of its own steps; a small leaf is page 1, or was
  -- held back.
  pub record FindsTidy (operation : Operation) : Type 0 where
    pub key : List ℕ
    pub asks : operation.command ≡ Tidy key
    pub step : ℕ
    pub own : IsOwnStep entries operation step
    pub tidy : IsTidy (memory_at limits entries step) key
    pub back : tidy.leaf.pid ≢ 1 → length tidy.base.items ≤ 4 → WasHeldBack operation step tidy.leaf

  -- By the log up to a point of its own the map replied it.
  abbrev pub RepliesAtPoint : List Bool → Operation → Reply → Type 0
  RepliesAtPoint points operation answer = (n : ℕ) × IsOwnStep entries operation n × IsPoint points n × RepliesAt (memory_at limits entries n) (log_at entries points n) operation.command answer

  -- What the reply says of the operation.
  abbrev pub IsTrueReply : List Bool → Operation → Reply → Type 0
  IsTrueReply points operation reply.Full = IsTrue (is_writer operation.command) × FindsNothingFree operation
  IsTrueReply points operation reply.Tidied = FindsTidy operation
  IsTrueReply points operation (reply.Value value) = RepliesAtPoint points operation (reply.Value value)
  IsTrueReply points operation reply.None = RepliesAtPoint points operation reply.None
  IsTrueReply points operation reply.Inserted = RepliesAtPoint points operation reply.Inserted
  IsTrueReply points operation (reply.Exists value) = RepliesAtPoint points operation (reply.Exists value)
  IsTrueReply points operation reply.Set = RepliesAtPoint points operation reply.Set
  IsTrueReply points operation (reply.Replaced value) = RepliesAtPoint points operation (reply.Replaced value)
  IsTrueReply points operation (reply.Deleted value) = RepliesAtPoint points operation (reply.Deleted value)
  IsTrueReply points operation reply.Absent = RepliesAtPoint points operation reply.Absent
  IsTrueReply points operation reply.Swapped = RepliesAtPoint points operation reply.Swapped
  IsTrueReply points operation (reply.Differs value) = RepliesAtPoint points operation (reply.Differs value)
  IsTrueReply points operation (reply.Page items next) = RepliesAtPoint points operation (reply.Page items next)
  IsTrueReply points operation (reply.BackPage items next) = RepliesAtPoint points operation (reply.BackPage items next)

  pub record IsAnswered (points : List Bool) : Type 0 where
    pub each : (operation : Operation) (n : ℕ) (answer : Reply) → IsOperation entries operation → Finishes entries operation n answer → IsTrueReply points operation answer
