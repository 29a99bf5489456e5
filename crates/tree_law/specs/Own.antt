-- What is an actor's own: rows that nobody else has or learns, and what lasts whatever the others do.
use Rattle.std.specs.Prelude.{◌≡◌, ◌<◌, ℕ, List, Some, true}
use Rattle.tree_limits.specs.declared.limits.Limits.{Limits}
use Rattle.deltas.specs.declared.record.Record.{Record}
use Rattle.traces.specs.declared.trace.Entry.{Entry}
use Rattle.traces.specs.discipline.Discipline.{IsOwn}
use Rattle.traces.specs.discipline.Disciplined.{Extends}
use Rattle.traces.specs.discipline.Knowledge.{Written, knows}
use Rattle.traces.specs.discipline.Recalled.{recalls}
use Rattle.traces.specs.trace.Trace.{command_of, memory_of}
use Rattle.tree_law.specs.Direct.{Accounts}
use Rattle.tree_law.specs.State.{IsState}

-- A row that an actor has taken has no other owner, and nobody has learnt it; it has what it has placed there. A row that one has learnt
-- has a record. Both are below the limit. A record that one has read stands, and who read it is inside and has learnt its row.
pub record AreSeparate (limits : Limits) (entries : List Entry) : Type 0 where
  pub one_owner : (actor other row : ℕ) → IsOwn ((knows entries actor).own.rows row) → IsOwn ((knows entries other).own.rows row) → actor ≡ other
  pub unlearnt : (actor other row : ℕ) → IsOwn ((knows entries actor).own.rows row) → (knows entries other).read.learnt row ≡ true → ⊥
  pub own_below : (actor row : ℕ) → IsOwn ((knows entries actor).own.rows row) → row < limits.rows
  pub learnt_below : (actor row : ℕ) → (knows entries actor).read.learnt row ≡ true → row < limits.rows
  pub written : (actor row : ℕ) (content : Record) → (knows entries actor).own.rows row ≡ Written content → (memory_of limits entries).rows row ≡ Some content
  pub placed : (actor row : ℕ) → (knows entries actor).read.learnt row ≡ true → (content : Record) × ((memory_of limits entries).rows row ≡ Some content)
  pub stands : (actor row : ℕ) (content : Record) → (knows entries actor).read.seen row ≡ Some content → (memory_of limits entries).rows row ≡ Some content
  pub seen_learnt : (actor row : ℕ) (content : Record) → (knows entries actor).read.seen row ≡ Some content → (knows entries actor).read.learnt row ≡ true
  pub learnt_inside : (actor row : ℕ) → (knows entries actor).read.learnt row ≡ true → (knows entries actor).inside ≡ true

-- What an actor knows and recalls, the command that it has under way, and the steps that it can afford are as they were.
pub record Lasts (limits : Limits) (actor : ℕ) (seen run : List Entry) : Type 0 where
  pub known : knows run actor ≡ knows seen actor
  pub recalled : recalls run actor ≡ recalls seen actor
  pub command : command_of run actor ≡ command_of seen actor
  pub affords : (left : ℕ) → Accounts limits seen actor left → Accounts limits run actor left

abbrev pub RowsAreApart : Type 0
RowsAreApart = (limits : Limits) (entries : List Entry) → IsState limits entries → AreSeparate limits entries

-- what is an actor's own outlasts the entries of others
abbrev pub OwnLasts : Type 0
OwnLasts = (limits : Limits) (actor : ℕ) (seen run : List Entry) → Extends actor seen run → Lasts limits actor seen run
