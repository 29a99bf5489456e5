-- Entries as a trace keeps them: an operation's command and its reply stand in lists of their own, and its entries have their places.
use Rattle.std.specs.Prelude.{◌<◌, ◌+◌, ℕ, List, [], None, Some, map, min, slice_index_or}
use Rattle.bw_model.specs.declared.command.Command.{Command}
use Rattle.bw_model.specs.declared.command.Command.TheVariants.{Page}
use Rattle.bw_model.specs.declared.command.Reply.{Reply}
use Rattle.bw_model.specs.declared.command.Reply.TheVariants as reply
use Rattle.bw_model.specs.declared.step.Answer.TheVariants.{Done}
use Rattle.bw_model.specs.declared.step.Step.TheVariants as step
use Rattle.deltas.specs.declared.record.Record.{Record}
use Rattle.traces.specs.declared.trace.Entry.{Entry}
use Rattle.traces.specs.declared.trace.Entry.TheVariants as entry
use Rattle.core_memory.specs.declared.entries.Happening.{Happening}
use Rattle.core_memory.specs.declared.entries.Happening.TheVariants.{Begin, Step, Leave}

-- the entries, and how many there may be without a growth of memory
pub record Entries : Type 0 where
  pub items : List Entry
  pub room : ℕ

-- the command and the reply at a place; past the end some other one
abbrev pub command_listed : List Command → ℕ → Command
command_listed commands place = slice_index_or commands place (Page [])

abbrev pub reply_listed : List Reply → ℕ → Reply
reply_listed replies place = slice_index_or replies place reply.None

-- the entry of what happened
abbrev pub entry_of : List Command → List Reply → Happening Record → Entry
entry_of commands replies (Begin actor place) = entry.Begin actor (command_listed commands place)
entry_of commands replies (Step actor step answer) = entry.Step actor step answer None
entry_of commands replies (Leave actor place) = entry.Step actor step.Leave Done (Some (reply_listed replies place))

abbrev pub entries_of : List Command → List Reply → List (Happening Record) → List Entry
entries_of commands replies happened = map (entry_of commands replies) happened

-- Of so many commands and replies, what happened has one.
abbrev pub HasCommandOrReply : ℕ → ℕ → Happening Record → Type 0
HasCommandOrReply commands replies (Begin actor place) = place < commands
HasCommandOrReply commands replies (Step actor step answer) = Unit {0}
HasCommandOrReply commands replies (Leave actor place) = place < replies

-- How many entries there may be: those that there are, and as many as each of the three lists takes.
abbrev pub room_of : ℕ → ℕ → ℕ → ℕ → ℕ
room_of count entries commands replies = count + min entries (min commands replies)
