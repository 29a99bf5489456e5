-- What an actor knows from its own entries.
use Rattle.std.specs.Prelude.{ℕ, zero, suc, ◌==◌, ltb, ◌||◌, List, Option, None, Some, Bool, true, false, if◌then◌else◌}
use Rattle.std.specs.List.{fold}
use Rattle.bw_model.specs.declared.command.Command.{Command}
use Rattle.bw_model.specs.declared.command.Reply.{Reply}
use Rattle.bw_model.specs.declared.step.Step.{Step as StepOf}
use Rattle.bw_model.specs.declared.step.Step.TheVariants.{Slot, Row, Epoch, Announce, PidBits, RowBits, Place, Exchange, TakePid, TakeRow, Enter, Leave, ReusePids, ReuseRows}
use Rattle.bw_model.specs.declared.step.Answer.{Answer}
use Rattle.bw_model.specs.declared.step.Answer.TheVariants.{Number, Content, Whether}
use Rattle.deltas.specs.declared.record.Record.{Record}
use Rattle.deltas.specs.declared.record.Record.TheVariants.{Base, Put, Delete, Split, Term, Hold, Remove, Merge, Unterm}
use Rattle.deltas.specs.Records.{next_row}
use Rattle.deltas.specs.Memory.{replaced_at}
use Rattle.traces.specs.declared.trace.Entry.{Entry}
use Rattle.traces.specs.declared.trace.Entry.TheVariants.{Begin, Step}
use Rattle.tree_limits.specs.Words.{is_among}

-- a row as its actor sees it: not its own, taken, or with what it placed there last
pub data OwnRow : Type 0 where
  Foreign : OwnRow
  Taken : OwnRow
  Written : (content : Record) → OwnRow

-- a page as its actor sees it: not its own, taken, with a row in its slot, or left by its own unterm
pub data OwnPage : Type 0 where
  Other : OwnPage
  Empty : OwnPage
  Ready : (row : ℕ) → OwnPage
  Gone : OwnPage

-- a row or a page that its actor took out of the tree: without a stamp, or with an epoch that was read afterwards and the
-- actors that were since read as outside or in a later epoch
pub data LimboMark : Type 0 where
  Absent : LimboMark
  Unstamped : LimboMark
  Stamped : (epoch : ℕ) (passed : ℕ → Bool) → LimboMark

-- what it has read since it entered last
pub record Readings : Type 0 where
  pub learnt : ℕ → Bool  -- rows whose names it learnt
  pub roots : ℕ → Bool  -- pages read as the root
  pub seen : ℕ → Option Record  -- records
  pub heads : ℕ → Option ℕ  -- slots, as last read in this operation
  pub before : ℕ → ℕ → Option ℕ  -- for each slot, the slots as they had last been read when it was read

-- what it took and has not linked
pub record Belongings : Type 0 where
  pub rows : ℕ → OwnRow
  pub pages : ℕ → OwnPage

-- what it was asked, and how far it has come
pub record Asked : Type 0 where
  pub command : Option Command
  pub linked : Option (Option ℕ)  -- whether this operation linked its update, and, until the next Leave, over which row
  pub no_pids : ℕ → Bool  -- words of free PIDs that it read as 0 in this operation
  pub no_rows : ℕ → Bool  -- words of free rows that it read as 0 in this operation

-- what it took out of the tree and has not freed
pub record Limbos : Type 0 where
  pub epoch : Option ℕ  -- the epoch, as last read
  pub rows : ℕ → LimboMark
  pub pids : ℕ → LimboMark

pub record Knowledge : Type 0 where
  pub inside : Bool
  pub read : Readings
  pub own : Belongings
  pub asked : Asked
  pub limbo : Limbos

abbrev pub unread : Readings
unread = record { learnt = λ row. false; roots = λ page. false; seen = λ row. None; heads = λ page. None; before = λ page other. None }

abbrev pub nothing : Knowledge
nothing = record {
  inside = false;
  read = unread;
  own = record { rows = λ row. Foreign; pages = λ page. Other };
  asked = record { command = None; linked = None; no_pids = λ word. false; no_rows = λ word. false };
  limbo = record { epoch = None; rows = λ row. Absent; pids = λ page. Absent };
}

-- what an actor knows when an operation begins
abbrev pub after_begin : Knowledge → Command → Knowledge
after_begin k command = record k {
  read = record k.read { heads = λ page. None; before = λ page other. None };
  asked = record { command = Some command; linked = None; no_pids = λ word. false; no_rows = λ word. false };
}

abbrev pub learnt_next : Option ℕ → (ℕ → Bool) → ℕ → Bool
learnt_next None learnt = learnt
learnt_next (Some next) learnt = replaced_at next true learnt

-- after the page's slot was read as this row
abbrev pub learn_head : ℕ → ℕ → Knowledge → Knowledge
learn_head page row k = record k {
  read = record k.read {
    before = replaced_at page k.read.heads k.read.before;
    heads = replaced_at page (Some row) k.read.heads;
    learnt = replaced_at row true k.read.learnt;
  };
}

-- Slot 0 has the root's PID. A slot that holds 0 names no row.
abbrev pub learn_slot : ℕ → ℕ → Knowledge → Knowledge
learn_slot zero pid k = record k { read = record k.read { roots = replaced_at pid true k.read.roots } }
learn_slot (suc page) zero k = k
learn_slot (suc page) (suc row) k = learn_head (suc page) (suc row) k

-- no word of bits that is 0 has a free number
abbrev pub learn_word : ℕ → ℕ → (ℕ → Bool) → ℕ → Bool
learn_word word zero words = replaced_at word true words
learn_word word (suc bits) words = words

abbrev pub next_seen : Option Record → Option ℕ
next_seen None = None
next_seen (Some content) = next_row content

-- The row is among the first n from this one on, by the records that were read.
abbrev pub is_on_walk : ℕ → (ℕ → Option Record) → Option ℕ → ℕ → Bool
is_on_walk zero seen start row = false
is_on_walk (suc n) seen None row = false
is_on_walk (suc n) seen (Some first) row = (row == first) || is_on_walk n seen (next_seen (seen first)) row

-- The rows of the chain from this row on, as far as it was read, are out of the tree.
abbrev pub taken_out : (ℕ → Option Record) → ℕ → (ℕ → LimboMark) → ℕ → LimboMark
taken_out seen first limbo row = if is_on_walk 13 seen (Some first) row then Unstamped else limbo row

-- after an epoch was read
abbrev pub with_stamp : ℕ → LimboMark → LimboMark
with_stamp epoch Absent = Absent
with_stamp epoch Unstamped = Stamped epoch (λ actor. false)
with_stamp epoch (Stamped stamp passed) = Stamped stamp passed

-- after an actor's announced epoch was read
abbrev pub passed_by : ℕ → ℕ → LimboMark → LimboMark
passed_by actor announced Absent = Absent
passed_by actor announced Unstamped = Unstamped
passed_by actor announced (Stamped stamp passed) = Stamped stamp (if (announced == 0) || ltb stamp announced then replaced_at actor true passed else passed)

-- after the numbers of the word's bits were freed
abbrev pub after_freeing : ℕ → ℕ → (ℕ → LimboMark) → ℕ → LimboMark
after_freeing word bits limbo n = if is_among word bits n then Absent else limbo n

-- The operation has left: it no more knows over which row its update was linked.
abbrev pub forgotten : Option (Option ℕ) → Option (Option ℕ)
forgotten None = None
forgotten (Some over) = Some None

-- The row is linked: it is the actor's own no more.
abbrev pub handed_over : ℕ → Knowledge → Knowledge
handed_over row k = record k { own = record k.own { rows = replaced_at row Foreign k.own.rows } }

-- the same, and the page goes on
abbrev pub handed_page : ℕ → OwnPage → ℕ → Knowledge → Knowledge
handed_page page now row k = record k { own = record { rows = replaced_at row Foreign k.own.rows; pages = replaced_at page now k.own.pages } }

-- The row has the update: the operation has linked it over the old row.
abbrev pub after_update : ℕ → ℕ → Knowledge → Knowledge
after_update old row k = record k { own = record k.own { rows = replaced_at row Foreign k.own.rows }; asked = record k.asked { linked = Some (Some old) } }

-- The row has a base in the old chain's place.
abbrev pub rebuilt : ℕ → ℕ → Knowledge → Knowledge
rebuilt old row k = record k { own = record k.own { rows = replaced_at row Foreign k.own.rows }; limbo = record k.limbo { rows = taken_out k.read.seen old k.limbo.rows } }

-- An own page's slot is set, or empty again.
abbrev pub set_page : ℕ → OwnPage → Knowledge → Knowledge
set_page page now k = record k { own = record k.own { pages = replaced_at page now k.own.pages } }

-- The page is out of the tree, with its chain.
abbrev pub after_clear : ℕ → ℕ → Knowledge → Knowledge
after_clear page old k = record k {
  own = record k.own { pages = replaced_at page Other k.own.pages };
  limbo = record k.limbo { rows = taken_out k.read.seen old k.limbo.rows; pids = replaced_at page Unstamped k.limbo.pids };
}

-- After a split was linked, the new page and its base are linked too.
abbrev pub split_off : OwnPage → ℕ → ℕ → Knowledge → Knowledge
split_off (Ready base) page row k = handed_page page Other row (handed_over base k)
split_off _ page row k = k

-- After a row with this record was linked over an old one.
abbrev pub linked_over : OwnRow → ℕ → ℕ → Knowledge → Knowledge
linked_over (Written (Base page)) old row k = rebuilt old row k
linked_over (Written (Put put)) old row k = after_update old row k
linked_over (Written (Delete delete)) old row k = after_update old row k
linked_over (Written (Split split)) old row k = split_off (k.own.pages split.page) split.page row k
linked_over (Written (Unterm unterm)) old row k = handed_page unterm.child Gone row k
linked_over (Written (Term term)) old row k = handed_over row k
linked_over (Written (Hold hold)) old row k = handed_over row k
linked_over (Written (Remove remove)) old row k = handed_over row k
linked_over (Written (Merge merge)) old row k = handed_over row k
linked_over Taken old row k = k
linked_over Foreign old row k = k

-- After an exchange of a page's slot to a row won: the slot of an own page is set; on another page the row is linked.
abbrev pub after_filling : OwnPage → ℕ → ℕ → ℕ → Knowledge → Knowledge
after_filling Other page old row k = linked_over (k.own.rows row) old row k
after_filling Empty page old row k = set_page page (Ready row) k
after_filling (Ready base) page old row k = k
after_filling Gone page old row k = k

-- After an exchange of a page's slot to 0 won: an own page that was ready is empty again; one whose term the actor took out is
-- out of the tree, with its chain.
abbrev pub after_emptying : OwnPage → ℕ → ℕ → Knowledge → Knowledge
after_emptying (Ready base) page old k = set_page page Empty k
after_emptying Gone page old k = after_clear page old k
after_emptying _ page old k = k

-- After a new root was linked, its base is linked too.
abbrev pub after_root : OwnPage → ℕ → Knowledge → Knowledge
after_root (Ready base) page k = handed_page page Other base k
after_root _ page k = k

-- After an exchange won: slot, the number that was there, the new number.
abbrev pub after_exchange : ℕ → ℕ → ℕ → Knowledge → Knowledge
after_exchange zero old new k = after_root (k.own.pages new) new k
after_exchange (suc page) old zero k = after_emptying (k.own.pages (suc page)) (suc page) old k
after_exchange (suc page) old (suc row) k = after_filling (k.own.pages (suc page)) (suc page) old (suc row) k

-- After the record in a row was read, it is known, and the name of the row under it.
abbrev pub learn_record : ℕ → Record → Readings → Readings
learn_record row content read = record read {
  seen = replaced_at row (Some content) read.seen;
  learnt = learnt_next (next_row content) read.learnt;
}

-- It is outside: nothing that was read counts.
abbrev pub after_leave : Knowledge → Knowledge
after_leave k = record k { inside = false; read = unread; asked = record k.asked { linked = forgotten k.asked.linked } }

abbrev pub learn : Knowledge → StepOf Record → Answer Record → Knowledge
learn k (Slot page) (Number n) = learn_slot page n k
learn k (Row row) (Content content) = record k { read = learn_record row content k.read }
learn k Epoch (Number epoch) = record k { limbo = record { epoch = Some epoch; rows = λ row. with_stamp epoch (k.limbo.rows row); pids = λ page. with_stamp epoch (k.limbo.pids page) } }
learn k (Announce actor) (Number announced) = record k
    { limbo = record k.limbo { rows = λ row. passed_by actor announced (k.limbo.rows row); pids = λ page. passed_by actor announced (k.limbo.pids page) } }
learn k (PidBits word) (Number bits) = record k { asked = record k.asked { no_pids = learn_word word bits k.asked.no_pids } }
learn k (RowBits word) (Number bits) = record k { asked = record k.asked { no_rows = learn_word word bits k.asked.no_rows } }
learn k (TakePid page) (Whether true) = set_page page Empty k
learn k (TakeRow row) (Whether true) = record k { own = record k.own { rows = replaced_at row Taken k.own.rows } }
learn k (Place row content) answer = record k { own = record k.own { rows = replaced_at row (Written content) k.own.rows } }
learn k (Exchange slot old new) (Whether true) = after_exchange slot old new k
learn k (Enter epoch) answer = record k { inside = true; read = record k.read { learnt = λ row. false } }
learn k Leave answer = after_leave k
learn k (ReusePids word bits) answer = record k { limbo = record k.limbo { pids = after_freeing word bits k.limbo.pids } }
learn k (ReuseRows word bits) answer = record k { limbo = record k.limbo { rows = after_freeing word bits k.limbo.rows } }
learn k step answer = k

abbrev pub going_on : Option Reply → Option Command → Option Command
going_on None command = command
going_on (Some reply) command = None

-- what an actor knows after a step with which it replied, or not
abbrev pub after_reply : Knowledge → Option Reply → Knowledge
after_reply k reply = record k { asked = record k.asked { command = going_on reply k.asked.command } }

abbrev pub knows_after : (ℕ → Knowledge) → Entry → ℕ → Knowledge
knows_after ks (Begin actor command) = replaced_at actor (after_begin (ks actor) command) ks
knows_after ks (Step actor step answer reply) = replaced_at actor (after_reply (learn (ks actor) step answer) reply) ks

-- what each actor knows after the entries
abbrev pub knows : List Entry → ℕ → Knowledge
knows entries = fold knows_after (λ actor. nothing) entries
