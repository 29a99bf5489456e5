-- The taking of one free number: a PID or a row.
use Rattle.std.specs.Prelude.{◌≡◌, ◌<◌, ◌≤◌, ◌*◌, ◌/◌, ◌-◌, ◌+◌, ℕ, zero, suc, ltb, ◌==◌, ◌%◌, Bool, true, false, if◌then◌else◌, Option, IsTrue, ⊤}
use Rattle.std.specs.Int.{trailing_zeros, w64}
use Rattle.tree_limits.specs.declared.limits.Limits.{Limits}
use Rattle.bw_model.specs.declared.step.Step.{Step as StepOf}
use Rattle.bw_model.specs.declared.step.Step.TheVariants as step
use Rattle.bw_model.specs.declared.step.Answer.{Answer}
use Rattle.bw_model.specs.declared.step.Answer.TheVariants.{Number, Whether}
use Rattle.bw_model.specs.declared.step.Told.{Told}
use Rattle.bw_model.specs.declared.step.Told.TheVariants as told
use Rattle.deltas.specs.declared.record.Record.{Record}
use Rattle.traces.specs.discipline.Fitting.{Fits}
use Rattle.traces.specs.discipline.Knowledge.{Asked, Knowledge}
use Rattle.traces.specs.discipline.Recalled.{Recalled}
use Rattle.change_machine.specs.declared.taking.Found.{Found}
use Rattle.change_machine.specs.declared.taking.Found.TheVariants.{Not, Taken, Full}
use Rattle.change_machine.specs.declared.taking.Kind.{Kind}
use Rattle.change_machine.specs.declared.taking.Kind.TheVariants.{Pid, Row}
use Rattle.change_machine.specs.declared.taking.Taking.{Taking}
use Rattle.change_machine.specs.declared.taking.Taking.TheVariants.{Bits, Take}

-- how many numbers of a kind there are
abbrev pub count_of : Limits → Kind → ℕ
count_of limits Pid = limits.pids
count_of limits Row = limits.rows

-- the words of the kind that were read as 0
abbrev pub full_words : Asked → Kind → ℕ → Bool
full_words asked Pid = asked.no_pids
full_words asked Row = asked.no_rows

-- the words of the kind as they were read last
abbrev pub recalled_words : Recalled → Kind → ℕ → Option ℕ
recalled_words r Pid = r.pids
recalled_words r Row = r.rows

-- The words among which a taking begins that looks at words from word `from` on: those of the PIDs, or of the rows that are as wide as the ones
-- of that word. It continues among those of wider rows.
abbrev pub words_until : Limits → Kind → ℕ → ℕ
words_until limits Pid from = limits.pids / 64
words_until limits Row from =
    if ltb from (limits.narrow_rows / 64) then limits.narrow_rows / 64 else if ltb from (limits.wide_from / 64) then limits.wide_from / 64 else limits.rows / 64

-- Where a taking begins: at word `from`, and in a large tree as many words behind it as `near` says, the count of the actor, which begins at word
-- `from` again behind the last one. One that began at another word continues at word `from` after the last one.
abbrev pub first_word : Limits → Kind → ℕ → ℕ → ℕ
first_word limits kind from near = from + (if limits.is_large then near % (words_until limits kind from - from) else 0)

abbrev pub begun_at : Limits → Kind → ℕ → ℕ → Taking
begun_at limits kind from near = Bits kind from (first_word limits kind from near) (first_word limits kind from near == from)

-- the step that a taking has asked for: it reads a word of free bits, or takes a number
abbrev pub wanted_number : Taking → StepOf Record
wanted_number (Bits Pid from word whole) = step.PidBits word
wanted_number (Bits Row from word whole) = step.RowBits word
wanted_number (Take Pid from number whole) = step.TakePid number
wanted_number (Take Row from number whole) = step.TakeRow number

abbrev pub kind_of : Taking → Kind
kind_of (Bits kind from word whole) = kind
kind_of (Take kind from number whole) = kind

-- the word from which on it looks for a number
abbrev pub from_of : Taking → ℕ
from_of (Bits kind from word whole) = from
from_of (Take kind from number whole) = from

-- the word up to which it has read each word as 0, from that one on: none where it began at another one
abbrev pub word_read : Taking → ℕ
word_read (Bits kind from word whole) = if whole then word else from
word_read (Take kind from number whole) = if whole then number / 64 else from

-- the word, or the number, is there
abbrev pub IsSoundTaking : Limits → Taking → Type 0
IsSoundTaking limits (Bits kind from word whole) = (from ≤ word) × (64 * word < count_of limits kind)
IsSoundTaking limits (Take kind from number whole) = (64 * from ≤ number) × (number < count_of limits kind)

-- Each word of the kind from the first one on and below the second one was read as 0.
abbrev pub AreFull : Asked → Kind → ℕ → ℕ → Type 0
AreFull asked kind from word = (below : ℕ) → from ≤ below → below < word → IsTrue (full_words asked kind below)

-- the first word of the numbers that will do for each need
abbrev pub least_word : Limits → Kind → ℕ
least_word limits Pid = 0
least_word limits Row = limits.wide_from / 64

-- Each word of the kind was read as 0: of the rows those that have room for any record.
abbrev pub AllFull : Limits → Asked → Kind → Type 0
AllFull limits asked kind = AreFull asked kind (least_word limits kind) (count_of limits kind / 64)

-- how many words of free bits there are, and twice as many, with the takes
abbrev pub most_words : Limits → ℕ
most_words limits = limits.pids / 64 + limits.rows / 64

unfoldable pub most_reads : Limits → ℕ
most_reads limits = 2 * most_words limits + 2

-- how many steps a taking takes at most, but for those that a cause pays for
abbrev pub number_left : Limits → Taking → ℕ
number_left limits (Bits kind from word whole) = if whole then suc (most_words limits) - word else most_reads limits - word
number_left limits (Take kind from number whole) = 1

-- where the words end that a taking reads before it begins anew, or is at its end
abbrev pub words_end : Limits → Kind → ℕ → Bool → ℕ
words_end limits kind from whole = if whole then count_of limits kind / 64 else words_until limits kind from

-- How a taking goes on: from a word that is 0 to the next one, if there is one; from another one to its lowest free number; after a
-- take that missed it reads the same word again.
abbrev pub found_after : Limits → Taking → Answer Record → Found
found_after limits (Bits kind from word whole) (Number zero) =
    if ltb (suc word) (words_end limits kind from whole) then Not (Bits kind from (suc word) whole) else if whole then Full kind else Not (Bits kind from from true)
found_after limits (Bits kind from word whole) (Number (suc bits)) = Not (Take kind from (64 * word + trailing_zeros w64 (suc bits)) whole)
found_after limits (Take kind from number whole) (Whether true) = Taken kind number
found_after limits (Take kind from number whole) (Whether false) = Not (Bits kind from (number / 64) whole)
found_after limits taking told = Full (kind_of taking)

-- How the actor's count goes on, by which its next takings begin where it took last: by 1 with a word that was read as 0, and far away with a take
-- that missed, since another actor takes there.
abbrev pub near_after : ℕ → Taking → Answer Record → ℕ
near_after near (Bits kind from word whole) (Number zero) = (near + 1) % 4294967296
near_after near (Take kind from number whole) (Whether false) = (near + 2654435761) % 4294967296
near_after near taking told = near

-- The number, or the word, is there, and is none below word `from`.
abbrev pub IsSoundFound : Limits → ℕ → Found → Type 0
IsSoundFound limits from (Not taking) = IsSoundTaking limits taking × (from_of taking ≡ from)
IsSoundFound limits from (Taken kind number) = (0 < number) × (number < count_of limits kind) × (64 * from ≤ number)
IsSoundFound limits from (Full kind) = ⊤

-- It is told whether a step went.
abbrev pub TellsWhether : Told → Type 0
TellsWhether (told.Whether went) = ⊤
TellsWhether told = ⊥

-- Something is known that the answer fits.
pub record FitsTaking (limits : Limits) (taking : Taking) (told : Answer Record) : Type 0 where
  pub k : Knowledge
  pub fits : Fits limits k (wanted_number taking) told
