-- What a run over an input does.
use Rattle.std.specs.Prelude.{◌≡◌, ℕ, ◌+◌, ◌⊎◌, ◌↔◌, List, [], ◌∷◌, ◌++◌, length, Bool, true, false, not, ◌||◌, MatchBool, Option, None, Result, is_some, IsSome}
use Rattle.std.specs.Io.KnownBytes.{Consumes, IsAtEnd}
use Rattle.tree_limits.specs.declared.limits.Limits.{Limits}
use Rattle.shell_lines.specs.declared.request.Language.{Language}
use Rattle.shell_lines.specs.declared.request.Request.{Request}
use Rattle.bw_shell.specs.Lines.{lines_of, Splits}
use Rattle.bw_shell.specs.declared.refusal.Refusal.{Refusal}
use Rattle.bw_shell.specs.declared.refusal.Refusal.TheVariants.{NotOpened}
use Rattle.bw_shell.specs.declared.refusal.RefusedLine.{RefusedLine}
use Rattle.bw_shell.specs.Text.{last_line, lone_refusal_text}
use Rattle.byte_streams.specs.Output.{Sink, Prints, Writes}
use Rattle.bw_shell.specs.Transcript.{Transcript, RequestTold, DrawTold, LineTold}
use Rattle.bw_shell.specs.Turns.{Trace, IsOneMap, opening_trace}

-- With part of line n in hand the bytes are read: their whole lines are run, and part' is in hand.
pub record Weaves (language : Language) (n : ℕ) (before : Trace) (part bytes : List ℕ) (n' : ℕ) (after : Trace) (part' text : List ℕ) : Type 0 where
  pub lines : List (List ℕ)
  pub splits : Splits (part ++ bytes) lines part'
  pub says : Transcript language n before lines after text None
  pub count : n' ≡ n + length lines

-- Whatever follows the bytes, the text is a transcript of the first lines.
abbrev pub StopsAmong : Language → ℕ → Trace → List ℕ → List ℕ → Trace → List ℕ → Option RefusedLine → Type 0
StopsAmong language n before part bytes after text refused =
    (rest : List ℕ) → (front : List (List ℕ)) × (others : List (List ℕ)) × (lines_of ((part ++ bytes) ++ rest) ≡ front ++ others) × Transcript language n before front after text refused

-- what is asked for was run, and this is shown
abbrev pub RequestRuns : Trace → Request → Trace → Sink → Sink → Result (Unit {0}) Refusal → Type 0
RequestRuns before request after old new result = (text : List ℕ) × RequestTold before request result after text × Prints old new text

-- an actor that was drawn took its turn, and this is shown
abbrev pub DrawRuns : Trace → ℕ → Trace → Sink → Sink → Result (Unit {0}) Refusal → Type 0
DrawRuns before actor after old new result = (text : List ℕ) × DrawTold before actor result after text × Prints old new text

-- what a line asks for was run, and this is shown
abbrev pub AskedRuns : Language → Trace → List ℕ → Trace → Sink → Sink → Result (Unit {0}) Refusal → Type 0
AskedRuns language before line after old new result = (text : List ℕ) × LineTold language before line result after text × Prints old new text

-- a line was run, and what it prints is shown, but for the refused line
abbrev pub LineRuns : Language → ℕ → Trace → List ℕ → Trace → Sink → Sink → Option RefusedLine → Type 0
LineRuns language n before line after old new refused = (text : List ℕ) × Transcript language n before (line ∷ []) after text refused × Prints old new text

-- Bytes were read with part of line n in hand: all were run, or the run stops among them.
abbrev pub Feeds : Language → ℕ → Trace → List ℕ → List ℕ → ℕ → Trace → List ℕ → Sink → Sink → Option RefusedLine → Type 0
Feeds language n before part bytes n' after part' old new refused = (text : List ℕ) × Prints old new text
    × MatchBool (is_some refused || new.failed) (StopsAmong language n before part bytes after text refused) (Weaves language n before part bytes n' after part' text)

-- The text is a transcript of what is read, as far as it goes, from this trace on.
abbrev pub IsTranscriptFrom : Language → Trace → Option (List ℕ) → List ℕ → Bool → Trace → List ℕ → Option RefusedLine → Bool → Type 0
IsTranscriptFrom language before left taken read_failed after text refused write_failed =
    -- the input was read to its end
    ((read_failed ≡ false) × IsAtEnd left × Transcript language 1 before (lines_of taken) after text refused)
    -- a read failed behind these whole lines
    ⊎ ((read_failed ≡ true) × (refused ≡ None) × (lines : List (List ℕ)) × (part : List ℕ) × Splits taken lines part × Transcript language 1 before lines after text None)
    -- a line was refused, or a write failed; whatever follows isn't read
    ⊎ ((read_failed ≡ false) × (IsSome refused ⊎ (write_failed ≡ true)) × StopsAmong language 1 before [] taken after text refused)

-- all reads of a run: what the lines print is shown, but for the refused line
pub record HasRun (language : Language) (before : Trace) (in_old in_new : Option (List ℕ)) (read_failed : Bool) (old new : Sink) (after : Trace) (refused : Option RefusedLine) : Type 0 where
  pub taken : List ℕ
  pub text : List ℕ
  pub reads : Consumes in_old in_new taken
  pub says : IsTranscriptFrom language before in_new taken read_failed after text refused new.failed
  pub shows : Prints old new text

-- The text is a transcript of what is read, as far as it goes, of turns that took effect one at a time, on one ordered map; and the
-- refused line, if there is one.
abbrev pub IsTranscriptOf : Language → Limits → Option (List ℕ) → List ℕ → Bool → Trace → List ℕ → Bool → Bool → Type 0
IsTranscriptOf language limits left taken read_failed after text refused write_failed =
    -- no core could be opened
    ((taken ≡ []) × (read_failed ≡ false) × (refused ≡ true) × (after ≡ opening_trace limits) × (text ≡ lone_refusal_text NotOpened))
    ⊎ ((printed : List ℕ) × (line : Option RefusedLine) × IsTranscriptFrom language (opening_trace limits) left taken read_failed after printed line write_failed
    × IsOneMap after × (text ≡ printed ++ last_line line) × (refused ≡ is_some line))

-- The whole run: what is taken from the reader, the core's trace, the text for them, and how much of it was written.
pub record IsWholeRun (language : Language) (limits : Limits) (in_old in_new : Option (List ℕ)) (read_failed : Bool) (out_old out_new : Option (List ℕ)) (write_failed : Bool) (status : ℕ) : Type
    0 where
  pub taken : List ℕ
  pub after : Trace
  pub text : List ℕ
  pub refused : Bool
  pub reads : Consumes in_old in_new taken
  pub says : IsTranscriptOf language limits in_new taken read_failed after text refused write_failed
  pub writes : Writes out_old out_new text (not write_failed)
  pub status_is : (status ≡ 0) ↔ ((read_failed ≡ false) × (write_failed ≡ false) × (refused ≡ false))
  pub status_else : (status ≡ 0) ⊎ (status ≡ 1)
