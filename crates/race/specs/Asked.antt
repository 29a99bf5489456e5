-- What the lines of a race ask for.
use Rattle.std.specs.Prelude.{◌≡◌, ℕ, ◌+◌, ◌<◌, ◌⊎◌, List, [], ◌∷◌, ◌++◌, length}
use Rattle.shell_lines.specs.declared.race_line.JobCommand.{JobCommand}
use Rattle.shell_lines.specs.Request.{IsShortCommand}
use Rattle.shell_lines.specs.RaceLine.{SaysOfJob}
use Rattle.bw_shell.specs.declared.refusal.Refusal.{Refusal}
use Rattle.bw_shell.specs.declared.refusal.Refusal.TheVariants.{TooLong, Malformed, Memory}

-- The lines ask for these commands of jobs, one a line, in order; an empty line asks for none.
unfoldable pub AskFor : List (List ℕ) → List JobCommand → Type 0
AskFor [] asked = asked ≡ []
AskFor ([] ∷ lines) asked = AskFor lines asked
AskFor ((b ∷ bs) ∷ lines) [] = ⊥
AskFor ((b ∷ bs) ∷ lines) (asks ∷ asked) = SaysOfJob (b ∷ bs) asks × IsShortCommand asks.command × AskFor lines asked

-- Behind these commands the line asks for one more, or for none where it is empty.
abbrev pub AsksBehind : List JobCommand → List ℕ → List JobCommand → Type 0
AsksBehind asked line more = (own : List JobCommand) × AskFor (line ∷ []) own × (more ≡ asked ++ own)

-- Why a line is refused: first that it is outside the grammar, then that a key or value is too long, then that memory was refused.
abbrev pub RefusesJobLine : List ℕ → Refusal → Type 0
RefusesJobLine line refusal =
    ((refusal ≡ Malformed) × ((asks : JobCommand) → SaysOfJob line asks → ⊥))
    ⊎ ((refusal ≡ TooLong) × (asks : JobCommand) × SaysOfJob line asks × (IsShortCommand asks.command → ⊥))
    ⊎ ((refusal ≡ Memory) × (asks : JobCommand) × SaysOfJob line asks × IsShortCommand asks.command)

-- The first line that is refused has this number, from 1, and is refused for this reason; empty lines are counted.
abbrev pub RefuseAt : List (List ℕ) → ℕ → Refusal → Type 0
RefuseAt lines number refusal =
    (front : List (List ℕ)) × (line : List ℕ) × (behind : List (List ℕ)) × (lines ≡ front ++ line ∷ behind)
    × ((asked : List JobCommand) × AskFor front asked) × (number ≡ length front + 1) × (0 < length line) × RefusesJobLine line refusal
