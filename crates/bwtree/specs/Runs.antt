-- What the programs do, from what they read to what they write.
use Rattle.std.specs.Prelude.{ℕ, List, Bool, Option}
use Rattle.tree_limits.specs.declared.limits.Limits.{Limits}
use Rattle.shell_lines.specs.declared.request.Language.TheVariants as language
use Rattle.shell_options.specs.declared.settings.Program.{Program}
use Rattle.shell_options.specs.declared.settings.Program.TheVariants.{Script, Weave, Draw, Film, Race}
use Rattle.shell_options.specs.declared.settings.Settings.{Settings}
use Rattle.shell_options.specs.Settings.{AreLimitsOf}
use Rattle.bw_shell.specs.Weave.{IsWholeRun}
use Rattle.drawing.specs.Drawings.{IsWholeDrawing}
use Rattle.filming.specs.Films.{IsWholeFilm}
use Rattle.race.specs.Race.{IsRace}

-- What a program does: what it takes from its input, what it writes for it, and its status.
abbrev pub IsProgramRun : Program → Limits → Option (List ℕ) → Option (List ℕ) → Bool → Option (List ℕ) → Option (List ℕ) → Bool → ℕ → Type 0
IsProgramRun Script = IsWholeRun language.Script
IsProgramRun Weave = IsWholeRun language.Weave
IsProgramRun Draw = IsWholeDrawing
IsProgramRun Film = IsWholeFilm
IsProgramRun Race = IsRace

-- The program that the settings name ran so, on a tree of exactly their limits.
pub record HasRunProgram (settings : Settings) (in_old in_new : Option (List ℕ)) (read_failed : Bool) (out_old out_new : Option (List ℕ)) (write_failed : Bool) (status : ℕ) : Type 0 where
  pub limits : Limits
  pub are_of : AreLimitsOf settings limits
  pub runs : IsProgramRun settings.program limits in_old in_new read_failed out_old out_new write_failed status
