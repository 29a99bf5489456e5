-- What a line of a race asks for, as a function, is what the grammar says.
use Rattle.std.proofs.Common.{◌≡◌, ℕ, ◌≤◌, ◌<◌, List, [], ◌∷◌, length, refl, sym, ap, ◌∙◌, arith, inl, inr, Some, Result, Ok, Err, true, nat_lt, IfOk, option_map, subst}
use Rattle.std.specs.Option.{option_and_then}
use Rattle.std.proofs.lemmas.Bool.Decides.{nat_tests}
use Rattle.shell_lines.specs.declared.race_line.JobCommand.{JobCommand}
use Rattle.shell_lines.specs.declared.token.LineError.{LineError}
use Rattle.shell_lines.specs.declared.token.LineError.TheVariants.{Malformed, TooLong}
use Rattle.shell_lines.specs.Fields.{fields_of}
use Rattle.shell_lines.specs.Number.{number_of}
use Rattle.shell_lines.specs.Reading.{command_in}
use Rattle.shell_lines.specs.Request.{IsShortCommand}
use Rattle.shell_lines.specs.RaceLine.{GivesJobCommand, SaysOfJob, job_command_in, job_number, of_job}
use Rattle.shell_lines.proofs.Requested.{map_some, then_some, command_is, is_command}
use Rattle.shell_lines.proofs.Tokens.{chosen, some_is}

is_job : (n m : ℕ) → job_number n ≡ Some m → (n ≡ m) × (m < 4096)
is_job n m h =
    elim (chosen (nat_lt n 4096) _ _ (Some m) h) [
      | inl p ↦ let same = some_is n m p.1 in let low : n < 4096 = grind (arith, nat_tests, p.0) in (same, rw (← same) low)
      | inr out ↦ cc out.1
    ]

job_is : (n : ℕ) → n < 4096 → job_number n ≡ Some n
job_is n low = let e : nat_lt n 4096 ≡ true = grind (arith, nat_tests, low) in rw e refl

says : (line : List ℕ) (fields : List (List ℕ)) (asks : JobCommand) → length line ≤ 1024 → fields_of line ≡ fields → job_command_in fields ≡ Some asks → SaysOfJob line asks
unfolding job_command_in
says line [] asks short is h = cc h
says line (number ∷ rest) asks short is h =
    let j = then_some (λ job. option_map (of_job job) (command_in rest)) (option_and_then job_number (number_of number)) asks h in
    let n = then_some job_number (number_of number) j.0 j.1 in
    let m = is_job n.0 j.0 n.2 in
    let c = map_some (of_job j.0) (command_in rest) asks j.2 in
    subst (SaysOfJob line) c.2 (short, number, rest, is, n.1 ∙ ap Some m.0, m.1, command_is rest c.0 c.1)

is_said : (line : List ℕ) (asks : JobCommand) → SaysOfJob line asks → job_command_in (fields_of line) ≡ Some asks
unfolding job_command_in
is_said line asks h = rw (h.3, h.4, job_is asks.job h.5, is_command h.2 asks.command h.6) refl

pub line_ok : (line : List ℕ) (r : Result JobCommand LineError) → length line ≤ 1024 → GivesJobCommand r (job_command_in (fields_of line))
    → IfOk r (λ asks. SaysOfJob line asks × IsShortCommand asks.command)
line_ok line (Ok asks) short h = (says line (fields_of line) asks short refl h.0, h.1)
line_ok line (Err e) short h = tt

pub line_malformed : (line : List ℕ) (r : Result JobCommand LineError) → GivesJobCommand r (job_command_in (fields_of line)) → r ≡ Err Malformed
    → (asks : JobCommand) → SaysOfJob line asks → ⊥
line_malformed line (Ok a) h e asks said = cc e
line_malformed line (Err Malformed) h e asks said = cc (sym h ∙ is_said line asks said)
line_malformed line (Err TooLong) h e asks said = cc e

pub line_too_long : (line : List ℕ) (r : Result JobCommand LineError) → length line ≤ 1024 → GivesJobCommand r (job_command_in (fields_of line)) → r ≡ Err TooLong
    → (asks : JobCommand) × SaysOfJob line asks × (IsShortCommand asks.command → ⊥)
line_too_long line (Ok asks) short h e = cc e
line_too_long line (Err Malformed) short h e = cc e
line_too_long line (Err TooLong) short h e = (h.0, says line (fields_of line) h.0 short refl h.1, h.2)

pub one_job_command : (line : List ℕ) (a b : JobCommand) → SaysOfJob line a → SaysOfJob line b → a ≡ b
one_job_command line a b p q = some_is a b (sym (is_said line a p) ∙ is_said line b q)
