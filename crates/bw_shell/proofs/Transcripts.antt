-- Laws of transcripts.
use Rattle.std.proofs.Common.{◌≡◌, ℕ, ◌+◌, ◌<◌, List, [], ◌∷◌, ◌++◌, length, refl, sym, ap, ◌∙◌, arith, add-one, inl, inr, Option, Some, None, Result, Ok, Err, IfErr, OnOk}
use Rattle.std.proofs.lemmas.List.{append_assoc, append-nil}
use Rattle.bw_model.specs.declared.command.Command.{Command}
use Rattle.bw_model.specs.declared.step.Link.{Link}
use Rattle.traces.specs.declared.trace.Turn.TheVariants.{Begin as BeginTurn}
use Rattle.step_core.specs.declared.event.Event.TheVariants as event
use Rattle.bw_shell.specs.Turns.{Trace, Refuses, TakesTurn}
use Rattle.shell_lines.specs.Request.{Says, IsShortRequest, until_done}
use Rattle.shell_lines.specs.declared.request.Language.{Language}
use Rattle.shell_lines.specs.declared.request.Request.{Request}
use Rattle.shell_lines.specs.declared.request.Request.TheVariants.{Begin, Finish, Run}
use Rattle.bw_shell.specs.declared.turns.Progress.{Progress}
use Rattle.bw_shell.specs.declared.turns.Progress.TheVariants.{GoesOn}
use Rattle.bw_shell.specs.declared.refusal.Refusal.{Refusal}
use Rattle.bw_shell.specs.declared.refusal.RefusedLine.{RefusedLine}
use Rattle.bw_shell.specs.Text.{finished_text}
use Rattle.bw_shell.specs.Transcript.{StepsOn, TakesOne, TakesUpTo, RefusedWithin, Performs, RefusesRequest, RefusesLine, Transcript, LineTold, RequestTold}

pub no_steps : (until : Option Link) (m : Trace) (actor : ℕ) → StepsOn until m actor 0 m
unfolding StepsOn
no_steps until m actor = refl

pub steps_more : (until : Option Link) (m : Trace) (actor n : ℕ) (mid after : Trace) → StepsOn until m actor n mid → TakesOne until mid actor GoesOn after
    → StepsOn until m actor (n + 1) after
unfolding StepsOn
steps_more until m actor n mid after s t = rw (add-one n) (mid, s, t)

-- what `until` and `finish` tell
pub until_told : (m : Trace) (actor : ℕ) (until : Option Link) (after : Trace) (progress : Progress) → TakesUpTo until m actor 100000 progress after
    → Performs m (until_done actor until) after (finished_text actor progress)
until_told m actor None after progress taken = (progress, taken, refl)
until_told m actor (Some link) after progress taken = (progress, taken, refl)

pub until_refused : (m : Trace) (actor : ℕ) (until : Option Link) (after : Trace) (refusal : Refusal) → RefusedWithin until m actor 100000 refusal after
    → RefusesRequest m (until_done actor until) refusal after []
until_refused m actor None after refusal within = (within, refl)
until_refused m actor (Some link) after refusal within = (within, refl)

-- what the begin of an operation tells
pub begun_told : (a b : Trace) (actor : ℕ) (command : Command) (result : Result (Unit {0}) Refusal) → OnOk result (TakesTurn a (BeginTurn actor command) event.Began b)
    → IfErr result (λ refusal. Refuses a (BeginTurn actor command) refusal) → IfErr result (λ refusal. b ≡ a) → RequestTold a (Begin actor command) result b []
begun_told a b actor command (Ok done) begins refuses same = (begins, refl)
begun_told a b actor command (Err refusal) begins refuses same = (refuses, same, refl)

-- a command of a script
pub run_told : (a b c : Trace) (command : Command) (result : Result (Unit {0}) Refusal) (text : List ℕ) → TakesTurn a (BeginTurn 0 command) event.Began b → RequestTold b (Finish 0) result c text
    → RequestTold a (Run command) result c text
run_told a b c command (Ok done) text begun told = (b, begun, told)
run_told a b c command (Err refusal) text begun told = inr (b, begun, told.0, told.1)

-- ---- one line

pub skipped : (language : Language) (n : ℕ) (m : Trace) (line : List ℕ) → length line ≡ 0 → Transcript language n m (line ∷ []) m [] None
unfolding Transcript
skipped language n m [] h = (refl, refl, refl)
skipped language n m (b ∷ bs) h = absurd (omega arith)

pub performed : (language : Language) (n : ℕ) (m : Trace) (line : List ℕ) (request : Request) (after : Trace) (text : List ℕ) → 0 < length line
    → Says language line request → IsShortRequest request → Performs m request after text → Transcript language n m (line ∷ []) after text None
unfolding Transcript
performed language n m [] request after text some says short p = absurd (omega arith)
performed language n m (b ∷ bs) request after text some says short p = inl (request, after, text, [], says, short, p, (refl, refl, refl), sym (append-nil text))

-- line n is refused for this reason
abbrev pub refused_at : ℕ → Refusal → RefusedLine
refused_at n refusal = record { number = n; refusal = refusal }

pub refused : (language : Language) (n : ℕ) (m : Trace) (line : List ℕ) (refusal : Refusal) (after : Trace) (shown : List ℕ) → 0 < length line
    → RefusesLine language m line refusal after shown → Transcript language n m (line ∷ []) after shown (Some (refused_at n refusal))
unfolding Transcript
refused language n m [] refusal after shown some r = absurd (omega arith)
refused language n m (b ∷ bs) refusal after shown some r = inr (refusal, r, refl)

-- what was asked for, as a line of a run
pub asked : (language : Language) (m : Trace) (line : List ℕ) (request : Request) (after : Trace) (result : Result (Unit {0}) Refusal) (text : List ℕ)
    → Says language line request → IsShortRequest request → RequestTold m request result after text → LineTold language m line result after text
asked language m line request after (Ok done) text says short told = (request, says, short, told)
asked language m line request after (Err refusal) text says short told = inr (inr (request, says, short, told))

-- ---- lines behind lines

pub transcript_then : (language : Language) (n : ℕ) (a : Trace) (ls : List (List ℕ)) (b : Trace) (t : List ℕ) (k : ℕ) (ms : List (List ℕ)) (c : Trace) (u : List ℕ) (r : Option RefusedLine)
    → Transcript language n a ls b t None → k ≡ n + length ls → Transcript language k b ms c u r → Transcript language n a (ls ++ ms) c (t ++ u) r
unfolding Transcript
transcript_then language n a [] b t k ms c u r first at second =
    let same : k ≡ n = omega arith in
    rw (first.1, sym first.0, sym same) second
transcript_then language n a ([] ∷ ls) b t k ms c u r first at second = transcript_then language (n + 1) a ls b t k ms c u r first (omega arith) second
transcript_then language n a ((x ∷ xs) ∷ ls) b t k ms c u r (inl p) at second =
    inl (
      p.0,
      p.1,
      p.2,
      p.3 ++ u,
      p.4,
      p.5,
      p.6,
      transcript_then language (n + 1) p.1 ls b p.3 k ms c u r p.7 (omega arith) second,
      ap (λ (l : List ℕ). l ++ u) p.8 ∙ append_assoc p.2 p.3 u,
    )
transcript_then language n a ((x ∷ xs) ∷ ls) b t k ms c u r (inr p) at second = cc p.2
