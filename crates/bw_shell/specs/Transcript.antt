-- A text is a transcript of lines, for a trace of the core.
use Rattle.std.specs.Prelude.{◌≡◌, ℕ, ◌+◌, ◌<◌, suc, zero, ◌⊎◌, List, [], ◌∷◌, ◌++◌, true, false, Option, Some, None, Result, Ok, Err}
use Rattle.bw_model.specs.declared.step.Link.{Link}
use Rattle.bw_model.specs.Schedules.{drawn, schedule_of}
use Rattle.traces.specs.declared.trace.Turn.TheVariants.{Begin as BeginTurn, Step}
use Rattle.listing.specs.Listed.{IsListing}
use Rattle.step_core.specs.declared.event.Event.{Event}
use Rattle.step_core.specs.declared.event.RunError.{RunError}
use Rattle.step_core.specs.declared.event.Event.TheVariants as event
use Rattle.shell_lines.specs.Request.{Says, IsShortRequest}
use Rattle.shell_lines.specs.declared.request.Language.{Language}
use Rattle.shell_lines.specs.declared.request.Request.{Request}
use Rattle.shell_lines.specs.declared.request.Request.TheVariants.{Begin, Turn, Until, Finish, Mix, List as ListPairs, Run}
use Rattle.bw_shell.specs.declared.turns.Progress.{Progress}
use Rattle.bw_shell.specs.declared.turns.Progress.TheVariants.{GoesOn, Linked, Done}
use Rattle.bw_shell.specs.declared.refusal.Refusal.{Refusal}
use Rattle.bw_shell.specs.declared.refusal.Refusal.TheVariants.{TooLong, Memory, Malformed}
use Rattle.bw_shell.specs.declared.refusal.RefusedLine.{RefusedLine}
use Rattle.bw_shell.specs.Refusal.{refusal_by}
use Rattle.bw_shell.specs.Text.{turned_text, finished_text, listing_text}
use Rattle.bw_shell.specs.Turns.{Trace, is_busy, IsOneMap, TakesTurn, Refuses}

-- What a turn comes to, where turns are to stop at an exchange that won with the link, if one is given: the operation goes on, and
-- this was no such exchange; or it was one; or the operation is done.
abbrev pub ComesTo : Option Link → Event → Progress → Type 0
ComesTo until told GoesOn = (made : Option Link) × (told ≡ event.Stepped made) × ((link : Link) → until ≡ Some link → made ≡ Some link → ⊥)
ComesTo until told Linked = (link : Link) × (until ≡ Some link) × (told ≡ event.Stepped (Some link))
ComesTo until told (Done reply) = told ≡ event.Done reply

-- the operation goes on behind a turn that told this, and turns are not to stop at it
abbrev pub IsUnderWay : Option Link → Result Event RunError → Type 0
IsUnderWay until (Ok told) = ComesTo until told GoesOn
IsUnderWay until (Err error) = ⊥

-- what a turn that told this comes to, or the refusal
abbrev pub ToldAs : Option Link → Result Event RunError → Result Progress Refusal → Type 0
ToldAs until (Ok told) (Ok progress) = ComesTo until told progress
ToldAs until (Ok told) (Err refusal) = ⊥
ToldAs until (Err error) (Ok progress) = ⊥
ToldAs until (Err error) (Err refusal) = refusal ≡ refusal_by error

-- the actor took a turn that comes to this
abbrev pub TakesOne : Option Link → Trace → ℕ → Progress → Trace → Type 0
TakesOne until before actor progress after = (event : Event) × TakesTurn before (Step actor) event after × ComesTo until event progress

-- the actor took so many turns, and none of them ended its operation, or won an exchange with the link
unfoldable pub StepsOn : Option Link → Trace → ℕ → ℕ → Trace → Type 0
StepsOn until before actor zero after = after ≡ before
StepsOn until before actor (suc n) after = (mid : Trace) × StepsOn until before actor n mid × TakesOne until mid actor GoesOn after

-- the actor took so many turns, fewer if one of them ended its operation, or won an exchange with the link
abbrev pub TakesUpTo : Option Link → Trace → ℕ → ℕ → Progress → Trace → Type 0
TakesUpTo until before actor limit GoesOn after = StepsOn until before actor limit after
TakesUpTo until before actor limit progress after = (n : ℕ) × (n < limit) × (mid : Trace) × StepsOn until before actor n mid × TakesOne until mid actor progress after

-- fewer turns than the limit were taken, and the next is refused
abbrev pub RefusedWithin : Option Link → Trace → ℕ → ℕ → Refusal → Trace → Type 0
RefusedWithin until before actor limit refusal after = (n : ℕ) × (n < limit) × StepsOn until before actor n after × Refuses after (Step actor) refusal

-- the actor takes turns until an exchange won with the link, if one is given, or it is done, and this is printed
abbrev pub TakesToEnd : Option Link → Trace → ℕ → Trace → List ℕ → Type 0
TakesToEnd until before actor after text = (progress : Progress) × TakesUpTo until before actor 100000 progress after × (text ≡ finished_text actor progress)

-- an actor that was drawn takes one turn, if it has an operation, and this is printed
abbrev pub TakesDrawn : Trace → ℕ → Trace → List ℕ → Type 0
TakesDrawn before actor after text =
    ((is_busy before actor ≡ false) × (after ≡ before) × (text ≡ []))
    ⊎ ((is_busy before actor ≡ true) × (progress : Progress) × TakesOne None before actor progress after × (text ≡ turned_text actor progress))

-- actors that were drawn do so, one after another
unfoldable pub TakeDrawn : Trace → List ℕ → Trace → List ℕ → Type 0
TakeDrawn before [] after text = (after ≡ before) × (text ≡ [])
TakeDrawn before (actor ∷ actors) after text = (mid : Trace) × (shown : List ℕ) × (rest : List ℕ) × TakesDrawn before actor mid shown × TakeDrawn mid actors after rest × (text ≡ shown ++ rest)

-- the first so many actors that the seed draws
abbrev pub drawn_by : ℕ → Trace → ℕ → List ℕ
drawn_by seed trace count = drawn count (schedule_of seed trace.limits.actors)

-- the turn of a drawn actor is refused
abbrev pub RefusesDrawn : Trace → ℕ → Refusal → Type 0
RefusesDrawn trace actor refusal = (is_busy trace actor ≡ true) × Refuses trace (Step actor) refusal

-- fewer actors than the count took their turns, and the turn of the next is refused
abbrev pub RefusedAmong : ℕ → Trace → ℕ → Refusal → Trace → List ℕ → Type 0
RefusedAmong seed before count refusal after shown =
    (n : ℕ) × (n < count) × (actors : List ℕ) × (actor : ℕ) × (drawn_by seed before (n + 1) ≡ actors ++ actor ∷ []) × TakeDrawn before actors after shown × RefusesDrawn after actor refusal

-- what is asked for is done, and this is printed; a listing has exactly the pairs that stand at that moment
abbrev pub Performs : Trace → Request → Trace → List ℕ → Type 0
Performs before (Begin actor command) after text = TakesTurn before (BeginTurn actor command) event.Began after × (text ≡ [])
Performs before (Turn actor count) after text = (progress : Progress) × TakesUpTo None before actor count progress after × (text ≡ turned_text actor progress)
Performs before (Until actor link) after text = TakesToEnd (Some link) before actor after text
Performs before (Finish actor) after text = TakesToEnd None before actor after text
Performs before (Mix seed count) after text = TakeDrawn before (drawn_by seed before count) after text
Performs before ListPairs after text = (after ≡ before) × IsOneMap before × (pairs : List (List ℕ × List ℕ)) × IsListing before.limits before.entries pairs × (text ≡ listing_text pairs)
Performs before (Run command) after text = (mid : Trace) × TakesTurn before (BeginTurn 0 command) event.Began mid × TakesToEnd None mid 0 after text

-- what is asked for is refused, after this was printed
abbrev pub RefusesRequest : Trace → Request → Refusal → Trace → List ℕ → Type 0
RefusesRequest before (Begin actor command) refusal after shown = Refuses before (BeginTurn actor command) refusal × (after ≡ before) × (shown ≡ [])
RefusesRequest before (Turn actor count) refusal after shown = RefusedWithin None before actor count refusal after × (shown ≡ [])
RefusesRequest before (Until actor link) refusal after shown = RefusedWithin (Some link) before actor 100000 refusal after × (shown ≡ [])
RefusesRequest before (Finish actor) refusal after shown = RefusedWithin None before actor 100000 refusal after × (shown ≡ [])
RefusesRequest before (Mix seed count) refusal after shown = RefusedAmong seed before count refusal after shown
RefusesRequest before ListPairs refusal after shown = (refusal ≡ Memory) × (after ≡ before) × (shown ≡ [])
RefusesRequest before (Run command) refusal after shown =
    (Refuses before (BeginTurn 0 command) refusal × (after ≡ before) × (shown ≡ []))
    ⊎ ((mid : Trace) × TakesTurn before (BeginTurn 0 command) event.Began mid × RefusedWithin None mid 0 100000 refusal after × (shown ≡ []))

-- Why the line is refused: first that it is outside the grammar, then that a key or value is too long, then what the core refuses.
abbrev pub RefusesLine : Language → Trace → List ℕ → Refusal → Trace → List ℕ → Type 0
RefusesLine language before line refusal after shown =
    ((refusal ≡ Malformed) × (after ≡ before) × (shown ≡ []) × ((request : Request) → Says language line request → ⊥))
    ⊎ ((refusal ≡ TooLong) × (after ≡ before) × (shown ≡ []) × (request : Request) × Says language line request × (IsShortRequest request → ⊥))
    ⊎ ((request : Request) × Says language line request × IsShortRequest request × RefusesRequest before request refusal after shown)

-- What the lines print from line number n on: an empty line is skipped; another is performed, and the rest goes on from there; or it
-- is the refused line, perhaps after a part of it was printed, and nothing behind it counts.
unfoldable pub Transcript : Language → ℕ → Trace → List (List ℕ) → Trace → List ℕ → Option RefusedLine → Type 0
Transcript language n before [] after text refused = (after ≡ before) × (text ≡ []) × (refused ≡ None)
Transcript language n before ([] ∷ lines) after text refused = Transcript language (n + 1) before lines after text refused
Transcript language n before ((b ∷ bs) ∷ lines) after text refused =
    ((request : Request) × (mid : Trace) × (shown : List ℕ) × (rest : List ℕ) × Says language (b ∷ bs) request × IsShortRequest request × Performs before
    request mid shown × Transcript language (n + 1) mid lines after rest refused × (text ≡ shown ++ rest))
    ⊎ ((refusal : Refusal) × RefusesLine language before (b ∷ bs) refusal after text × (refused ≡ Some (record { number = n; refusal = refusal })))

-- what one turn answers
abbrev pub StepTold : Option Link → Trace → ℕ → Result Progress Refusal → Trace → Type 0
StepTold until before actor (Ok progress) after = TakesOne until before actor progress after
StepTold until before actor (Err refusal) after = Refuses before (Step actor) refusal × (after ≡ before)

-- what up to so many turns answer
abbrev pub TurnsTold : Option Link → Trace → ℕ → ℕ → Result Progress Refusal → Trace → Type 0
TurnsTold until before actor limit (Ok progress) after = TakesUpTo until before actor limit progress after
TurnsTold until before actor limit (Err refusal) after = RefusedWithin until before actor limit refusal after

-- what is printed for what is asked, up to the refusal, if it is refused
abbrev pub RequestTold : Trace → Request → Result (Unit {0}) Refusal → Trace → List ℕ → Type 0
RequestTold before request (Ok done) after text = Performs before request after text
RequestTold before request (Err refusal) after text = RefusesRequest before request refusal after text

-- what is printed for an actor that was drawn, if its turn isn't refused
abbrev pub DrawTold : Trace → ℕ → Result (Unit {0}) Refusal → Trace → List ℕ → Type 0
DrawTold before actor (Ok done) after text = TakesDrawn before actor after text
DrawTold before actor (Err refusal) after text = RefusesDrawn before actor refusal × (after ≡ before) × (text ≡ [])

-- what is printed for a line that isn't empty, up to the refusal, if it is refused
abbrev pub LineTold : Language → Trace → List ℕ → Result (Unit {0}) Refusal → Trace → List ℕ → Type 0
LineTold language before line (Ok done) after text = (request : Request) × Says language line request × IsShortRequest request × Performs before request after text
LineTold language before line (Err refusal) after text = RefusesLine language before line refusal after text
