-- What is printed.
use Rattle.std.specs.Prelude.{ℕ, List, [], ◌++◌, length, codes, decimal, reverse, Option, Some, None}
use Rattle.std.specs.List.{flat_map}
use Rattle.bw_model.specs.declared.command.Reply.{Reply}
use Rattle.bw_model.specs.declared.command.Reply.TheVariants.{Value, None as NoValue, Inserted, Exists, Set, Replaced, Deleted, Absent, Swapped, Differs, Page, BackPage, Tidied, Full}
use Rattle.bw_shell.specs.declared.turns.Progress.{Progress}
use Rattle.bw_shell.specs.declared.turns.Progress.TheVariants.{GoesOn, Linked, Done}
use Rattle.shell_lines.specs.Token.{as_token}
use Rattle.bw_shell.specs.declared.refusal.Refusal.{Refusal}
use Rattle.bw_shell.specs.declared.refusal.RefusedLine.{RefusedLine}
use Rattle.bw_shell.specs.Refusal.{code_of}

-- a pair, as it stands in a page
abbrev pub item_text : List ℕ × List ℕ → List ℕ
item_text pair = codes " " ++ as_token pair.0 ++ codes " " ++ as_token pair.1

-- from which key the next page goes on, or that there is none
abbrev pub next_text : Option (List ℕ) → List ℕ
next_text None = codes " end\n"
next_text (Some key) = codes " next " ++ as_token key ++ codes "\n"

-- a reply, as it stands behind its actor; the keys of a page backward descend
abbrev pub reply_text : Reply → List ℕ
reply_text (Value v) = codes " value " ++ as_token v ++ codes "\n"
reply_text NoValue = codes " none\n"
reply_text Inserted = codes " inserted\n"
reply_text (Exists v) = codes " exists " ++ as_token v ++ codes "\n"
reply_text Set = codes " set\n"
reply_text (Replaced v) = codes " replaced " ++ as_token v ++ codes "\n"
reply_text (Deleted v) = codes " deleted " ++ as_token v ++ codes "\n"
reply_text Absent = codes " absent\n"
reply_text Swapped = codes " swapped\n"
reply_text (Differs v) = codes " differs " ++ as_token v ++ codes "\n"
reply_text (Page items next) = codes " page " ++ decimal (length items) ++ flat_map item_text items ++ next_text next
reply_text (BackPage items next) = codes " back " ++ decimal (length items) ++ flat_map item_text (reverse items) ++ next_text next
reply_text Tidied = codes " tidied\n"
reply_text Full = codes " full\n"

-- what a `turn` prints
abbrev pub turned_text : ℕ → Progress → List ℕ
turned_text actor GoesOn = []
turned_text actor Linked = []
turned_text actor (Done reply) = decimal actor ++ reply_text reply

-- what an `until` or a `finish` prints
abbrev pub finished_text : ℕ → Progress → List ℕ
finished_text actor GoesOn = decimal actor ++ codes " unfinished\n"
finished_text actor Linked = []
finished_text actor (Done reply) = decimal actor ++ reply_text reply

abbrev pub pair_text : List ℕ × List ℕ → List ℕ
pair_text pair = as_token pair.0 ++ codes " " ++ as_token pair.1 ++ codes "\n"

abbrev pub listing_text : List (List ℕ × List ℕ) → List ℕ
listing_text pairs = codes "pairs " ++ decimal (length pairs) ++ codes "\n" ++ flat_map pair_text pairs

-- a refused line
abbrev pub refused_text : ℕ → Refusal → List ℕ
refused_text number refusal = codes "refused line " ++ decimal number ++ codes ": " ++ decimal (code_of refusal) ++ codes "\n"

-- the refused line, if a line is refused
abbrev pub last_line : Option RefusedLine → List ℕ
last_line None = []
last_line (Some line) = refused_text line.number line.refusal

-- a refusal that belongs to no line
abbrev pub lone_refusal_text : Refusal → List ℕ
lone_refusal_text refusal = codes "refused: " ++ decimal (code_of refusal) ++ codes "\n"
