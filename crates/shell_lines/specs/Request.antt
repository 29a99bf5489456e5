-- What a line asks for.
use Rattle.std.specs.Prelude.{◌≡◌, ℕ, ◌≤◌, ◌<◌, ◌^◌, List, [], ◌∷◌, length, codes, Option, Some, None}
use Rattle.bw_model.specs.Bytes.{longest}
use Rattle.bw_model.specs.declared.command.Command.{Command}
use Rattle.bw_model.specs.declared.command.Command.TheVariants.{Get, Insert, Upsert, Delete, DeleteIf, Swap, Add, Page, Back, Tidy}
use Rattle.bw_model.specs.declared.step.Link.{Link}
use Rattle.bw_model.specs.declared.step.Link.TheVariants as link
use Rattle.shell_lines.specs.declared.request.Language.{Language}
use Rattle.shell_lines.specs.declared.request.Language.TheVariants.{Script, Weave}
use Rattle.shell_lines.specs.declared.request.Request.{Request}
use Rattle.shell_lines.specs.declared.request.Request.TheVariants.{Begin, Turn, Until, Finish, Mix, List as ListPairs, Run}
use Rattle.shell_lines.specs.Token.{Means}
use Rattle.shell_lines.specs.Number.{number_of, up_to_most}
use Rattle.shell_lines.specs.Fields.{fields_of}

-- the text is a number, and n stands for it
abbrev pub SpellsNumber : List ℕ → ℕ → Type 0
SpellsNumber text n = (m : ℕ) × (number_of text ≡ Some m) × (n ≡ up_to_most m)

-- the fields spell this command, its keys of any length
abbrev pub SpellsCommand : List (List ℕ) → Command → Type 0
SpellsCommand fields (Get key) = (k : List ℕ) × (fields ≡ codes "get" ∷ k ∷ []) × Means k key
SpellsCommand fields (Insert key value) = (k : List ℕ) × (v : List ℕ) × (fields ≡ codes "insert" ∷ k ∷ v ∷ []) × Means k key × Means v value
SpellsCommand fields (Upsert key value) = (k : List ℕ) × (v : List ℕ) × (fields ≡ codes "upsert" ∷ k ∷ v ∷ []) × Means k key × Means v value
SpellsCommand fields (Delete key) = (k : List ℕ) × (fields ≡ codes "delete" ∷ k ∷ []) × Means k key
SpellsCommand fields (DeleteIf key expected) = (k : List ℕ) × (e : List ℕ) × (fields ≡ codes "delete_if" ∷ k ∷ e ∷ []) × Means k key × Means e expected
SpellsCommand fields (Swap key expected value) = (k : List ℕ) × (e : List ℕ) × (v : List ℕ) × (fields ≡ codes "swap" ∷ k ∷ e ∷ v ∷ []) × Means k key × Means e expected × Means v value
SpellsCommand fields (Add key number) =
    (k : List ℕ) × (n : List ℕ) × (fields ≡ codes "add" ∷ k ∷ n ∷ []) × Means k key × (number_of n ≡ Some number) × (number < 2 ^ 64)
SpellsCommand fields (Page key) = (k : List ℕ) × (fields ≡ codes "page" ∷ k ∷ []) × Means k key
SpellsCommand fields (Back key) = (k : List ℕ) × (fields ≡ codes "back" ∷ k ∷ []) × Means k key
SpellsCommand fields (Tidy key) = (k : List ℕ) × (fields ≡ codes "tidy" ∷ k ∷ []) × Means k key

-- the word of a link; a page that is made ready, and the undoing of that, have none
abbrev pub word_of : Link → Option (List ℕ)
word_of link.Put = Some (codes "put")
word_of link.Delete = Some (codes "delete")
word_of link.Base = Some (codes "base")
word_of link.Split = Some (codes "split")
word_of link.Term = Some (codes "term")
word_of link.Root = Some (codes "root")
word_of link.Hold = Some (codes "hold")
word_of link.Remove = Some (codes "remove")
word_of link.Merge = Some (codes "merge")
word_of link.Unterm = Some (codes "unterm")
word_of link.Clear = Some (codes "clear")
word_of link.Ready = None
word_of link.Undo = None

-- the fields ask for this
abbrev pub SpellsRequest : List (List ℕ) → Request → Type 0
SpellsRequest fields (Begin actor command) = (a : List ℕ) × (rest : List (List ℕ)) × (fields ≡ codes "begin" ∷ a ∷ rest) × SpellsNumber a actor × SpellsCommand rest command
SpellsRequest fields (Turn actor count) = (a : List ℕ) × (n : List ℕ) × (fields ≡ codes "turn" ∷ a ∷ n ∷ []) × SpellsNumber a actor × SpellsNumber n count × (1 ≤ count) × (count ≤ 100000)
SpellsRequest fields (Until actor link) = (a : List ℕ) × (w : List ℕ) × (fields ≡ codes "until" ∷ a ∷ w ∷ []) × SpellsNumber a actor × (word_of link ≡ Some w)
SpellsRequest fields (Finish actor) = (a : List ℕ) × (fields ≡ codes "finish" ∷ a ∷ []) × SpellsNumber a actor
SpellsRequest fields (Mix seed count) =
    (s : List ℕ) × (n : List ℕ) × (fields ≡ codes "mix" ∷ s ∷ n ∷ []) × (number_of s ≡ Some seed) × (seed < 2 ^ 64) × SpellsNumber n count × (1 ≤ count) × (count ≤ 100000)
SpellsRequest fields ListPairs = fields ≡ codes "list" ∷ []
SpellsRequest fields (Run command) = SpellsCommand fields command

-- what a program's lines may ask for: a script's are commands and listings, and a weave's have all the rest
abbrev pub IsAskedIn : Language → Request → Type 0
IsAskedIn Script (Run command) = Unit {0}
IsAskedIn Script ListPairs = Unit {0}
IsAskedIn Script request = ⊥
IsAskedIn Weave (Run command) = ⊥
IsAskedIn Weave request = Unit {0}

-- the request to go on until an exchange won with the link, if one is given, or the operation is done
abbrev pub until_done : ℕ → Option Link → Request
until_done actor None = Finish actor
until_done actor (Some link) = Until actor link

-- the line is of the program's grammar, and asks for this
abbrev pub Says : Language → List ℕ → Request → Type 0
Says language line request = (length line ≤ 1024) × SpellsRequest (fields_of line) request × IsAskedIn language request

-- no key or value is too long
abbrev pub IsShortCommand : Command → Type 0
IsShortCommand (Get key) = length key ≤ longest
IsShortCommand (Insert key value) = (length key ≤ longest) × (length value ≤ longest)
IsShortCommand (Upsert key value) = (length key ≤ longest) × (length value ≤ longest)
IsShortCommand (Delete key) = length key ≤ longest
IsShortCommand (DeleteIf key expected) = (length key ≤ longest) × (length expected ≤ longest)
IsShortCommand (Swap key expected value) = (length key ≤ longest) × (length expected ≤ longest) × (length value ≤ longest)
IsShortCommand (Add key number) = length key ≤ longest
IsShortCommand (Page key) = length key ≤ longest
IsShortCommand (Back key) = length key ≤ longest
IsShortCommand (Tidy key) = length key ≤ longest

abbrev pub IsShortRequest : Request → Type 0
IsShortRequest (Begin actor command) = IsShortCommand command
IsShortRequest (Turn actor count) = Unit {0}
IsShortRequest (Until actor link) = Unit {0}
IsShortRequest (Finish actor) = Unit {0}
IsShortRequest (Mix seed count) = Unit {0}
IsShortRequest ListPairs = Unit {0}
IsShortRequest (Run command) = IsShortCommand command
