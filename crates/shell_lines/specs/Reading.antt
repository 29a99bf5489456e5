-- What fields ask for, as a function: the way of the code. `SpellsRequest` of Request is the grammar.
use Rattle.std.specs.Prelude.{◌≡◌, ℕ, ◌≤◌, length, ◌&&◌, nat_le, if◌then◌else◌, List, [], ◌∷◌, codes, option_map, Option, Some, None, Result, Ok, Err}
use Rattle.std.specs.Option.{option_and_then}
use Rattle.std.specs.Str.{bytes_eq}
use Rattle.bw_model.specs.Bytes.{longest}
use Rattle.bw_model.specs.declared.command.Command.{Command}
use Rattle.bw_model.specs.declared.command.Command.TheVariants.{Get, Insert, Upsert, Delete, DeleteIf, Swap, Add, Page, Back, Tidy}
use Rattle.bw_model.specs.declared.step.Link.{Link}
use Rattle.bw_model.specs.declared.step.Link.TheVariants as link
use Rattle.shell_lines.specs.declared.request.Language.{Language}
use Rattle.shell_lines.specs.declared.request.Language.TheVariants.{Script, Weave}
use Rattle.shell_lines.specs.declared.request.Request.{Request}
use Rattle.shell_lines.specs.declared.request.Request.TheVariants.{Begin, Turn, Until, Finish, Mix, List as ListPairs, Run}
use Rattle.shell_lines.specs.declared.token.LineError.{LineError}
use Rattle.shell_lines.specs.declared.token.LineError.TheVariants.{Malformed, TooLong}
use Rattle.shell_lines.specs.Token.{token_value}
use Rattle.shell_lines.specs.Fields.{one_of, two_of, three_of}
use Rattle.shell_lines.specs.Number.{number_of, up_to_most, fitting}
use Rattle.shell_lines.specs.Request.{IsShortRequest, IsShortCommand}

-- the key that the fields after a verb give, if they are one token
unfoldable pub key_in : List (List ℕ) → Option (List ℕ)
key_in fields = option_and_then token_value (one_of fields)

-- the key and the value that they give, if they are two
abbrev pub pair_said : List ℕ → List ℕ → Option (List ℕ × List ℕ)
pair_said k v = option_and_then (λ key. option_map (λ value. (key, value)) (token_value v)) (token_value k)

unfoldable pub pair_in : List (List ℕ) → Option (List ℕ × List ℕ)
pair_in fields = option_and_then (λ two. pair_said two.0 two.1) (two_of fields)

-- the swap that they give, if they are a key, the expected value and the new one
abbrev pub swap_said : List ℕ → List ℕ → List ℕ → Option Command
swap_said k e v = option_and_then (λ pair. option_map (Swap pair.0 pair.1) (token_value v)) (pair_said k e)

unfoldable pub swap_in : List (List ℕ) → Option Command
swap_in fields = option_and_then (λ three. swap_said three.0 three.1 three.2) (three_of fields)

-- the addition that they give, if they are a key and a number that 64 bits hold
abbrev pub number_said : List ℕ → Option ℕ
number_said n = option_and_then fitting (number_of n)

abbrev pub addition_said : List ℕ → List ℕ → Option Command
addition_said k n = option_and_then (λ key. option_map (Add key) (number_said n)) (token_value k)

unfoldable pub addition_in : List (List ℕ) → Option Command
addition_in fields = option_and_then (λ two. addition_said two.0 two.1) (two_of fields)

unfoldable pub command_in : List (List ℕ) → Option Command
command_in [] = None
command_in (verb ∷ args) =
    if bytes_eq verb (codes "get") then option_map Get (key_in args)
    else if bytes_eq verb (codes "insert") then option_map (λ pair. Insert pair.0 pair.1) (pair_in args)
    else if bytes_eq verb (codes "upsert") then option_map (λ pair. Upsert pair.0 pair.1) (pair_in args)
    else if bytes_eq verb (codes "delete") then option_map Delete (key_in args)
    else if bytes_eq verb (codes "delete_if") then option_map (λ pair. DeleteIf pair.0 pair.1) (pair_in args)
    else if bytes_eq verb (codes "swap") then swap_in args
    else if bytes_eq verb (codes "add") then addition_in args
    else if bytes_eq verb (codes "page") then option_map Page (key_in args)
    else if bytes_eq verb (codes "back") then option_map Back (key_in args)
    else if bytes_eq verb (codes "tidy") then option_map Tidy (key_in args)
    else None

-- an actor's number
abbrev pub capped_number : List ℕ → Option ℕ
capped_number text = option_map up_to_most (number_of text)

unfoldable pub begin_in : List (List ℕ) → Option Request
begin_in [] = None
begin_in (a ∷ rest) = option_and_then (λ actor. option_map (Begin actor) (command_in rest)) (capped_number a)

abbrev pub turn_by : ℕ → ℕ → Option Request
turn_by actor count = if nat_le 1 count && nat_le count 100000 then Some (Turn actor count) else None

unfoldable pub turn_in : List (List ℕ) → Option Request
turn_in fields = option_and_then (λ two. option_and_then (λ actor. option_and_then (turn_by actor) (capped_number two.1)) (capped_number two.0)) (two_of fields)

-- the link that a word stands for
unfoldable pub link_in : List ℕ → Option Link
link_in word =
    if bytes_eq word (codes "put") then Some link.Put
    else if bytes_eq word (codes "delete") then Some link.Delete
    else if bytes_eq word (codes "base") then Some link.Base
    else if bytes_eq word (codes "split") then Some link.Split
    else if bytes_eq word (codes "term") then Some link.Term
    else if bytes_eq word (codes "root") then Some link.Root
    else if bytes_eq word (codes "hold") then Some link.Hold
    else if bytes_eq word (codes "remove") then Some link.Remove
    else if bytes_eq word (codes "merge") then Some link.Merge
    else if bytes_eq word (codes "unterm") then Some link.Unterm
    else if bytes_eq word (codes "clear") then Some link.Clear
    else None

unfoldable pub until_in : List (List ℕ) → Option Request
until_in fields = option_and_then (λ two. option_and_then (λ actor. option_map (Until actor) (link_in two.1)) (capped_number two.0)) (two_of fields)

unfoldable pub finish_in : List (List ℕ) → Option Request
finish_in fields = option_and_then (λ a. option_map Finish (capped_number a)) (one_of fields)

abbrev pub mix_by : ℕ → ℕ → Option Request
mix_by seed count = if nat_le 1 count && nat_le count 100000 then Some (Mix seed count) else None

unfoldable pub mix_in : List (List ℕ) → Option Request
mix_in fields = option_and_then (λ two. option_and_then (λ seed. option_and_then (mix_by seed) (capped_number two.1)) (option_and_then fitting (number_of two.0))) (two_of fields)

unfoldable pub list_in : List (List ℕ) → Option Request
list_in [] = Some ListPairs
list_in (x ∷ rest) = None

-- what a line of a weave asks for
unfoldable pub woven_in : List (List ℕ) → Option Request
woven_in [] = None
woven_in (verb ∷ args) =
    if bytes_eq verb (codes "begin") then begin_in args
    else if bytes_eq verb (codes "turn") then turn_in args
    else if bytes_eq verb (codes "until") then until_in args
    else if bytes_eq verb (codes "finish") then finish_in args
    else if bytes_eq verb (codes "mix") then mix_in args
    else if bytes_eq verb (codes "list") then list_in args
    else None

-- what a line of a script asks for
unfoldable pub script_in : List (List ℕ) → Option Request
script_in [] = None
script_in (verb ∷ args) =
    if bytes_eq verb (codes "list") then list_in args
    else option_map Run (command_in (verb ∷ args))

abbrev pub request_in : Language → List (List ℕ) → Option Request
request_in Script fields = script_in fields
request_in Weave fields = woven_in fields

-- no key or value of a pair is too long
abbrev pub HasNoLongText : List ℕ × List ℕ → Type 0
HasNoLongText pair = (length pair.0 ≤ longest) × (length pair.1 ≤ longest)

-- what is answered, given what the fields request for
abbrev pub GivesPair : Result (List ℕ × List ℕ) LineError → Option (List ℕ × List ℕ) → Type 0
GivesPair (Ok pair) found = (found ≡ Some pair) × HasNoLongText pair
GivesPair (Err Malformed) found = found ≡ None
GivesPair (Err TooLong) found = (pair : List ℕ × List ℕ) × (found ≡ Some pair) × (HasNoLongText pair → ⊥)

abbrev pub GivesCommand : Result Command LineError → Option Command → Type 0
GivesCommand (Ok command) found = (found ≡ Some command) × IsShortCommand command
GivesCommand (Err Malformed) found = found ≡ None
GivesCommand (Err TooLong) found = (command : Command) × (found ≡ Some command) × (IsShortCommand command → ⊥)

abbrev pub GivesRequest : Result Request LineError → Option Request → Type 0
GivesRequest (Ok request) found = (found ≡ Some request) × IsShortRequest request
GivesRequest (Err Malformed) found = found ≡ None
GivesRequest (Err TooLong) found = (request : Request) × (found ≡ Some request) × (IsShortRequest request → ⊥)
