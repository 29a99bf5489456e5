-- The words for a map, and for how it differs from the one before.
use Rattle.std.specs.Prelude.{ℕ, List, [], ◌++◌, ◌&&◌, Bool, codes, decimal, if◌then◌else◌, length}
use Rattle.std.specs.List.{flat_map, list_all, list_any}
use Rattle.std.specs.Str.{bytes_eq}
use Rattle.shell_lines.specs.Token.{as_token}
use Rattle.tree_picture.specs.Document.{escape}

-- a key or a value, as the program prints it
abbrev pub token_text : List ℕ → List ℕ
token_text bytes = escape (as_token bytes)

abbrev pub pair_line : List ℕ × List ℕ → List ℕ
pair_line pair = token_text pair.0 ++ codes " " ++ token_text pair.1 ++ codes "\n"

-- how many pairs there are, and each on a line
abbrev pub map_text : List (List ℕ × List ℕ) → List ℕ
map_text pairs = codes "<h3>The map after this step (pairs: " ++ decimal (length pairs) ++ codes ")</h3>\n<pre class=\"map\">" ++ flat_map pair_line pairs ++ codes "</pre>\n"

abbrev pub is_same : List ℕ × List ℕ → List ℕ × List ℕ → Bool
is_same one other = bytes_eq one.0 other.0 && bytes_eq one.1 other.1

-- whether there is this pair, and whether the key has a value
abbrev pub has_pair : List (List ℕ × List ℕ) → List ℕ × List ℕ → Bool
has_pair pairs pair = list_any (λ other. is_same other pair) pairs

abbrev pub has_key : List (List ℕ × List ℕ) → List ℕ → Bool
has_key pairs key = list_any (λ other. bytes_eq other.0 key) pairs

-- a pair of the map that wasn't in the one before, and one whose key has no value any more
abbrev pub gain_text : List (List ℕ × List ℕ) → List ℕ × List ℕ → List ℕ
gain_text before pair =
    if has_pair before pair then [] else codes "<p class=\"changed\">This step changes the map: " ++ token_text pair.0 ++ codes " has the value " ++ token_text pair.1 ++ codes " now.</p>\n"

abbrev pub loss_text : List (List ℕ × List ℕ) → List ℕ × List ℕ → List ℕ
loss_text after pair =
    if has_key after pair.0 then [] else codes "<p class=\"changed\">This step changes the map: " ++ token_text pair.0 ++ codes " has no value any more.</p>\n"

-- whether each pair was there before, and whether each key that had a value still has one
abbrev pub are_in : List (List ℕ × List ℕ) → List (List ℕ × List ℕ) → Bool
are_in before after = list_all (λ pair. has_pair before pair) after

abbrev pub have_values : List (List ℕ × List ℕ) → List (List ℕ × List ℕ) → Bool
have_values after before = list_all (λ pair. has_key after pair.0) before

abbrev pub is_unchanged : List (List ℕ × List ℕ) → List (List ℕ × List ℕ) → Bool
is_unchanged before after = are_in before after && have_values after before

abbrev pub change_text : List (List ℕ × List ℕ) → List (List ℕ × List ℕ) → List ℕ
change_text before after =
    if is_unchanged before after then codes "<p>The map is unchanged by this step.</p>\n" else flat_map (gain_text before) after ++ flat_map (loss_text after) before
