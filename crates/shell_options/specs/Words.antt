-- what the words of a command line mean, by clap's own words
use Rattle.std.specs.Prelude.{◌≡◌, ◌⊎◌, ℕ, Bool, List, [], Option, Some, None, false, true, is_some, unwrap_or, MatchBool, MatchOption, codes, option_map}
use Rattle.std.specs.Option.{option_map_or}
use Rattle.std.specs.Str.Parse.{digits_value, without_leading_plus}
use Rattle.clap.specs.Words.{IsAmong, fault_of, kind_of, Row, Text, one_of, subcommand_of, takes}
use Rattle.clap.specs.Simple.{subcommand_rows}
use Rattle.clap.specs.declared.parser.matches.ArgMatches.{ArgMatches}
use Rattle.clap.specs.declared.parser.matches.ArgMatches.TheViews.{out-ArgMatches}
use Rattle.shell_options.specs.declared.settings.Program.{Program}
use Rattle.shell_options.specs.declared.settings.Program.TheVariants.{Script, Weave, Draw, Film, Race}
use Rattle.shell_options.specs.declared.settings.Settings.{Settings}
use Rattle.shell_options.specs.declared.settings.TreeSize.{TreeSize}
use Rattle.shell_options.specs.declared.settings.TreeSize.TheVariants.{Small, Large, ForKeys, ForPairs}
use Rattle.shell_options.specs.declared.words.Misplaced.{Misplaced as MisplacedOption}
use Rattle.shell_options.specs.declared.words.Misplaced.TheVariants.{Pids, Rows, KeyBytes, ValueBytes}
use Rattle.shell_options.specs.declared.words.OptionsError.{OptionsError}
use Rattle.shell_options.specs.declared.words.OptionsError.TheVariants.{Clap, Misplaced, Memory}
use Rattle.shell_options.specs.Grammar.{bwtree_app}

-- the number that the word of the option spells, where there is such a word
abbrev pub number_in : List Row → Text → Option ℕ
number_in rows id = option_map (λ text. digits_value 10 (without_leading_plus text)) (one_of id rows)

abbrev pub IsThere : List Row → Text → Type 0
IsThere rows id = is_some (number_in rows id) ≡ true

abbrev pub IsAbsent : List Row → Text → Type 0
IsAbsent rows id = number_in rows id ≡ None

-- n is the number that the word of the option spells, or the default where there is no such word
abbrev pub SpellsOr : List Row → Text → ℕ → ℕ → Type 0
SpellsOr rows id default n = n ≡ unwrap_or (number_in rows id) default

-- The flag is there, or it isn't: the word that is read of it is `true` or `false`, or there is none and it isn't.
abbrev pub SpellsFlag : List Row → Text → Bool → Type 0
SpellsFlag rows id is_there =
    MatchOption (one_of id rows) (is_there ≡ false) (λ text. MatchBool is_there (text ≡ codes "true") (text ≡ codes "false"))

-- the number of actors: a script has one, and a race one for each seat
abbrev pub HasActors : Program → List Row → ℕ → Type 0
HasActors Script rows n = n ≡ 1
HasActors Weave rows n = SpellsOr rows (codes "actors") 2 n
HasActors Draw rows n = SpellsOr rows (codes "actors") 2 n
HasActors Film rows n = SpellsOr rows (codes "actors") 2 n
HasActors Race rows n = SpellsOr rows (codes "seats") 2 n

-- how many page identifiers and rows there are where the words don't say
abbrev pub default_pids_of : Program → ℕ
default_pids_of Script = 64
default_pids_of Weave = 64
default_pids_of Draw = 64
default_pids_of Film = 64
default_pids_of Race = 4096

abbrev pub default_rows_of : Program → ℕ
default_rows_of Script = 256
default_rows_of Weave = 256
default_rows_of Draw = 256
default_rows_of Film = 256
default_rows_of Race = 16384

-- no option counts page identifiers or rows
pub record HasNoCounts (rows_read : List Row) : Type 0 where
  pub no_pids : IsAbsent rows_read (codes "pids")
  pub no_rows : IsAbsent rows_read (codes "rows")

-- no option tells how long keys or values are
pub record HasNoLengths (rows_read : List Row) : Type 0 where
  pub no_key_bytes : IsAbsent rows_read (codes "key-bytes")
  pub no_value_bytes : IsAbsent rows_read (codes "value-bytes")

-- Page identifiers and rows are counted by their options, and no option of a number of keys is there.
pub record SpellsCounts (program : Program) (rows_read : List Row) (is_large : Bool) (pids rows : ℕ) : Type 0 where
  pub kind : SpellsFlag rows_read (codes "large") is_large
  pub given_pids : SpellsOr rows_read (codes "pids") (default_pids_of program) pids
  pub given_rows : SpellsOr rows_read (codes "rows") (default_rows_of program) rows
  pub no_keys : IsAbsent rows_read (codes "keys")
  pub no_lengths : HasNoLengths rows_read

-- The option of a number of keys is there, and none that counts page identifiers or rows.
pub record SpellsKeys (rows_read : List Row) (is_large : Bool) (keys : ℕ) : Type 0 where
  pub kind : SpellsFlag rows_read (codes "large") is_large
  pub given_keys : number_in rows_read (codes "keys") ≡ Some keys
  pub no_counts : HasNoCounts rows_read

-- The size is that of the options. Lengths of keys and values are for large trees alone, and 64 where they aren't there.
abbrev pub SpellsSize : Program → List Row → TreeSize → Type 0
SpellsSize program rows_read (Small pids rows) = SpellsCounts program rows_read false pids rows
SpellsSize program rows_read (Large pids rows) = SpellsCounts program rows_read true pids rows
SpellsSize program rows_read (ForKeys keys) = SpellsKeys rows_read false keys × HasNoLengths rows_read
SpellsSize program rows_read (ForPairs keys key_bytes value_bytes) =
    SpellsKeys rows_read true keys × SpellsOr rows_read (codes "key-bytes") 64 key_bytes × SpellsOr rows_read (codes "value-bytes") 64 value_bytes

-- The options make no large tree for a number of keys.
abbrev pub LacksPairs : List Row → Type 0
LacksPairs rows = IsAbsent rows (codes "keys") ⊎ SpellsFlag rows (codes "large") false

-- The option is there, and may not be: a number of keys stands for the two counts, and lengths are for large trees for a number of keys.
abbrev pub IsMisplaced : List Row → MisplacedOption → Type 0
IsMisplaced rows Pids = IsThere rows (codes "pids") × IsThere rows (codes "keys")
IsMisplaced rows Rows = IsThere rows (codes "rows") × IsThere rows (codes "keys")
IsMisplaced rows KeyBytes = IsThere rows (codes "key-bytes") × LacksPairs rows
IsMisplaced rows ValueBytes = IsThere rows (codes "value-bytes") × LacksPairs rows

-- The options are refused for want of memory, or as one of them is misplaced.
abbrev pub MayMisplace : List Row → OptionsError → Type 0
MayMisplace rows (Clap error) = ⊥
MayMisplace rows (Misplaced option) = IsMisplaced rows option
MayMisplace rows Memory = Unit {0}

-- the numbers are those of the options
pub record HasNumbers (rows_read : List Row) (line : Settings) : Type 0 where
  pub actors : HasActors line.program rows_read line.actors
  pub size : SpellsSize line.program rows_read line.size
  pub epoch : SpellsOr rows_read (codes "epoch") 1 line.epoch

-- a program's name
abbrev pub name_of : Program → Text
name_of Script = codes "script"
name_of Weave = codes "weave"
name_of Draw = codes "draw"
name_of Film = codes "film"
name_of Race = codes "race"

-- the rows of the options behind a program's name
abbrev pub behind : Option (Text × List Row) → List Row
behind told = option_map_or (λ p. p.1) told []

-- A program's name and the rows of its options name the program, and its numbers are those of the options.
pub record IsNamedBy (told : Option (Text × List Row)) (line : Settings) : Type 0 where
  pub program : option_map (λ p. p.0) told ≡ Some (name_of line.program)
  pub numbers : HasNumbers (behind told) line

-- The words name the program, and its numbers are those of the options behind the name.
abbrev pub IsSpelled : List Text → Settings → Type 0
IsSpelled words line = IsNamedBy (subcommand_of bwtree_app words) line

-- the program's name and the rows of its options, as the matches have them
abbrev pub told_by : ArgMatches → Option (Text × List Row)
told_by matches = subcommand_rows (out-ArgMatches matches).subcommand

-- The words are in the grammar of the command line.
unfoldable pub AreTaken : List Text → Type 0
AreTaken words = takes bwtree_app words ≡ true

-- the grammar finds no fault with the words
abbrev pub HasNoFault : List Text → Type 0
HasNoFault words = fault_of bwtree_app words ≡ []

-- clap's refusal comes only for words outside the grammar, and tells a fault that they have; an option is refused only for words within it
abbrev pub MayRefuse : List Text → OptionsError → Type 0
MayRefuse words (Clap error) = (AreTaken words → ⊥) × IsAmong (kind_of error) (fault_of bwtree_app words)
MayRefuse words (Misplaced option) = HasNoFault words × IsMisplaced (behind (subcommand_of bwtree_app words)) option
MayRefuse words Memory = Unit {0}
