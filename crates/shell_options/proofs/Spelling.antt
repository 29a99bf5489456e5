-- What a number that was read says of the words.
use Rattle.std.proofs.Common.{◌≡◌, ℕ, Bool, List, Option, Some, None, Result, Ok, Err, sym, refl, ap, ◌∙◌, subst, codes, false, true}
use Rattle.std.proofs.Common.{MatchBool, MatchOption, IfErr, IfOk, Box}
use Rattle.std.specs.Prelude.{option_map}
use Rattle.std.specs.Option.{option_map_or}
use Rattle.std.specs.Str.Parse.{digits_value, without_leading_plus, ParsesUnsigned, ExplainsUnsignedError, HasUnsignedDigitsIfOk}
use Rattle.std.specs.Box.{box_value}
use Rattle.clap.specs.Words.{App, Row, Text, is_simple, is_simple_and_free, one_of, one_text, rows_of, subcommand_of, takes, TriesOne}
use Rattle.clap.specs.Simple.{subcommand_rows}
use Rattle.clap.specs.declared.parser.matches.ArgMatches.TheViews.{out-SubCommand}
use Rattle.clap.specs.declared.error.kind.ErrorKind.{ErrorKind}
use Rattle.clap.specs.declared.error.kind.ErrorKind.TheVariants.{OutOfMemory}
use Rattle.clap.specs.declared.parser.matches.Found.{Found}
use Rattle.clap.proofs.WalkLemmas.{one_text-rows}
use Rattle.clap.proofs.OnLiterals.{clap_on_literals}
use Rattle.clap.specs.declared.parser.matches.SubCommand.{SubCommand}
use Rattle.shell_options.specs.declared.words.OptionsError.{OptionsError}
use Rattle.shell_options.specs.declared.words.OptionsError.TheVariants.{Clap, Misplaced, Memory}
use Rattle.shell_options.specs.declared.settings.Program.{Program}
use Rattle.shell_options.specs.declared.settings.Settings.{Settings}
use Rattle.shell_options.specs.Grammar.{bwtree_app}
use Rattle.shell_options.specs.Words.{behind, name_of, number_in, AreTaken, HasNoFault, HasNumbers, IsNamedBy, MayMisplace, MayRefuse, SpellsFlag}

-- a number that was read is the one that the option's word spells
with_text : (rows : List Row) (id : Text) (o : Option Text) → o ≡ one_of id rows → (r : Option ℕ) → (o ≡ None → r ≡ None)
    → ((t : Text) → o ≡ Some t → r ≡ Some (digits_value 10 (without_leading_plus t))) → r ≡ number_in rows id
with_text rows id None is r none some = none refl ∙ ap (option_map (λ text. digits_value 10 (without_leading_plus text))) is
with_text rows id (Some t) is r none some = some t refl ∙ ap (option_map (λ text. digits_value 10 (without_leading_plus text))) is

pub is_number : (found : Found) (id : Text) (r : Option ℕ) → (one_text found id ≡ None → r ≡ None)
    → ((t : Text) → one_text found id ≡ Some t → r ≡ Some (digits_value 10 (without_leading_plus t))) → r ≡ number_in (rows_of found) id
is_number found id r none some = with_text (rows_of found) id (one_text found id) (one_text-rows found id) r none some

-- what a text was read as
pub value_read : (t : Text) (r : Option ℕ)
    → TriesOne (λ bs r. ParsesUnsigned 64 10 bs r × ExplainsUnsignedError 10 bs r × HasUnsignedDigitsIfOk bs r) t (Ok r)
    → r ≡ Some (digits_value 10 (without_leading_plus t))
value_read t (Some v) read = ap (λ (m : ℕ). Some m) read.0.1
value_read t None read = absurd read

abbrev pub IsFlagWord : Bool → Text → Type 0
IsFlagWord is_there text = MatchBool is_there (text ≡ codes "true") (text ≡ codes "false")

abbrev pub ReadsFlag : Bool → Option Text → Type 0
ReadsFlag is_there o = MatchOption o (is_there ≡ false) (IsFlagWord is_there)

pub spells_flag : (found : Found) (id : Text) (is_there : Bool) → ReadsFlag is_there (one_text found id) → SpellsFlag (rows_of found) id is_there
spells_flag found id is_there r = subst (ReadsFlag is_there) (one_text-rows found id) r

pub reads_flag : (is_there : Bool) (o : Option Text) → (o ≡ None → ⊥) → ((t : Text) → o ≡ Some t → IsFlagWord is_there t) → ReadsFlag is_there o
reads_flag is_there None none some = absurd (none refl)
reads_flag is_there (Some t) none some = some t refl

pub reads_no_flag : (o : Option Text) → ((t : Text) → o ≡ Some t → ⊥) → ReadsFlag false o
reads_no_flag None some = refl
reads_no_flag (Some t) some = absurd (some t refl)

pub is_simple-bwtree_app : is_simple bwtree_app ≡ true
unfolding clap_on_literals
is_simple-bwtree_app = refl

pub is_simple_and_free-bwtree_app : is_simple_and_free bwtree_app ≡ true
unfolding clap_on_literals
is_simple_and_free-bwtree_app = refl

pub rows_of_some : (o : Option (Text × List Row)) (rows : List Row) → option_map (λ p. p.1) o ≡ Some rows → behind o ≡ rows
rows_of_some None rows h = cc
rows_of_some (Some p) rows h = cc

-- what is refused, and not for want of memory, is outside the grammar
pub outside : (app : App) (words : List Text) (kind : ErrorKind) → app ≡ bwtree_app → (takes app words ≡ true → kind ≡ OutOfMemory) → (kind ≡ OutOfMemory → ⊥) → AreTaken words → ⊥
unfolding AreTaken
outside app words kind is only other taken = other (only (subst (λ (a : App). takes a words ≡ true) (sym is) taken))

-- the numbers behind a program's name are those of its options
pub is_told : (told : Option (Text × List Row)) (program : Program) (read : List Row) (r : Result Settings OptionsError)
    → option_map (λ p. p.0) told ≡ Some (name_of program) → option_map (λ p. p.1) told ≡ Some read
    → IfOk r (HasNumbers read) → IfOk r (λ (line : Settings). line.program ≡ program) → IfOk r (IsNamedBy told)
is_told told program read (Ok line) named is numbers same = record {
  program = named ∙ ap (λ (p : Program). Some (name_of p)) (sym same);
  numbers = subst (λ (r : List Row). HasNumbers r line) (sym (rows_of_some told read is)) numbers;
}
is_told told program read (Err error) named is numbers same = tt

-- what is refused of the options behind a program's name
pub is_misplaced : (told : Option (Text × List Row)) (read : List Row) (r : Result Settings OptionsError)
    → option_map (λ p. p.1) told ≡ Some read → IfErr r (MayMisplace read) → IfErr r (MayMisplace (behind told))
is_misplaced told read r is refused = subst (λ (rows : List Row). IfErr r (MayMisplace rows)) (sym (rows_of_some told read is)) refused

-- what is refused of the words that have no fault
pub is_refused : (words : List Text) (r : Result Settings OptionsError)
    → HasNoFault words → IfErr r (MayMisplace (behind (subcommand_of bwtree_app words))) → IfErr r (MayRefuse words)
is_refused words (Ok line) faultless refused = tt
is_refused words (Err (Clap error)) faultless refused = absurd refused
is_refused words (Err (Misplaced option)) faultless refused = (faultless, refused)
is_refused words (Err Memory) faultless refused = tt

module _ {Z : Type 0} where
  pub name_is : (o : Option (Box SubCommand Z)) → option_map (λ p. p.0) (subcommand_rows o) ≡ option_map (λ b. (out-SubCommand (box_value b)).name.now) o
  name_is None = refl
  name_is (Some b) = refl
