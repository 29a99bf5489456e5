-- Which words spell a record.
use Rattle.std.specs.Prelude.{◌≡◌, ℕ, List, IfSome, MatchResult, Result, ⊤}
use Rattle.std.specs.List.{All}
use Rattle.bw_model.specs.Bytes.{IsShort}
use Rattle.base_page.specs.declared.item.Content.{Content}
use Rattle.base_page.specs.declared.item.Content.TheVariants.{Value, Child}
use Rattle.base_page.specs.declared.item.Item.{Item}
use Rattle.deltas.specs.declared.record.Record.{Record}
use Rattle.deltas.specs.declared.record.Record.TheVariants.{Base, Put, Delete, Split, Term, Hold, Remove, Merge, Unterm}
use Rattle.deltas.specs.Spellable.{IsSpellable}
use Rattle.record_slots.specs.Spelling.{words_of}

-- Each key and each value has the property.
module _ (is : List ℕ → Type 0) where
  abbrev pub HasTextIn : Content → Type 0
  HasTextIn (Value value) = is value
  HasTextIn (Child page held) = ⊤

  abbrev pub HasItemTexts : Item → Type 0
  HasItemTexts item = is item.key × HasTextIn item.content

  abbrev pub HasTexts : Record → Type 0
  HasTexts (Base page) = is page.low × IfSome page.high is × All HasItemTexts page.items
  HasTexts (Put put) = is put.key × is put.value
  HasTexts (Delete delete) = is delete.key
  HasTexts (Split split) = is split.separator
  HasTexts (Term term) = is term.separator
  HasTexts (Hold hold) = is hold.separator
  HasTexts (Remove remove) = ⊤
  HasTexts (Merge merge) = is merge.low × IfSome merge.high is × All HasItemTexts merge.items
  HasTexts (Unterm unterm) = is unterm.separator

-- Keys and values are short, as their types say.
abbrev pub IsShortContent : Content → Type 0
IsShortContent = HasTextIn IsShort

abbrev pub IsShortItem : Item → Type 0
IsShortItem = HasItemTexts IsShort

abbrev pub HasShortTexts : Record → Type 0
HasShortTexts = HasTexts IsShort

-- The words spell the record.
pub record IsSpelling (content : Record) (words : List ℕ) : Type 0 where
  pub spellable : IsSpellable content
  pub short : HasShortTexts content
  pub are : words_of content ≡ words

-- A row of words can spell the record.
abbrev pub HasSpelling : Record → Type 0
HasSpelling content = IsSpelling content (words_of content)

-- A search among values for one that has the property: what is found has it, and a refusal says that none has.
abbrev pub FindsOne : {A E : Type 0} → (A → Type 0) → Result A E → Type 0
FindsOne {A} has result = MatchResult result has (λ fault. (a : A) → has a → ⊥)
