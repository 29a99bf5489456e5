-- Words of a closed table, and the records that they spell.
use Rattle.std.proofs.Common.{◌≡◌, ◌<◌, ◌≤◌, ◌+◌, Bool, true, false, ℕ, zero, suc, List, [], ◌∷◌, length, Option, Some, None, refl, sym, ap, ◌∙◌, subst, arith}
use Rattle.std.specs.Prelude.{if◌then◌else◌, slice_index, slice_set}
use Rattle.std.proofs.lemmas.List.{get_or-set_other, get_or-set_same}
use mathlib.Core.Logic.{dite}
use native.Mathlib.Decide.{ℕ_discrete}
use mathlib.Core.Option.{some, some-injective, some-ne-none}
use lib.ListN.{get_elem?}
use Rattle.running_tree.proofs.Words.{Record, Memory, words_of, Limits, row_at, slot_at, KeepMemory}
use Rattle.deltas.specs.declared.record.Record.TheVariants.{Base, Put, Delete, Split, Term, Hold, Remove, Merge, Unterm}
use Rattle.record_slots.specs.Layout.{last_at, row_size}
use Rattle.record_slots.specs.Spells.{IsSpelling}
use Rattle.tree_words.specs.Layout.{width_of}
use Rattle.tree_words.specs.Words.{stored, used_in, words_in}
use Rattle.tree_words.proofs.RowWidths.{one_width, row_within, some_words}
use Rattle.compact_rows.specs.Spelling.{compact_words}
use Rattle.compact_rows.specs.Seen.{seen}
use Rattle.compact_rows.specs.Spells.{IsCompact}
use Rattle.compact_rows.proofs.Rows.{row_seen, spelling}
use Rattle.compact_rows.proofs.Sizes.{has_room}
use Rattle.compact_rows.proofs.Within.{two_there}
use Rattle.running_tree.proofs.Agreeing.{seen_same}

pub word_at : (words : List ℕ) (i found : ℕ) → get_elem? words i ≡ some found → slice_index words i ≡ found
word_at [] i found e = absurd (some-ne-none found (sym e))
word_at (word ∷ words) zero found e = some-injective word found e
word_at (word ∷ words) (suc i) found e = word_at words i found e

pub slot_is : (limits : Limits) (words : List ℕ) (memory : Memory) (pid found : ℕ) → KeepMemory limits words memory → pid < limits.pids
    → get_elem? words (slot_at limits pid) ≡ some found → found ≡ memory.slots pid
slot_is limits words memory pid found keep below e = sym (word_at words (slot_at limits pid) found e) ∙ keep.are.spells.slots pid below

pub slot_small : (limits : Limits) (words : List ℕ) (memory : Memory) (pid : ℕ) (content : Record) → KeepMemory limits words memory
    → memory.rows (memory.slots pid) ≡ Some content → memory.slots pid < 4294967296
slot_small limits words memory pid content keep at = let there = (keep.kept (memory.slots pid) content at).there in omega (arith, there, limits.allowed.few_rows)

pub row_there : (limits : Limits) (words : List ℕ) (memory : Memory) (row : ℕ) (content : Record) → KeepMemory limits words memory → memory.rows row ≡ Some content
    → row_at limits row last_at < length words
row_there limits words memory row content keep at = let inside = row_within limits row (keep.kept row content at).there in omega (arith, inside, keep.are.wide)

same_words : (one other : List ℕ) → length one ≡ length other → ((j : ℕ) → j < length one → slice_index one j ≡ slice_index other j) → one ≡ other
same_words [] [] long each = refl
same_words [] (b ∷ back) long each = absurd (omega (arith, long))
same_words (a ∷ front) [] long each = absurd (omega (arith, long))
same_words (a ∷ front) (b ∷ back) long each =
    let first : a ≡ b = each 0 (omega arith) in
    let rest : front ≡ back = same_words front back (omega (arith, long)) (λ j below. each (suc j) (omega (arith, below))) in
    ap (λ z. z ∷ front) first ∙ ap (λ zs. b ∷ zs) rest

-- The row was read whole.
abbrev pub IsRead : Limits → List ℕ → ℕ → List ℕ → Type 0
IsRead limits words row read = (j : ℕ) → j < row_size → slice_index read j ≡ slice_index words (row_at limits row j)

-- in a small tree each word of a row says something
small_used : (limits : Limits) → limits.is_large ≡ false → (there : Option Record) (j : ℕ) → j < row_size → j < used_in limits there
small_used limits small None j low = low
small_used limits small (Some content) j low = subst (λ (b : Bool). j < (if b then length (compact_words content) else row_size)) (sym small) low

pub small_stored : (limits : Limits) → limits.is_large ≡ false → (content : Record) → stored limits content ≡ words_of content
small_stored limits small content = ap (λ (b : Bool). if b then compact_words content else words_of content) small

pub large_stored : (limits : Limits) → limits.is_large ≡ true → (content : Record) → stored limits content ≡ compact_words content
large_stored limits large content = ap (λ (b : Bool). if b then compact_words content else words_of content) large

large_used : (limits : Limits) → limits.is_large ≡ true → (content : Record) (j : ℕ) → j < length (compact_words content) → j < used_in limits (Some content)
large_used limits large content j low = subst (λ (b : Bool). j < (if b then length (compact_words content) else row_size)) (sym large) low

read_is : (limits : Limits) → limits.is_large ≡ false → (words : List ℕ) (memory : Memory) (row : ℕ) (read : List ℕ) → (keep : KeepMemory limits words memory) → row < limits.rows
    → IsRead limits words row read → (j : ℕ) → j < row_size → slice_index read j ≡ slice_index (words_in limits (memory.rows row)) j
read_is limits small words memory row read keep there is j below = is j below
    ∙ keep.are.spells.rows row j there (let wide = (one_width limits small row).1 in omega (arith, below, wide)) (small_used limits small (memory.rows row) j below) tt

-- the words that were read spell the record
pub row_spells : (limits : Limits) → limits.is_large ≡ false → (words : List ℕ) (memory : Memory) (row : ℕ) (content : Record) (read : List ℕ)
    → ((content : Record) (words : List ℕ) → IsSpelling content words → length words ≡ row_size) → KeepMemory limits words memory
    → memory.rows row ≡ Some content → length read ≡ row_size → IsRead limits words row read
    → IsSpelling content read
row_spells limits small words memory row content read all keep at long is =
    let kept = keep.kept row content at in
    let whole : length (words_of content) ≡ row_size = all content (words_of content) kept.spelling in
    let same : words_of content ≡ read = same_words (words_of content) read (whole ∙ sym long)
    (λ j below. sym (read_is limits small words memory row read keep kept.there is j (omega (arith, below, whole)) ∙ ap (λ o. slice_index (words_in limits o) j) at
    ∙ ap (λ (ws : List ℕ). slice_index ws j) (small_stored limits small content)))
    in
    subst (IsSpelling content) same kept.spelling

-- a header isn't 0
some_header : (content : Record) → 0 < slice_index (words_of content) 0
some_header (Base page) = omega arith
some_header (Put put) = omega arith
some_header (Delete delete) = omega arith
some_header (Split split) = omega arith
some_header (Term term) = omega arith
some_header (Hold hold) = omega arith
some_header (Remove remove) = omega arith
some_header (Merge merge) = omega arith
some_header (Unterm unterm) = omega arith

-- where a record was read, it stands in each memory of the words
pub row_is : (limits : Limits) → limits.is_large ≡ false → (words : List ℕ) (memory first : Memory) (row : ℕ) (content before : Record) (read : List ℕ)
    → ((content : Record) (words : List ℕ) → IsSpelling content words → length words ≡ row_size)
    → ((one other : Record) (words : List ℕ) → IsSpelling one words → IsSpelling other words → one ≡ other)
    → KeepMemory limits words first → first.rows row ≡ Some before → KeepMemory limits words memory → length read ≡ row_size → IsRead limits words row read
    → IsSpelling content read → memory.rows row ≡ Some content
row_is limits small words memory first row content before read all one keep_first at_first keep long is spelling = go (memory.rows row) refl
  where
    there : row < limits.rows
    there = let below = (keep_first.kept row before at_first).there in omega (arith, below, keep_first.are.wide, keep.are.wide)

    go : (o : Option Record) → memory.rows row ≡ o → memory.rows row ≡ Some content
    go None none =
        let header : slice_index (words_of content) 0 ≡ 0 = ap (λ z. slice_index z 0) spelling.are ∙ read_is limits small words memory row read keep there is 0
        (omega arith) ∙ ap (λ o. slice_index (words_in limits o) 0) none in
        let some = some_header content in absurd (omega (arith, header, some))
    go (Some stands) at = at ∙ ap Some (one stands content read (row_spells limits small words memory row stands read all keep at long is) spelling)

-- one word more
pub row_set : (limits : Limits) (words all : List ℕ) (row j found : ℕ) → ((i : ℕ) → i < j → slice_index words i ≡ slice_index all (row_at limits row i)) → j < length words
    → get_elem? all (row_at limits row j) ≡ some found
    → (i : ℕ) → i < j + 1 → slice_index (slice_set words j found) i ≡ slice_index all (row_at limits row i)
row_set limits words all row j found each short at i below = dite (ℕ_discrete i j)
    (λ same. ap (slice_index (slice_set words j found)) same ∙ get_or-set_same words j found 0 short ∙ sym (word_at all (row_at limits row j) found at)
    ∙ ap (λ k. slice_index all (row_at limits row k)) (sym same))
    (λ other. get_or-set_other words j i found 0 other ∙ each i (omega (arith, below, other)))

-- a word of a record of a large tree
module _ (limits : Limits) (large : limits.is_large ≡ true) (words : List ℕ) (memory : Memory) (row : ℕ) (content : Record) (keep : KeepMemory limits words memory)
    (at : memory.rows row ≡ Some content) where
  compact_is : IsCompact content (compact_words content)
  compact_is = let s = (keep.kept row content at).spelling in record { spellable = s.spellable; short = s.short; room = has_room content s.spellable s.short; are = refl }

  compact_word : (j : ℕ) → j < length (compact_words content) → slice_index words (row_at limits row j) ≡ slice_index (compact_words content) j
  compact_word j used =
      let there = (keep.kept row content at).there in
      let room = compact_is.room in
      let used' : j < used_in limits (memory.rows row) = subst (λ o. j < used_in limits o) (sym at) (large_used limits large content j used) in
      let fills : length (compact_words content) ≤ width_of limits row =
      subst (λ (ws : List ℕ). length ws ≤ width_of limits row) (large_stored limits large content) (keep.kept row content at).fills in
      keep.are.spells.rows row j there (omega (arith, used, fills)) used' tt ∙ ap (λ o. slice_index (words_in limits o) j) at
      ∙ ap (λ (ws : List ℕ). slice_index ws j) (large_stored limits large content)

  -- the words that are seen spell the record
  pub spread_spells : (read spread : List ℕ) → IsRead limits words row read → length spread ≡ row_size → ((j : ℕ) → j < row_size → slice_index spread j ≡ seen read j) → IsSpelling content spread
  spread_spells read spread is long are =
      let room = compact_is.room in
      let same = row_seen content (compact_words content) spread compact_is long
      (λ j low. are j low ∙ seen_same content compact_is read (λ k below. is k (omega arith) ∙ compact_word k below) j) in
      subst (λ (ws : List ℕ). IsSpelling content ws) (sym same) (spelling content (compact_words content) compact_is)

  -- where a record was read, it stands in each memory of the words
  pub header_there : 0 < slice_index words (row_at limits row 0)
  header_there = let first = compact_word 0 (let t = two_there content compact_is in omega arith) in omega arith

pub large_row_is : (limits : Limits) → limits.is_large ≡ true → (words : List ℕ) (memory first : Memory) (row : ℕ) (content before : Record) (read spread : List ℕ)
    → ((one other : Record) (words : List ℕ) → IsSpelling one words → IsSpelling other words → one ≡ other)
    → KeepMemory limits words first → first.rows row ≡ Some before → KeepMemory limits words memory → IsRead limits words row read → length spread ≡ row_size
    → ((j : ℕ) → j < row_size → slice_index spread j ≡ seen read j) → IsSpelling content spread → memory.rows row ≡ Some content
large_row_is limits large words memory first row content before read spread one keep_first at_first keep is long are spelled = go (memory.rows row) refl
  where
    there : row < limits.rows
    there = (keep_first.kept row before at_first).there

    go : (o : Option Record) → memory.rows row ≡ o → memory.rows row ≡ Some content
    go None none =
        let used : 0 < used_in limits (memory.rows row) = subst (λ o. 0 < used_in limits o) (sym none) (let z : 0 < row_size = omega arith in z) in
        let some = some_words limits row in
        let zero_there : slice_index words (row_at limits row 0) ≡ 0 = keep.are.spells.rows row 0 there (omega (arith, some)) used tt ∙ ap (λ o. slice_index (words_in limits o) 0) none in
        let header = header_there limits large words first row before keep_first at_first in
        absurd (omega (arith, zero_there, header))
    go (Some stands) at = at ∙ ap Some (one stands content spread (spread_spells limits large words memory row stands keep at read spread is long are) spelled)
