-- The words of a row whose fields are spread to today's length.
use Rattle.std.specs.Prelude.{ℕ, zero, suc, ◌+◌, ◌*◌, List, ◌∷◌, ◌++◌, get_or, take, drop, replicate}
use Rattle.record_slots.specs.Layout.{first_at, form_unit, this_form}

-- how many words a field had, and how many more it has today
abbrev pub first_field : ℕ
first_field = 5

abbrev pub grown_by : ℕ
grown_by = 4

-- how many fields a row has, and how many words more today's row has behind them
abbrev pub fields : ℕ
fields = 50

abbrev pub behind : ℕ
behind = 56

-- zeros behind each of so many fields, and the words behind them as they are
unfoldable pub spread_fields : ℕ → List ℕ → List ℕ
spread_fields zero words = words
spread_fields (suc count) words = take first_field words ++ (replicate grown_by 0 ++ spread_fields count (drop first_field words))

-- today's form in the first word, and zeros behind each field and behind the last word
unfoldable pub spread : List ℕ → List ℕ
spread words = (get_or words 0 0 + form_unit * this_form.number) ∷ get_or words 1 0 ∷ get_or words 2 0 ∷ (spread_fields fields (drop first_at words) ++ replicate behind 0)
