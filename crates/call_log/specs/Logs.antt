-- The log of a handle: what was done with its slots. The last event stands first.
use Rattle.std.specs.Prelude.{◌≡◌, ◌+◌, ◌<◌, ◌≤◌, ◌++◌, ◌∷◌, [], ℕ, List, None, Option, Some, eqb, if◌then◌else◌, length, slice_get, ⊤}
use Rattle.call_log.specs.declared.log.Authors.{Authors}
use Rattle.call_log.specs.declared.log.Authors.TheVariants.{AllFrom, Nobody, One}
use Rattle.call_log.specs.declared.log.Deed.{Deed}
use Rattle.call_log.specs.declared.log.Deed.TheVariants.{Began, Closed, Emptied, Ended}
use Rattle.call_log.specs.declared.log.Event.{Event}

-- What is known of a slot: there is none; this is in it; or this author has it out, and took this.
pub data Cell (S : Type 0) : Type 0 where
  no_slot : Cell S
  home : S → Cell S
  out : ℕ → S → Cell S

-- What may be put back: in a table that was opened with these, after this log, into the slot of this number, by whoever took the first one, the second one.
abbrev pub Ends : Type 0 → Type 1
Ends S = List S → List (Event S) → ℕ → S → S → Type 0

module _ {S : Type 0} where
  abbrev pub first_cell : Option S → Cell S
  first_cell None = no_slot
  first_cell (Some x) = home x

  abbrev pub lent : ℕ → Cell S → Cell S
  lent author no_slot = no_slot
  lent author (home x) = out author x
  lent author (out other x) = out other x

  -- the slot of a number after one event
  abbrev pub cell_on : ℕ → Deed S → ℕ → Cell S → Cell S
  cell_on author (Began m) n cell = if eqb m n then lent author cell else cell
  cell_on author (Ended m x y) n cell = if eqb m n then home y else cell
  cell_on author Closed n cell = cell
  cell_on author Emptied n cell = cell

  -- and after all of them
  abbrev pub cell_of : List S → List (Event S) → ℕ → Cell S
  cell_of opened [] n = first_cell (slice_get opened n)
  cell_of opened (event ∷ log) n = cell_on event.author event.deed n (cell_of opened log n)

  abbrev pub stage_on : Deed S → ℕ → ℕ
  stage_on (Began n) stage = stage
  stage_on (Ended n x y) stage = stage
  stage_on Closed stage = 1
  stage_on Emptied stage = 2

  -- 0 while the tree is open, 1 once it is closed and what it left waits, and 2 once nothing waits
  abbrev pub stage_of : List (Event S) → ℕ
  stage_of [] = 0
  stage_of (event ∷ log) = stage_on event.deed (stage_of log)

  -- All slots are out with this author.
  abbrev pub HasAll : List S → List (Event S) → ℕ → Type 0
  HasAll opened log author = (n : ℕ) → n < length opened → (x : S) × (cell_of opened log n ≡ out author x)

  -- The deed may follow the log, by this author.
  abbrev pub MayFollow : Ends S → List S → List (Event S) → ℕ → Deed S → Type 0
  MayFollow ends opened log author (Began n) = (x : S) × (cell_of opened log n ≡ home x)
  MayFollow ends opened log author (Ended n x y) = (cell_of opened log n ≡ out author x) × ends opened log n x y × (stage_of log < 2)
  MayFollow ends opened log author Closed = (stage_of log ≡ 0) × HasAll opened log author
  MayFollow ends opened log author Emptied = (stage_of log ≡ 1) × ((n : ℕ) → n + 1 ≡ length opened → (x : S) × (cell_of opened log n ≡ out author x))

  -- Each event could follow those before it.
  abbrev pub IsLog : Ends S → List S → List (Event S) → Type 0
  IsLog ends opened [] = ⊤
  IsLog ends opened (event ∷ log) = MayFollow ends opened log event.author event.deed × IsLog ends opened log

  -- The first log goes on from the second one.
  abbrev pub GoesOn : List (Event S) → List (Event S) → Type 0
  GoesOn log before = (more : List (Event S)) × (log ≡ more ++ before)

  -- the events that this author wrote
  abbrev pub by : ℕ → List (Event S) → List (Event S)
  by author [] = []
  by author (event ∷ log) = if eqb author event.author then event ∷ by author log else by author log

abbrev pub HasAuthor : Authors → ℕ → Type 0
HasAuthor Nobody author = ⊥
HasAuthor (One number) author = author ≡ number
HasAuthor (AllFrom number) author = number ≤ author

-- The author as whom whoever has these writes is this one.
abbrev pub WritesAs : Authors → ℕ → Type 0
WritesAs Nobody author = ⊥
WritesAs (One number) author = author ≡ number
WritesAs (AllFrom number) author = author ≡ number

-- These authors have written nothing more in the second log.
abbrev pub WroteNoMore : {S : Type 0} → Authors → List (Event S) → List (Event S) → Type 0
WroteNoMore authors log later = (author : ℕ) → HasAuthor authors author → by author later ≡ by author log
