-- What one step on a log's table does to its seat.
use Rattle.std.specs.Prelude.{◌≡◌, ◌≢◌, ◌+◌, ◌<◌, ◌⊎◌, ◌∷◌, [], ℕ, List, length}
use Rattle.atomic_table.specs.Table.{Me, rest}
use Rattle.call_log.specs.declared.log.Authors.{Authors}
use Rattle.call_log.specs.declared.log.Authors.TheVariants.{AllFrom, Nobody, One}
use Rattle.call_log.specs.declared.log.Deed.{Deed}
use Rattle.call_log.specs.declared.log.Deed.TheVariants.{Began, Closed, Emptied, Ended}
use Rattle.call_log.specs.declared.log.Event.{Event}
use Rattle.call_log.specs.declared.log.Knows.{Knows}
use Rattle.call_log.specs.Logs.{Ends, GoesOn, HasAll, HasAuthor, IsLog, WritesAs, by, cell_of, home, out, stage_of}
use Rattle.call_log.specs.Rule.{all_of, knows}

-- what a seat of the table knows, and the slots that it has out
abbrev pub Mine : Type 0 → Type 0
Mine S = Me S (Knows S)

-- the authors without the first one, and that one alone
abbrev pub rest_of : Authors → Authors
rest_of Nobody = Nobody
rest_of (One number) = Nobody
rest_of (AllFrom number) = AllFrom (number + 1)

abbrev pub one_of : Authors → Authors
one_of Nobody = Nobody
one_of (One number) = One number
one_of (AllFrom number) = One number

module _ {S : Type 0} where
  abbrev pub event : ℕ → Deed S → Event S
  event author deed = record { author = author; deed = deed }

  -- The log was so at this step: it goes on from what the view had seen, and has no more by the view's authors.
  pub record WasLog (ends : Ends S) (old : Knows S) (log : List (Event S)) : Type 0 where
    pub legal : IsLog ends old.opened log
    pub seen : GoesOn log old.log
    pub alone : (author : ℕ) → HasAuthor old.authors author → by author log ≡ by author old.log

  -- The view has seen the log as it was.
  pub record HasSeen (ends : Ends S) (carried : List (ℕ × S)) (old : Knows S) (new : Mine S) : Type 0 where
    pub log : List (Event S)
    pub was : WasLog ends old log
    pub now : new ≡ (knows old.authors old.opened log, carried)

  -- The view's first author did this, behind what the log was.
  pub record HasDone (ends : Ends S) (deed : Deed S) (carried : List (ℕ × S)) (old : Knows S) (new : Mine S) : Type 0 where
    pub log : List (Event S)
    pub author : ℕ
    pub writes : WritesAs old.authors author
    pub was : WasLog ends old log
    pub legal : IsLog ends old.opened (event author deed ∷ log)
    pub now : new ≡ (knows old.authors old.opened (event author deed ∷ log), carried)

  -- The slot was taken out: this was in it.
  abbrev pub HasBegun : Ends S → ℕ → Mine S → Mine S → Type 0
  HasBegun ends n old new = (x : S) × (begun : HasDone ends (Began n) ((n, x) ∷ old.1) old.0 new) × (cell_of old.0.opened begun.log n ≡ home x)

  -- The slot wasn't there: an author had it out, and for good if the word was 2: then the tree was closed, and if it was the last slot, nothing waited; if the word
  -- was 1 and it was the last slot, something waited, or the tree was open.
  pub record HasMissed (ends : Ends S) (n found : ℕ) (old new : Mine S) : Type 0 where
    pub looked : HasSeen ends old.1 old.0 new
    pub author : ℕ
    pub x : S
    pub away : cell_of old.0.opened looked.log n ≡ out author x
    pub why : ((found ≡ 1) × (n + 1 ≡ length old.0.opened → stage_of looked.log < 2)) ⊎ ((found ≡ 2) × (0 < stage_of looked.log) × (n + 1 ≡ length old.0.opened → stage_of looked.log ≡ 2))

  -- A try to take out a slot, whose word was this.
  pub record HasTried (ends : Ends S) (n found : ℕ) (old new : Mine S) : Type 0 where
    pub hit : found ≡ 0 → HasBegun ends n old new
    pub miss : found ≢ 0 → HasMissed ends n found old new

  -- a new receipt, which has seen the log
  abbrev pub HasLooked : Ends S → List S → Mine S → Type 0
  HasLooked ends opened new = (log : List (Event S)) × IsLog ends opened log × (new ≡ (knows Nobody opened log, []))

  -- An operation can't say what the slots had, and takes that of the table's first view.
  abbrev pub Looks : Ends S → Mine S → ℕ → Mine S → Type 0
  Looks ends first found new = (opened : List S) → first.0 ≡ all_of opened → HasLooked ends opened new

  -- the view without its first author, and with that one alone
  abbrev pub others : Knows S → Knows S
  others view = knows (rest_of view.authors) view.opened view.log

  abbrev pub one : Knows S → Knows S
  one view = knows (one_of view.authors) view.opened view.log

  -- What the view's first author may still do, whatever others have done since the view saw the log.
  abbrev pub Whatever : Ends S → Knows S → (List (Event S) → ℕ → Type 0) → Type 0
  Whatever ends view may = (log : List (Event S)) (author : ℕ) → WritesAs view.authors author → WasLog ends view log → may log author

  -- the slot of this number is out with the view's first author, who took this
  abbrev pub HasOut : Knows S → ℕ → S → Type 0
  HasOut view n x = (author : ℕ) × WritesAs view.authors author × (cell_of view.opened view.log n ≡ out author x)

  -- The seat can put back the slot that it took last, with what it has there.
  pub record CanEnd (ends : Ends S) (n : ℕ) (me : Mine S) : Type 0 where
    pub x : S
    pub y : S
    pub out_there : HasOut me.0 n x
    pub carried : me.1 ≡ (n, y) ∷ rest me.1
    pub ends_so : Whatever ends me.0 (λ log author. ends me.0.opened log n x y × (stage_of log < 2))

  -- The seat has all slots out.
  pub record CanClose (me : Mine S) : Type 0 where
    pub author : ℕ
    pub writes : WritesAs me.0.authors author
    pub some : 0 < length me.0.opened
    pub opened : stage_of me.0.log ≡ 0
    pub all : HasAll me.0.opened me.0.log author

  -- The seat can leave the slot that it took last for good: the tree is closed, and it isn't the last slot.
  pub record CanLeave (n : ℕ) (me : Mine S) : Type 0 where
    pub x : S
    pub y : S
    pub out_there : HasOut me.0 n x
    pub carried : me.1 ≡ (n, y) ∷ rest me.1
    pub closed : 0 < stage_of me.0.log
    pub more : n + 1 < length me.0.opened

  -- The seat can leave the last slot for good: what waited is taken.
  pub record CanEmpty (n : ℕ) (me : Mine S) : Type 0 where
    pub x : S
    pub y : S
    pub out_there : HasOut me.0 n x
    pub carried : me.1 ≡ (n, y) ∷ rest me.1
    pub closed : stage_of me.0.log ≡ 1
    pub last : n + 1 ≡ length me.0.opened

  -- the slots that a seat has out but for the one that it took last
  abbrev pub HasEnded : Ends S → ℕ → S → S → Mine S → Mine S → Type 0
  HasEnded ends n x y old new = HasDone ends (Ended n x y) (rest old.1) old.0 new

  abbrev pub EndsSo : Ends S → ℕ → Mine S → Mine S → Type 0
  EndsSo ends n old new = (x y : S) → HasOut old.0 n x → old.1 ≡ (n, y) ∷ rest old.1 → HasEnded ends n x y old new

  abbrev pub HasClosed : Ends S → Mine S → Mine S → Type 0
  HasClosed ends old new = HasDone ends Closed old.1 old.0 new

  abbrev pub HasLeft : Ends S → Mine S → Mine S → Type 0
  HasLeft ends old new = HasSeen ends (rest old.1) old.0 new

  abbrev pub HasEmptied : Ends S → Mine S → Mine S → Type 0
  HasEmptied ends old new = HasDone ends Emptied (rest old.1) old.0 new
