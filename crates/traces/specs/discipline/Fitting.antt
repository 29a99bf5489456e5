-- What an actor may count on of an answer, by what it knows.
use Rattle.std.specs.Prelude.{◌≡◌, ◌⊎◌, ◌<◌, ◌≤◌, ◌+◌, ◌*◌, ◌^◌, ℕ, zero, suc, List, [], ◌∷◌, ◌++◌, length, Bool, Some, None, IsTrue, IsFalse, IfSome, true, false, ⊤}
use Rattle.std.specs.Int.{bit_at}
use Rattle.tree_limits.specs.declared.limits.Limits.{Limits}
use Rattle.bw_model.specs.declared.step.Step.{Step as StepOf}
use Rattle.bw_model.specs.declared.step.Step.TheVariants.{Slot, Row, Epoch, Announce, PidBits, RowBits, Place, Exchange, TakePid, TakeRow, Enter, Leave, Retire, ReusePids, ReuseRows}
use Rattle.bw_model.specs.declared.step.Answer.{Answer}
use Rattle.bw_model.specs.declared.step.Answer.TheVariants.{Number, Content, Whether, Done}
use Rattle.base_page.specs.declared.item.Content.TheVariants.{Child}
use Rattle.deltas.specs.declared.record.Record.{Record}
use Rattle.deltas.specs.Records.{next_row}
use Rattle.deltas.specs.Spellable.{IsSpellable}
use Rattle.traces.specs.chain.Chains.{IsChainFrom, IsFront, content_in, level_in, low_in, high_in, right_in, is_removed, covers}
use Rattle.traces.specs.chain.Fitted.{IsPageChain}
use Rattle.traces.specs.discipline.Knowledge.{Foreign, Other, Empty, Ready, Gone, Absent, Knowledge, is_on_walk}
use Rattle.traces.specs.discipline.Discipline.{HasRead, IsBeyond}

-- a number that a word of free bits shows as free is above 0 and below the limit
pub record FitsWord (limit word bits : ℕ) : Type 0 where
  pub fits : bits < 2 ^ 64
  pub below : (i : ℕ) → i < 64 → bit_at bits i ≡ 1 → (0 < 64 * word + i) × (64 * word + i < limit)

-- What a chain says of a page, as its right or as a child, is so of the page's chain.
pub record SaysOf (naming : List Record) (page : ℕ) (chain : List Record) : Type 0 where
  pub right : right_in naming ≡ Some page → (level_in chain ≡ level_in naming) × (high_in naming ≡ Some (low_in chain))
  pub child : (level : ℕ) (key : List ℕ) (held : Bool) → level_in naming ≡ suc level → IsTrue (covers naming key)
      → content_in naming key ≡ Some (Child page held) → (level_in chain ≡ level) × (low_in chain ≡ key)

-- What was read whole of a page is a page's chain, which is as was said of the page, by slot 0 or by the chain of a page that
-- is not removed, as its slot was last read, or by its right that had been read removed; unless it is removed itself, what it says
-- of pages that were read, and of its own, is so, and the pages that it names are below the limit; and so it is with what its right
-- says that had been read removed.
pub record IsReadWhole (limits : Limits) (k : Knowledge) (page : ℕ) (chain : List Record) : Type 0 where
  pub is_chain : IsPageChain chain
  pub root : IsTrue (k.read.roots page) → low_in chain ≡ []
  pub named : (other row : ℕ) (basis : HasRead k other row) → SaysOf basis.chain page chain
  pub beside : (other row : ℕ) (basis : HasRead k other row) (b : IsBeyond k other basis.chain page) → SaysOf b.chain page chain
  pub own : IsFalse (is_removed chain) → SaysOf chain page chain
  pub names : IsFalse (is_removed chain) → (other row : ℕ) (read : List Record) → k.read.heads other ≡ Some row → IsChainFrom k.read.seen row read → SaysOf chain other read
  pub right : IsFalse (is_removed chain) → (other : ℕ) → right_in chain ≡ Some other → (0 < other) × (other < limits.pids)
  pub child : IsFalse (is_removed chain) → (level other : ℕ) (key : List ℕ) (held : Bool) → level_in chain ≡ suc level → IsTrue (covers chain key)
      → content_in chain key ≡ Some (Child other held) → (0 < other) × (other < limits.pids)
  pub beyond : IsFalse (is_removed chain) → (next : ℕ) (b : IsBeyond k page chain next) → (0 < next) × (next < limits.pids) × SaysOf b.chain page chain
      × ((other row : ℕ) (read : List Record) → k.read.heads other ≡ Some row → IsChainFrom k.read.seen row read → SaysOf b.chain other read)

-- the page's slot was last read as this row, from which a removed chain was read
pub record ReadsRemoved (k : Knowledge) (page row : ℕ) : Type 0 where
  pub head : k.read.heads page ≡ Some row
  pub chain : List Record
  pub read : IsChainFrom k.read.seen row chain
  pub gone : IsTrue (is_removed chain)

-- A record that is read is the one that was read there before, is one that a row can spell, and leads to a row. A chain that is being read has no more
-- than 13 records; where this is its last one, it was read whole.
pub record FitsRow (limits : Limits) (k : Knowledge) (row : ℕ) (content : Record) : Type 0 where
  pub same : (before : Record) → k.read.seen row ≡ Some before → content ≡ before
  pub spellable : IsSpellable content
  pub next : IfSome (next_row content) (λ under. (0 < under) × (under < limits.rows))
  pub short : (page head : ℕ) (front : List Record) → k.read.heads page ≡ Some head → IsFront k.read.seen head front row → length front < 13
  pub whole : (page head : ℕ) (front : List Record) → k.read.heads page ≡ Some head → IsFront k.read.seen head front row → next_row content ≡ None → IsReadWhole limits k page (front ++ content ∷ [])

-- a row that was taken is below the limit, was not the actor's before nor in its limbo, and is on no chain that it has read
pub record FitsTaken (limits : Limits) (k : Knowledge) (row : ℕ) : Type 0 where
  pub some : 0 < row
  pub below : row < limits.rows
  pub foreign : k.own.rows row ≡ Foreign
  pub unlearnt : k.read.learnt row ≡ false
  pub unseen : k.read.seen row ≡ None
  pub freed : k.limbo.rows row ≡ Absent

-- a PID that was taken is below the limit, was not the actor's before nor in its limbo, and is of no page that it has read
pub record FitsTakenPid (limits : Limits) (k : Knowledge) (pid : ℕ) : Type 0 where
  pub some : 0 < pid
  pub below : pid < limits.pids
  pub other : k.own.pages pid ≡ Other
  pub unread : k.read.heads pid ≡ None
  pub freed : k.limbo.pids pid ≡ Absent

-- The rows of the chain from this row on, as far as it was read, are rows that there are, and none is in limbo.
abbrev pub AreOutOfLimbo : Limits → Knowledge → ℕ → Type 0
AreOutOfLimbo limits k first = (row : ℕ) → IsTrue (is_on_walk 13 k.read.seen (Some first) row) → (0 < row) × (row < limits.rows) × (k.limbo.rows row ≡ Absent)

-- An exchange of an own page's slot, from 0 or back to 0, wins; so does the one to 0 of a page whose term the actor took out,
-- where its slot was read as this removed chain. One that links a row does not win on an own page. What an exchange takes out of
-- the tree was in no limbo.
abbrev pub FitsExchange : Limits → Knowledge → ℕ → ℕ → ℕ → Bool → Type 0
FitsExchange limits k zero old new went = ⊤
FitsExchange limits k (suc page) zero new went = went ≡ true
FitsExchange limits k (suc page) (suc old) zero went = (k.own.pages (suc page) ≡ Ready (suc old) → went ≡ true)
    × (k.own.pages (suc page) ≡ Gone → ReadsRemoved k (suc page) (suc old) → went ≡ true)
    × (went ≡ true → k.own.pages (suc page) ≡ Gone → (k.limbo.pids (suc page) ≡ Absent) × AreOutOfLimbo limits k (suc old))
FitsExchange limits k (suc page) (suc old) (suc new) went = went ≡ true → (k.own.pages (suc page) ≡ Other) × AreOutOfLimbo limits k (suc old)

-- Slot 0 has a PID, of a page that begins at the empty key; another slot that may be read has a row, or 0 if its page was cleared,
-- which no page is that was the root; one that was read removed stays as it was until then; and it is not the slot of a page
-- that the actor took and has not set. The epoch never goes back.
abbrev pub Fits : Limits → Knowledge → StepOf Record → Answer Record → Type 0
Fits limits k (Slot zero) (Number n) = (0 < n) × (n < limits.pids) × ((head : ℕ) (chain : List Record) → k.read.heads n ≡ Some head → IsChainFrom k.read.seen head chain → low_in chain ≡ [])
Fits limits k (Slot (suc page)) (Number n) =
    (n < limits.rows) × (IsTrue (k.read.roots (suc page)) → 0 < n) × ((head : ℕ) → ReadsRemoved k (suc page) head → (n ≡ head) ⊎ (n ≡ 0)) × (k.own.pages (suc page) ≡ Empty → ⊥)
Fits limits k (Row row) (Content content) = FitsRow limits k row content
Fits limits k Epoch (Number n) = (0 < n) × (n ≤ 2 ^ 62) × IfSome k.limbo.epoch (λ before. before ≤ n)
Fits limits k (Announce other) (Number n) = n ≤ 2 ^ 62
Fits limits k (PidBits word) (Number bits) = FitsWord limits.pids word bits
Fits limits k (RowBits word) (Number bits) = FitsWord limits.rows word bits
Fits limits k (TakePid pid) (Whether true) = FitsTakenPid limits k pid
Fits limits k (TakePid pid) (Whether false) = ⊤
Fits limits k (TakeRow row) (Whether true) = FitsTaken limits k row
Fits limits k (TakeRow row) (Whether false) = ⊤
Fits limits k (Place row content) Done = ⊤
Fits limits k (Exchange slot old new) (Whether went) = FitsExchange limits k slot old new went
Fits limits k (Enter epoch) Done = ⊤
Fits limits k Leave Done = ⊤
Fits limits k (Retire epoch) (Whether went) = ⊤
Fits limits k (ReusePids word bits) Done = ⊤
Fits limits k (ReuseRows word bits) Done = ⊤
Fits limits k step answer = ⊥
