-- What an operation recalls of its own reads, and which of its steps a cause pays for.
use Rattle.std.specs.Prelude.{◌≡◌, ◌≢◌, ◌<◌, ◌+◌, ◌*◌, ◌/◌, ◌%◌, ◌^◌, ◌⊎◌, ◌||◌, ◌&&◌, ltb, not, if◌then◌else◌, ℕ, zero, suc, List, [], ◌∷◌, Bool, true, false, Option, None, Some, IsTrue, IsFalse, ⊤}
use Rattle.std.specs.Int.{bit_at}
use Rattle.std.specs.List.{fold}
use Rattle.tree_limits.specs.declared.limits.Limits.{Limits}
use Rattle.bw_model.specs.declared.step.Answer.{Answer}
use Rattle.bw_model.specs.declared.step.Answer.TheVariants.{Number, Content, Whether}
use Rattle.bw_model.specs.declared.step.Step.{Step as StepOf}
use Rattle.bw_model.specs.declared.step.Step.TheVariants.{Slot, Row, PidBits, RowBits, Exchange, TakePid, TakeRow, Leave}
use Rattle.deltas.specs.declared.record.Record.{Record}
use Rattle.deltas.specs.declared.record.Record.TheVariants.{Remove}
use Rattle.deltas.specs.Memory.{replaced_at}
use Rattle.deltas.specs.NamedPages.{NamesPage}
use Rattle.traces.specs.declared.trace.Entry.{Entry}
use Rattle.traces.specs.declared.trace.Entry.TheVariants.{Begin, Step}

-- what it has read since it last read slot 0, unless it has left since then
pub record Walk : Type 0 where
  pub rooted : Bool  -- whether it has read slot 0
  pub visited : List ℕ  -- pages whose slots it has read, the last one first; once it has gone on from a removed page, those since then
  pub records : List Record  -- records that it has read, the last one first
  pub removed : Bool  -- whether one of these removes a page
  pub level : ℕ  -- the level of the last such record that was a cause
  pub passed : Bool  -- whether it has gone on from there: it has read a slot since

pub record Recalled : Type 0 where
  pub heads : ℕ → Option ℕ  -- slots, as last read since its last exchange of the slot
  pub pids : ℕ → Option ℕ  -- words of free PIDs, as last read since its last take
  pub rows : ℕ → Option ℕ  -- words of free rows, as last read since its last take
  pub walk : Walk

abbrev pub no_walk : Walk
no_walk = record { rooted = false; visited = []; records = []; removed = false; level = 0; passed = false }

abbrev pub blank : Recalled
blank = record { heads = λ slot. None; pids = λ word. None; rows = λ word. None; walk = no_walk }

abbrev pub is_removal : Record → Bool
is_removal (Remove remove) = true
is_removal _ = false

-- the level of a removal
abbrev pub removal_level : Record → ℕ
removal_level (Remove remove) = remove.level
removal_level _ = 0

-- the record is a removal that is a cause: the first one, or of a lower level than the last one that was
abbrev pub is_lower : Record → Walk → Bool
is_lower content walk = is_removal content && (not walk.removed || ltb (removal_level content) walk.level)

-- the pages that count when the next slot is read: where a removal was read that was a cause, it is the first one
abbrev pub trail : Walk → List ℕ
trail walk = if walk.removed && not walk.passed then [] else walk.visited

-- a slot was read: with slot 0 a walk begins
abbrev pub visit : ℕ → Walk → Walk
visit zero walk = record no_walk { rooted = true }
visit (suc page) walk = record walk { visited = suc page ∷ trail walk; passed = walk.removed }

-- a record was read
abbrev pub note : Record → Walk → Walk
note content walk = record walk {
  records = content ∷ walk.records;
  removed = is_removal content || walk.removed;
  level = if is_lower content walk then removal_level content else walk.level;
  passed = if is_lower content walk then false else walk.passed;
}

abbrev pub recall : Recalled → StepOf Record → Answer Record → Recalled
recall r (Slot slot) (Number n) = record r { heads = replaced_at slot (Some n) r.heads; walk = visit slot r.walk }
recall r (Row row) (Content content) = record r { walk = note content r.walk }
recall r (PidBits word) (Number bits) = record r { pids = replaced_at word (Some bits) r.pids }
recall r (RowBits word) (Number bits) = record r { rows = replaced_at word (Some bits) r.rows }
recall r (Exchange slot old new) answer = record r { heads = replaced_at slot None r.heads }
recall r (TakePid pid) answer = record r { pids = λ word. None; rows = λ word. None }
recall r (TakeRow row) answer = record r { pids = λ word. None; rows = λ word. None }
recall r Leave answer = record r { walk = no_walk }
recall r step answer = r

abbrev pub recalls_after : (ℕ → Recalled) → Entry → ℕ → Recalled
recalls_after rs (Begin actor command) = replaced_at actor blank rs
recalls_after rs (Step actor step answer reply) = replaced_at actor (recall (rs actor) step answer) rs

-- what each actor recalls after the entries
abbrev pub recalls : List Entry → ℕ → Recalled
recalls entries = fold recalls_after (λ actor. blank) entries

-- the slot was read, with a number in it
abbrev pub WasHead : Recalled → ℕ → ℕ → Type 0
WasHead r slot number = (0 < number) × (r.heads slot ≡ Some number)

-- the number was free in its word
abbrev pub WasFree : (ℕ → Option ℕ) → ℕ → Type 0
WasFree words number = (bits : ℕ) × (words (number / 64) ≡ Some bits) × (bit_at bits (number % 64) ≡ 1)

-- the page is none of these
abbrev pub IsUnread : ℕ → List ℕ → Type 0
IsUnread page [] = ⊤
IsUnread page (other ∷ others) = (page ≢ other) × IsUnread page others

-- one of the records names the page
abbrev pub AnyNames : List Record → ℕ → Type 0
AnyNames [] page = ⊥
AnyNames (content ∷ contents) page = NamesPage content page ⊎ AnyNames contents page

-- The step is a cause: an exchange over a number that was read in the slot, whether it won or not (the slot of an own page is
-- never read, so filling it, and emptying it again, pays nothing); a take that missed a number that was free; since slot 0
-- was last read, the first removal, and each one of a lower level than those that were causes; or, before the first, the first read of
-- a page's slot that holds 0, though a record names the page.
abbrev pub IsPaid : Recalled → StepOf Record → Answer Record → Type 0
IsPaid r (Exchange slot old new) (Whether won) = WasHead r slot old
IsPaid r (TakePid pid) (Whether false) = WasFree r.pids pid
IsPaid r (TakeRow row) (Whether false) = WasFree r.rows row
IsPaid r (Slot (suc page)) (Number zero) = IsTrue r.walk.rooted × IsFalse r.walk.removed × IsUnread (suc page) r.walk.visited × AnyNames r.walk.records (suc page)
IsPaid r (Row row) (Content (Remove remove)) = IsTrue r.walk.rooted × IsTrue (is_lower (Remove remove) r.walk)
IsPaid r step answer = ⊥

-- Of the steps that were left at most there are fewer now, or the step was a cause, and is worth that many more.
abbrev pub IsSpentWith : ℕ → Recalled → StepOf Record → Answer Record → ℕ → ℕ → Type 0
IsSpentWith worth r step answer left rest = (rest < left) ⊎ (IsPaid r step answer × (rest < left + worth))

-- how many reads a round takes at most: slot 0, and of each page the slot and 13 records
abbrev pub few_reads : Limits → ℕ
few_reads limits = 1 + 14 * limits.pids

-- how many steps a cause is worth: 2^18, and in a large tree 48 more for each PID, and one for each row
unfoldable pub cause_worth : Limits → ℕ
cause_worth limits = if limits.is_large then 2 ^ 18 + (48 * limits.pids + limits.rows) else 2 ^ 18

-- of an operation: a cause is worth so many steps
abbrev pub IsStepSpent : Limits → Recalled → StepOf Record → Answer Record → ℕ → ℕ → Type 0
IsStepSpent limits r step answer left rest = IsSpentWith (cause_worth limits) r step answer left rest
