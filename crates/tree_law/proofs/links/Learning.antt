-- What a step with its answer lets its actor know, by kinds.
use Rattle.tree_law.proofs.Words.{false, suc, true, ℕ, zero, Answer, Whether, Content, Number, StepOf, ReuseRows, ReusePids, Leave, TakePid, Row, Place, TakeRow, Slot, Enter, Epoch, PidBits, Exchange}
use Rattle.tree_law.proofs.Words.{RowBits, Announce, Record, Knowledge, learn, Empty, OwnRow, after_exchange, set_page, Limbos, learn_head}
use Rattle.traces.specs.discipline.Knowledge.{learn_slot, learn_record, learn_word, after_leave}

-- an actor that goes on is neither entering nor leaving
abbrev pub Stays : StepOf Record → Type 0
Stays (Enter e) = ⊥
Stays Leave = ⊥
Stays s = Unit {0}

pub data Learning (k : Knowledge) : StepOf Record → Answer Record → Knowledge → Type 0 where
  at_root : (n : ℕ) → Learning k (Slot zero) (Number n) (learn_slot zero n k)
  at_page : (p n : ℕ) → Learning k (Slot (suc p)) (Number (suc n)) (learn_head (suc p) (suc n) k)
  at_row : (r : ℕ) (w : Record) → Learning k (Row r) (Content w) (record k { read = learn_record r w k.read })
  pid_word : (w n : ℕ) → Learning k (PidBits w) (Number n) (record k { asked = record k.asked { no_pids = learn_word w n k.asked.no_pids } })
  row_word : (w n : ℕ) → Learning k (RowBits w) (Number n) (record k { asked = record k.asked { no_rows = learn_word w n k.asked.no_rows } })
  takes_pid : (p : ℕ) → Learning k (TakePid p) (Whether true) (set_page p Empty k)
  wins : (p x y : ℕ) → Learning k (Exchange p x y) (Whether true) (after_exchange p x y k)
  enters : (e : ℕ) (x : Answer Record) → Learning k (Enter e) x (record k { inside = true; read = record k.read { learnt = λ row. false } })
  leaves : (x : Answer Record) → Learning k Leave x (after_leave k)
  in_rows : {s : StepOf Record} {x : Answer Record} (rows : ℕ → OwnRow) → Stays s → Learning k s x (record k { own = record k.own { rows = rows } })
  in_limbo : {s : StepOf Record} {x : Answer Record} (limbo : Limbos) → Stays s → Learning k s x (record k { limbo = limbo })
  idle : {s : StepOf Record} {x : Answer Record} → Stays s → Learning k s x k

pub learning : (k : Knowledge) (s : StepOf Record) (x : Answer Record) → Learning k s x (learn k s x)
learning k (Slot zero) (Number n) = at_root n
learning k (Slot (suc p)) (Number zero) = idle tt
learning k (Slot (suc p)) (Number (suc n)) = at_page p n
learning k (Row r) (Content w) = at_row r w
learning k Epoch (Number n) = in_limbo (learn k Epoch (Number n)).limbo tt
learning k (Announce b) (Number n) = in_limbo (learn k (Announce b) (Number n)).limbo tt
learning k (PidBits w) (Number n) = pid_word w n
learning k (RowBits w) (Number n) = row_word w n
learning k (TakePid p) (Whether true) = takes_pid p
learning k (TakeRow r) (Whether true) = in_rows (learn k (TakeRow r) (Whether true)).own.rows tt
learning k (Place r w) x = in_rows (learn k (Place r w) x).own.rows tt
learning k (Exchange p x y) (Whether true) = wins p x y
learning k (Enter e) x = enters e x
learning k Leave x = leaves x
learning k (ReusePids w bits) x = in_limbo (learn k (ReusePids w bits) x).limbo tt
learning k (ReuseRows w bits) x = in_limbo (learn k (ReuseRows w bits) x).limbo tt
learning k s x = idle tt
