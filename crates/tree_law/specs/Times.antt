-- When rows and pages were taken out of the tree, when actors entered, and so what an actor that is inside may still hold.
use Rattle.std.specs.Prelude.{◌≡◌, ◌<◌, ◌≤◌, ◌==◌, ◌&&◌, ◌⊎◌, ℕ, zero, suc, List, Option, Some, None, IfSome, Bool, true, false, if◌then◌else◌, ⊤}
use Rattle.tree_limits.specs.declared.limits.Limits.{Limits}
use Rattle.bw_model.specs.declared.step.Step.{Step as StepOf}
use Rattle.bw_model.specs.declared.step.Step.TheVariants.{Exchange, Enter, ReusePids, ReuseRows}
use Rattle.bw_model.specs.declared.step.Answer.{Answer}
use Rattle.bw_model.specs.declared.step.Answer.TheVariants.{Whether}
use Rattle.base_page.specs.declared.item.Content.{Content}
use Rattle.deltas.specs.declared.record.Record.{Record}
use Rattle.deltas.specs.declared.record.Record.TheVariants.{Base, Split}
use Rattle.deltas.specs.Memory.{Memory, replaced_at}
use Rattle.deltas.specs.Records.{next_row}
use Rattle.traces.specs.chain.Chains.{IsChainFrom, content_in, level_in, right_in, is_removed}
use Rattle.traces.specs.discipline.Discipline.{IsOwn, IsOwnBase}
use Rattle.traces.specs.discipline.Knowledge.{Ready, Gone, LimboMark, Absent, Unstamped, Stamped, Knowledge}
use Rattle.tree_limits.specs.Words.{is_among}
use Rattle.tree_law.specs.Keys.{Key, Covers}
use Rattle.tree_law.specs.Owners.{Owner, Spare, Linked, Owners, Reached}
use Rattle.tree_law.specs.Phase.{PageOwner, Cleared, child_of}
use Rattle.tree_law.specs.Shared.{slot_in}

-- At which step, at which epoch and by whom a row or a page was taken out of the tree.
pub record Outing : Type 0 where
  pub at : ℕ
  pub epoch : ℕ
  pub who : ℕ

pub record Times : Type 0 where
  pub entered : ℕ → ℕ  -- at which step an actor entered last
  pub home : ℕ → ℕ  -- on which page a linked row is, or was
  pub row_out : ℕ → Option Outing
  pub page_out : ℕ → Option Outing

-- It is in the tree, or was taken out of it at that time or later.
abbrev pub IsSince : ℕ → Option Outing → Type 0
IsSince entered out = IfSome out (λ w. entered ≤ w.at)

-- What the chain names was in the tree at that time.
pub record NamesSince (page_out : ℕ → Option Outing) (entered : ℕ) (c : List Record) : Type 0 where
  pub right : (q : ℕ) → right_in c ≡ Some q → IsSince entered (page_out q)
  pub items : (l : ℕ) (s : Key) (i : Content) → level_in c ≡ suc l → Covers c s → content_in c s ≡ Some i → IsSince entered (page_out (child_of i))

-- a slot that was read by an actor that entered then
pub record HeldHead (rows : ℕ → Option Record) (page_out : ℕ → Option Outing) (entered : ℕ) (learnt : ℕ → Bool) (p x : ℕ) : Type 0 where
  pub learnt_row : learnt x ≡ true
  pub page : IsSince entered (page_out p)
  pub chain : List Record
  pub is_chain : IsChainFrom rows x chain
  pub names : is_removed chain ≡ false → NamesSince page_out entered chain

-- a slot that was read before that of the left page
pub record HeldBeside (rows : ℕ → Option Record) (page_out : ℕ → Option Outing) (entered f y x : ℕ) : Type 0 where
  pub chain : List Record
  pub is_chain : IsChainFrom rows x chain
  pub left : List Record
  pub is_left : IsChainFrom rows y left
  pub since : is_removed chain ≡ true → is_removed left ≡ false → right_in left ≡ Some f → NamesSince page_out entered chain

-- what an actor knows, it knows from this stay, and it was in the tree when the stay began
pub record Holds (rows : ℕ → Option Record) (row_out page_out : ℕ → Option Outing) (entered : ℕ) (inside : Bool) (seen : ℕ → Option Record)
    (learnt roots : ℕ → Bool) (heads : ℕ → Option ℕ) (before : ℕ → ℕ → Option ℕ) (linked : Option (Option ℕ)) : Type
    0 where
  pub learnt_inside : (r : ℕ) → learnt r ≡ true → inside ≡ true
  pub learnt_since : (r : ℕ) → learnt r ≡ true → IsSince entered (row_out r)
  pub seen_learnt : (r : ℕ) (w : Record) → seen r ≡ Some w → learnt r ≡ true
  pub roots_inside : (p : ℕ) → roots p ≡ true → inside ≡ true
  pub roots_since : (p : ℕ) → roots p ≡ true → IsSince entered (page_out p)
  pub heads_since : (p x : ℕ) → heads p ≡ Some x → HeldHead rows page_out entered learnt p x
  pub before_since : (p f x : ℕ) → before p f ≡ Some x → HeldHead rows page_out entered learnt f x
  pub beside_since : (p f y x : ℕ) → heads p ≡ Some y → before p f ≡ Some x → HeldBeside rows page_out entered f y x
  pub linked_learnt : (x : ℕ) → linked ≡ Some (Some x) → learnt x ≡ true

-- while an actor is inside, its announced epoch is not above that of what it may still hold
pub record IsAnnounced (t : Times) (epoch announced now entered : ℕ) : Type 0 where
  pub some : 0 < announced
  pub old : announced ≤ epoch
  pub past : entered < now
  pub rows : (r : ℕ) (w : Outing) → t.row_out r ≡ Some w → entered ≤ w.at → announced ≤ w.epoch
  pub pages : (p : ℕ) (w : Outing) → t.page_out p ≡ Some w → entered ≤ w.at → announced ≤ w.epoch

-- what an actor has in its limbo it took out of the tree; an actor that passed the stamp is outside, or entered later
abbrev pub LimboFits : ℕ → (ℕ → Bool) → (ℕ → ℕ) → Option Outing → LimboMark → Type 0
LimboFits a inside entered out Absent = ⊤
LimboFits a inside entered out Unstamped = (w : Outing) × (out ≡ Some w) × (w.who ≡ a)
LimboFits a inside entered out (Stamped epoch passed) = (w : Outing) × (out ≡ Some w) × (w.who ≡ a) × (w.epoch ≤ epoch) × ((b : ℕ) → passed b ≡ true → inside b ≡ true → w.at < entered b)

pub record Timed (limits : Limits) (m : Memory) (o : Owners) (knows : ℕ → Knowledge) (now : ℕ) (t : Times) : Type 0 where
  pub within : (b : ℕ) → (knows b).inside ≡ true → b < limits.actors
  pub holds : (b : ℕ)
      → Holds m.rows t.row_out t.page_out (t.entered b) (knows b).inside (knows b).read.seen (knows b).read.learnt (knows b).read.roots (knows b).read.heads
      (knows b).read.before (knows b).asked.linked
  pub announced : (b : ℕ) → (knows b).inside ≡ true → IsAnnounced t m.epoch (m.announced b) now (t.entered b)
  pub epochs : (b e : ℕ) → (knows b).limbo.epoch ≡ Some e → e ≤ m.epoch
  -- the row in a slot of the tree is on that page, and in the tree
  pub slots : (p x l : ℕ) (s : Key) → Reached 0 l s (o.page p) → slot_in m.slots p ≡ Some x → (t.home x ≡ p) × (t.row_out x ≡ None)
  -- the rows of a chain are on one page, and are taken out together
  pub together : (r n : ℕ) (w : Record) → o.row r ≡ Linked → m.rows r ≡ Some w → next_row w ≡ Some n → (t.home n ≡ t.home r) × (t.row_out n ≡ t.row_out r)
  -- a row that is out is linked still, or is of the actor that took it out, and nobody holds it
  pub rows : (r : ℕ) (w : Outing) → t.row_out r ≡ Some w → ((o.row r ≡ Linked) ⊎ (o.row r ≡ Spare w.who)) × (w.at < now) × (w.epoch ≤ m.epoch)
  pub pages : (p : ℕ) (w : Outing) → t.page_out p ≡ Some w → ((l : ℕ) × (s : Key) × (o.page p ≡ Cleared w.who l s)) × (slot_in m.slots p ≡ None) × (w.at < now) × (w.epoch ≤ m.epoch)
  -- what is an actor's own is not out
  pub own_rows : (b r : ℕ) → IsOwn ((knows b).own.rows r) → t.row_out r ≡ None
  pub gone_pages : (b p : ℕ) → (knows b).own.pages p ≡ Gone → t.page_out p ≡ None
  pub limbo_rows : (b r : ℕ) → LimboFits b (λ c. (knows c).inside) t.entered (t.row_out r) ((knows b).limbo.rows r)
  pub limbo_pids : (b p : ℕ) → LimboFits b (λ c. (knows c).inside) t.entered (t.page_out p) ((knows b).limbo.pids p)
  -- an own base stands in one own slot at most
  pub ready : (b p r : ℕ) → (knows b).own.pages p ≡ Ready r → IsOwnBase ((knows b).own.rows r)
  pub apart : (b p q r : ℕ) → (knows b).own.pages p ≡ Ready r → (knows b).own.pages q ≡ Ready r → p ≡ q

abbrev pub is_linked : Owner → Bool
is_linked Linked = true
is_linked _ = false

abbrev pub is_cleared : PageOwner → Bool
is_cleared (Cleared actor level low) = true
is_cleared _ = false

abbrev pub is_base : Option Record → Bool
is_base (Some (Base page)) = true
is_base _ = false

-- the new page of a split
abbrev pub split_page : Option Record → ℕ
split_page (Some (Split split)) = split.page
split_page _ = 0

-- taken out now, if it was not out before
abbrev pub out_after : Option Outing → Bool → Outing → Option Outing
out_after (Some w) now out = Some w
out_after None now out = if now then Some out else None

-- the times after an actor's step, by the memory and the owners before it
abbrev pub times_after : ℕ → Memory → Owners → ℕ → StepOf Record → Answer Record → Times → Times
times_after a m o now (Enter epoch) x t = record t { entered = replaced_at a now t.entered }
times_after a m o now (Exchange zero old new) (Whether true) t = record t { home = λ r. if is_linked (o.row r) then t.home r else new }
times_after a m o now (Exchange (suc p) old zero) (Whether true) t = record t {
  row_out = λ r. out_after (t.row_out r) (is_linked (o.row r) && (t.home r == suc p)) (record { at = now; epoch = m.epoch; who = a });
  page_out = λ q. out_after (t.page_out q) ((q == suc p) && is_cleared (o.page q)) (record { at = now; epoch = m.epoch; who = a });
}
times_after a m o now (Exchange (suc p) old (suc new)) (Whether true) t = record t {
  home = λ r. if is_linked (o.row r) then t.home r else (if r == suc new then suc p else split_page (m.rows (suc new)));
  row_out = λ r. out_after (t.row_out r) (is_base (m.rows (suc new)) && (is_linked (o.row r) && (t.home r == suc p))) (record { at = now; epoch = m.epoch; who = a });
}
times_after a m o now (ReuseRows word bits) x t = record t { row_out = λ r. if is_among word bits r then None else t.row_out r }
times_after a m o now (ReusePids word bits) x t = record t { page_out = λ p. if is_among word bits p then None else t.page_out p }
times_after a m o now step x t = t
