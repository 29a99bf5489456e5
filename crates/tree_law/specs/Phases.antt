-- What a step makes of the lives of pages, and in which phase it has to find its page.
use Rattle.std.specs.Prelude.{◌≡◌, ℕ, zero, suc, ◌⊎◌, List, [], Some, true, false}
use Rattle.bw_model.specs.declared.step.Step.{Step as StepOf}
use Rattle.bw_model.specs.declared.step.Step.TheVariants.{Exchange, TakePid, ReusePids}
use Rattle.bw_model.specs.declared.step.Answer.{Answer}
use Rattle.bw_model.specs.declared.step.Answer.TheVariants.{Whether}
use Rattle.deltas.specs.declared.record.Record.{Record}
use Rattle.deltas.specs.declared.record.Record.TheVariants.{Base, Put, Delete, Split, Term, Hold, Remove, Merge, Unterm}
use Rattle.traces.specs.chain.Chains.{IsChainFrom, right_in}
use Rattle.traces.specs.discipline.Discipline.{root_over}
use Rattle.traces.specs.chain.Unheld.{IsUnheld}
use Rattle.tree_limits.specs.Words.{is_among}
use Rattle.tree_law.specs.Keys.{Key, IsBelow}
use Rattle.tree_law.specs.Phase.{Stage, Fresh, Indexed, Held, Removed, Merged, PageOwner, Nobody, Keeps, Placed, Cleared}
use Rattle.tree_law.specs.Put.{put}
use Rattle.tree_law.specs.Shared.{Shared}

-- the page q is the right of page p
abbrev pub IsRightOf : Shared → ℕ → ℕ → Type 0
IsRightOf m p q = (x : ℕ) × (chain : List Record) × (m.slots p ≡ Some x) × IsChainFrom m.rows x chain × (right_in chain ≡ Some q)

-- no term of page p is held
abbrev pub StandsUnheld : Shared → ℕ → Type 0
StandsUnheld m p = (x : ℕ) × (chain : List Record) × (m.slots p ≡ Some x) × IsChainFrom m.rows x chain × IsUnheld chain

-- an exchange that links this record on page p
abbrev pub LinkMoves : Shared → ℕ → Record → ℕ → (ℕ → PageOwner) → (ℕ → PageOwner) → Type 0
LinkMoves m a (Base page) p f f' = f' ≡ f
LinkMoves m a (Put record') p f f' = f' ≡ f
LinkMoves m a (Delete record') p f f' = f' ≡ f
LinkMoves m a (Term term) p f f' = (l : ℕ) × (f term.child ≡ Placed Fresh l term.separator) × (f' ≡ put f term.child (Placed Indexed l term.separator))
LinkMoves m a (Hold hold) p f f' = (l : ℕ) × (f hold.child ≡ Placed Indexed l hold.separator) × (f' ≡ put f hold.child (Placed Held l hold.separator))
LinkMoves m a (Unterm unterm) p f f' = (l : ℕ) × (f unterm.child ≡ Placed Merged l unterm.separator) × (f' ≡ put f unterm.child (Cleared a l unterm.separator))
LinkMoves m a (Split split) p f f' = (st : Stage) × (l : ℕ) × (low : Key) × (f p ≡ Placed st l low) × (f split.page ≡ Keeps a) × (f' ≡ put f split.page (Placed Fresh l split.separator))
LinkMoves m a (Remove remove) p f f' = (l : ℕ) × (s : Key) × (f p ≡ Placed Held l s) × (f' ≡ put f p (Placed Removed l s)) × StandsUnheld m p
LinkMoves m a (Merge merge) p f f' = (q l : ℕ) × (f q ≡ Placed Removed l merge.low) × (f' ≡ put f q (Placed Merged l merge.low)) × IsRightOf m p q

-- A won exchange of slot 0 puts the new page above the old root, whose right becomes indexed with it. One of another slot
-- to 0 is of an own page or of one that the actor cleared; one from 0 is of an own page.
abbrev pub Exchanged : ℕ → Shared → ℕ → ℕ → ℕ → (ℕ → PageOwner) → (ℕ → PageOwner) → Type 0
Exchanged a m zero x y f f' =
    (b l : ℕ) × (s : Key) × (f x ≡ Placed Indexed l []) × (f b ≡ Placed Fresh l s) × (f y ≡ Keeps a) ×
    (f' ≡ put (put f b (Placed Indexed l s)) y (Placed Indexed (suc l) [])) ×
    ((r level : ℕ) × (m.slots y ≡ Some r) × (m.rows r ≡ Some (root_over level x s b))) × IsBelow [] s
Exchanged a m (suc p) x zero f f' = (f' ≡ f) × ((f (suc p) ≡ Keeps a) ⊎ ((l : ℕ) × (s : Key) × (f (suc p) ≡ Cleared a l s)))
Exchanged a m (suc p) zero (suc y) f f' = (f' ≡ f) × (f (suc p) ≡ Keeps a)
Exchanged a m (suc p) (suc x) (suc y) f f' = (w : Record) × (m.rows (suc y) ≡ Some w) × LinkMoves m a w (suc p) f f'

abbrev pub Phased : ℕ → Shared → StepOf Record → Answer Record → (ℕ → PageOwner) → (ℕ → PageOwner) → Type 0
Phased a m (TakePid q) (Whether true) f f' = f' ≡ put f q (Keeps a)
Phased a m (Exchange p x y) (Whether true) f f' = Exchanged a m p x y f f'
Phased a m (ReusePids word bits) x f f' = (q : ℕ) → (is_among word bits q ≡ true → (b l : ℕ) × (low : Key) × (f q ≡ Cleared b l low) × (f' q ≡ Nobody)) × (is_among word bits q ≡ false → f' q ≡ f q)
Phased a m s x f f' = f' ≡ f
