-- Tests of the entries of runs that are written out, and what follows where all of them pass.
use Rattle.std.proofs.Common.{◌≡◌, ◌==◌, ◌||◌, ℕ, List, [], ◌∷◌, Bool, true, false, Some, None, Option, refl, inl, inr, lit<}
use Rattle.linearization.proofs.Words.{not, eqb-true, Command, StepOf, Answer, Record, Entry, IsChainOf, MayPlace, memory_at, memory_of, TakesStep, small, opening_leaf}
use Rattle.bw_model.specs.declared.command.Reply.{Reply}
use Rattle.bw_model.specs.declared.step.Step.TheVariants.{Row, Exchange, Announce, ReusePids, ReuseRows}
use Rattle.bw_model.specs.declared.step.Answer.TheVariants.{Whether}
use Rattle.traces.specs.declared.trace.Entry.TheVariants.{Begin, Step}
use Rattle.traces.proofs.ChainLaws.{unplaced}
use Rattle.linearization.specs.Faithful.{touches_pages}
use Rattle.linearization.proofs.Listed.{all_at, passes_at}

abbrev pub is_of : ℕ → Entry → Bool
is_of a (Begin actor command) = actor == a
is_of a (Step actor step answer reply) = actor == a

abbrev pub is_begin : Entry → Bool
is_begin (Begin actor command) = true
is_begin (Step actor step answer reply) = false

abbrev pub is_done : Entry → Bool
is_done (Step actor step answer (Some reply)) = true
is_done _ = false

abbrev pub reads_row : Entry → Bool
reads_row (Step actor (Row row) answer reply) = true
reads_row _ = false

abbrev pub wins : Entry → Bool
wins (Step actor (Exchange slot old new) (Whether true) reply) = true
wins _ = false

abbrev pub frees_rows : Entry → Bool
frees_rows (Step actor (ReuseRows word bits) answer reply) = true
frees_rows _ = false

abbrev pub frees_pids : Entry → Bool
frees_pids (Step actor (ReusePids word bits) answer reply) = true
frees_pids _ = false

abbrev pub reads_announced : Entry → Bool
reads_announced (Step actor (Announce other) answer reply) = true
reads_announced _ = false

-- the step is taken inside the epoch, or touches no page
abbrev pub is_inside : List Entry → ℕ → Entry → Bool
is_inside entries n (Begin actor command) = true
is_inside entries n (Step actor step answer reply) = not ((memory_at small entries n).announced actor == 0) || not (touches_pages step)

-- each entry is the actor's
pub own : (a : ℕ) (entries : List Entry) → all_at (λ n. is_of a) entries ≡ true → (n actor : ℕ) (step : StepOf Record) (answer : Answer Record) → TakesStep entries n actor step answer → actor ≡ a
own a entries all n actor step answer h = eqb-true actor a (passes_at (λ k. is_of a) entries all n _ h.1)

-- where nobody else took a step, a taken row without a record may be written
pub may_place : (entries : List Entry) (row : ℕ) → all_at (λ n. is_of 0) entries ≡ true → (memory_of small entries).free_rows row ≡ false
    → (memory_of small entries).rows row ≡ None → MayPlace small entries 0 row
may_place entries row all taken empty = record {
  taken = taken;
  unlinked = unplaced (memory_of small entries) row empty;
  unlearnt = λ other differs learnt. differs (elim learnt.1 [ inl shown ↦ own 0 entries all learnt.0 other _ _ shown.2 | inr shown ↦ own 0 entries all learnt.0 other _ _ shown.2 ]);
}

-- the page of the opening tree, as long as nobody has written its slot
pub leaf_at : (entries : List Entry) (k : ℕ) → (memory_at small entries k).slots 1 ≡ 1 → (memory_at small entries k).rows 1 ≡ Some opening_leaf
    → IsChainOf (memory_at small entries k) 1 (opening_leaf ∷ [])
leaf_at entries k slot row = record { page = lit< tt; linked = rw slot (lit< tt); records = rw slot (row, refl) }

-- outside the epoch no page is touched
pub outside : (entries : List Entry) → all_at (is_inside entries) entries ≡ true → (n actor : ℕ) (step : StepOf Record) (answer : Answer Record) → TakesStep entries n actor step answer
    → (memory_at small entries n).announced actor ≡ 0 → touches_pages step ≡ false
outside entries all n actor step answer h none = by_test ((memory_at small entries n).announced actor) (touches_pages step) none (passes_at (is_inside entries) entries all n _ h.1)
  where
    by_test : (announced : ℕ) (touches : Bool) → announced ≡ 0 → (not (announced == 0) || not touches) ≡ true → touches ≡ false
    by_test announced false none passes = refl
    by_test announced true none passes = let odd : (not (0 == 0) || not true) ≡ true = rw none at passes in cc

-- two entries that are one

pub one_begin : {a b : ℕ} {c d : Command} → Some (Begin a c) ≡ Some (Begin b d) → (b ≡ a) × (d ≡ c)
one_begin e = (cc, cc)

pub one_reply : {a b : ℕ} {s t : StepOf Record} {x y : Answer Record} {r u : Reply} → Some (Step a s x (Some r)) ≡ Some (Step b t y (Some u)) → u ≡ r
one_reply e = cc

pub one_row : {a b row other : ℕ} {x y : Answer Record} {r u : Option Reply} → Some (Step a (Row row) x r) ≡ Some (Step b (Row other) y u) → (b ≡ a) × (other ≡ row)
one_row e = (cc, cc)

pub one_reuse : {a b word other bits more : ℕ} {x y : Answer Record} {r u : Option Reply}
    → Some (Step a (ReuseRows word bits) x r) ≡ Some (Step b (ReuseRows other more) y u) → (b ≡ a) × (other ≡ word) × (more ≡ bits)
one_reuse e = (cc, cc, cc)
