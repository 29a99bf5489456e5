-- What an actor recalls of its last operation, that operation has read.
use Rattle.tree_law.proofs.Words.{◌⊎◌, [], ap, cond, Option, suc, None, List, inl, ◌≢◌, length, ◌++◌, inr, ◌∷◌, sym, ℕ, ◌≡◌, ◌∙◌, arith, Some, eqb_tells, Reply, Limits, Answer, Content, Number}
use Rattle.tree_law.proofs.Words.{StepOf, TakePid, TakeRow, Slot, PidBits, Exchange, RowBits, replaced_at, Record, recall, Recalled, blank, Entry, Step}
use Rattle.tree_law.proofs.Words.{IsExchangeOf, IsTake, Operation, IsLast}
use Rattle.tree_law.proofs.Words.{Recollects}
use Rattle.tree_law.specs.Direct.{HasReadSince}
use Rattle.tree_law.proofs.trace.Owned.{pushed_length}
use Rattle.tree_law.proofs.trace.Searches.{takes_kept}
use Rattle.tree_law.proofs.direct.Appended.{takes_below, takes_cases, takes_last}

-- a function changed at one place has there the new value, and elsewhere the old one
at_cases : {X : Type 0} (n : ℕ) (x : X) (f : ℕ → X) (k : ℕ) (y : X) → replaced_at n x f k ≡ y → ((k ≡ n) × (x ≡ y)) ⊎ ((k ≢ n) × (f k ≡ y))
at_cases {X} n x f k y e = elim (eqb_tells k n) [
  | inl same ↦ inl (same.1, sym (ap (λ t. cond t x (f k)) same.0) ∙ e)
  | inr apart ↦ inr (apart.1, sym (ap (λ t. cond t x (f k)) apart.0) ∙ e)
]

-- the step got the number; or the number was recalled before, and the step is not of the kind
abbrev Cases : StepOf Record → Answer Record → (ℕ → Option ℕ) → ℕ → ℕ → (ℕ → StepOf Record) → (StepOf Record → Type 0) → Type 0
Cases s x recalled at n wanted Kind = ((s ≡ wanted at) × (x ≡ Number n)) ⊎ ((recalled at ≡ Some n) × (Kind s → ⊥))

pub heads_cases : (r : Recalled) (s : StepOf Record) (x : Answer Record) (slot row : ℕ) → (recall r s x).heads slot ≡ Some row → Cases s x r.heads slot row Slot (IsExchangeOf slot)
heads_cases r (Slot p) (Number n) slot row e = elim (at_cases p (Some n) r.heads slot (Some row) e) [
  | inl at ↦ inl (ap Slot (sym at.0), let same : Some n ≡ Some row = at.1 in cc)
  | inr old ↦ inr (old.1, λ h. h)
]
heads_cases r (Exchange p old new) x slot row e = elim (at_cases p None r.heads slot (Some row) e) [
  | inl at ↦ absurd (let none : ◌≡◌ {A = Option ℕ} None (Some row) = at.1 in cc)
  | inr kept ↦ inr (kept.1, λ same. kept.0 (sym same))
]
heads_cases r s (Number n) slot row e = inr (e, λ h. h)
heads_cases r s (Content w) slot row e = inr (e, λ h. h)
heads_cases r s x slot row e = inr (e, λ h. h)

pids_cases : (r : Recalled) (s : StepOf Record) (x : Answer Record) (word bits : ℕ) → (recall r s x).pids word ≡ Some bits → Cases s x r.pids word bits PidBits IsTake
pids_cases r (PidBits w) (Number n) word bits e = elim (at_cases w (Some n) r.pids word (Some bits) e) [
  | inl at ↦ inl (ap PidBits (sym at.0), let same : Some n ≡ Some bits = at.1 in cc)
  | inr old ↦ inr (old.1, λ h. h)
]
pids_cases r (TakePid p) x word bits e = absurd (cc)
pids_cases r (TakeRow q) x word bits e = absurd (cc)
pids_cases r s (Number n) word bits e = inr (e, λ h. h)
pids_cases r s (Content w) word bits e = inr (e, λ h. h)
pids_cases r s x word bits e = inr (e, λ h. h)

rows_cases : (r : Recalled) (s : StepOf Record) (x : Answer Record) (word bits : ℕ) → (recall r s x).rows word ≡ Some bits → Cases s x r.rows word bits RowBits IsTake
rows_cases r (RowBits w) (Number n) word bits e = elim (at_cases w (Some n) r.rows word (Some bits) e) [
  | inl at ↦ inl (ap RowBits (sym at.0), let same : Some n ≡ Some bits = at.1 in cc)
  | inr old ↦ inr (old.1, λ h. h)
]
rows_cases r (TakePid p) x word bits e = absurd (cc)
rows_cases r (TakeRow q) x word bits e = absurd (cc)
rows_cases r s (Number n) word bits e = inr (e, λ h. h)
rows_cases r s (Content w) word bits e = inr (e, λ h. h)
rows_cases r s x word bits e = inr (e, λ h. h)

module _ (limits : Limits) (entries : List Entry) (last : Entry) (op : Operation) where
  abbrev longer : List Entry
  longer = entries ++ last ∷ []

  -- a number that was read stays read, where the last entry is no step of the kind
  read_kept : (Kind : StepOf Record → Type 0) (wanted : StepOf Record) (number : ℕ) → HasReadSince limits entries op Kind wanted number
      → ((step : StepOf Record) (answer : Answer Record) (reply : Option Reply) → last ≡ Step op.actor step answer reply → Kind step → ⊥) → HasReadSince limits longer op Kind wanted number
  read_kept Kind wanted number (m, took, none) never = (
    m,
    takes_kept entries last op m _ _ took,
    λ between step answer low high own kind. elim (takes_cases entries last op between step answer own) [
      | inl before ↦ none between step answer low (takes_below entries last op between step answer before) before kind
      | inr at ↦ never step answer at.1.0 at.1.1 kind
    ],
  )

  -- the number that the last entry gave is read
  read_last : (Kind : StepOf Record → Type 0) (wanted : StepOf Record) (number : ℕ) (reply : Option Reply) → IsLast entries op
      → last ≡ Step op.actor wanted (Number number) reply → HasReadSince limits longer op Kind wanted number
  read_last Kind wanted number reply latest is = (
    length entries,
    takes_last entries last op wanted (Number number) reply latest is,
    λ between step answer low high own kind. let long : length longer ≡ suc (length entries) = pushed_length entries last in omega arith,
  )

  pub recollects_other : (r : Recalled) → ((step : StepOf Record) (answer : Answer Record) (reply : Option Reply) → last ≡ Step op.actor step answer reply → ⊥)
      → Recollects limits entries op r → Recollects limits longer op r
  recollects_other r never h = record {
    heads = λ slot row e. read_kept _ _ row (h.heads slot row e) (λ step answer reply is kind. never step answer reply is);
    pids = λ word bits e. read_kept _ _ bits (h.pids word bits e) (λ step answer reply is kind. never step answer reply is);
    rows = λ word bits e. read_kept _ _ bits (h.rows word bits e) (λ step answer reply is kind. never step answer reply is);
  }

  module _ (s : StepOf Record) (x : Answer Record) (reply : Option Reply) (latest : IsLast entries op) (is : last ≡ Step op.actor s x reply) where
    read_cases : (recalled : ℕ → Option ℕ) (at n : ℕ) (wanted : ℕ → StepOf Record) (Kind : StepOf Record → Type 0) → Cases s x recalled at n wanted Kind
        → (recalled at ≡ Some n → HasReadSince limits entries op Kind (wanted at) n)
        → HasReadSince limits longer op Kind (wanted at) n
    read_cases recalled at n wanted Kind (inl now) before = read_last Kind (wanted at) n reply latest (is ∙ λ i. Step op.actor (now.0 i) (now.1 i) reply)
    read_cases recalled at n wanted Kind (inr old) before =
        read_kept Kind (wanted at) n (before old.0)
        (λ step answer other own kind. old.1 (rw (let same : Step op.actor step answer other ≡ Step op.actor s x reply = sym own ∙ is in let e : step ≡ s = cc in e) at kind))

    pub recollects_own : (r : Recalled) → Recollects limits entries op r → Recollects limits longer op (recall r s x)
    recollects_own r h = record {
      heads = λ slot row e. read_cases r.heads slot row Slot (IsExchangeOf slot) (heads_cases r s x slot row e) (h.heads slot row);
      pids = λ word bits e. read_cases r.pids word bits PidBits IsTake (pids_cases r s x word bits e) (h.pids word bits);
      rows = λ word bits e. read_cases r.rows word bits RowBits IsTake (rows_cases r s x word bits e) (h.rows word bits);
    }

  pub recollects_blank : Recollects limits longer op blank
  recollects_blank = record { heads = λ slot row e. absurd (cc); pids = λ word bits e. absurd (cc); rows = λ word bits e. absurd (cc) }
