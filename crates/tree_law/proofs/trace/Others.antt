-- What is an actor's own outlasts the entries of others.
use Rattle.tree_law.proofs.Words.{false, [], ap, refl, Option, None, List, true, inl, ◌++◌, inr, ◌∷◌, sym, ℕ, ◌≡◌, ◌∙◌, Some, append_assoc, append-nil, fold-append, fold, if◌then◌else◌}
use Rattle.tree_law.proofs.Words.{Command, Limits, own_entries, is_entry_of, knows_after, nothing, recall, Recalled, blank, recalls_after, commands_after, Entry, Begin, Step, Accounts}
use Rattle.traces.specs.discipline.Disciplined.{Extends}
use Rattle.tree_law.specs.Own.{OwnLasts}
use Rattle.tree_law.proofs.shape.Puts.{eqb_false, put_other}
use Rattle.tree_law.proofs.direct.Affording.{not_step_of}
use Rattle.tree_law.proofs.direct.Appended.{last_cases}
use Rattle.tree_law.proofs.direct.Counting.{affords_kept}
use Rattle.traces.proofs.OwnEntries.{after_other}

recalls_other : (rs : ℕ → Recalled) (a : ℕ) (entry : Entry) → is_entry_of a entry ≡ false → recalls_after rs entry a ≡ rs a
recalls_other rs a (Begin b command) e = put_other rs b blank a (eqb_false a b e)
recalls_other rs a (Step b step answer reply) e = put_other rs b (recall (rs b) step answer) a (eqb_false a b e)

commands_other : (cs : ℕ → Option Command) (a : ℕ) (entry : Entry) → is_entry_of a entry ≡ false → commands_after cs entry a ≡ cs a
commands_other cs a (Begin b command) e = put_other cs b (Some command) a (eqb_false a b e)
commands_other cs a (Step b step answer None) e = refl
commands_other cs a (Step b step answer (Some reply)) e = put_other cs b None a (eqb_false a b e)

module _ {X : Type 0} (after : (ℕ → X) → Entry → ℕ → X) (a : ℕ) (other : (xs : ℕ → X) (entry : Entry) → is_entry_of a entry ≡ false → after xs entry a ≡ xs a) where
  folds : (rest : List Entry) (xs : ℕ → X) → own_entries a rest ≡ [] → fold after xs rest a ≡ xs a
  folds [] xs none = refl
  folds (entry ∷ rest) xs none = elim (is_entry_of a entry) as
      (λ t. is_entry_of a entry ≡ t → (if t then entry ∷ own_entries a rest else own_entries a rest) ≡ [] → fold after (after xs entry) rest a ≡ xs a) [
        | true ↦ λ e f. cc
        | false ↦ λ e f. folds rest (after xs entry) f ∙ other xs entry e
      ] refl none

  -- what an entry of another actor leaves, a run of them leaves
  lasts : (xs : ℕ → X) (seen run : List Entry) → Extends a seen run → fold after xs run a ≡ fold after xs seen a
  lasts xs seen run (rest, is, none) = rw is (ap (λ (f : ℕ → X). f a) (fold-append after xs seen rest) ∙ folds rest (fold after xs seen) none)

-- another actor's entry leaves what this one can afford
accounts_other : (limits : Limits) (entries : List Entry) (entry : Entry) (a left : ℕ) → is_entry_of a entry ≡ false → Accounts limits entries a left → Accounts limits (entries ++ entry ∷ []) a left
accounts_other limits entries (Begin b c) a left e accounts op latest same = elim (last_cases entries (Begin b c) op latest) [
  | inl before ↦ affords_kept limits entries (Begin b c) op left before.begun refl (accounts op before same)
  | inr at ↦ absurd (eqb_false a b e (let i = at.1 in let j = same in cc))
]
accounts_other limits entries (Step b s x r) a left e accounts op latest same = elim (last_cases entries (Step b s x r) op latest) [
  | inl before ↦ affords_kept limits entries (Step b s x r) op left before.begun (not_step_of op.actor b s x r (λ i. eqb_false a b e (sym same ∙ i))) (accounts op before same)
  | inr at ↦ let i = at.1 in absurd (cc)
]

-- one entry after the other
accounts_along : (limits : Limits) (a left : ℕ) (seen rest : List Entry) → own_entries a rest ≡ [] → Accounts limits seen a left → Accounts limits (seen ++ rest) a left
accounts_along limits a left seen [] none accounts = rw (append-nil seen) accounts
accounts_along limits a left seen (entry ∷ rest) none accounts = elim (is_entry_of a entry) as
    (λ t. is_entry_of a entry ≡ t → (if t then entry ∷ own_entries a rest else own_entries a rest) ≡ [] → Accounts limits (seen ++ entry ∷ rest) a left) [
      | true ↦ λ e f. cc
      | false ↦ λ e f. rw (append_assoc seen (entry ∷ []) rest) at (accounts_along limits a left (seen ++ entry ∷ []) rest f (accounts_other limits seen entry a left e accounts))
    ] refl none

pub own_lasts : OwnLasts
own_lasts limits a seen run x = record {
  known = lasts knows_after a (λ ks entry e. after_other ks a entry e) (λ b. nothing) seen run x;
  recalled = lasts recalls_after a (λ rs entry e. recalls_other rs a entry e) (λ b. blank) seen run x;
  command = lasts commands_after a (λ cs entry e. commands_other cs a entry e) (λ b. None) seen run x;
  affords = λ left accounts. rw x.1 (accounts_along limits a left seen x.0 x.2 accounts);
}
