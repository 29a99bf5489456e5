-- Which pages an actor has read as the root.
use Rattle.tree_law.proofs.Words.{◌⊎◌, ap, refl, true, inl, inr, sym, ℕ, ◌≡◌, eqb_tells, Answer, Number, StepOf, Slot, Record, Knowledge, learn}
use Rattle.tree_law.proofs.links.Learning.{learning, at_root, wins, leaves}
use Rattle.tree_law.proofs.links.Exchanged.{exchanged_alike}

-- A page that is known as the root was so before, or was read in slot 0 now.
abbrev Learns : Knowledge → StepOf Record → Answer Record → ℕ → Type 0
Learns k s x p = (k.read.roots p ≡ true) ⊎ ((s ≡ Slot 0) × (x ≡ Number p))

pub learns_root : (k : Knowledge) (s : StepOf Record) (x : Answer Record) (p : ℕ) → (learn k s x).read.roots p ≡ true → Learns k s x p
learns_root k s x p h = (elim (learning k s x) as (λ s x k' v. k'.read.roots p ≡ true → Learns k s x p) [
  | at_root n ↦ λ h. elim (eqb_tells p n) [ inl same ↦ inr (refl, ap Number (sym same.1)) | inr differs ↦ inl (rw differs.0 at h) ]
  | wins slot old new ↦ λ h. inl (rw (exchanged_alike slot old new k).read at h)
  | leaves y ↦ λ h. absurd (cc)
  | v ↦ λ h. inl h
]) h
