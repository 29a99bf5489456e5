-- Which steps are paid after an operation's first reads.
use Rattle.std.proofs.Common.{◌≡◌, inl, inr, ℕ, Option, Some, None, true, false, refl, arith}
use Rattle.bw_model.specs.declared.step.Answer.TheVariants.{Number, Content, Whether, Done}
use Rattle.bw_model.specs.declared.step.Step.TheVariants.{Slot, Row, Exchange, TakeRow, Leave}
use Rattle.traces.specs.chain.Examples.{remove}
use Rattle.traces.specs.discipline.Recalled.{IsPaid, recall}
use Rattle.traces.specs.discipline.Recollections.{after_bits, after_loss, after_miss, after_removal, after_split}

pub named : IsPaid after_split (Slot 2) (Number 0)
named = (refl, refl, (λ e. omega arith, tt), inl refl)

pub unnamed : IsPaid after_split (Slot 3) (Number 0) → ⊥
unnamed h = elim h.3 [ inl e ↦ omega arith | inr e ↦ e ]

pub again : IsPaid after_removal (Slot 2) (Number 0) → ⊥
again h = let e : true ≡ false = h.1 in cc

pub exchanged : IsPaid after_split (Exchange 1 5 7) (Whether true)
exchanged = (omega arith, refl)

pub lost : IsPaid after_split (Exchange 1 5 7) (Whether false)
lost = (omega arith, refl)

pub unrecalled : IsPaid after_loss (Exchange 1 5 7) (Whether false) → ⊥
unrecalled h = let e : ◌≡◌ {A = Option ℕ} None (Some 5) = h.1 in cc

pub ready : IsPaid after_split (Exchange 4 0 9) (Whether true) → ⊥
ready h = let e = h.0 in omega arith

pub undo : IsPaid after_split (Exchange 4 9 0) (Whether true) → ⊥
undo h = let e : ◌≡◌ {A = Option ℕ} None (Some 9) = h.1 in cc

pub removal : IsPaid after_split (Row 6) (Content (remove 4))
removal = (refl, refl)

pub second_removal : IsPaid after_removal (Row 8) (Content (remove 4)) → ⊥
second_removal h = let e : false ≡ true = h.1 in cc

pub new_round : IsPaid (recall after_removal (Slot 0) (Number 1)) (Row 8) (Content (remove 4))
new_round = (refl, refl)

pub outside : IsPaid (recall after_split Leave Done) (Row 6) (Content (remove 4)) → ⊥
outside h = let e : false ≡ true = h.0 in cc

pub missed : IsPaid after_bits (TakeRow 3) (Whether false)
missed = (8, refl, refl)

pub forgotten : IsPaid after_miss (TakeRow 3) (Whether false) → ⊥
forgotten h = let e : ◌≡◌ {A = Option ℕ} None (Some h.0) = h.1 in cc
