use Rattle.running_tree.proofs.Words.{◌≡◌, ◌<◌, ◌≤◌, ◌∙◌, ℕ, ap, arith, sym, subst, HasBusy, Tree}
use Rattle.running_tree.proofs.Leaving.{are_closed}
use Rattle.running_tree.proofs.tree.Tree.close.Goals as goal

not_less : (m n : ℕ) → n ≤ m → m < n → ⊥
not_less m n all few = omega arith

pub returns-then-not-are_idle-clause-memory : goal.returns-then-not-are_idle-clause-memory
returns-then-not-are_idle-clause-memory g c = λ all idle. absurd (idle (subst HasBusy c.as_slice.ensures.value c.if-not-are_idle.ensures))

pub returns-in_default-clause-busy : goal.returns-in_default-clause-busy
returns-in_default-clause-busy g c = λ all busy. absurd (c.if-not-are_idle.ensures (subst HasBusy (sym c.as_slice.ensures.value) busy))

pub returns-clause-busy : goal.returns-clause-busy
returns-clause-busy g c = λ all busy. absurd (c.if-not-are_idle.ensures (subst HasBusy (sym c.as_slice.ensures.value) busy))

pub returns-then-not-are_idle-clause-missing : goal.returns-then-not-are_idle-clause-missing
returns-then-not-are_idle-clause-missing g c = rw (← c.self.view_is) (λ few. absurd (not_less _ _ (let all = rw c.limits.ensures at c.if-len-limits.false in omega (arith, all, c.len.ensures)) few))

pub returns-in_default-clause-missing : goal.returns-in_default-clause-missing
returns-in_default-clause-missing g c = rw (← c.self.view_is) (λ few. absurd (not_less _ _ (let all = rw c.limits.ensures at c.if-len-limits.false in omega (arith, all, c.len.ensures)) few))

pub shut-requires-clause-all : goal.shut-requires-clause-all
shut-requires-clause-all g c = rw (← c.self.view_is) (let all = rw c.limits.ensures at c.if-len-limits.false in omega (arith, all, c.len.ensures))

pub listed-requires-clause-room : goal.listed-requires-clause-room
listed-requires-clause-room g c =
    let same : c.shut.result.limits ≡ c.self.inside.limits = c.shut.ensures.limits ∙ sym (ap (λ (t : Tree). t.limits) c.self.view_is) in
    rw same (let room = rw c.limits-2.ensures at c.in-Ok.ensures.capacity in omega (arith, room))

pub returns-clause-ok : goal.returns-clause-ok
returns-clause-ok g c = are_closed _ _ _ _ c.shut.ensures c.listed.ensures

pub returns-clause-missing : goal.returns-clause-missing
returns-clause-missing g c = rw (← c.self.view_is) (λ few. absurd (not_less _ _ (let all = rw c.limits.ensures at c.if-len-limits.false in omega (arith, all, c.len.ensures)) few))

pub returns-then-len-limits-clause-busy : goal.returns-then-len-limits-clause-busy
returns-then-len-limits-clause-busy g c = rw (← c.self.view_is) (λ all busy. absurd (not_less _ _ all (let few = rw c.limits.ensures at c.if-len-limits.true in omega (arith, few, c.len.ensures))))

pub returns-then-len-limits-clause-memory : goal.returns-then-len-limits-clause-memory
returns-then-len-limits-clause-memory g c = rw (← c.self.view_is) (λ all idle. absurd (not_less _ _ all (let few = rw c.limits.ensures at c.if-len-limits.true in omega (arith, few, c.len.ensures))))
