use Rattle.running_tree.proofs.Words.{◌<◌, ◌≤◌, ℕ, arith, sym, subst, HasBusy}
use Rattle.running_tree.proofs.tree.Tree.into_closed.Goals as goal

not_less : (m n : ℕ) → n ≤ m → m < n → ⊥
not_less m n all few = omega arith

pub returns-then-not-are_idle-clause-never : goal.returns-then-not-are_idle-clause-never
returns-then-not-are_idle-clause-never g c = λ all idle. absurd (idle (subst HasBusy c.as_slice.ensures.value c.if-not-are_idle.ensures))

pub returns-clause-busy : goal.returns-clause-busy
returns-clause-busy g c = λ all busy. absurd (c.if-not-are_idle.ensures (subst HasBusy (sym c.as_slice.ensures.value) busy))

pub returns-then-not-are_idle-clause-missing : goal.returns-then-not-are_idle-clause-missing
returns-then-not-are_idle-clause-missing g c = rw (← c.self.view_is) (λ few. absurd (not_less _ _ (let all = rw c.limits.ensures at c.if-len-limits.false in omega (arith, all, c.len.ensures)) few))

pub shut-requires-clause-all : goal.shut-requires-clause-all
shut-requires-clause-all g c = rw (← c.self.view_is) (let all = rw c.limits.ensures at c.if-len-limits.false in omega (arith, all, c.len.ensures))

pub returns-clause-missing : goal.returns-clause-missing
returns-clause-missing g c = rw (← c.self.view_is) (λ few. absurd (not_less _ _ (let all = rw c.limits.ensures at c.if-len-limits.false in omega (arith, all, c.len.ensures)) few))

pub returns-then-len-limits-clause-busy : goal.returns-then-len-limits-clause-busy
returns-then-len-limits-clause-busy g c = rw (← c.self.view_is) (λ all busy. absurd (not_less _ _ all (let few = rw c.limits.ensures at c.if-len-limits.true in omega (arith, few, c.len.ensures))))

pub returns-then-len-limits-clause-never : goal.returns-then-len-limits-clause-never
returns-then-len-limits-clause-never g c = rw (← c.self.view_is) (λ all idle. absurd (not_less _ _ all (let few = rw c.limits.ensures at c.if-len-limits.true in omega (arith, few, c.len.ensures))))
