-- A slot that an actor recalls to have read is not that of a page that it has made ready itself.
use Rattle.tree_law.proofs.Words.{ap, suc, List, inl, ◌≢◌, inr, sym, ℕ, ◌≡◌, zero, ◌∙◌, ◌<◌, arith, Limits, Answer, StepOf, Slot, Record, May, knows, Knowledge, Ready, learn, Empty}
use Rattle.tree_law.proofs.Words.{OwnPage, Other, Gone, after_exchange, Entry, IsExchangeOf, Key, Reached, PageOwner, Keeps, put, IsState, phase_of}
use Rattle.linearization.specs.Phases as phase
use Rattle.tree_law.proofs.links.Keeping.{met_placed}
use Rattle.tree_law.proofs.shape.Puts.{by_equal}
use Rattle.tree_law.proofs.links.Learning.{learning, takes_pid, wins}
use Rattle.tree_law.proofs.links.Exchanged.{exchanging, roots, empties, clears, readies, splits, unterms}

-- A page that is ready now was so, or its slot was exchanged now.
module _ (page base : ℕ) where
  abbrev Was : Knowledge → Knowledge → Type 0
  Was k k' = k'.own.pages page ≡ Ready base → k.own.pages page ≡ Ready base

  -- another page, or one that is not ready
  at_other : (pages : ℕ → OwnPage) (n : ℕ) (v : OwnPage) → (v ≡ Ready base → ⊥) → put pages n v page ≡ Ready base → pages page ≡ Ready base
  at_other pages n v never e = by_equal page n (λ i t. let f = rw t at e in absurd (never f)) (λ ne t. rw t at e)

  by_exchange : (p x y : ℕ) (k : Knowledge) → p ≢ page → Was k (after_exchange p x y k)
  by_exchange p x y k ne = (elim (exchanging p x y k) as (λ p x y k' v. p ≢ page → Was k k') [
    | roots x y b e ↦ λ ne. at_other k.own.pages y Other (λ f. cc)
    | empties p x b e ↦ λ ne. at_other k.own.pages (suc p) Empty (λ f. cc)
    | clears p x e ↦ λ ne. at_other k.own.pages (suc p) Other (λ f. cc)
    | readies p x y e ↦ λ ne. by_equal page (suc p) (λ i t. rw t λ f. absurd (ne (sym i))) (λ other t. rw t λ f. f)
    | splits p x y b w e ↦ λ ne. at_other k.own.pages w.page Other (λ f. cc)
    | unterms p x y w ↦ λ ne. at_other k.own.pages w.child Gone (λ f. cc)
    | v ↦ λ ne f. f
  ]) ne

  pub was_ready : (k : Knowledge) (s : StepOf Record) (x : Answer Record) → (IsExchangeOf page s → ⊥) → Was k (learn k s x)
  was_ready k s x ne e = (elim (learning k s x) as (λ s x k' v. (IsExchangeOf page s → ⊥) → Was k k') [
    | takes_pid p ↦ λ ne. at_other k.own.pages p Empty (λ f. cc)
    | wins p old new ↦ λ ne. by_exchange p old new k ne
    | v ↦ λ ne e. e
  ]) ne e

keeps_nothing : (r l : ℕ) (s : Key) (a : ℕ) (w : PageOwner) → w ≡ Keeps a → Reached r l s w → ⊥
keeps_nothing r l s a w e h = rw e at h

-- the slot of a page that the actor has made ready it may not read
pub never_read : (limits : Limits) (entries : List Entry) → IsState limits entries → (a page base : ℕ) → May a (knows entries a) (Slot page) → (knows entries a).own.pages page ≡ Ready base → ⊥
never_read limits entries state a zero base may e =
    let own = rw e at (state.is_tree.owns_pages a 0) in
    elim (state.named.pid_below 0) [
      | inl free ↦ let f : phase.owned ≡ phase.free = sym (ap phase_of own.0) ∙ free in cc
      | inr below ↦ let f : 0 < 0 = below.0 in omega arith
    ]
never_read limits entries state a (suc p) base may e =
    let own = rw e at (state.is_tree.owns_pages a (suc p)) in
    let here = met_placed state.is_tree a (suc p) may.1 in
    keeps_nothing 0 here.0 here.1 a (state.owners.page (suc p)) own.0 here.2
