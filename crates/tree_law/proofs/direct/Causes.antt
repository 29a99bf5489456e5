-- What an operation's step did it has done in the longer trace too.
use Rattle.tree_law.proofs.Words.{◌⊎◌, [], ap, Option, List, true, inl, length, ◌++◌, ◌≤◌, inr, ◌∷◌, sym, ℕ, ◌≡◌, ◌∙◌, ◌<◌, arith, Some, Reply, Limits, Answer, Whether, Link, StepOf, Exchange, Memory}
use Rattle.tree_law.proofs.Words.{Record, memory_at, memory_of, Entry, Step, Links, IsCause, TakesNone, link_of, Operation, TakesOwnStep, IsUnended}
use Rattle.linearization.specs.Direct.{Loses, Meets, MissesNumber}
use Rattle.tree_law.proofs.trace.Searches.{takes_kept}
use Rattle.tree_law.proofs.direct.Appended.{memory_kept, memory_last, takes_before, takes_below, takes_cases}

module _ (limits : Limits) (entries : List Entry) (last : Entry) (op : Operation) where
  abbrev longer : List Entry
  longer = entries ++ last ∷ []

  kept : (n : ℕ) (step : StepOf Record) (answer : Answer Record) → TakesOwnStep entries op n step answer → TakesOwnStep longer op n step answer
  kept n step answer took = takes_kept entries last op n step answer took

  below : (n : ℕ) (step : StepOf Record) (answer : Answer Record) → TakesOwnStep entries op n step answer → n < length entries
  below n step answer took = takes_below entries last op n step answer took

  pub none_kept : (m n : ℕ) (Kind : StepOf Record → Type 0) → n ≤ length entries → TakesNone limits entries op m n Kind → TakesNone limits longer op m n Kind
  none_kept m n Kind le none between step answer low high took = none between step answer low high (takes_before entries last op between step answer (omega arith) took)

  links_kept : (n : ℕ) (kind : Link) → Links limits entries op n kind → Links limits longer op n kind
  links_kept n kind (slot, old, new, took, is) =
      let under : n < length entries = below n _ _ took in
      (slot, old, new, kept n _ _ took, ap (λ (m : Memory). link_of m slot old new) (memory_kept entries last limits n (omega arith)) ∙ is)

  loses_kept : (n : ℕ) → Loses limits entries op n → Loses limits longer op n
  loses_kept n (slot, old, new, m, took, lt, read, none) =
      let under : n < length entries = below n _ _ took in
      (slot, old, new, m, kept n _ _ took, lt, kept m _ _ read, none_kept m n _ (omega arith) none)

  misses_kept : (n : ℕ) → MissesNumber limits entries op n → MissesNumber limits longer op n
  misses_kept n (item, bits, m, lt, free, none, inl took) =
      let under : n < length entries = below n _ _ took.0 in
      (item, bits, m, lt, free, none_kept m n _ (omega arith) none, inl (kept n _ _ took.0, kept m _ _ took.1))
  misses_kept n (item, bits, m, lt, free, none, inr took) =
      let under : n < length entries = below n _ _ took.0 in
      (item, bits, m, lt, free, none_kept m n _ (omega arith) none, inr (kept n _ _ took.0, kept m _ _ took.1))

  meets_kept : (n : ℕ) → Meets limits entries op n → Meets limits longer op n
  meets_kept n (m, root, lt, read, none, inl (row, remove, took, first)) =
      let under : n < length entries = below n _ _ took in
      (m, root, lt, kept m _ _ read, none_kept m n _ (omega arith) none, inl (row, remove, kept n _ _ took, none_kept m n _ (omega arith) first))
  meets_kept n (m, root, lt, read, none, inr (pid, row, k, content, took, first, low, high, above, names)) =
      let under : n < length entries = below n _ _ took in
      (m, root, lt, kept m _ _ read, none_kept m n _ (omega arith) none, inr (pid, row, k, content, kept n _ _ took, none_kept m n _ (omega arith) first, low, high, kept k _ _ above, names))

  pub cause_kept : (n : ℕ) → IsCause limits entries op n → IsCause limits longer op n
  cause_kept n (inl h) = inl (h.0, links_kept n h.0 h.1, h.2, h.3)
  cause_kept n (inr (inl h)) = inr (inl (loses_kept n h))
  cause_kept n (inr (inr (inl h))) = inr (inr (inl (misses_kept n h)))
  cause_kept n (inr (inr (inr h))) = inr (inr (inr (meets_kept n h)))

  -- The last entry is an exchange that won, with this link.
  pub record LinksLast (kind : Link) : Type 0 where
    pub slot : ℕ
    pub old : ℕ
    pub new : ℕ
    pub reply : Option Reply
    pub is : last ≡ Step op.actor (Exchange slot old new) (Whether true) reply
    pub link : link_of (memory_of limits entries) slot old new ≡ Some kind

  -- what a step linked in the longer trace it linked in the shorter one, or it is the last entry
  pub links_cases : (n : ℕ) (kind : Link) → Links limits longer op n kind → Links limits entries op n kind ⊎ ((n ≡ length entries) × LinksLast kind × IsUnended entries op.start op.actor)
  links_cases n kind (slot, old, new, took, is) = elim (takes_cases entries last op n _ _ took) [
    | inl before ↦
        let under : n < length entries = below n _ _ before in
        inl (slot, old, new, before, ap (λ (m : Memory). link_of m slot old new) (sym (memory_kept entries last limits n (omega arith))) ∙ is)
    | inr at ↦ inr (
      at.0,
      record {
        slot = slot;
        old = old;
        new = new;
        reply = at.1.0;
        is = at.1.1;
        link = rw (sym (memory_last entries last limits) ∙ ap (memory_at limits longer) (sym at.0)) is;
      },
      at.2,
    )
  ]
