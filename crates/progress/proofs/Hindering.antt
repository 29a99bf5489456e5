-- The causes of an operation are changes of the tree, and numbers that others took, where nobody has placed a removal.
use Rattle.progress.proofs.Words.{◌≡◌, ◌≢◌, ◌<◌, ◌≤◌, ◌+◌, ◌-◌, ◌*◌, ℕ, zero, suc, List, [], ◌∷◌, Option, None, Some, Bool, true, false, cond, length, take, refl, ap, ◌∙◌, inl, inr, arith}
use Rattle.progress.proofs.Words.{eqb_tells, All, IsStrictlyIncreasing, ◌==◌, ◌||◌, not, slice_get, Limits, Number, Whether, Link, Memory, not_true, Entry, Step, cause_worth, IsRun, Happens}
use Rattle.progress.proofs.Words.{TakesStep, memory_at, IsCause, IsDirect, link_of, IsOperation, IsOwnStep, Operation, TakesOwnStep, IsInPhase, KeepsPhases, owned, AreAmong, ChangesTree}
use Rattle.progress.proofs.Words.{PlacesNoRemoval, steps_from, takes_number, or_left, or_right, Exchange, TakePid, TakeRow, Hinders}
use Rattle.std.proofs.lemmas.Bool.{or_cases}
use Rattle.bw_model.specs.declared.step.Link.TheVariants as link
use Rattle.bw_model.specs.declared.step.Step.TheVariants.{Slot}
use Rattle.linearization.specs.Progress.{TakesBeside}
use Rattle.progress.proofs.Begun.{one_of}
use Rattle.progress.proofs.Between.{take_of}
use Rattle.progress.proofs.Counted.{Each}
use Rattle.progress.proofs.Numbered.{IsIn}
use Rattle.progress.proofs.Payers.{Pays, all_distinct, more_paid, most_of, paid_by, pays_for}
use Rattle.progress.proofs.Settled.{cleared_none, owned_none}
use Rattle.progress.proofs.Tallies.{Listed, one_at_most, passes, passes_in, tally, tally_either, tally_most}

-- whether a link changes the tree
abbrev pub counts : Option Link → Bool
counts None = false
counts (Some link.Ready) = false
counts (Some link.Undo) = false
counts (Some kind) = true

counts_of : (kind : Link) → kind ≢ link.Ready → kind ≢ link.Undo → counts (Some kind) ≡ true
counts_of link.Ready one two = absurd (one refl)
counts_of link.Undo one two = absurd (two refl)
counts_of kind one two = refl

counted : (o : Option Link) → counts o ≡ true → (kind : Link) × (o ≡ Some kind) × (kind ≢ link.Ready) × (kind ≢ link.Undo)
counted None e = absurd (cc)
counted (Some link.Ready) e = absurd (cc)
counted (Some link.Undo) e = absurd (cc)
counted (Some kind) e = (kind, refl, (λ f. cc f), (λ f. cc f))

-- whether an entry changes the tree, and whether another actor takes a number by it
abbrev pub changes_at : Memory → Option Entry → Bool
changes_at m (Some (Step actor (Exchange slot old new) (Whether true) reply)) = counts (link_of m slot old new)
changes_at m o = false

abbrev pub takes_beside : ℕ → Option Entry → Bool
takes_beside a (Some (Step other (TakePid pid) (Whether true) reply)) = not (other == a)
takes_beside a (Some (Step other (TakeRow row) (Whether true) reply)) = not (other == a)
takes_beside a o = false

changed : (m : Memory) (o : Option Entry) → changes_at m o ≡ true → (e : Entry) × (o ≡ Some e) × ChangesTree m e
changed m (Some (Step a (Exchange slot old new) (Whether true) r)) e =
    let h = counted (link_of m slot old new) e in
    (Step a (Exchange slot old new) (Whether true) r, refl, (a, slot, old, new, h.0, ((r, refl), h.1), h.2, h.3))
changed m o e = absurd (cc)

apart : (b a : ℕ) → not (b == a) ≡ true → b ≢ a
apart b a e same = elim (eqb_tells b a) [ inl tells ↦ cc (not_true (b == a) e, tells.0) | inr tells ↦ tells.1 same ]

taken_beside : (m : Memory) (a : ℕ) (o : Option Entry) → takes_beside a o ≡ true → (e : Entry) × (o ≡ Some e) × TakesBeside a m e
taken_beside m a (Some (Step b (TakePid pid) (Whether true) r)) e = (Step b (TakePid pid) (Whether true) r, refl, (b, pid, apart b a e, inl (r, refl)))
taken_beside m a (Some (Step b (TakeRow row) (Whether true) r)) e = (Step b (TakeRow row) (Whether true) r, refl, (b, row, apart b a e, inr (r, refl)))
taken_beside m a o e = absurd (cc)

beside_takes : (a : ℕ) (o : Option Entry) → cond (takes_beside a o) 1 0 ≤ cond (passes takes_number o) 1 0
beside_takes a (Some (Step b (TakePid pid) (Whether true) r)) = one_at_most (not (b == a))
beside_takes a (Some (Step b (TakeRow row) (Whether true) r)) = one_at_most (not (b == a))
beside_takes a o = omega arith

pub both_at_most : (b c : Bool) → cond (b || c) 1 0 ≤ cond b 1 0 + cond c 1 0
both_at_most true true = omega arith
both_at_most true false = omega arith
both_at_most false c = omega arith

module _ (limits : Limits) (entries : List Entry) where
  abbrev pub is_change : ℕ → Bool
  is_change k = changes_at (memory_at limits entries k) (slice_get entries k)

  abbrev pub beside : ℕ → ℕ → Bool
  beside a k = takes_beside a (slice_get entries k)

  -- whether an entry hinders the actor
  abbrev pub hinder : ℕ → ℕ → Bool
  hinder a k = is_change k || beside a k

  pub happens : (k : ℕ) → is_change k ≡ true → Happens limits entries k ChangesTree
  happens k e = let h = changed (memory_at limits entries k) (slice_get entries k) e in record { entry = h.0; at = h.1; holds = h.2 }

  pub hinders_at : (a k : ℕ) → hinder a k ≡ true → Happens limits entries k (Hinders a)
  hinders_at a k e = elim (or_cases (is_change k) (beside a k) e) [
    | inl so ↦ let h = changed (memory_at limits entries k) (slice_get entries k) so in record { entry = h.0; at = h.1; holds = inl h.2 }
    | inr so ↦ let h = taken_beside (memory_at limits entries k) a (slice_get entries k) so in record { entry = h.0; at = h.1; holds = inr h.2 }
  ]

  -- the changes, and all takes
  pub hinder_parts : (a m n : ℕ) → tally (hinder a) m n ≤ tally is_change m n + tally (passes_in takes_number entries) m n
  hinder_parts a m n =
      tally_either (hinder a) is_change (passes_in takes_number entries) m n (λ k.
      let both = both_at_most (is_change k) (beside a k) in
      let less = beside_takes a (slice_get entries k) in
      omega (arith, both, less))

  pub changes_by : (k b slot old new : ℕ) (kind : Link) → TakesStep entries k b (Exchange slot old new) (Whether true)
      → link_of (memory_at limits entries k) slot old new ≡ Some kind → kind ≢ link.Ready → kind ≢ link.Undo
      → is_change k ≡ true
  changes_by k b slot old new kind took links one two =
      let e : slice_get entries k ≡ Some (Step b (Exchange slot old new) (Whether true) took.0) = took.1 in
      ap (changes_at (memory_at limits entries k)) e ∙ ap counts links ∙ counts_of kind one two

  pub beside_by : (k a b number : ℕ) (pids : Bool) → b ≢ a → TakesStep entries k b (take_of pids number) (Whether true) → beside a k ≡ true
  beside_by k a b number pids ne took = ap (takes_beside a) took.1 ∙ by_kind pids
    where
      differs : not (b == a) ≡ true
      differs = elim (eqb_tells b a) [ inl same ↦ absurd (ne same.1) | inr other ↦ ap not other.0 ]

      by_kind : (pids : Bool) → takes_beside a (Some (Step b (take_of pids number) (Whether true) took.0)) ≡ true
      by_kind true = differs
      by_kind false = differs

  module _ (run : IsRun limits entries) (keeps : KeepsPhases limits entries) (direct : IsDirect limits entries) (op : Operation)
      (begun : IsOperation entries op) (n : ℕ) (none : PlacesNoRemoval (take n entries)) where
    -- an exchange to which another one lost, which had read what it expects, is a change of the tree
    beats : (m k b slot old new : ℕ) → m ≤ k → k ≤ n → TakesOwnStep entries op m (Slot slot) (Number old) → TakesStep entries k b (Exchange slot old new) (Whether true) → is_change k ≡ true
    beats m k b zero old new le within read took = changes_by k b zero old new link.Root took refl (λ e. cc e) (λ e. cc e)
    beats m k b (suc p) zero new le within read took = absurd (cleared_none limits entries keeps n none m (suc p) (omega arith) (direct.emptied op m (suc p) begun read))
    beats m k b (suc p) (suc row) new le within read took =
        let q = one_of limits entries run k b (Exchange (suc p) (suc row) new) (Whether true) took in
        let links = direct.links q.operation k (suc p) (suc row) new q.begun q.took in
        let tree = direct.settled op m (suc p) (suc row) begun read (omega arith) (omega arith) in
        let never = λ (at : IsInPhase limits entries k (suc p) owned). owned_none limits entries keeps n none m (suc p) tree.0 tree.1 tree.2 tree.3 k le within at in
        changes_by k b (suc p) (suc row) new links.0 took links.1 (λ e. never (links.2 (inl e))) (λ e. never (links.2 (inr e)))

    pub pays_hinder : (k c : ℕ) → k ≤ n → Pays limits entries run op k c → hinder op.actor k ≡ true
    pays_hinder k c le (low, high, inl p) =
        or_left (is_change k) (beside op.actor k)
        (rw p.same (changes_by c op.actor p.slot p.old p.new p.kind (p.took.0, p.took.1.entry) p.links p.no_ready p.no_undo))
    pays_hinder k c le (low, high, inr (inl p)) = let since = p.low in or_left (is_change k) (beside op.actor k) (beats p.since k p.beside.0 p.slot p.old p.beside.1 (omega arith) le p.read p.beside.3)
    pays_hinder k c le (low, high, inr (inr p)) = or_right (is_change k) (beside op.actor k) (beside_by k op.actor p.beside.0 p.number p.pids p.beside.1 p.beside.2)

    all_hinder : (cs js : List ℕ) → ((d : ℕ) → IsIn d cs → d ≤ n) → Each (λ j. (d : ℕ) × IsIn d cs × Pays limits entries run op (op.start + j) d) js
        → Each (λ j. (j < suc n - op.start) × (hinder op.actor (op.start + j) ≡ true)) js
    all_hinder cs [] within each = tt
    all_hinder cs (j ∷ js) within each =
        let pays = each.0.2 in
        let low : op.start < op.start + j = pays.0 in
        let high : op.start + j ≤ each.0.0 = pays.1 in
        let most : each.0.0 ≤ n = within each.0.0 each.0.1 in
        ((omega arith, pays_hinder (op.start + j) each.0.0 (omega arith) pays), all_hinder cs js within each.1)

    pub few_hinder : (cs : List ℕ) → IsStrictlyIncreasing cs → All (λ c. (c ≤ n) × IsCause limits entries op c) cs → length cs ≤ tally (hinder op.actor) op.start (suc n - op.start)
    few_hinder cs up all =
        let paid = paid_by limits entries run op (λ c. (c ≤ n) × IsCause limits entries op c) (pays_for limits entries run op keeps direct begun n none) cs (all_distinct cs up) all in
        let pass = all_hinder cs paid.numbers (most_of limits entries run op keeps direct begun n none cs all) paid.each in
        let most = tally_most (hinder op.actor) op.start (suc n - op.start) paid.numbers paid.distinct pass in
        rw paid.as_many at most

    -- what hinders pays
    pub paid_by_hinder : IsOwnStep entries op n → steps_from entries op.actor op.start n ≤ cause_worth limits * (tally (hinder op.actor) op.start (suc n - op.start) + 1)
    paid_by_hinder own =
        let h = direct.few op n begun own in
        let most = few_hinder h.0 h.1 h.2 in
        more_paid (steps_from entries op.actor op.start n) (cause_worth limits) (length h.0) (tally (hinder op.actor) op.start (suc n - op.start)) most h.3

  -- the places that hinder, as a list
  pub among_hinder : (a m k n : ℕ) → m + k ≤ suc n → (list : Listed (hinder a) m k) → AreAmong limits entries m n (Hinders a) list.places
  among_hinder a m k n le list = record {
    increasing = list.increasing;
    each = λ i d in_list. let h = list.each i d in_list in (h.0, (let lt = h.1 in omega (arith, le, lt)), hinders_at a _ h.2);
  }
