-- The index is exact at each moment of a trace: that of the moment after all entries is the invariant's.
use Rattle.tree_law.proofs.Words.{false, [], ap, refl, Option, suc, List, true, inl, length, ◌++◌, ◌≤◌, inr, ◌∷◌, subst, sym, ℕ, ◌≡◌, Bool, ◌∙◌, arith, Some, cases_lt, Update, Limits, Child, Memory}
use Rattle.tree_law.proofs.Words.{IsChainOf-unique, level_in, Knowledge, memory_at, memory_of, Entry, IsLeftmost, IsRootLevel, Indexes, HasPhaseOfTerm, indexed, IsInPhase}
use Rattle.tree_law.proofs.Words.{Phase, held, removed, merged, IsFirst, HasMark, IsIndexed, Owners, Placed, Indexed, PageOwner, Fresh, Removed, Held, Merged}
use Rattle.tree_law.proofs.Words.{Stage, mark, shared_part, phase_of, IsTree}
use Rattle.tree_law.specs.Indexed.{IsIndexedAlong}
use Rattle.tree_law.proofs.shape.Exactness.{is_indexed, below_top, root_indexed}
use Rattle.tree_law.proofs.trace.Marks.{take_whole}
use Rattle.tree_law.proofs.shape.Moments.{same_memory, leftmost_later, indexes_kept}
use Rattle.tree_law.proofs.trace.Owned.{pushed_length}

-- the mark of a page in a phase
of_stage : (st : Stage) (w : PageOwner) (child : ℕ) (is_held : Bool) → phase_of (Placed st 0 []) ≡ phase_of w → mark st child ≡ Some (Child child is_held) → HasMark w child is_held
of_stage Fresh (Placed Fresh l s) child is_held e k = (Fresh, l, s, refl, k)
of_stage Indexed (Placed Indexed l s) child is_held e k = (Indexed, l, s, refl, k)
of_stage Held (Placed Held l s) child is_held e k = (Held, l, s, refl, k)
of_stage Removed (Placed Removed l s) child is_held e k = (Removed, l, s, refl, k)
of_stage Merged (Placed Merged l s) child is_held e k = (Merged, l, s, refl, k)
of_stage st w child is_held e k = absurd (cc)

-- the moment after all entries
module _ (limits : Limits) (entries : List Entry) {log : List Update} {o : Owners} {knows : ℕ → Knowledge} {point : ℕ → Option (List Update)}
    {logs : ℕ → List (List Update)} (g : IsTree (shared_part (memory_of limits entries)) log o knows point logs) where
  abbrev m : Memory
  m = memory_of limits entries

  abbrev is : IsIndexed m o
  is = is_indexed m g

  whole_trace : memory_at limits entries (length entries) ≡ m
  whole_trace = ap (memory_of limits) (take_whole entries (length entries) refl)

  root_now : IsRootLevel m is.top
  root_now =
      let b = is.begins is.top (omega arith) in
      (b.0, rw is.root b.1, b.2)

  top_is : (l : ℕ) → IsRootLevel m l → l ≡ is.top
  top_is l h = sym h.2 ∙ ap level_in (IsChainOf-unique m (m.slots 0) h.0 root_now.0 h.1 root_now.1) ∙ root_now.2

  module _ (in_phase : (pid : ℕ) → IsInPhase limits entries (length entries) pid (phase_of (o.page pid)))
      (only_phase : (pid : ℕ) (phase : Phase) → IsInPhase limits entries (length entries) pid phase → phase ≡ phase_of (o.page pid)) where
    in_phase_by : (child l : ℕ) (s : List ℕ) (st : Stage) → o.page child ≡ Placed st l s → IsInPhase limits entries (length entries) child (phase_of (Placed st l s))
    in_phase_by child l s st e = rw e at (in_phase child)

    to_phase : (child : ℕ) (is_held : Bool) → HasMark (o.page child) child is_held → HasPhaseOfTerm limits entries (length entries) child is_held
    to_phase child false (Indexed, l, s, e, k) = in_phase_by child l s Indexed e
    to_phase child true (Held, l, s, e, k) = inl (in_phase_by child l s Held e)
    to_phase child true (Removed, l, s, e, k) = inr (inl (in_phase_by child l s Removed e))
    to_phase child true (Merged, l, s, e, k) = inr (inr (in_phase_by child l s Merged e))
    to_phase child is_held (st, l, s, e, k) = absurd (cc)

    to_mark : (child : ℕ) (is_held : Bool) → HasPhaseOfTerm limits entries (length entries) child is_held → HasMark (o.page child) child is_held
    to_mark child false h = of_stage Indexed (o.page child) child false (only_phase child indexed h) refl
    to_mark child true (inl h) = of_stage Held (o.page child) child true (only_phase child held h) refl
    to_mark child true (inr (inl h)) = of_stage Removed (o.page child) child true (only_phase child removed h) refl
    to_mark child true (inr (inr h)) = of_stage Merged (o.page child) child true (only_phase child merged h) refl

    indexes_now : (leftmost : (l q : ℕ) → IsFirst o l q → IsLeftmost limits entries (length entries) l q) (level : ℕ) (le : suc level ≤ is.top)
        → Indexes limits entries (length entries) level (is.pages (suc level) le)
    indexes_now leftmost level le = record {
      pages = (is.first (suc level), leftmost (suc level) (is.first (suc level)) (is.firsts (suc level) le), rw whole_trace (is.side (suc level) le));
      whole = is.whole (suc level) le;
      terms = λ key child is_held. (
        λ t.
            let f = (is.terms level le key child is_held).0 t in
            ((f.0.0, rw whole_trace f.0.1, f.0.2, f.0.3), to_phase child is_held f.1),
        λ t. (is.terms level le key child is_held).1 ((t.0.0, rw whole_trace at t.0.1, t.0.2, t.0.3), to_mark child is_held t.1),
      );
    }

-- one more entry
module _ (limits : Limits) (entries : List Entry) (last : Entry) {log log' : List Update} {o o' : Owners} {knows knows' : ℕ → Knowledge}
    {point point' : ℕ → Option (List Update)} {logs logs' : ℕ → List (List Update)}
    (g : IsTree (shared_part (memory_of limits entries)) log o knows point logs) (g' : IsTree (shared_part (memory_of limits (entries ++ last ∷ []))) log' o' knows' point' logs')
    (stays : (l q : ℕ) → IsFirst o l q → IsFirst o' l q) (grows : (is_indexed (memory_of limits (entries ++ last ∷ [])) g').top ≤ suc ((is_indexed (memory_of limits entries) g).top))
    (in_phase : (pid : ℕ) → IsInPhase limits (entries ++ last ∷ []) (length (entries ++ last ∷ [])) pid (phase_of (o'.page pid)))
    (only_phase : (pid : ℕ) (phase : Phase) → IsInPhase limits (entries ++ last ∷ []) (length (entries ++ last ∷ [])) pid phase → phase ≡ phase_of (o'.page pid))
    (old : IsIndexedAlong limits entries o) where
  abbrev longer : List Entry
  longer = entries ++ last ∷ []

  abbrev before : IsIndexed (memory_of limits entries) o
  before = is_indexed (memory_of limits entries) g

  abbrev after : IsIndexed (memory_of limits longer) o'
  after = is_indexed (memory_of limits longer) g'

  long : length longer ≡ suc (length entries)
  long = pushed_length entries last

  root_before : (k l : ℕ) → k ≤ length entries → IsRootLevel (memory_at limits longer k) l → IsRootLevel (memory_at limits entries k) l
  root_before k l le h = rw (same_memory limits entries last k le) at h

  root_last : (k l : ℕ) → k ≡ length longer → IsRootLevel (memory_at limits longer k) l → IsRootLevel (memory_of limits longer) l
  root_last k l e h = rw (whole_trace limits longer g') at (rw e at h)

  is_first : (l q : ℕ) (le : l ≤ after.top) → IsFirst o' l q → q ≡ after.first l
  is_first l q le h = after.only q l h.0 le h.1 h.2

  leftmost_after : (l q : ℕ) → IsFirst o' l q → IsLeftmost limits longer (length longer) l q
  leftmost_after l q h =
      let low : l ≤ after.top = below_top (memory_of limits longer) g' q l [] h.0 h.1 in
      elim (cases_lt before.top l) [
        | inr le ↦
            let first = before.firsts l le in
            let same : before.first l ≡ q = is_first l (before.first l) low (stays l (before.first l) first) ∙ sym (is_first l q low h) in
            let e = long in
            rw same at (leftmost_later limits entries last (length entries) (length longer) l (before.first l) (omega arith) (omega arith) (old.leftmost l (before.first l) first))
        | inl lt ↦
            let e = long in
            let up : after.top ≤ suc before.top = grows in
            let low' : l ≤ after.top = low in
            let is : after.top ≡ l = omega arith in
            let at : (memory_of limits longer).slots 0 ≡ q = after.root ∙ ap after.first is ∙ sym (is_first l q low h) in (
              length longer,
              omega arith,
              rw (whole_trace limits longer g') at,
              rw (whole_trace limits longer g') (rw is at (root_now limits longer g')),
              λ earlier under root.
                  let f = old.rooted earlier l (omega arith) (root_before earlier l (omega arith) root) in
                  let below : l ≤ before.top = below_top (memory_of limits entries) g f.0 l [] f.1.0 f.1.1 in
                  omega arith,
            )
      ]

  rooted_after : (k l : ℕ) → k ≤ length longer → IsRootLevel (memory_at limits longer k) l → (q : ℕ) × IsFirst o' l q
  rooted_after k l le h = elim (cases_lt (length entries) k) [
    | inr le' ↦ let f = old.rooted k l le' (root_before k l le' h) in (f.0, stays l f.0 f.1)
    | inl lt ↦
        let e = long in
        let is = top_is limits longer g' l (root_last k l (omega arith) h) in
        let low : l ≤ after.top = omega arith in (after.first l, after.firsts l low)
  ]

  pub indexed_push : IsIndexedAlong limits (entries ++ last ∷ []) o'
  indexed_push = record {
    leftmost = leftmost_after;
    rooted = rooted_after;
    exact = record {
      rooted = λ n le. elim (cases_lt (length entries) n) [
        | inr le' ↦ let h = old.exact.rooted n le' in (h.0, rw (same_memory limits entries last n le') h.1)
        | inl lt ↦
            let e = long in
            let at : length longer ≡ n = omega arith in
            (after.top, rw at at (subst (λ (x : Memory). IsRootLevel x after.top) (sym (whole_trace limits longer g')) (root_now limits longer g')))
      ];
      each = λ n level top le root under. elim (cases_lt (length entries) n) [
        | inr le' ↦ let h = old.exact.each n level top le' (root_before n top le' root) under in (h.0, indexes_kept limits entries last n level h.0 le' h.1)
        | inl lt ↦
            let e = long in
            let at : length longer ≡ n = omega arith in
            let is = top_is limits longer g' top (root_last n top (sym at) root) in
            let low : suc level ≤ after.top = omega arith in
            (after.pages (suc level) low, subst (λ k. Indexes limits longer k level (after.pages (suc level) low)) at (indexes_now limits longer g' in_phase only_phase leftmost_after level low))
      ];
    };
  }

-- the empty trace, where all levels are the lowest
module _ (limits : Limits) {log : List Update} {o : Owners} {knows : ℕ → Knowledge} {point : ℕ → Option (List Update)} {logs : ℕ → List (List Update)}
    (g : IsTree (shared_part (memory_of limits [])) log o knows point logs) (flat : (l q : ℕ) → IsFirst o l q → l ≡ 0) where
  abbrev start : IsIndexed (memory_of limits []) o
  start = is_indexed (memory_of limits []) g

  top_zero : start.top ≡ 0
  top_zero = flat start.top ((memory_of limits []).slots 0) (Indexed, root_indexed (memory_of limits []) g, omega arith)

  root_first : (n : ℕ) → n ≤ 0 → IsRootLevel (memory_at limits [] n) start.top
  root_first n le =
      let none : 0 ≡ n = omega arith in
      rw (← none) (subst (λ (x : Memory). IsRootLevel x start.top) (sym (whole_trace limits [] g)) (root_now limits [] g))

  top_first : (n l : ℕ) → n ≤ 0 → IsRootLevel (memory_at limits [] n) l → l ≡ start.top
  top_first n l le h = let none : n ≡ 0 = omega arith in top_is limits [] g l (rw (whole_trace limits [] g) at (rw none at h))

  pub indexed_first : IsIndexedAlong limits [] o
  indexed_first = record {
    leftmost = λ l q h.
        let is : start.top ≡ l = top_zero ∙ sym (flat l q h) in
        let at : (memory_of limits []).slots 0 ≡ q = start.root ∙ ap start.first is ∙ sym (start.only q l h.0 (omega arith) h.1 h.2) in
        (0, omega arith, subst (λ (x : Memory). x.slots 0 ≡ q) (sym (whole_trace limits [] g)) at, rw is at (root_first 0 (omega arith)), λ earlier lt root. absurd (omega arith));
    rooted = λ n l le h.
        let is = top_first n l le h in
        (start.first l, start.firsts l (omega arith));
    exact = record {
      rooted = λ n le. (start.top, root_first n le);
      each = λ n level top le root under.
          let is = top_first n top le root in
          let zero_top : start.top ≡ 0 = top_zero in
          absurd (omega arith);
    };
  }
