-- From any later entry on: one take may miss by what the operation had read before, and what hinders it since pays for the rest.
use Rattle.progress.proofs.Words.{◌≡◌, ◌<◌, ◌≤◌, ◌+◌, ◌-◌, ◌*◌, ◌⊎◌, ℕ, zero, suc, List, [], ◌∷◌, Bool, true, false, length, refl, ap, ◌∙◌, inl, inr, arith, either, cases_lt, All}
use Rattle.progress.proofs.Words.{IsStrictlyIncreasing, Limits, is_writer, Whether, Entry, IsRun, IsCause, IsDirect, IsOperation, IsOwnStep, Operation, steps_from, Exchange, ReadersEnd}
use Rattle.progress.proofs.Words.{hindrance_worth, MeetsSeldom}
use Rattle.progress.proofs.Counted.{AreDistinct, Each}
use Rattle.progress.proofs.Hindering.{beside, hinder, is_change}
use Rattle.progress.proofs.Numbered.{IsIn, numbered}
use Rattle.progress.proofs.Payers.{MissesBefore, Pays, all_distinct, one_miss, same_cause}
use Rattle.progress.proofs.Tallies.{tally, tally_most, tally_same, tally_split, tally_within}
use Rattle.progress.proofs.meetings.Paying.{all_of, beside_pays, changes_count, each_mapped, from_on, gone, meets_here, met_few, miss_pays}
use Rattle.progress.proofs.meetings.Paying.{other_false, parted, reader_scaled, told, two_tallies, writer_scaled}

module _ (limits : Limits) (entries : List Entry) (run : IsRun limits entries) (direct : IsDirect limits entries) (op : Operation) (begun : IsOperation entries op)
    (m n : ℕ) (le : m ≤ n) where
  abbrev IsCauseSince : ℕ → Type 0
  IsCauseSince c = (m ≤ c) × (c ≤ n) × IsCause limits entries op c

  -- one of which its own entry doesn't tell
  abbrev IsMissed : ℕ → Type 0
  IsMissed c = IsCauseSince c × (told limits entries op.actor c ≡ false)

  -- Such a cause has a number: none, where it missed by what was read before, or that of another's take since then.
  abbrev HasNumber : ℕ → ℕ → Type 0
  HasNumber j c = IsMissed c × (((j ≡ 0) × MissesBefore limits entries run op m c) ⊎ ((k : ℕ) × (m ≤ k) × (j ≡ suc (k - m)) × Pays limits entries run op k c))

  same_number : (j c d : ℕ) → HasNumber j c → HasNumber j d → c ≡ d
  same_number j c d (is, inl p) (is', inl q) = one_miss limits entries run op m c d is.0.0 is'.0.0 p.1 q.1
  same_number j c d (is, inl p) (is', inr (k, low, e, q)) = absurd (let none : j ≡ 0 = p.0 in omega (arith, none, e))
  same_number j c d (is, inr (k, low, e, p)) (is', inl q) = absurd (let none : j ≡ 0 = q.0 in omega (arith, none, e))
  same_number j c d (is, inr (k, low, e, p)) (is', inr (i, low', e', q)) =
      let same : i ≡ k = omega (arith, low, low', e, e') in
      same_cause limits entries run op k c d p (rw (← same) q)

  number_of : (c : ℕ) → IsMissed c → (j : ℕ) × HasNumber j c
  number_of c is =
      let paid = miss_pays limits entries run direct op begun n c ((is.0.1, is.0.2), is.1) in
      elim (cases_lt paid.0 m) [ inr low ↦ (suc (paid.0 - m), (is, inr (paid.0, low, refl, paid.1))) | inl lt ↦ earlier paid.0 lt paid.1 ]
    where
      earlier : (k : ℕ) → k < m → Pays limits entries run op k c → (j : ℕ) × HasNumber j c
      earlier k lt (after, high, inl p) = absurd (let same : k ≡ c = p.same in let low : m ≤ c = is.0.0 in omega (arith, same, low, lt))
      earlier k lt (after, high, inr (inl p)) =
          absurd (other_false (is_change limits entries c) (gone limits entries op.actor c) (meets_here limits entries op c (Exchange p.slot p.old p.new) (Whether false) p.took refl) is.1)
      earlier k lt (after, high, inr (inr p)) =
          let before : p.since < k = p.low in
          (0, (is, inl (refl, record { pids = p.pids; number = p.number; since = p.since; low = omega (arith, before, lt); took = p.took; calm = p.none })))

  -- whether a number is none, or that of another's take
  abbrev counts : ℕ → Bool
  counts zero = true
  counts (suc i) = beside limits entries op.actor (m + i)

  passes : (j c : ℕ) → HasNumber j c → (j < 1 + (suc n - m)) × (counts (0 + j) ≡ true)
  passes j c (is, inl (none, p)) = (omega (arith, none), ap counts (let e : 0 + j ≡ 0 = omega (arith, none) in e))
  passes j c (is, inr (k, low, e, p)) =
      let before : k ≤ c = p.1 in
      let high : c ≤ n = is.0.1 in
      let at : 0 + j ≡ suc (k - m) = omega (arith, e) in
      let here : m + (k - m) ≡ k = omega (arith, low) in
      (omega (arith, e, before, high, low), ap counts at ∙ ap (beside limits entries op.actor) here ∙ beside_pays limits entries run direct op begun n k c is.1 p)

  all_pass : (cs js : List ℕ) → Each (λ j. (d : ℕ) × IsIn d cs × HasNumber j d) js → Each (λ j. (j < 1 + (suc n - m)) × (counts (0 + j) ≡ true)) js
  all_pass cs [] each = tt
  all_pass cs (j ∷ js) each = (passes j each.0.0 each.0.2, all_pass cs js each.1)

  few_missed : (cs : List ℕ) → Each IsMissed cs → AreDistinct cs → length cs ≤ tally (beside limits entries op.actor) m (suc n - m) + 1
  few_missed cs each apart =
      let has = numbered HasNumber same_number IsMissed number_of cs apart (all_of IsMissed cs each) in
      let most : length has.numbers ≤ tally counts 0 (1 + (suc n - m)) = tally_most counts 0 (1 + (suc n - m)) has.numbers has.distinct (all_pass cs has.numbers has.each) in
      let split : tally counts 0 (1 + (suc n - m)) ≡ tally counts 0 1 + tally counts (0 + 1) (suc n - m) = tally_split counts 0 1 (suc n - m) in
      let first : tally counts 0 1 ≤ 1 = tally_within counts 0 1 in
      let then : tally counts (0 + 1) (suc n - m) ≡ tally (beside limits entries op.actor) m (suc n - m) =
      tally_same counts (beside limits entries op.actor) (0 + 1) m (suc n - m) (λ i lt. ap counts (let e : 0 + 1 + i ≡ suc i = omega arith in e)) in
      let many = has.as_many in
      omega (arith, most, split, first, then, many)

  few_causes : (cs : List ℕ) → IsStrictlyIncreasing cs → All IsCauseSince cs
      → length cs ≤ tally (told limits entries op.actor) m (suc n - m) + tally (beside limits entries op.actor) m (suc n - m) + 1
  few_causes cs up all =
      let p = parted (told limits entries op.actor) IsCauseSince cs (all_distinct cs up) all in
      let f = from_on m (λ c. (c ≤ n) × (told limits entries op.actor c ≡ true)) p.on p.on_apart
      (each_mapped (λ c. IsCauseSince c × (told limits entries op.actor c ≡ true)) (λ c. (m ≤ c) × ((c ≤ n) × (told limits entries op.actor c ≡ true))) p.on
      (λ c h. (h.0.0, (h.0.1, h.1))) p.on_each) in
      let on = tally_most (told limits entries op.actor) m (suc n - m) f.js f.apart
      (each_mapped (λ j. (m + j ≤ n) × (told limits entries op.actor (m + j) ≡ true)) (λ j. (j < suc n - m) × (told limits entries op.actor (m + j) ≡ true)) f.js
      (λ j h. ((let within : m + j ≤ n = h.0 in omega arith), h.1)) f.each) in
      let off = few_missed p.off p.off_each p.off_apart in
      let many = p.many in
      let as_many = f.as_many in
      omega (arith, on, off, many, as_many)

  paid_writer : MeetsSeldom limits entries → is_writer op.command ≡ true → op.start < m → IsOwnStep entries op n
      → steps_from entries op.actor m n ≤ hindrance_worth limits op.command * (tally (hinder limits entries op.actor) m (suc n - m) + 2)
  paid_writer seldom writer after own =
      let h = direct.since op m n begun after le own in
      let met = seldom.since op m n begun writer after le own in
      let causes = met_few limits entries op.actor m n 1 (length h.0) met.0 met.1 met.2 (few_causes h.0 h.1 h.2) in
      writer_scaled limits op.command (steps_from entries op.actor m n) (length h.0 + 10) (tally (hinder limits entries op.actor) m (suc n - m) + 2) writer (omega (arith, causes)) h.3

  paid_reader : ReadersEnd limits entries → is_writer op.command ≡ false → op.start < m → IsOwnStep entries op n
      → steps_from entries op.actor m n ≤ hindrance_worth limits op.command * (tally (hinder limits entries op.actor) m (suc n - m) + 2)
  paid_reader ends reader after own =
      let h = ends.since op m n begun reader after le own in
      let changed = changes_count limits entries m n h.0 h.1 in
      let both = two_tallies limits entries op.actor m (suc n - m) in
      reader_scaled limits op.command (steps_from entries op.actor m n) (length h.0 + 1) (tally (hinder limits entries op.actor) m (suc n - m) + 2) reader
      (omega (arith, changed, both)) (omega arith) h.2

  pub paid_since : ReadersEnd limits entries → MeetsSeldom limits entries → op.start < m → IsOwnStep entries op n
      → steps_from entries op.actor m n ≤ hindrance_worth limits op.command * (tally (hinder limits entries op.actor) m (suc n - m) + 2)
  paid_since ends seldom after own = either (is_writer op.command) (λ writer. paid_writer seldom writer after own) (λ reader. paid_reader ends reader after own)
