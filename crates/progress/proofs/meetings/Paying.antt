-- Whatever was removed, what hinders an operation pays for its steps, where writers meet what is gone seldom.
use Rattle.progress.proofs.Words.{◌≡◌, ◌<◌, ◌≤◌, ◌+◌, ◌-◌, ◌*◌, ℕ, zero, suc, List, [], ◌∷◌, Option, Some, Bool, true, false, cond, length, refl, sym, ap, subst, ◌∙◌, inl, inr, arith, ◌||◌}
use Rattle.progress.proofs.Words.{if◌then◌else◌, Command, add-mul, mul-le-mul_left, All, IsStrictlyIncreasing, count_by, slice_get, slice_range, Limits, is_writer, Answer, StepOf, Number}
use Rattle.progress.proofs.Words.{Whether, either, Memory, Record, Entry, Step, cause_worth, IsRun, Happens, memory_at, IsCause, IsDirect, IsOperation, IsOwnStep, Operation, TakesOwnStep}
use Rattle.progress.proofs.Words.{AreAmong, ChangesTree, steps_from, one_memory, All-head, All-tail, ◌&&◌, Content, Exchange, ReadersEnd, MeetsSeldom, hindrance_worth, meets, meets_at}
use Rattle.std.proofs.Math.Nat.{mul-le-mul_right, mul_assoc}
use Rattle.std.proofs.lemmas.List.Elements.{All-from_recursion}
use Rattle.std.specs.List.{AllByRecursion}
use Rattle.bw_model.specs.declared.step.Step.TheVariants.{Row, Slot}
use Rattle.deltas.specs.declared.record.Record.TheVariants as delta
use Rattle.linearization.specs.Whole.{most_meets, most_worth}
use Rattle.progress.proofs.Counted.{AreDistinct, Each, IsNotAmong}
use Rattle.progress.proofs.Hindering.{beside, both_at_most, changes_at, changes_by, beside_by, hinder, is_change, takes_beside}
use Rattle.progress.proofs.Numbered.{IsIn}
use Rattle.progress.proofs.Payers.{Pays, all_distinct, paid_by}
use Rattle.progress.proofs.Spans.{missed_by_take, of_own}
use Rattle.progress.proofs.Tallies.{counted_range, passes, passes_in, tally, tally_either, tally_most, itself}

-- a list of places, by a test
pub record Parted (t : ℕ → Bool) (P : ℕ → Type 0) (cs : List ℕ) : Type 0 where
  pub on : List ℕ
  pub off : List ℕ
  pub many : length cs ≡ length on + length off
  pub on_apart : AreDistinct on
  pub off_apart : AreDistinct off
  pub on_each : Each (λ c. P c × (t c ≡ true)) on
  pub off_each : Each (λ c. P c × (t c ≡ false)) off
  pub on_fresh : (d : ℕ) → IsNotAmong d cs → IsNotAmong d on
  pub off_fresh : (d : ℕ) → IsNotAmong d cs → IsNotAmong d off

pub parted : (t : ℕ → Bool) (P : ℕ → Type 0) (cs : List ℕ) → AreDistinct cs → All P cs → Parted t P cs
parted t P [] once all = record { on = []; off = []; many = refl; on_apart = tt; off_apart = tt; on_each = tt; off_each = tt; on_fresh = λ d h. tt; off_fresh = λ d h. tt }
parted t P (c ∷ cs) once all =
    let rest = parted t P cs once.1 (All-tail P c cs all) in
    let here = All-head P c cs all in
    either (t c)
    (λ yes. record {
      on = c ∷ rest.on;
      off = rest.off;
      many = (let many = rest.many in omega (arith, many));
      on_apart = (rest.on_fresh c once.0, rest.on_apart);
      off_apart = rest.off_apart;
      on_each = ((here, yes), rest.on_each);
      off_each = rest.off_each;
      on_fresh = λ d h. (h.0, rest.on_fresh d h.1);
      off_fresh = λ d h. rest.off_fresh d h.1;
    })
    (λ no. record {
      on = rest.on;
      off = c ∷ rest.off;
      many = (let many = rest.many in omega (arith, many));
      on_apart = rest.on_apart;
      off_apart = (rest.off_fresh c once.0, rest.off_apart);
      on_each = rest.on_each;
      off_each = ((here, no), rest.off_each);
      on_fresh = λ d h. rest.on_fresh d h.1;
      off_fresh = λ d h. (h.0, rest.off_fresh d h.1);
    })

-- places as how far they are from one
pub record FromOn (m : ℕ) (Q : ℕ → Type 0) (cs : List ℕ) : Type 0 where
  pub js : List ℕ
  pub as_many : length js ≡ length cs
  pub apart : AreDistinct js
  pub each : Each (λ j. Q (m + j)) js
  pub fresh : (d : ℕ) → m ≤ d → IsNotAmong d cs → IsNotAmong (d - m) js

pub from_on : (m : ℕ) (Q : ℕ → Type 0) (cs : List ℕ) → AreDistinct cs → Each (λ c. (m ≤ c) × Q c) cs → FromOn m Q cs
from_on m Q [] once each = record { js = []; as_many = refl; apart = tt; each = tt; fresh = λ d le h. tt }
from_on m Q (c ∷ cs) once each =
    let rest = from_on m Q cs once.1 each.1 in
    let le : m ≤ c = each.0.0 in
    let at : m + (c - m) ≡ c = omega arith in
    record {
      js = (c - m) ∷ rest.js;
      as_many = ap suc rest.as_many;
      apart = (rest.fresh c le once.0, rest.apart);
      each = (subst Q (sym at) each.0.1, rest.each);
      fresh = λ d low h. (λ same. h.0 (let e : d - m ≡ c - m = same in omega (arith, e)), rest.fresh d low h.1);
    }

pub each_mapped : (P Q : ℕ → Type 0) (cs : List ℕ) → ((c : ℕ) → P c → Q c) → Each P cs → Each Q cs
each_mapped P Q [] f each = tt
each_mapped P Q (c ∷ cs) f each = (f c each.0, each_mapped P Q cs f each.1)

pub each_at : (P : ℕ → Type 0) (cs : List ℕ) (d : ℕ) → Each P cs → IsIn d cs → P d
each_at P [] d each within = absurd within
each_at P (c ∷ cs) d each (inl here) = subst P (sym here) each.0
each_at P (c ∷ cs) d each (inr there) = each_at P cs d each.1 there

pub all_of : (P : ℕ → Type 0) (cs : List ℕ) → Each P cs → All P cs
all_of P cs each = All-from_recursion P cs (by_list cs each)
  where
    by_list : (cs : List ℕ) → Each P cs → AllByRecursion P cs
    by_list [] each = tt
    by_list (c ∷ cs) each = (each.0, by_list cs each.1)

both_false : (a b : Bool) → a ≡ true → (a || b) ≡ false → ⊥
both_false true b e f = cc
both_false false b e f = cc

pub other_false : (a b : Bool) → b ≡ true → (a || b) ≡ false → ⊥
other_false true b e f = cc
other_false false b e f = cc

-- a writer's causes, and a reader's changes, by hindrances
pub writer_scaled : (limits : Limits) (command : Command) (steps causes hinders : ℕ) → is_writer command ≡ true → causes ≤ (most_meets + 1) * hinders → steps ≤ cause_worth limits * causes
    → steps ≤ hindrance_worth limits command * hinders
writer_scaled limits command steps causes hinders writer few paid = rw writer (scaled (cause_worth limits) few paid)
  where
    scaled : (worth : ℕ) → causes ≤ (22 + 1) * hinders → steps ≤ worth * causes → steps ≤ worth * (22 + 1) * hinders
    scaled worth few paid =
        let grown : worth * causes ≤ worth * ((22 + 1) * hinders) = mul-le-mul_left worth few in
        let assoc : worth * ((22 + 1) * hinders) ≡ worth * (22 + 1) * hinders = sym (mul_assoc worth (22 + 1) hinders) in
        omega (arith, paid, grown, assoc)

pub reader_scaled : (limits : Limits) (command : Command) (steps changes hinders : ℕ) → is_writer command ≡ false → changes ≤ hinders → 1 ≤ hinders → steps ≤ one_memory limits * changes + 3
    → steps ≤ hindrance_worth limits command * hinders
reader_scaled limits command steps changes hinders reader few some paid = rw reader (scaled (one_memory limits) paid)
  where
    scaled : (worth : ℕ) → steps ≤ worth * changes + 3 → steps ≤ (worth + 3) * hinders
    scaled worth paid =
        let grown : worth * changes ≤ worth * hinders = mul-le-mul_left worth few in
        let parts : (worth + 3) * hinders ≡ worth * hinders + 3 * hinders = add-mul worth 3 hinders in
        omega (arith, paid, grown, parts, some)

-- no operation's hindrance is worth more than most
pub within_most : (limits : Limits) (command : Command) (steps hinders : ℕ) → steps ≤ hindrance_worth limits command * hinders → steps ≤ most_worth limits * hinders
within_most limits command steps hinders paid = within steps (hindrance_worth limits command) (most_worth limits) (by_kind (is_writer command)) paid
  where
    within : (steps worth most : ℕ) → worth ≤ most → steps ≤ worth * hinders → steps ≤ most * hinders
    within steps worth most le paid = let grown : worth * hinders ≤ most * hinders = mul-le-mul_right hinders le in omega (arith, paid, grown)

    by_kind : (writer : Bool) → (if writer then cause_worth limits * (22 + 1) else one_memory limits + 3) ≤ cause_worth limits * (22 + 1) + one_memory limits + 3
    by_kind true = omega arith
    by_kind false = omega arith

module _ (limits : Limits) (entries : List Entry) where
  -- whether an actor's step at the place meets what is gone
  abbrev pub gone : ℕ → ℕ → Bool
  gone a = passes_in (meets_at a) entries

  -- or changes the tree
  abbrev pub told : ℕ → ℕ → Bool
  told a k = is_change limits entries k || gone a k

  pub meets_here : (op : Operation) (c : ℕ) (step : StepOf Record) (answer : Answer Record) → TakesOwnStep entries op c step answer → meets step answer ≡ true → gone op.actor c ≡ true
  meets_here op c step answer took e =
      ap (passes (meets_at op.actor)) took.1.entry ∙ ap (λ (b : Bool). b && meets step answer) (itself op.actor) ∙ e

  -- a change in the list is one that is counted
  happens_is : (k : ℕ) → Happens limits entries k ChangesTree → is_change limits entries k ≡ true
  happens_is k h =
      let c = h.holds in
      changes_by limits entries k c.0 c.1 c.2 c.3 c.4 (c.5.0.0, h.at ∙ ap Some c.5.0.1) c.5.1 c.6 c.7

  change_alone : (m : Memory) (a : ℕ) (o : Option Entry) → changes_at m o ≡ true → takes_beside a o ≡ false
  change_alone m a (Some (Step actor (Exchange slot old new) (Whether true) reply)) e = refl
  change_alone m a o e = absurd (cc)

  one_of_two : (k a : ℕ) → cond (is_change limits entries k) 1 0 + cond (beside limits entries a k) 1 0 ≤ cond {A = ℕ} (hinder limits entries a k) 1 0
  one_of_two k a = either (is_change limits entries k)
      (λ yes.
      let none : beside limits entries a k ≡ false = change_alone (memory_at limits entries k) a (slice_get entries k) yes in
      let le : 1 + 0 ≤ 1 = omega arith in
      rw (yes, none) le)
      (λ no. let le : 0 + cond {A = ℕ} (beside limits entries a k) 1 0 ≤ cond {A = ℕ} (beside limits entries a k) 1 0 = omega arith in rw no le)

  pub two_tallies : (a m n : ℕ) → tally (is_change limits entries) m n + tally (beside limits entries a) m n ≤ tally (hinder limits entries a) m n
  two_tallies a m zero = let le : 0 + 0 ≤ 0 = omega arith in le
  two_tallies a m (suc n) = let rest = two_tallies a m n in let here = one_of_two (m + n) a in omega (arith, rest, here)

  pub changes_count : (m n : ℕ) (changes : List ℕ) → AreAmong limits entries m n ChangesTree changes → length changes ≤ tally (is_change limits entries) m (suc n - m)
  changes_count m n changes among =
      let f = from_on m (λ c. (c ≤ n) × (is_change limits entries c ≡ true)) changes (all_distinct changes among.increasing) (by_list changes among.each) in
      let most = tally_most (is_change limits entries) m (suc n - m) f.js f.apart
      (each_mapped (λ j. (m + j ≤ n) × (is_change limits entries (m + j) ≡ true)) (λ j. (j < suc n - m) × (is_change limits entries (m + j) ≡ true)) f.js
      (λ j h. ((let le : m + j ≤ n = h.0 in omega arith), h.1)) f.each) in
      let many = f.as_many in
      omega (arith, most, many)
    where
      by_list : (cs : List ℕ) → All (λ place. (m ≤ place) × (place ≤ n) × Happens limits entries place ChangesTree) cs → Each (λ c. (m ≤ c) × ((c ≤ n) × (is_change limits entries c ≡ true))) cs
      by_list [] all = tt
      by_list (c ∷ cs) all =
          let here = All-head (λ place. (m ≤ place) × (place ≤ n) × Happens limits entries place ChangesTree) c cs all in
          ((here.0, (here.1, happens_is c here.2)), by_list cs (All-tail (λ place. (m ≤ place) × (place ≤ n) × Happens limits entries place ChangesTree) c cs all))

  -- Where each cause is told by an entry, or another's take pays for it, or it is one of some more, what hinders pays for them.
  pub met_few : (a m n extra causes : ℕ) (changes : List ℕ) → AreAmong limits entries m n ChangesTree changes
      → count_by (meets_at a) (slice_range entries m (suc n)) ≤ (1 + length changes) * most_meets
      → causes ≤ tally (told a) m (suc n - m) + tally (beside limits entries a) m (suc n - m) + extra
      → causes ≤ (most_meets + 1) * tally (hinder limits entries a) m (suc n - m) + most_meets + extra
  met_few a m n extra causes changes among few all =
      let changed = changes_count m n changes among in
      let counts : count_by (meets_at a) (slice_range entries m (suc n)) ≡ tally (gone a) m (suc n - m) = counted_range (meets_at a) entries m (suc n - m) in
      let parts = tally_either (told a) (is_change limits entries) (gone a) m (suc n - m) (λ k. both_at_most (is_change limits entries k) (gone a k)) in
      let both = two_tallies a m (suc n - m) in
      enough causes (tally (told a) m (suc n - m)) (tally (beside limits entries a) m (suc n - m)) (tally (is_change limits entries) m (suc n - m)) (tally (gone a) m (suc n - m))
      (tally (hinder limits entries a) m (suc n - m)) (length changes) extra all parts both changed (rw (← counts) few)
    where
      enough : (causes told taken changed met hinders list extra : ℕ) → causes ≤ told + taken + extra → told ≤ changed + met → changed + taken ≤ hinders → list ≤ changed → met ≤ (1 + list) * 22
          → causes ≤ (22 + 1) * hinders + 22 + extra
      enough causes told taken changed met hinders list extra one two three four five = omega (arith, one, two, three, four, five)

  module _ (run : IsRun limits entries) (direct : IsDirect limits entries) (op : Operation) (begun : IsOperation entries op) (n : ℕ) where
    abbrev pub IsCauseBefore : ℕ → Type 0
    IsCauseBefore c = (c ≤ n) × IsCause limits entries op c

    -- a cause is told by its own entry, but for a take that missed
    pub miss_pays : (c : ℕ) → IsCauseBefore c × (told op.actor c ≡ false) → (k : ℕ) × Pays limits entries run op k c
    miss_pays c ((le, inl h), off) =
        absurd (both_false (is_change limits entries c) (gone op.actor c) (changes_by limits entries c op.actor h.1.0 h.1.1 h.1.2 h.0 (of_own h.1.3) h.1.4 h.2 h.3) off)
    miss_pays c ((le, inr (inl (slot, old, new, m, lost, lt, read, calm))), off) =
        absurd (other_false (is_change limits entries c) (gone op.actor c) (meets_here op c (Exchange slot old new) (Whether false) lost refl) off)
    miss_pays c ((le, inr (inr (inl (item, bits, m, lt, bit, calm, inl took)))), off) =
        let h = missed_by_take limits entries run op true item bits m c lt bit took.0 took.1 calm in
        let a : op.start < m = took.1.1.begun in
        let b : m < h.0 = h.1 in
        let e : h.0 < c = h.2 in
        (h.0, (omega arith, omega arith, inr (inr (record { pids = true; number = item; since = m; low = h.1; high = h.2; took = took.0; none = calm; beside = h.3 }))))
    miss_pays c ((le, inr (inr (inl (item, bits, m, lt, bit, calm, inr took)))), off) =
        let h = missed_by_take limits entries run op false item bits m c lt bit took.0 took.1 calm in
        let a : op.start < m = took.1.1.begun in
        let b : m < h.0 = h.1 in
        let e : h.0 < c = h.2 in
        (h.0, (omega arith, omega arith, inr (inr (record { pids = false; number = item; since = m; low = h.1; high = h.2; took = took.0; none = calm; beside = h.3 }))))
    miss_pays c ((le, inr (inr (inr (m, root, lt, at, last, inl (row, remove, took, first))))), off) =
        absurd (other_false (is_change limits entries c) (gone op.actor c) (meets_here op c (Row row) (Content (delta.Remove remove)) took refl) off)
    miss_pays c ((le, inr (inr (inr (m, root, lt, at, last, inr (pid, row, k, content, took, first, low, high, above, names))))), off) =
        absurd (other_false (is_change limits entries c) (gone op.actor c) (meets_here op c (Slot pid) (Number 0) took refl) off)

    begun_after : (c : ℕ) → IsCause limits entries op c → op.start < c
    begun_after c (inl h) = h.1.3.1.begun
    begun_after c (inr (inl (slot, old, new, m, lost, lt, read, calm))) = lost.1.begun
    begun_after c (inr (inr (inl (item, bits, m, lt, bit, calm, inl took)))) = took.0.1.begun
    begun_after c (inr (inr (inl (item, bits, m, lt, bit, calm, inr took)))) = took.0.1.begun
    begun_after c (inr (inr (inr (m, root, lt, at, last, inl (row, remove, took, first))))) = took.1.begun
    begun_after c (inr (inr (inr (m, root, lt, at, last, inr (pid, row, k, content, took, first, low, high, above, names))))) = took.1.begun

    -- what pays for one that isn't told is another's take
    pub beside_pays : (k d : ℕ) → told op.actor d ≡ false → Pays limits entries run op k d → beside limits entries op.actor k ≡ true
    beside_pays k d off (low, high, inl p) =
        absurd (both_false (is_change limits entries d) (gone op.actor d) (changes_by limits entries d op.actor p.slot p.old p.new p.kind (of_own p.took) p.links p.no_ready p.no_undo) off)
    beside_pays k d off (low, high, inr (inl p)) =
        absurd (other_false (is_change limits entries d) (gone op.actor d) (meets_here op d (Exchange p.slot p.old p.new) (Whether false) p.took refl) off)
    beside_pays k d off (low, high, inr (inr p)) = beside_by limits entries k op.actor p.beside.0 p.number p.pids p.beside.1 p.beside.2

    all_beside : (cs js : List ℕ) → Each (λ c. IsCauseBefore c × (told op.actor c ≡ false)) cs → Each (λ j. (d : ℕ) × IsIn d cs × Pays limits entries run op (op.start + j) d) js
        → Each (λ j. (j < suc n - op.start) × (beside limits entries op.actor (op.start + j) ≡ true)) js
    all_beside cs [] off each = tt
    all_beside cs (j ∷ js) off each =
        let at = each_at (λ c. IsCauseBefore c × (told op.actor c ≡ false)) cs each.0.0 off each.0.1 in
        let pays = each.0.2 in
        let high : op.start + j ≤ each.0.0 = pays.1 in
        let most : each.0.0 ≤ n = at.0.0 in
        ((omega (arith, high, most), beside_pays (op.start + j) each.0.0 at.1 pays), all_beside cs js off each.1)

    few_causes : (cs : List ℕ) → IsStrictlyIncreasing cs → All IsCauseBefore cs
        → length cs ≤ tally (told op.actor) op.start (suc n - op.start) + tally (beside limits entries op.actor) op.start (suc n - op.start)
    few_causes cs up all =
        let p = parted (told op.actor) IsCauseBefore cs (all_distinct cs up) all in
        let f = from_on op.start (λ c. (c ≤ n) × (told op.actor c ≡ true)) p.on p.on_apart
        (each_mapped (λ c. IsCauseBefore c × (told op.actor c ≡ true)) (λ c. (op.start ≤ c) × ((c ≤ n) × (told op.actor c ≡ true))) p.on
        (λ c h. ((let after = begun_after c h.0.1 in omega (arith, after)), (h.0.0, h.1))) p.on_each) in
        let on = tally_most (told op.actor) op.start (suc n - op.start) f.js f.apart
        (each_mapped (λ j. (op.start + j ≤ n) × (told op.actor (op.start + j) ≡ true)) (λ j. (j < suc n - op.start) × (told op.actor (op.start + j) ≡ true)) f.js
        (λ j h. ((let le : op.start + j ≤ n = h.0 in omega arith), h.1)) f.each) in
        let paid = paid_by limits entries run op (λ c. IsCauseBefore c × (told op.actor c ≡ false)) miss_pays p.off p.off_apart
        (all_of (λ c. IsCauseBefore c × (told op.actor c ≡ false)) p.off p.off_each) in
        let off = tally_most (beside limits entries op.actor) op.start (suc n - op.start) paid.numbers paid.distinct (all_beside p.off paid.numbers p.off_each paid.each) in
        let many = p.many in
        let as_many = f.as_many in
        let as_paid = paid.as_many in
        omega (arith, on, off, many, as_many, as_paid)

    -- changes, and what they pay for
    writer_causes : MeetsSeldom limits entries → is_writer op.command ≡ true → IsOwnStep entries op n → (cs : List ℕ) → IsStrictlyIncreasing cs → All IsCauseBefore cs
        → length cs + 1 ≤ (most_meets + 1) * (tally (hinder limits entries op.actor) op.start (suc n - op.start) + 1)
    writer_causes seldom writer own cs up all =
        let h = seldom.few op n begun writer own in
        let causes = met_few op.actor op.start n 0 (length cs) h.0 h.1 h.2 (let few = few_causes cs up all in omega (arith, few)) in
        omega (arith, causes)

    paid_writer : MeetsSeldom limits entries → is_writer op.command ≡ true → IsOwnStep entries op n
        → steps_from entries op.actor op.start n ≤ hindrance_worth limits op.command * (tally (hinder limits entries op.actor) op.start (suc n - op.start) + 1)
    paid_writer seldom writer own =
        let h = direct.few op n begun own in
        writer_scaled limits op.command (steps_from entries op.actor op.start n) (length h.0 + 1) (tally (hinder limits entries op.actor) op.start (suc n - op.start) + 1) writer
        (writer_causes seldom writer own h.0 h.1 h.2) h.3

    paid_reader : ReadersEnd limits entries → is_writer op.command ≡ false → IsOwnStep entries op n
        → steps_from entries op.actor op.start n ≤ hindrance_worth limits op.command * (tally (hinder limits entries op.actor) op.start (suc n - op.start) + 1)
    paid_reader ends reader own =
        let h = ends.few op n begun reader own in
        let changed = changes_count op.start n h.0 h.1 in
        let both = two_tallies op.actor op.start (suc n - op.start) in
        reader_scaled limits op.command (steps_from entries op.actor op.start n) (length h.0 + 1) (tally (hinder limits entries op.actor) op.start (suc n - op.start) + 1) reader
        (omega (arith, changed, both)) (omega arith) h.2

    pub paid_by_all : ReadersEnd limits entries → MeetsSeldom limits entries → IsOwnStep entries op n
        → steps_from entries op.actor op.start n ≤ hindrance_worth limits op.command * (tally (hinder limits entries op.actor) op.start (suc n - op.start) + 1)
    paid_by_all ends seldom own = either (is_writer op.command) (λ writer. paid_writer seldom writer own) (λ reader. paid_reader ends reader own)
