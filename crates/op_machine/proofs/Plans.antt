-- What the ends of a writer's rounds give the changes that follow.
use Rattle.std.proofs.Common.{◌≡◌, ◌<◌, ◌≤◌, ◌+◌, ◌*◌, suc, inl, inr, ℕ, List, [], ◌∷◌, ◌++◌, ◌-◌, length, take, Bool, true, Option, Some, None, false, refl, sym, ap, subst, ◌∙◌, arith}
use Rattle.std.proofs.Math.Nat.{mul-le-mul_left, mul-suc}
use Rattle.std.proofs.lemmas.List.{length-append, length-take}
use Rattle.std.specs.Option.{ForSome}
use Rattle.std.specs.Prelude.{◌==◌}
use Rattle.traces.specs.chain.Chains.{level_in}
use Rattle.op_machine.proofs.Words.{nat_lt, slice_get, if◌then◌else◌, Limits, next_row, IsSpellablePage, Record, IsFitted, Knowledge, Recalled, IsAlive, Spares, PlacedWrite, Version}
use Rattle.op_machine.proofs.Words.{few_changes, one_round, with_errands, FacesWritten, IsAtLeafBelow, left_round_of, IsRoundOf, Seeks, Task}
use Rattle.base_page.specs.Pages.{Page}
use Rattle.deltas.specs.declared.record.Record.TheVariants as kind
use Rattle.round_model.specs.WriteEnds as end
use Rattle.round_model.specs.WriteRounds.{IsLongEnd, WriteRound}
use Rattle.change_machine.specs.Changes as change
use Rattle.structure_changes.specs.Sizes.{many_of}
use Rattle.op_parts.specs.Errands.{with_errand}

-- a page in hand is a place for a record
pub place_of : (limits : Limits) (k : Knowledge) (r : Recalled) (page : Version) (content : Record) → IsAlive limits k r page
    → ForSome (next_row content) (λ next. next < limits.rows) → change.IsTargetOver limits page.pid page.head content
place_of limits k r page content alive next = record { page = page.is_pid.0; pid_below = alive.in_hand.page; linked = alive.recalled.0; head_below = alive.in_hand.row; next_below = next }

-- what links over a page in hand, which it names as the row that is under it, is planned for a place
pub over_page : (limits : Limits) (k : Knowledge) (r : Recalled) (page : Version) (content : Record) → IsAlive limits k r page
    → next_row content ≡ Some page.head → change.IsTargetOver limits page.pid page.head content
over_page limits k r page content alive e = place_of limits k r page content alive (λ next is. let same : next ≡ page.head = cc in rw same alive.in_hand.row)

-- a page is consolidated at one delta or more
some_many : (limits : Limits) (level : ℕ) → 0 < many_of limits level
some_many limits level = by_test limits.is_large (level == 0)
  where
    by_test : (large leaf : Bool) → 0 < (if large then (if leaf then 2 else 1) else 8)
    by_test true true = omega arith
    by_test large leaf = omega arith

-- a base that fits by itself can be spelled
pub spells_base : (page : Page) → IsFitted (kind.Base page ∷ []) → IsSpellablePage page
spells_base page h = let is = h.1 in let same : page ≡ h.0 = cc in rw same h.2

-- a page that is consolidated has deltas
pub long_chain : (round : WriteRound) (k : Knowledge) (r : Recalled) (page : Version) (base : Page) → 0 < round.due → IsLongEnd round k r page base → 1 < length page.chain
long_chain round k r page base some ends = elim ends.long [
  | inl many ↦ let more = some_many round.limits (level_in page.chain) in omega (arith, many, more)
  | inr leaf ↦ omega (arith, some)
]

module _ (task : Task) (spares : Spares) (k : Knowledge) (r : Recalled) where
  -- a round that ends at the leaf that it looked for is at that leaf
  pub at_sought_leaf : (parent : Option Version) (leaf : Version) → FacesWritten task spares k r (end.Leaf parent leaf) → IsAtLeafBelow task spares k r parent leaf
  at_sought_leaf parent leaf h =
      let ends = h.ends in
      let limits = h.round_of.limits in
      record {
        at = record {
          seeks = h.seeks;
          writer = h.writer;
          page = rw limits at ends.page;
          level = ends.level;
          covered = rw (h.round_of.key h.sought) at ends.covered;
          short = ends.short;
          early = rw (h.round_of.due h.sought) at ends.early;
          few = λ on. ends.few (h.round_of.splits h.sought ∙ on);
        };
        above = rw limits at ends.above;
        termed = λ on. ends.termed (h.round_of.splits h.sought ∙ on);
      }

-- what is known at the leaf of an errand is known for the next round, and at that of the command's key
pub without_errand : (task now : Task) (spares : Spares) (k : Knowledge) → now.limits ≡ task.limits → now.command ≡ task.command → Seeks task spares k → Seeks now spares k
without_errand task now spares k limits command s = record {
  inside = s.inside;
  spare = rw limits s.spare;
  unread = s.unread;
  asked = record { going = s.asked.going ∙ ap Some (sym command); unlinked = s.asked.unlinked };
}

last_some : (key : List ℕ) (errands : List (List ℕ)) → slice_get (key ∷ errands) (length errands) ≡ None → ⊥
last_some key [] e = cc
last_some key (next ∷ errands) e = last_some next errands e

pub none_left : (errands : List (List ℕ)) → slice_get errands (length errands - 1) ≡ None → errands ≡ []
none_left [] e = refl
none_left (key ∷ errands) e = absurd (last_some key errands (subst (λ n. slice_get (key ∷ errands) n ≡ None) (let n = length errands in omega arith) e))

-- a round for one errand fewer takes no more steps than a change
pub errand_less : (limits : Limits) (errands : List (List ℕ)) (key : List ℕ) (left : ℕ) → Some key ≡ slice_get errands (length errands - 1)
    → left ≤ one_round limits → with_errands limits (take (length errands - 1) errands) left ≤ with_errands limits errands (few_changes limits + 1)
errand_less limits [] key left e few = cc
errand_less limits (first ∷ errands) key left e few =
    let less : length (take (length (first ∷ errands) - 1) (first ∷ errands)) ≡ length errands = omega (arith, length-take (length (first ∷ errands) - 1) (first ∷ errands)) in
    let same : one_round limits * length (take (length (first ∷ errands) - 1) (first ∷ errands)) ≡ one_round limits * length errands = ap (λ n. one_round limits * n) less in
    let more : one_round limits * suc (length errands) ≡ one_round limits * length errands + one_round limits = mul-suc (one_round limits) (length errands) in
    omega (arith, few, same, more)

pub errands_same : (limits : Limits) (errands : List (List ℕ)) (left most : ℕ) → left ≤ most → with_errands limits errands left ≤ with_errands limits errands most
errands_same limits errands left most few = omega (arith, few)

longer_by_one : (key : List ℕ) (errands : List (List ℕ)) → length (with_errand key errands) ≤ suc (length errands)
longer_by_one key errands = by_test (nat_lt (length errands) 16)
  where
    by_test : (room : Bool) → length (if room then errands ++ key ∷ [] else errands) ≤ suc (length errands)
    by_test true = let longer = length-append errands (key ∷ []) in omega (arith, longer)
    by_test false = omega arith

-- a round with one errand more takes no more steps than two rounds
pub errand_more : (limits : Limits) (errands : List (List ℕ)) (key : List ℕ) (left : ℕ) → left ≤ one_round limits
    → with_errands limits (with_errand key errands) left ≤ with_errands limits errands (one_round limits + one_round limits)
errand_more limits errands key left few =
    let product : one_round limits * length (with_errand key errands) ≤ one_round limits * suc (length errands) = mul-le-mul_left (one_round limits) (longer_by_one key errands) in
    let more : one_round limits * suc (length errands) ≡ one_round limits * length errands + one_round limits = mul-suc (one_round limits) (length errands) in
    omega (arith, few, product, more)

pub one_more : (left most : ℕ) → left ≤ most → left + 1 ≤ most + 1
one_more left most few = omega arith

-- a round to the left of a removed page is one of the operation
pub left_is_of : (task : Task) (writer : PlacedWrite) → writer.round.limits ≡ task.limits → IsRoundOf task (left_round_of writer)
left_is_of task writer have = record { limits = have; some = omega arith; key = λ is. cc; due = λ is. cc; tends = λ is. cc; splits = λ is. cc }
