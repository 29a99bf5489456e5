-- A planned record is what the discipline asks to be linked.
use Rattle.structure_changes.proofs.Words.{◌≡◌, ◌<◌, ◌-◌, ℕ, suc, List, Bool, true, false, Some, ap, ◌∙◌, arith, IsTrue, Child, Page, content_at, Record, Hold, Merge, Remove}
use Rattle.structure_changes.proofs.Words.{Term, Unterm, content_in, covers, is_removed, level_in, low_in, IsFitted, IsPageChain, ruled, SplitPlan, Version, IsSplitPlan, split_to}
use Rattle.structure_changes.proofs.Words.{IsTermPlan, IsRootPlan, IsHoldPlan, IsRemovePlan, IsMergePlan, IsUntermPlan}
use Rattle.deltas.specs.declared.record.Record.TheVariants as kind
use Rattle.traces.specs.discipline.Discipline.{HasRead, MayHold, MayMerge, MayPost, MayRemove, MayRoot, MaySplit, MayUnterm}
use Rattle.traces.specs.discipline.Knowledge.{Knowledge, Ready, Written}
use Rattle.traces.proofs.UnheldLaws.{unheld_by_items}
use Rattle.structure_changes.specs.Readings.{HasSeen, IsAfter}
use Rattle.structure_changes.proofs.Places.{index_at, inside, made}
use Rattle.structure_changes.proofs.RootFits.{some}

-- a key that a fitted chain has a child at is in its range, and the chain is above the leaves
pub covered : (chain : List Record) → IsFitted chain → (key : List ℕ) (child : ℕ) (held : Bool) → content_in chain key ≡ Some (Child child held) → IsTrue (covers chain key) × (0 < level_in chain)
covered chain fitted key child held there =
    let (page, makes) = made chain fitted in
    let rules = ruled chain page fitted makes in
    let at : content_at page.items key ≡ Some (Child child held) = makes.items.contents key ∙ there in (
      rw (← makes.low, ← makes.high) (inside page rules key (Child child held) at),
      rw (← makes.level) (index_at page rules key child held at),
    )

abbrev has_read : (k : Knowledge) (page : Version) → HasSeen k page → is_removed page.chain ≡ false → HasRead k page.pid page.head
has_read k page seen alive = record { head = seen.head; chain = page.chain; read = seen.read; alive = alive }

base_in : Page → Record → Page
base_in other (kind.Base page) = page
base_in other _ = other

pub split_due : (k : Knowledge) (page : Version) (plan : SplitPlan) (right row : ℕ) → IsSplitPlan page plan → k.own.pages right ≡ Ready row
    → k.own.rows row ≡ Written (kind.Base plan.upper) → MaySplit k page.head page.chain (kind.Split (split_to plan right))
unfolding base_in
split_due k page plan right row is ready base =
    let level : plan.upper.level ≡ level_in page.chain = ap (λ (r : Record). (base_in plan.upper r).level) is.base in
    record {
      separator = plan.upper.low;
      above = is.above;
      below = is.below;
      right = right;
      row = row;
      ready = ready;
      items = plan.upper.items;
      alike = λ key within above. is.alike key above;
      base = base ∙ ap Written is.base;
      ruled = rw (← is.base) is.stands;
      is = ap kind.Split (λ i. record { level = level i; next = is.over i; separator = plan.upper.low; page = right });
    }

pub term_due : (k : Knowledge) (parent page : Version) (term : Term) → IsTermPlan parent page term → HasSeen k page → IsAfter k parent page
    → MayPost k parent.pid parent.head parent.chain (kind.Term term)
term_due k parent page term is seen order = record {
  child = page.pid;
  row = page.head;
  below = has_read k page seen is.can.alive;
  level = is.can.level;
  covers = is.can.covered;
  absent = is.can.absent;
  order = order;
  is = ap kind.Term is.is;
}

pub root_due : (k : Knowledge) (left right : Version) (root : Page) (new row : ℕ) → IsRootPlan left right root → IsPageChain left.chain → HasSeen k left
    → k.own.pages new ≡ Ready row → k.own.rows row ≡ Written (kind.Base root) → MayRoot k left.pid new
root_due k left right root new row is fitted seen ready base = record {
  row = left.head;
  basis = has_read k left seen is.stands;
  right = right.pid;
  is_right = is.can.next_to.right;
  separator = low_in right.chain;
  is_high = is.can.next_to.high;
  some = some left right fitted.fitted is.can.lowest is.can.next_to;
  base_row = row;
  ready = ready;
  base = base ∙ ap Written is.is;
  ruled = rw (← is.is) is.fits;
}

pub hold_due : (parent page : Version) (hold : Hold) → IsHoldPlan parent page hold → IsPageChain parent.chain → MayHold parent.head parent.chain (kind.Hold hold)
hold_due parent page hold is fitted =
    let key = low_in page.chain in
    let at = covered parent.chain fitted.fitted key page.pid false is.can.there in
    record {
      level = level_in parent.chain - 1;
      is_level = (let some = at.1 in omega (arith, some));
      key = key;
      covers = at.0;
      child = page.pid;
      present = is.can.there;
      is = ap kind.Hold is.is;
    }

pub remove_due : (k : Knowledge) (parent page : Version) (remove : Remove) → IsRemovePlan parent page remove → IsPageChain parent.chain
    → is_removed parent.chain ≡ false → level_in parent.chain ≡ suc (level_in page.chain) → HasSeen k parent
    → MayRemove k page.pid page.head page.chain (kind.Remove remove)
remove_due k parent page remove is fitted alive level seen = let (items, are, none) = is.can.unheld in record {
  parent = parent.pid;
  row = parent.head;
  above = has_read k parent seen alive;
  level = level;
  covers = (covered parent.chain fitted.fitted (low_in page.chain) page.pid true is.can.held).0;
  held = is.can.held;
  unheld = unheld_by_items page.chain items are none;
  is = ap kind.Remove is.is;
}

pub merge_due : (k : Knowledge) (left removed : Version) (merge : Merge) → IsMergePlan left removed merge → HasSeen k removed → MayMerge k left.head left.chain (kind.Merge merge)
merge_due k left removed merge is seen = record {
  other = removed.pid;
  row = removed.head;
  head = seen.head;
  merged = removed.chain;
  read = seen.read;
  gone = is.can.gone;
  right = is.can.next_to.right;
  high = is.can.next_to.high;
  items = merge.items;
  alike = λ key within. is.has.contents key;
  is = ap kind.Merge is.is;
}

pub unterm_due : (k : Knowledge) (parent left removed : Version) (unterm : Unterm) → IsUntermPlan parent left removed unterm → IsPageChain parent.chain
    → level_in parent.chain ≡ suc (level_in left.chain) → HasSeen k left → IsAfter k parent left
    → MayUnterm k parent.pid parent.head parent.chain (kind.Unterm unterm)
unterm_due k parent left removed unterm is fitted level seen order = record {
  key = low_in removed.chain;
  covers = (covered parent.chain fitted.fitted (low_in removed.chain) removed.pid true is.can.held).0;
  child = removed.pid;
  present = is.can.held;
  left = left.pid;
  row = left.head;
  below = has_read k left seen is.can.alive;
  level = level;
  above = is.can.above;
  within = is.can.within;
  apart = λ high right. is.can.apart (record { right = right; high = high });
  order = order;
  is = ap kind.Unterm is.is;
}
