-- Linking what a plan gives keeps the leaves whole, and the map.
use Rattle.structure_changes.proofs.Words.{◌≡◌, ◌≢◌, ◌<◌, ◌⊎◌, inl, inr, ℕ, List, [], ◌∷◌, true, false, Option, Some, None, refl, sym, ap, ◌∙◌, arith, IsTrue, not, is_lt}
use Rattle.structure_changes.proofs.Words.{is_below, is_in_range, is_under, Value, Page, Record, Hold, Merge, Remove, Term, Unterm, Memory, replaced_at, next_row, IsChainFrom, IsChainOf}
use Rattle.structure_changes.proofs.Words.{chain_rows, content_in, covers, high_in, level_in, low_in, right_in, IsPageChain, LivePage, IsSideChainFrom, IsWholeFrom, ruled, SplitPlan}
use Rattle.structure_changes.proofs.Words.{Version, IsSplitPlan, split_to, IsTermPlan, IsHoldPlan, IsRemovePlan, IsMergePlan, merge_of, IsUntermPlan}
use Rattle.base_page.proofs.KeyLaws.{above, and_both, and_left, and_right, below-trans, below_from, below_reach, either, not_true}
use Rattle.deltas.specs.declared.record.Record.TheVariants as kind
use Rattle.traces.specs.discipline.Discipline.{base_from}
use Rattle.traces.proofs.ChainLaws.{IsChainOf-unique}
use Rattle.structure_changes.specs.Linking.{HasLeaves, HasVersion, IsSpareRow, KeepsMap, with_link, with_root}
use Rattle.structure_changes.proofs.Due.{covered}
use Rattle.structure_changes.proofs.Leaves.{AreAlike, Avoids, Goes, Segment, Shows, apart, avoided, beside_keeps, chain_stays, link_stays, page_keeps, rest_stays}
use Rattle.structure_changes.proofs.Places.{made}
use Rattle.deltas.proofs.Replaced.{replaced_same, replaced_other}

-- a page that was read is one
pub chain_of : (memory : Memory) (version : Version) → HasVersion memory version → IsChainOf memory version.pid version.chain
chain_of memory version h = record { page = version.is_pid.0; linked = rw h.slot version.is_row.0; records = rw h.slot h.chain }

-- every page but the linked one stands
others_stay : (memory : Memory) (page row : ℕ) (content : Record) → IsSpareRow memory row → (pid : ℕ) (chain : List Record) → pid ≢ page
    → IsChainOf memory pid chain → IsChainOf (with_link page row content memory) pid chain
others_stay memory page row content spare pid chain other is = link_stays memory page row content pid chain other is (avoided memory row pid chain spare is)

-- a record over an index page
above_keeps : (memory : Memory) (version : Version) (row : ℕ) (content : Record) → HasLeaves memory → HasVersion memory version → IsSpareRow memory row
    → 0 < level_in version.chain → KeepsMap memory (with_link version.pid row content memory)
above_keeps memory version row content h holds spare index = beside_keeps memory (with_link version.pid row content memory) version.pid h (others_stay memory version.pid row content spare)
    (λ chain is level.
    let same : chain ≡ version.chain = IsChainOf-unique memory version.pid chain version.chain is (chain_of memory version holds) in
    let leaf : level_in version.chain ≡ 0 = rw (← same) level in
    omega (arith, index, leaf))

pub term_keeps : (memory : Memory) (parent page : Version) (term : Term) (row : ℕ) → IsTermPlan parent page term → HasLeaves memory → HasVersion memory parent
    → IsSpareRow memory row → KeepsMap memory (with_link parent.pid row (kind.Term term) memory)
term_keeps memory parent page term row is h holds spare = above_keeps memory parent row (kind.Term term) h holds spare (let level = is.can.level in omega (arith, level))

pub hold_keeps : (memory : Memory) (parent page : Version) (hold : Hold) (row : ℕ) → IsHoldPlan parent page hold → IsPageChain parent.chain → HasLeaves memory
    → HasVersion memory parent → IsSpareRow memory row → KeepsMap memory (with_link parent.pid row (kind.Hold hold) memory)
hold_keeps memory parent page hold row is rules h holds spare =
    above_keeps memory parent row (kind.Hold hold) h holds spare (covered parent.chain rules.fitted (low_in page.chain) page.pid false is.can.there).1

pub unterm_keeps : (memory : Memory) (parent left removed : Version) (unterm : Unterm) (row : ℕ) → IsUntermPlan parent left removed unterm
    → IsPageChain parent.chain → HasLeaves memory → HasVersion memory parent → IsSpareRow memory row
    → KeepsMap memory (with_link parent.pid row (kind.Unterm unterm) memory)
unterm_keeps memory parent left removed unterm row is rules h holds spare =
    above_keeps memory parent row (kind.Unterm unterm) h holds spare (covered parent.chain rules.fitted (low_in removed.chain) removed.pid true is.can.held).1

-- a page whose slot was empty
pub ready_keeps : (memory : Memory) (page row : ℕ) (content : Record) → HasLeaves memory → memory.slots page ≡ 0 → IsSpareRow memory row → KeepsMap memory (with_link page row content memory)
ready_keeps memory page row content h empty spare = beside_keeps memory (with_link page row content memory) page h (others_stay memory page row content spare)
    (λ chain is level. let some = is.linked in omega (arith, empty, some))

-- another root
pub with_root_keeps : (memory : Memory) (page : ℕ) → HasLeaves memory → KeepsMap memory (with_root page memory)
with_root_keeps memory page h = beside_keeps memory (with_root page memory) 0 h
    (λ pid chain other is.
    let slot : replaced_at 0 page memory.slots pid ≡ memory.slots pid = replaced_other 0 page memory.slots pid other in
    record { page = is.page; linked = rw slot is.linked; records = rw slot is.records })
    (λ chain is level. let some = is.page in omega (arith, some))

-- a record over a page that was read
pub over_chain : (memory : Memory) (version : Version) (row : ℕ) (content : Record) → HasVersion memory version → IsSpareRow memory row
    → next_row content ≡ Some version.head → IsChainOf (with_link version.pid row content memory) version.pid (content ∷ version.chain)
over_chain memory version row content holds spare next =
    let is = chain_of memory version holds in
    let slot : replaced_at version.pid row memory.slots version.pid ≡ row = replaced_same version.pid row memory.slots in
    let avoid : Avoids row (chain_rows version.head version.chain) = rw (← holds.slot) (avoided memory row version.pid version.chain spare is) in
    let under : IsChainFrom (replaced_at row (Some content) memory.rows) version.head version.chain = chain_stays memory.rows row (Some content) version.head version.chain holds.chain avoid in
    let records : IsChainFrom (replaced_at row (Some content) memory.rows) row (content ∷ version.chain) = (replaced_same row (Some content) memory.rows, rw next under) in
    record { page = is.page; linked = rw slot spare.some; records = rw slot records }

-- a removal
pub remove_keeps : (memory : Memory) (parent page : Version) (remove : Remove) (row : ℕ) → IsRemovePlan parent page remove → HasLeaves memory
    → HasVersion memory page → IsSpareRow memory row → KeepsMap memory (with_link page.pid row (kind.Remove remove) memory)
remove_keeps memory parent page remove row is h holds spare = page_keeps memory (with_link page.pid row (kind.Remove remove) memory) page.pid h stays here
  where
    stays : (pid : ℕ) (chain : List Record) → pid ≢ page.pid → IsChainOf memory pid chain → IsChainOf (with_link page.pid row (kind.Remove remove) memory) pid chain
    stays = others_stay memory page.pid row (kind.Remove remove) spare

    here : (low : List ℕ) (pages : List LivePage) → Segment memory page.pid low pages → Goes (with_link page.pid row (kind.Remove remove) memory) page.pid low pages
    here low [] s = absurd s.sides
    here low (first ∷ pages) s =
        let same : page.chain ≡ first.chain = IsChainOf-unique memory page.pid page.chain first.chain (chain_of memory page holds) s.sides.1 in
        let over = over_chain memory page row (kind.Remove remove) holds spare (ap (λ (r : Remove). Some r.next) is.is) in (
          record { pid = page.pid; chain = kind.Remove remove ∷ first.chain } ∷ pages,
          record {
            sides = (
              refl,
              rw (← same) over,
              rest_stays memory (with_link page.pid row (kind.Remove remove) memory) page.pid stays (right_in first.chain) pages s.sides.2 (apart memory page.pid first pages s.sides),
            );
            whole = s.whole;
            level = s.level;
          },
          (λ key value. ((λ shown. shown), (λ shown. shown))),
        )

-- a new root: its page is made ready, and slot 0 set to it
pub root_keeps : (memory : Memory) (root : Page) (new row : ℕ) → HasLeaves memory → memory.slots new ≡ 0 → IsSpareRow memory row
    → KeepsMap memory (with_link new row (kind.Base root) memory) × KeepsMap (with_link new row (kind.Base root) memory) (with_root new (with_link new row (kind.Base root) memory))
root_keeps memory root new row h empty spare =
    let first = ready_keeps memory new row (kind.Base root) h empty spare in
    (first, with_root_keeps (with_link new row (kind.Base root) memory) new first.leaves)

-- keys

under_trans : (key separator : List ℕ) (high : Option (List ℕ)) → is_below key separator ≡ true → is_under separator high ≡ true → is_under key high ≡ true
under_trans key separator None below under = refl
under_trans key separator (Some high) below under = ap is_lt (below-trans key separator high (below_from key separator below) (below_from separator high under))

not_under : (low separator key : List ℕ) → is_below low separator ≡ true → is_below key separator ≡ false → not (is_below key low) ≡ true
not_under low separator key below reach = let more = above low key (below_reach low separator key (below_from low separator below) reach) in rw more refl

starts : (low : List ℕ) (high : Option (List ℕ)) (key : List ℕ) → IsTrue (is_in_range low high key) → not (is_below key low) ≡ true
starts low high key within = and_left (not (is_below key low)) (is_under key high) within

ends : (low : List ℕ) (high : Option (List ℕ)) (key : List ℕ) → IsTrue (is_in_range low high key) → is_under key high ≡ true
ends low high key within = and_right (not (is_below key low)) (is_under key high) within

in_range : (low : List ℕ) (high : Option (List ℕ)) (key : List ℕ) → not (is_below key low) ≡ true → is_under key high ≡ true → IsTrue (is_in_range low high key)
in_range low high key from until = and_both (not (is_below key low)) (is_under key high) from until

-- A key of a page that is split is in the range of one of the halves, which decides it as the page did.
pub halves : (page : Version) (plan : SplitPlan) (right : ℕ) → IsSplitPlan page plan → (key : List ℕ) → IsTrue (covers page.chain key)
    → (IsTrue (covers (kind.Split (split_to plan right) ∷ page.chain) key) × (content_in (kind.Split (split_to plan right) ∷ page.chain) key ≡ content_in page.chain key))
    ⊎ (IsTrue (covers (base_from page.chain plan.upper.low plan.upper.items ∷ []) key) × (content_in (base_from page.chain plan.upper.low plan.upper.items ∷ []) key ≡ content_in page.chain key))
halves page plan right is key within = either (is_below key plan.upper.low)
    (λ below. inl (in_range (low_in page.chain) (Some plan.upper.low) key (starts (low_in page.chain) (high_in page.chain) key within) below, rw below refl))
    (λ reach. inr (in_range plan.upper.low (high_in page.chain) key (ap not reach) (ends (low_in page.chain) (high_in page.chain) key within), is.alike key reach))

-- a split: the new page is made ready, and the split linked
module _ (memory : Memory) (page : Version) (plan : SplitPlan) (right row base_row : ℕ) (is : IsSplitPlan page plan) (h : HasLeaves memory)
    (holds : HasVersion memory page) (some : 0 < right) (empty : memory.slots right ≡ 0)
    (spare : IsSpareRow memory row) (spare_base : IsSpareRow memory base_row) (distinct : row ≢ base_row) where
  abbrev base : Record
  base = base_from page.chain plan.upper.low plan.upper.items

  abbrev split : Record
  split = kind.Split (split_to plan right)

  abbrev ready : Memory
  ready = with_link right base_row base memory

  abbrev split_memory : Memory
  split_memory = with_link page.pid row split ready

  page_is : IsChainOf memory page.pid page.chain
  page_is = chain_of memory page holds

  right_other : page.pid ≢ right
  right_other e = let linked_is = page_is.linked in let none : memory.slots page.pid ≡ 0 = rw e empty in omega (arith, linked_is, none)

  stays : (pid : ℕ) (chain : List Record) → pid ≢ page.pid → IsChainOf memory pid chain → IsChainOf split_memory pid chain
  stays pid chain other at =
      let not_right : pid ≢ right = λ e. (let linked_is = at.linked in let none : memory.slots pid ≡ 0 = rw e empty in omega (arith, linked_is, none)) in
      let slot : ready.slots pid ≡ memory.slots pid = replaced_other right base_row memory.slots pid not_right in
      link_stays ready page.pid row split pid chain other (others_stay memory right base_row base spare_base pid chain not_right at)
      (rw slot (avoided memory row pid chain spare at))

  ready_holds : HasVersion ready page
  ready_holds = record {
    slot = replaced_other right base_row memory.slots page.pid right_other ∙ holds.slot;
    chain = chain_stays memory.rows base_row (Some base) page.head page.chain holds.chain
        (rw (← holds.slot) (avoided memory base_row page.pid page.chain spare_base page_is));
  }

  split_is : IsChainOf split_memory page.pid (split ∷ page.chain)
  split_is =
      let slot : split_memory.slots page.pid ≡ row = replaced_same page.pid row ready.slots in
      let avoid : Avoids row (chain_rows page.head page.chain) = rw (← holds.slot) (avoided memory row page.pid page.chain spare page_is) in
      let under : IsChainFrom split_memory.rows page.head page.chain = chain_stays ready.rows row (Some split) page.head page.chain ready_holds.chain avoid in
      let records : IsChainFrom split_memory.rows row (split ∷ page.chain) = (replaced_same row (Some split) ready.rows, rw is.over under) in
      record { page = page.is_pid.0; linked = rw slot spare.some; records = rw slot records }

  right_is : IsChainOf split_memory right (base ∷ [])
  right_is =
      let slot : split_memory.slots right ≡ base_row = replaced_other page.pid row ready.slots right (λ e. right_other (sym e)) ∙ replaced_same right base_row memory.slots in
      let there : split_memory.rows base_row ≡ Some base = replaced_other row (Some split) ready.rows base_row (λ e. distinct (sym e)) ∙ replaced_same base_row (Some base) memory.rows in
      let records : IsChainFrom split_memory.rows base_row (base ∷ []) = (there, refl) in
      record { page = some; linked = rw slot spare_base.some; records = rw slot records }

  halves_alike : (first : LivePage) (pages : List LivePage) → page.chain ≡ first.chain
      → AreAlike (first ∷ pages) (record { pid = page.pid; chain = split ∷ page.chain } ∷ record { pid = right; chain = base ∷ [] } ∷ pages)
  halves_alike first pages same key value = (
    (λ shown. elim shown [
      | inl (within, content) ↦ parted (rw same within) (rw same content)
      | inr rest ↦ inr (inr rest)
    ]),
    (λ shown. elim shown [
      | inl (within, content) ↦ inl (lower within content)
      | inr (inl (within, content)) ↦ inl (upper within content)
      | inr (inr rest) ↦ inr rest
    ]),
  )
    where
      parted : IsTrue (covers page.chain key) → content_in page.chain key ≡ Some (Value value)
          → Shows key value (record { pid = page.pid; chain = split ∷ page.chain } ∷ record { pid = right; chain = base ∷ [] } ∷ pages)
      parted within content = elim (halves page plan right is key within) [
        | inl (there, same) ↦ inl (there, same ∙ content)
        | inr (there, same) ↦ inr (inl (there, same ∙ content))
      ]

      lower : IsTrue (covers (split ∷ page.chain) key) → content_in (split ∷ page.chain) key ≡ Some (Value value) → IsTrue (covers first.chain key) × (content_in first.chain key ≡ Some (Value value))
      lower within content =
          let below : is_below key plan.upper.low ≡ true = ends (low_in page.chain) (Some plan.upper.low) key within in (
            rw (← same) (in_range (low_in page.chain) (high_in page.chain) key
                (starts (low_in page.chain) (Some plan.upper.low) key within) (under_trans key plan.upper.low (high_in page.chain) below is.below)),
            rw (← same) (rw below at content),
          )

      upper : IsTrue (covers (base ∷ []) key) → content_in (base ∷ []) key ≡ Some (Value value) → IsTrue (covers first.chain key) × (content_in first.chain key ≡ Some (Value value))
      upper within content =
          let reach : is_below key plan.upper.low ≡ false = not_true (is_below key plan.upper.low) (starts plan.upper.low (high_in page.chain) key within) in (
            rw (← same)
                (in_range (low_in page.chain) (high_in page.chain) key (not_under (low_in page.chain) plan.upper.low key is.above reach)
                (ends plan.upper.low (high_in page.chain) key within)),
            rw (← same) (sym (is.alike key reach) ∙ content),
          )

  here : (low : List ℕ) (pages : List LivePage) → Segment memory page.pid low pages → Goes split_memory page.pid low pages
  here low [] s = absurd s.sides
  here low (first ∷ pages) s =
      let same : page.chain ≡ first.chain = IsChainOf-unique memory page.pid page.chain first.chain page_is s.sides.1 in
      let side = rw (← same) at s.sides.2 in
      let whole = rw (← same) at s.whole.1 in
      let lowest : low_in page.chain ≡ low = rw same s.whole.0 in
      let level : level_in page.chain ≡ 0 = rw same s.level.0 in (
        record { pid = page.pid; chain = split ∷ page.chain } ∷ record { pid = right; chain = base ∷ [] } ∷ pages,
        record {
          sides = (refl, split_is, (refl, right_is, rest_stays memory split_memory page.pid stays (right_in page.chain) pages side (apart memory page.pid first pages s.sides)));
          whole = (lowest, (refl, whole));
          level = (level, (level, s.level.1));
        },
        halves_alike first pages same,
      )

  -- before the split is linked, and after
  pub split_keeps : KeepsMap memory (with_link right base_row (kind.Base plan.upper) memory) × KeepsMap memory (with_link page.pid row split (with_link right base_row (kind.Base plan.upper) memory))
  split_keeps = rw is.base (ready_keeps memory right base_row base h empty spare_base, page_keeps memory split_memory page.pid h stays here)

-- the ranges of two pages that meet
module _ (left removed : Version) (merge : Merge) (is : IsMergePlan left removed merge) (rules : IsPageChain left.chain) (rules_removed : IsPageChain removed.chain) where
  left_spans : is_below (low_in left.chain) (low_in removed.chain) ≡ true
  left_spans =
      let (page, makes) = made left.chain rules.fitted in
      let spans = rw (makes.high ∙ is.can.next_to.high) at (ruled left.chain page rules.fitted makes).is_page.spans in
      rw (← makes.low) spans

  removed_spans : is_under (low_in removed.chain) (high_in removed.chain) ≡ true
  removed_spans =
      let (page, makes) = made removed.chain rules_removed.fitted in
      let spans = (ruled removed.chain page rules_removed.fitted makes).is_page.spans in
      rw (← makes.low, ← makes.high) spans

  abbrev joined : List Record
  joined = kind.Merge (merge_of left removed merge.items) ∷ left.chain

  -- a key of either page is in the range of the one that they become, which decides it as that page did
  pub from_left : (key : List ℕ) → IsTrue (covers left.chain key) → IsTrue (covers joined key) × (content_in joined key ≡ content_in left.chain key)
  from_left key within =
      let below : is_below key (low_in removed.chain) ≡ true = rw is.can.next_to.high at (ends (low_in left.chain) (high_in left.chain) key within) in (
        in_range (low_in left.chain) (high_in removed.chain) key (starts (low_in left.chain) (high_in left.chain) key within)
            (under_trans key (low_in removed.chain) (high_in removed.chain) below removed_spans),
        rw below refl,
      )

  pub from_removed : (key : List ℕ) → IsTrue (covers removed.chain key) → IsTrue (covers joined key) × (content_in joined key ≡ content_in removed.chain key)
  from_removed key within =
      let reach : is_below key (low_in removed.chain) ≡ false = not_true (is_below key (low_in removed.chain)) (starts (low_in removed.chain) (high_in removed.chain) key within) in (
        in_range (low_in left.chain) (high_in removed.chain) key (not_under (low_in left.chain) (low_in removed.chain) key left_spans reach)
            (ends (low_in removed.chain) (high_in removed.chain) key within),
        rw within (is.has.contents key),
      )

-- a merge
module _ (memory : Memory) (left removed : Version) (merge : Merge) (row : ℕ) (is : IsMergePlan left removed merge) (rules : IsPageChain left.chain) (rules_removed : IsPageChain removed.chain)
    (h : HasLeaves memory) (holds : HasVersion memory left) (holds_removed : HasVersion memory removed) (spare : IsSpareRow memory row) where
  abbrev due : Record
  due = kind.Merge (merge_of left removed merge.items)

  abbrev merged_memory : Memory
  merged_memory = with_link left.pid row due memory

  merge_stays : (pid : ℕ) (chain : List Record) → pid ≢ left.pid → IsChainOf memory pid chain → IsChainOf merged_memory pid chain
  merge_stays = others_stay memory left.pid row due spare

  both_alike : (first second : LivePage) (pages : List LivePage) → left.chain ≡ first.chain → removed.chain ≡ second.chain
      → AreAlike (first ∷ second ∷ pages) (record { pid = left.pid; chain = due ∷ left.chain } ∷ pages)
  both_alike first second pages same same_removed key value = (
    (λ shown. elim shown [
      | inl (within, content) ↦
          let whole = from_left left removed merge is rules rules_removed key (rw same within) in
          inl (whole.0, whole.1 ∙ rw same content)
      | inr (inl (within, content)) ↦
          let whole = from_removed left removed merge is rules rules_removed key (rw same_removed within) in
          inl (whole.0, whole.1 ∙ rw same_removed content)
      | inr (inr rest) ↦ inr rest
    ]),
    (λ shown. elim shown [
      | inl (within, content) ↦ parted within content
      | inr rest ↦ inr (inr rest)
    ]),
  )
    where
      parted : IsTrue (covers (due ∷ left.chain) key) → content_in (due ∷ left.chain) key ≡ Some (Value value) → Shows key value (first ∷ second ∷ pages)
      parted within content = either (is_below key (low_in removed.chain))
          (λ below.
          let under : is_under key (high_in left.chain) ≡ true = rw is.can.next_to.high below in
          inl (
            rw (← same) (in_range (low_in left.chain) (high_in left.chain) key (starts (low_in left.chain) (high_in removed.chain) key within) under),
            rw (← same) (rw below at content),
          ))
          (λ reach.
          let inside : is_in_range (low_in removed.chain) (high_in removed.chain) key ≡ true = in_range (low_in removed.chain) (high_in removed.chain) key
          (ap not reach) (ends (low_in left.chain) (high_in removed.chain) key within) in
          inr (inl (
            rw (← same_removed) inside,
            rw (← same_removed) (sym (is.has.contents key) ∙ (rw inside at content)),
          )))

  merge_here : (low : List ℕ) (pages : List LivePage) → Segment memory left.pid low pages → Goes merged_memory left.pid low pages
  merge_here low [] s = absurd s.sides
  merge_here low (first ∷ []) s =
      let same : left.chain ≡ first.chain = IsChainOf-unique memory left.pid left.chain first.chain (chain_of memory left holds) s.sides.1 in
      absurd (rw (ap right_in (sym same) ∙ is.can.next_to.right) at s.sides.2)
  merge_here low (first ∷ second ∷ pages) s =
      let same : left.chain ≡ first.chain = IsChainOf-unique memory left.pid left.chain first.chain (chain_of memory left holds) s.sides.1 in
      let next : IsSideChainFrom memory removed.pid (second ∷ pages) = rw (ap right_in (sym same) ∙ is.can.next_to.right) at s.sides.2 in
      let whole : IsWholeFrom (low_in removed.chain) (second ∷ pages) = rw (ap high_in (sym same) ∙ is.can.next_to.high) at s.whole.1 in
      let same_removed : removed.chain ≡ second.chain = IsChainOf-unique memory removed.pid removed.chain second.chain (chain_of memory removed holds_removed) next.1 in
      let side = rw (← same_removed) at next.2 in
      let rest = rw (← same_removed) at whole.1 in
      let lowest : low_in left.chain ≡ low = rw same s.whole.0 in
      let level : level_in left.chain ≡ 0 = rw same s.level.0 in (
        record { pid = left.pid; chain = due ∷ left.chain } ∷ pages,
        record {
          sides = (
            refl,
            over_chain memory left row due holds spare refl,
            rest_stays memory merged_memory left.pid merge_stays (right_in removed.chain) pages side
                (apart memory left.pid first (second ∷ pages) s.sides).1,
          );
          whole = (lowest, rest);
          level = (level, s.level.1.1);
        },
        both_alike first second pages same same_removed,
      )

  pub merge_keeps : KeepsMap memory (with_link left.pid row (kind.Merge merge) memory)
  merge_keeps = rw is.is (page_keeps memory merged_memory left.pid h merge_stays merge_here)
