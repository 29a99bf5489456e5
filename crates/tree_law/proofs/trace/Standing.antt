-- The pages and leaves that an operation has read stood at its own steps.
use Rattle.tree_law.proofs.Words.{false, ◌⊎◌, ap, refl, Option, suc, List, true, inl, length, ◌++◌, ◌≤◌, inr, ◌∷◌, sym, ℕ, ◌≡◌, ◌∙◌, ◌<◌, arith, Some, slice_get, Update, Command, Reply, Limits}
use Rattle.tree_law.proofs.Words.{Answer, Number, StepOf, Slot, Memory, Record, [], take-push, take-push_whole, IsChainFrom, right_in, low_in, is_removed, level_in, May, WasStanding}
use Rattle.tree_law.proofs.Words.{Knowledge, learn, Readings, LivePage, IsAnswer, memory_after, memory_at, command_of, Entry, Begin, Step, Operation, Key, Linked, Owners, Reached}
use Rattle.tree_law.proofs.Words.{InOrder, shared_part, slot_in, row_in, Shared, operation_from, IsUnended, HaveStood, WasRead, WereRead, WasLeafWith}
use Rattle.tree_law.proofs.Words.{IsLeafWith, IsTree, spec, Level, InPlace, same_Some}
use Rattle.tree_law.proofs.links.Exchanged.{exchanged_alike}
use Rattle.tree_law.proofs.links.Keeping.{alive_place, met_placed}
use Rattle.tree_law.proofs.links.Learning.{learning, at_page, wins, leaves}
use Rattle.tree_law.proofs.shape.{chain_unique, chain_stands, is_leaf, chain_at, same_memory, by_equal, chain_was, in_level_as, right_page}
use Rattle.tree_law.proofs.trace.Owned.{own_step_kept, own_new, pushed_length, step_below, takes_new}
use Rattle.tree_law.proofs.trace.Searches.{read_kept}

-- The page's slot was read before a step, or the step reads it now: what the actor knew, and what it knows after the step.
abbrev ReadBefore : Knowledge → Knowledge → ℕ → ℕ → Type 0
ReadBefore k k' page row = (k.read.heads page ≡ Some row) × (k'.read.before page ≡ k.read.before page)

record ReadsNow (k : Knowledge) (s : StepOf Record) (x : Answer Record) (k' : Knowledge) (page row : ℕ) : Type 0 where
  number : ℕ
  held : ℕ
  page_is : page ≡ suc number
  row_is : row ≡ suc held
  step_is : s ≡ Slot (suc number)
  answer_is : x ≡ Number (suc held)
  before_is : k'.read.before page ≡ k.read.heads

read_cases : (k : Knowledge) (s : StepOf Record) (x : Answer Record) (page row : ℕ) → (learn k s x).read.heads page ≡ Some row
    → ReadBefore k (learn k s x) page row ⊎ ReadsNow k s x (learn k s x) page row
read_cases k s x page row = elim (learning k s x) as (λ s x k' v. k'.read.heads page ≡ Some row → ReadBefore k k' page row ⊎ ReadsNow k s x k' page row) [
  | at_page p n ↦ λ e. by_equal page (suc p)
      (λ i t. inr (record { number = p; held = n; page_is = i; row_is = sym (same_Some (suc n) row (rw t at e)); step_is = refl; answer_is = refl; before_is = rw t }))
      (λ ne t. inl (rw t at e, rw t))
  | wins p y z ↦ λ e. inl (rw (exchanged_alike p y z k).read at e, ap (λ (r : Readings). r.before page) (exchanged_alike p y z k).read)
  | leaves y ↦ λ e. absurd (cc)
  | v ↦ λ e. inl (e, refl)
]

module _ {m : Shared} {log : List Update} {o : Owners} {knows : ℕ → Knowledge} {point : ℕ → Option (List Update)} {logs : ℕ → List (List Update)} (g : IsTree m log o knows point logs) (a : ℕ) where
  head_linked : (page row : ℕ) → (knows a).read.heads page ≡ Some row → o.row row ≡ Linked
  head_linked page row e = (rw e at ((g.sound a).heads_fit page)).2.linked

  order_linked : (page head other row : ℕ) → (knows a).read.heads page ≡ Some head → (knows a).read.before page other ≡ Some row → o.row row ≡ Linked
  order_linked page head other row e f =
      let i : InOrder o m (logs a) page head other row = rw f at (rw e at ((g.sound a).orders_fit page other)) in
      i.above

-- A page whose slot is read, and the removed page that is its right, as its slot was read before, are leaves.
module _ (memory : Memory) {log : List Update} {o : Owners} {knows : ℕ → Knowledge} {point : ℕ → Option (List Update)} {logs : ℕ → List (List Update)}
    (g : IsTree (shared_part memory) log o knows point logs) (a : ℕ)
    (page head level : ℕ) (low : Key) (reached : Reached 0 level low (o.page page)) (at : slot_in memory.slots page ≡ Some head) (basis : List Record)
    (is : IsChainFrom memory.rows head basis) (alive : is_removed basis ≡ false) where
  place : InPlace o (shared_part memory) (level_in basis) (spec log o.index (level_in basis)) (record { page = page; row = head; chain = basis })
  place = alive_place g a page level low reached head at basis is alive

  head_leaf : level_in basis ≡ 0 → IsLeafWith memory (record { pid = page; chain = basis })
  head_leaf leaf = is_leaf memory g page head basis (rw leaf at place)

  beside_leaf : (other row : ℕ) (chain : List Record) → right_in basis ≡ Some other → (knows a).read.heads other ≡ Some row → IsChainFrom memory.rows row chain
      → level_in chain ≡ 0 → is_removed chain ≡ true → IsLeafWith memory (record { pid = other; chain = chain })
  beside_leaf other row chain right read stands leaf gone =
      let on : Level o (shared_part memory) (level_in basis) (spec log o.index (level_in basis)) (g.tree.first (level_in basis)) = g.tree.levels (level_in basis)
      (g.tree.exact.below page (level_in basis) (low_in basis) place.stage place.placed) in
      let n = right_page on (record { page = page; row = head; chain = basis }) place other right in
      let h = rw read at ((g.sound a).heads_fit other) in
      let same : h.2.chain ≡ chain = chain_unique memory.rows h.2.chain chain (Some row) h.2.is_chain stands in
      let slot : slot_in memory.slots other ≡ Some row = elim (h.4 (ap is_removed same ∙ gone)) [ inl u ↦ u | inr u ↦ absurd (cc (n.3.placed, n.1, u.1.3)) ] in
      let r = (in_level_as on other (low_in n.0.chain) n.3.stage (ap o.page (sym n.1) ∙ n.3.placed) n.3.on row slot chain stands).place in
      is_leaf memory g other row chain (rw (sym r.is_page.on_level ∙ leaf) at r)

module _ (limits : Limits) (entries : List Entry) (last : Entry) where
  abbrev longer : List Entry
  longer = entries ++ last ∷ []

  was_kept : (op : Operation) (page : LivePage) → WasLeafWith limits entries op page → WasLeafWith limits longer op page
  was_kept op page h =
      let below : h.step < length entries = step_below entries last op h.step h.own in
      record {
        step = h.step;
        own = own_step_kept entries last op h.step h.own;
        asked = rw (take-push entries (last ∷ []) h.step (omega arith)) h.asked;
        stood = rw (same_memory limits entries last h.step (omega arith)) h.stood;
      }

  -- the leaf stood, and before it pages were read, whose chains were as they are
  leaf_kept : (op : Operation) (page : LivePage) (rows rows' : ℕ → Option Record) (before : ℕ → Option ℕ)
      → ((other row : ℕ) (chain : List Record) → before other ≡ Some row → IsChainFrom rows' row chain → IsChainFrom rows row chain)
      → (h : WasLeafWith limits entries op page) → WereRead limits entries op rows before h.step → (w : WasLeafWith limits longer op page) × WereRead limits longer op rows' before w.step
  unfolding was_kept
  leaf_kept op page rows rows' before was h were =
      (was_kept op page h, λ other row chain order is. read_kept entries last limits op h.step h.step other row chain (omega arith) (were other row chain order (was other row chain order is)))

  not_less : length entries ≤ length longer
  not_less = let long : length longer ≡ suc (length entries) = pushed_length entries last in omega arith

  module _ {m : Shared} {log : List Update} {o : Owners} {knows : ℕ → Knowledge} {point : ℕ → Option (List Update)} {logs : ℕ → List (List Update)}
      (g : IsTree m log o knows point logs) (rows' : ℕ → Option Record) (kept : (row : ℕ) → o.row row ≡ Linked → rows' row ≡ m.rows row) where
    -- the chain of a page as its slot was last read, and as it had been read before
    head_was : (b page row : ℕ) (chain : List Record) → (knows b).read.heads page ≡ Some row → IsChainFrom rows' row chain → IsChainFrom m.rows row chain
    head_was b page row chain read = chain_was o m rows' g.closed kept row chain (head_linked g b page row read)

    order_was : (b page head : ℕ) → (knows b).read.heads page ≡ Some head → (other row : ℕ) (chain : List Record) → (knows b).read.before page other ≡ Some row
        → IsChainFrom rows' row chain → IsChainFrom m.rows row chain
    order_was b page head read other row chain order = chain_was o m rows' g.closed kept row chain (order_linked g b page head other row read order)

    -- what an actor has read stood, after an entry that keeps the records of linked rows
    pub stood_kept : (op : Operation) (b : ℕ) → HaveStood limits entries op m.rows (knows b).read → HaveStood limits longer op rows' (knows b).read
    stood_kept op b h = record {
      reads = λ page row chain read is. read_kept entries last limits op (length entries) _ page row chain not_less (h.reads page row chain read (head_was b page row chain read is));
      heads =
          λ page row chain read is level alive. let was = h.heads page row chain read (head_was b page row chain read is) level alive in leaf_kept op _ m.rows
          rows' _ (order_was b page row read) was.0 was.1;
      beside = λ page head other row basis chain read is alive right order stands level gone. was_kept op _ (h.beside page head other row basis chain
          read (head_was b page head basis read is) alive right
          order (order_was b page head read other row chain order stands) level gone);
    }

  -- and after an own step
  module _ (memory : Memory) {log : List Update} {o : Owners} {knows : ℕ → Knowledge} {point : ℕ → Option (List Update)} {logs : ℕ → List (List Update)}
      (g : IsTree (shared_part memory) log o knows point logs)
      (a start : ℕ) (c : Command) (step : StepOf Record) (answer : Answer Record) (r : Option Reply) (now : memory_at limits entries (length entries) ≡ memory)
      (begins : slice_get entries start ≡ Some (Begin a c)) (unended : IsUnended entries start a) (asks : command_of entries a ≡ Some c) (last_is : last ≡ Step a step answer r)
      (may : May a (knows a) step) (is_answer : IsAnswer memory step answer) (kept : (row : ℕ) → o.row row ≡ Linked → (memory_after a step memory).rows row ≡ memory.rows row) where
    abbrev op : Operation
    op = operation_from start a c

    was_new : (page : LivePage) → IsLeafWith memory page → WasLeafWith limits longer op page
    was_new page leaf = record {
      step = length entries;
      own = own_new entries last start a c step answer r begins unended last_is;
      asked = rw (take-push_whole entries (last ∷ [])) asks;
      stood = rw (same_memory limits entries last (length entries) (omega arith) ∙ now) leaf;
    }

    -- the page whose slot the step reads
    record Sees (page row : ℕ) : Type 0 where
      level : ℕ
      low : Key
      reached : Reached 0 level low (o.page page)
      at : slot_in memory.slots page ≡ Some row
      rows : (x : ℕ) (chain : List Record) → IsChainFrom (memory_after a step memory).rows x chain → IsChainFrom memory.rows x chain

    sees : (page row : ℕ) → ReadsNow (knows a) step answer (learn (knows a) step answer) page row → Sees page row
    sees page row n =
        let told : Number (suc n.held) ≡ Number (memory.slots (suc n.number)) = rw n.answer_is at (rw n.step_is at is_answer) in
        let in_slot : memory.slots (suc n.number) ≡ suc n.held = cc in
        let placed = met_placed g a (suc n.number) (rw n.step_is at may).1 in
        record {
          level = placed.0;
          low = placed.1;
          reached = rw n.page_is placed.2;
          at = ap (slot_in memory.slots) n.page_is ∙ ap row_in in_slot ∙ ap Some (sym n.row_is);
          rows = λ x chain h. rw n.step_is at h;
        }

    abbrev rows' : ℕ → Option Record
    rows' = (memory_after a step memory).rows

    -- a slot's chain is read as it is
    now_read : (page row : ℕ) (chain : List Record) → ReadsNow (knows a) step answer (learn (knows a) step answer) page row → IsChainFrom rows' row chain
        → WasRead limits longer op (length longer) page row chain
    now_read page row chain n is =
        let s = sees page row n in
        let long : length longer ≡ suc (length entries) = pushed_length entries last in
        let held : answer ≡ Number row = n.answer_is ∙ ap Number (sym n.row_is) in
        record {
          step = length entries;
          before = omega arith;
          own = takes_new entries last start a c (Slot page) (Number row) r begins unended (last_is ∙ λ d. Step a ((n.step_is ∙ ap Slot (sym n.page_is)) d) (held d) r);
          stood = rw (same_memory limits entries last (length entries) (omega arith) ∙ now) (chain_at memory page row chain s.at (s.rows row chain is));
        }

    -- the leaf stands now, and before it pages were read
    leaf_new : (page : LivePage) → IsLeafWith memory page → ((row : ℕ) (chain : List Record) → IsChainFrom rows' row chain → IsChainFrom memory.rows row chain)
        → WereRead limits entries op memory.rows (knows a).read.heads (length entries) → (w : WasLeafWith limits longer op page) × WereRead limits longer op rows' (knows a).read.heads w.step
    unfolding was_new
    leaf_new page leaf was reads = (
      was_new page leaf,
      λ other row chain order is. read_kept entries last limits op (length entries) (length entries) other row chain (omega arith)
          (reads other row chain order (was row chain is)),
    )

    pub stood_own : HaveStood limits entries op memory.rows (knows a).read → HaveStood limits longer op (memory_after a step memory).rows (learn (knows a) step answer).read
    stood_own h = record {
      reads = λ page row chain read is. elim (read_cases (knows a) step answer page row read) [
        | inl b ↦ read_kept entries last limits op (length entries) _ page row chain not_less (h.reads page row chain b.0 (head_was g rows' kept a page row chain b.0 is))
        | inr n ↦ now_read page row chain n is
      ];
      heads = λ page row chain read is level alive. elim (read_cases (knows a) step answer page row read) [
        | inl b ↦
            let was = h.heads page row chain b.0 (head_was g rows' kept a page row chain b.0 is) level alive in
            rw b.1 (leaf_kept op _ memory.rows rows' _ (order_was g rows' kept a page row b.0) was.0 was.1)
        | inr n ↦ let s = sees page row n in rw n.before_is (leaf_new _ (head_leaf memory g a page row s.level s.low s.reached s.at chain (s.rows row chain is) alive level) s.rows h.reads)
      ];
      beside = λ page head other row basis chain read is alive right order stands level gone. elim (read_cases (knows a) step answer page head read) [
        | inl b ↦
            let order' : (knows a).read.before page other ≡ Some row = sym (ap (λ (f : ℕ → Option ℕ). f other) b.1) ∙ order in
            was_kept op _ (h.beside page head other row basis chain b.0 (head_was g rows' kept a page head basis b.0 is) alive right order'
            (order_was g rows' kept a page head b.0 other row chain order' stands) level gone)
        | inr n ↦
            let s = sees page head n in
            let read' : (knows a).read.heads other ≡ Some row = sym (ap (λ (f : ℕ → Option ℕ). f other) n.before_is) ∙ order in
            was_new _ (beside_leaf memory g a page head s.level s.low s.reached s.at basis (s.rows head basis is) alive other row chain right read' (s.rows row chain stands) level gone)
      ];
    }

-- where a chain that was read stood: on its page
pub was_standing : {m : Shared} {log : List Update} {o : Owners} {knows : ℕ → Knowledge} {point : ℕ → Option (List Update)} {logs : ℕ → List (List Update)}
    (g : IsTree m log o knows point logs) (a : ℕ)
    (limits : Limits) (entries : List Entry) (of : Operation) → HaveStood limits entries of m.rows (knows a).read
    → (row : ℕ) (chain : List Record) → IsChainFrom (knows a).read.seen row chain → level_in chain ≡ 0 → WasStanding (knows a) row chain
    → (page : ℕ) × WasLeafWith limits entries of (record { pid = page; chain = chain })
was_standing {m} {log} {o} {knows} g a limits entries of h row chain read level (inl u) =
    (u.0.0, (h.heads u.0.0 row chain u.0.1 (chain_stands o m (knows a).read.seen (g.sound a).seen_fits chain (Some row) read) level u.1).0)
was_standing {m} {log} {o} {knows} g a limits entries of h row chain read level (inr u) =
    let b = u.0 in (
      b.other,
      h.beside b.left b.head b.other row b.basis.chain chain b.basis.head
          (chain_stands o m (knows a).read.seen (g.sound a).seen_fits b.basis.chain (Some b.head) b.basis.read) b.basis.alive b.right b.order
          (chain_stands o m (knows a).read.seen (g.sound a).seen_fits chain (Some row) read) level u.1,
    )
