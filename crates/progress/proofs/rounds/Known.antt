-- Where a reader's round stands in the memory of a state, by what its actor knows.
use Rattle.progress.proofs.Words.{◌≡◌, ◌<◌, ◌≤◌, ◌⊎◌, ◌++◌, ℕ, zero, suc, List, [], Bool, true, false, Some, None, refl, sym, ap, ◌∙◌, inl, inr, arith, IsTrue, Limits, Child, Memory, Record}
use Rattle.progress.proofs.Words.{IsPageChain, Entry, Knowledge, knows, memory_of, IsChainFrom-unique, same_page, Version, Key, HasWholeTree, IsState, phase_of, covers_from, KeepsItsPlace}
use Rattle.progress.proofs.Words.{IsPlace, NamesPlaces, IsChainFrom, content_in, covers, is_removed, level_in, low_in, right_in, shared_part, slot_some}
use Rattle.linearization.specs.Phases as phase
use Rattle.traces.specs.chain.Chains.{IsFront}
use Rattle.structure_changes.specs.Readings.{HasSeen}
use Rattle.structure_changes.proofs.Due.{covered}
use Rattle.round_model.specs.Walks.{IsExpected}
use Rattle.round_model.specs.Ways.{NamesAt}
use Rattle.tree_law.specs.Owners.{ChainNames, InOrder, IsOut, OrderFits, Reached}
use Rattle.tree_law.specs.Phase.{Cleared, Keeps, Nobody, PageOwner, Placed, Stage, rank, rank_of}
use Rattle.tree_law.specs.Shared.{row_in, slot_in}
use Rattle.tree_law.specs.Tree.{IsOff}
use Rattle.tree_law.proofs.links.Keeping.{on_or_merged}
use Rattle.tree_law.proofs.WholeTrees.{listed_tree}
use Rattle.tree_law.proofs.shape.Chains.{chain_within, front_of}
use Rattle.tree_law.proofs.shape.Leaves.{not_free}
use Rattle.tree_law.proofs.shape.Mapping.{chain_at}

-- a slot without a row holds 0
no_row : (slots : ℕ → ℕ) (page : ℕ) → 0 < page → slot_in slots page ≡ None → slots page ≡ 0
no_row slots zero some e = absurd (omega (arith, some))
no_row slots (suc page) some e = by_number (slots (suc page)) refl
  where
    by_number : (n : ℕ) → slots (suc page) ≡ n → slots (suc page) ≡ 0
    by_number zero is = is
    by_number (suc n) is = let row : slot_in slots (suc page) ≡ Some (suc n) = ap row_in is in let both : None ≡ Some (suc n) = sym e ∙ row in absurd (cc)

not_cleared_free : (a l : ℕ) (s : Key) → phase_of (Cleared a l s) ≡ phase.free → ⊥
not_cleared_free a l s e = absurd (cc)

module _ (limits : Limits) (entries : List Entry) (state : IsState limits entries) (actor : ℕ) where
  abbrev memory : Memory
  memory = memory_of limits entries

  abbrev pub tree : HasWholeTree limits (memory_of limits entries)
  tree = (listed_tree limits entries state).tree

  abbrev k : Knowledge
  k = knows entries actor

  abbrev Places : ℕ → Type 0
  Places pid = IsPlace tree pid

  -- a page that is off its side chain
  off_place : (q l : ℕ) (s : Key) → (0 < q) × (q < limits.pids) → IsOff (state.owners.page q) l s → Places q
  off_place q l s range off = elim (state.is_tree.tree.off q l s off) [
    | inl out ↦ inl (no_row memory.slots q range.0 out.0)
    | inr there ↦ inr (
      record { pid = q; chain = there.chain },
      refl,
      record {
        level = l;
        stands = record {
          pid = range.1;
          stands = chain_at memory q there.row there.chain there.head there.is_chain;
          fits = state.fitted there.row there.linked
              there.chain there.is_chain;
          level_is = there.level;
        };
        is = inl there.flagged;
      },
    )
  ]

  in_range : (q : ℕ) → (phase_of (state.owners.page q) ≡ phase.free → ⊥) → (0 < q) × (q < limits.pids)
  in_range q used = elim (state.named.pid_below q) [ inl free ↦ absurd (used free) | inr range ↦ range ]

  on_place : (q l : ℕ) (s : Key) (st : Stage) → state.owners.page q ≡ Placed st l s → rank st ≤ 3 → Places q
  on_place q l s st e on =
      let r = (listed_tree limits entries state).listed l q s st e on in
      inr (r.0, r.1, record { level = l; stands = tree.each l r.0 r.2; is = inr r.2 })

  -- a page that is in the tree, or was
  pub place_of : (q r l : ℕ) (s : Key) → Reached r l s (state.owners.page q) → Places q
  place_of q r l s reached = by_owner (state.owners.page q) refl reached
    where
      by_owner : (owner : PageOwner) → state.owners.page q ≡ owner → Reached r l s owner → Places q
      by_owner Nobody e reached = absurd reached
      by_owner (Keeps a) e reached = absurd reached
      by_owner (Placed st m t) e reached = elim (on_or_merged st) [
        | inl on ↦ on_place q m t st e on
        | inr merged ↦ off_place q m t (in_range q (λ free. not_free st m t (ap phase_of (sym e) ∙ free))) (inl (e ∙ ap (λ (x : Stage). Placed x m t) merged))
      ]
      by_owner (Cleared a m t) e reached = off_place q m t (in_range q (λ free. not_cleared_free a m t (ap phase_of (sym e) ∙ free))) (inr (a, e))

  -- what a chain names is a place, where it is in the tree, or was
  names_of : (chain : List Record) → IsPageChain chain → ChainNames state.owners chain → NamesPlaces tree chain
  names_of chain fits names = record {
    right = λ next e. let n = names.right next e in place_of next 0 (level_in chain) n.0 n.2;
    child = λ key next held has. let c = covered chain fits.fitted key next held has in by_level (level_in chain) refl key next held has c.0 c.1;
  }
    where
      by_level : (level : ℕ) → level_in chain ≡ level → (key : Key) (next : ℕ) (held : Bool) → content_in chain key ≡ Some (Child next held)
          → IsTrue (covers chain key) → 0 < level_in chain → Places next
      by_level zero e key next held has cov index = absurd (omega (arith, e, index))
      by_level (suc l) e key next held has cov index = place_of next (rank_of (Child next held)) l key (names.items l key (Child next held) e (covers_from chain key cov) has)

  -- a record that was read stands
  pub stand : (row : ℕ) (content : Record) → k.read.seen row ≡ Some content → memory.rows row ≡ Some content
  stand row content e = (rw e at ((state.is_tree.sound actor).seen_fits row)).1

  -- A slot was read, and this is the chain from its row: what it names is in the tree, unless it is removed; and then it stands in the slot still.
  pub record WasRead (pid head : ℕ) (chain : List Record) : Type 0 where
    pub is_chain : IsChainFrom memory.rows head chain
    pub fits : IsPageChain chain
    pub reached : Reached 0 (level_in chain) (low_in chain) (state.owners.page pid)
    pub names : is_removed chain ≡ false → ChainNames state.owners chain
    pub stays : is_removed chain ≡ true → ((shared_part memory).slots pid ≡ Some head) ⊎ IsOut (state.owners.page pid) ((shared_part memory).slots pid)

  pub was_read : (pid head : ℕ) → k.read.heads pid ≡ Some head → (chain : List Record) × WasRead pid head chain
  was_read pid head e =
      let h = rw e at ((state.is_tree.sound actor).heads_fit pid) in
      (h.2.chain, record { is_chain = h.2.is_chain; fits = state.fitted head h.2.linked h.2.chain h.2.is_chain; reached = h.3; names = h.5; stays = h.4 })

  pub read_whole : (version : Version) → HasSeen k version → WasRead version.pid version.head version.chain
  read_whole version seen =
      let r = was_read version.pid version.head seen.head in
      let stands : IsChainFrom memory.rows version.head version.chain = chain_within k.read.seen memory.rows stand version.chain (Some version.head) seen.read in
      let same : r.0 ≡ version.chain = IsChainFrom-unique memory.rows version.head r.0 version.chain r.1.is_chain stands in
      rw (← same) r.1

  pub read_front : (pid head row : ℕ) (part : List Record) → k.read.heads pid ≡ Some head → IsFront k.read.seen head part row
      → (rest : List Record) × IsChainFrom memory.rows row rest × WasRead pid head (part ++ rest)
  read_front pid head row part e front =
      let r = was_read pid head e in
      let f = front_of k.read.seen memory.rows stand head part row r.0 front r.1.is_chain in
      (f.0, f.1, rw (← f.2) r.1)

  pub read_names : (pid head : ℕ) (chain : List Record) → WasRead pid head chain → is_removed chain ≡ false → NamesPlaces tree chain
  read_names pid head chain r alive = names_of chain r.fits (r.names alive)

  -- a removed page is the right of a page only as it was read
  pub read_kept : (pid head : ℕ) (chain : List Record) → WasRead pid head chain → is_removed chain ≡ true → KeepsItsPlace tree (record { pid = pid; chain = chain })
  read_kept pid head chain r gone level other on is_right =
      let q = tree.right level other pid on is_right in
      let stands = (tree.each level q.0 q.1).stands in
      let linked : 0 < memory.slots pid = rw (← q.2) stands.linked in
      let some : 0 < pid = rw (← q.2) stands.page in
      elim (r.stays gone) [
        | inl still ↦
            let slot = slot_some memory.slots pid head still in
            let here : IsChainFrom memory.rows head q.0.chain = rw (← (ap memory.slots q.2 ∙ slot.1)) stands.records in
            let chains : q.0.chain ≡ chain = IsChainFrom-unique memory.rows head q.0.chain chain here r.is_chain in
            rw (← same_page q.0 (record { pid = pid; chain = chain }) q.2 chains) q.1
        | inr out ↦ absurd (let zeroth = no_row memory.slots pid some out.0 in omega (arith, linked, zeroth))
      ]

  -- what a removed page names, which was read before the one that has it as its right
  beyond_names : (pid head removed row : ℕ) (chain gone_chain : List Record) → WasRead pid head chain → k.read.heads pid ≡ Some head
      → k.read.before pid removed ≡ Some row → IsChainFrom memory.rows row gone_chain
      → is_removed gone_chain ≡ true → is_removed chain ≡ false → right_in chain ≡ Some removed → IsPageChain gone_chain × ChainNames state.owners gone_chain
  beyond_names pid head removed row chain gone_chain r at_head at_row is_chain gone alive is_right =
      let order : OrderFits state.owners (shared_part memory) (state.logs actor) pid removed (k.read.heads pid) (k.read.before pid removed) = (state.is_tree.sound actor).orders_fit pid removed in
      let head_order : OrderFits state.owners (shared_part memory) (state.logs actor) pid removed (Some head) (k.read.before pid removed) = rw (← at_head) order in
      let in_order : InOrder state.owners (shared_part memory) (state.logs actor) pid head removed row = rw at_row at head_order in
      (state.fitted row in_order.above gone_chain is_chain, in_order.beyond gone_chain chain is_chain r.is_chain gone alive is_right)

  pub read_beyond : (pid head removed row : ℕ) (chain gone_chain : List Record) → WasRead pid head chain → k.read.heads pid ≡ Some head
      → k.read.before pid removed ≡ Some row → IsChainFrom memory.rows row gone_chain
      → is_removed gone_chain ≡ true → is_removed chain ≡ false → right_in chain ≡ Some removed → NamesPlaces tree gone_chain
  read_beyond pid head removed row chain gone_chain r at_head at_row is_chain gone alive is_right =
      let b = beyond_names pid head removed row chain gone_chain r at_head at_row is_chain gone alive is_right in
      names_of gone_chain b.0 b.1

  -- The page is in the tree, or was.
  pub record IsReached (pid : ℕ) : Type 0 where
    pub least : ℕ
    pub level : ℕ
    pub low : Key
    pub reached : Reached least level low (state.owners.page pid)

  named_reached : (chain : List Record) (page level : ℕ) (low : Key) → ChainNames state.owners chain → NamesAt chain page level low → IsReached page
  named_reached chain page level low names n = elim n [
    | inl right ↦ let r = names.right page right.0 in record { least = 0; level = level_in chain; low = r.0; reached = r.2 }
    | inr child ↦ record { least = rank_of (Child page child.0); level = level; low = low; reached = names.items level low (Child page child.0) child.1 (covers_from chain low child.2) child.3 }
  ]

  -- a page to which a round has gone
  pub expected_reached : (round_limits : Limits) (page level : ℕ) (low : Key) (earlier : List ℕ) → IsExpected round_limits k page level low earlier → IsReached page
  expected_reached round_limits page level low earlier expected = elim expected [
    | inl root ↦ let r = (state.is_tree.sound actor).roots_fit page root.0 in record { least = 0; level = r.0; low = []; reached = r.1 }
    | inr other ↦ elim other [
      | inl n ↦ let r = read_whole n.naming n.in_hand.seen in named_reached n.naming.chain page level low (r.names n.alive) n.names
      | inr n ↦
          let r = read_whole n.left n.in_hand.seen in
          let stands : IsChainFrom memory.rows n.beyond.row n.beyond.chain = chain_within k.read.seen memory.rows stand n.beyond.chain (Some n.beyond.row) n.beyond.read in
          let b = beyond_names n.left.pid n.left.head n.beyond.removed n.beyond.row n.left.chain n.beyond.chain r n.in_hand.seen.head n.beyond.order stands n.beyond.gone n.alive n.beyond.right in
          named_reached n.beyond.chain page level low b.1 n.names
    ]
  ]

  pub expected_place : (round_limits : Limits) (page level : ℕ) (low : Key) (earlier : List ℕ) → IsExpected round_limits k page level low earlier → Places page
  expected_place round_limits page level low earlier expected = let r = expected_reached round_limits page level low earlier expected in place_of page r.least r.level r.low r.reached
