-- What is in store after a record was linked over a page's chain, where one page at most goes on.
use Rattle.tree_law.proofs.Words.{false, ◌⊎◌, [], ap, refl, Option, suc, List, true, inl, ◌≢◌, length, ◌≤◌, inr, ◌∷◌, sym, ℕ, ◌≡◌, ◌∙◌, ◌<◌, arith, Some, ◌+◌, ◌*◌, ◌-◌, Update, Item, next_row}
use Rattle.tree_law.proofs.Words.{Key, Record, IsChainFrom, level_in, low_in, HasRead, FitsOver, Knowledge, Written, Owners, Shared, IsTree, Placed, PageOwner, Stage, rank, Fresh, Indexed}
use Rattle.tree_law.proofs.Words.{Held, Removed, Merged, Cleared, stage_removed, put, phase_of, free, IsSome, is_eq, key_cmp, content_at, content_in, ContentOf, Value, Child, IsFitted}
use Rattle.tree_law.proofs.Words.{base_from, LinkMoves, Put, Delete, Term, Hold, Remove, Merge, Unterm, RemoveOf, UntermOf, same, IsItemsOf, IsWorth, from_low, is_alive, life, total}
use Rattle.deltas.specs.declared.record.Put.{Put as PutOf}
use Rattle.deltas.specs.declared.record.Delete.{Delete as DeleteOf}
use Rattle.deltas.specs.declared.record.Term.{Term as TermOf}
use Rattle.deltas.specs.declared.record.Hold.{Hold as HoldOf}
use Rattle.deltas.specs.declared.record.Merge.{Merge as MergeOf}
use Rattle.traces.specs.discipline.Discipline.{AreAlike}
use Rattle.tree_law.proofs.shape.Puts.{by_equal, put_other, put_same}
use Rattle.tree_law.proofs.links.Keeping.{OnSide}
use Rattle.tree_law.proofs.links.Relinking.{Found, found, place_of, placed_row}
use Rattle.tree_law.proofs.shape.KeyOrder.{not_self}
use Rattle.tree_law.proofs.shape.Relinked.{placed_level}
use Rattle.tree_law.proofs.changes.Alive.{items_of, worth_kept, worth_least, worth_most}
use Rattle.tree_law.proofs.changes.Bases.{base_page, in_range}
use Rattle.tree_law.proofs.changes.Counting.{Has}
use Rattle.tree_law.proofs.changes.Items.{base_items, more_by, no_more}
use Rattle.tree_law.proofs.changes.Lives.{above_empty, cleared_most, same_life}
use Rattle.tree_law.proofs.changes.Totals.{none, one}

-- a page that is on its side chain, and not removed, is alive
alive_stage : (stage : Stage) (level : ℕ) (low : Key) → rank stage ≤ 3 → stage_removed stage ≡ false → is_alive (Placed stage level low) ≡ true
alive_stage Removed level low on not_removed = absurd (cc)
alive_stage Merged level low on not_removed = absurd (cc)
alive_stage stage level low on not_removed = refl

-- each page but the free ones is one of the stated number
pub within_limit : (n page : ℕ) (w w' : PageOwner) → (phase_of w ≡ free) ⊎ ((0 < page) × (page < n)) → w ≡ w' → (phase_of w' ≡ free → ⊥) → page < n
within_limit n page w w' (inl is_free) e used = absurd (used (sym (ap phase_of e) ∙ is_free))
within_limit n page w w' (inr h) e used = h.1

module _ {m : Shared} {log : List Update} {o : Owners} {knows : ℕ → Knowledge} {point : ℕ → Option (List Update)} {logs : ℕ → List (List Update)} (g : IsTree m log o knows point logs) (a n : ℕ)
    (below : (page : ℕ) → (phase_of (o.page page) ≡ free) ⊎ ((0 < page) × (page < n))) (o' : Owners) (p x y : ℕ) (at : m.slots p ≡ Some x) (basis : HasRead (knows a) p x)
    (worths worths' : ℕ → ℕ) (each : (page : ℕ) → IsWorth o m page (worths page)) (each' : (page : ℕ) → IsWorth o' (record m { slots = put m.slots p (Some y) }) page (worths' page)) where
  abbrev pub now : Shared
  now = record m { slots = put m.slots p (Some y) }

  abbrev pub lives : ℕ → ℕ
  lives page = life (o.page page) (m.slots page)

  abbrev pub lives' : ℕ → ℕ
  lives' page = life (o'.page page) (put m.slots p (Some y) page)

  -- So much less is in store, but for so much more.
  abbrev pub Balances : ℕ → ℕ → Type 0
  Balances loss gain = (total worths' n + total lives' n) + loss ≤ (total worths n + total lives n) + gain

  abbrev pub chain : List Record
  chain = basis.chain

  pub here : Found o m p x basis.chain
  here = found g a p x basis

  pub place : OnSide g a p x basis.chain
  place = place_of g a p x basis.chain here basis.alive at

  pub alive : is_alive (o.page p) ≡ true
  alive = ap is_alive place.placed ∙ alive_stage place.stage (level_in basis.chain) (low_in basis.chain) place.on (sym place.flagged ∙ basis.alive)

  pub p_within : p < n
  p_within = within_limit n p (o.page p) (Placed place.stage (level_in basis.chain) (low_in basis.chain)) (below p) place.placed
      (λ e. stage_used place.stage (level_in basis.chain) (low_in basis.chain) e)
    where
      stage_used : (stage : Stage) (level : ℕ) (low : Key) → phase_of (Placed stage level low) ≡ free → ⊥
      stage_used Fresh level low e = cc
      stage_used other level low e = cc

  -- the chain of a page whose slot was not exchanged is worth no more
  pub kept : (page : ℕ) → page ≢ p → (is_alive (o'.page page) ≡ true → is_alive (o.page page) ≡ true) → worths' page ≤ worths page
  kept page ne old = worth_kept o o' m now g.closed (λ row l. refl) page (worths page) (worths' page) (each page) (each' page) (λ alive. (old alive, put_other m.slots p (Some y) page ne))

  -- so is the life of a page that stays whose it is
  pub life_kept : (page : ℕ) → o'.page page ≡ o.page page → lives' page ≤ lives page
  life_kept page same = by_equal page p
      (λ e t.
      let was : lives page ≡ life (o.page page) (Some x) = ap (life (o.page page)) (ap m.slots e ∙ at) in
      let is : lives' page ≡ life (o.page page) (Some y) = rw (t, same) refl in
      let equal : life (o.page page) (Some y) ≡ life (o.page page) (Some x) = same_life (o.page page) x y in
      omega arith)
      (λ ne t. let is : lives' page ≡ lives page = rw (t, same) refl in omega arith)

  -- one page goes on
  module _ (q : ℕ) (q_within : q < n) (others : (page : ℕ) → page ≢ q → o'.page page ≡ o.page page) where
    pub lives_move : total lives' n + life (o.page q) (m.slots q) ≤ total lives n + life (o'.page q) (put m.slots p (Some y) q)
    lives_move = one lives lives' q n q_within (λ page lt ne. life_kept page (others page ne))

    module _ (keeps : is_alive (o'.page q) ≡ true → is_alive (o.page q) ≡ true) where
      pub alive_before : (page : ℕ) → is_alive (o'.page page) ≡ true → is_alive (o.page page) ≡ true
      alive_before page = by_equal page q (λ e t is. (rw e (keeps (rw e at is)))) (λ ne t is. sym (ap is_alive (others page ne)) ∙ is)

      pub worths_move : total worths' n + worths p ≤ total worths n + worths' p
      worths_move = one worths worths' p n p_within (λ page lt ne. kept page ne (alive_before page))

      -- a delta, over which there are so many items at most
      pub delta : (content : Record) → (knows a).own.rows y ≡ Written content → next_row content ≡ Some x → (items : List Item) → IsItemsOf basis.chain items → (most : ℕ)
          → ((now : List Item) → IsItemsOf (content ∷ basis.chain) now → length now ≤ most)
          → total worths' n + ((length basis.chain - 1) + 6 * (length items - 7)) ≤ total worths n + (length basis.chain + 6 * (most - 7))
      delta content written next items are most few =
          let moved : total worths' n + worths p ≤ total worths n + worths' p = worths_move in
          let stands : IsChainFrom m.rows y (content ∷ basis.chain) = (placed_row g a y content written, rw next here.stands) in
          let new : worths' p ≤ (suc (length basis.chain) - 1) + 6 * (most - 7) = worth_most o' now p (worths' p) (each' p) y (content ∷ basis.chain) most (put_same m.slots p (Some y)) stands few in
          let old : (length basis.chain - 1) + 6 * (length items - 7) ≤ worths p = worth_least o m p (worths p) (each p) alive x basis.chain items at here.stands are in
          omega arith

  -- no page goes on
  still_lives : o'.page ≡ o.page → total lives' n ≤ total lives n
  still_lives moves = none lives lives' n (λ page lt. life_kept page (ap (λ (f : ℕ → PageOwner). f page) moves))

  -- an update
  module _ (moves : o'.page ≡ o.page) where
    same_owner : (page : ℕ) → page ≢ p → o'.page page ≡ o.page page
    same_owner page ne = rw moves

    still_alive : is_alive (o'.page p) ≡ true → is_alive (o.page p) ≡ true
    still_alive is = alive

    pub put_store : (w : PutOf) → (knows a).own.rows y ≡ Written (Put w) → next_row (Put w) ≡ Some x → FitsOver basis.chain (Put w) → Balances 0 7
    put_store w written next over =
        let new : List Item = record { key = w.key; content = Value w.value } ∷ [] in
        let items : List Item = over.page.items in
        let bodies : total worths' n + ((length basis.chain - 1) + 6 * (length items - 7)) ≤ total worths n + (length basis.chain + 6 * ((length items + length new) - 7)) =
        delta p p_within same_owner still_alive (Put w) written next items over.makes.items (length items + length new)
        (λ now is. more_by basis.chain items over.makes.items (Put w) now is new (λ key named said. rw named refl)) in
        let fewer : total lives' n ≤ total lives n = still_lives moves in
        let single : length new ≡ 1 = refl in
        omega arith

    pub delete_store : (w : DeleteOf) → (knows a).own.rows y ≡ Written (Delete w) → next_row (Delete w) ≡ Some x → FitsOver basis.chain (Delete w) → Balances 0 1
    delete_store w written next over =
        let items : List Item = over.page.items in
        let bodies : total worths' n + ((length basis.chain - 1) + 6 * (length items - 7)) ≤ total worths n + (length basis.chain + 6 * (length items - 7)) =
        delta p p_within same_owner still_alive (Delete w) written next items over.makes.items (length items)
        (λ now is. no_more basis.chain items over.makes.items (Delete w) now is (λ key named said. absurd (cc))) in
        let fewer : total lives' n ≤ total lives n = still_lives moves in
        omega arith

    -- a consolidation takes deltas away
    pub base_store : IsFitted basis.chain → (items : List Item) → AreAlike items basis.chain → (knows a).own.rows y ≡ Written (base_from basis.chain (low_in basis.chain) items)
        → IsFitted (base_from basis.chain (low_in basis.chain) items ∷ []) → 1 < length basis.chain → Balances 1 0
    base_store fitted items alike written ruled useful =
        let were = items_of basis.chain fitted in
        let base : Record = base_from basis.chain (low_in basis.chain) items in
        let covered : (key : Key) → Has items key → IsSome (content_in basis.chain key) = (λ key has. rw (← alike key (in_range basis.chain (low_in basis.chain) items ruled key has)) has) in
        let new : worths' p ≤ (1 - 1) + 6 * (length were.0 - 7) =
        worth_most o' now p (worths' p) (each' p) y (base ∷ []) (length were.0) (put_same m.slots p (Some y)) (placed_row g a y base written, refl)
        (λ now is. base_items basis.chain were.0 were.1 (base_page basis.chain (low_in basis.chain) items) now is covered) in
        let old : (length basis.chain - 1) + 6 * (length were.0 - 7) ≤ worths p = worth_least o m p (worths p) (each p) alive x basis.chain were.0 at here.stands were.1 in
        let moved : total worths' n + worths p ≤ total worths n + worths' p = worths_move p p_within same_owner still_alive in
        let fewer : total lives' n ≤ total lives n = still_lives moves in
        omega arith

  -- a page goes on by a delta on another page
  module _ (q : ℕ) (from to : PageOwner) (was : o.page q ≡ from) (moves : o'.page ≡ put o.page q to) where
    other_owner : (page : ℕ) → page ≢ q → o'.page page ≡ o.page page
    other_owner page ne = rw moves (put_other o.page q to page ne)

    is_now : o'.page q ≡ to
    is_now = rw moves (put_same o.page q to)

    goes_on : q < n → total lives' n + life from (m.slots q) ≤ total lives n + life to (put m.slots p (Some y) q)
    goes_on lt = rw was at (rw is_now at (lives_move q lt other_owner))

    delta_on : (q < n) → (is_alive to ≡ true → is_alive from ≡ true) → (content : Record) → (knows a).own.rows y ≡ Written content → next_row content ≡ Some x → (items : List Item)
        → IsItemsOf basis.chain items → (most : ℕ)
        → ((now : List Item) → IsItemsOf (content ∷ basis.chain) now → length now ≤ most) → total worths' n + ((length basis.chain - 1) + 6 * (length items - 7)) ≤ total worths n +
        (length basis.chain + 6 * (most - 7))
    delta_on lt keeps = delta q lt other_owner (λ is. ap is_alive was ∙ keeps (sym (ap is_alive is_now) ∙ is))

  pub term_store : (w : TermOf) → (knows a).own.rows y ≡ Written (Term w) → next_row (Term w) ≡ Some x → FitsOver basis.chain (Term w) → LinkMoves m a (Term w) p o.page o'.page → Balances 1 0
  term_store w written next over (l, was, moves) =
      let new : List Item = record { key = w.separator; content = Child w.child false } ∷ [] in
      let items : List Item = over.page.items in
      let from : PageOwner = Placed Fresh l w.separator in
      let to : PageOwner = Placed Indexed l w.separator in
      let lt : w.child < n = within_limit n w.child (o.page w.child) from (below w.child) was (λ e. cc) in
      let bodies : total worths' n + ((length basis.chain - 1) + 6 * (length items - 7)) ≤ total worths n + (length basis.chain + 6 * ((length items + length new) - 7)) =
      delta_on w.child from to was moves lt (λ is. refl) (Term w) written next items over.makes.items (length items + length new)
      (λ now is. more_by basis.chain items over.makes.items (Term w) now is new (λ key named said. rw named refl)) in
      let lived : total lives' n + from_low w.separator 40 ≤ total lives n + from_low w.separator 32 = goes_on w.child from to was moves lt in
      let worth : from_low w.separator 40 ≡ 40 = above_empty w.separator 40 over.spellable.1.above in
      let less : from_low w.separator 32 ≡ 32 = above_empty w.separator 32 over.spellable.1.above in
      let single : length new ≡ 1 = refl in
      omega arith

  -- a record about a key that has content adds no item
  held_already : (items : List Item) → IsItemsOf basis.chain items → (separator : Key) (content : ContentOf) → content_at items separator ≡ Some content → (key : Key)
      → is_eq (key_cmp key separator) ≡ true → IsSome (content_in basis.chain key)
  held_already items are separator content there key named =
      let at : content_in basis.chain key ≡ Some content = sym (are.contents key) ∙ ap (content_at items) (same key separator named) ∙ there in
      rw at refl

  pub hold_store : (w : HoldOf) → (knows a).own.rows y ≡ Written (Hold w) → next_row (Hold w) ≡ Some x → FitsOver basis.chain (Hold w) → LinkMoves m a (Hold w) p o.page o'.page → Balances 1 0
  hold_store w written next over (l, was, moves) =
      let items : List Item = over.page.items in
      let from : PageOwner = Placed Indexed l w.separator in
      let to : PageOwner = Placed Held l w.separator in
      let lt : w.child < n = within_limit n w.child (o.page w.child) from (below w.child) was (λ e. cc) in
      let bodies : total worths' n + ((length basis.chain - 1) + 6 * (length items - 7)) ≤ total worths n + (length basis.chain + 6 * (length items - 7)) =
      delta_on w.child from to was moves lt (λ is. refl) (Hold w) written next items over.makes.items (length items)
      (λ now is. no_more basis.chain items over.makes.items (Hold w) now is (λ key named said. held_already items over.makes.items w.separator (Child w.child false) over.fits.there key named)) in
      let lived : total lives' n + from_low w.separator 32 ≤ total lives n + from_low w.separator 30 = goes_on w.child from to was moves lt in
      let worth : from_low w.separator 32 ≡ 32 = above_empty w.separator 32 over.spellable.1.above in
      let less : from_low w.separator 30 ≡ 30 = above_empty w.separator 30 over.spellable.1.above in
      omega arith

  pub unterm_store : (w : UntermOf) → (knows a).own.rows y ≡ Written (Unterm w) → next_row (Unterm w) ≡ Some x → FitsOver basis.chain (Unterm w)
      → LinkMoves m a (Unterm w) p o.page o'.page → Balances 1 0
  unterm_store w written next over (l, was, moves) =
      let items : List Item = over.page.items in
      let from : PageOwner = Placed Merged l w.separator in
      let to : PageOwner = Cleared a l w.separator in
      let lt : w.child < n = within_limit n w.child (o.page w.child) from (below w.child) was (λ e. cc) in
      let bodies : total worths' n + ((length basis.chain - 1) + 6 * (length items - 7)) ≤ total worths n + (length basis.chain + 6 * (length items - 7)) =
      delta_on w.child from to was moves lt (λ is. absurd (cc)) (Unterm w) written next items over.makes.items (length items)
      (λ now is. no_more basis.chain items over.makes.items (Unterm w) now is (λ key named said. absurd (cc))) in
      let lived : total lives' n + 3 ≤ total lives n + life to (put m.slots p (Some y) w.child) = goes_on w.child from to was moves lt in
      let last : life to (put m.slots p (Some y) w.child) ≤ 1 = cleared_most a l w.separator (put m.slots p (Some y) w.child) in
      omega arith

  pub merge_store : (w : MergeOf) → (knows a).own.rows y ≡ Written (Merge w) → next_row (Merge w) ≡ Some x → FitsOver basis.chain (Merge w) → LinkMoves m a (Merge w) p o.page o'.page → Balances 1 0
  merge_store w written next over (q, l, was, moves, right) =
      let items : List Item = over.page.items in
      let from : PageOwner = Placed Removed l w.low in
      let to : PageOwner = Placed Merged l w.low in
      let lt : q < n = within_limit n q (o.page q) from (below q) was (λ e. cc) in
      let bodies : total worths' n + ((length basis.chain - 1) + 6 * (length items - 7)) ≤ total worths n + (length basis.chain + 6 * ((length items + length w.items) - 7)) =
      delta_on q from to was moves lt (λ is. absurd (cc)) (Merge w) written next items over.makes.items (length items + length w.items)
      (λ now is. more_by basis.chain items over.makes.items (Merge w) now is w.items (λ key named said. said)) in
      let lived : total lives' n + 29 ≤ total lives n + 3 = goes_on q from to was moves lt in
      let few : length w.items ≤ 4 = over.spellable.2 in
      omega arith

  pub remove_store : (w : RemoveOf) → FitsOver basis.chain (Remove w) → LinkMoves m a (Remove w) p o.page o'.page → Balances 1 0
  remove_store w over (l, s, was, moves, unheld) =
      let from : PageOwner = Placed Held l s in
      let to : PageOwner = Placed Removed l s in
      let low : s ≡ low_in basis.chain = (placed_level Held place.stage l (level_in basis.chain) s (low_in basis.chain) (sym was ∙ place.placed)).1 in
      let some : s ≢ [] = λ empty. not_self [] (rw (over.makes.low ∙ sym low ∙ empty) at over.fits.inner) in
      let bodies : total worths' n ≤ total worths n = none worths worths' n (λ page lt. by_equal page p
      (λ e t. worth_kept o o' m now g.closed (λ row l. refl) page (worths page) (worths' page) (each page) (each' page)
      (λ is. absurd (let dead : is_alive (o'.page page) ≡ false = ap (λ k. is_alive (o'.page k)) e ∙ ap is_alive (is_now p from to was moves) in cc)))
      (λ ne t. kept page ne (λ is. sym (ap is_alive (other_owner p from to was moves page ne)) ∙ is))) in
      let lived : total lives' n + from_low s 30 ≤ total lives n + 29 = goes_on p from to was moves p_within in
      let worth : from_low s 30 ≡ 30 = above_empty s 30 some in
      omega arith
