-- The page that a term names, and the term that a removed page has.
use Rattle.tree_law.proofs.Words.{false, true, [], ap, refl, suc, List, inl, inr, ◌≤◌, subst, sym, ℕ, ◌≡◌, Bool, ◌∙◌, ◌<◌, arith, Some, cases_lt, Contains, IsTrue, Limits, ContentOf, Child}
use Rattle.tree_law.proofs.Words.{Record, content_in, covers, is_removed, low_in, LivePage, Entry, memory_of, IsFitted, Key, Covers, Placed, Indexed, Removed, Merged, Stage, mark}
use Rattle.tree_law.proofs.Words.{stage_removed, shared_part, IsState, Off, belongs, is_below, page_of, ruled}
use Rattle.base_page.specs.Places.{IsGreatest}
use Rattle.tree_law.specs.OneMemory.{IsChildAt}
use Rattle.tree_law.proofs.links.Keeping.{on_or_merged, indexed_mark, is_gone}
use Rattle.tree_law.proofs.memory.Neighbours.{left_term}
use Rattle.tree_law.proofs.memory.Pages.{covering_on, each, in_range, listed, on_level, page_on, pages, stands}
use Rattle.tree_law.proofs.shape.KeyOrder.{covers_from}
use Rattle.tree_law.proofs.shape.Mapping.{chain_at, live}
use Rattle.tree_law.proofs.shape.Puts.{by_equal}

-- a fitted chain has content only in its range
in_own_range : (chain : List Record) → IsFitted chain → (key : Key) (content : ContentOf) → content_in chain key ≡ Some content → IsTrue (covers chain key)
in_own_range chain fitted key content e =
    let made = page_of chain fitted in
    let b = belongs made.0 (ruled chain made.0 fitted made.1).is_page key content (made.1.items.contents key ∙ e) in
    rw made.1.low at (rw made.1.high at b.within)

module _ (limits : Limits) (entries : List Entry) (state : IsState limits entries) where
  abbrev Pages : ℕ → List LivePage
  Pages = pages limits entries state

  -- the page of a term that is held yet after the page was merged
  off_side : (q l : ℕ) (s : Key) → state.owners.page q ≡ Placed Merged l s → Off state.owners (shared_part (memory_of limits entries)) q l s
  off_side q l s e = elim (state.is_tree.tree.off q l s (inl e)) [ inl out ↦ absurd (cc out.1.3) | inr off ↦ off ]

  -- a page in the tree with a term at its low key
  child_at : (l pid : ℕ) (key : Key) (held : Bool) (st : Stage) → state.owners.page pid ≡ Placed st l key → mark st pid ≡ Some (Child pid held)
      → (child : LivePage) × (child.pid ≡ pid) × IsChildAt limits (memory_of limits entries) l (Pages l) key held child
  child_at l pid key held st placed marked = elim (on_or_merged st) [
    | inl on ↦
        let r = listed limits entries state l pid key st placed on in
        let stage : r.here.stage ≡ st = (let w : Placed r.here.stage l (low_in r.place.chain) ≡ Placed st l key = sym r.here.placed ∙ ap state.owners.page r.is ∙ placed in cc) in (
          live r.place,
          r.is,
          record {
            is_page = page_on limits entries state l r.place r.here;
            begins = r.begins;
            alive = λ free. r.here.flagged ∙ ap stage_removed (stage ∙ indexed_mark st pid (marked ∙ ap (λ h. Some (Child pid h)) free));
            among = λ alive. r.contains;
          },
        )
    | inr merged ↦
        let off = off_side pid l key (placed ∙ ap (λ v. Placed v l key) merged) in (
          record { pid = pid; chain = off.chain },
          refl,
          record {
            is_page = record {
              pid = in_range limits entries state pid l key st placed;
              stands = chain_at (memory_of limits entries) pid off.row off.chain off.head off.is_chain;
              fits = state.fitted off.row off.linked off.chain off.is_chain;
              level_is = off.level;
            };
            begins = off.low;
            alive = λ free. absurd (let indexed : st ≡ Indexed = indexed_mark st pid (marked ∙ ap (λ h. Some (Child pid h)) free) in let clash : Merged ≡ Indexed = sym merged ∙ indexed in cc);
            among = λ alive. absurd (let clash : true ≡ false = sym off.flagged ∙ alive in cc);
          },
        )
  ]

  pub child : (l pid : ℕ) (above : LivePage) (key : Key) (held : Bool) → Contains (Pages (suc l)) above → content_in above.chain key ≡ Some (Child pid held)
      → IsTrue (covers above.chain key) × ((below : LivePage) × (below.pid ≡ pid) × IsChildAt limits (memory_of limits entries) l (Pages l) key held below)
  child l pid above key held has e =
      let a = on_level limits entries state (suc l) above has in
      let chain : a.place.chain ≡ above.chain = ap (λ (p : LivePage). p.chain) a.is in
      let content : content_in a.place.chain key ≡ Some (Child pid held) = rw chain e in
      let within : IsTrue (covers a.place.chain key) = in_own_range a.place.chain (state.fitted a.place.row a.here.linked a.place.chain a.here.is_page.is_chain).fitted key (Child pid held) content in
      let inside : Covers a.place.chain key = covers_from a.place.chain key within in
      let named = (state.is_tree.tree.exact.named l key (Child pid held) (sym (a.here.is_page.same key inside) ∙ content)).1 in
      (rw (← chain) within, child_at l pid key held named.0 named.1 named.2)

  -- a removed page is below the root's level
  below_root : (q l : ℕ) (s : Key) → state.owners.page q ≡ Placed Removed l s → l ≤ state.is_tree.tree.top → l < state.is_tree.tree.top
  below_root q l s e le = elim (cases_lt l state.is_tree.tree.top) [
    | inl lt ↦ lt
    | inr ge ↦
        let same : l ≡ state.is_tree.tree.top = omega (arith, le, ge) in
        let at_top : state.owners.page q ≡ Placed Removed state.is_tree.tree.top s = e ∙ ap (λ n. Placed Removed n s) same in
        by_equal q ((memory_of limits entries).slots 0)
        (λ is t. absurd (let w : Placed Removed state.is_tree.tree.top s ≡ Placed Indexed state.is_tree.tree.top [] = sym at_top ∙ ap state.owners.page is ∙ state.is_tree.tree.exact.is_root in cc))
        (λ other t. absurd (let fresh = state.is_tree.tree.exact.others q s Removed at_top other in cc))
  ]

  pub removed : (l : ℕ) (page : LivePage) → Contains (Pages l) page → is_removed page.chain ≡ true
      → (above : LivePage) × Contains (Pages (suc l)) above × (content_in above.chain (low_in page.chain) ≡ Some (Child page.pid true))
  removed l page has gone =
      let a = on_level limits entries state l page has in
      let flagged : is_removed a.place.chain ≡ true = ap (λ (p : LivePage). is_removed p.chain) a.is ∙ gone in
      let stage : a.here.stage ≡ Removed = is_gone a.here.stage a.here.on (sym a.here.flagged ∙ flagged) in
      let placed : state.owners.page a.place.page ≡ Placed Removed l (low_in a.place.chain) = a.here.placed ∙ ap (λ st. Placed st l (low_in a.place.chain)) stage in
      let lt = below_root a.place.page l (low_in a.place.chain) placed a.le in
      let posted = state.is_tree.tree.exact.posted a.place.page l (low_in a.place.chain) Removed (Child a.place.page true) placed lt refl in
      let f = covering_on limits entries state (suc l) (low_in a.place.chain) lt in
      let content = f.1.is_page.same (low_in a.place.chain) f.2 ∙ posted in
      (live f.0, stands limits entries state (suc l) f.0 f.1, subst (λ (p : LivePage). content_in f.0.chain (low_in p.chain) ≡ Some (Child p.pid true)) a.is content)

  pub left : (l pid : ℕ) (above : LivePage) (key : Key) → Contains (Pages (suc l)) above → content_in above.chain key ≡ Some (Child pid true)
      → (low : Key) × (child : ℕ) × IsGreatest (content_in above.chain) (λ other. is_below other key) low (Child child false)
  left l pid above key has e = let on = each limits entries state (suc l) above has in left_term above.chain on.fits.fitted (let level = on.level_is in omega (arith, level)) key pid e
