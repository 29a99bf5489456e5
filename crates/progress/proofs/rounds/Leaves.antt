-- Removed leaves, and the leaf to the left of one.
use Rattle.progress.proofs.Words.{◌≡◌, ◌≢◌, ℕ, List, Bool, true, false, Option, Some, sym, ap, subst, ◌∙◌, IsTrue, Child, either, content_in, covers, high_in, is_removed, low_in, right_in}
use Rattle.progress.proofs.Words.{LivePage, Record, Version, LeadsRight, StaysLeft, precedes, reaches, IsBelow, IsUpTo, Key, IsPageOn, below_not, by_below, covers_from, covers_to, not_below}
use Rattle.progress.proofs.Words.{upto_both, upto_trans}
use Rattle.tree_law.proofs.shape.KeyOrder.{under_trans}
use Rattle.progress.proofs.rounds.KeyWays.{precedes_is_way, reaches_is_way, within}
use Rattle.progress.proofs.rounds.Measures.{none_after, removed_after}
use Rattle.progress.proofs.rounds.Pages.{On, Standing, Under, chain_on, live, low_of, one_child, right, same_pid, some_of, term_of}

module _ (w : Standing) where
  -- A removed leaf, of which the page above it has the held term.
  pub record IsRemovedLeaf (leaf : LivePage) : Type 0 where
    pub stands : IsPageOn w.limits w.memory 0 leaf
    pub gone : is_removed leaf.chain ≡ true
    pub above : LivePage
    pub on : On w 1 above
    pub term : content_in above.chain (low_of leaf) ≡ Some (Child leaf.pid true)

  pub of_level : (leaf : LivePage) → On w 0 leaf → is_removed leaf.chain ≡ true → IsRemovedLeaf leaf
  of_level leaf on gone = let b = w.tree.removed 0 leaf on gone in record { stands = w.tree.each 0 leaf on; gone = gone; above = b.0; on = b.1; term = b.2 }

  pub of_term : (way : Key → Bool) (above : Option Version) (leaf : LivePage) → IsPageOn w.limits w.memory 0 leaf → Under w way above 0 leaf → IsRemovedLeaf leaf
  of_term way above leaf stands u = record { stands = stands; gone = u.gone; above = live u.over; on = u.on; term = u.term }

  -- of two pages of a level one and the same key is in the range
  pub joint : (level : ℕ) (one two s : Key) (a b : LivePage) → On w level a → On w level b → IsBelow one s → IsBelow two s → IsTrue (covers a.chain one)
      → StaysLeft (precedes s) a.chain → IsTrue (covers b.chain two) → IsTrue (covers b.chain s) → a ≡ b
  joint level one two s a b on_a on_b below_one below_two in_a stays in_b reaches_s = by_below one two
      (λ less. w.tree.one level a b two on_a on_b (within (precedes s) (precedes_is_way s) a.chain one two stays in_a (below_not one two less) below_two) in_b)
      (λ least. w.tree.one level a b one on_a on_b in_a (between_keys b.chain two one s in_b reaches_s least below_one))
    where
      between_keys : (chain : List Record) (low key end : Key) → IsTrue (covers chain low) → IsTrue (covers chain end) → IsUpTo low key → IsBelow key end → IsTrue (covers chain key)
      between_keys chain low key end one two up less =
          covers_to chain key (record { low = upto_trans (low_in chain) low key (covers_from chain low one).low up; high = under_trans key end (high_in chain) less (covers_from chain end two).high })

  -- the greatest term to the left of a removed leaf isn't a removed leaf's
  pub left_stands : (leaf page : LivePage) (above : Option Version) → IsRemovedLeaf leaf → Under w (precedes (low_of leaf)) above 0 page → precedes (low_of leaf) (low_of page) ≡ true → ⊥
  left_stands leaf page above r u pass =
      let l = w.tree.left 0 leaf.pid r.above (low_of leaf) r.on r.term in
      let in_over = (w.tree.child 0 page.pid (live u.over) (low_of page) true u.on u.term).0 in
      let in_above = (w.tree.child 0 l.1 r.above l.0 false r.on l.2.has).0 in
      let here = (w.tree.child 0 leaf.pid r.above (low_of leaf) true r.on r.term).0 in
      let same : live u.over ≡ r.above = joint 1 (low_of page) l.0 (low_of leaf) (live u.over) r.above u.on r.on pass l.2.passing in_over u.stays in_above here in
      let term : content_in r.above.chain (low_of page) ≡ Some (Child page.pid true) = rw (← same) u.term in
      let left : content_in u.over.chain l.0 ≡ Some (Child l.1 false) = subst (λ (p : LivePage). content_in p.chain l.0 ≡ Some (Child l.1 false)) (sym same) l.2.has in
      let one = l.2.greatest (low_of page) pass (some_of _ _ term) in
      let two = u.greatest l.0 l.2.passing (some_of _ _ left) in
      let is : low_of page ≡ l.0 = upto_both (low_of page) l.0 one two in
      let clash : true ≡ false = (one_child (content_in r.above.chain (low_of page)) page.pid l.1 true false term (rw is l.2.has)).1 in
      cc

  -- where a removed leaf has the greatest term on the way to a key, no removed leaf is beyond it on that way
  pub none_beyond : (key : Key) (page : LivePage) (above : Option Version) → Under w (reaches key) above 0 page → removed_after w key (low_of page) ≡ 0
  none_beyond key page above u = none_after w key (low_of page) (λ other on after pass. either (is_removed other.chain)
      (λ gone.
      let in_over = (w.tree.child 0 page.pid (live u.over) (low_of page) true u.on u.term).0 in
      let cov = within (reaches key) (reaches_is_way key) u.over.chain (low_of page) (low_of other) u.stays in_over (below_not (low_of page) (low_of other) after) pass in
      let term = term_of w 0 other (live u.over) on gone u.on cov in
      absurd (not_below (low_of page) (low_of other) after (u.greatest (low_of other) pass (some_of _ _ term))))
      (λ alive. alive))

  -- A leaf at or beyond a key, and beyond it if it is removed.
  pub record IsBeyond (low : Key) (leaf : LivePage) : Type 0 where
    pub on : On w 0 leaf
    pub up : IsUpTo low (low_of leaf)
    pub after : is_removed leaf.chain ≡ true → IsBelow low (low_of leaf)

  -- the right of the removed leaf
  pub beside_right : (key : Key) (next : ℕ) (leaf page : LivePage) → IsRemovedLeaf leaf → On w 0 page → right_in page.chain ≡ Some leaf.pid → LeadsRight (reaches key) leaf.chain next
      → (other : LivePage) × (other.pid ≡ next) × (reaches key (low_of other) ≡ true) × IsBelow (low_of leaf) (low_of other) × IsBeyond (low_of leaf) other
  beside_right key next leaf page r on is_right leads =
      let b = w.tree.right 0 page leaf.pid on is_right in
      let on_leaf : On w 0 leaf = rw (← same_pid w b.0 leaf (chain_on w 0 b.0 b.1) r.stands.stands b.2) b.1 in
      let q = right w (reaches key) 0 next leaf on_leaf leads in
      (q.0, q.1, q.3, q.4, record { on = q.2; up = below_not (low_of leaf) (low_of q.0) q.4; after = λ gone. q.4 })

  -- the right of the leaf to the left of it, where that is another leaf
  pub past_right : (key : Key) (next : ℕ) (leaf page : LivePage) → IsRemovedLeaf leaf → On w 0 page → right_in page.chain ≢ Some leaf.pid
      → StaysLeft (precedes (low_of leaf)) page.chain → LeadsRight (reaches key) page.chain next
      → (other : LivePage) × (other.pid ≡ next) × (reaches key (low_of other) ≡ true) × IsBelow (low_of page) (low_of other) × IsBeyond (low_of leaf) other
  past_right key next leaf page r on apart stays leads =
      let q = right w (reaches key) 0 next page on leads in
      let up : IsUpTo (low_of leaf) (low_of q.0) = stays.off (low_of q.0) q.5 in
      let after : is_removed q.0.chain ≡ true → IsBelow (low_of leaf) (low_of q.0) = λ gone. by_below (low_of leaf) (low_of q.0) (λ less. less)
      (λ least.
      let is : low_of leaf ≡ low_of q.0 = upto_both (low_of leaf) (low_of q.0) up least in
      let here = (w.tree.child 0 leaf.pid r.above (low_of leaf) true r.on r.term).0 in
      let term = term_of w 0 q.0 r.above q.2 gone r.on (rw (← is) here) in
      let pids : q.0.pid ≡ leaf.pid = (one_child (content_in r.above.chain (low_of q.0)) q.0.pid leaf.pid true true term (rw (← is) r.term)).0 in
      absurd (apart (leads.is_right ∙ ap Some (sym q.1 ∙ pids))))
      in
      (q.0, q.1, q.3, q.4, record { on = q.2; up = up; after = after })
