-- Each level is a whole side chain, and each level above the leaves has just the terms of the pages under it.
use Rattle.tree_law.proofs.Words.{[], ap, Option, suc, None, List, inl, ◌≤◌, ◌∷◌, sym, ℕ, ◌≡◌, Bool, ◌∙◌, arith, Some, map, same_Some, Update, ContentOf, Child, Memory, Record}
use Rattle.tree_law.proofs.Words.{IsChainOf-unique, content_in, low_in, level_in, high_in, Knowledge, LivePage, HasMark, IsIndexed, Key, Covers, IsUnder, Owners}
use Rattle.tree_law.proofs.Words.{Placed, Indexed, rank, Stage, shared_part, Shared, IsTree, spec, Level, SidePage, InPlace, IsPart, inr}
use Rattle.tree_law.specs.Indexed.{HasTermAt, IsPageIn}
use Rattle.tree_law.proofs.shape.KeyOrder.{empty_lowest, covers_from, covers_to}
use Rattle.tree_law.proofs.links.Keeping.{on_or_merged}
use Rattle.tree_law.proofs.shape.Mapping.{live, chain_at, chain_of, side_from, whole_from, among, covering}
use Rattle.tree_law.proofs.shape.Sides.{locate}
use Rattle.tree_law.proofs.shape.Relinked.{same_page}

placed_low : (st st' : Stage) (l l' : ℕ) (s s' : Key) → Placed st l s ≡ Placed st' l' s' → s ≡ s'
placed_low st st' l l' s s' e = cc

pub first_page : (o : Owners) (m : Shared) (lv : ℕ) (mp : Key → Option ContentOf) (gs : List SidePage) (p : ℕ) (low : Key)
    → IsPart o m lv mp gs (Some p) (Some low) None None → (g : SidePage) × (g.page ≡ p) × (low_in g.chain ≡ low) × InPlace o m lv mp g
first_page o m lv mp [] p low h = absurd (cc h.0)
first_page o m lv mp (g ∷ gs) p low h = (g, sym (same_Some p g.page h.0), sym (same_Some low (low_in g.chain) h.1), h.2)

module _ (memory : Memory) {log : List Update} {o : Owners} {knows : ℕ → Knowledge} {point : ℕ → Option (List Update)} {logs : ℕ → List (List Update)}
    (g : IsTree (shared_part memory) log o knows point logs) where
  -- the page of a PID in the tree
  page_at : (q l : ℕ) (s : Key) (st : Stage) → o.page q ≡ Placed st l s → IsPageIn memory l s q
  page_at q l s st e = elim (on_or_merged st) [
    | inl on ↦ let t = g.tree.levels l (g.tree.exact.below q l s st e) in
        let f = locate o (shared_part memory) l (spec log o.index l) t.side (Some (g.tree.first l)) (Some []) None None q t.whole (t.listed q s st e on) in (
          f.page.chain,
          rw f.is at (chain_of memory o l (spec log o.index l) f.page f.here),
          f.here.is_page.on_level,
          placed_low f.here.stage st l l (low_in f.page.chain) s (sym f.here.placed ∙ ap o.page f.is ∙ e),
        )
    | inr m ↦ elim (g.tree.off q l s (inl (e ∙ ap (λ v. Placed v l s) m))) [
      | inl u ↦ absurd (cc u.1.3)
      | inr u ↦ (u.chain, chain_at memory q u.row u.chain u.head u.is_chain, u.level, u.low)
    ]
  ]

  module _ (l : ℕ) (le : suc l ≤ g.tree.top) where
    abbrev above : Level o (shared_part memory) (suc l) (o.index l) (g.tree.first (suc l))
    above = g.tree.levels (suc l) le

    posted : (key : Key) (child : ℕ) (held : Bool) → HasTermAt (map live above.side) key child held → IsPageIn memory l key child × HasMark (o.page child) child held
    posted key child held (page, contains, inside, content) =
        let f = among memory o (suc l) (o.index l) above.side (Some (g.tree.first (suc l))) (Some []) above.whole page contains in
        let chain : f.0.chain ≡ page.chain = ap (λ (q : LivePage). q.chain) f.1 in
        let is : content_in f.0.chain key ≡ o.index l key = f.2.is_page.same key (covers_from f.0.chain key (rw chain inside)) in
        let n = (g.tree.exact.named l key (Child child held) (sym is ∙ ap (λ c. content_in c key) chain ∙ content)).1 in
        (page_at child l key n.0 n.1, (n.0, l, key, n.1, n.2))

    has_term : (key : Key) (child : ℕ) (held : Bool) → IsPageIn memory l key child × HasMark (o.page child) child held → HasTermAt (map live above.side) key child held
    has_term key child held (at, (st, l', s', placed, marked)) =
        let here = page_at child l' s' st placed in
        let same : here.0 ≡ at.0 = IsChainOf-unique memory child here.0 at.0 here.1 at.1 in
        let is = g.tree.exact.posted child l key st (Child child held) (rw (sym (sym here.2 ∙ ap level_in same ∙ at.2), sym (sym here.3 ∙ ap low_in same ∙ at.3)) placed) (omega arith) marked in
        let f = covering memory o (suc l) (o.index l) above.side (Some (g.tree.first (suc l))) (Some []) above.whole key (empty_lowest key) in
        (live f.0, f.1, covers_to f.0.chain key f.3, f.2.is_page.same key f.3 ∙ is)

  pub is_indexed : IsIndexed memory o
  is_indexed =
      let front : (l : ℕ) (le : l ≤ g.tree.top) → (f : SidePage) × (f.page ≡ g.tree.first l) × (low_in f.chain ≡ []) × InPlace o (shared_part memory) l (spec log o.index l) f =
      λ l le. first_page o (shared_part memory) l (spec log o.index l) (g.tree.levels l le).side (g.tree.first l) [] (g.tree.levels l le).whole in
      let from_empty : (c : List Record) → low_in c ≡ [] → IsUnder (low_in c) (high_in c) → Covers c [] =
      λ c e some. record { low = rw e (empty_lowest []); high = rw e at some } in
      record {
        top = g.tree.top;
        first = g.tree.first;
        leftmost = g.tree.leaf;
        root = g.tree.root;
        firsts = λ l le. let f = front l le in (f.3.stage, ap o.page (sym f.1) ∙ f.3.placed ∙ ap (λ (k : Key). Placed f.3.stage l k) f.2, f.3.on);
        only = λ q l st le e on.
            let t = g.tree.levels l le in
            let f = front l le in
            let h = locate o (shared_part memory) l (spec log o.index l) t.side (Some (g.tree.first l)) (Some []) None None q t.whole (t.listed q [] st e on) in
            let low : low_in h.page.chain ≡ [] = placed_low h.here.stage st l l (low_in h.page.chain) [] (sym h.here.placed ∙ ap o.page h.is ∙ e) in
            sym h.is ∙ same_page t h.page f.0 h.here f.3 [] (from_empty h.page.chain low h.here.is_page.some) (from_empty f.0.chain f.2 f.3.is_page.some) ∙ f.1;
        begins = λ l le. let f = front l le in page_at (g.tree.first l) l [] f.3.stage (ap o.page (sym f.1) ∙ f.3.placed ∙ ap (λ (k : Key). Placed f.3.stage l k) f.2);
        pages = λ l le. map live (g.tree.levels l le).side;
        side = λ l le. side_from memory o l (spec log o.index l) (g.tree.levels l le).side (Some (g.tree.first l)) (Some []) (g.tree.levels l le).whole;
        whole = λ l le. whole_from memory o l (spec log o.index l) (g.tree.levels l le).side (Some (g.tree.first l)) (Some []) (g.tree.levels l le).whole;
        terms = λ l le key child held. (posted l le key child held, has_term l le key child held);
      }

  -- the page that begins a level at the empty key is the level's first one
  pub first_only : (q l : ℕ) (st : Stage) → l ≤ g.tree.top → o.page q ≡ Placed st l [] → rank st ≤ 3 → q ≡ g.tree.first l
  unfolding is_indexed
  first_only q l st le e on = is_indexed.only q l st le e on

  -- no page is above the top level
  pub below_top : (q l : ℕ) (s : Key) (st : Stage) → o.page q ≡ Placed st l s → l ≤ is_indexed.top
  unfolding is_indexed
  below_top q l s st e = g.tree.exact.below q l s st e

  -- the root is indexed
  pub root_indexed : o.page (memory.slots 0) ≡ Placed Indexed is_indexed.top []
  unfolding is_indexed
  root_indexed = g.tree.exact.is_root
