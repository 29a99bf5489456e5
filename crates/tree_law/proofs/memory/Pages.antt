-- The pages of each level of a state, from the leaves up to the level of the root.
use Rattle.tree_law.proofs.Words.{◌⊎◌, [], ap, refl, suc, List, inl, inr, length, ◌≤◌, ◌∷◌, subst, sym, ℕ, ◌≡◌, zero, ◌∙◌, ◌<◌, arith, Option, None, Some, map, cases_lt, Contains}
use Rattle.tree_law.proofs.Words.{Limits, ContentOf, Memory, right_in, low_in, high_in, covers, IsTrue, LivePage, Entry, memory_of, log_of, Key, Covers, IsUnder, Owners, Placed, Indexed, Stage, rank}
use Rattle.tree_law.proofs.Words.{shared_part, IsState, phase_of, spec, HasSidePage, SidePage, InPlace, IsPart}
use Rattle.std.proofs.lemmas.List.{length-map}
use Rattle.tree_law.specs.LevelPages.{IsPageOn}
use Rattle.tree_law.proofs.shape.KeyOrder.{covers_from, covers_to, empty_lowest}
use Rattle.tree_law.proofs.shape.Leaves.{few as few_in, not_free}
use Rattle.tree_law.proofs.shape.Mapping.{among, chain_of, covering, live}
use Rattle.tree_law.proofs.shape.Sides.{one_chain}
use Rattle.tree_law.proofs.shape.Relinked.{right_page, same_page}

module _ (limits : Limits) (entries : List Entry) (state : IsState limits entries) where
  abbrev pub memory : Memory
  memory = memory_of limits entries

  abbrev pub owners : Owners
  owners = state.owners

  abbrev pub top : ℕ
  top = state.is_tree.tree.top

  -- what a level is to decide
  abbrev pub decides : ℕ → Key → Option ContentOf
  decides l = spec (log_of entries state.points) state.owners.index l

  abbrev pub Here : ℕ → SidePage → Type 0
  Here l f = InPlace state.owners (shared_part (memory_of limits entries)) l (decides l) f

  abbrev pages_by : (l : ℕ) → (state.is_tree.tree.top < l) ⊎ (l ≤ state.is_tree.tree.top) → List LivePage
  pages_by l (inl above) = []
  pages_by l (inr le) = map live (state.is_tree.tree.levels l le).side

  pub pages : ℕ → List LivePage
  pages l = pages_by l (cases_lt state.is_tree.tree.top l)

  -- a page of a level, in its place
  pub record OnLevel (l : ℕ) (page : LivePage) : Type 0 where
    pub le : l ≤ state.is_tree.tree.top
    pub place : SidePage
    pub is : live place ≡ page
    pub here : Here l place

  pub on_level : (l : ℕ) (page : LivePage) → Contains (pages l) page → OnLevel l page
  unfolding pages
  on_level l page = go (cases_lt state.is_tree.tree.top l)
    where
      go : (d : (state.is_tree.tree.top < l) ⊎ (l ≤ state.is_tree.tree.top)) → Contains (pages_by l d) page → OnLevel l page
      go (inl above) (n, lt, e) = absurd (omega (arith, lt))
      go (inr le) has =
          let t = state.is_tree.tree.levels l le in
          let f = among memory owners l (decides l) t.side (Some (state.is_tree.tree.first l)) (Some []) t.whole page has in
          record { le = le; place = f.0; is = f.1; here = f.2 }

  -- a page that is in the tree is one of its level's
  pub record Listed (l q : ℕ) (s : Key) : Type 0 where
    pub place : SidePage
    pub is : place.page ≡ q
    pub contains : Contains (pages l) (live place)
    pub here : Here l place
    pub begins : low_in place.chain ≡ s

  in_side : (l : ℕ) (gs : List SidePage) (p : Option ℕ) (low : Option Key) → IsPart owners (shared_part memory) l (decides l) gs p low None None
      → (q : ℕ) → HasSidePage q gs → (f : SidePage) × (f.page ≡ q) × Contains (map live gs) (live f) × Here l f
  in_side l [] p low h q has = absurd has
  in_side l (f ∷ gs) p low h q (inl e) = (f, e, (zero, omega arith, refl), h.2)
  in_side l (f ∷ gs) p low h q (inr later) = let r = in_side l gs (right_in f.chain) (high_in f.chain) h.3 q later in (r.0, r.1, (suc r.2.0, (let lt = r.2.1 in omega arith), r.2.2), r.3)

  pub listed : (l q : ℕ) (s : Key) (st : Stage) → owners.page q ≡ Placed st l s → rank st ≤ 3 → Listed l q s
  unfolding pages
  listed l q s st e on = go (cases_lt state.is_tree.tree.top l) refl
    where
      go : (d : (state.is_tree.tree.top < l) ⊎ (l ≤ state.is_tree.tree.top)) → cases_lt state.is_tree.tree.top l ≡ d → Listed l q s
      go (inl above) is = absurd (let le = state.is_tree.tree.exact.below q l s st e in omega (arith, above, le))
      go (inr le) is =
          let t = state.is_tree.tree.levels l le in
          let f = in_side l t.side (Some (state.is_tree.tree.first l)) (Some []) t.whole q (t.listed q s st e on) in
          record {
            place = f.0;
            is = f.1;
            contains = rw is f.2;
            here = f.3;
            begins = let w : Placed f.3.stage l (low_in f.0.chain) ≡ Placed st l s = sym f.3.placed ∙ ap owners.page f.1 ∙ e in cc;
          }

  -- a page that is in its place is one of its level's
  pub stands : (l : ℕ) (f : SidePage) → Here l f → Contains (pages l) (live f)
  stands l f h =
      let r = listed l f.page (low_in f.chain) h.stage h.placed h.on in
      let same : r.place.chain ≡ f.chain = one_chain owners (shared_part memory) l (decides l) (decides l) f r.place h r.here r.is in
      let is : live r.place ≡ live f = (λ i. record { pid = r.is i; chain = same i }) in
      subst (Contains (pages l)) is r.contains

  pub few : (l : ℕ) → length (pages l) < limits.pids
  unfolding pages
  few l = go (cases_lt state.is_tree.tree.top l)
    where
      go : (d : (state.is_tree.tree.top < l) ⊎ (l ≤ state.is_tree.tree.top)) → length (pages_by l d) < limits.pids
      go (inl above) = let some : 64 ≤ limits.pids = limits.allowed.some_pids in omega arith
      go (inr le) = rw (length-map (state.is_tree.tree.levels l le).side live) (few_in limits entries state l (state.is_tree.tree.first l) (decides l) (state.is_tree.tree.levels l le))

  -- the PID of a page in the tree is in range
  pub in_range : (q l : ℕ) (s : Key) (st : Stage) → owners.page q ≡ Placed st l s → q < limits.pids
  in_range q l s st e = elim (state.named.pid_below q) [ inl free ↦ absurd (not_free st l s (ap phase_of (sym e) ∙ free)) | inr within ↦ within.1 ]

  pub page_on : (l : ℕ) (f : SidePage) → Here l f → IsPageOn limits memory l (live f)
  page_on l f h = record {
    pid = in_range f.page l (low_in f.chain) h.stage h.placed;
    stands = chain_of memory owners l (decides l) f h;
    fits = state.fitted f.row h.linked f.chain h.is_page.is_chain;
    level_is = h.is_page.on_level;
  }

  pub each : (l : ℕ) (page : LivePage) → Contains (pages l) page → IsPageOn limits memory l page
  each l page has = let o = on_level l page has in subst (IsPageOn limits memory l) o.is (page_on l o.place o.here)

  pub root : (page : LivePage) × Contains (pages top) page × (page.pid ≡ memory.slots 0) × (low_in page.chain ≡ [])
  root =
      let r = listed top (memory.slots 0) [] Indexed state.is_tree.tree.exact.is_root (omega arith) in
      (live r.place, r.contains, r.is, r.begins)

  pub covering_on : (l : ℕ) (key : Key) → l ≤ top → (f : SidePage) × Here l f × Covers f.chain key
  covering_on l key le =
      let t = state.is_tree.tree.levels l le in
      let f = covering memory owners l (decides l) t.side (Some (state.is_tree.tree.first l)) (Some []) t.whole key (empty_lowest key) in
      (f.0, f.2, f.3)

  pub covered : (l : ℕ) (key : Key) → l ≤ top → (page : LivePage) × Contains (pages l) page × IsTrue (covers page.chain key)
  covered l key le = let f = covering_on l key le in (live f.0, stands l f.0 f.1, covers_to f.0.chain key f.2)

  pub one : (l : ℕ) (page other : LivePage) (key : Key) → Contains (pages l) page → Contains (pages l) other
      → IsTrue (covers page.chain key) → IsTrue (covers other.chain key) → page ≡ other
  one l page other key has had inside within =
      let a = on_level l page has in
      let b = on_level l other had in
      let first : Covers a.place.chain key = covers_from a.place.chain key (rw (← a.is) at inside) in
      let second : Covers b.place.chain key = covers_from b.place.chain key (rw (← b.is) at within) in
      let pid : a.place.page ≡ b.place.page = same_page (state.is_tree.tree.levels l a.le) a.place b.place a.here b.here key first second in
      let chain : a.place.chain ≡ b.place.chain = one_chain owners (shared_part memory) l (decides l) (decides l) b.place a.place b.here a.here pid in
      let same : live a.place ≡ live b.place = (λ i. record { pid = pid i; chain = chain i }) in
      sym a.is ∙ same ∙ b.is

  pub spans : (l : ℕ) (page : LivePage) → Contains (pages l) page → IsUnder (low_in page.chain) (high_in page.chain)
  spans l page has = let o = on_level l page has in rw (← o.is) o.here.is_page.some

  pub right : (l : ℕ) (page : LivePage) (next : ℕ) → Contains (pages l) page → right_in page.chain ≡ Some next
      → (after : LivePage) × Contains (pages l) after × (after.pid ≡ next) × (high_in page.chain ≡ Some (low_in after.chain))
  right l page next has e =
      let a = on_level l page has in
      let chain : a.place.chain ≡ page.chain = ap (λ (p : LivePage). p.chain) a.is in
      let r = right_page (state.is_tree.tree.levels l a.le) a.place a.here next (ap right_in chain ∙ e) in
      (live r.0, stands l r.0 r.3, r.1, ap high_in (sym chain) ∙ r.2)
