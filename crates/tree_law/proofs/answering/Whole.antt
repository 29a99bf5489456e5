-- What an actor may count on of a chain while it reads it, and once it has read it whole.
use Rattle.tree_law.proofs.Words.{false, ◌⊎◌, [], ap, Option, None, List, inl, length, ◌++◌, inr, ◌∷◌, sym, ℕ, ◌≡◌, ◌∙◌, ◌<◌, arith, Some, ◌+◌, Update, Limits, Child, next_row, Record}
use Rattle.tree_law.proofs.Words.{IsChainFrom-unique, IsChainFrom, right_in, low_in, is_removed, level_in, IsFront, NamesChild, Knowledge, AreFitted, Key, Linked, Owners, Reached}
use Rattle.tree_law.proofs.Words.{ChainNames, Placed, PageOwner, Cleared, rank_of, Shared, IsTree}
use Rattle.std.proofs.lemmas.List.{length-append}
use Rattle.traces.specs.discipline.Fitting.{SaysOf, IsReadWhole}
use Rattle.tree_law.proofs.shape.{front_of, chain_stands, covers_from}
use Rattle.tree_law.proofs.links.Keeping.{read_names, beyond_names}

-- a page is in the tree at one level and one low key
pub reached_one : (r r' l l' : ℕ) (s s' : Key) (w : PageOwner) → Reached r l s w → Reached r' l' s' w → (l' ≡ l) × (s' ≡ s)
reached_one r r' l l' s s' (Placed st k t) h i = (sym i.0 ∙ h.0, sym i.1 ∙ h.1)
reached_one r r' l l' s s' (Cleared a k t) h i = (sym i.0 ∙ h.0, sym i.1 ∙ h.1)
reached_one r r' l l' s s' w h i = absurd h

some_longer : (rows : ℕ → Option Record) (x : ℕ) (c : List Record) → IsChainFrom rows x c → 0 < length c
some_longer rows x [] h = absurd h
some_longer rows x (w ∷ c) h = omega arith

module _ {m : Shared} {log : List Update} {o : Owners} {knows : ℕ → Knowledge} {point : ℕ → Option (List Update)} {logs : ℕ → List (List Update)}
    (g : IsTree m log o knows point logs) (fitted : AreFitted o m.rows) (a : ℕ) where
  -- The chain of a slot that was read.
  record HeadChain (page head : ℕ) : Type 0 where
    chain : List Record
    linked : o.row head ≡ Linked
    stands : IsChainFrom m.rows head chain
    reached : Reached 0 (level_in chain) (low_in chain) (o.page page)
    names : is_removed chain ≡ false → ChainNames o chain

  head_chain : (page head : ℕ) → (knows a).read.heads page ≡ Some head → HeadChain page head
  head_chain page head e =
      let f = rw e at ((g.sound a).heads_fit page) in
      record { chain = f.2.chain; linked = f.2.linked; stands = f.2.is_chain; reached = f.3; names = f.5 }

  seen_stands : (r : ℕ) (w : Record) → (knows a).read.seen r ≡ Some w → m.rows r ≡ Some w
  seen_stands r w e = (rw e at ((g.sound a).seen_fits r)).1

  -- what a linked chain says of a page is so of the page's chain
  says_of : (naming : List Record) → ChainNames o naming → (page : ℕ) (c : List Record) → Reached 0 (level_in c) (low_in c) (o.page page) → SaysOf naming page c
  says_of naming n page c r = record {
    right = λ e.
        let i = n.right page e in
        let same = reached_one 0 0 (level_in naming) (level_in c) i.0 (low_in c) (o.page page) i.2 r in
        (same.0, i.1 ∙ ap Some (sym same.1));
    child =
        λ level key held on inside is. reached_one (rank_of (Child page held)) 0 level (level_in c) key (low_in c) (o.page page)
        (n.items level key (Child page held) on (covers_from naming key inside) is) r;
  }

  -- a page that was read is where its chain is
  pub read_reached : (page head : ℕ) (c : List Record) → (knows a).read.heads page ≡ Some head → IsChainFrom (knows a).read.seen head c → Reached 0 (level_in c) (low_in c) (o.page page)
  read_reached page head c e h =
      let w = head_chain page head e in
      let same = IsChainFrom-unique m.rows head w.chain c w.stands (chain_stands o m (knows a).read.seen (g.sound a).seen_fits c (Some head) h) in
      rw same at w.reached

  -- the chain of a slot that was read is whole, where the pages of the tree are below the limit
  is_whole : (limits : Limits) → ((r p l : ℕ) (s : Key) → Reached r l s (o.page p) → (0 < p) × (p < limits.pids)) → (page head : ℕ)
      → (knows a).read.heads page ≡ Some head → (w : HeadChain page head) → IsReadWhole limits (knows a) page w.chain
  is_whole limits below page head at w = record {
    is_chain = fitted head w.linked w.chain w.stands;
    root = λ e. let i = (g.sound a).roots_fit page e in (reached_one 0 0 i.0 (level_in w.chain) [] (low_in w.chain) (o.page page) i.1 w.reached).1;
    named = λ other row h. says_of h.chain (read_names g a other row h) page w.chain w.reached;
    beside =
        λ other row h b. let n = chain_stands o m (knows a).read.seen (g.sound a).seen_fits h.chain (Some row) h.read in says_of b.chain
        (beyond_names g a other row h.head h.chain n h.alive page b) page w.chain w.reached;
    own = λ alive. says_of w.chain (w.names alive) page w.chain w.reached;
    names = λ alive other row read e h. says_of w.chain (w.names alive) other read (read_reached other row read e h);
    beyond = λ alive next b.
        let n = beyond_names g a page head at w.chain w.stands alive next b in
        let some = named_below n next b.named in (
          some.0,
          some.1,
          says_of b.chain n page w.chain w.reached,
          λ other row read e h. says_of b.chain n other read (read_reached other row read e h),
        );
    right = λ alive other e. right_below (w.names alive) other e;
    child = λ alive level other key held on inside is. child_below (w.names alive) other (level, key, held, on, inside, is);
  }
    where
      right_below : {c : List Record} → ChainNames o c → (other : ℕ) → right_in c ≡ Some other → (0 < other) × (other < limits.pids)
      right_below {c} n other e = let i = n.right other e in below 0 other (level_in c) i.0 i.2

      child_below : {c : List Record} → ChainNames o c → (other : ℕ) → NamesChild c other → (0 < other) × (other < limits.pids)
      child_below {c} n other u = below (rank_of (Child other u.2)) other u.0 u.1 (n.items u.0 u.1 (Child other u.2) u.3 (covers_from c u.1 u.4) u.5)

      named_below : {c : List Record} → ChainNames o c → (other : ℕ) → (right_in c ≡ Some other) ⊎ NamesChild c other → (0 < other) × (other < limits.pids)
      named_below n other (inl e) = right_below n other e
      named_below n other (inr u) = child_below n other u

  module _ (q : ℕ) (w : Record) (stands : m.rows q ≡ Some w) (page head : ℕ) (front : List Record) (at : (knows a).read.heads page ≡ Some head) (part : IsFront (knows a).read.seen head front q) where
    whole : HeadChain page head
    whole = head_chain page head at

    rest : (rest : List Record) × IsChainFrom m.rows q rest × (whole.chain ≡ front ++ rest)
    rest = front_of (knows a).read.seen m.rows seen_stands head front q whole.chain part whole.stands

    pub short_front : length front < 13
    short_front =
        let some : 0 < length rest.0 = some_longer m.rows q rest.0 rest.1 in
        let sum : length whole.chain ≡ length front + length rest.0 = ap length rest.2 ∙ length-append front rest.0 in
        let short = (fitted head whole.linked whole.chain whole.stands).short in
        omega arith

    pub whole_chain : (limits : Limits) → ((r p l : ℕ) (s : Key) → Reached r l s (o.page p) → (0 < p) × (p < limits.pids)) → next_row w ≡ None → IsReadWhole limits (knows a) page (front ++ w ∷ [])
    whole_chain limits below last =
        rw (rest.2 ∙ ap (λ r. front ++ r) (IsChainFrom-unique m.rows q rest.0 (w ∷ []) rest.1 (stands, rw last))) at (is_whole limits below page head at whole)
