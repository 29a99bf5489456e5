-- A page in its place on the lowest level is a leaf, and no other leaf has its keys; and what such a leaf has, the log has.
use Rattle.tree_law.proofs.Words.{[], ap, refl, Option, suc, None, List, inl, inr, ◌∷◌, ℕ, ◌≡◌, sym, zero, ◌∙◌, arith, Some, map, Contains, option_map, IsTrue, is_below, is_in_range, Update}
use Rattle.tree_law.proofs.Words.{ArePairsOf, ContentOf, Value, Memory, Record, content_in, right_in, low_in, high_in, covers, chain_value, value_of, Knowledge, LivePage, HasMapOf, IsUnder}
use Rattle.tree_law.proofs.Words.{IsUpTo, Key, Owners, leaf_map, Placed, shared_part, IsLeafWith, IsTree, HasSidePage, SidePage, InPlace, IsPart, key_before}
use Rattle.base_page.proofs.KeyLaws.{not_true}
use Rattle.bw_model.proofs.NextKeyLaws.{after_is_above}
use Rattle.bw_model.specs.Bytes.{IsShort}
use Rattle.bw_model.specs.NextKeys.{key_after}
use Rattle.bw_model.specs.Pairs.{IsPairsOf}
use Rattle.linearization.specs.Answered.{IsBackPage, IsCursorPage}
use Rattle.tree_law.proofs.shape.Exactness.{is_indexed}
use Rattle.tree_law.proofs.shape.KeyOrder.{both, covers_from, covers_to, upto_below, upto_trans}
use Rattle.tree_law.proofs.shape.Mapping.{live, leaves, is_leaves, map_of}
use Rattle.tree_law.proofs.shape.Sides.{one_chain}

module _ (memory : Memory) {log : List Update} {o : Owners} {knows : ℕ → Knowledge} {point : ℕ → Option (List Update)} {logs : ℕ → List (List Update)}
    (g : IsTree (shared_part memory) log o knows point logs) where
  abbrev Here : SidePage → Type 0
  Here f = InPlace o (shared_part memory) 0 (leaf_map log) f

  -- a page of the list, as it stands there
  listed : (gs : List SidePage) (p : Option ℕ) (low : Option Key) → IsPart o (shared_part memory) 0 (leaf_map log) gs p low None None → (page : ℕ)
      → HasSidePage page gs → (f : SidePage) × (f.page ≡ page) × Contains (map live gs) (live f) × Here f
  listed [] p low h page has = absurd has
  listed (f ∷ gs) p low h page (inl e) = (f, e, (zero, omega arith, refl), h.2)
  listed (f ∷ gs) p low h page (inr later) = let r = listed gs (right_in f.chain) (high_in f.chain) h.3 page later in (r.0, r.1, (suc r.2.0, (let lt = r.2.1 in omega arith), r.2.2), r.3)

  pub is_leaf : (page row : ℕ) (chain : List Record) → Here (record { page = page; row = row; chain = chain }) → IsLeafWith memory (record { pid = page; chain = chain })
  is_leaf page row chain place = record {
    leaves = map live (leaves memory g).side;
    are = is_leaves memory g;
    among = rw same at there.2;
    only = λ key value inside spells. place.is_page.same key (covers_from chain key inside) ∙ ap (option_map Value) (((map_of g).same key value).0 spells);
    first = λ e. (is_indexed memory g).only page 0 place.stage (omega arith) (place.placed ∙ ap (λ (low : Key). Placed place.stage 0 low) e) place.on ∙ (is_indexed memory g).leftmost;
  }
    where
      there : (f : SidePage) × (f.page ≡ page) × Contains (map live (leaves memory g).side) (live f) × Here f
      there = listed (leaves memory g).side (Some 1) (Some []) (leaves memory g).whole page ((leaves memory g).listed page (low_in chain) place.stage place.placed place.on)

      same : live there.0 ≡ record { pid = page; chain = chain }
      same = λ i. record {
        pid = there.1 i;
        chain = (one_chain o (shared_part memory) 0 (leaf_map log) (leaf_map log)
            (record { page = page; row = row; chain = chain }) there.0 place there.3 there.1) i;
      }

valued : (content : Option ContentOf) (value : Key) → value_of content ≡ Some value → content ≡ Some (Value value)
valued (Some (Value v)) value e = rw (let f : v ≡ value = cc in f)
valued content value e = absurd (cc)

-- the pairs of such a leaf in a range that lies within its own are those of the log
leaf_pairs : (memory : Memory) (log : List Update) → HasMapOf memory log → (page : LivePage) → IsLeafWith memory page → (low : Key) (high : Option Key)
    → ((key : Key) → IsTrue (is_in_range low high key) → IsTrue (covers page.chain key)) → (pairs : List (Key × Key))
    → ArePairsOf (chain_value page.chain) low high pairs → IsPairsOf log low high pairs
leaf_pairs memory log has page leaf low high within pairs are = record {
  ascending = are.ascending;
  exact = λ key value. (
    λ contains. let h = (are.exact key value).0 contains in (h.0, (has.same key value).0 (leaf.leaves, page, leaf.are, leaf.among, within key h.0, valued (content_in page.chain key) value h.1)),
    λ h. (are.exact key value).1 (h.0, ap value_of (leaf.only key value (within key h.0) ((has.same key value).1 h.1))),
  );
}

-- the pairs of such a leaf from one of its keys on are those of the log
pub shows : (memory : Memory) (log : List Update) → HasMapOf memory log → (page : LivePage) → IsLeafWith memory page → (from : Key)
    → IsTrue (covers page.chain from) → (pairs : List (Key × Key)) → ArePairsOf (chain_value page.chain) from (high_in page.chain) pairs
    → IsCursorPage memory log from pairs (high_in page.chain)
shows memory log has page leaf from inside pairs are = record {
  leaf = page;
  stands = record { leaves = leaf.leaves; are = leaf.are; among = leaf.among; covers = inside };
  ends = refl;
  pairs = leaf_pairs memory log has page leaf from (high_in page.chain) within pairs are;
}
  where
    within : (key : Key) → IsTrue (is_in_range from (high_in page.chain) key) → IsTrue (covers page.chain key)
    within key e = let h = both _ _ e in covers_to page.chain key (record { low = upto_trans (low_in page.chain) from key (covers_from page.chain from inside).low h.0; high = h.1 })

upto_under : (key upto : Key) (high : Option Key) → IsUpTo key upto → IsUnder upto high → IsUnder key high
upto_under key upto None h u = refl
upto_under key upto (Some high) h u = upto_below key upto high h u

-- and so are its pairs up to one of its keys
pub shows_back : (memory : Memory) (log : List Update) → HasMapOf memory log → (page : LivePage) → IsLeafWith memory page → (upto : Key)
    → IsTrue (covers page.chain upto) → IsShort (low_in page.chain) → (pairs : List (Key × Key))
    → ArePairsOf (chain_value page.chain) (low_in page.chain) (Some (key_after upto)) pairs → IsBackPage memory log upto pairs (key_before (low_in page.chain))
shows_back memory log has page leaf upto inside short pairs are = record {
  leaf = page;
  stands = record { leaves = leaf.leaves; are = leaf.are; among = leaf.among; covers = inside };
  short = short;
  goes_on = refl;
  pairs = leaf_pairs memory log has page leaf (low_in page.chain) (Some (key_after upto)) within pairs are;
}
  where
    within : (key : Key) → IsTrue (is_in_range (low_in page.chain) (Some (key_after upto)) key) → IsTrue (covers page.chain key)
    within key e =
        let h = both (is_below key (low_in page.chain)) (is_below key (key_after upto)) e in
        let not_above : IsUpTo key upto = not_true (is_below upto key) (sym (after_is_above upto key) ∙ h.1) in
        covers_to page.chain key (record { low = h.0; high = upto_under key upto (high_in page.chain) not_above (covers_from page.chain upto inside).high })
