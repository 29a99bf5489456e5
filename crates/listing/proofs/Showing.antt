-- What a leaf has from a key on, the log has.
use Rattle.listing.proofs.Words.{◌≡◌, List, [], Option, Some, refl, ap, IsTrue, AllByRecursion, Contains, all-weaker, Value, is_in_range, Memory}
use Rattle.listing.proofs.Words.{Limits, content_in, high_in, low_in, Key, HasLeafPages, IsLeafPage, covers_to, upto_trans}
use Rattle.base_page.specs.declared.item.Content.{Content}
use Rattle.bw_model.specs.Bytes.{is_below, is_under}
use Rattle.traces.specs.declared.trace.Entry.{Entry}
use Rattle.traces.specs.chain.Chains.{covers}
use Rattle.traces.specs.discipline.Discipline.{value_of}
use Rattle.traces.specs.trace.Trace.{memory_of}
use Rattle.tree_law.specs.TraceLaws.{LeavesHaveMap}
use Rattle.tree_law.proofs.shape.KeyOrder.{both, covers_from}
use Rattle.listing.specs.Listed.{IsListedPage, IsPageFrom}
use Rattle.listing.proofs.Listings.{IsOneSide}
use Rattle.listing.proofs.Ranges.{Spans, fitted_spans, one_has}

valued : (content : Option Content) (value : Key) → value_of content ≡ Some value → content ≡ Some (Value value)
valued (Some (Value v)) value e = rw (let f : v ≡ value = cc in f)
valued content value e = absurd (cc)

module _ (limits : Limits) (entries : List Entry) where
  abbrev memory : Memory
  memory = memory_of limits entries

  pub page_is_shown : LeavesHaveMap → IsOneSide → (leaves : HasLeafPages limits memory) (from : Key) (pairs : List (Key × Key)) (next : Option Key)
      → IsPageFrom leaves.pages from pairs next → IsListedPage limits entries from pairs next
  page_is_shown have one leaves from pairs next p linear = rw (← p.ends) (record {
    leaf = p.page;
    stands = record { leaves = leaves.pages; are = leaves.leaves; among = p.among; covers = p.covers };
    ends = refl;
    pairs = record {
      ascending = p.are.ascending;
      exact = λ key value. (
        (λ contains.
            let h = (p.are.exact key value).0 contains in
            (h.0, ((have limits entries linear).same key value).0 (leaves.pages, p.page, leaves.leaves, p.among, within key h.0, valued (content_in p.page.chain key) value h.1))),
        (λ h.
            let (pages, page, are, among, covered, says) = ((have limits entries linear).same key value).1 h.1 in
            let in_leaves : Contains leaves.pages page = rw (← one memory 1 pages leaves.pages are leaves.leaves) among in
            let same : page ≡ p.page = one_has [] leaves.pages leaves.whole spans key page p.page in_leaves p.among (covers_from page.chain key covered)
            (covers_from p.page.chain key (within key h.0)) in
            (p.are.exact key value).1 (h.0, rw (← same) (ap value_of says))),
      );
    };
  })
    where
      spans : AllByRecursion Spans leaves.pages
      spans = all-weaker (IsLeafPage limits memory) Spans (λ page is. fitted_spans page.chain is.fits.fitted) leaves.pages leaves.each

      within : (key : Key) → IsTrue (is_in_range from (high_in p.page.chain) key) → IsTrue (covers p.page.chain key)
      within key e =
          let h = both (is_below key from) (is_under key (high_in p.page.chain)) e in
          covers_to p.page.chain key (record { low = upto_trans (low_in p.page.chain) from key (covers_from p.page.chain from p.covers).low h.0; high = h.1 })
