-- Round a removed index page, to the page on its left, and on from there.
use Rattle.progress.proofs.Words.{◌≡◌, ◌≢◌, ℕ, suc, Bool, true, false, Option, Some, None, sym, ap, ◌∙◌, inl, inr, IsTrue, either, content_in, covers, is_removed, low_in, right_in, LivePage}
use Rattle.progress.proofs.Words.{Version, left_of, LeadsDown, LeadsRight, StaysLeft, Child, IsBelow, IsUpTo, Key, IsPageOn, IsChildAt, below_not, below_upto, by_below, not_below, upto_below}
use Rattle.progress.proofs.Words.{upto_both}
use Rattle.tree_law.proofs.shape.KeyOrder.{not_self}
use Rattle.progress.proofs.rounds.KeyWays.{IsWay, within}
use Rattle.progress.proofs.rounds.Pages.{Below, Clear, On, Standing, Under, chain_on, down, live, low_of, one_child, right, same_pid, some_of, term_of}

module _ (w : Standing) where
  -- A page to the left of a removed one of its level. Of the pages to its right on the way none is removed but that one.
  pub record Near (way : Key → Bool) (level : ℕ) (removed page : LivePage) : Type 0 where
    pub on : On w level page
    pub alive : is_removed page.chain ≡ false
    pub below : IsBelow (low_of page) (low_of removed)
    pub stands : IsPageOn w.limits w.memory level removed
    pub gone : is_removed removed.chain ≡ true
    pub passing : way (low_of removed) ≡ true
    pub clear : (other : LivePage) → On w level other → IsBelow (low_of page) (low_of other) → way (low_of other) ≡ true → is_removed other.chain ≡ true → other.pid ≡ removed.pid

  -- the page to which one goes to be to the left
  pub record IsNear (way : Key → Bool) (level : ℕ) (removed : LivePage) (next : ℕ) : Type 0 where
    pub page : LivePage
    pub is_pid : page.pid ≡ next
    pub near : Near way level removed page

  pub go_round : (way : Key → Bool) → IsWay way → (level next : ℕ) (above : Option Version) (version over : Version)
      → IsPageOn w.limits w.memory level (live version) → way (low_in version.chain) ≡ true
      → Under w way above level (live version) → above ≡ Some over → LeadsDown (left_of version) over.chain next → IsNear way level (live version) next
  go_round way is_way level next above version over stands passing under is_above leads = record {
    page = page;
    is_pid = c.1.1;
    near = record { on = child.among alive; alive = alive; below = below; stands = stands; gone = under.gone; passing = passing; clear = clear };
  }
    where
      same : under.over ≡ over
      same = let both : Some under.over ≡ Some over = sym under.is_over ∙ is_above in cc

      on_over : On w (suc level) (live over)
      on_over = rw (← same) under.on

      stays : StaysLeft way over.chain
      stays = rw (← same) under.stays

      term : content_in over.chain (low_in version.chain) ≡ Some (Child version.pid true)
      term = rw (← same) under.term

      c : IsTrue (covers over.chain leads.low) × ((child : LivePage) × (child.pid ≡ next) × IsChildAt w.limits w.memory level (w.tree.pages level) leads.low leads.held child)
      c = w.tree.child level next (live over) leads.low leads.held on_over leads.greatest.has

      page : LivePage
      page = c.1.0

      child : IsChildAt w.limits w.memory level (w.tree.pages level) leads.low leads.held page
      child = c.1.2

      unheld : leads.held ≡ false
      unheld =
          let l = w.tree.left level version.pid (live over) (low_in version.chain) on_over term in
          let one = leads.greatest.greatest l.0 l.2.passing (some_of _ _ l.2.has) in
          let two = l.2.greatest leads.low leads.greatest.passing (some_of _ _ leads.greatest.has) in
          let is : leads.low ≡ l.0 = upto_both leads.low l.0 two one in
          (one_child (content_in over.chain leads.low) next l.1 leads.held false leads.greatest.has (rw is l.2.has)).1

      alive : is_removed page.chain ≡ false
      alive = child.alive unheld

      below : IsBelow (low_of page) (low_in version.chain)
      below = rw child.begins leads.greatest.passing

      clear : (other : LivePage) → On w level other → IsBelow (low_of page) (low_of other) → way (low_of other) ≡ true → is_removed other.chain ≡ true → other.pid ≡ version.pid
      clear other on after pass gone =
          let up : IsUpTo leads.low (low_of other) = rw (← child.begins) (below_not (low_of page) (low_of other) after) in
          let cov : IsTrue (covers over.chain (low_of other)) = within way is_way over.chain leads.low (low_of other) stays c.0 up pass in
          let here = term_of w level other (live over) on gone on_over cov in
          let most : IsUpTo (low_of other) (low_in version.chain) = rw same at under.greatest
          (low_of other) pass (some_of _ _ here) in
          by_below (low_of other) (low_in version.chain)
          (λ less. absurd (not_below (low_of page) (low_of other) after (rw child.begins (leads.greatest.greatest (low_of other) less (some_of _ _ here)))))
          (λ least. (one_child (content_in over.chain (low_of other)) other.pid version.pid true true here (rw (upto_both (low_of other) (low_in version.chain) most least) term)).0)

  -- A page of the level at or beyond the removed one that is another page; none to its right on the way is removed.
  pub past : (way : Key → Bool) (level : ℕ) (removed page other : LivePage) → Near way level removed page → On w level other
      → IsUpTo (low_of removed) (low_of other) → other.pid ≢ removed.pid → way (low_of other) ≡ true → Clear w way level other
  past way level removed page other n on up apart pass = record {
    on = on;
    alive = either (is_removed other.chain) (λ gone. absurd (apart (n.clear other on (below_upto (low_of page) (low_of removed) (low_of other) n.below up) pass gone))) (λ alive. alive);
    clear = others;
  }
    where
      others : (q : LivePage) → On w level q → IsBelow (low_of other) (low_of q) → way (low_of q) ≡ true → is_removed q.chain ≡ false
      others q on_q after pass_q = either (is_removed q.chain)
          (λ gone.
          let is_pid = n.clear q on_q
          (below_upto (low_of page) (low_of removed) (low_of q) n.below (below_not (low_of removed) (low_of q) (upto_below (low_of removed) (low_of other) (low_of q) up after)))
          pass_q gone in
          let same : q ≡ removed = same_pid w q removed (chain_on w level q on_q) n.stands.stands is_pid in
          absurd (not_self (low_of q) (upto_below (low_of q) (low_of other) (low_of q) (rw same up) after)))
          (λ alive. alive)

  -- the page ends to the left of the removed one
  pub nearer : (way : Key → Bool) → IsWay way → (level next : ℕ) (removed : Version) (page : LivePage) → Near way level (live removed) page → LeadsRight (left_of removed) page.chain next
      → (near : IsNear way level (live removed) next) × IsBelow (low_of page) (low_of near.page)
  nearer way is_way level next removed page n leads =
      let r = right w (left_of removed) level next page n.on leads in
      let pass : way (low_of r.0) ≡ true = is_way (low_of r.0) (low_in removed.chain) n.passing (below_not (low_of r.0) (low_in removed.chain) r.3) in
      let alive : is_removed r.0.chain ≡ false = either (is_removed r.0.chain)
      (λ gone.
      let same : r.0 ≡ live removed = same_pid w r.0 (live removed) (chain_on w level r.0 r.2) n.stands.stands (n.clear r.0 r.2 r.4 pass gone) in
      absurd (not_self (low_in removed.chain) (rw same at r.3)))
      (λ alive. alive)
      in (
        record {
          page = r.0;
          is_pid = r.1;
          near = record {
            on = r.2;
            alive = alive;
            below = r.3;
            stands = n.stands;
            gone = n.gone;
            passing = n.passing;
            clear = λ q on_q after pass_q gone. n.clear q on_q (below_upto (low_of page) (low_of r.0) (low_of q) r.4 (below_not (low_of r.0) (low_of q) after)) pass_q gone;
          };
        },
        r.4,
      )

  -- the removed page is on its level where it is the right of a page
  pub on_level : (way : Key → Bool) (level : ℕ) (removed page : LivePage) → Near way level removed page → right_in page.chain ≡ Some removed.pid → On w level removed
  on_level way level removed page n is_right =
      let r = w.tree.right level page removed.pid n.on is_right in
      rw (← same_pid w r.0 removed (chain_on w level r.0 r.1) n.stands.stands r.2) r.1

  -- What the way comes to on the level: a page, and that it is to the right of another one.
  pub record Onward (way : Key → Bool) (level next : ℕ) (page : LivePage) : Type 0 where
    pub other : LivePage
    pub is_pid : other.pid ≡ next
    pub passing : way (low_of other) ≡ true
    pub after : IsBelow (low_of page) (low_of other)
    pub clear : Clear w way level other

  -- from the removed page to its right
  pub through_right : (way : Key → Bool) (level next : ℕ) (removed page : LivePage) → Near way level removed page → right_in page.chain ≡ Some removed.pid
      → LeadsRight way removed.chain next → Onward way level next page
  through_right way level next removed page n is_right leads =
      let on = on_level way level removed page n is_right in
      let r = right w way level next removed on leads in
      record {
        other = r.0;
        is_pid = r.1;
        passing = r.3;
        after = below_upto (low_of page) (low_of removed) (low_of r.0) n.below (below_not (low_of removed) (low_of r.0) r.4);
        clear = past way level removed page r.0 n r.2 (below_not (low_of removed) (low_of r.0) r.4)
            (λ e. let same : r.0 ≡ removed = same_pid w r.0 removed (chain_on w level r.0 r.2) n.stands.stands e in not_self (low_of removed)
            (rw same at r.4))
            r.3;
      }

  -- from the removed page down: none of its terms is held
  pub through_down : (way : Key → Bool) → IsWay way → (level next : ℕ) (removed : Version) (page : LivePage) → Near way (suc level) (live removed) page
      → right_in page.chain ≡ Some removed.pid → StaysLeft way removed.chain → LeadsDown way removed.chain next
      → Below w way None level next
  through_down way is_way level next removed page n is_right stays leads =
      let on = on_level way (suc level) (live removed) page n is_right in
      let b = down w way is_way level next removed on stays leads in
      record {
        page = b.page;
        is_pid = b.is_pid;
        stands = b.stands;
        passing = b.passing;
        is = elim b.is [
          | inl clear ↦ inl clear
          | inr under ↦ absurd (w.tree.unheld (suc level) (live removed) on n.gone (low_of b.page) b.page.pid
              (let same : under.over ≡ removed = (let both : Some under.over ≡ Some removed = sym under.is_over in cc) in rw same at under.term))
        ];
      }

  -- from the page into which the removed one was merged, or one to the right of that, to its right
  pub merged_right : (way : Key → Bool) (level next : ℕ) (removed : Version) (page : LivePage) → Near way level (live removed) page
      → right_in page.chain ≢ Some removed.pid → StaysLeft (left_of removed) page.chain → LeadsRight way page.chain next
      → Onward way level next page
  merged_right way level next removed page n apart stays leads =
      let r = right w way level next page n.on leads in
      record {
        other = r.0;
        is_pid = r.1;
        passing = r.3;
        after = r.4;
        clear = past way level (live removed) page r.0 n r.2 (stays.off (low_of r.0) r.5)
            (λ e. let is : next ≡ removed.pid = sym r.1 ∙ e in apart (leads.is_right ∙ ap Some is))
            r.3;
      }
