-- The pages of a whole tree that a reader's way comes to.
use Rattle.progress.proofs.Words.{◌≡◌, ◌⊎◌, ℕ, suc, Bool, true, false, Option, Some, refl, sym, ap, ◌∙◌, inl, inr, arith, Contains, IsTrue, IsSome, is_some, Limits, is_below, Child, either}
use Rattle.progress.proofs.Words.{Memory, IsChainOf, content_in, covers, high_in, is_removed, low_in, LivePage, Version, LeadsDown, LeadsRight, StaysLeft, IsBelow, Key, IsPageOn, HasWholeTree}
use Rattle.progress.proofs.Words.{IsChildAt, below_not, below_upto, not_below, same_page}
use Rattle.base_page.specs.declared.item.Content.{Content}
use Rattle.traces.proofs.ChainLaws.{IsChainOf-unique}
use Rattle.round_model.proofs.PageLaws.{spans}
use Rattle.progress.proofs.rounds.KeyWays.{IsWay, within}

-- a page that was read whole, as it stands
abbrev pub live : Version → LivePage
live version = record { pid = version.pid; chain = version.chain }

abbrev pub low_of : LivePage → Key
low_of page = low_in page.chain

-- two terms of one key are the same
pub one_child : (o : Option Content) (p q : ℕ) (a b : Bool) → o ≡ Some (Child p a) → o ≡ Some (Child q b) → (p ≡ q) × (a ≡ b)
one_child o p q a b e f = let both : Some (Child p a) ≡ Some (Child q b) = sym e ∙ f in (cc, cc)

pub some_of : (o : Option Content) (c : Content) → o ≡ Some c → IsSome o
some_of o c e = ap is_some e

-- a memory with its whole tree
pub record Standing : Type 0 where
  pub limits : Limits
  pub memory : Memory
  pub tree : HasWholeTree limits memory

module _ (w : Standing) where
  -- the page is one of the level
  abbrev pub On : ℕ → LivePage → Type 0
  On level page = Contains (w.tree.pages level) page

  -- a PID has one page
  pub same_pid : (p q : LivePage) → IsChainOf w.memory p.pid p.chain → IsChainOf w.memory q.pid q.chain → p.pid ≡ q.pid → p ≡ q
  same_pid p q a b e = same_page p q e (IsChainOf-unique w.memory q.pid p.chain q.chain (rw (← e) a) b)

  pub chain_on : (level : ℕ) (page : LivePage) → On level page → IsChainOf w.memory page.pid page.chain
  chain_on level page on = (w.tree.each level page on).stands

  -- the right of a page begins above it
  pub right_above : (level : ℕ) (page : LivePage) (high : Key) → On level page → high_in page.chain ≡ Some high → IsBelow (low_of page) high
  right_above level page high on e = spans page.chain high (w.tree.each level page on).fits.fitted e

  -- a removed page has a held term in the page above that has its low key in its range
  pub term_of : (level : ℕ) (page above : LivePage) → On level page → is_removed page.chain ≡ true → On (suc level) above → IsTrue (covers above.chain (low_of page))
      → content_in above.chain (low_of page) ≡ Some (Child page.pid true)
  term_of level page above on gone on_above cov =
      let b = w.tree.removed level page on gone in
      let c = w.tree.child level page.pid b.0 (low_of page) true b.1 b.2 in
      let same : b.0 ≡ above = w.tree.one (suc level) b.0 above (low_of page) b.1 on_above c.0 cov in
      rw (← same) b.2

  -- no page of the top level is removed
  pub top_stands : (page : LivePage) → On w.tree.top page → is_removed page.chain ≡ false
  top_stands page on =
      either (is_removed page.chain) (λ gone. let b = w.tree.removed w.tree.top page on gone in let over = w.tree.below (suc w.tree.top) b.0 b.1 in absurd (omega (arith, over))) (λ alive. alive)

  -- A page of the level that isn't removed, and no page to its right on the way is.
  pub record Clear (way : Key → Bool) (level : ℕ) (page : LivePage) : Type 0 where
    pub on : On level page
    pub alive : is_removed page.chain ≡ false
    pub clear : (other : LivePage) → On level other → IsBelow (low_of page) (low_of other) → way (low_of other) ≡ true → is_removed other.chain ≡ false

  -- A removed page, which has the greatest term on the way of the page above it.
  pub record Under (way : Key → Bool) (above : Option Version) (level : ℕ) (page : LivePage) : Type 0 where
    pub gone : is_removed page.chain ≡ true
    pub over : Version
    pub is_over : above ≡ Some over
    pub on : On (suc level) (live over)
    pub stays : StaysLeft way over.chain
    pub term : content_in over.chain (low_of page) ≡ Some (Child page.pid true)
    pub greatest : (other : Key) → way other ≡ true → IsSome (content_in over.chain other) → is_below (low_of page) other ≡ false

  -- What a way comes to by going down.
  pub record Below (way : Key → Bool) (above : Option Version) (level next : ℕ) : Type 0 where
    pub page : LivePage
    pub is_pid : page.pid ≡ next
    pub stands : IsPageOn w.limits w.memory level page
    pub passing : way (low_of page) ≡ true
    pub is : Clear way level page ⊎ Under way above level page

  pub down : (way : Key → Bool) → IsWay way → (level next : ℕ) (above : Version) → On (suc level) (live above) → StaysLeft way above.chain
      → LeadsDown way above.chain next → Below way (Some above) level next
  down way is_way level next above on stays leads = record { page = page; is_pid = c.1.1; stands = child.is_page; passing = passing; is = either (is_removed page.chain) under clear }
    where
      c : IsTrue (covers above.chain leads.low) × ((child : LivePage) × (child.pid ≡ next) × IsChildAt w.limits w.memory level (w.tree.pages level) leads.low leads.held child)
      c = w.tree.child level next (live above) leads.low leads.held on leads.greatest.has

      page : LivePage
      page = c.1.0

      child : IsChildAt w.limits w.memory level (w.tree.pages level) leads.low leads.held page
      child = c.1.2

      passing : way (low_of page) ≡ true
      passing = rw child.begins leads.greatest.passing

      greatest : (other : Key) → way other ≡ true → IsSome (content_in above.chain other) → is_below (low_of page) other ≡ false
      greatest other pass some = rw child.begins (leads.greatest.greatest other pass some)

      has : content_in above.chain (low_of page) ≡ Some (Child page.pid leads.held)
      has = rw (child.begins, c.1.1) leads.greatest.has

      under : is_removed page.chain ≡ true → Clear way level page ⊎ Under way (Some above) level page
      under gone = inr (record { gone = gone; over = above; is_over = refl; on = on; stays = stays; term = held leads.held refl; greatest = greatest })
        where
          held : (b : Bool) → leads.held ≡ b → content_in above.chain (low_of page) ≡ Some (Child page.pid true)
          held true e = rw (← e) has
          held false e = let both : true ≡ false = sym gone ∙ child.alive e in absurd (cc)

      clear : is_removed page.chain ≡ false → Clear way level page ⊎ Under way (Some above) level page
      clear alive = inl (record { on = child.among alive; alive = alive; clear = others })
        where
          others : (other : LivePage) → On level other → IsBelow (low_of page) (low_of other) → way (low_of other) ≡ true → is_removed other.chain ≡ false
          others other on_other after pass = either (is_removed other.chain)
              (λ gone.
              let cov : IsTrue (covers above.chain (low_of other)) = within way is_way above.chain leads.low (low_of other) stays c.0
              (rw (← child.begins) (below_not (low_of page) (low_of other) after)) pass in
              let term = term_of level other (live above) on_other gone on cov in
              absurd (not_below (low_of page) (low_of other) after (greatest (low_of other) pass (some_of _ _ term))))
              (λ alive. alive)

  -- the page to the right
  pub right : (way : Key → Bool) (level next : ℕ) (page : LivePage) → On level page → LeadsRight way page.chain next
      → (other : LivePage) × (other.pid ≡ next) × On level other × (way (low_of other) ≡ true) × IsBelow (low_of page) (low_of other) × (high_in page.chain ≡ Some (low_of other))
  right way level next page on leads =
      let r = w.tree.right level page next on leads.is_right in
      let same : leads.low ≡ low_of r.0 = some_low leads.low (low_of r.0) (sym leads.is_high ∙ r.3) in
      (r.0, r.2, r.1, rw (← same) leads.on_way, right_above level page (low_of r.0) on r.3, r.3)
    where
      some_low : (a b : Key) → Some a ≡ Some b → a ≡ b
      some_low a b e = cc

  pub right_clear : (way : Key → Bool) (level : ℕ) (page other : LivePage) → Clear way level page → On level other → way (low_of other) ≡ true
      → IsBelow (low_of page) (low_of other) → Clear way level other
  right_clear way level page other c on pass after = record {
    on = on;
    alive = c.clear other on after pass;
    clear = λ q on_q after_q pass_q. c.clear q on_q (below_upto (low_of page) (low_of other) (low_of q) after (below_not (low_of other) (low_of q) after_q)) pass_q;
  }

  -- the root
  pub root_clear : (way : Key → Bool) → Clear way w.tree.top w.tree.root.0
  root_clear way = record { on = w.tree.root.1; alive = top_stands w.tree.root.0 w.tree.root.1; clear = λ q on_q after pass. top_stands q on_q }
