-- Which page of the tree a reader's way comes to next, and how many there may be from there on.
use Rattle.progress.proofs.Words.{◌≡◌, ◌≢◌, ◌<◌, ◌≤◌, ◌⊎◌, ℕ, zero, suc, Bool, true, false, Option, Some, None, sym, ap, ◌∙◌, inl, inr, arith, HasNoChild, content_in, is_removed, level_in}
use Rattle.progress.proofs.Words.{low_in, right_in, LivePage, Version, left_of, LeadsDown, LeadsOn, LeadsRight, StaysLeft, IsBelow, Key, IsPageOn}
use Rattle.base_page.specs.Pages.{child_in}
use Rattle.progress.proofs.rounds.KeyWays.{IsWay}
use Rattle.progress.proofs.rounds.Measures.{left_from, left_less, left_more, left_within, under_all}
use Rattle.progress.proofs.rounds.Pages.{Below, Clear, On, Standing, Under, down, live, low_of, right, right_clear}
use Rattle.progress.proofs.rounds.Rounding.{Near, Onward, go_round, merged_right, nearer, through_down, through_right}

pub clash : (b : Bool) → b ≡ true → b ≡ false → ⊥
clash b e f = let both : true ≡ false = sym e ∙ f in cc

module _ (w : Standing) where
  -- The page to which a round comes, where fewer pages are left to it than were.
  pub record Comes (next cost : ℕ) (At : LivePage → ℕ → Type 0) : Type 0 where
    pub page : LivePage
    pub is_pid : page.pid ≡ next
    pub level : ℕ
    pub stands : IsPageOn w.limits w.memory level page
    pub left : ℕ
    pub fewer : left < cost
    pub at : At page left

  -- A page on the way: with those to its right it stands; or it is removed, and the page above has its held term.
  pub record OnWay (way : Key → Bool) (above : Option Version) (page : LivePage) (cost : ℕ) : Type 0 where
    pub level : ℕ
    pub stands : IsPageOn w.limits w.memory level page
    pub passing : way (low_of page) ≡ true
    pub is : (Clear w way level page × (left_from w level (low_of page) ≤ cost)) ⊎ (Under w way above level page × (under_all w (suc level) ≤ cost))

  -- A page on the way round a removed one.
  pub record OnRound (way : Key → Bool) (removed : Version) (page : LivePage) (cost : ℕ) : Type 0 where
    pub level : ℕ
    pub near : Near w way level (live removed) page
    pub few : left_from w level (low_of page) ≤ cost

  from_below : (way : Key → Bool) (above : Option Version) (level next cost : ℕ) → Below w way above level next → under_all w (suc level) < cost → Comes next cost (OnWay way above)
  from_below way above level next cost b lt = record {
    page = b.page;
    is_pid = b.is_pid;
    level = level;
    stands = b.stands;
    left = under_all w (suc level);
    fewer = lt;
    at = record {
      level = level;
      stands = b.stands;
      passing = b.passing;
      is = elim b.is [
        | inl clear ↦ inl (clear, (let some = left_within w level (low_of b.page) in omega (arith, some)))
        | inr under ↦ inr (under, omega arith)
      ];
    };
  }

  -- a page of the level, with those to its right
  at_clear : (way : Key → Bool) (above : Option Version) (level next cost : ℕ) (page other : LivePage) → Clear w way level other → other.pid ≡ next
      → way (low_of other) ≡ true → On w level page → IsBelow (low_of page) (low_of other)
      → left_from w level (low_of page) ≤ cost → Comes next cost (OnWay way above)
  at_clear way above level next cost page other clear is_pid pass on after few = record {
    page = other;
    is_pid = is_pid;
    level = level;
    stands = w.tree.each level other clear.on;
    left = left_from w level (low_of other);
    fewer = (let less = left_less w level page (low_of other) on after in omega (arith, less, few));
    at = record { level = level; stands = w.tree.each level other clear.on; passing = pass; is = inl (clear, omega arith) };
  }

  -- down from a page of a level
  going_down : (way : Key → Bool) → IsWay way → (level next cost : ℕ) (version : Version) → level_in version.chain ≡ level → 0 < level_in version.chain → On w level (live version)
      → left_from w level (low_in version.chain) ≤ cost → StaysLeft way version.chain → LeadsDown way version.chain next → Comes next cost (OnWay way (Some version))
  going_down way is_way zero next cost version is index on few stays leads = absurd (omega (arith, is, index))
  going_down way is_way (suc level) next cost version is index on few stays leads =
      let some = left_more w (suc level) (live version) on in
      from_below way (Some version) level next cost (down w way is_way level next version on stays leads) (omega (arith, some, few))

  pub way_right : (way : Key → Bool) (above then : Option Version) (next cost : ℕ) (version : Version) → OnWay way above (live version) cost
      → is_removed version.chain ≡ false → LeadsRight way version.chain next → Comes next cost (OnWay way then)
  way_right way above then next cost version o alive leads = elim o.is [
    | inl here ↦
        let r = right w way o.level next (live version) here.0.on leads in
        at_clear way then o.level next cost (live version) r.0 (right_clear w way o.level (live version) r.0 here.0 r.2 r.3 r.4) r.1 r.3 here.0.on r.4 here.1
    | inr here ↦ absurd (clash (is_removed version.chain) here.0.gone alive)
  ]

  pub way_down : (way : Key → Bool) → IsWay way → (above : Option Version) (next cost : ℕ) (version : Version) → OnWay way above (live version) cost
      → is_removed version.chain ≡ false → StaysLeft way version.chain → 0 < level_in version.chain
      → LeadsDown way version.chain next → Comes next cost (OnWay way (Some version))
  way_down way is_way above next cost version o alive stays index leads = elim o.is [
    | inl here ↦ going_down way is_way o.level next cost version o.stands.level_is index here.0.on here.1 stays leads
    | inr here ↦ absurd (clash (is_removed version.chain) here.0.gone alive)
  ]

  pub way_round : (way : Key → Bool) → IsWay way → (above : Option Version) (next cost : ℕ) (version over : Version) → OnWay way above (live version) cost
      → is_removed version.chain ≡ true → above ≡ Some over
      → LeadsDown (left_of version) over.chain next → Comes next cost (OnRound way version)
  way_round way is_way above next cost version over o gone is_above leads = elim o.is [
    | inl here ↦ absurd (clash (is_removed version.chain) gone here.0.alive)
    | inr here ↦
        let n = go_round w way is_way o.level next above version over o.stands o.passing here.0 is_above leads in
        record {
          page = n.page;
          is_pid = n.is_pid;
          level = o.level;
          stands = w.tree.each o.level n.page n.near.on;
          left = left_from w o.level (low_of n.page);
          fewer = (let some = left_within w o.level (low_of n.page) in let few = here.1 in omega (arith, some, few));
          at = record { level = o.level; near = n.near; few = omega arith };
        }
  ]

  -- the page above has a term to the left of a removed page
  pub way_found : (way : Key → Bool) (above : Option Version) (cost : ℕ) (version : Version) → OnWay way above (live version) cost → is_removed version.chain ≡ true
      → (over : Version) × (above ≡ Some over) × ¬ HasNoChild (content_in over.chain) (left_of version)
  way_found way above cost version o gone = elim o.is [
    | inl here ↦ absurd (clash (is_removed version.chain) gone here.0.alive)
    | inr here ↦ (
      here.0.over,
      here.0.is_over,
      λ lacks.
          let l = w.tree.left o.level version.pid (live here.0.over) (low_in version.chain) here.0.on here.0.term in
          let off : child_in (content_in here.0.over.chain l.0) ≡ None = lacks.none l.0 l.2.passing in
          let has : child_in (content_in here.0.over.chain l.0) ≡ Some l.1 = ap child_in l.2.has in
          cc,
    )
  ]

  pub round_nearer : (way : Key → Bool) → IsWay way → (next cost : ℕ) (removed : Version) (page : LivePage) → OnRound way removed page cost
      → LeadsRight (left_of removed) page.chain next → Comes next cost (OnRound way removed)
  round_nearer way is_way next cost removed page o leads =
      let n = nearer w way is_way o.level next removed page o.near leads in
      record {
        page = n.0.page;
        is_pid = n.0.is_pid;
        level = o.level;
        stands = w.tree.each o.level n.0.page n.0.near.on;
        left = left_from w o.level (low_of n.0.page);
        fewer = (let less = left_less w o.level page (low_of n.0.page) o.near.on n.1 in let few = o.few in omega (arith, less, few));
        at = record { level = o.level; near = n.0.near; few = omega arith };
      }

  onward_way : (way : Key → Bool) (level next cost : ℕ) (page : LivePage) → On w level page → left_from w level (low_of page) ≤ cost → Onward w way level next page → Comes next cost (OnWay way None)
  onward_way way level next cost page on few r = at_clear way None level next cost page r.other r.clear r.is_pid r.passing on r.after few

  through : (way : Key → Bool) → IsWay way → (level next cost : ℕ) (removed : Version) (page : LivePage) → level_in removed.chain ≡ level
      → 0 < level_in removed.chain → Near w way level (live removed) page
      → left_from w level (low_of page) ≤ cost → right_in page.chain ≡ Some removed.pid → StaysLeft way removed.chain → LeadsDown way removed.chain next → Comes next cost (OnWay way None)
  through way is_way zero next cost removed page is index near few is_right stays leads = absurd (omega (arith, is, index))
  through way is_way (suc level) next cost removed page is index near few is_right stays leads =
      let some = left_more w (suc level) page near.on in
      from_below way None level next cost (through_down w way is_way level next removed page near is_right stays leads) (omega (arith, some, few))

  pub round_through : (way : Key → Bool) → IsWay way → (next cost : ℕ) (removed : Version) (page : LivePage) → OnRound way removed page cost
      → right_in page.chain ≡ Some removed.pid → LeadsOn way removed.chain next → Comes next cost (OnWay way None)
  round_through way is_way next cost removed page o is_right leads = elim leads [
    | inl on ↦ onward_way way o.level next cost page o.near.on o.few (through_right w way o.level next (live removed) page o.near is_right on)
    | inr below ↦ through way is_way o.level next cost removed page o.near.stands.level_is below.1 o.near o.few is_right below.0 below.2
  ]

  pub round_merged_right : (way : Key → Bool) (next cost : ℕ) (removed : Version) (page : LivePage) → OnRound way removed page cost
      → right_in page.chain ≢ Some removed.pid → StaysLeft (left_of removed) page.chain → LeadsRight way page.chain next
      → Comes next cost (OnWay way None)
  round_merged_right way next cost removed page o apart stays leads = onward_way way o.level next cost page o.near.on o.few (merged_right w way o.level next removed page o.near apart stays leads)

  pub round_merged_down : (way : Key → Bool) → IsWay way → (next cost : ℕ) (removed version : Version) → OnRound way removed (live version) cost
      → StaysLeft way version.chain → 0 < level_in version.chain → LeadsDown way version.chain next
      → Comes next cost (OnWay way (Some version))
  round_merged_down way is_way next cost removed version o stays index leads =
      going_down way is_way o.level next cost version (w.tree.each o.level (live version) o.near.on).level_is index o.near.on o.few stays leads
