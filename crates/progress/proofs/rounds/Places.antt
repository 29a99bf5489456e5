-- Pages to which a round may come that began in an earlier memory, and how many are left to it: each twice at most.
use Rattle.progress.proofs.Words.{◌≡◌, ◌<◌, ◌≤◌, ◌+◌, ◌*◌, ◌⊎◌, ℕ, suc, Bool, true, Some, None, inl, inr, arith, Child, either, IsChainOf, content_in, is_removed, level_in, LivePage, Version}
use Rattle.progress.proofs.Words.{Leg, Down, Round, Past, IsPlain, above_of, below, level_on, IsBelow, Key, IsPageOn, KeepsItsPlace, IsLegIn, IsPlace, NamesPlaces}
use Rattle.progress.proofs.rounds.Measures.{left_few, left_from, left_less, left_more, left_within, under_all, under_few}
use Rattle.progress.proofs.rounds.Tops.{top_of}
use Rattle.progress.proofs.rounds.Pages.{On, Standing, chain_on, low_of, same_pid}

module _ (w : Standing) where
  level_few : (page : LivePage) (level : ℕ) → IsPageOn w.limits w.memory level page → level ≤ 15
  level_few page level stands = let top = top_of page.chain stands.fits.fitted in let is = stands.level_is in omega (arith, top, is)

  -- How many pages are left from a page of a level on: before the round has gone round a page of the level, and after that.
  abbrev pub first : ℕ → Key → ℕ
  first level low = left_from w level low + under_all w (suc level)

  abbrev pub second : ℕ → Key → ℕ
  second level low = left_from w level low + under_all w level

  -- that many are left at most, by the leg
  abbrev pub Few : Leg → ℕ → LivePage → ℕ → Type 0
  Few (Down None) level page cost = second level (low_of page) ≤ cost
  Few (Down (Some above)) level page cost = first level (low_of page) ≤ cost
  Few (Round removed) level page cost = On w (level_in removed.chain) page → second (level_in removed.chain) (low_of page) ≤ cost
  Few (Past None) level page cost = second level (low_of page) ≤ cost
  Few (Past (Some above)) level page cost = first level (low_of page) ≤ cost

  -- more than ever are left
  abbrev pub most : ℕ
  most = 2 * w.limits.pids + 31

  pub few_first : (level : ℕ) (low : Key) → level ≤ 15 → first level low ≤ most
  few_first level low top =
      let few = left_few w level low in
      let all = under_few w (suc level) in
      omega (arith, few, all, top)

  pub few_second : (level : ℕ) (low : Key) → level ≤ 15 → second level low ≤ most
  few_second level low top =
      let few = left_few w level low in
      let all = under_few w level in
      omega (arith, few, all, top)

  pub few_any : (leg : Leg) (level : ℕ) (page : LivePage) → IsPageOn w.limits w.memory level page → Few leg level page most
  few_any (Down None) level page stands = few_second level (low_of page) (level_few page level stands)
  few_any (Down (Some above)) level page stands = few_first level (low_of page) (level_few page level stands)
  few_any (Round removed) level page stands = λ on. few_second (level_in removed.chain) (low_of page) (level_few page (level_in removed.chain) (w.tree.each (level_in removed.chain) page on))
  few_any (Past None) level page stands = few_second level (low_of page) (level_few page level stands)
  few_any (Past (Some above)) level page stands = few_first level (low_of page) (level_few page level stands)

  -- a page of a plain leg has more left than those below it
  pub below_plain : (leg : Leg) (level : ℕ) (page : LivePage) (cost : ℕ) → IsPlain leg → On w level page → Few leg level page cost → under_all w level + under_all w level < cost
  below_plain (Down None) level page cost plain on few = let more = left_more w level page on in omega (arith, few, more)
  below_plain (Down (Some above)) level page cost plain on few = let more = left_more w level page on in let up = left_within w level (low_of page) in omega (arith, few, more, up)
  below_plain (Round removed) level page cost plain on few = absurd plain
  below_plain (Past None) level page cost plain on few = let more = left_more w level page on in omega (arith, few, more)
  below_plain (Past (Some above)) level page cost plain on few = let more = left_more w level page on in let up = left_within w level (low_of page) in omega (arith, few, more, up)

  -- to the right fewer are left
  pub right_plain : (leg : Leg) (level : ℕ) (page other : LivePage) (cost : ℕ) → IsPlain leg → On w level page → IsBelow (low_of page) (low_of other)
      → Few leg level page cost → (left : ℕ) × (left < cost) × Few leg level other left
  right_plain (Down None) level page other cost plain on after few = let less = left_less w level page (low_of other) on after in (second level (low_of other), omega (arith, few, less), omega arith)
  right_plain (Down (Some above)) level page other cost plain on after few =
      let less = left_less w level page (low_of other) on after in
      (first level (low_of other), omega (arith, few, less), omega arith)
  right_plain (Round removed) level page other cost plain on after few = absurd plain
  right_plain (Past None) level page other cost plain on after few = let less = left_less w level page (low_of other) on after in (second level (low_of other), omega (arith, few, less), omega arith)
  right_plain (Past (Some above)) level page other cost plain on after few =
      let less = left_less w level page (low_of other) on after in
      (first level (low_of other), omega (arith, few, less), omega arith)

  -- it keeps no page above from there on
  pub right_level : (leg : Leg) (level : ℕ) (page other : LivePage) (cost : ℕ) → IsPlain leg → On w level page → IsBelow (low_of page) (low_of other)
      → Few leg level page cost → (second level (low_of other) < cost) × ((left : ℕ) → second level (low_of other) ≤ left → Few (level_on leg) level other left)
  right_level (Down None) level page other cost plain on after few = let less = left_less w level page (low_of other) on after in (omega (arith, few, less), λ left le. le)
  right_level (Down (Some above)) level page other cost plain on after few =
      let less = left_less w level page (low_of other) on after in
      let up = left_within w level (low_of page) in
      let more = left_more w level page on in
      (omega (arith, few, less, up, more), λ left le. le)
  right_level (Round removed) level page other cost plain on after few = absurd plain
  right_level (Past None) level page other cost plain on after few = let less = left_less w level page (low_of other) on after in (omega (arith, few, less), λ left le. le)
  right_level (Past (Some above)) level page other cost plain on after few =
      let less = left_less w level page (low_of other) on after in
      let up = left_within w level (low_of page) in
      let more = left_more w level page on in
      (omega (arith, few, less, up, more), λ left le. le)

  pub few_below : (leg : Leg) (version : Version) (level : ℕ) (page : LivePage) (left : ℕ) → IsPlain leg → first level (low_of page) ≤ left → Few (below version leg) level page left
  few_below (Down above) version level page left plain le = le
  few_below (Round removed) version level page left plain le = absurd plain
  few_below (Past above) version level page left plain le = le

  pub leg_below : (leg : Leg) (version : Version) → IsPlain leg → NamesPlaces w.tree version.chain → IsLegIn w.tree (below version leg)
  leg_below (Down above) version plain names = names
  leg_below (Round removed) version plain names = absurd plain
  leg_below (Past above) version plain names = names

  pub leg_level : (leg : Leg) → IsPlain leg → IsLegIn w.tree (level_on leg)
  leg_level (Down above) plain = tt
  leg_level (Round removed) plain = absurd plain
  leg_level (Past above) plain = tt

  -- below the page above as many are left as before one goes round
  pub few_above : (leg : Leg) (over : Version) (level : ℕ) (page : LivePage) (cost : ℕ) → above_of leg ≡ Some over → Few leg level page cost → first level (low_of page) ≤ cost
  few_above (Down (Some above)) over level page cost e few = few
  few_above (Past (Some above)) over level page cost e few = few
  few_above other over level page cost e few = absurd (cc)

  pub names_above : (leg : Leg) (over : Version) → above_of leg ≡ Some over → IsLegIn w.tree leg → NamesPlaces w.tree over.chain
  names_above (Down (Some above)) over e names = let same : above ≡ over = cc in rw (← same) names
  names_above (Past (Some above)) over e names = let same : above ≡ over = cc in rw (← same) names
  names_above other over e names = absurd (cc)

  -- a page of a level is a place
  pub on_place : (level : ℕ) (page : LivePage) (pid : ℕ) → On w level page → page.pid ≡ pid → IsPlace w.tree pid
  on_place level page pid on e = inr (page, e, record { level = level; stands = w.tree.each level page on; is = inr on })

  -- a removed page that stands is kept
  pub kept_here : (page : LivePage) → IsChainOf w.memory page.pid page.chain → KeepsItsPlace w.tree page
  kept_here page stands level other on is_right =
      let r = w.tree.right level other page.pid on is_right in
      rw (← same_pid w r.0 page (chain_on w level r.0 r.1) stands r.2) r.1

  -- what a term of a page of a level names
  pub child_of : (level next : ℕ) (above : LivePage) (key : Key) (held : Bool) → On w (suc level) above → content_in above.chain key ≡ Some (Child next held)
      → (page : LivePage) × (page.pid ≡ next) × IsPageOn w.limits w.memory level page × ((is_removed page.chain ≡ true) ⊎ On w level page)
  child_of level next above key held on has =
      let c = w.tree.child level next above key held on has in
      (c.1.0, c.1.1, c.1.2.is_page, either (is_removed c.1.0.chain) (λ gone. inl gone) (λ alive. inr (c.1.2.among alive)))

  pub names_here : (level : ℕ) (page : LivePage) → On w (suc level) page → NamesPlaces w.tree page.chain
  names_here level page on = record {
    right = λ next is_right. let r = w.tree.right (suc level) page next on is_right in on_place (suc level) r.0 next r.1 r.2;
    child = λ key next held has. let c = child_of level next page key held on has in inr (c.0, c.1, record { level = level; stands = c.2; is = c.3 });
  }
