-- Going down the levels from the root.
use Rattle.std.proofs.Common.{◌≡◌, ◌≤◌, ◌+◌, ℕ, zero, suc, List, [], ◌∷◌, ◌++◌, Option, Some, None, MatchOption, false, refl, sym, subst, ap, ◌∙◌, arith, append_assoc}
use Rattle.std.specs.List.{AllByRecursion}
use Rattle.std.proofs.lemmas.List.Elements.{recursion_from_All}
use Rattle.std.proofs.lemmas.Option.{same_Some}
use Rattle.tree_limits.specs.declared.limits.Limits.{Limits}
use Rattle.base_page.specs.Pages.{IsOfLevel, child_in, content_at}
use Rattle.base_page.specs.declared.item.Content.{Content}
use Rattle.base_page.specs.declared.item.Content.TheVariants.{Child, Value}
use Rattle.deltas.specs.declared.record.Record.{Record}
use Rattle.deltas.specs.Memory.{Memory}
use Rattle.traces.specs.chain.Chains.{IsChainOf, content_in, level_in, low_in}
use Rattle.traces.specs.chain.Fitted.{IsPageChain}
use Rattle.traces.specs.chain.SideChain.{IsSideChainFrom, LivePage}
use Rattle.traces.proofs.FittedLaws.{content_all, page_of, ruled}
use Rattle.tree_picture.specs.Levels.{AreLevels, AreLevelsFrom, first_child, low_child}
use Rattle.tree_law.specs.LevelPages.{HasAllLevels, HasPagesOn, IsPageOn}

-- These are the first levels, as many as counted; level l is next, from this page on, and what stands from there stands under them.
pub record IsDown (limits : Limits) (memory : Memory) (has : HasAllLevels limits memory) (levels : List (List LivePage)) (count pid : ℕ) : Type 0 where
  pub number : ℕ
  pub there : number ≤ has.top
  pub counted : number + count ≡ has.top
  pub first : pid ≡ has.first number
  pub under : (rest : List (List LivePage)) → AreLevelsFrom memory pid rest → AreLevels memory (levels ++ rest)

abbrev pub HasDown : Limits → Memory → List (List LivePage) → ℕ → ℕ → Type 0
HasDown limits memory levels count pid = (has : HasAllLevels limits memory) → IsDown limits memory has levels count pid

pub at_root : (limits : Limits) (memory : Memory) → HasDown limits memory [] 0 (memory.slots 0)
at_root limits memory has = record { number = has.top; there = omega arith; counted = omega arith; first = has.root; under = λ rest are. are }

-- the first page of pages of a level
record IsHead (limits : Limits) (memory : Memory) (number first : ℕ) (pages : List LivePage) : Type 0 where
  pub page : LivePage
  pub later : List LivePage
  pub whole : pages ≡ page ∷ later
  pub stands : IsChainOf memory first page.chain
  pub top : level_in page.chain ≤ 15
  pub level : level_in page.chain ≡ number
  pub fits : IsPageChain page.chain

head_of : (limits : Limits) (memory : Memory) (number first : ℕ) (has : HasPagesOn limits memory number first) → IsHead limits memory number first has.pages
head_of limits memory number first has = go has.pages refl has.side has.each
  where
    go : (pages : List LivePage) → has.pages ≡ pages → IsSideChainFrom memory first pages → AllByRecursion (IsPageOn limits memory number) pages → IsHead limits memory number first has.pages
    go [] whole side each = absurd side
    go (page ∷ later) whole side each =
        let made = page_of page.chain each.0.fits.fitted in
        let rules = ruled page.chain made.0 each.0.fits.fitted made.1 in
        record
        { page = page; later = later; whole = whole; stands = side.1; top = (let top = rules.top in let is = made.1.level in omega (arith, top, is)); level = each.0.level_is; fits = each.0.fits }

abbrev no_levels : List (List LivePage)
no_levels = []

-- a leaf has no child
leaf_has_no_child : (chain : List Record) (child : ℕ) → level_in chain ≡ 0 → IsPageChain chain → low_child chain ≡ Some child → ⊥
leaf_has_no_child chain child leaf fits has =
    let made = page_of chain fits.fitted in
    let rules = ruled chain made.0 fits.fitted made.1 in
    let kinds : AllByRecursion (λ item. IsOfLevel made.0.level item.content) made.0.items = recursion_from_All _ made.0.items rules.is_page.kinds in
    let content : content_at made.0.items (low_in chain) ≡ content_in chain (low_in chain) = made.1.items.contents (low_in chain) in
    of_content (content_in chain (low_in chain)) has (λ at e. content_all (IsOfLevel made.0.level) made.0.items kinds (low_in chain) at (content ∙ e)) (made.1.level ∙ leaf)
  where
    of_content : {level : ℕ} (o : Option Content) → child_in o ≡ Some child → ((at : Content) → o ≡ Some at → IsOfLevel level at) → level ≡ 0 → ⊥
    of_content None e kind leaf_is = cc
    of_content (Some (Value value)) e kind leaf_is = cc
    of_content (Some (Child page held)) e kind leaf_is = let above = kind (Child page held) refl in omega (arith, above, leaf_is)

-- the child of the first page's low key, by what stands there
child_is : (chain : List Record) (child : ℕ) → low_in chain ≡ [] → content_in chain [] ≡ Some (Child child false) → low_child chain ≡ Some child
child_is chain child low content = ap (λ key. child_in (content_in chain key)) low ∙ ap child_in content

module _ (limits : Limits) (memory : Memory) (has : HasAllLevels limits memory) (levels : List (List LivePage)) (count pid : ℕ) (at : IsDown limits memory has levels count pid) where
  abbrev level : HasPagesOn limits memory at.number (has.first at.number)
  level = has.pages at.number at.there

  -- the level that is next stands
  pub stands_next : HasPagesOn limits memory at.number pid
  stands_next = rw (← at.first) at level

  -- there are few levels
  pub is_few : count ≤ 15
  is_few =
      let head = head_of limits memory has.top (has.first has.top) (has.pages has.top (omega arith)) in
      let counted = at.counted in
      omega (arith, head.top, head.level, counted)

  module _ (pages : List LivePage) (is : pages ≡ stands_next.pages) where
    side : IsSideChainFrom memory pid pages
    side = rw (← is) at stands_next.side

    none_under : first_child pages ≡ None → MatchOption (first_child pages) (no_levels ≡ []) (λ child. AreLevelsFrom memory child no_levels)
    none_under none = rw none refl

    -- on the last level the first page has no child
    pub levels_end : first_child pages ≡ None → AreLevels memory (levels ++ pages ∷ [])
    levels_end none = at.under (pages ∷ []) (side, none_under none)

    -- on another one it has the first page of the next level
    pub levels_more : (child : ℕ) → first_child pages ≡ Some child → IsDown limits memory has (levels ++ pages ∷ []) (count + 1) child
    levels_more child some = go at.number refl
      where
        head : IsHead limits memory at.number pid stands_next.pages
        head = head_of limits memory at.number pid stands_next

        first_is : low_child head.page.chain ≡ Some child
        first_is = ap first_child (sym (is ∙ head.whole)) ∙ some

        under : (rest : List (List LivePage)) → AreLevelsFrom memory child rest → AreLevels memory ((levels ++ pages ∷ []) ++ rest)
        under rest are =
            subst (λ ls. AreLevels memory ls) (sym (append_assoc levels (pages ∷ []) rest))
            (at.under (pages ∷ rest) (side, subst (λ o. MatchOption o (rest ≡ []) (λ child. AreLevelsFrom memory child rest)) (sym some) are))

        go : (number : ℕ) → at.number ≡ number → IsDown limits memory has (levels ++ pages ∷ []) (count + 1) child
        go zero e = absurd (leaf_has_no_child head.page.chain child (head.level ∙ e) head.fits first_is)
        go (suc number) e =
            let there : suc number ≤ has.top = subst (λ n. n ≤ has.top) e at.there in
            let stands : IsChainOf memory (has.first (suc number)) head.page.chain = subst (λ n. IsChainOf memory n head.page.chain) (at.first ∙ ap has.first e) head.stands in
            let down = has.down number there head.page.chain stands in
            let same : child ≡ has.first number = same_Some child (has.first number) (sym first_is ∙ child_is head.page.chain (has.first number) down.0 down.1) in
            let counted = at.counted in
            record { number = number; there = omega (arith, there); counted = omega (arith, counted, e); first = same; under = under }
