use Rattle.std.proofs.Common.{◌≡◌, ◌<◌, ◌+◌, ◌++◌, ◌∷◌, [], ℕ, List, take, get_or, length, ap, sym, subst, ◌∙◌, arith}
use Rattle.std.proofs.lemmas.List.{take_all, take_more}
use Rattle.row_search.proofs.Words.{Item, IsSpellable, Record, Base, items_of}
use Rattle.base_page.specs.Pages.{Page, IsPage}
use Rattle.base_page.proofs.CutLaws.{IsPage-take}
use Rattle.row_search.proofs.ChangeLaws.{base_of}
use Rattle.row_search.proofs.row_at.RowAt.fill.Goals as goal

-- one more item
more : (items before : List Item) (place : ℕ) (item : Item) → before ≡ take place items → place < length items → ((d : Item) → item ≡ get_or items place d)
    → before ++ item ∷ [] ≡ take (place + 1) items
more items before place item e within is = (λ i. e i ++ is item i ∷ []) ∙ sym (take_more items place item within)

-- the same of a page
grown : (is page : Page) (content : Record) (place : ℕ) (item : Item) → content ≡ Base is → page ≡ record is { items = take place is.items } → place < length (items_of content)
    → ((d : Item) → item ≡ get_or (items_of content) place d) → record page { items = page.items ++ item ∷ [] } ≡ record is { items = take (place + 1) is.items }
grown is page content place item e before within here =
    let same : items_of content ≡ is.items = ap items_of e in
    let there : (d : Item) → item ≡ get_or is.items place d = λ d. here d ∙ ap (λ (items : List Item). get_or items place d) same in
    let one = more is.items page.items place item (ap (λ (p : Page). p.items) before) (rw (← same) within) there in
    λ i. record (before i) { items = one i }

pub push-requires : goal.push-requires
push-requires g c =
    let content = c.args.self.now.content in
    let base = base_of content c.requires.base in
    let is : IsPage base.0 = (subst IsSpellable base.1 c.keeps_spelling.ensures.spellable).ruled.is_page in
    let within : c.loop-place.place < length (items_of content) = let n = c.item_count-place-end.ensures.count in omega (arith, n, c.loop-place-test.true) in
    rw (grown base.0 c.loop-place.page content c.loop-place.place c.item.result base.1 (c.loop-place.invariant.read base.0 base.1) within c.item.ensures.item)
    (IsPage-take base.0 is (c.loop-place.place + 1))

pub loop-place-preserved : goal.loop-place-preserved
loop-place-preserved g c =
    let content = c.args.self.now.content in
    let within : c.loop-place.place < length (items_of content) = let n = c.item_count-place-end.ensures.count in omega (arith, n, c.loop-place-test.true) in
    record {
      same = c.item.ensures.same ∙ c.loop-place.invariant.same;
      read = λ is e. c.push.ensures ∙ grown is c.loop-place.page content c.loop-place.place c.item.result e (c.loop-place.invariant.read is e) within c.item.ensures.item;
    }

pub returns-clause-page : goal.returns-clause-page
returns-clause-page g c =
    let content = c.args.self.now.content in
    let base = base_of content c.requires.base in
    let is = c.loop-place.invariant.read base.0 base.1 in
    let same : items_of content ≡ base.0.items = ap items_of base.1 in
    let all : take c.loop-place.place base.0.items ≡ base.0.items = take_all c.loop-place.place base.0.items
    (let n = c.item_count-place-end.ensures.count in let m : length (items_of content) ≡ length base.0.items = ap length same in omega (arith, n, m, c.loop-place-test.false)) in
    ap Base (is ∙ (λ i. record base.0 { items = all i })) ∙ sym base.1
