use Rattle.std.proofs.Common.{◌≡◌, ◌++◌, List, ap, subst, sym, ◌∙◌}
use Rattle.base_page.specs.declared.item.Item.{Item}
use Rattle.base_page.specs.Pages.{Page, IsPage, AreItems, content_at}
use Rattle.base_page.proofs.CutLaws.{AreItems-joined, IsPage-joined, content_at-joined}
use Rattle.base_page.proofs.page.Page.join.Goals as goal
use Rattle.base_page.proofs.page.Page.join.Goals.{in-None, in-Some}

appended : (page next : Page) (front back new : List Item) → new ≡ front ++ back → front ≡ page.items → back ≡ next.items → new ≡ page.items ++ next.items
appended page next front back new h f b = h ∙ (λ i. f i ++ b i)

pub append-requires : goal.append-requires
append-requires c =
    let is = subst IsPage c.self.view_is c.self.invariant in
    let is_next = subst IsPage c.neighbour.view_is c.neighbour.invariant in
    let are = AreItems-joined c.args.self.now c.args.neighbour.now is is_next c.requires.meets c.requires.room in
    subst (λ (page : Page). AreItems (page.items ++ c.neighbour.inside.items)) (sym c.self.view_is)
    (subst (λ (next : Page). AreItems (c.args.self.now.items ++ next.items)) (sym c.neighbour.view_is) are)

pub invariant_of-self : goal.invariant_of-self
invariant_of-self c =
    let is = subst IsPage c.self.view_is c.self.invariant in
    let is_next = subst IsPage c.neighbour.view_is c.neighbour.invariant in
    let high : c.match-neighbour.self ≡ c.neighbour.inside.high = elim c.match-neighbour.branch [ in-None w ↦ cc | in-Some w ↦ cc ] in
    let joined = IsPage-joined c.args.self.now c.args.neighbour.now is is_next c.requires.meets c.neighbour.inside.right c.requires.level c.requires.room in
    let high_is : c.args.neighbour.now.high ≡ c.match-neighbour.self = sym (high ∙ ap (λ (next : Page). next.high) c.neighbour.view_is) in
    let items_is : c.args.self.now.items ++ c.args.neighbour.now.items ≡ c.append.new.self = sym (appended c.args.self.now c.args.neighbour.now
    c.self.inside.items c.neighbour.inside.items c.append.new.self c.append.ensures.items (ap (λ (page : Page). page.items) c.self.view_is)
    (ap (λ (next : Page). next.items) c.neighbour.view_is)) in
    let page_is : c.args.self.now ≡ record {
      level = c.self.inside.level;
      low = c.self.inside.low;
      high = c.self.inside.high;
      right = c.self.inside.right;
      removed = c.self.inside.removed;
      items = c.self.inside.items;
    } = sym
    c.self.view_is in
    subst IsPage (λ i. record { level = (page_is i).level; low = (page_is i).low; high = high_is i; right = c.neighbour.inside.right; removed = (page_is i).removed; items = items_is i }) joined

pub returns-clause-page : goal.returns-clause-page
returns-clause-page c = invariant_of-self c

pub returns-clause-contents : goal.returns-clause-contents
returns-clause-contents c q =
    let is = subst IsPage c.self.view_is c.self.invariant in
    let is_next = subst IsPage c.neighbour.view_is c.neighbour.invariant in
    ap (λ (xs : List Item). content_at xs q) (appended c.args.self.now c.args.neighbour.now c.self.inside.items c.neighbour.inside.items c.append.new.self
    c.append.ensures.items (ap (λ (page : Page). page.items) c.self.view_is) (ap (λ (next : Page). next.items) c.neighbour.view_is))
    ∙ content_at-joined c.args.self.now c.args.neighbour.now is is_next c.requires.meets q
