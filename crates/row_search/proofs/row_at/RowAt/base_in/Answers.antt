use Rattle.std.proofs.Common.{◌≡◌, ℕ, [], None, Option, List, IsTrue, sym, ap, subst, ◌∙◌}
use Rattle.std.specs.Prelude.{false}
use Rattle.row_search.proofs.Words.{is_under, Page, right_after, IsSpellable, Record, Base, row_of}
use Rattle.row_search.proofs.ChangeLaws.{base_of}
use Rattle.row_search.proofs.row_at.RowAt.base_in.Goals as goal

-- the page of a base by its parts, but for its items
parts : (content : Record) (page : Page) → content ≡ Base page → IsSpellable content → (level : ℕ) (low : List ℕ) (high : Option (List ℕ)) (right : Option ℕ)
    → level ≡ (row_of content).level → low ≡ (row_of content).first → high ≡ (row_of content).second → right ≡ right_after content None
    → record { level = level; low = low; high = high; right = right; removed = false; items = [] } ≡ record page { items = [] }
parts content page e spelt level low high right l w h r =
    let alive : page.removed ≡ false = (subst IsSpellable e spelt).alive in
    λ i. record {
      level = (l ∙ ap (λ (one : Record). (row_of one).level) e) i;
      low = (w ∙ ap (λ (one : Record). (row_of one).first) e) i;
      high = (h ∙ ap (λ (one : Record). (row_of one).second) e) i;
      right = (r ∙ ap (λ (one : Record). right_after one None) e) i;
      removed = sym alive i;
      items = [];
    }

pub restart-requires : goal.restart-requires
restart-requires g c =
    let content = c.args.self.now.content in
    let base = base_of content c.requires.base in
    let spans : IsTrue (is_under base.0.low base.0.high) = (subst IsSpellable base.1 c.keeps_spelling.ensures.spellable).ruled.is_page.spans in
    let low : c.first-low.result ≡ base.0.low = c.first-low.ensures.first ∙ ap (λ (one : Record). (row_of one).first) base.1 in
    let high : c.second-high.result ≡ base.0.high = c.second-high.ensures.second ∙ ap (λ (one : Record). (row_of one).second) base.1 in
    subst (λ (z : List ℕ × Option (List ℕ)). IsTrue (is_under z.0 z.1)) (λ i. (sym low i, sym high i)) spans

pub fill-requires-clause-empty : goal.fill-requires-clause-empty
fill-requires-clause-empty g c is e =
    c.restart.ensures ∙ parts c.args.self.now.content is e c.keeps_spelling.ensures.spellable c.level.result c.first-low.result c.second-high.result
    c.right-right.result c.level.ensures c.first-low.ensures.first c.second-high.ensures.second c.right-right.ensures.right
