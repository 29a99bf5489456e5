-- Leaves that tests make, under deletes that change nothing.
use Rattle.structure_changes.proofs.Words.{◌≡◌, ◌≤◌, ◌+◌, ◌++◌, ℕ, length, List, [], ◌∷◌, false, None, refl, ◌∙◌, arith, IsTrue, All-from_recursion, recursion_from_All}
use Rattle.structure_changes.proofs.Words.{is_in_range, Content, Value, Child, Item, Page, IsPage, IsOfLevel, Record, HasPid, IsSpellablePage, covers, high_in, is_removed, level_in, low_in}
use Rattle.structure_changes.proofs.Words.{FitsOver, IsFitted, IsPageChain}
use Rattle.std.specs.List.{AllByRecursion}
use Rattle.base_page.proofs.KeyLaws.{itself}
use Rattle.deltas.specs.declared.record.Record.TheVariants as kind
use Rattle.traces.proofs.FittedLaws.{over, ruled}
use Rattle.traces.proofs.Updated.{delete_fits}
use Rattle.structure_changes.proofs.Places.{made}

pub grow : (newest : Record) (chain : List Record) → FitsOver chain newest → IsFitted chain → IsFitted (newest ∷ chain)
grow newest [] f h = absurd h
grow newest (older ∷ under) f h = (f, h)

one_more : (one : Record) (records : List Record) → length (records ++ one ∷ []) ≡ length records + 1
one_more one [] = refl
one_more one (first ∷ records) = let rest = one_more one records in omega (arith, rest)

values_only : (items : List Item) → AllByRecursion (λ (item : Item). IsOfLevel 0 item.content) items → AllByRecursion (λ (item : Item). HasPid item.content) items
values_only [] h = tt
values_only (item ∷ items) h = (value item.content h.0, values_only items h.1)
  where
    value : (content : Content) → IsOfLevel 0 content → HasPid content
    value (Value v) of = tt
    value (Child child held) of = absurd (omega (arith, of))

pub delete_over : (chain : List Record) (key : List ℕ) → IsPageChain chain → is_removed chain ≡ false → level_in chain ≡ 0 → IsTrue (covers chain key)
    → FitsOver chain (kind.Delete (record { next = 3; key = key }))
delete_over chain key is alive leaf covered =
    let (now, makes) = made chain is.fitted in
    delete_fits chain now (record { next = 3; key = key }) makes (ruled chain now is.fitted makes) (omega arith, omega arith)
    (record { alive = makes.removed ∙ alive; leaf = makes.level ∙ leaf; covered = rw (makes.low, makes.high) covered })

module _ (page : Page) (is_page : IsPage page) (level : page.level ≡ 0) (high : page.high ≡ None) (right : page.right ≡ None) (alive : page.removed ≡ false) where
  stands : IsSpellablePage page
  stands = record {
    ruled = record { is_page = is_page; ends = rw (right, high) refl; top = omega (arith, level); terms = λ index. absurd (omega (arith, level, index)) };
    alive = alive;
    right = rw right tt;
    children = All-from_recursion (λ (item : Item). HasPid item.content) page.items
        (values_only page.items
        (recursion_from_All (λ (item : Item). IsOfLevel 0 item.content) page.items (rw (← level) is_page.kinds)));
  }

  abbrev delete : Record
  delete = kind.Delete (record { next = 3; key = page.low })

  record IsLeaf (chain : List Record) : Type 0 where
    fitted : IsFitted chain
    at : level_in chain ≡ 0
    low : low_in chain ≡ page.low
    end : high_in chain ≡ None
    lives : is_removed chain ≡ false

  lowest : (key : List ℕ) → IsTrue (is_in_range key None key)
  lowest key = rw (itself key) refl

  deletes_fit : (records : List Record) → AllByRecursion (λ (r : Record). r ≡ delete) records → IsLeaf (over records page)
  deletes_fit [] h = record { fitted = (page, refl, stands); at = level; low = refl; end = high; lives = refl }
  deletes_fit (first ∷ records) (is, rest) =
      let under = deletes_fit records rest in
      let chain = over records page in
      let (now, makes) = made chain under.fitted in
      let rules = ruled chain now under.fitted makes in
      let fits = delete_fits chain now (record { next = 3; key = page.low }) makes rules (omega arith, omega arith)
      (record { alive = makes.removed ∙ under.lives; leaf = makes.level ∙ under.at; covered = rw (makes.low ∙ under.low, makes.high ∙ under.end) (lowest page.low) }) in
      rw is (record { fitted = grow delete chain fits under.fitted; at = under.at; low = under.low; end = under.end; lives = under.lives })

  pub page_chain : (records : List Record) → AllByRecursion (λ (r : Record). r ≡ delete) records → length records ≤ 12 → IsPageChain (over records page)
  page_chain records h few = record { fitted = (deletes_fit records h).fitted; short = (let longer = one_more (kind.Base page) records in omega (arith, few, longer)) }

  pub page_lives : (records : List Record) → AllByRecursion (λ (r : Record). r ≡ delete) records → is_removed (over records page) ≡ false
  page_lives records h = (deletes_fit records h).lives
