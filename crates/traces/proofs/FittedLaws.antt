-- What fitted chains have: deltas over one base, and one page that they make, which keeps the rules.
use Rattle.std.proofs.Common.{◌≡◌, ◌<◌, ℕ, zero, suc, List, [], ◌∷◌, ◌++◌, map, length, get_or, drop, Bool, true, false, Option, Some, None, refl, sym, ap, subst, ◌∙◌, arith}
use Rattle.std.specs.Prelude.{is_some, if◌then◌else◌, IfSome, IsTrue, IsSome, MatchOption}
use Rattle.std.specs.List.{All, AllByRecursion}
use Rattle.std.proofs.lemmas.List.Elements.{All-from_recursion, recursion_from_All}
use Rattle.std.proofs.lemmas.Option.{same_Some}
use Rattle.std.specs.List.Sorted.{IsStrictlySortedBy}
use Rattle.std.specs.Ordering.{is_eq, ordering_reverse}
use Rattle.std.specs.declared.cmp.Ordering.TheVariants.{Less, Greater}
use Rattle.std.proofs.lemmas.Cmp.{nat_list_cmp_total, tied_itself}
use Rattle.bw_model.specs.Bytes.{key_cmp}
pub use Rattle.base_page.proofs.KeyLaws.{by_order}
use Rattle.base_page.specs.declared.item.Content.{Content}
use Rattle.base_page.specs.declared.item.Content.TheVariants.{Value, Child}
use Rattle.base_page.specs.declared.item.Item.{Item}
use Rattle.base_page.specs.Pages.{Page, child_in, content_at, IsAscending, IsOfLevel}
use Rattle.base_page.specs.Places.{HasNoChild}
use Rattle.base_page.specs.Rules.{IsFirstAt, IsRuled}
use Rattle.deltas.specs.declared.record.Record.{Record}
use Rattle.deltas.specs.declared.record.Record.TheVariants as kind
use Rattle.deltas.specs.declared.record.Record.TheVariants.{Base}
use Rattle.deltas.specs.Records.{names, content_said, next_row, level_after, low_after, high_after, right_after, removed_after}
use Rattle.deltas.specs.Applies.{Applies}
use Rattle.deltas.specs.Fits.{FitsOnPage}
use Rattle.deltas.specs.Spellable.{HasPid, IsPid, IsSpellable, IsSpellablePage}
use Rattle.traces.specs.chain.Chains.{content_in, level_in, low_in, right_in}
use Rattle.traces.specs.chain.Fitted.{FitsOver, IsFitted, Makes}

-- items

pub found_first : (item : Item) (items : List Item) → content_at (item ∷ items) item.key ≡ Some item.content
found_first item items = rw (tied_itself nat_list_cmp_total item.key) refl

-- what ascending items have at a key below all of theirs
lacks_below : (items : List Item) (q : List ℕ) → AllByRecursion (λ key. key_cmp q key ≡ Less) (map (λ (item : Item). item.key) items) → content_at items q ≡ None
lacks_below [] q h = refl
lacks_below (item ∷ items) q h = rw h.0 (lacks_below items q h.1)

pub all_below : (q key : List ℕ) (keys : List (List ℕ)) → key_cmp q key ≡ Less → AllByRecursion (λ other. key_cmp key other ≡ Less) keys → AllByRecursion (λ other. key_cmp q other ≡ Less) keys
all_below q key [] less h = tt
all_below q key (other ∷ keys) less h = (nat_list_cmp_total.trans q key other less h.0, all_below q key keys less h.1)

pub lacks_first : (item : Item) (items : List Item) (q : List ℕ) → IsAscending (item ∷ items) → key_cmp q item.key ≡ Less → content_at (item ∷ items) q ≡ None
unfolding IsStrictlySortedBy
lacks_first item items q h less = lacks_below (item ∷ items) q (less, all_below q item.key (map (λ (item : Item). item.key) items) less h.0)

pub ascends_after : (item : Item) (items : List Item) → IsAscending (item ∷ items) → IsAscending items
unfolding IsStrictlySortedBy
ascends_after item items h = h.1

-- past the first item, what the others have
past_first : (item : Item) (items : List Item) (q : List ℕ) → IsAscending (item ∷ items) → content_at items q ≡ (if is_eq (key_cmp q item.key) then None else content_at (item ∷ items) q)
unfolding IsStrictlySortedBy
past_first item items q h = by_order q item.key
    (λ less. rw less refl)
    (λ is. rw (is, tied_itself nat_list_cmp_total item.key) (lacks_below items item.key h.0))
    (λ more. let greater : key_cmp q item.key ≡ Greater = nat_list_cmp_total.antisymm q item.key ∙ ap ordering_reverse more in rw greater refl)

-- ascending items with the same contents are the same
pub items_unique : (xs ys : List Item) → IsAscending xs → IsAscending ys → ((key : List ℕ) → content_at xs key ≡ content_at ys key) → xs ≡ ys
items_unique [] [] a b h = refl
items_unique [] (y ∷ ys) a b h = let clash : None ≡ Some y.content = h y.key ∙ found_first y ys in cc
items_unique (x ∷ xs) [] a b h = let clash : Some x.content ≡ None = sym (found_first x xs) ∙ h x.key in cc
items_unique (x ∷ xs) (y ∷ ys) a b h = by_order x.key y.key
    (λ less. let clash : Some x.content ≡ None = sym (found_first x xs) ∙ h x.key ∙ lacks_first y ys x.key b less in cc)
    (λ same.
    let contents : Some x.content ≡ Some y.content = sym (found_first x xs) ∙ h x.key ∙ ap (content_at (y ∷ ys)) same ∙ found_first y ys in
    let content : x.content ≡ y.content = cc in
    let first : x ≡ y = (λ i. record { key = same i; content = content i }) in
    let rest : xs ≡ ys = items_unique xs ys (ascends_after x xs a) (ascends_after y ys b) (λ key.
    past_first x xs key a
    ∙ ap (λ r. if is_eq (key_cmp key x.key) then None else r) (h key)
    ∙ ap (λ k. if is_eq (key_cmp key k) then None else content_at (y ∷ ys) key) same
    ∙ sym (past_first y ys key b)) in
    cc)
    (λ more. let clash : Some y.content ≡ None = sym (found_first y ys) ∙ sym (h y.key) ∙ lacks_first x xs y.key a more in cc)

-- pages

-- a chain makes one page
pub Makes-unique : (chain : List Record) (one two : Page) → Makes chain one → Makes chain two → one ≡ two
Makes-unique chain one two a b =
    let level : one.level ≡ two.level = a.level ∙ sym b.level in
    let low : one.low ≡ two.low = a.low ∙ sym b.low in
    let high : one.high ≡ two.high = a.high ∙ sym b.high in
    let right : one.right ≡ two.right = a.right ∙ sym b.right in
    let removed : one.removed ≡ two.removed = a.removed ∙ sym b.removed in
    let items : one.items ≡ two.items = items_unique one.items two.items a.items.ascending b.items.ascending (λ key. a.items.contents key ∙ sym (b.items.contents key)) in
    λ i. record { level = level i; low = low i; high = high i; right = right i; removed = removed i; items = items i }

pub Makes-base : (page : Page) → IsAscending page.items → page.removed ≡ false → Makes (Base page ∷ []) page
Makes-base page ascending alive = record {
  items = record { ascending = ascending; contents = λ key. refl };
  level = refl;
  low = refl;
  high = refl;
  right = refl;
  removed = alive;
}

-- what a record makes of the page that a chain makes
pub Makes-next : (under : List Record) (newest : Record) (page made : Page) → Makes under page → Applies page newest made → Makes (newest ∷ under) made
Makes-next under newest page made m a = record {
  items = record {
    ascending = a.ascending;
    contents = λ key. a.contents key ∙ ap (λ r. if names newest key then content_said newest key else r) (m.items.contents key);
  };
  level = a.level ∙ ap (level_after newest) m.level;
  low = a.low ∙ ap (low_after newest) m.low;
  high = a.high ∙ ap (high_after newest) m.high;
  right = a.right ∙ ap (right_after newest) m.right;
  removed = a.removed ∙ ap (removed_after newest) m.removed;
}

-- a delta that fits the page made under it, and makes of it one that keeps the rules
pub fits_over : (under : List Record) (newest : Record) (page made : Page) → is_some (next_row newest) ≡ true → IsSpellable newest
    → Makes under page → FitsOnPage page newest → Applies page newest made → IsRuled made → FitsOver under newest
fits_over under newest page made delta spellable makes fit applies ruled = record {
  delta = delta;
  spellable = spellable;
  page = page;
  makes = makes;
  fits = fit;
  made = made;
  makes_now = Makes-next under newest page made makes applies;
  ruled = ruled;
}

-- the delta fits each page that is made under it
pub fits : (under : List Record) (newest : Record) (page : Page) → FitsOver under newest → Makes under page → FitsOnPage page newest
fits under newest page f m = rw (Makes-unique under f.page page f.makes m) at f.fits

-- the page that a fitted chain makes keeps the rules
pub ruled : (chain : List Record) (page : Page) → IsFitted chain → Makes chain page → IsRuled page
ruled [] page h m = absurd h
ruled (newest ∷ []) page (base, is, stands) m =
    let makes : Makes (newest ∷ []) base = rw (← is) at (Makes-base base stands.ruled.is_page.ordered.ascending stands.alive) in
    subst IsRuled (Makes-unique (newest ∷ []) base page makes m) stands.ruled
ruled (newest ∷ older ∷ under) page (over, rest) m = subst IsRuled (Makes-unique (newest ∷ older ∷ under) over.made page over.makes_now m) over.ruled

-- the pages that a fitted chain names

pub content_all : (P : Content → Type 0) (items : List Item) → AllByRecursion (λ item. P item.content) items → (key : List ℕ) (content : Content) → content_at items key ≡ Some content → P content
content_all P [] all key content e = cc
content_all P (item ∷ items) all key content e = by_test (is_eq (key_cmp key item.key)) e (content_all P items all.1 key content)
  where
    by_test : (b : Bool) → (if b then Some item.content else content_at items key) ≡ Some content → (content_at items key ≡ Some content → P content) → P content
    by_test true here more = subst P (same_Some _ _ here) all.0
    by_test false later more = more later

-- what all contents are, each item's is
pub all_contents : (P : Content → Type 0) (items : List Item) → IsAscending items
    → ((key : List ℕ) (content : Content) → content_at items key ≡ Some content → P content) → AllByRecursion (λ item. P item.content) items
all_contents P [] ascending each = tt
all_contents P (item ∷ items) ascending each = (each item.key item.content (found_first item items), all_contents P items (ascends_after item items ascending) rest)
  where
    rest : (key : List ℕ) (content : Content) → content_at items key ≡ Some content → P content
    rest key content e = by_test (is_eq (key_cmp key item.key)) refl (sym (past_first item items key ascending) ∙ e)
      where
        by_test : (b : Bool) → is_eq (key_cmp key item.key) ≡ b → (if b then None else content_at (item ∷ items) key) ≡ Some content → P content
        by_test true is none = cc
        by_test false is there = each key content there

abbrev AllPids : List Item → Type 0
AllPids items = AllByRecursion (λ item. HasPid item.content) items

pids_in : (page : Page) → IsSpellablePage page → AllPids page.items
pids_in page stands = recursion_from_All (λ (item : Item). HasPid item.content) page.items stands.children

said_pid : (newest : Record) → IsSpellable newest → (key : List ℕ) (content : Content) → content_said newest key ≡ Some content → HasPid content
said_pid (kind.Base page) h key content e = content_all HasPid page.items (pids_in page h) key content e
said_pid (kind.Put put) h key content e = subst HasPid (same_Some _ _ e) tt
said_pid (kind.Term term) h key content e = subst HasPid (same_Some _ _ e) h.1.names
said_pid (kind.Hold hold) h key content e = subst HasPid (same_Some _ _ e) h.1.names
said_pid (kind.Merge merge) h key content e = content_all HasPid merge.items (pids_in _ h.3) key content e
said_pid other h key content e = cc

right_pid : (newest : Record) → IsSpellable newest → (under : Option ℕ) → IfSome under IsPid → IfSome (right_after newest under) IsPid
right_pid (kind.Base page) h under is = h.right
right_pid (kind.Split split) h under is = h.names
right_pid (kind.Merge merge) h under is = h.3.right
right_pid other h under is = is

-- each record of a fitted chain is one that a row can spell
pub first_spellable : (newest : Record) (under : List Record) → IsFitted (newest ∷ under) → IsSpellable newest
first_spellable newest [] (page, is, stands) = subst IsSpellable (sym is) stands
first_spellable newest (older ∷ under) h = h.0.spellable

said_or : (newest : Record) (under : List Record) → IsSpellable newest → (key : List ℕ) (content : Content)
    → (content_in under key ≡ Some content → HasPid content) → content_in (newest ∷ under) key ≡ Some content → HasPid content
said_or newest under h key content below e = by_name (names newest key) e
  where
    by_name : (b : Bool) → (if b then content_said newest key else content_in under key) ≡ Some content → HasPid content
    by_name true said = said_pid newest h key content said
    by_name false there = below there

-- the children and the right that a fitted chain decides are pages
pub children_of : (chain : List Record) → IsFitted chain → (key : List ℕ) (content : Content) → content_in chain key ≡ Some content → HasPid content
children_of [] h key content e = absurd h
children_of (newest ∷ []) h key content e = said_or newest [] (first_spellable newest [] h) key content (λ there. cc) e
children_of (newest ∷ older ∷ under) h key content e = said_or newest (older ∷ under) h.0.spellable key content (children_of (older ∷ under) h.1 key content) e

pub right_of : (chain : List Record) → IsFitted chain → IfSome (right_in chain) IsPid
right_of [] h = absurd h
right_of (newest ∷ []) h = right_pid newest (first_spellable newest [] h) None tt
right_of (newest ∷ older ∷ under) h = right_pid newest h.0.spellable (right_in (older ∷ under)) (right_of (older ∷ under) h.1)

-- so are those of the page that it makes
pub made_right : (chain : List Record) (page : Page) → IsFitted chain → Makes chain page → IfSome page.right IsPid
made_right chain page h m = rw (← m.right) at (right_of chain h)

pub made_children : (chain : List Record) (page : Page) → IsFitted chain → Makes chain page → All (λ item. HasPid item.content) page.items
made_children chain page h m = All-from_recursion (λ (item : Item). HasPid item.content) page.items
    (all_contents HasPid page.items m.items.ascending (λ key content e. children_of chain h key content (sym (m.items.contents key) ∙ e)))

-- the page that a fitted chain makes may stand as a base, unless it is removed
pub stands : (chain : List Record) (page : Page) → IsFitted chain → Makes chain page → page.removed ≡ false → IsSpellablePage page
stands chain page h m alive = record { ruled = ruled chain page h m; alive = alive; right = made_right chain page h m; children = made_children chain page h m }

-- deltas over a base

abbrev pub over : List Record → Page → List Record
over deltas base = deltas ++ Base base ∷ []

pub first_fits : (newest : Record) (under : List Record) (base : Page) → IsFitted (over (newest ∷ under) base) → FitsOver (over under base) newest × IsFitted (over under base)
first_fits newest [] base h = h
first_fits newest (older ∷ under) base h = h

pub fits_at : (deltas : List Record) (base : Page) (i : ℕ) (d : Record) → IsFitted (over deltas base) → i < length deltas → FitsOver (over (drop (suc i) deltas) base) (get_or deltas i d)
fits_at [] base i d h lt = absurd (omega (arith, lt))
fits_at (newest ∷ under) base zero d h lt = (first_fits newest under base h).0
fits_at (newest ∷ under) base (suc i) d h lt = fits_at under base i d (first_fits newest under base h).1 (omega arith)

pub base_stands : (deltas : List Record) (base : Page) → IsFitted (over deltas base) → IsSpellablePage base
base_stands [] base h = first_spellable (Base base) [] h
base_stands (newest ∷ under) base h = base_stands under base (first_fits newest under base h).1

-- terms

first_child : (items : List Item) (level : ℕ) (low : List ℕ) → IsFirstAt low items → All (λ item. IsOfLevel level item.content) items → 0 < level
    → (child : ℕ) × (held : Bool) × (content_at items low ≡ Some (Child child held))
first_child [] level low first kinds index = absurd first
first_child (item ∷ items) level low first kinds index = by_kind item.content refl (recursion_from_All (λ (each : Item). IsOfLevel level each.content) (item ∷ items) kinds).0
  where
    at_low : content_at (item ∷ items) low ≡ Some item.content
    at_low = rw (← first.0) (found_first item items)

    by_kind : (content : Content) → item.content ≡ content → IsOfLevel level item.content → (child : ℕ) × (held : Bool) × (content_at (item ∷ items) low ≡ Some (Child child held))
    by_kind (Value value) is kind = let leaf : level ≡ 0 = subst (IsOfLevel level) is kind in absurd (omega (arith, index, leaf))
    by_kind (Child child held) is kind = (child, held, at_low ∙ ap Some is)

-- the page that a fitted chain makes
pub page_of : (chain : List Record) → IsFitted chain → (page : Page) × Makes chain page
page_of [] h = absurd h
page_of (newest ∷ []) (base, is, stands) = (base, rw (← is) at (Makes-base base stands.ruled.is_page.ordered.ascending stands.alive))
page_of (newest ∷ older ∷ under) (over, rest) = (over.made, over.makes_now)

-- an index page has a child wherever its low key passes
pub has_child : (chain : List Record) (passes : List ℕ → Bool) → IsFitted chain → 0 < level_in chain → IsTrue (passes (low_in chain))
    → (Q : ℕ → Type 0) (found : Option ℕ) → MatchOption found (HasNoChild (content_in chain) passes) Q → IsSome found
has_child chain passes fitted index passing Q (Some child) h = refl
has_child chain passes fitted index passing Q None h =
    let made = page_of chain fitted in
    let rules = ruled chain made.0 fitted made.1 in
    let is_index : 0 < made.0.level = rw made.1.level index in
    let first = first_child made.0.items made.0.level made.0.low (rules.terms is_index).first rules.is_page.kinds is_index in
    let none : child_in (content_in chain made.0.low) ≡ None = h.none made.0.low (rw made.1.low passing) in
    let clash : None ≡ Some first.0 = sym none ∙ ap child_in (sym (made.1.items.contents made.0.low) ∙ first.2) in
    absurd cc
