-- Which pages the records of a chain name, and how many pages there are.
use Rattle.round_model.proofs.Words.{◌≡◌, ◌<◌, ◌≤◌, ◌++◌, ◌==◌, ◌||◌, inl, inr, ◌⊎◌, ℕ, suc, List, [], ◌∷◌, length, Bool, true, false, Option, Some, refl, sym, arith, if◌then◌else◌}
use Rattle.round_model.proofs.Words.{eqb_tells, same_Some, Limits, Child, Record, IsFront, content_in, is_removed, right_in, AnyNames, IsUnread, is_removal, NamesAt}
use Rattle.std.specs.List.{AllByRecursion, IsDistinct, list_any}
use Rattle.std.specs.Ordering.{is_eq}
use Rattle.std.proofs.lemmas.Map.Steps.{length-le_from_distinct_below}
use Rattle.bw_model.specs.Bytes.{key_cmp}
use Rattle.base_page.specs.declared.item.Item.{Item}
use Rattle.base_page.specs.Pages.{content_at}
use Rattle.deltas.specs.declared.record.Record.TheVariants as kind
use Rattle.deltas.specs.NamedPages.{HasChild, NamesPage}
use Rattle.deltas.specs.Records.{names, content_said}
use Rattle.round_model.specs.Walks.{AreDistinct}

child_among : (items : List Item) (key : List ℕ) (page : ℕ) (held : Bool) → content_at items key ≡ Some (Child page held) → HasChild items page
child_among [] key page held is = cc
child_among (item ∷ items) key page held is = by_test (is_eq (key_cmp key item.key)) (child_among items key page held) is
  where
    by_test : (b : Bool) → (content_at items key ≡ Some (Child page held) → HasChild items page)
        → (if b then Some item.content else content_at items key) ≡ Some (Child page held) → HasChild (item ∷ items) page
    by_test true rest here = (0, item, omega arith, refl, (held, same_Some _ _ here))
    by_test false rest there = let found = rest there in (suc found.0, found.1, omega (arith, found.2), found.3, found.4)

said : (newest : Record) (key : List ℕ) (page : ℕ) (held : Bool) → content_said newest key ≡ Some (Child page held) → NamesPage newest page
said (kind.Base base) key page held is = inr (child_among base.items key page held is)
said (kind.Merge merge) key page held is = inr (child_among merge.items key page held is)
said other key page held is = cc

child_meets : (chain : List Record) (key : List ℕ) (page : ℕ) (held : Bool) → content_in chain key ≡ Some (Child page held) → AnyNames chain page
child_meets [] key page held is = cc
child_meets (newest ∷ under) key page held is = by_test (names newest key) (child_meets under key page held) is
  where
    by_test : (b : Bool) → (content_in under key ≡ Some (Child page held) → AnyNames under page)
        → (if b then content_said newest key else content_in under key) ≡ Some (Child page held) → AnyNames (newest ∷ under) page
    by_test true rest here = inl (said newest key page held here)
    by_test false rest there = inr (rest there)

right_meets : (chain : List Record) (page : ℕ) → right_in chain ≡ Some page → AnyNames chain page
right_meets [] page is = cc
right_meets (kind.Base base ∷ under) page is = inl (inl is)
right_meets (kind.Split split ∷ under) page is = inl (same_Some _ _ is)
right_meets (kind.Merge merge ∷ under) page is = inl (inl is)
right_meets (newest ∷ under) page is = inr (right_meets under page is)

-- a page that a chain names is named by one of its records
pub names_meets : (chain : List Record) (page level : ℕ) (low : List ℕ) → NamesAt chain page level low → AnyNames chain page
names_meets chain page level low h = elim h [ inl right ↦ right_meets chain page right.0 | inr child ↦ child_meets chain low page child.0 child.3 ]

-- one more record
pub meets_push : (part : List Record) (content : Record) (page : ℕ) → AnyNames (part ++ content ∷ []) page → AnyNames part page ⊎ NamesPage content page
meets_push [] content page h = elim h [ inl here ↦ inr here | inr none ↦ absurd none ]
meets_push (first ∷ part) content page h = elim h [
  | inl here ↦ inl (inl here)
  | inr there ↦ elim (meets_push part content page there) [ inl before ↦ inl (inr before) | inr last ↦ inr last ]
]

pub kept_push : (part records : List Record) (content : Record) → ((page : ℕ) → AnyNames part page → AnyNames records page) → (page : ℕ)
    → AnyNames (part ++ content ∷ []) page → AnyNames (content ∷ records) page
kept_push part records content kept page h = elim (meets_push part content page h) [ inl before ↦ inr (kept page before) | inr last ↦ inl last ]

or_true : (b : Bool) → b || true ≡ true
or_true true = refl
or_true false = refl

removed_one : (content : Record) → is_removed (content ∷ []) ≡ (is_removal content || false)
removed_one (kind.Base base) = refl
removed_one other = refl

-- a front with one more record is removed where it was, or where the record is a removal
pub removed_push : (seen : ℕ → Option Record) (part : List Record) (head row : ℕ) (content : Record) → IsFront seen head part row
    → is_removed (part ++ content ∷ []) ≡ (is_removal content || is_removed part)
removed_push seen [] head row content h = removed_one content
removed_push seen (kind.Base base ∷ part) head row content h = absurd h.1
removed_push seen (kind.Put put ∷ part) head row content h = removed_push seen part put.next row content h.1
removed_push seen (kind.Delete delete ∷ part) head row content h = removed_push seen part delete.next row content h.1
removed_push seen (kind.Split split ∷ part) head row content h = removed_push seen part split.next row content h.1
removed_push seen (kind.Term term ∷ part) head row content h = removed_push seen part term.next row content h.1
removed_push seen (kind.Hold hold ∷ part) head row content h = removed_push seen part hold.next row content h.1
removed_push seen (kind.Remove remove ∷ part) head row content h = sym (or_true (is_removal content))
removed_push seen (kind.Merge merge ∷ part) head row content h = removed_push seen part merge.next row content h.1
removed_push seen (kind.Unterm unterm ∷ part) head row content h = removed_push seen part unterm.next row content h.1

-- pages that differ are no more than there are

new_test : (page : ℕ) (pages : List ℕ) → IsUnread page pages → AllByRecursion (λ other. (page == other) ≡ false) pages
new_test page [] new = tt
new_test page (other ∷ pages) new = (elim (eqb_tells page other) [ inl same ↦ absurd (new.0 same.1) | inr differs ↦ differs.0 ], new_test page pages new.1)

zero_new : (limits : Limits) (pages : List ℕ) → AreDistinct limits pages → IsUnread 0 pages
zero_new limits [] h = tt
zero_new limits (page ∷ pages) h = ((λ e. let some = h.0 in omega arith), zero_new limits pages h.3)

differ : (limits : Limits) (pages : List ℕ) → AreDistinct limits pages → IsDistinct ◌==◌ pages
unfolding IsDistinct
differ limits [] h = tt
differ limits (page ∷ pages) h = (new_test page pages h.2, differ limits pages h.3)

among : (limits : Limits) (pages : List ℕ) → AreDistinct limits pages → (q : ℕ) → list_any (λ x. q == x) pages ≡ true → q < limits.pids
among limits [] h q e = cc
among limits (page ∷ pages) h q e = elim (eqb_tells q page) [ inl same ↦ rw same.1 h.1 | inr differs ↦ among limits pages h.3 q (rw differs.0 at e) ]

among_all : (limits : Limits) (pages : List ℕ) → AreDistinct limits pages → (q : ℕ) → list_any (λ x. q == x) (0 ∷ pages) ≡ true → q < limits.pids
among_all limits pages h q e = elim (eqb_tells q 0) [ inl same ↦ (let some = limits.allowed.some_pids in let is = same.1 in omega arith) | inr differs ↦ among limits pages h q (rw differs.0 at e) ]

-- Pages that differ are at most 4,095.
pub few_pages : (limits : Limits) (pages : List ℕ) → AreDistinct limits pages → suc (length pages) ≤ limits.pids
unfolding IsDistinct
few_pages limits pages h =
    let all : IsDistinct ◌==◌ (0 ∷ pages) = (new_test 0 pages (zero_new limits pages h), differ limits pages h) in
    let few = length-le_from_distinct_below (0 ∷ pages) limits.pids all (among_all limits pages h) in
    omega (arith, few)
