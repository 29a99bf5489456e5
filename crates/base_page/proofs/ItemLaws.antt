-- Ascending items, and what they have at a key.
use Rattle.std.proofs.Common.{◌≡◌, ℕ, List, [], ◌∷◌, ◌++◌, map, Bool, true, false, cond, Option, Some, None, refl, sym, ap, subst, ◌∙◌}
use Rattle.std.specs.List.{AllByRecursion}
use Rattle.std.specs.List.Sorted.{IsStrictlySortedBy}
use Rattle.std.specs.Ordering.{is_eq}
use Rattle.std.specs.declared.cmp.Ordering.TheVariants.{Less}
use Rattle.bw_model.specs.Bytes.{key_cmp}
use Rattle.base_page.specs.declared.item.Content.{Content}
use Rattle.base_page.specs.declared.item.Item.{Item}
use Rattle.base_page.specs.Pages.{content_at, IsAscending}
use Rattle.base_page.proofs.KeyLaws.{itself, same, differs_below, differs_above, either}

module _ {X : Type 0} where
  pub all-append : (P : X → Type 0) (xs ys : List X) → AllByRecursion P xs → AllByRecursion P ys → AllByRecursion P (xs ++ ys)
  all-append P [] ys a b = b
  all-append P (x ∷ xs) ys a b = (a.0, all-append P xs ys a.1 b)

  pub all-weaker : (P Q : X → Type 0) → ((x : X) → P x → Q x) → (xs : List X) → AllByRecursion P xs → AllByRecursion Q xs
  all-weaker P Q f [] a = tt
  all-weaker P Q f (x ∷ xs) a = (f x a.0, all-weaker P Q f xs a.1)

  pub all-both : (P Q R : X → Type 0) → ((x : X) → P x → Q x → R x) → (xs : List X) → AllByRecursion P xs → AllByRecursion Q xs → AllByRecursion R xs
  all-both P Q R f [] a b = tt
  all-both P Q R f (x ∷ xs) a b = (f x a.0 b.0, all-both P Q R f xs a.1 b.1)

  mapped : {Y : Type 0} (P : Y → Type 0) (f : X → Y) (xs : List X) → AllByRecursion (λ x. P (f x)) xs → AllByRecursion P (map f xs)
  mapped P f [] a = tt
  mapped P f (x ∷ xs) a = (a.0, mapped P f xs a.1)

  unmapped : {Y : Type 0} (P : Y → Type 0) (f : X → Y) (xs : List X) → AllByRecursion P (map f xs) → AllByRecursion (λ x. P (f x)) xs
  unmapped P f [] a = tt
  unmapped P f (x ∷ xs) a = (a.0, unmapped P f xs a.1)

-- each of the items is above the key, and below it
abbrev pub AllAbove : List ℕ → List Item → Type 0
AllAbove key items = AllByRecursion (λ item. key_cmp key item.key ≡ Less) items

abbrev pub AllBelow : List ℕ → List Item → Type 0
AllBelow key items = AllByRecursion (λ item. key_cmp item.key key ≡ Less) items

-- each of the first items is below each of the others
abbrev pub AllBefore : List Item → List Item → Type 0
AllBefore front back = AllByRecursion (λ item. AllAbove item.key back) front

abbrev pub Ascends : List Item → Type 0
Ascends [] = Unit {0}
Ascends (item ∷ items) = AllAbove item.key items × Ascends items

pub Ascends-from : (items : List Item) → IsAscending items → Ascends items
unfolding IsStrictlySortedBy
Ascends-from [] h = tt
Ascends-from (item ∷ items) h = (unmapped (λ key. key_cmp item.key key ≡ Less) (λ (item : Item). item.key) items h.0, Ascends-from items h.1)

pub IsAscending-from : (items : List Item) → Ascends items → IsAscending items
unfolding IsStrictlySortedBy
IsAscending-from [] h = tt
IsAscending-from (item ∷ items) h = (mapped (λ key. key_cmp item.key key ≡ Less) (λ (item : Item). item.key) items h.0, IsAscending-from items h.1)

pub joined : (front back : List Item) → Ascends front → Ascends back → AllBefore front back → Ascends (front ++ back)
joined [] back a b c = b
joined (item ∷ front) back a b c = (all-append _ front back a.0 c.0, joined front back a.1 b c.1)

pub front_all : {X : Type 0} (P : X → Type 0) (xs ys : List X) → AllByRecursion P (xs ++ ys) → AllByRecursion P xs
front_all P [] ys a = tt
front_all P (x ∷ xs) ys a = (a.0, front_all P xs ys a.1)

pub back_all : {X : Type 0} (P : X → Type 0) (xs ys : List X) → AllByRecursion P (xs ++ ys) → AllByRecursion P ys
back_all P [] ys a = a
back_all P (x ∷ xs) ys a = back_all P xs ys a.1

pub front_ascends : (front back : List Item) → Ascends (front ++ back) → Ascends front
front_ascends [] back a = tt
front_ascends (item ∷ front) back a = (front_all _ front back a.0, front_ascends front back a.1)

pub back_ascends : (front back : List Item) → Ascends (front ++ back) → Ascends back
back_ascends [] back a = a
back_ascends (item ∷ front) back a = back_ascends front back a.1

pub before : (front back : List Item) → Ascends (front ++ back) → AllBefore front back
before [] back a = tt
before (item ∷ front) back a = (back_all _ front back a.0, before front back a.1)

-- what items have at a key that is none of theirs
lacks : (items : List Item) (q : List ℕ) → AllByRecursion (λ item. is_eq (key_cmp q item.key) ≡ false) items → content_at items q ≡ None
lacks [] q h = refl
lacks (item ∷ items) q h = rw h.0 (lacks items q h.1)

pub lacks_below : (items : List Item) (q : List ℕ) → AllBelow q items → content_at items q ≡ None
lacks_below items q h = lacks items q (all-weaker _ _ (λ (item : Item) less. differs_above item.key q less) items h)

pub lacks_above : (items : List Item) (q : List ℕ) → AllAbove q items → content_at items q ≡ None
lacks_above items q h = lacks items q (all-weaker _ _ (λ (item : Item) less. differs_below q item.key less) items h)

passed_by : {X : Type 0} (b : Bool) (x : X) (r : Option X) → cond b (Some x) r ≡ None → (b ≡ false) × (r ≡ None)
passed_by true x r h = cc
passed_by false x r h = (refl, h)

pub append_lacks : (xs ys : List Item) (q : List ℕ) → content_at xs q ≡ None → content_at (xs ++ ys) q ≡ content_at ys q
append_lacks [] ys q h = refl
append_lacks (item ∷ xs) ys q h = let p = passed_by (is_eq (key_cmp q item.key)) item.content (content_at xs q) h in rw p.0 (append_lacks xs ys q p.1)

pub append_same : (xs ys zs : List Item) (q : List ℕ) → content_at ys q ≡ content_at zs q → content_at (xs ++ ys) q ≡ content_at (xs ++ zs) q
append_same [] ys zs q h = h
append_same (item ∷ xs) ys zs q h = ap (λ r. cond (is_eq (key_cmp q item.key)) (Some item.content) r) (append_same xs ys zs q h)

-- an item between others
pub middle_other : (front back : List Item) (item : Item) (q : List ℕ) → is_eq (key_cmp q item.key) ≡ false → content_at (front ++ item ∷ back) q ≡ content_at (front ++ back) q
middle_other front back item q h = append_same front (item ∷ back) back q (rw h refl)

pub middle_here : (front back : List Item) (item : Item) (q : List ℕ) → content_at front q ≡ None → is_eq (key_cmp q item.key) ≡ true → content_at (front ++ item ∷ back) q ≡ Some item.content
middle_here front back item q lack h = append_lacks front (item ∷ back) q lack ∙ rw h refl

-- what holds of each item holds of each content at its key, and the other way round
pub of_content : (P : Item → Type 0) (items : List Item) (q : List ℕ) (content : Content) → AllByRecursion P items → content_at items q ≡ Some content → P (record { key = q; content = content })
of_content P [] q content all h = cc
of_content P (item ∷ items) q content all h = either (is_eq (key_cmp q item.key))
    (λ yes.
    let key : q ≡ item.key = same q item.key yes in
    let is : Some item.content ≡ Some content = rw yes at h in
    let content_is : item.content ≡ content = cc in
    subst P (λ i. record { key = sym key i; content = content_is i }) all.0)
    (λ no. of_content P items q content all.1 (rw no at h))

pub all_contents : (P : Item → Type 0) (items : List Item) → Ascends items
    → ((q : List ℕ) (content : Content) → content_at items q ≡ Some content → P (record { key = q; content = content })) → AllByRecursion P items
all_contents P [] asc f = tt
all_contents P (item ∷ items) asc f =
    let here : content_at (item ∷ items) item.key ≡ Some item.content = rw (itself item.key) refl in (
      f item.key item.content here,
      all_contents P items asc.1 (λ q content h.
          let above : key_cmp item.key q ≡ Less = of_content (λ other. key_cmp item.key other.key ≡ Less) items q content asc.0 h in
          let other : is_eq (key_cmp q item.key) ≡ false = differs_above item.key q above in
          f q content (rw other h)),
    )

pub append_front : (xs ys : List Item) (q : List ℕ) → content_at ys q ≡ None → content_at (xs ++ ys) q ≡ content_at xs q
append_front [] ys q h = h
append_front (item ∷ xs) ys q h = ap (λ r. cond (is_eq (key_cmp q item.key)) (Some item.content) r) (append_front xs ys q h)
