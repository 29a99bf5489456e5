-- A page's pairs are told exactly where they are the log's pairs of its range.
use Rattle.std.proofs.Common.{◌≡◌, ◌<◌, ◌⊎◌, inl, inr, ℕ, suc, List, [], ◌∷◌, Bool, true, false, Option, None, Some, ap, arith, length, lit<, refl, subst}
use Rattle.std.proofs.Common.{sym, ◌∙◌}
use Rattle.std.specs.Prelude.{IsTrue, not, ◌&&◌, ◌||◌, ◌↔◌, if◌then◌else◌, map}
use Rattle.std.specs.List.{All, Contains, fold, list_all, list_any}
use Rattle.std.specs.List.Sorted.{IsStrictlySortedBy}
use Rattle.std.specs.Ordering.{is_eq}
use Rattle.std.specs.declared.cmp.Ordering.{Ordering}
use Rattle.std.specs.declared.cmp.Ordering.TheVariants.{Less, Equal, Greater}
use Rattle.std.specs.Str.{bytes_eq}
use Rattle.std.proofs.lemmas.List.Elements.{All-contains, All-contains_itself}
use Rattle.std.proofs.lemmas.List.Folds.{Any-from_list_any, list_any-from_Any}
use Rattle.std.proofs.lemmas.List.Sums.{AllPass-from_list_all, list_all-from_AllPass}
use Rattle.std.proofs.lemmas.Map.Lookups.{exact_bytes}
use Rattle.std.proofs.lemmas.Slice.Eq.{bytes_eq-Decides}
use Rattle.bw_model.specs.Bytes.{IsShort, key_cmp, is_below, is_in_range}
use Rattle.bw_model.specs.Log.{Update, logged_value, updated_key, updated_value}
use Rattle.bw_model.specs.NextKeys.{IsGreatestBelow, key_after, key_before}
use Rattle.bw_model.specs.Pairs.{IsPairsOf}
use Rattle.bw_model.specs.declared.command.Command.TheVariants.{Page, Back}
use Rattle.filming.specs.Maps.{has_key}
use Rattle.filming.specs.Places.{are_pairs, has_value, is_above, is_told_of, is_value}

same_values : (one other : Option (List ℕ)) → is_value one other ≡ true → one ≡ other
same_values None None e = refl
same_values None (Some b) e = cc
same_values (Some a) None e = cc
same_values (Some a) (Some b) e = ap (λ (bytes : List ℕ). Some bytes) ((bytes_eq-Decides a b).0 e)

is_itself : (one : Option (List ℕ)) → is_value one one ≡ true
is_itself None = refl
is_itself (Some a) = (bytes_eq-Decides a a).1 refl

only_equal : (o : Ordering) → is_eq o ≡ true → o ≡ Equal
only_equal Less e = cc
only_equal Equal e = refl
only_equal Greater e = cc

-- an element is one of a longer list
later : {X : Type 0} (first : X) (xs : List X) (x : X) → Contains xs x → Contains (first ∷ xs) x
later first xs x (k, there, is) = (suc k, omega (arith, there), is)

abbrev Names : List Update → List ℕ → Type 0
Names log key = (update : Update) × Contains log update × (updated_key update ≡ key)

-- a key that has a value has it by an update
named : (key value : List ℕ) (log : List Update) (before : Option (List ℕ))
    → fold (λ so_far update. if is_eq (key_cmp key (updated_key update)) then updated_value update else so_far) before log ≡ Some value
    → (before ≡ Some value) ⊎ Names log key
named key value [] before e = inl e
named key value (update ∷ log) before e = by_key (is_eq (key_cmp key (updated_key update))) refl (named key value log _ e)
  where
    goes_on : (so_far : Option (List ℕ)) → so_far ≡ before → (so_far ≡ Some value) ⊎ Names log key → (before ≡ Some value) ⊎ Names (update ∷ log) key
    goes_on so_far same (inl is) = inl (sym same ∙ is)
    goes_on so_far same (inr (other, among, is)) = inr (other, later update log other among, is)

    by_key : (b : Bool) → is_eq (key_cmp key (updated_key update)) ≡ b
        → ((if is_eq (key_cmp key (updated_key update)) then updated_value update else before) ≡ Some value) ⊎ Names log key → (before ≡ Some value)
        ⊎ Names (update ∷ log) key
    by_key true is rest = inr (update, (0, omega arith, refl), sym (exact_bytes key (updated_key update) (only_equal _ is)))
    by_key false is rest = goes_on _ (ap (λ (b : Bool). if b then updated_value update else before) is) rest

has_update : (log : List Update) (key value : List ℕ) → logged_value log key ≡ Some value → Names log key
has_update log key value has = there (named key value log None has)
  where
    there : (◌≡◌ {A = Option (List ℕ)} None (Some value)) ⊎ Names log key → Names log key
    there (inl none) = cc
    there (inr names) = names

all_at : {X : Type 0} (p : X → Bool) (xs : List X) (x : X) → list_all p xs ≡ true → Contains xs x → p x ≡ true
all_at p xs x all among = All-contains (λ y. p y ≡ true) xs x (AllPass-from_list_all p xs all) among

all_of : {X : Type 0} (p : X → Bool) (xs : List X) → ((x : X) → Contains xs x → p x ≡ true) → list_all p xs ≡ true
all_of p xs each = list_all-from_AllPass p xs (λ k d there. each _ (All-contains_itself xs k d there))

both : (a b : Bool) → (a && b) ≡ true → (a ≡ true) × (b ≡ true)
both true b e = (refl, e)
both false b e = cc

two : (a b : Bool) → a ≡ true → b ≡ true → (a && b) ≡ true
two true b e f = f
two false b e f = cc

found : (a b c : Bool) → (not a || b || c) ≡ true → a ≡ true → c ≡ false → b ≡ true
found true true c e t n = refl
found true false true e t n = cc
found true false false e t n = e
found false b c e t n = cc

finds : (a b c : Bool) → (a ≡ true → c ≡ false → b ≡ true) → (not a || b || c) ≡ true
finds true true true f = refl
finds true true false f = refl
finds true false true f = refl
finds true false false f = f refl refl
finds false true true f = refl
finds false true false f = refl
finds false false true f = refl
finds false false false f = refl

module _ (log : List Update) (told : List ℕ → Bool) (pairs : List (List ℕ × List ℕ)) where
  abbrev says : Update → Bool
  says update = not (told (updated_key update)) || has_key pairs (updated_key update) || is_value (logged_value log (updated_key update)) None

  abbrev matches : Bool
  matches = list_all (has_value log) pairs && list_all says log

  abbrev Exact : Type 0
  Exact = (key value : List ℕ) → Contains pairs (key, value) ↔ IsTrue (told key) × (logged_value log key ≡ Some value)

  pub exactly : ((pair : List ℕ × List ℕ) → Contains pairs pair → IsTrue (told pair.0)) → matches ≡ true → Exact
  exactly within is key value = (into, back)
    where
      halves : (list_all (has_value log) pairs ≡ true) × (list_all says log ≡ true)
      halves = both (list_all (has_value log) pairs) (list_all says log) is

      valued : (pair : List ℕ × List ℕ) → Contains pairs pair → logged_value log pair.0 ≡ Some pair.1
      valued pair among = same_values (logged_value log pair.0) (Some pair.1) (all_at (has_value log) pairs pair halves.0 among)

      into : Contains pairs (key, value) → IsTrue (told key) × (logged_value log key ≡ Some value)
      into among = (within (key, value) among, valued (key, value) among)

      it_is : (pair : List ℕ × List ℕ) → Contains pairs pair → pair.0 ≡ key → logged_value log key ≡ Some value → Contains pairs (key, value)
      it_is pair among same has =
          let other : logged_value log key ≡ Some pair.1 = subst (λ k. logged_value log k ≡ Some pair.1) same (valued pair among) in
          let own : pair.1 ≡ value = (let both_are : ◌≡◌ {A = Option (List ℕ)} (Some pair.1) (Some value) = sym other ∙ has in cc) in
          let all : pair ≡ (key, value) = rw (same, own) refl in subst (λ p. Contains pairs p) all among

      back : IsTrue (told key) × (logged_value log key ≡ Some value) → Contains pairs (key, value)
      back (is_told, has) =
          let (update, among, same) = has_update log key value has in
          let said : (not (told key) || has_key pairs key || is_value (logged_value log key) None) ≡ true =
          subst (λ k. (not (told k) || has_key pairs k || is_value (logged_value log k) None) ≡ true) same (all_at says log update halves.1 among) in
          let other : is_value (logged_value log key) None ≡ false = subst (λ v. is_value v None ≡ false) (sym has) refl in
          let one = Any-from_list_any (λ (pair : List ℕ
          × List ℕ). bytes_eq pair.0 key) pairs (found (told key) (has_key pairs key) (is_value (logged_value log key) None) said is_told other) in
          it_is one.1 (one.0, one.2, one.3) ((bytes_eq-Decides one.1.0 key).0 one.4) has

  pub tells : Exact → matches ≡ true
  tells exact = two (list_all (has_value log) pairs) (list_all says log) (all_of (has_value log) pairs valued) (all_of says log said)
    where
      valued : (pair : List ℕ × List ℕ) → Contains pairs pair → has_value log pair ≡ true
      valued pair among = subst (λ v. is_value v (Some pair.1) ≡ true) (sym ((exact pair.0 pair.1).0 among).1) (is_itself (Some pair.1))

      there : (key : List ℕ) (value : Option (List ℕ)) → logged_value log key ≡ value → told key ≡ true → is_value (logged_value log key) None ≡ false
          → has_key pairs key ≡ true
      there key None is t none = let itself : is_value (logged_value log key) None ≡ true = subst (λ v. is_value v None ≡ true) (sym is) refl in cc
      there key (Some value) is t none =
          let among = (exact key value).1 (t, is) in
          list_any-from_Any (λ (pair : List ℕ × List ℕ). bytes_eq pair.0 key) pairs (among.0, (key, value), among.1, among.2, (bytes_eq-Decides key key).1 refl)

      said : (update : Update) → Contains log update → says update ≡ true
      said update among =
          let key = updated_key update in finds (told key) (has_key pairs key) (is_value (logged_value log key) None) (there key (logged_value log key) refl)

pub page_told : (log : List Update) (from : List ℕ) (next : Option (List ℕ)) (pairs : List (List ℕ × List ℕ))
    → IsStrictlySortedBy key_cmp (map (λ pair. pair.0) pairs)
    → All (λ pair. IsTrue (is_told_of (Page from) next pair.0)) pairs → (are_pairs log (Page from) next pairs ≡ true) ↔ IsPairsOf log from next pairs
page_told log from next pairs sorted within = (
  (λ is. record {
    ascending = sorted;
    exact = exactly log (is_told_of (Page from) next) pairs
        (λ pair among. All-contains (λ one. IsTrue (is_told_of (Page from) next one.0)) pairs pair within among) is;
  }),
  (λ are. tells log (is_told_of (Page from) next) pairs are.exact),
)

none_below_none : (key : List ℕ) → is_below key [] ≡ false
none_below_none [] = refl
none_below_none (x ∷ xs) = refl

not_not : (a b : Bool) → a ≡ not b → not a ≡ b
not_not a true e = ap not e
not_not a false e = ap not e

-- the range of a page backward, by its low key or by the one behind which it goes on
same_range : (low upto key : List ℕ) (next : Option (List ℕ)) → (next ≡ None → low ≡ [])
    → ((other : List ℕ) → next ≡ Some other → is_below key low ≡ not (is_below other key))
    → is_below key (key_after upto) ≡ not (is_below upto key) → is_told_of (Back upto) next key ≡ is_in_range low (Some (key_after upto)) key
same_range low upto key None first before after =
    let lowest : is_below key low ≡ false = ap (λ (bytes : List ℕ). is_below key bytes) (first refl) ∙ none_below_none key in rw (lowest, after) refl
same_range low upto key (Some other) first before after = let above : not (is_below key low)
    ≡ is_below other key = not_not _ _ (before other refl) in rw (above, after) refl

pub back_told : ((key : List ℕ) → key_before key ≡ None → key ≡ [])
    → ((key other : List ℕ) → IsShort key → key_before key ≡ Some other → IsGreatestBelow key other)
    → ((key x : List ℕ) → is_below x (key_after key) ≡ not (is_below key x))
    → (log : List Update) (low upto : List ℕ) (next : Option (List ℕ)) (pairs : List (List ℕ × List ℕ))
    → IsShort low → key_before low ≡ next → All (λ update. IsShort (updated_key update)) log → IsStrictlySortedBy key_cmp (map (λ pair. pair.0) pairs)
    → All (λ pair. IsShort pair.0 × IsTrue (is_told_of (Back upto) next pair.0)) pairs → (are_pairs log (Back upto) next pairs ≡ true)
    ↔ IsPairsOf log low (Some (key_after upto)) pairs
back_told first before after log low upto next pairs short is_next keys sorted within = (forth, (λ are. tells log told pairs (told_of are.exact)))
  where
    told : List ℕ → Bool
    told = is_told_of (Back upto) next

    same : (key : List ℕ) → IsShort key → told key ≡ is_in_range low (Some (key_after upto)) key
    same key few = same_range low upto key next (λ none. first low (is_next ∙ none)) (λ other some. before low other short (is_next
        ∙ some) key few) (after upto key)

    -- a key that has a value is short
    short_named : (key value : List ℕ) → logged_value log key ≡ Some value → IsShort key
    short_named key value has = let (
      update,
      among,
      is,
    ) = has_update log key value has in subst IsShort is (All-contains (λ one. IsShort (updated_key one)) log update keys among)

    short_pair : (pair : List ℕ × List ℕ) → Contains pairs pair → IsShort pair.0 × IsTrue (told pair.0)
    short_pair pair among = All-contains (λ one. IsShort one.0 × IsTrue (told one.0)) pairs pair within among

    told_of : ((key value : List ℕ) → Contains pairs (key, value) ↔ IsTrue (is_in_range low (Some (key_after upto)) key) × (logged_value log key ≡ Some value))
        → (key value : List ℕ) → Contains pairs (key, value) ↔ IsTrue (told key) × (logged_value log key ≡ Some value)
    told_of exact key value = (
      (λ among. ((short_pair (key, value) among).1, ((exact key value).0 among).1)),
      (λ h. (exact key value).1 (sym (same key (short_named key value h.1)) ∙ h.0, h.1)),
    )

    forth : are_pairs log (Back upto) next pairs ≡ true → IsPairsOf log low (Some (key_after upto)) pairs
    forth is = record {
      ascending = sorted;
      exact = λ key value. (
        (λ among. (
          sym (same key (short_pair (key, value) among).0) ∙ (short_pair (key, value) among).1,
          ((exactly log told pairs (λ pair there. (short_pair pair there).1) is key value).0 among).1,
        )),
        (λ h. (exactly log told pairs (λ pair there. (short_pair pair there).1) is key value).1 (same key (short_named key value h.1) ∙ h.0, h.1)),
      );
    }
