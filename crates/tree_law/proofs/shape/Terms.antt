-- The terms of the index stay exact.
use Rattle.tree_law.proofs.Words.{false, true, ap, refl, Option, suc, None, ◌≤◌, sym, ℕ, ◌≡◌, ◌∙◌, ◌<◌, arith, Some, same_Some, nat_tests, ContentOf, Child, Key}
use Rattle.tree_law.proofs.Words.{IsBelow, put_key, Placed, Indexed, PageOwner, Cleared, Fresh, Stage, child_of, mark, put, Exact, []}
use Rattle.tree_law.proofs.shape.KeyOrder.{not_self, by_key, key_same, key_other}
use Rattle.tree_law.proofs.shape.Puts.{by_equal, put_same}

pub mark_number : (st : Stage) (q : ℕ) (i : ContentOf) → mark st q ≡ Some i → child_of i ≡ q
mark_number Fresh q i e = absurd (cc)
mark_number Indexed q i e = ap child_of (sym (same_Some (Child q false) i e))
mark_number st q i e = ap child_of (sym (same_Some (Child q true) i e))

-- the same pages in the tree
pub exact_same : {page page' : ℕ → PageOwner} {index : ℕ → Key → Option ContentOf} {top root : ℕ} → ((q l : ℕ) (s : Key) (st : Stage) → page' q ≡ Placed st l s → page q ≡ Placed st l s)
    → ((q l : ℕ) (s : Key) (st : Stage) → page q ≡ Placed st l s → page' q ≡ Placed st l s) → ((q a l : ℕ) (s : Key) → page' q ≡ Cleared a l s → page q ≡ Cleared a l s)
    → Exact page index top root → Exact page' index top root
exact_same {page} {page'} {index} {top} {root} old new cleared x = record {
  gone = λ q a l s e. x.gone q a l s (cleared q a l s e);
  below = λ q l s st e. x.below q l s st (old q l s st e);
  posted = λ q l s st i e. x.posted q l s st i (old q l s st e);
  named = λ l s i e. let n = x.named l s i e in (n.0, (n.1.0, new (child_of i) l s n.1.0 n.1.1, n.1.2));
  others = λ q s st e. x.others q s st (old q top s st e);
  is_root = new root top [] Indexed x.is_root;
}

-- the index with one term changed: its place, and the others
data TermPut (index : ℕ → Key → Option ContentOf) (l : ℕ) (s : Key) (v : Option ContentOf) (l' : ℕ) (s' : Key) : Type 0 where
  there : l' ≡ l → s' ≡ s → put index l (put_key (index l) s v) l' s' ≡ v → TermPut index l s v l' s'
  elsewhere : (l' ≡ l → s' ≡ s → ⊥) → put index l (put_key (index l) s v) l' s' ≡ index l' s' → TermPut index l s v l' s'

term_put : (index : ℕ → Key → Option ContentOf) (l : ℕ) (s : Key) (v : Option ContentOf) (l' : ℕ) (s' : Key) → TermPut index l s v l' s'
term_put index l s v l' s' = by_equal l' l
    (λ k t. by_key s' s (λ h u. there k h (rw (t, u))) (λ other u. elsewhere (λ i h. other h) (rw (t, u) (ap (λ d. index d s') (sym k)))))
    (λ other t. elsewhere (λ k h. other k) (rw t))

-- one more page, fresh
pub exact_fresh : {page : ℕ → PageOwner} {index : ℕ → Key → Option ContentOf} {top root : ℕ} (n l : ℕ) (s : Key) → ((l' : ℕ) (s' : Key) (st : Stage) → page n ≡ Placed st l' s' → ⊥) → l ≤ top
    → Exact page index top root → Exact (put page n (Placed Fresh l s)) index top root
exact_fresh {page} {index} {top} {root} n l s not le x = record {
  gone = λ q a l' s'. grind (arith, nat_tests, x.gone);
  below = λ q l' s' st. grind (arith, nat_tests, x.below);
  posted = λ q l' s' st i. grind (arith, nat_tests, x.posted);
  named = λ l' s' i e. let o = x.named l' s' i e in (o.0, (o.1.0, grind (arith, nat_tests, not), o.1.2));
  others = λ q s' st. grind (arith, nat_tests, x.others);
  is_root = grind (arith, nat_tests, not);
}

-- one page below the root's level goes on, with its term
pub exact_moved : {page : ℕ → PageOwner} {index : ℕ → Key → Option ContentOf} {top root : ℕ} (b l : ℕ) (s : Key) (st : Stage) (n : PageOwner) (v : Option ContentOf)
    → page b ≡ Placed st l s → l < top → index l s ≡ mark st b
    → ((l' : ℕ) (s' : Key) (st' : Stage) → n ≡ Placed st' l' s' → (l ≡ l') × (s ≡ s') × (mark st' b ≡ v))
    → ((i : ContentOf) → v ≡ Some i → (st' : Stage) × (child_of i ≡ b) × (n ≡ Placed st' l s) × (mark st' b ≡ Some i))
    → ((a l' : ℕ) (s' : Key) → n ≡ Cleared a l' s' → l ≡ l')
    → Exact page index top root → Exact (put page b n) (put index l (put_key (index l) s v)) top root
exact_moved {page} {index} {top} {root} b l s st n v was lt had fits full clears x = record {
  gone = λ q a l' s'. grind (arith, nat_tests, clears, x.gone);
  below = λ q l' s' st'. by_equal q b (λ j t. rw t λ e. let f = (fits l' s' st' e).0 in omega arith) (λ j t. rw t (x.below q l' s' st'));
  posted = λ q l' s' st' i. by_equal q b
      (λ j t. rw t λ e lt' m. let f = fits l' s' st' e in elim (term_put index l s v l' s') [
        | there k h now ↦ now ∙ sym f.2 ∙ ap (mark st') (sym j) ∙ m
        | elsewhere other now ↦ absurd (other (sym f.0) (sym f.1))
      ])
      (λ j t. rw t λ e lt' m. let o = x.posted q l' s' st' i e lt' m in elim (term_put index l s v l' s') [
        | there k h now ↦ absurd (j (let same : index l s ≡ Some i = rw (sym k, sym h) o in sym (mark_number st' q i m) ∙ mark_number st b i (sym had ∙ same)))
        | elsewhere other now ↦ now ∙ o
      ]);
  named = λ l' s' i e. elim (term_put index l s v l' s') [
    | there k h now ↦ let f = full i (sym now ∙ e) in rw (k, h) (lt, (f.0, grind (arith, nat_tests), grind (arith, nat_tests)))
    | elsewhere other now ↦ let o = x.named l' s' i (sym now ∙ e) in (o.0, (o.1.0, grind (arith, nat_tests, other), o.1.2))
  ];
  others = λ q s' st'. by_equal q b (λ j t. rw t λ e ne. absurd (let f = (fits top s' st' e).0 in omega arith)) (λ j t. rw t (x.others q s' st'));
  is_root = grind (arith, nat_tests, x.is_root);
}

-- a new root over the root and its right
pub exact_root : {page : ℕ → PageOwner} {index : ℕ → Key → Option ContentOf} {top root : ℕ} (b : ℕ) (s : Key) (y : ℕ) → page b ≡ Placed Fresh top s
    → IsBelow [] s → ((l' : ℕ) (s' : Key) (st : Stage) → page y ≡ Placed st l' s' → ⊥) → Exact page index top root
    → Exact (put (put page b (Placed Indexed top s)) y (Placed Indexed (suc top) [])) (put index top (put_key (put_key (λ k. None) s (Some (Child b false))) [] (Some (Child root false)))) (suc top) y
exact_root {page} {index} {top} {root} b s y was some not x = record {
  gone = λ q a l' s'. grind (arith, nat_tests, x.gone);
  below = λ q l' s' st. grind (arith, nat_tests, x.below);
  posted = λ q l' s' st i. by_equal q y
      (λ j t. rw t λ e lt m. absurd (let f : suc top ≡ l' = cc in omega arith))
      (λ j t. rw t (by_equal q b
      (λ k t. rw t λ e lt m. let f : top ≡ l' = cc in let h : s ≡ s' = cc in let w : Indexed ≡ st = cc in rw (sym f, sym h)
      (at_right ∙ ap (λ d. Some (Child d false)) (sym k) ∙ ap (λ v. mark v q) w ∙ m))
      (λ k t. rw t λ e lt m. by_equal l' top
      (λ f t. rw t (by_equal q root
      (λ h r. let w : Placed st l' s' ≡ Placed Indexed top [] = sym e ∙ ap page h ∙ x.is_root in let u : s' ≡ [] = cc in let v : Indexed ≡ st = cc in rw u
      (ap (λ d. Some (Child d false)) (sym h) ∙ ap (λ z. mark z q) v ∙ m))
      (λ h r. absurd (let u = x.others q s' st (rw f at e) h in let v : mark Fresh q ≡ Some i = ap (λ z. mark z q) (sym u) ∙ m in cc))))
      (λ f t. rw t (x.posted q l' s' st i e (omega arith) m)))));
  named = λ l' s' i. by_equal l' top
      (λ f t. rw t (by_key s' []
      (λ h u. rw u λ e. let w = same_Some (Child root false) i e in rw (sym w, f, h) (omega arith, (Indexed, at_root, refl)))
      (λ h u. rw u (by_key s' s
      (λ k v. rw v λ e. let w = same_Some (Child b false) i e in rw (sym w, f, k) (omega arith, (Indexed, at_b, refl)))
      (λ k v. rw v λ e. absurd (cc))))))
      (λ f t. rw t λ e. let o = x.named l' s' i e in ((let z = o.0 in omega arith), (o.1.0, grind (arith, nat_tests, not), o.1.2)));
  others = λ q s' st. grind (arith, nat_tests, x.below);
  is_root = put_same (put page b old) y new;
}
  where
    old : PageOwner
    old = Placed Indexed top s

    new : PageOwner
    new = Placed Indexed (suc top) []

    page' : ℕ → PageOwner
    page' = put (put page b (Placed Indexed top s)) y (Placed Indexed (suc top) [])

    terms : Key → Option ContentOf
    terms = put_key (put_key (λ k. None) s (Some (Child b false))) [] (Some (Child root false))

    at_right : put index top (put_key (put_key (λ k. None) s (Some (Child b false))) [] (Some (Child root false))) top s ≡ Some (Child b false)
    at_right = ap (λ (g : Key → Option ContentOf). g s) (put_same index top (put_key (put_key (λ k. None) s (Some (Child b false))) [] (Some (Child root false))))
        ∙ key_other (put_key (λ k. None) s (Some (Child b false))) [] (Some (Child root false)) s (λ e. not_self [] (rw e at some)) ∙ key_same (λ k. None) s (Some (Child b false))

    at_b : page' b ≡ Placed Indexed top s
    at_b = grind (arith, nat_tests, not)

    at_root : page' root ≡ Placed Indexed top []
    at_root = grind (arith, nat_tests, not, x.is_root)

-- a page goes on with the same term
pub exact_going : {page : ℕ → PageOwner} {index : ℕ → Key → Option ContentOf} {top root : ℕ} (b l : ℕ) (s : Key) (st st' : Stage)
    → page b ≡ Placed st l s → l < top → mark st b ≡ mark st' b → Exact page index top root → Exact (put page b (Placed st' l s)) index top root
exact_going {page} {index} {top} {root} b l s st st' was lt same x = record {
  gone = λ q a l' s'. grind (arith, nat_tests, x.gone);
  below = λ q l' s' st''. grind (arith, nat_tests, x.below);
  posted = λ q l' s' st'' i. grind (arith, nat_tests, x.posted);
  named = λ l' s' i e. let o = x.named l' s' i e in (o.0, by_equal (child_of i) b (λ j t. (st', grind (arith, nat_tests), grind (arith, nat_tests))) (λ j t. (o.1.0, rw t o.1.1, o.1.2)));
  others = λ q s' st''. grind (arith, nat_tests, x.others);
  is_root = grind (arith, nat_tests, x.is_root);
}
