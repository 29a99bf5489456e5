-- An exchange of a page's slot to a row: what it takes out of the tree, and what actors hold afterwards.
use Rattle.tree_law.proofs.Words.{false, ◌⊎◌, ap, refl, Option, suc, None, List, true, inl, ◌≢◌, inr, sym, ℕ, ◌≡◌, Bool, ◌∙◌, arith, Some, eqb, ⊎_elim, and-false, same_Some, IfSome}
use Rattle.tree_law.proofs.Words.{◌&&◌, Update, Limits, Exchange, Memory, replaced_at, next_row, Record, Base, IsOwn, Knowledge, is_on_walk, taken_out, next_seen, Key, IsHomed, Linked, Owners}
use Rattle.tree_law.proofs.Words.{Reached, Spare, Owner, SeenFits, PageOwner, Cleared, put, shared_part, slot_in, Times, Timed, times_after, LimboFits, Outing}
use Rattle.tree_law.proofs.Words.{out_after, is_linked, is_cleared, is_base}
use Rattle.tree_law.proofs.Words.{split_page, IsTree}
use Rattle.bw_model.specs.declared.step.Answer.TheVariants as answer
use Rattle.tree_law.proofs.links.Keeping.{slot_of}
use Rattle.tree_law.proofs.shape.{by_equal, eqb_same, eqb_apart, put_other, decided, next_linked, own_spare}
use Rattle.tree_law.proofs.links.Stepping.{slot_put}
use Rattle.tree_law.proofs.epochs.Timing.{IsLater, Turn, limbo_row}
use Rattle.tree_law.proofs.epochs.Timely.{linked}
use Rattle.std.proofs.lemmas.Bool.{and_parts}

pub tested_linked : (v : Owner) → is_linked v ≡ true → v ≡ Linked
tested_linked Linked e = refl
tested_linked v e = absurd (cc)

pub tested_cleared : (w : PageOwner) → is_cleared w ≡ true → (b l : ℕ) × (s : Key) × (w ≡ Cleared b l s)
tested_cleared (Cleared b l s) e = (b, l, s, refl)
tested_cleared _ e = absurd (cc)

-- a record over another is no base
over_no_base : (w : Record) (n : ℕ) → next_row w ≡ Some n → is_base (Some w) ≡ false
over_no_base (Base page) n e = absurd (cc)
over_no_base w n e = refl

module _ {limits : Limits} {m : Memory} {log : List Update} {o : Owners} {knows : ℕ → Knowledge} {point : ℕ → Option (List Update)}
    {logs : ℕ → List (List Update)} {now : ℕ} {t : Times} (g : IsTree (shared_part m) log o knows point logs) (T : Timed limits m o knows now t) (a : ℕ) where
  abbrev pub out_now : Outing
  out_now = record { at = now; epoch = m.epoch; who = a }

  pub later_out : (out : Option Outing) (b : Bool) → IsLater now m.epoch a out (out_after out b out_now)
  later_out None true = inr (refl, refl)
  later_out out b = inl refl

  -- what is out afterwards was out, or is taken out now
  pub out_cases : (out : Option Outing) (b : Bool) (w : Outing) → out_after out b out_now ≡ Some w → (out ≡ Some w) ⊎ ((out ≡ None) × (b ≡ true) × (w ≡ out_now))
  out_cases (Some v) b w e = inl e
  out_cases None true w e = inr (refl, refl, sym (same_Some out_now w e))
  out_cases None false w e = absurd (cc)

  pub spare_of : (b q : ℕ) → IsOwn ((knows b).own.rows q) → o.row q ≡ Spare b
  spare_of b q = own_spare (m.rows q) ((knows b).own.rows q) (g.owns b q)

  -- the row in the slot of a page of the tree is linked
  pub slot_linked : (q z l : ℕ) (s : Key) → Reached 0 l s (o.page q) → slot_in m.slots q ≡ Some z → o.row z ≡ Linked
  slot_linked q z l s r e = elim (slot_of g a q l s r) [
    | inl n ↦ absurd (cc n.0)
    | inr v ↦ rw (same_Some v.0 z (sym v.1 ∙ e)) at v.2.linked
  ]

  -- the rows of a chain as far as it was read are linked, and where its first one is
  pub on_walk : (h n : ℕ) (start : Option ℕ) (r : ℕ) → IfSome start (λ s. (o.row s ≡ Linked) × (t.home s ≡ h) × (t.row_out s ≡ None))
      → is_on_walk n (knows a).read.seen start r ≡ true → (o.row r ≡ Linked) × (t.home r ≡ h) × (t.row_out r ≡ None)
  on_walk h (suc n) (Some s) r f e = by_equal r s
      (λ i is. rw i f)
      (λ ne is. let v = rw is at e in on_walk h n (next_seen ((knows a).read.seen s)) r (under ((knows a).read.seen s) ((g.sound a).seen_fits s)) v)
    where
      at : (w : Record) → m.rows s ≡ Some w → (v : Option ℕ) → next_row w ≡ v → IfSome v (λ j. o.row j ≡ Linked) → IfSome v (λ j. (o.row j ≡ Linked) × (t.home j ≡ h) × (t.row_out j ≡ None))
      at w stands None i l = tt
      at w stands (Some j) i l = let c = T.together s j w f.0 stands i in (l, c.0 ∙ f.1, c.1 ∙ f.2)

      under : (v : Option Record) → SeenFits (o.row s) (m.rows s) v → IfSome (next_seen v) (λ j. (o.row j ≡ Linked) × (t.home j ≡ h) × (t.row_out j ≡ None))
      under None i = tt
      under (Some w) i = at w i.1 (next_row w) refl (next_linked o (shared_part m) g.closed s w i.0 i.1)
  on_walk h n start r f e = absurd (cc)

  -- The slot of page p + 1 goes from x to y + 1.
  module _ (p x y : ℕ) where
    abbrev pub m1 : Memory
    m1 = record m { slots = replaced_at (suc p) (suc y) m.slots }

    abbrev pub t1 : Times
    t1 = times_after a m o now (Exchange (suc p) x (suc y)) (answer.Whether true) t

    -- what the exchange does with owners
    pub record Filling (o' : Owners) : Type 0 where
      pub own : IsOwn ((knows a).own.rows (suc y))
      pub page_in : t.page_out (suc p) ≡ None
      pub under : (n : ℕ) (w : Record) → m.rows (suc y) ≡ Some w → next_row w ≡ Some n → (t.home n ≡ suc p) × (t.row_out n ≡ None) × (o.row n ≡ Linked)
      pub reached : (q l : ℕ) (s : Key) → Reached 0 l s (o'.page q)
          → Reached 0 l s (o.page q) ⊎ ((z : ℕ) → slot_in m.slots q ≡ Some z → IsOwn ((knows a).own.rows z) × (z ≢ suc y) × (q ≡ split_page (m.rows (suc y))))
      pub homed : (r : ℕ) → o'.row r ≡ Linked → (o.row r ≡ Linked) ⊎ IsHomed (shared_part m) (Exchange (suc p) x (suc y)) (answer.Whether true) r
      pub stay : (r : ℕ) → o.row r ≡ Linked → o'.row r ≡ Linked
      pub spare : (r b : ℕ) → o.row r ≡ Spare b → (o'.row r ≡ Spare b) ⊎ (o'.row r ≡ Linked)
      pub cleared : (q b l : ℕ) (s : Key) → o.page q ≡ Cleared b l s → o'.page q ≡ Cleared b l s

    pub home_linked : (r : ℕ) → o.row r ≡ Linked → t1.home r ≡ t.home r
    home_linked r l = rw l

    pub in_own : (b r : ℕ) → IsOwn ((knows b).own.rows r) → t1.row_out r ≡ None
    in_own b r i = rw (T.own_rows b r i, spare_of b r i, and-false (is_base (m.rows (suc y)))) refl

    in_beside : (r : ℕ) → t.row_out r ≡ None → t.home r ≢ suc p → t1.row_out r ≡ None
    in_beside r e ne = rw (e, eqb_apart (t.home r) (suc p) ne, and-false (is_linked (o.row r)), and-false (is_base (m.rows (suc y)))) refl

    module _ (o' : Owners) (k' : Knowledge) (inside : k'.inside ≡ (knows a).inside) (f : Filling o') where
      home_new : t1.home (suc y) ≡ suc p
      home_new = rw (spare_of a (suc y) f.own, eqb_same (suc y)) refl

      home_split : (z : ℕ) → IsOwn ((knows a).own.rows z) → z ≢ suc y → t1.home z ≡ split_page (m.rows (suc y))
      home_split z i ne = rw (spare_of a z i, eqb_apart z (suc y) ne) refl

      slots_after : (q z l : ℕ) (s : Key) → Reached 0 l s (o'.page q) → put (slot_in m.slots) (suc p) (Some (suc y)) q ≡ Some z → (t1.home z ≡ q) × (t1.row_out z ≡ None)
      slots_after q z l s r = by_equal q (suc p)
          (λ i t. rw t λ e. rw (← same_Some (suc y) z e) (home_new ∙ sym i, in_own a (suc y) f.own))
          (λ ne t. rw t λ e. elim (f.reached q l s r) [
            | inl old ↦ let b = T.slots q z l s old e in (home_linked z (slot_linked q z l s old e) ∙ b.0, in_beside z b.1 (λ i. ne (sym b.0 ∙ i)))
            | inr new ↦ let b = new z e in (home_split z b.0 b.1 ∙ sym b.2, in_own a z b.0)
          ])

      together_after : (r n : ℕ) (w : Record) → o'.row r ≡ Linked → m.rows r ≡ Some w → next_row w ≡ Some n → (t1.home n ≡ t1.home r) × (t1.row_out n ≡ t1.row_out r)
      together_after r n w l e i =
          let old : o.row r ≡ Linked → (t1.home n ≡ t1.home r) × (t1.row_out n ≡ t1.row_out r) = λ was.
          let c = T.together r n w was e i in
          rw ((rw i at (next_linked o (shared_part m) g.closed r w was e)), was, c.0, c.1) (refl, refl) in
          ⊎_elim old new (f.homed r l)
        where
          new : IsHomed (shared_part m) (Exchange (suc p) x (suc y)) (answer.Whether true) r → (t1.home n ≡ t1.home r) × (t1.row_out n ≡ t1.row_out r)
          new (inl h) =
              let at : m.rows (suc y) ≡ Some w = ap m.rows (sym h.1) ∙ e in
              let u = f.under n w at i in
              let out : t1.row_out n ≡ None = rw (u.1, at, over_no_base w n i) in (
                home_linked n u.2 ∙ u.0 ∙ sym (ap t1.home h.1 ∙ home_new),
                out ∙ sym (ap t1.row_out h.1 ∙ in_own a (suc y) f.own),
              )
          new (inr h) = absurd (let v = same_Some (Base h.1) w (sym h.4 ∙ e) in let z : next_row (Base h.1) ≡ Some n = ap next_row v ∙ i in cc)

      pub filling_turn : Turn T (linked g T a) a m1 o' k' t1
      filling_turn = record {
        rows_later = λ r. later_out (t.row_out r) (is_base (m.rows (suc y)) && (is_linked (o.row r) && eqb (t.home r) (suc p)));
        pages_later = λ q. inl refl;
        chains = λ r d l h. h;
        epoch = omega arith;
        announced = λ b ne. refl;
        entered = λ b ne. refl;
        passes = λ u lt h i. h (sym inside ∙ i);
        slots = λ q z l s r e. slots_after q z l s r (sym (ap (λ v. v q) (slot_put m.slots p (suc y))) ∙ e);
        together = together_after;
        rows = λ r w e. elim (out_cases (t.row_out r) (is_base (m.rows (suc y)) && (is_linked (o.row r) && eqb (t.home r) (suc p))) w e) [
          | inl u ↦ elim (T.rows r w u).0 [ inl v ↦ inl (f.stay r v) | inr v ↦ elim (f.spare r w.who v) [ inl z ↦ inr z | inr z ↦ inl z ] ]
          | inr u ↦ inl (f.stay r
              (tested_linked (o.row r) (and_parts (is_linked (o.row r)) (eqb (t.home r) (suc p)) (and_parts (is_base (m.rows (suc y))) (is_linked (o.row r) && eqb (t.home r) (suc p)) u.1).1).0))
        ];
        pages =
            λ q w e. let v = T.pages q w e in (
              (v.0.0, v.0.1, f.cleared q w.who v.0.0 v.0.1 v.0.2),
              ap (λ v. v q) (slot_put m.slots p (suc y)) ∙ put_other
                  (slot_in m.slots) (suc p) (Some (suc y)) q (λ i. absurd (cc f.page_in)) ∙ v.1,
            );
        own_rows = λ b r ne i. in_own b r i;
        gone_pages = λ b q ne. T.gone_pages b q;
      }

      -- the rows of the chain that a base is linked in the place of are in the actor's limbo
      pub base_limbo : is_base (m.rows (suc y)) ≡ true → (h : (o.row x ≡ Linked) × (t.home x ≡ suc p) × (t.row_out x ≡ None)) → (r : ℕ)
          → LimboFits a (λ c. (put knows a k' c).inside) t1.entered (t1.row_out r) (taken_out (knows a).read.seen x (knows a).limbo.rows r)
      base_limbo is h r = elim (decided (is_on_walk 13 (knows a).read.seen (Some x) r)) [
        | inl e ↦ let w = on_walk (suc p) 13 (Some x) r h e in rw e (out_now, rw (w.2, is, w.0, w.1, eqb_same (suc p)) refl, refl)
        | inr e ↦ rw e (limbo_row filling_turn a r)
      ]
