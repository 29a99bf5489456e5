-- The spares, as rows and pages go from hand to hand.
use Rattle.change_machine.proofs.Words.{◌≡◌, ◌<◌, ◌∙◌, inl, inr, ℕ, List, [], ◌∷◌, ◌++◌, Bool, true, false, Option, Some, None, refl, sym, ap, subst, arith, cases_eq, replaced_at, Belongings}
use Rattle.change_machine.proofs.Words.{OwnPage, OwnRow, Foreign, Other, Empty, AreTheSpares, IsUnlinked, Spares, replaced_same, replaced_other}
use Rattle.std.proofs.Common.{◌==◌, cond}
use Rattle.std.specs.Prelude.{IfSome}
use Rattle.std.proofs.lemmas.Bool.{ne_eqb, eq-eqb}
use Rattle.std.proofs.lemmas.List.Elements.{Contains-append_cases, Contains-append_left, Contains-push, Contains-push_cases}
use Rattle.std.specs.List.{Contains}
use Rattle.traces.specs.discipline.Discipline.{IsOwn}
use Rattle.traces.specs.discipline.Knowledge.{Taken}
use Rattle.change_machine.specs.Spares.{AreSpare, IsNoneOf}

own_put : (b : Bool) (o p : OwnRow) → IsOwn o → IsOwn p → IsOwn (cond b o p)
own_put true o p h i = h
own_put false o p h i = i

-- a row is taken or written
pub spare_placed : (own : ℕ → OwnRow) (row : ℕ) (o : OwnRow) (spares : List ℕ) → IsOwn o → AreSpare own spares → AreSpare (replaced_at row o own) spares
spare_placed own row o [] h s = tt
spare_placed own row o (spare ∷ spares) h s = ((own_put (spare == row) o (own spare) h s.0.0, s.0.1), s.1, spare_placed own row o spares h s.2)

-- a row that is none of the spares is linked
pub spare_left : (own : ℕ → OwnRow) (row : ℕ) (spares : List ℕ) → IsNoneOf row spares → AreSpare own spares → AreSpare (replaced_at row Foreign own) spares
spare_left own row [] n s = tt
spare_left own row (spare ∷ spares) n s = ((rw n.0 s.0.0, s.0.1), s.1, spare_left own row spares n.1 s.2)

pub apart : (a b : ℕ) → (a == b) ≡ false → (b == a) ≡ false
apart a b h = ne_eqb b a (λ e. let i : (a == b) ≡ true = eq-eqb a b (sym e) in cc)

new_last : (row last : ℕ) (spares : List ℕ) → IsNoneOf row spares → (last == row) ≡ false → IsNoneOf row (spares ++ last ∷ [])
new_last row last [] n e = (e, tt)
new_last row last (spare ∷ spares) n e = (n.0, new_last row last spares n.1 e)

-- one more becomes the last spare
spare_kept : (own : ℕ → OwnRow) (row : ℕ) (spares : List ℕ) → AreSpare own (row ∷ spares) → AreSpare own (spares ++ row ∷ [])
spare_kept own row [] s = s
spare_kept own row (spare ∷ spares) s = (s.2.0, new_last spare row spares s.2.1 (apart spare row s.1.0), spare_kept own row spares (s.0, s.1.1, s.2.2))

new_front : (row last : ℕ) (spares : List ℕ) → IsNoneOf row (spares ++ last ∷ []) → IsNoneOf row spares × ((last == row) ≡ false)
new_front row last [] n = (tt, n.0)
new_front row last (spare ∷ spares) n = let rest = new_front row last spares n.1 in ((n.0, rest.0), rest.1)

-- the last spare as the first one
spare_taken : (own : ℕ → OwnRow) (row : ℕ) (spares : List ℕ) → AreSpare own (spares ++ row ∷ []) → AreSpare own (row ∷ spares)
spare_taken own row [] s = s
spare_taken own row (spare ∷ spares) s =
    let rest = spare_taken own row spares s.2 in
    let new = new_front spare row spares s.1 in
    (rest.0, (apart row spare new.1, rest.1), (s.0, new.0, rest.2))

-- a row that is not the actor's own is none of the spares
new_foreign : (own : ℕ → OwnRow) (row : ℕ) (spares : List ℕ) → own row ≡ Foreign → AreSpare own spares → IsNoneOf row spares
new_foreign own row [] e s = tt
new_foreign own row (spare ∷ spares) e s = (ne_eqb spare row (λ same. subst IsOwn (ap own same ∙ e) s.0.0), new_foreign own row spares e s.2)

-- what a list of one has
only : (row r : ℕ) → Contains (row ∷ []) r → row ≡ r
only row r h = elim (Contains-push_cases [] row r h) [ inl there ↦ absurd (let below = there.1 in omega (arith, below)) | inr same ↦ same ]

-- what is known of a spare PID holds where its page stays
kept : (pid : Option ℕ) (old new : ℕ → OwnPage) → ((page : ℕ) → pid ≡ Some page → new page ≡ old page) → IfSome pid (λ page. (0 < page) × IsUnlinked (old page))
    → IfSome pid (λ page. (0 < page) × IsUnlinked (new page))
kept None old new same h = tt
kept (Some page) old new same h = (h.0, subst IsUnlinked (sym (same page refl)) h.1)

module _ (own : Belongings) (spares : Spares) (h : AreTheSpares own spares) where
  -- a row is taken
  pub row_taken : (row : ℕ) → 0 < row → own.rows row ≡ Foreign → AreTheSpares (record own { rows = replaced_at row Taken own.rows }) (record spares { rows = spares.rows ++ row ∷ [] })
  row_taken row some e = record {
    rows =
        spare_kept (replaced_at row Taken own.rows) row spares.rows
        ((subst IsOwn (sym (replaced_same row Taken own.rows)) tt, some), new_foreign own.rows row spares.rows e h.rows, spare_placed own.rows row Taken spares.rows tt h.rows);
    all_rows = λ r is. elim (cases_eq r row) [
      | inl same ↦ rw same (Contains-push spares.rows row)
      | inr other ↦ Contains-append_left spares.rows (row ∷ []) r (h.all_rows r (subst IsOwn (replaced_other row Taken own.rows r other) is))
    ];
    page = h.page;
    all_pages = h.all_pages;
  }

  -- a record is placed in a row
  pub row_placed : (row : ℕ) (o : OwnRow) → IsOwn o → IsOwn (own.rows row) → AreTheSpares (record own { rows = replaced_at row o own.rows }) spares
  row_placed row o is was = record {
    rows = spare_placed own.rows row o spares.rows is h.rows;
    all_rows = λ r now. elim (cases_eq r row) [
      | inl same ↦ h.all_rows r (rw same was)
      | inr other ↦ h.all_rows r (subst IsOwn (replaced_other row o own.rows r other) now)
    ];
    page = h.page;
    all_pages = h.all_pages;
  }

  -- a PID is taken where none is spare
  pub pid_taken : (pid : ℕ) → 0 < pid → spares.pid ≡ None → AreTheSpares (record own { pages = replaced_at pid Empty own.pages }) (record spares { pid = Some pid })
  pid_taken pid some none = record {
    rows = h.rows;
    all_rows = h.all_rows;
    page = (some, subst IsUnlinked (sym (replaced_same pid Empty own.pages)) tt);
    all_pages = λ page is. elim (cases_eq page pid) [
      | inl same ↦ ap Some (sym same)
      | inr other ↦ absurd (let i : spares.pid ≡ Some page = h.all_pages page (subst IsUnlinked (replaced_other pid Empty own.pages page other) is) in cc)
    ];
  }

  -- the new page's slot is set, or emptied again
  pub page_moved : (pid : ℕ) (o : OwnPage) → 0 < pid → spares.pid ≡ Some pid → IsUnlinked o → AreTheSpares (record own { pages = replaced_at pid o own.pages }) spares
  page_moved pid o some is now = record {
    rows = h.rows;
    all_rows = h.all_rows;
    page = rw is (some, subst IsUnlinked (sym (replaced_same pid o own.pages)) now);
    all_pages = λ page was. elim (cases_eq page pid) [
      | inl same ↦ is ∙ ap Some (sym same)
      | inr other ↦ h.all_pages page (subst IsUnlinked (replaced_other pid o own.pages page other) was)
    ];
  }

  -- the new page is linked
  pub page_linked : (pid : ℕ) → spares.pid ≡ Some pid → AreTheSpares (record own { pages = replaced_at pid Other own.pages }) (record spares { pid = None })
  page_linked pid is = record {
    rows = h.rows;
    all_rows = h.all_rows;
    page = tt;
    all_pages = λ page was. elim (cases_eq page pid) [
      | inl same ↦ absurd (subst IsUnlinked (ap (replaced_at pid Other own.pages) same ∙ replaced_same pid Other own.pages) was)
      | inr other ↦ absurd (let i : spares.pid ≡ Some page = h.all_pages page (subst IsUnlinked (replaced_other pid Other own.pages page other) was) in other (cc))
    ];
  }

  -- a page that isn't the spare one is the actor's, and not to link
  pub page_gone : (pid : ℕ) (o : OwnPage) → (spares.pid ≡ Some pid → ⊥) → (IsUnlinked o → ⊥) → AreTheSpares (record own { pages = replaced_at pid o own.pages }) spares
  page_gone pid o other gone = record {
    rows = h.rows;
    all_rows = h.all_rows;
    page = kept spares.pid own.pages (replaced_at pid o own.pages) (λ page is. replaced_other pid o own.pages page (λ same. other (is ∙ ap Some same))) h.page;
    all_pages = λ page was. elim (cases_eq page pid) [
      | inl same ↦ absurd (gone (subst IsUnlinked (ap (replaced_at pid o own.pages) same ∙ replaced_same pid o own.pages) was))
      | inr apart ↦ h.all_pages page (subst IsUnlinked (replaced_other pid o own.pages page apart) was)
    ];
  }

  -- the last row is linked, or the first one
  pub last_linked : (row : ℕ) (front : List ℕ) → spares.rows ≡ front ++ row ∷ [] → AreTheSpares (record own { rows = replaced_at row Foreign own.rows }) (record spares { rows = front })
  last_linked row front is =
      let taken = spare_taken own.rows row front (subst (AreSpare own.rows) is h.rows) in
      record {
        rows = spare_left own.rows row front taken.1 taken.2;
        all_rows = λ r was. elim (cases_eq r row) [
          | inl same ↦ absurd (subst IsOwn (ap (replaced_at row Foreign own.rows) same ∙ replaced_same row Foreign own.rows) was)
          | inr other ↦ elim (Contains-push_cases front row r (rw (← is) (h.all_rows r (subst IsOwn (replaced_other row Foreign own.rows r other) was)))) [
            | inl there ↦ there
            | inr same ↦ absurd (other (sym same))
          ]
        ];
        page = h.page;
        all_pages = h.all_pages;
      }

  pub first_linked : (row : ℕ) (rest : List ℕ) → spares.rows ≡ row ∷ rest → AreTheSpares (record own { rows = replaced_at row Foreign own.rows }) (record spares { rows = rest })
  first_linked row rest is =
      let own_rows : AreSpare own.rows (row ∷ rest) = subst (AreSpare own.rows) is h.rows in
      record {
        rows = spare_left own.rows row rest own_rows.1 own_rows.2;
        all_rows = λ r was. elim (cases_eq r row) [
          | inl same ↦ absurd (subst IsOwn (ap (replaced_at row Foreign own.rows) same ∙ replaced_same row Foreign own.rows) was)
          | inr other ↦ elim (Contains-append_cases (row ∷ []) rest r (subst (λ held. Contains held r) is (h.all_rows r (subst IsOwn (replaced_other row Foreign own.rows r other) was)))) [
            | inl first ↦ absurd (other (sym (only row r first)))
            | inr there ↦ there
          ]
        ];
        page = h.page;
        all_pages = h.all_pages;
      }
