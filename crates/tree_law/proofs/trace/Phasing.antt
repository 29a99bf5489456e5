-- A step moves each PID from the phase that its owner says to the one that it says afterwards.
use Rattle.tree_law.proofs.Words.{false, ◌⊎◌, ap, refl, cond, Option, suc, None, List, true, inl, inr, ◌∷◌, sym, ℕ, ◌≡◌, Bool, zero, ◌∙◌, Some, eqb, same_Some, option_map, is_eq, if◌then◌else◌}
use Rattle.tree_law.proofs.Words.{key_cmp, Update, is_among, Reply, Answer, Whether, Link, StepOf, ReusePids, TakePid, Exchange, ContentOf, Child, record_link, Memory, Record, Remove, Base}
use Rattle.tree_law.proofs.Words.{Hold, Split, Merge, Term, Unterm, RemoveOf, IsChainFrom-unique, IsChainOf, right_in, May, root_over, Knowledge, IsAnswer, IsUnheld, Entry, Step, link_without}
use Rattle.tree_law.proofs.Words.{link_of, Wins, Installs, indexed, free, MovesPhase, removes, Phase, cleared, splits, merges, becomes_root, reuses, under_root, terms, holds, unterms, IsBelow}
use Rattle.tree_law.proofs.Words.{Owners, Nobody, Placed, Indexed, PageOwner, Cleared, Keeps, Fresh, Removed, Held, Merged, Phased, LinkMoves, put, shared_part, slot_in, row_in, IsReadyPage}
use Rattle.tree_law.proofs.Words.{phase_of, IsInTree, IsTree, [], owned}
use Rattle.tree_law.proofs.shape.{by_key, not_self, slot_some, eqb_true, eqb_apart, by_equal, put_same, put_other, decided}
use Rattle.bw_model.specs.declared.step.Link.TheVariants as link
use Rattle.base_page.specs.Pages as pages
use Rattle.linearization.specs.Phases.{fresh, MakesRoot, takes}

-- whether it is the link of a record in front of a chain
abbrev is_front : Link → Bool
is_front link.Root = false
is_front link.Ready = false
is_front link.Undo = false
is_front link.Clear = false
is_front kind = true

record_front : (w : Record) → is_front (record_link w) ≡ true
record_front (Base page) = refl
record_front w = refl

without_front : (w : Record) → is_front (link_without w) ≡ false
without_front (Base page) = refl
without_front w = refl

no_front : (k : Link) (w : Record) → is_front k ≡ false → Some k ≡ Some (record_link w) → ⊥
no_front k w e same = let f : is_front (record_link w) ≡ false = rw (same_Some k (record_link w) same) at e in let g = record_front w in cc

no_front_map : (v : Option Record) (w : Record) → option_map link_without v ≡ Some (record_link w) → ⊥
no_front_map None w same = cc
no_front_map (Some v) w same = no_front (link_without v) w (without_front v) same

clear_base : (base : pages.Page) (v : Option Record) → v ≡ Some (Base base) → option_map link_without v ≡ Some link.Clear → ⊥
clear_base base v e same = let f : Some link.Undo ≡ Some link.Clear = rw e at same in cc

not_zero : (n : ℕ) → eqb (suc n) 0 ≡ false
not_zero n = eqb_apart (suc n) 0 (λ e. absurd (cc))

-- the link of an exchange on a page, by its numbers
link_page : (m : Memory) (p old new : ℕ)
    → link_of m (suc p) old new ≡ cond (eqb old 0) (Some link.Ready) (cond (eqb new 0) (option_map link_without (m.rows old)) (option_map record_link (m.rows new)))
link_page m p old new = rw (not_zero p)

pub link_ready : (m : Memory) (p new : ℕ) → link_of m (suc p) 0 new ≡ Some link.Ready
link_ready m p new = link_page m p 0 new

pub link_empty : (m : Memory) (p old : ℕ) → link_of m (suc p) (suc old) 0 ≡ option_map link_without (m.rows (suc old))
link_empty m p old = link_page m p (suc old) 0 ∙ ap (λ t. cond t (Some link.Ready) (option_map link_without (m.rows (suc old)))) (not_zero old)

pub link_front : (m : Memory) (p old new : ℕ) → link_of m (suc p) (suc old) (suc new) ≡ option_map record_link (m.rows (suc new))
link_front m p old new =
    link_page m p (suc old) (suc new)
    ∙ ap (λ t. cond t (Some link.Ready) (cond (eqb (suc new) 0) (option_map link_without (m.rows (suc old))) (option_map record_link (m.rows (suc new))))) (not_zero old)
    ∙ ap (λ t. cond t (option_map link_without (m.rows (suc old))) (option_map record_link (m.rows (suc new)))) (not_zero new)

-- what is put at a place has its phase there
put_phase : (f f' : ℕ → PageOwner) (p : ℕ) (w : PageOwner) → f' ≡ put f p w → phase_of (f' p) ≡ phase_of w
put_phase f f' p w e = rw e (ap phase_of (put_same f p w))

-- what a new root has at its second key, and above its low key at no other one
abbrev children : List ℕ → ℕ → ℕ → List ℕ → Option ContentOf
children separator page right key = if is_eq (key_cmp key []) then Some (Child page false) else (if is_eq (key_cmp key separator) then Some (Child right false) else None)

at_second : (separator : List ℕ) (page right : ℕ) → IsBelow [] separator → children separator page right separator ≡ Some (Child right false)
at_second separator page right above = by_key separator []
    (λ same t. absurd (not_self [] (rw same at above)))
    (λ ne t. by_key separator separator (λ same u. rw (t, u)) (λ other u. absurd (other refl)))

second_child : (key separator : List ℕ) (page right pid : ℕ) (mark : Bool) → IsBelow [] key → children separator page right key ≡ Some (Child pid mark) → right ≡ pid
second_child key separator page right pid mark above said = by_key key []
    (λ same t. absurd (not_self [] (rw same at above)))
    (λ ne t. by_key key separator (λ same u. let e = rw (t, u) at said in cc) (λ other u. absurd (let e = rw (t, u) at said in cc)))

module _ (m : Memory) {log : List Update} {o : Owners} {knows : ℕ → Knowledge} {point : ℕ → Option (List Update)} {logs : ℕ → List (List Update)} (g : IsTree (shared_part m) log o knows point logs)
    (inhabited : (p q : ℕ) → slot_in m.slots p ≡ Some q → IsInTree (o.page p) ⊎ IsReadyPage o m knows p q) (a : ℕ) (s : StepOf Record) (x : Answer Record)
    (r : Option Reply) (may : May a (knows a) s) (is : IsAnswer m s x) (f' : ℕ → PageOwner) (ph : Phased a (shared_part m) s x o.page f') where
  abbrev last : Entry
  last = Step a s x r

  linked_by : (slot old new : ℕ) (w : Record) → s ≡ Exchange slot old new → x ≡ Whether true → link_of m slot old new ≡ Some (record_link w)
      → m.rows new ≡ Some w → (p : ℕ) × (slot ≡ suc p) × LinkMoves (shared_part m) a w (suc p) o.page f'
  linked_by zero old new w i j kind stands = absurd (no_front link.Root w refl kind)
  linked_by (suc p) zero new w i j kind stands = absurd (no_front link.Ready w refl (sym (link_ready m p new) ∙ kind))
  linked_by (suc p) (suc old) zero w i j kind stands = absurd (no_front_map (m.rows (suc old)) w (sym (link_empty m p old) ∙ kind))
  linked_by (suc p) (suc old) (suc new) w i j kind stands =
      let h : Phased a (shared_part m) (Exchange (suc p) (suc old) (suc new)) (Whether true) o.page f' = rw j at (rw i at ph) in
      (p, refl, rw (same_Some h.0 w (sym h.1 ∙ stands)) at h.2)

  -- the step is the exchange that put the record in front of a chain
  installed : (slot : ℕ) (w : Record) → Installs m last slot w → (p : ℕ) × (slot ≡ suc p) × LinkMoves (shared_part m) a w (suc p) o.page f'
  installed slot w (b, old, new, won, stands) = let e = won.0.1 in linked_by slot old new w (cc) (cc) won.1 stands

  rooted : (pid : ℕ) → MakesRoot m last pid → (old : ℕ) × Phased a (shared_part m) (Exchange 0 old pid) (Whether true) o.page f'
  rooted pid (b, old, won) =
      let e = won.0.1 in
      let i : s ≡ Exchange 0 old pid = cc in
      let j : x ≡ Whether true = cc in
      (old, rw j at (rw i at ph))

  taken : (pid : ℕ) → s ≡ TakePid pid → x ≡ Whether true → (phase_of (o.page pid) ≡ free) × (phase_of (f' pid) ≡ owned)
  taken pid i j =
      let h : f' ≡ put o.page pid (Keeps a) = rw j at (rw i at ph) in
      (ap phase_of (g.frees.page pid (cc ((rw i at is), j))).0, put_phase o.page f' pid (Keeps a) h)

  -- each move goes from the phase that the owner says
  pub moves_between : (pid : ℕ) (from to : Phase) → MovesPhase m last pid from to → (phase_of (o.page pid) ≡ from) × (phase_of (f' pid) ≡ to)
  moves_between pid from to (takes b step) = let e = step.1 in taken pid (cc) (cc)
  moves_between pid from to (splits slot split installs at) =
      let h = (installed slot (Split split) installs).2 in
      rw (← at) (ap phase_of h.4, put_phase o.page f' split.page (Placed Fresh h.1 split.separator) h.5)
  moves_between pid from to (becomes_root makes) =
      let h = (rooted pid makes).1 in
      (ap phase_of h.5, put_phase (put o.page h.0 (Placed Indexed h.1 h.2)) f' pid (Placed Indexed (suc h.1) []) h.6)
  moves_between pid from to (terms slot term installs at) =
      let h = (installed slot (Term term) installs).2 in
      rw (← at) (ap phase_of h.1, put_phase o.page f' term.child (Placed Indexed h.0 term.separator) h.2)
  moves_between pid from to (under_root root chain key mark makes stands above said) =
      let old = (rooted root makes).0 in
      let h = (rooted root makes).1 in
      let base = h.7 in
      let at : m.slots root ≡ base.0 = (slot_some m.slots root base.0 base.2).1 in
      let same : chain ≡ root_over base.1 old h.2 h.0 ∷ [] = IsChainFrom-unique m.rows (m.slots root) chain (root_over base.1 old h.2 h.0 ∷ []) stands.records (ap m.rows at ∙ base.3, refl) in
      let here : h.0 ≡ pid = second_child key h.2 old h.0 pid mark (rw same at above) (rw same at said) in
      rw (← here) (
        ap phase_of h.4,
        ap (λ (k : ℕ → PageOwner). phase_of (k h.0)) h.6 ∙ ap phase_of
            (put_other (put o.page h.0 (Placed Indexed h.1 h.2)) root (Placed Indexed (suc h.1) []) h.0 (λ i. absurd (cc (h.4, h.5))) ∙ put_same o.page h.0 (Placed Indexed h.1 h.2)),
      )
  moves_between pid from to (holds slot hold installs at) =
      let h = (installed slot (Hold hold) installs).2 in
      rw (← at) (ap phase_of h.1, put_phase o.page f' hold.child (Placed Held h.0 hold.separator) h.2)
  moves_between pid from to (removes remove installs) =
      let i = installed pid (Remove remove) installs in
      let h = i.2 in
      rw i.1 (ap phase_of h.2, put_phase o.page f' (suc i.0) (Placed Removed h.0 h.1) h.3)
  moves_between pid from to (merges slot merge chain installs stood right) =
      let i = installed slot (Merge merge) installs in
      let h = i.2 in
      let side = h.4 in
      let at : m.slots (suc i.0) ≡ side.0 = (slot_some m.slots (suc i.0) side.0 side.2).1 in
      let same : side.1 ≡ chain = IsChainFrom-unique m.rows side.0 side.1 chain side.3 (rw at at (rw i.1 at stood).records) in
      let here : h.0 ≡ pid = same_Some h.0 pid (sym side.4 ∙ ap right_in same ∙ right) in
      rw (← here) (ap phase_of h.2, put_phase o.page f' h.0 (Placed Merged h.1 merge.low) h.3)
  moves_between pid from to (unterms slot unterm installs at) =
      let h = (installed slot (Unterm unterm) installs).2 in
      rw (← at) (ap phase_of h.1, put_phase o.page f' unterm.child (Cleared a h.0 unterm.separator) h.2)
  moves_between pid from to (reuses b word bits answer step among) =
      let e = step.1 in
      let i : s ≡ ReusePids word bits = cc in
      let h = rw i at ph in
      let v = (h pid).0 among in
      (ap phase_of v.3, ap phase_of v.4)

  -- a page is removed only while no term of it is held
  pub removes_unheld : (pid : ℕ) (remove : RemoveOf) (chain : List Record) → Installs m last pid (Remove remove) → IsChainOf m pid chain → IsUnheld chain
  removes_unheld pid remove chain installs stood =
      let i = installed pid (Remove remove) installs in
      let bare = i.2.4 in
      let at : m.slots (suc i.0) ≡ bare.0 = (slot_some m.slots (suc i.0) bare.0 bare.2).1 in
      rw (IsChainFrom-unique m.rows bare.0 bare.1 chain bare.3 (rw at at (rw i.1 at stood).records)) at bare.4

  -- the slot of a removed page is emptied only when it is cleared
  pub clears_cleared : (b pid old : ℕ) → Wins m last b pid old 0 link.Clear → phase_of (o.page pid) ≡ cleared
  clears_cleared b pid old won = let e = won.0.1 in go pid old (cc) (cc) won.1
    where
      go : (pid old : ℕ) → s ≡ Exchange pid old 0 → x ≡ Whether true → link_of m pid old 0 ≡ Some link.Clear → phase_of (o.page pid) ≡ cleared
      go zero old i j kind = absurd (cc)
      go (suc p) zero i j kind = absurd (cc (link_ready m p 0))
      go (suc p) (suc old) i j kind =
          let at : m.slots (suc p) ≡ suc old = eqb_true (m.slots (suc p)) (suc old) (cc ((rw i at is), j)) in
          elim (rw j at (rw i at ph)).1 [
            | inl keeps ↦ elim (inhabited (suc p) (suc old) (ap row_in at)) [
              | inl tree ↦ absurd (rw keeps at tree)
              | inr ready ↦ absurd (clear_base ready.base (m.rows (suc old)) ready.stands (sym (link_empty m p old) ∙ kind))
            ]
            | inr out ↦ ap phase_of out.2
          ]

  -- the link of a record by the step
  installs_now : (p old new : ℕ) (w : Record) → s ≡ Exchange (suc p) (suc old) (suc new) → x ≡ Whether true → m.rows (suc new) ≡ Some w → Installs m last (suc p) w
  installs_now p old new w i j stands = (a, suc old, suc new, ((r, λ d. Step a (i d) (j d) r), link_front m p old new ∙ ap (option_map record_link) stands), stands)

  -- the page is moved by the step, or rests
  abbrev MovesOrRests : ℕ → Type 0
  MovesOrRests pid = MovesPhase m last pid (phase_of (o.page pid)) (phase_of (f' pid)) ⊎ (phase_of (f' pid) ≡ phase_of (o.page pid))

  -- a page whose phase is changed at one place
  moved_at : (q pid : ℕ) (from to : PageOwner) → o.page q ≡ from → f' ≡ put o.page q to → MovesPhase m last q (phase_of from) (phase_of to) → MovesOrRests pid
  moved_at q pid from to was now moves = by_equal pid q (λ i t. inl (rw (now, t, i, was) moves)) (λ ne t. inr (rw (now, t)))

  same_phase : (pid : ℕ) → f' ≡ o.page → MovesOrRests pid
  same_phase pid e = inr (rw e)

  by_link : (p old new : ℕ) (w : Record) → s ≡ Exchange (suc p) (suc old) (suc new) → x ≡ Whether true → m.rows (suc new) ≡ Some w
      → LinkMoves (shared_part m) a w (suc p) o.page f' → (pid : ℕ) → MovesOrRests pid
  by_link p old new (Split split) i j stands h pid =
      moved_at split.page pid (Keeps a) (Placed Fresh h.1 split.separator) h.4 h.5 (splits (suc p) split (installs_now p old new (Split split) i j stands) refl)
  by_link p old new (Term term) i j stands h pid =
      moved_at term.child pid (Placed Fresh h.0 term.separator) (Placed Indexed h.0 term.separator) h.1 h.2 (terms (suc p) term (installs_now p old new (Term term) i j stands) refl)
  by_link p old new (Hold hold) i j stands h pid =
      moved_at hold.child pid (Placed Indexed h.0 hold.separator) (Placed Held h.0 hold.separator) h.1 h.2 (holds (suc p) hold (installs_now p old new (Hold hold) i j stands) refl)
  by_link p old new (Remove remove) i j stands h pid = moved_at (suc p) pid (Placed Held h.0 h.1) (Placed Removed h.0 h.1) h.2 h.3 (removes remove (installs_now p old new (Remove remove) i j stands))
  by_link p old new (Merge merge) i j stands h pid =
      let side = h.4 in
      let at = slot_some m.slots (suc p) side.0 side.2 in
      moved_at h.0 pid (Placed Removed h.1 merge.low) (Placed Merged h.1 merge.low) h.2 h.3
      (merges (suc p) merge side.1 (installs_now p old new (Merge merge) i j stands) (record { page = at.0; linked = rw at.1 at.2; records = rw at.1 side.3 }) side.4)
  by_link p old new (Unterm unterm) i j stands h pid =
      moved_at unterm.child pid (Placed Merged h.0 unterm.separator) (Cleared a h.0 unterm.separator) h.1 h.2 (unterms (suc p) unterm (installs_now p old new (Unterm unterm) i j stands) refl)
  by_link p old new w i j stands h pid = same_phase pid h

  by_root : (old y : ℕ) → s ≡ Exchange 0 old y → x ≡ Whether true → Phased a (shared_part m) (Exchange 0 old y) (Whether true) o.page f' → (pid : ℕ) → MovesOrRests pid
  by_root old y i j h pid =
      let makes : MakesRoot m last y = (a, old, ((r, λ d. Step a (i d) (j d) r), refl)) in
      let under : MovesPhase m last h.0 fresh indexed =
      let base = h.7 in
      let at = slot_some m.slots y base.0 base.2 in
      let own : IsChainOf m y (root_over base.1 old h.2 h.0 ∷ []) = record { page = at.0; linked = rw at.1 at.2; records = (ap m.rows at.1 ∙ base.3, refl) } in
      under_root y (root_over base.1 old h.2 h.0 ∷ []) h.2 false makes own h.8 (at_second h.2 old h.0 h.8) in
      by_equal pid y
      (λ e t. inl (rw (h.6, t, e, h.5) (becomes_root makes)))
      (λ ne t. by_equal pid h.0 (λ e u. inl (rw (h.6, t, u, e, h.4) under)) (λ other u. inr (rw (h.6, t, u))))

  -- each PID is moved from phase to phase, or stays in its own
  pub moves_or_rests : (pid : ℕ) → MovesOrRests pid
  moves_or_rests pid = go s x refl refl may is ph
    where
      go : (t : StepOf Record) (y : Answer Record) → s ≡ t → x ≡ y → May a (knows a) t → IsAnswer m t y → Phased a (shared_part m) t y o.page f' → MovesOrRests pid
      go (TakePid q) (Whether true) i j h e ph' =
          moved_at q pid Nobody (Keeps a) (g.frees.page q cc).0 ph' (takes a (r, λ d. Step a (i d) (j d) r))
      go (TakePid q) (Whether false) i j h e ph' = same_phase pid ph'
      go (Exchange zero old new) (Whether true) i j h e ph' = by_root old new i j ph' pid
      go (Exchange (suc p) zero zero) (Whether true) i j h e ph' = absurd h.1
      go (Exchange (suc p) (suc old) (suc new)) (Whether true) i j h e ph' = by_link p old new ph'.0 i j ph'.1 ph'.2 pid
      go (Exchange (suc p) old new) (Whether true) i j h e ph' = same_phase pid ph'.0
      go (Exchange p old new) (Whether false) i j h e ph' = same_phase pid ph'
      go (ReusePids word bits) y i j h e ph' = elim (decided (is_among word bits pid)) [
        | inl k ↦ let v = (ph' pid).0 k in inl (rw (ap phase_of v.3) (rw (ap phase_of v.4) (reuses a word bits y (r, λ d. Step a (i d) (j d) r) k)))
        | inr k ↦ inr (ap phase_of ((ph' pid).1 k))
      ]
      go (Exchange p old new) y i j h e ph' = absurd (cc)
      go (TakePid q) y i j h e ph' = absurd (cc)
      go t y i j h e ph' = same_phase pid ph'
