-- What each step makes of what is in store.
use Rattle.tree_law.proofs.Words.{false, ◌⊎◌, [], ap, refl, Option, suc, None, List, true, inl, ◌≢◌, ◌≤◌, inr, subst, sym, ℕ, ◌≡◌, zero, ◌∙◌, ◌<◌, arith, Some, ◌+◌, Update, Reply, same_Some}
use Rattle.tree_law.proofs.Words.{option_map, Record, Memory, Answer, Whether, StepOf, Exchange, TakePid, ReusePids, Link, Step, is_among, Knowledge, learn, May, AreFitted, Owners, Linked}
use Rattle.tree_law.proofs.Words.{Shared, IsTree, shared_part, slot_in, row_in, Placed, PageOwner, Fresh, Keeps, Cleared, Phased, put, phase_of, free, eqb, IsAnswer, memory_after, IsUseful}
use Rattle.tree_law.proofs.Words.{IsInTree, IsReadyPage, link_of, link_without, IsHalved, ChangesTree, IsWorth, is_alive, life}
use Rattle.bw_model.specs.declared.step.Link.TheVariants as link
use Rattle.tree_law.proofs.shape.Puts.{by_equal, decided, eqb_true, put_other, put_same}
use Rattle.tree_law.proofs.shape.KeyOrder.{not_self}
use Rattle.tree_law.proofs.trace.Phasing.{link_empty, link_ready}
use Rattle.tree_law.proofs.links.Relinking.{placed_row}
use Rattle.tree_law.proofs.links.Stepping.{root_apart, slot_put}
use Rattle.tree_law.proofs.changes.Delta.{within_limit}
use Rattle.tree_law.proofs.changes.Linked.{Costs, linked, stored}
use Rattle.tree_law.proofs.changes.Steady.{clear_store, root_store, steady}

-- the memory after an exchange of a page's slot that won
exchanged : (m : Memory) (a p x y : ℕ) → eqb (m.slots (suc p)) x ≡ true
    → shared_part (memory_after a (Exchange (suc p) x y) m) ≡ record (shared_part m) { slots = put (slot_in m.slots) (suc p) (row_in y) }
exchanged m a p x y t = rw t (rw (put_other m.slots (suc p) y 0 (λ i. absurd (cc))) (rw (slot_put m.slots p y) refl))

-- and after one of slot 0
rooted_slots : (m : Memory) (a x y : ℕ) → eqb (m.slots 0) x ≡ true → (shared_part (memory_after a (Exchange 0 x y) m)).slots ≡ slot_in m.slots
rooted_slots m a x y t = rw t (root_apart m.slots y)

module _ (m : Memory) {log : List Update} {o : Owners} {knows : ℕ → Knowledge} {point : ℕ → Option (List Update)} {logs : ℕ → List (List Update)}
    (g : IsTree (shared_part m) log o knows point logs) (fitted : AreFitted o m.rows)
    (in_slots : (p q : ℕ) → slot_in m.slots p ≡ Some q → IsInTree (o.page p) ⊎ IsReadyPage o m knows p q) (a n : ℕ)
    (below : (page : ℕ) → (phase_of (o.page page) ≡ free) ⊎ ((0 < page) × (page < n))) (o' : Owners)
    (worths worths' : ℕ → ℕ) (each : (page : ℕ) → IsWorth o (shared_part m) page (worths page)) where
  abbrev k : Knowledge
  k = knows a

  abbrev before : ℕ
  before = stored n o (shared_part m) worths

  -- The step costs something, or it is no change and puts nothing into store.
  abbrev pub Result : Shared → StepOf Record → Answer Record → Option Reply → Type 0
  Result m' s x r = Costs before (stored n o' m' worths') k (learn k s x) ⊎ ((stored n o' m' worths' ≤ before) × (ChangesTree m (Step a s x r) → ⊥))

  abbrev AreWorth : Shared → Type 0
  AreWorth m' = (page : ℕ) → IsWorth o' m' page (worths' page)

  -- a page is as it was, or is worth nothing now
  abbrev Rests : Shared → ℕ → Type 0
  Rests m' page = ((o'.page page ≡ o.page page) × (m'.slots page ≡ slot_in m.slots page)) ⊎ ((is_alive (o'.page page) ≡ false) × (life (o'.page page) (m'.slots page) ≡ 0))

  -- each page rests, and nothing changes
  quiet : (m' : Shared) (s : StepOf Record) (x : Answer Record) (r : Option Reply) → ((row : ℕ) → o.row row ≡ Linked → m'.rows row ≡ m.rows row) → AreWorth m'
      → ((page : ℕ) → Rests m' page) → (ChangesTree m (Step a s x r) → ⊥) → Result m' s x r
  quiet m' s x r same each' rests never =
      let sinks : stored n o' m' worths' + 0 ≤ before = steady o o' (shared_part m) m' n g.closed same worths worths' each each' rests in
      inr ((omega arith), never)

  -- whose the pages are is as it was
  owned : o'.page ≡ o.page → (page : ℕ) → o'.page page ≡ o.page page
  owned moves page = rw moves

  -- the slot of an own page is set, or emptied
  own_slot : (p : ℕ) (slot : Option ℕ) (page : ℕ) → o'.page ≡ o.page → o.page (suc p) ≡ Keeps a → Rests (record (shared_part m) { slots = put (slot_in m.slots) (suc p) slot }) page
  own_slot p slot page moves own = by_equal page (suc p)
      (λ e t. let is : o'.page page ≡ Keeps a = owned moves page ∙ ap o.page e ∙ own in inr (ap is_alive is, ap (λ w. life w (put (slot_in m.slots) (suc p) slot page)) is))
      (λ ne t. inl (owned moves page, put_other (slot_in m.slots) (suc p) slot page ne))

  -- an exchange has one link
  of_link : (slot old new : ℕ) (x : Answer Record) (r : Option Reply) (kind : Link) → link_of m slot old new ≡ Some kind → (kind ≡ link.Ready) ⊎ (kind ≡ link.Undo)
      → ChangesTree m (Step a (Exchange slot old new) x r) → ⊥
  of_link slot old new x r kind is which (b, slot', old', new', kind', won, not_ready, not_undo) =
      let e = won.0.1 in
      let s : slot ≡ slot' = cc in
      let f : old ≡ old' = cc in
      let t : new ≡ new' = cc in
      let same : kind ≡ kind' = same_Some kind kind' (sym is ∙ (rw (s, f, t) won.1)) in
      elim which [ inl ready ↦ not_ready (sym same ∙ ready) | inr undo ↦ not_undo (sym same ∙ undo) ]

  emptied : (p x : ℕ) (r : Option Reply) → m.slots (suc p) ≡ suc x → Phased a (shared_part m) (Exchange (suc p) (suc x) zero) (Whether true) o.page o'.page
      → AreWorth (record (shared_part m) { slots = put (slot_in m.slots) (suc p) None }) → Result (record (shared_part m) { slots = put (slot_in m.slots) (suc p) None })
      (Exchange (suc p) (suc x) zero) (Whether true) r
  emptied p x r at (moves, inl own) each' = quiet _ _ _ r (λ row l. refl) each' (λ page. own_slot p None page moves own) (of_link (suc p) (suc x) 0 (Whether true) r link.Undo undone (inr refl))
    where
      undone : link_of m (suc p) (suc x) 0 ≡ Some link.Undo
      undone = elim (in_slots (suc p) (suc x) (ap row_in at)) [
        | inl tree ↦ absurd (rw own at tree)
        | inr ready ↦ link_empty m p x ∙ ap (option_map link_without) ready.stands
      ]
  emptied p x r at (moves, inr (l, s, gone)) each' =
      let m' : Shared = record (shared_part m) { slots = put (slot_in m.slots) (suc p) None } in
      let rests : (page : ℕ) → Rests m' page = (λ page. by_equal page (suc p)
      (λ e t. let is : o'.page page ≡ Cleared a l s = owned moves page ∙ ap o.page e ∙ gone in inr (ap is_alive is, rw (is, t) refl))
      (λ ne t. inl (owned moves page, put_other (slot_in m.slots) (suc p) None page ne))) in
      let over : life (o'.page (suc p)) (m'.slots (suc p)) ≡ 0 = rw (owned moves (suc p) ∙ gone, put_same (slot_in m.slots) (suc p) None) refl in
      inl (inl (clear_store o o' (shared_part m) m' n g.closed (λ row l. refl) worths worths' each each' (suc p) a l s (suc x)
      (within_limit n (suc p) (o.page (suc p)) (Cleared a l s) (below (suc p)) gone (λ e. cc)) gone (ap row_in at) rests over))

  rooted : (x y : ℕ) (r : Option Reply) (m' : Shared) → m'.slots ≡ slot_in m.slots → m'.rows ≡ m.rows → Phased a (shared_part m) (Exchange zero x y) (Whether true) o.page o'.page
      → AreWorth m' → Result m' (Exchange zero x y) (Whether true) r
  rooted x y r m' slots rows (b, l, s, top, right, own, moves, (row, level, ready, stands), above) each' =
      let some : s ≢ [] = (λ empty. not_self [] (rw empty at above)) in
      let same : (row : ℕ) → o.row row ≡ Linked → m'.rows row ≡ m.rows row = (λ row l. ap (λ (f : ℕ → Option Record). f row) rows) in
      inl (inl (root_store o o' (shared_part m) m' n g.closed same worths worths' each each' a y b l row level s
      (within_limit n b (o.page b) (Placed Fresh l s) (below b) right (λ e. cc)) right own moves slots some
      (ap (λ (f : ℕ → Option ℕ). f y) slots ∙ ready) x (ap (λ (f : ℕ → Option Record). f row) rows ∙ stands)))

  pub outcome : (s : StepOf Record) (x : Answer Record) (r : Option Reply) → May a k s → IsUseful k s → IsHalved k s → IsAnswer m s x → Phased a (shared_part m) s x o.page o'.page
      → ((row : ℕ) → o.row row ≡ Linked → (memory_after a s m).rows row ≡ m.rows row)
      → AreWorth (shared_part (memory_after a s m)) → Result (shared_part (memory_after a s m)) s x r
  outcome (TakePid q) (Whether true) r may useful halved is ph same each' = quiet _ _ _ r same each' (λ page. by_equal page q
      (λ e t. let now : o'.page page ≡ Keeps a = owned_at page q (Keeps a) ph e in inr (ap is_alive now, ap (λ w. life w (slot_in m.slots page)) now))
      (λ ne t. inl (ap (λ (f : ℕ → PageOwner). f page) ph ∙ put_other o.page q (Keeps a) page ne, refl))) (λ c. let e = c.5.0.1 in cc)
    where
      owned_at : (page q : ℕ) (w : PageOwner) → o'.page ≡ put o.page q w → page ≡ q → o'.page page ≡ w
      owned_at page q w moves e = rw moves (ap (put o.page q w) e ∙ put_same o.page q w)
  outcome (ReusePids word bits) x r may useful halved is ph same each' = quiet _ _ _ r same each' (λ page. elim (decided (is_among word bits page)) [
    | inl among ↦ let now = ((ph page).0 among).4 in inr (ap is_alive now, ap (λ w. life w (slot_in m.slots page)) now)
    | inr other ↦ inl ((ph page).1 other, refl)
  ]) (λ c. let e = c.5.0.1 in cc)
  outcome (Exchange zero old new) (Whether true) r may useful halved is ph same each' =
      let t : eqb (m.slots 0) old ≡ true = (let e : Whether true ≡ Whether (eqb (m.slots 0) old) = is in cc) in
      rooted old new r (shared_part (memory_after a (Exchange zero old new) m)) (rooted_slots m a old new t) refl ph each'
  outcome (Exchange (suc p) zero zero) (Whether true) r may useful halved is ph same each' = absurd may.1
  outcome (Exchange (suc p) zero (suc new)) (Whether true) r may useful halved is ph same each' =
      let t : eqb (m.slots (suc p)) zero ≡ true = (let e : Whether true ≡ Whether (eqb (m.slots (suc p)) zero) = is in cc) in
      subst (λ (w : Shared). AreWorth w → Result w (Exchange (suc p) zero (suc new)) (Whether true) r) (sym (exchanged m a p zero (suc new) t))
      (λ each''. quiet _ _ _ r (λ row l. refl) each'' (λ page. own_slot p (Some (suc new)) page ph.0 ph.1)
      (of_link (suc p) 0 (suc new) (Whether true) r link.Ready (link_ready m p (suc new)) (inl refl))) each'
  outcome (Exchange (suc p) (suc old) zero) (Whether true) r may useful halved is ph same each' =
      let t : eqb (m.slots (suc p)) (suc old) ≡ true = (let e : Whether true ≡ Whether (eqb (m.slots (suc p)) (suc old)) = is in cc) in
      subst (λ (w : Shared). AreWorth w → Result w (Exchange (suc p) (suc old) zero) (Whether true) r) (sym (exchanged m a p (suc old) zero t))
      (λ each''. emptied p old r (eqb_true (m.slots (suc p)) (suc old) t) ph each'') each'
  outcome (Exchange (suc p) (suc old) (suc new)) (Whether true) r may useful halved is ph same each' =
      let t : eqb (m.slots (suc p)) (suc old) ≡ true = (let e : Whether true ≡ Whether (eqb (m.slots (suc p)) (suc old)) = is in cc) in
      let held : m.slots (suc p) ≡ suc old = eqb_true (m.slots (suc p)) (suc old) t in
      let add = may.1 in
      let content : ph.0 ≡ add.content = same_Some ph.0 add.content (sym ph.1 ∙ placed_row g a (suc new) add.content add.placed) in
      let moves = rw content at ph.2 in
      subst (λ (w : Shared). AreWorth w → Result w (Exchange (suc p) (suc old) (suc new)) (Whether true) r) (sym (exchanged m a p (suc old) (suc new) t))
      (λ each''. inl (linked m g fitted a n below o' p old new held (ap row_in held) add worths worths' each each'' add.content add.placed add.fits add.due moves useful halved)) each'
  outcome (Exchange p old new) (Whether false) r may useful halved is ph same each' =
      let t : eqb (m.slots p) old ≡ false = (let e : Whether false ≡ Whether (eqb (m.slots p) old) = is in cc) in
      quiet _ _ _ r same each' (λ page. inl (owned ph page, rw t refl)) (λ c. let e = c.5.0.1 in cc)
  outcome (Exchange p old new) x r may useful halved is ph same each' = absurd (cc)
  outcome (TakePid q) x r may useful halved is ph same each' = quiet _ _ _ r same each' (λ page. inl (owned ph page, refl)) (λ c. let e = c.5.0.1 in cc)
  outcome s x r may useful halved is ph same each' = quiet _ _ _ r same each' (λ page. inl (owned ph page, refl)) (λ c. let e = c.5.0.1 in cc)
