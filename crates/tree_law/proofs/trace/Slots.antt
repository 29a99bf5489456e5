-- Which slots hold rows, after a step.
use Rattle.tree_law.proofs.Words.{false, ◌⊎◌, ap, refl, Option, suc, None, List, true, inl, ◌≢◌, inr, sym, ℕ, ◌≡◌, zero, ◌∙◌, Some, eqb, same_Some, Update, Reply, Answer, Whether}
use Rattle.tree_law.proofs.Words.{Content, Number, StepOf, ReuseRows, ReusePids, TakePid, Row, Place, TakeRow, Slot, Epoch, PidBits, Exchange, RowBits, Announce, Memory, replaced_at, Record, Remove}
use Rattle.tree_law.proofs.Words.{Base, Hold, Split, Merge, Term, Unterm, low_in, level_in, May, IsOwn, MayExchange, IsOwnBase, Knowledge, after_reply, Ready}
use Rattle.tree_law.proofs.Words.{learn, Empty, OwnPage, Other, Gone, Written}
use Rattle.tree_law.proofs.Words.{after_filling, after_root, OwnRow, after_emptying, after_exchange, split_off, linked_over, IsAnswer, memory_after, Key}
use Rattle.tree_law.proofs.Words.{IsReuse, IsMoved, Linked, Owners, Reached, Spare, OwnFits}
use Rattle.tree_law.proofs.Words.{Placed, Indexed, PageOwner, Cleared, Keeps, Fresh, Removed, Held, Merged, Stage, Phased, LinkMoves, put, shared_part, slot_in}
use Rattle.tree_law.proofs.Words.{Shared, IsReadyPage, IsInTree, IsTree, []}
use Rattle.base_page.specs.Pages as pages
use Rattle.tree_law.proofs.shape.{by_equal, put_same, put_other, own_spare}
use Rattle.tree_law.proofs.links.Stepping.{root_apart, slot_put}

-- a page that was placed at one place is in the tree
put_in_tree : (f : ℕ → PageOwner) (q p : ℕ) (st : Stage) (l : ℕ) (k : Key) → IsInTree (f p) → IsInTree (put f q (Placed st l k) p)
put_in_tree f q p st l k h = by_equal p q (λ e t. rw t tt) (λ ne t. rw t h)

put_cleared : (f : ℕ → PageOwner) (q p b l : ℕ) (k : Key) → IsInTree (f p) → IsInTree (put f q (Cleared b l k) p)
put_cleared f q p b l k h = by_equal p q (λ e t. rw t tt) (λ ne t. rw t h)

here_in_tree : (f : ℕ → PageOwner) (q : ℕ) (st : Stage) (l : ℕ) (k : Key) → IsInTree (put f q (Placed st l k) q)
here_in_tree f q st l k = rw (put_same f q (Placed st l k)) tt

-- what is in the tree stays in it when a record is linked
links_in_tree : (m : Shared) (a : ℕ) (w : Record) (q : ℕ) (f f' : ℕ → PageOwner) → LinkMoves m a w q f f' → (p : ℕ) → IsInTree (f p) → IsInTree (f' p)
links_in_tree m a (Term term) q f f' h p i = rw h.2 (put_in_tree f term.child p Indexed h.0 term.separator i)
links_in_tree m a (Hold hold) q f f' h p i = rw h.2 (put_in_tree f hold.child p Held h.0 hold.separator i)
links_in_tree m a (Unterm unterm) q f f' h p i = rw h.2 (put_cleared f unterm.child p a h.0 unterm.separator i)
links_in_tree m a (Split split) q f f' h p i = rw h.5 (put_in_tree f split.page p Fresh h.1 split.separator i)
links_in_tree m a (Remove remove) q f f' h p i = rw h.3 (put_in_tree f q p Removed h.0 h.1 i)
links_in_tree m a (Merge merge) q f f' h p i = rw h.3 (put_in_tree f h.0 p Merged h.1 merge.low i)
links_in_tree m a w q f f' h p i = rw h i

pub reached_in_tree : (r l : ℕ) (k : Key) (w : PageOwner) → Reached r l k w → IsInTree w
reached_in_tree r l k (Placed st l' k') h = tt
reached_in_tree r l k (Cleared b l' k') h = tt
reached_in_tree r l k w h = h

module _ (m : Memory) {log : List Update} {o : Owners} {knows : ℕ → Knowledge} {point : ℕ → Option (List Update)} {logs : ℕ → List (List Update)} (g : IsTree (shared_part m) log o knows point logs)
    (held : (p q : ℕ) → slot_in m.slots p ≡ Some q → IsInTree (o.page p) ⊎ IsReadyPage o m knows p q) (a : ℕ) (o' : Owners)
    (kept : (q : ℕ) → o.row q ≡ Linked → (o'.row q ≡ Linked)) (moved : (q : ℕ) → IsMoved a (m.free_rows q) (o.row q) (o'.row q)) where
  -- whose the row is that is a base in a slot
  spare_after : (b q : ℕ) → o.row q ≡ Spare b → (o'.row q ≡ Linked) ⊎ (o'.row q ≡ Spare b)
  spare_after b q e = elim (moved q) [
    | inl same ↦ inr (same ∙ e)
    | inr more ↦ elim more [ inl h ↦ absurd (cc h.1) | inr h ↦ inl h.1 ]
  ]

  owned_after : (b q : ℕ) → (o.row q ≡ Linked) ⊎ (o.row q ≡ Spare b) → (o'.row q ≡ Linked) ⊎ (o'.row q ≡ Spare b)
  owned_after b q (inl l) = inl (kept q l)
  owned_after b q (inr e) = spare_after b q e

  -- What is ready stays so for the other actors, and for this one where it still knows it so.
  ready_after : (m' : Memory) (k : Knowledge) (p q : ℕ) → (h : IsReadyPage o m knows p q)
      → ((o.row q ≡ Linked) ⊎ (o.row q ≡ Spare h.actor) → m'.rows q ≡ m.rows q) → (h.actor ≡ a → k.own.pages p ≡ Ready q)
      → IsReadyPage o' m' (put knows a k) p q
  ready_after m' k p q h same still = record {
    actor = h.actor;
    ready = by_equal h.actor a (λ e t. rw t (still e)) (λ ne t. rw t h.ready);
    owned = owned_after h.actor q h.owned;
    base = h.base;
    stands = same h.owned ∙ h.stands;
  }

  -- after a step that leaves slots, and pages of the actor
  still : (m' : Memory) (k : Knowledge) → m'.rows ≡ m.rows → o'.page ≡ o.page → k.own.pages ≡ (knows a).own.pages → (p q : ℕ) → slot_in m.slots p ≡ Some q
      → IsInTree (o'.page p) ⊎ IsReadyPage o' m' (put knows a k) p q
  still m' k rows same pages p q e = elim (held p q e) [
    | inl h ↦ inl (rw same h)
    | inr h ↦ inr (ready_after m' k p q h (λ i. ap (λ f. f q) rows) (λ i. ap (λ f. f p) pages ∙ (rw i at h.ready)))
  ]

  -- a page whose kind is known to the actor after a change at another page
  with_other : (v : OwnPage) (n p q : ℕ) → p ≢ n → (knows a).own.pages p ≡ Ready q → put (knows a).own.pages n v p ≡ Ready q
  with_other v n p q ne e = put_other (knows a).own.pages n v p ne ∙ e

  -- a row that is linked on a page
  module _ (n x y : ℕ) (r : Option Reply) (w : Record) (stands : m.rows (suc y) ≡ Some w) (links : LinkMoves (shared_part m) a w (suc n) o.page o'.page) (in_tree : IsInTree (o.page (suc n))) where
    -- a page that is ready is so afterwards, or in the tree
    linked_ready : (v : OwnRow) → OwnFits a (o.row (suc y)) (m.rows (suc y)) v → (p q : ℕ) → (knows a).own.pages p ≡ Ready q
        → IsInTree (o'.page p) ⊎ ((linked_over v (suc x) (suc y) (knows a)).own.pages p ≡ Ready q)
    linked_ready (Written (Split split)) fits p q e =
        let h = rw (same_Some w (Split split) (sym stands ∙ fits.1)) at links in
        elim ((knows a).own.pages split.page) as (λ z. IsInTree (o'.page p) ⊎ ((split_off z split.page (suc y) (knows a)).own.pages p ≡ Ready q)) [
          | Ready base ↦ by_equal p split.page
              (λ i t. rw t (inl (rw h.5 (rw i (here_in_tree o.page split.page Fresh h.1 split.separator)))))
              (λ ne t. rw t (inr e))
          | v ↦ inr e
        ]
    linked_ready (Written (Unterm unterm)) fits p q e =
        let h = rw (same_Some w (Unterm unterm) (sym stands ∙ fits.1)) at links in
        by_equal p unterm.child
        (λ i t. rw t (inl (rw h.2 (rw i (rw (put_same o.page unterm.child (Cleared a h.0 unterm.separator)) tt)))))
        (λ ne t. rw t (inr e))
    linked_ready (Written (Base page)) fits p q e = inr e
    linked_ready v fits p q e = inr e

    filled_ready : (v : OwnPage) (p q : ℕ) → p ≢ suc n → (knows a).own.pages p ≡ Ready q → IsInTree (o'.page p) ⊎ ((after_filling v (suc n) (suc x) (suc y) (knows a)).own.pages p ≡ Ready q)
    filled_ready Other p q ne e = linked_ready ((knows a).own.rows (suc y)) (g.owns a (suc y)) p q e
    filled_ready Empty p q ne e = inr (with_other (Ready (suc y)) (suc n) p q ne e)
    filled_ready v p q ne e = inr e

    linking : (m' : Memory) → m'.rows ≡ m.rows → (p q : ℕ) → put (slot_in m.slots) (suc n) (Some (suc y)) p ≡ Some q
        → IsInTree (o'.page p) ⊎ IsReadyPage o' m' (put knows a (after_reply (after_exchange (suc n) (suc x) (suc y) (knows a)) r)) p q
    linking m' rows p q e = by_equal p (suc n)
        (λ i is. inl (links_in_tree (shared_part m) a w (suc n) o.page o'.page links p (rw i in_tree)))
        (λ ne is. let f = rw is at e in elim (held p q f) [
          | inl h ↦ inl (links_in_tree (shared_part m) a w (suc n) o.page o'.page links p h)
          | inr h ↦ by_equal h.actor a
              (λ i t. elim (filled_ready ((knows a).own.pages (suc n)) p q ne (rw i at h.ready)) [
                | inl tree ↦ inl tree
                | inr known ↦ inr (ready_after m' (after_reply (after_exchange (suc n) (suc x) (suc y) (knows a)) r) p q h (λ j. ap (λ f. f q) rows) (λ j. known))
              ])
              (λ other t. inr (ready_after m' (after_reply (after_exchange (suc n) (suc x) (suc y) (knows a)) r) p q h (λ j. ap (λ f. f q) rows) (λ j. absurd (other j))))
        ])

  abbrev Holds : Memory → Knowledge → Type 0
  Holds m' k = (p q : ℕ) → slot_in m'.slots p ≡ Some q → IsInTree (o'.page p) ⊎ IsReadyPage o' m' (put knows a k) p q

  -- a base in a row of its own
  own_base : (q : ℕ) (v : OwnRow) → OwnFits a (o.row q) (m.rows q) v → IsOwnBase v → (o.row q ≡ Spare a) × ((base : pages.Page) × (m.rows q ≡ Some (Base base)))
  own_base q (Written (Base page)) fits h = (fits.0, (page, fits.1))
  own_base q v fits h = absurd h

  readies : (n y : ℕ) (r : Option Reply) → (knows a).own.pages (suc n) ≡ Empty → IsOwnBase ((knows a).own.rows (suc y)) → o'.page ≡ o.page → (p q : ℕ)
      → put (slot_in m.slots) (suc n) (Some (suc y)) p ≡ Some q
      → IsInTree (o'.page p) ⊎ IsReadyPage o' (record m { slots = replaced_at (suc n) (suc y) m.slots }) (put knows a (after_reply (after_exchange (suc n) zero (suc y) (knows a)) r)) p q
  readies n y r empty base same p q e = rw empty (by_equal p (suc n)
      (λ i t. let f = rw t at e in let at : suc y ≡ q = same_Some (suc y) q f in let own = own_base (suc y) ((knows a).own.rows (suc y)) (g.owns a (suc y)) base in inr (record {
        actor = a;
        ready = rw (put_same knows a k) (rw i (put_same (knows a).own.pages (suc n) (Ready (suc y)) ∙ ap Ready at));
        owned = owned_after a q (inr (rw at at own.0));
        base = own.1.0;
        stands = rw (← at) own.1.1;
      }))
      (λ ne t. let f = rw t at e in elim (held p q f) [
        | inl h ↦ inl (rw same h)
        | inr h ↦ inr (ready_after (record m { slots = replaced_at (suc n) (suc y) m.slots }) k p q h (λ j. refl) (λ j. with_other (Ready (suc y)) (suc n) p q ne (rw j at h.ready)))
      ]))
    where
      k : Knowledge
      k = after_reply (after_filling Empty (suc n) zero (suc y) (knows a)) r

  emptied_ready : (v : OwnPage) (n x p q : ℕ) → p ≢ n → (knows a).own.pages p ≡ Ready q → (after_emptying v n x (knows a)).own.pages p ≡ Ready q
  emptied_ready (Ready base) n x p q ne e = with_other Empty n p q ne e
  emptied_ready Gone n x p q ne e = with_other Other n p q ne e
  emptied_ready v n x p q ne e = e

  empties : (n x : ℕ) (r : Option Reply) (m' : Memory) → m'.rows ≡ m.rows → o'.page ≡ o.page → (p q : ℕ) → put (slot_in m.slots) (suc n) None p ≡ Some q
      → IsInTree (o'.page p) ⊎ IsReadyPage o' m' (put knows a (after_reply (after_exchange (suc n) (suc x) zero (knows a)) r)) p q
  empties n x r m' rows same p q e = by_equal p (suc n)
      (λ i t. absurd (let f = rw t at e in cc))
      (λ ne t. let f = rw t at e in elim (held p q f) [
        | inl h ↦ inl (rw same h)
        | inr h ↦ inr (ready_after m' (after_reply (after_exchange (suc n) (suc x) zero (knows a)) r) p q h (λ j. ap (λ f. f q) rows)
            (λ j. emptied_ready ((knows a).own.pages (suc n)) (suc n) (suc x) p q ne (rw j at h.ready)))
      ])

  rooted_ready : (v : OwnPage) (n p q : ℕ) → p ≢ n → (knows a).own.pages p ≡ Ready q → (after_root v n (knows a)).own.pages p ≡ Ready q
  rooted_ready (Ready base) n p q ne e = with_other Other n p q ne e
  rooted_ready v n p q ne e = e

  roots : (x y : ℕ) (r : Option Reply) (m' : Memory) → m'.rows ≡ m.rows → (b l : ℕ) (k : Key) → o'.page ≡ put (put o.page b (Placed Indexed l k)) y (Placed Indexed (suc l) []) → (p q : ℕ)
      → slot_in m.slots p ≡ Some q → IsInTree (o'.page p) ⊎ IsReadyPage o' m' (put knows a (after_reply (after_exchange zero x y (knows a)) r)) p q
  roots x y r m' rows b l k same p q e = elim (held p q e) [
    | inl h ↦ inl (rw same (put_in_tree (put o.page b (Placed Indexed l k)) y p Indexed (suc l) [] (put_in_tree o.page b p Indexed l k h)))
    | inr h ↦ by_equal p y
        (λ i t. inl (rw same (rw i (here_in_tree (put o.page b (Placed Indexed l k)) y Indexed (suc l) []))))
        (λ ne t. inr (ready_after m' (after_reply (after_exchange zero x y (knows a)) r) p q h (λ j. ap (λ f. f q) rows) (λ j. rooted_ready ((knows a).own.pages y) y p q ne (rw j at h.ready))))
  ]

  exchange_won : (p x y : ℕ) (r : Option Reply) → MayExchange a (knows a) p x y → Phased a (shared_part m) (Exchange p x y) (Whether true) o.page o'.page
      → Holds (record m { slots = replaced_at p y m.slots }) (after_reply (after_exchange p x y (knows a)) r)
  exchange_won zero x y r may ph p q e = roots x y r (record m { slots = replaced_at 0 y m.slots }) refl ph.0 ph.1 ph.2 ph.6 p q (rw (root_apart m.slots y) at e)
  exchange_won (suc n) zero zero r may ph p q e = absurd may
  exchange_won (suc n) zero (suc y) r may ph p q e = readies n y r may.0 may.1 ph.0 p q (rw (slot_put m.slots n (suc y)) at e)
  exchange_won (suc n) (suc x) zero r may ph p q e = empties n x r (record m { slots = replaced_at (suc n) zero m.slots }) refl ph.0 p q (rw (slot_put m.slots n zero) at e)
  exchange_won (suc n) (suc x) (suc y) r may ph p q e =
      let h = rw may.basis.head at ((g.sound a).heads_fit (suc n)) in
      linking n x y r ph.0 ph.1 ph.2 (reached_in_tree 0 (level_in h.2.chain) (low_in h.2.chain) (o.page (suc n)) h.3)
      (record m { slots = replaced_at (suc n) (suc y) m.slots }) refl p q (rw (slot_put m.slots n (suc y)) at e)

  takes : (n : ℕ) (r : Option Reply) → m.free_pids n ≡ true → o'.page ≡ put o.page n (Keeps a) → Holds (memory_after a (TakePid n) m) (after_reply (learn (knows a) (TakePid n) (Whether true)) r)
  takes n r free same p q e = by_equal p n
      (λ i t. absurd (let none = (g.frees.page n free).1 in let f : slot_in m.slots n ≡ Some q = rw i at e in cc))
      (λ ne t. elim (held p q e) [
        | inl h ↦ inl (rw same (rw (put_other o.page n (Keeps a) p ne) h))
        | inr h ↦ inr (ready_after (memory_after a (TakePid n) m) (after_reply (learn (knows a) (TakePid n) (Whether true)) r) p q h (λ j. refl) (λ j. with_other Empty n p q ne (rw j at h.ready)))
      ])

  places : (n : ℕ) (w : Record) (x : Answer Record) (r : Option Reply) → IsOwn ((knows a).own.rows n) → ((page : ℕ) → (knows a).own.pages page ≡ Ready n → ⊥)
      → o'.page ≡ o.page → Holds (memory_after a (Place n w) m) (after_reply (learn (knows a) (Place n w) x) r)
  places n w x r own never same p q e = elim (held p q e) [
    | inl h ↦ inl (rw same h)
    | inr h ↦ inr (ready_after (memory_after a (Place n w) m) (after_reply (learn (knows a) (Place n w) x) r) p q h
        (λ owned. put_other m.rows n (Some w) q (λ i. elim owned [
          | inl l ↦ let mine = (own_spare (m.rows n) ((knows a).own.rows n) (g.owns a n) own) in let l' : o.row n ≡ Linked = rw i at l in absurd (cc)
          | inr s ↦
              let mine = (own_spare (m.rows n) ((knows a).own.rows n) (g.owns a n) own) in
              let his : o.row n ≡ Spare h.actor = rw i at s in
              let actors : h.actor ≡ a = cc in
              never p (rw actors at (h.ready ∙ ap Ready i))
        ]))
        (λ j. rw j at h.ready))
  ]

  -- after an allowed step
  pub held_after : (s : StepOf Record) → (IsReuse s → ⊥) → (x : Answer Record) (r : Option Reply) → May a (knows a) s → IsAnswer m s x
      → Phased a (shared_part m) s x o.page o'.page → Holds (memory_after a s m) (after_reply (learn (knows a) s x) r)
  held_after (Slot zero) still_so (Number n) r may is ph = still (memory_after a (Slot zero) m) (after_reply (learn (knows a) (Slot zero) (Number n)) r) refl ph refl
  held_after (Slot (suc p)) still_so (Number zero) r may is ph = still (memory_after a (Slot (suc p)) m) (after_reply (learn (knows a) (Slot (suc p)) (Number zero)) r) refl ph refl
  held_after (Row q) still_so (Content w) r may is ph = still (memory_after a (Row q) m) (after_reply (learn (knows a) (Row q) (Content w)) r) refl ph refl
  held_after Epoch still_so (Number n) r may is ph = still (memory_after a Epoch m) (after_reply (learn (knows a) Epoch (Number n)) r) refl ph refl
  held_after (Announce b) still_so (Number n) r may is ph = still (memory_after a (Announce b) m) (after_reply (learn (knows a) (Announce b) (Number n)) r) refl ph refl
  held_after (PidBits w) still_so (Number n) r may is ph = still (memory_after a (PidBits w) m) (after_reply (learn (knows a) (PidBits w) (Number n)) r) refl ph refl
  held_after (RowBits w) still_so (Number n) r may is ph = still (memory_after a (RowBits w) m) (after_reply (learn (knows a) (RowBits w) (Number n)) r) refl ph refl
  held_after (TakeRow n) still_so (Whether true) r may is ph = still (memory_after a (TakeRow n) m) (after_reply (learn (knows a) (TakeRow n) (Whether true)) r) refl ph refl
  held_after (TakePid n) still_so (Whether true) r may is ph = takes n r (let e = is in cc) ph
  held_after (Place n w) still_so x r may is ph = places n w x r may.1 may.2 ph
  held_after (Exchange p x y) still_so (Whether true) r may is ph =
      let won : eqb (m.slots p) x ≡ true = let e = is in cc in
      rw won (exchange_won p x y r may.1 ph)
  held_after (Exchange p x y) still_so (Whether false) r may is ph =
      let lost : eqb (m.slots p) x ≡ false = let e = is in cc in
      rw lost (still m (after_reply (knows a) r) refl ph refl)
  held_after (Exchange p x y) still_so z r may is ph = absurd (cc)
  held_after (ReusePids w b) still_so x r may is ph = absurd (still_so tt)
  held_after (ReuseRows w b) still_so x r may is ph = absurd (still_so tt)
  held_after s still_so x r may is ph = still (memory_after a s m) (after_reply (learn (knows a) s x) r) refl ph refl
