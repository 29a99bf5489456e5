-- Each allowed step with the memory's answer keeps the invariant.
use Rattle.tree_law.proofs.Words.{false, ◌⊎◌, ap, refl, Option, suc, None, List, true, inl, inr, ◌∷◌, sym, ℕ, ◌≡◌, Bool, zero, ◌∙◌, Some, eqb, same_Some, IfSome, IsTrue, Update, set, unset}
use Rattle.tree_law.proofs.Words.{Reply, Answer, Whether, Number, StepOf, ReuseRows, ReusePids, Leave, TakePid, Row, Place, TakeRow, Slot, Enter, Epoch, Exchange, Announce, Retire, Page, ContentOf}
use Rattle.tree_law.proofs.Words.{Child, Memory, replaced_at, next_row, Record, Remove, RemoveOf, Base, Hold, Split, Merge, Term, Unterm, low_in, level_in, May}
use Rattle.tree_law.proofs.Words.{root_over, MayExchange, FitsOn, MayLink, MayRoot}
use Rattle.tree_law.proofs.Words.{base_from, HasRead, update_record, MayPost, IsMet, MayUpdate, MayUnterm, MayHold, MayMerge, MaySplit, MayConsolidate}
use Rattle.tree_law.proofs.Words.{MayRemove, IsFitted, IsUnheld, Knowledge, after_reply, Ready}
use Rattle.tree_law.proofs.Words.{learn, Empty, OwnPage, Gone, Written, after_filling, after_emptying, IsAnswer, memory_after, IsAdded, Key, put_key, IsReuse}
use Rattle.tree_law.proofs.Words.{IsMoved, Next, IsHomed, Linked, Owners, Spare}
use Rattle.tree_law.proofs.Words.{PageFits, Placed, Indexed, PageOwner, Keeps, Fresh, Phased, LinkMoves, put, shared_part, slot_in, row_in, Shared, IsTree, []}
use Rattle.tree_law.proofs.shape.{read_linked, chain_stands, by_equal, put_other, own_spare}
use Rattle.tree_law.proofs.links.Keeping.{idles, enters, leaves, slot_of, met_placed}
use Rattle.tree_law.proofs.links.Reading.{reads_root, reads_slot, reads_row}
use Rattle.tree_law.proofs.links.Taking.{takes_row, takes_page, places, own_slot}
use Rattle.tree_law.proofs.links.Relinking.{placed_row}
use Rattle.tree_law.proofs.links.Updating.{updates, consolidates, removes}
use Rattle.tree_law.proofs.links.Indexing.{posts, holds, unterms}
use Rattle.tree_law.proofs.links.Splitting.{splits}
use Rattle.tree_law.proofs.links.Rooting.{roots}
use Rattle.tree_law.proofs.links.Merging.{merges, clears}

-- the slots of pages after a change of the root, and of a page's slot
pub root_apart : (slots : ℕ → ℕ) (y : ℕ) → slot_in (replaced_at 0 y slots) ≡ slot_in slots
root_apart slots y = λ d p. at p d
  where
    at : (p : ℕ) → slot_in (replaced_at 0 y slots) p ≡ slot_in slots p
    at zero = refl
    at (suc p) = ap row_in (put_other slots 0 y (suc p) (λ e. absurd (cc)))

pub slot_put : (slots : ℕ → ℕ) (p y : ℕ) → slot_in (replaced_at (suc p) y slots) ≡ put (slot_in slots) (suc p) (row_in y)
slot_put slots p y = λ d q. at q d
  where
    at : (q : ℕ) → slot_in (replaced_at (suc p) y slots) q ≡ put (slot_in slots) (suc p) (row_in y) q
    at zero = sym (put_other (slot_in slots) (suc p) (row_in y) 0 (λ e. absurd (cc)))
    at (suc q) = by_equal (suc q) (suc p) (λ e t. rw t) (λ ne t. rw t)

-- a bit that is clear is cleared again
cleared_again : (free : ℕ → Bool) (n : ℕ) → free n ≡ false → replaced_at n false free ≡ free
cleared_again free n h = λ d j. (let at : replaced_at n false free j ≡ free j = by_equal j n (λ e t. rw t (sym (ap free e ∙ h))) (λ ne t. rw t) in at d)

record_next : (u : Update) (x : ℕ) → next_row (update_record u x) ≡ Some x
record_next (set b k v) x = refl
record_next (unset b k) x = refl

not_removed : (u : Update) (x : ℕ) (chain : List Record) (remove : RemoveOf) → update_record u x ≡ Remove remove → IsUnheld chain
not_removed (set b k v) x chain remove e = absurd (cc)
not_removed (unset b k) x chain remove e = absurd (cc)

links_same : (m : Shared) (a : ℕ) (u : Update) (x p : ℕ) (f : ℕ → PageOwner) → LinkMoves m a (update_record u x) p f f
links_same m a (set b k v) x p f = refl
links_same m a (unset b k) x p f = refl

module _ (memory : Memory) {log : List Update} {o : Owners} {knows : ℕ → Knowledge} {point : ℕ → Option (List Update)} {logs : ℕ → List (List Update)}
    (g : IsTree (shared_part memory) log o knows point logs) (a : ℕ) where
  -- what a step with its answer leaves
  abbrev pub After : Memory → StepOf Record → Answer Record → Option Reply → Type 0
  After memory' s x r = Next a (shared_part memory) (shared_part memory') log o knows point logs s x r

  same_rows : (row : ℕ) → o.row row ≡ Linked → (o.row row ≡ Linked) × (memory.rows row ≡ memory.rows row)
  same_rows row l = (l, refl)

  same_moved : (row : ℕ) → IsMoved a (memory.free_rows row) (o.row row) (o.row row)
  same_moved row = inl refl

  same_added : {rows : ℕ → Option Record} (row : ℕ) → o.row row ≡ Linked → (o.row row ≡ Linked) ⊎ IsAdded o rows row
  same_added row l = inl l

  -- a step after which each row and page is whose it was
  rests : {m' : Shared} {s : StepOf Record} {x : Answer Record} {r : Option Reply} → Phased a (shared_part memory) s x o.page o.page → ((row : ℕ) → o.row row ≡ Linked → m'.rows row ≡ memory.rows row)
      → IsTree m' log o (put knows a (after_reply (learn (knows a) s x) r)) (put point a (point a)) (put logs a (log ∷ logs a)) → Next a (shared_part memory) m' log o knows point logs s x r
  rests phased rows is_tree = record
      { update = None; due = tt; last = λ i. refl; owners = o; phased = phased; moved = same_moved; added = same_added; homed = λ row l. inl l; kept = λ row l. (l, rows row l); is_tree = is_tree }

  -- one after which the actor holds what it held, and has read no more
  idle : {s : StepOf Record} {x : Answer Record} {r : Option Reply} → Phased a (shared_part memory) s x o.page o.page → (learn (knows a) s x).own ≡ (knows a).own
      → (learn (knows a) s x).read ≡ (knows a).read → (learn (knows a) s x).asked.linked ≡ (knows a).asked.linked → After memory s x r
  idle {s} {x} {r} phased own read linked = rests phased (λ row l. refl) (idles g a (after_reply (learn (knows a) s x) r) own read linked)

  spare_of : {w : Record} (y : ℕ) → (knows a).own.rows y ≡ Written w → o.row y ≡ Spare a
  spare_of {w} y e = (rw e at (g.owns a y)).0

  ready_slot : (p r : ℕ) → (knows a).own.pages p ≡ Ready r → slot_in memory.slots p ≡ Some r
  ready_slot p r e = (rw e at (g.owns_pages a p)).1

  linked_moved : (y : ℕ) → o.row y ≡ Spare a → (row : ℕ) → IsMoved a (memory.free_rows row) (o.row row) (put o.row y Linked row)
  linked_moved y spare row = by_equal row y (λ e t. rw t (inr (inr (ap o.row e ∙ spare, refl)))) (λ ne t. rw t (inl refl))

  -- a delta is linked over the chain that was read
  adds : (p x y : ℕ) (w : Record) → (knows a).own.rows y ≡ Written w → next_row w ≡ Some x → (basis : HasRead (knows a) p x) → FitsOn basis.chain w
      → ((remove : RemoveOf) → w ≡ Remove remove → IsUnheld basis.chain) → IsAdded o memory.rows y
  adds p x y w placed next basis fits unheld = record {
    content = w;
    stands = placed_row g a y w placed;
    under = basis.chain;
    is_under = rw next (chain_stands o (shared_part memory) (knows a).read.seen (g.sound a).seen_fits basis.chain (Some x) basis.read);
    next = rw next (read_linked o (shared_part memory) (knows a).read.seen (g.sound a).seen_fits basis.chain x basis.read);
    fits = fits;
    unheld = unheld;
  }

  -- a base is linked
  based : {page : Page} (y : ℕ) → (knows a).own.rows y ≡ Written (Base page) → IsFitted (Base page ∷ []) → IsAdded o memory.rows y
  based {page} y placed fits = record { content = Base page; stands = placed_row g a y (Base page) placed; under = []; is_under = refl; next = tt; fits = fits; unheld = λ remove is. absurd (cc) }

  linked_added : (y : ℕ) → IsAdded o memory.rows y → (row : ℕ) → put o.row y Linked row ≡ Linked → (o.row row ≡ Linked) ⊎ IsAdded o memory.rows row
  linked_added y h row l = by_equal row y (λ e t. inr (rw e h)) (λ ne t. let i = rw t at l in inl i)

  -- the new row of a slot is linked
  linked_homed : (p x y : ℕ) (w : Record) → (knows a).own.rows (suc y) ≡ Written w → IfSome (next_row w) (λ n. n ≡ x) → (row : ℕ)
      → put o.row (suc y) Linked row ≡ Linked → (o.row row ≡ Linked) ⊎ IsHomed (shared_part memory) (Exchange (suc p) x (suc y)) (Whether true) row
  linked_homed p x y w placed next row l = by_equal row (suc y) (λ e t. inr (inl (w, e, ap memory.rows e ∙ placed_row g a (suc y) w placed, next))) (λ ne t. let i = rw t at l in inl i)

  -- a row that was the actor's own is linked
  linked_rows : (y : ℕ) (row : ℕ) → o.row row ≡ Linked → (put o.row y Linked row ≡ Linked) × (memory.rows row ≡ memory.rows row)
  linked_rows y row l = (by_equal row y (λ e t. rw t) (λ ne t. rw t l), refl)

  reads : (p n : ℕ) (r : Option Reply) → memory.slots (suc p) ≡ n → IsTrue ((knows a).read.roots (suc p)) ⊎ IsMet (knows a) (suc p) → After memory (Slot (suc p)) (Number n) r
  reads p zero r e met = idle refl refl refl refl
  reads p (suc n) r e met =
      let here = met_placed g a (suc p) met in
      let held : slot_in memory.slots (suc p) ≡ Some (suc n) = ap row_in e in
      elim (slot_of g a (suc p) here.0 here.1 here.2) [
        | inl u ↦ absurd (cc u.0)
        | inr u ↦ rests refl (λ row l. refl) (rw (same_Some u.0 (suc n) (sym u.1 ∙ held)) at (reads_slot g a (suc p) u.0 u.1 u.2 u.3 r))
      ]

  takes : (q : ℕ) (r : Option Reply) (t : Bool) → memory.free_rows q ≡ t → After (memory_after a (TakeRow q) memory) (TakeRow q) (Whether t) r
  takes q r true e = record {
    update = None;
    due = tt;
    last = λ i. refl;
    owners = record o { row = put o.row q (Spare a) };
    phased = refl;
    moved = λ row. by_equal row q (λ i t. rw t (inr (inl (ap memory.free_rows i ∙ e, ap o.row i ∙ g.frees.row q e, refl)))) (λ ne t. rw t (inl refl));
    added = λ row. by_equal row q (λ i t. rw t λ l. absurd (cc)) (λ ne t. rw t λ l. inl l);
    homed = λ row. by_equal row q (λ i t. rw t λ l. absurd (cc)) (λ ne t. rw t λ l. inl l);
    kept = λ row l. (put_other o.row q (Spare a) row (λ i. absurd (cc (g.frees.row q e))) ∙ l, refl);
    is_tree = takes_row g a q e r;
  }
  takes q r false e = rests refl (λ row l. refl) (rw (cleared_again memory.free_rows q e) (idles g a (after_reply (knows a) r) refl refl refl))

  takes_pid : (q : ℕ) (r : Option Reply) (t : Bool) → memory.free_pids q ≡ t → After (memory_after a (TakePid q) memory) (TakePid q) (Whether t) r
  takes_pid q r true e = record {
    update = None;
    due = tt;
    last = λ i. refl;
    owners = record o { page = put o.page q (Keeps a) };
    phased = refl;
    moved =
        same_moved;
    added = same_added;
    homed = λ row l. inl l;
    kept = same_rows;
    is_tree = takes_page g a q e r;
  }
  takes_pid q r false e = rests refl (λ row l. refl) (rw (cleared_again memory.free_pids q e) (idles g a (after_reply (knows a) r) refl refl refl))

  -- an exchange that lost teaches nothing
  loses : (p x y : ℕ) (r : Option Reply) → After memory (Exchange p x y) (Whether false) r
  loses p x y r = idle refl refl refl refl

  module _ (p x y : ℕ) (r : Option Reply) (s : slot_in memory.slots (suc p) ≡ Some (suc x)) (basis : HasRead (knows a) (suc p) (suc x)) (content : Record)
      (written : (knows a).own.rows (suc y) ≡ Written content) (fits : FitsOn basis.chain content) where
    -- the memory in which the row is linked on the page
    abbrev pub Linking : Type 0
    Linking = Next a (shared_part memory) (record (shared_part memory) { slots = put (slot_in memory.slots) (suc p) (Some (suc y)) }) log o knows point logs
        (Exchange (suc p) (suc x) (suc y)) (Whether true) r

    -- the row is linked, some pages go on, and no update is made
    one : (w : Record) → (knows a).own.rows (suc y) ≡ Written w → IfSome (next_row w) (λ n. n ≡ suc x) → IsAdded o memory.rows (suc y)
        → (page : ℕ → PageOwner) (index : ℕ → Key → Option ContentOf) → LinkMoves (shared_part memory) a w (suc p) o.page page
        → IsTree (record (shared_part memory) { slots = put (slot_in memory.slots) (suc p) (Some (suc y)) }) log
        (record { row = put o.row (suc y) Linked; page = page; index = index })
        (put knows a (after_reply (after_filling ((knows a).own.pages (suc p)) (suc p) (suc x) (suc y) (knows a)) r)) (put point a (point a))
        (put logs a (log ∷ logs a))
        → Linking
    one w placed next added page index moves is_tree = record {
      update = None;
      due = tt;
      last = λ i. absurd (cc);
      owners = record { row = put o.row (suc y) Linked; page = page; index = index };
      phased = (w, placed_row g a (suc y) w placed, moves);
      moved = linked_moved (suc y) (spare_of (suc y) placed);
      added = linked_added (suc y) added;
      homed = linked_homed p (suc x) y w placed next;
      kept = linked_rows (suc y);
      is_tree = is_tree;
    }

    -- the same of a delta over the old row
    delta : (w : Record) → content ≡ w → next_row w ≡ Some (suc x) → ((remove : RemoveOf) → w ≡ Remove remove → IsUnheld basis.chain)
        → (page : ℕ → PageOwner) (index : ℕ → Key → Option ContentOf) → LinkMoves (shared_part memory) a w (suc p) o.page page
        → IsTree (record (shared_part memory) { slots = put (slot_in memory.slots) (suc p) (Some (suc y)) }) log
        (record { row = put o.row (suc y) Linked; page = page; index = index })
        (put knows a (after_reply (after_filling ((knows a).own.pages (suc p)) (suc p) (suc x) (suc y) (knows a)) r)) (put point a (point a))
        (put logs a (log ∷ logs a))
        → Linking
    delta w is next unheld = one w (written ∙ ap Written is) (rw next) (adds (suc p) (suc x) (suc y) w (written ∙ ap Written is) next basis (rw is at fits) unheld)

    by_update : MayUpdate a (knows a) (suc x) basis.chain content → Linking
    by_update h = let n = updates g a (suc p) (suc x) (suc y) s basis content written h r in record {
      update = Some h.update;
      due = (h.command, h.going, h.unlinked, n.1);
      last = λ i. absurd (cc);
      owners = record o { row = put o.row (suc y) Linked };
      phased = (update_record h.update (suc x), placed_row g a (suc y) (update_record h.update (suc x)) (written ∙ ap Written h.is), links_same (shared_part memory) a h.update (suc x) (suc p) o.page);
      moved = linked_moved (suc y) (spare_of (suc y) (written ∙ ap Written h.is));
      added =
          linked_added (suc y) (adds (suc p) (suc x) (suc y) (update_record h.update (suc x)) (written ∙ ap Written h.is) (record_next h.update (suc x)) basis
          (rw h.is at fits) (not_removed h.update (suc x) basis.chain));
      homed = linked_homed p (suc x) y (update_record h.update (suc x)) (written ∙ ap Written h.is) (rw (record_next h.update (suc x)) refl);
      kept = linked_rows (suc y);
      is_tree = n.0;
    }

    by_base : MayConsolidate basis.chain content → Linking
    by_base h =
        one (base_from basis.chain (low_in basis.chain) h.items) (written ∙ ap Written h.is) tt (based (suc y) (written ∙ ap Written h.is) (rw h.is at fits))
        o.page o.index refl (consolidates g a (suc p) (suc x) (suc y) s basis content written h r)

    by_split : MaySplit (knows a) (suc x) basis.chain content → Linking
    by_split h = let n = splits g a (suc p) (suc x) (suc y) s basis content written h r in record {
      update = None;
      due = tt;
      last = λ i. refl;
      owners = record { row = put (put o.row h.row Linked) (suc y) Linked; page = put o.page h.right (Placed Fresh (level_in basis.chain) h.separator); index = o.index };
      phased = (
        Split (record { level = level_in basis.chain; next = suc x; separator = h.separator; page = h.right }),
        placed_row g a (suc y) (Split (record { level = level_in basis.chain; next = suc x; separator = h.separator; page = h.right })) (written ∙ ap Written h.is),
        (n.1.0, level_in basis.chain, low_in basis.chain, n.1.1, n.1.2, refl),
      );
      moved = λ row. by_equal row (suc y) (λ e t. rw t (inr (inr (ap o.row e ∙ spare_of (suc y) (written ∙ ap Written h.is), refl)))) (λ ne t. rw t (linked_moved h.row (spare_of h.row h.base) row));
      homed = λ row. by_equal row (suc y)
          (λ e is. rw is λ i. inr (inl (
            Split (record { level = level_in basis.chain; next = suc x; separator = h.separator; page = h.right }),
            e,
            ap
                memory.rows e ∙ placed_row g a (suc y) (Split (record { level = level_in basis.chain; next = suc x; separator = h.separator; page = h.right }))
                (written ∙ ap Written h.is),
            refl,
          )))
          (λ ne is. rw is (by_equal row h.row
          (λ e t. rw t λ i. inr (inr (
            record { level = level_in basis.chain; next = suc x; separator = h.separator; page = h.right },
            _,
            placed_row g a (suc y)
                (Split (record { level = level_in basis.chain; next = suc x; separator = h.separator; page = h.right })) (written ∙ ap Written h.is),
            ready_slot
                h.right h.row h.ready ∙ ap Some (sym e),
            ap memory.rows e ∙ placed_row g a h.row (base_from basis.chain h.separator h.items) h.base,
          )))
          (λ ne t. rw t λ i. inl i)));
      added = λ row. by_equal row (suc y)
          (λ e t. rw t λ i. inr (rw e (adds (suc p) (suc x) (suc y)
          (Split (record { level = level_in basis.chain; next = suc x; separator = h.separator; page = h.right })) (written ∙ ap Written h.is) refl basis
          (rw h.is at fits) (λ remove is. absurd (cc)))))
          (λ ne t. rw t (linked_added h.row (based h.row h.base h.ruled) row));
      kept = λ row l. (by_equal row (suc y) (λ e t. rw t) (λ ne t. rw t (linked_rows h.row row l).0), refl);
      is_tree = n.0;
    }

    by_post : MayPost (knows a) (suc p) (suc x) basis.chain content → Linking
    by_post h = let n = posts g a (suc p) (suc x) (suc y) s basis content written h r in delta _ h.is refl (λ remove is. absurd (cc)) _ _ (level_in h.below.chain, n.1, refl) n.0

    by_hold : MayHold (suc x) basis.chain content → Linking
    by_hold h = let n = holds g a (suc p) (suc x) (suc y) s basis content written h r in delta _ h.is refl (λ remove is. absurd (cc)) _ _ (h.level, n.1, refl) n.0

    by_remove : MayRemove (knows a) (suc p) (suc x) basis.chain content → Linking
    by_remove h =
        let n = removes g a (suc p) (suc x) (suc y) s basis content written h r in
        delta _ h.is refl (λ remove is. h.unheld) _ _ (
          level_in basis.chain,
          low_in basis.chain,
          n.1,
          refl,
          (suc x, basis.chain, s, chain_stands o (shared_part memory) (knows a).read.seen (g.sound a).seen_fits basis.chain (Some (suc x)) basis.read, h.unheld),
        )
        n.0

    by_merge : MayMerge (knows a) (suc x) basis.chain content → Linking
    by_merge h =
        let n = merges g a (suc p) (suc x) (suc y) s basis content written h r in
        delta _ h.is refl (λ remove is. absurd (cc)) _ _ (
          h.other,
          level_in basis.chain,
          n.1,
          refl,
          (suc x, basis.chain, s, chain_stands o (shared_part memory) (knows a).read.seen (g.sound a).seen_fits basis.chain (Some (suc x)) basis.read, h.right),
        )
        n.0

    by_unterm : MayUnterm (knows a) (suc p) (suc x) basis.chain content → Linking
    by_unterm h = let n = unterms g a (suc p) (suc x) (suc y) s basis content written h r in delta _ h.is refl (λ remove is. absurd (cc)) _ _ (level_in h.below.chain, n.1, refl) n.0

  -- what is placed is linked, by its kind
  links : (p x y : ℕ) (r : Option Reply) (s : slot_in memory.slots (suc p) ≡ Some (suc x)) (basis : HasRead (knows a) (suc p) (suc x)) (content : Record)
      (written : (knows a).own.rows (suc y) ≡ Written content) (fits : FitsOn basis.chain content)
      → MayLink a (knows a) (suc p) (suc x) basis.chain content → Linking p x y r s basis content written fits
  links p x y r s basis (Base base) = by_base p x y r s basis (Base base)
  links p x y r s basis (Split split) = by_split p x y r s basis (Split split)
  links p x y r s basis (Term term) = by_post p x y r s basis (Term term)
  links p x y r s basis (Hold hold) = by_hold p x y r s basis (Hold hold)
  links p x y r s basis (Remove remove) = by_remove p x y r s basis (Remove remove)
  links p x y r s basis (Merge merge) = by_merge p x y r s basis (Merge merge)
  links p x y r s basis (Unterm unterm) = by_unterm p x y r s basis (Unterm unterm)
  links p x y r s basis content = by_update p x y r s basis content

  own_kept : (p : ℕ) (v : OwnPage) → (knows a).own.pages p ≡ v → PageFits a (o.page p) (slot_in memory.slots p) v
  own_kept p v e = rw e at (g.owns_pages a p)

  -- an exchange of a page's slot that won
  exchanges : (p x y : ℕ) (r : Option Reply) → slot_in memory.slots (suc p) ≡ row_in x → MayExchange a (knows a) (suc p) x y
      → Next a (shared_part memory) (record (shared_part memory) { slots = put (slot_in memory.slots) (suc p) (row_in y) }) log o knows point logs (Exchange (suc p) x y) (Whether true) r
  exchanges p zero zero r s h = absurd h
  exchanges p zero (suc y) r s h =
      rests ((refl, (own_kept (suc p) Empty h.0).0)) (λ row l. refl) (rw h.0 (own_slot g a (suc p) (Some (suc y)) (Ready (suc y)) (own_kept (suc p) Empty h.0).0
      ((own_kept (suc p) Empty h.0).0, refl) (after_reply (after_filling Empty (suc p) zero (suc y) (knows a)) r) refl refl refl refl))
  exchanges p (suc x) zero r s (inl h) =
      rests ((refl, inl (own_kept (suc p) (Ready (suc x)) h).0)) (λ row l. refl) (rw h (own_slot g a (suc p) None Empty (own_kept (suc p) (Ready (suc x)) h).0
      ((own_kept (suc p) (Ready (suc x)) h).0, refl) (after_reply (after_emptying (Ready (suc x)) (suc p) (suc x) (knows a)) r) refl refl refl refl))
  exchanges p (suc x) zero r s (inr h) = rests ((refl, inr (let w = own_kept (suc p) Gone h in (w.0, w.1, w.2)))) (λ row l. refl) (clears g a (suc p) (suc x) s h r)
  exchanges p (suc x) (suc y) r s h = links p x y r s h.basis h.content h.placed h.fits h.due

  -- an exchange of slot 0 that won
  exchanges_root : (x y : ℕ) (r : Option Reply) → memory.slots 0 ≡ x → MayRoot (knows a) x y
      → Next a (shared_part memory) (record (shared_part memory) { root = y }) log o knows point logs (Exchange 0 x y) (Whether true) r
  exchanges_root x y r s h = let n = roots g a x y s h r in record {
    update = None;
    due = tt;
    last = λ i. refl;
    owners = record {
      row = put o.row h.base_row Linked;
      page = put (put o.page h.right (Placed Indexed g.tree.top h.separator)) y (Placed Indexed (suc g.tree.top) []);
      index = put o.index g.tree.top (put_key (put_key (λ k. None) h.separator (Some (Child h.right false))) [] (Some (Child (memory.slots 0) false)));
    };
    phased = (
      h.right,
      g.tree.top,
      h.separator,
      n.1.0,
      n.1.1,
      n.1.2,
      refl,
      (h.base_row, suc (level_in h.basis.chain), ready_slot y h.base_row h.ready, placed_row g a h.base_row (root_over (suc (level_in h.basis.chain)) x h.separator h.right) h.base),
      h.some,
    );
    moved = linked_moved h.base_row (spare_of h.base_row h.base);
    added = linked_added h.base_row (based h.base_row h.base h.ruled);
    homed = λ row. by_equal row h.base_row
        (λ e t. rw t λ i. inr
        (_, ready_slot y h.base_row h.ready ∙ ap Some (sym e), ap memory.rows e ∙ placed_row g a h.base_row (root_over (suc (level_in h.basis.chain)) x h.separator h.right) h.base))
        (λ ne t. rw t λ i. inl i);
    kept = linked_rows h.base_row;
    is_tree = n.0;
  }

  exchange : (p x y : ℕ) (r : Option Reply) → MayExchange a (knows a) p x y → After (memory_after a (Exchange p x y) memory) (Exchange p x y) (Whether (eqb (memory.slots p) x)) r
  exchange zero x y r h = by_equal (memory.slots 0) x
      (λ e t. rw t (rw (root_apart memory.slots y) (exchanges_root x y r e h)))
      (λ ne t. rw t (loses 0 x y r))
  exchange (suc p) x y r h = by_equal (memory.slots (suc p)) x
      (λ e t. rw t (rw (put_other memory.slots (suc p) y 0 (λ i. absurd (cc))) (rw (slot_put memory.slots p y) (exchanges p x y r (ap row_in e) h))))
      (λ ne t. rw t (loses (suc p) x y r))

  pub step : (s : StepOf Record) → (IsReuse s → ⊥) → (r : Option Reply) → May a (knows a) s → (x : Answer Record) → IsAnswer memory s x → After (memory_after a s memory) s x r
  step (Slot zero) calm r h x e = rw e (rests refl (λ row l. refl) (reads_root g a r))
  step (Slot (suc p)) calm r h x e = rw e (reads p (memory.slots (suc p)) r refl h.1)
  step (Row q) calm r h x e = rw e.2 (rests refl (λ row l. refl) (reads_row g a q e.0 h.1 e.1 r))
  step Epoch calm r h x e = rw e (idle refl refl refl refl)
  step (Announce b) calm r h x e = rw e (idle refl refl refl refl)
  step (Place q w) calm r h x e =
      rw e (rests refl (λ row l. put_other memory.rows q (Some w) row (λ i. absurd (cc (own_spare (memory.rows q) ((knows a).own.rows q) (g.owns a q) h.1)))) (places g a q w h.1 r))
  step (Exchange p old y) calm r h x e = rw e (exchange p old y r h.1)
  step (TakePid q) calm r h x e = rw e (takes_pid q r (memory.free_pids q) refl)
  step (TakeRow q) calm r h x e = rw e (takes q r (memory.free_rows q) refl)
  step (Enter n) calm r h x e = rests refl (λ row l. refl) (enters g a n x r)
  step Leave calm r h x e = rw e (rests refl (λ row l. refl) (leaves g a r))
  step (Retire n) calm r h x e = idle refl refl refl refl
  step (ReusePids w b) calm r h x e = absurd (calm tt)
  step (ReuseRows w b) calm r h x e = absurd (calm tt)
  step s calm r h x e = rw e.2 (idle refl refl refl refl)
