-- Links that leave the index as it is: an update, a consolidation, and the removal of a page.
use Rattle.tree_law.proofs.Words.{false, ap, refl, cond, Option, suc, None, List, true, ◌≢◌, ◌++◌, ◌≤◌, ◌∷◌, sym, ℕ, ◌≡◌, Bool, zero, ◌∙◌, ◌<◌, arith, Some, nat_tests, fold-append}
use Rattle.tree_law.proofs.Words.{same_Some, option_map, is_eq, if◌then◌else◌, bytes_eq, key_cmp, Update, logged_value, set, unset, update_of, command_key, Command, Swap, Upsert, Insert, Reply}
use Rattle.tree_law.proofs.Words.{ContentOf, Child, Value, next_row, Record, Remove, content_in, right_in, low_in, is_removed, level_in, high_in, value_of, base_from, HasRead, update_record}
use Rattle.tree_law.proofs.Words.{MayUpdate, MayConsolidate, MayRemove, Knowledge, Written, linked_over, handed_over, rebuilt, after_update, Key, Covers, Linked, Owners, Reached}
use Rattle.tree_law.proofs.Words.{leaf_map, Placed, Indexed, PageOwner, rank, Removed, Held, Merged, Stage, stage_removed, put, Shared, IsTree, spec, []}
use Rattle.bw_model.specs.declared.command.Command.TheVariants.{Add, Delete, DeleteIf}
use Rattle.bw_model.specs.Log.{updated_key, updated_value}
use Rattle.bw_model.specs.Numbers.{added, is_number, number_bytes}
use Rattle.tree_law.proofs.shape.KeyOrder.{by_key, covers_from, covers_to}
use Rattle.tree_law.proofs.shape.Puts.{by_equal, put_same, put_other}
use Rattle.tree_law.proofs.shape.Terms.{exact_going}
use Rattle.tree_law.proofs.links.Keeping.{spec_leaf, mine, read_names}
use Rattle.tree_law.proofs.links.Relinking.{LinkedTree, stay, found, place_of, relink_one, alive_stage}

-- the record of an update over a chain
record LiesOver (w : Record) (x : ℕ) (c : List Record) : Type 0 where
  next : next_row w ≡ Some x
  level : level_in (w ∷ c) ≡ level_in c
  flag : is_removed (w ∷ c) ≡ is_removed c
  low : low_in (w ∷ c) ≡ low_in c
  right : right_in (w ∷ c) ≡ right_in c
  high : high_in (w ∷ c) ≡ high_in c

is_over : (u : Update) (x : ℕ) (c : List Record) → LiesOver (update_record u x) x c
is_over (set b k v) x c = record { next = refl; level = refl; flag = refl; low = refl; right = refl; high = refl }
is_over (unset b k) x c = record { next = refl; level = refl; flag = refl; low = refl; right = refl; high = refl }

pub value_of_map : (v : Option Key) → value_of (option_map Value v) ≡ v
value_of_map None = refl
value_of_map (Some v) = refl

logged_value_push : (log : List Update) (u : Update) (key : Key) → logged_value (log ++ u ∷ []) key ≡ cond (is_eq (key_cmp key (updated_key u))) (updated_value u) (logged_value log key)
logged_value_push log u key = fold-append _ _ log (u ∷ [])

over_decides : (u : Update) (x : ℕ) (c : List Record) (l : List Update) (k : Key) → content_in c k ≡ leaf_map l k → content_in (update_record u x ∷ c) k ≡ leaf_map (l ++ u ∷ []) k
over_decides (set b j v) x c l k e = rw (logged_value_push l (set b j v) k) (by_key k j (λ i t. rw t) (λ i t. rw t e))
over_decides (unset b j) x c l k e = rw (logged_value_push l (unset b j) k) (by_key k j (λ i t. rw t) (λ i t. rw t e))

-- an update's key is in its page, so the log changes there only
log_outside : (u : Update) (log : List Update) (index : ℕ → Key → Option ContentOf) (lv : ℕ) (c : List Record) → lv ≡ 0
    → ((k : Key) → (Covers c k → ⊥) → leaf_map (log ++ u ∷ []) k ≡ leaf_map log k) → (l : ℕ) (k : Key) → (l ≡ lv → Covers c k → ⊥) → spec (log ++ u ∷ []) index l k ≡ spec log index l k
log_outside u log index lv c z f zero k n = f k (n (sym z))
log_outside u log index lv c z f (suc l) k n = refl

key_apart : (u : Update) (l : List Update) (k : Key) → k ≢ updated_key u → leaf_map (l ++ u ∷ []) k ≡ leaf_map l k
key_apart u l k ne = rw (logged_value_push l u k) (by_key k (updated_key u) (λ e t. absurd (ne e)) (λ e t. rw t))

-- an update that a test decides
chosen_key : (test : Bool) (made u : Update) → (if test then Some made else None) ≡ Some u → updated_key u ≡ updated_key made
chosen_key true made u e = ap updated_key (sym (same_Some made u e))
chosen_key false made u e = absurd (cc)

-- an update is of its command's key
key_due : (b : ℕ) (c : Command) (old : Option Key) (u : Update) → update_of b c old ≡ Some u → updated_key u ≡ command_key c
key_due b (Insert k v) None u e = ap updated_key (sym (same_Some (set b k v) u e))
key_due b (Upsert k v) old u e = ap updated_key (sym (same_Some (set b k v) u e))
key_due b (Swap k x v) (Some o) u e = chosen_key (bytes_eq o x) (set b k v) u e
key_due b (Add k n) None u e = ap updated_key (sym (same_Some (set b k (number_bytes n)) u e))
key_due b (Add k n) (Some o) u e = chosen_key (is_number o) (set b k (added o n)) u e
key_due b (Delete k) (Some x) u e = ap updated_key (sym (same_Some (unset b k) u e))
key_due b (DeleteIf k x) (Some o) u e = chosen_key (bytes_eq o x) (unset b k) u e
key_due b c old u e = absurd (cc)

linked_update : (u : Update) (x y : ℕ) (k : Knowledge) → linked_over (Written (update_record u x)) x y k ≡ after_update x y k
linked_update (set b j v) x y k = refl
linked_update (unset b j) x y k = refl

module _ {m : Shared} {log : List Update} {o : Owners} {knows : ℕ → Knowledge} {point : ℕ → Option (List Update)} {logs : ℕ → List (List Update)} (g : IsTree m log o knows point logs) (a : ℕ) where
  -- the exchange that links an update
  pub updates : (p x y : ℕ) → m.slots p ≡ Some x → (basis : HasRead (knows a) p x) (content : Record) → (knows a).own.rows y ≡ Written content
      → (h : MayUpdate a (knows a) x basis.chain content) → (r : Option Reply)
      → LinkedTree g a p x y r (log ++ h.update ∷ []) (record o { row = put o.row y Linked }) (Some log)
      × (update_of a h.command (logged_value log (command_key h.command)) ≡ Some h.update)
  updates p x y s basis content written h r =
      let u = h.update in
      let c = basis.chain in
      let f = found g a p x basis in
      let place = place_of g a p x c f basis.alive s in
      let is : (k : Key) → Covers c k → content_in c k ≡ leaf_map log k = λ k v. place.is_page.same k v ∙ spec_leaf log o.index (level_in c) h.leaf k in
      let over = is_over u x c in
      let inside : Covers c (command_key h.command) = covers_from c (command_key h.command) h.covers in
      let due : update_of a h.command (logged_value log (command_key h.command)) ≡ Some u = rw
      (ap value_of (is (command_key h.command) inside) ∙ value_of_map (logged_value log (command_key h.command))) at h.due in
      let none : point a ≡ None = rw h.unlinked at (mine g a).linked_fits in (
        relink_one g a p x y c f place basis.alive s (update_record u x) (written ∙ ap Written h.is) place.stage (omega arith) place.on o.page o.index place.placed (λ q ne. stay refl) g.tree.exact
            (rw over.next f.linked) c (rw over.next f.stands)
            over.level over.low over.right over.high (over.flag ∙ place.flagged)
            (log ++ u ∷ [])
            (λ k v. rw h.leaf (over_decides u x c log k (is k v)))
            (λ l k n. log_outside u log o.index (level_in c) c h.leaf (λ k n. key_apart u log k (λ i. n (rw (i ∙ key_due a h.command (logged_value log (command_key h.command)) u due) inside))) l k n)
            (after_update x y (knows a)) (linked_update u x y (knows a)) refl (λ v. v) refl
            (Some log) (log, refl, (record { linked = f.linked; chain = c; is_chain = f.stands; same = λ z n. is })) r,
        due,
      )

  -- the exchange that puts a base in the chain's place
  pub consolidates : (p x y : ℕ) → m.slots p ≡ Some x → (basis : HasRead (knows a) p x) (content : Record) → (knows a).own.rows y ≡ Written content → MayConsolidate basis.chain content
      → (r : Option Reply) → LinkedTree g a p x y r log (record o { row = put o.row y Linked }) (point a)
  consolidates p x y s basis content written h r =
      let c = basis.chain in
      let f = found g a p x basis in
      let place = place_of g a p x c f basis.alive s in
      let w = base_from c (low_in c) h.items in
      relink_one g a p x y c f place basis.alive s w (written ∙ ap Written h.is) place.stage (omega arith) place.on o.page o.index place.placed (λ q ne. stay refl) g.tree.exact tt [] refl
      refl refl refl refl (alive_stage g a p x c place basis.alive)
      log (λ k v. h.alike k (covers_to c k v) ∙ place.is_page.same k v) (λ l k n. refl)
      (rebuilt x y (knows a)) refl refl (λ v. v) refl
      (point a) (mine g a).linked_fits r

  pub below_top : (q l : ℕ) (s : Key) (st : Stage) → o.page q ≡ Placed st l s → 2 ≤ rank st → l < g.tree.top
  below_top q l s st e i =
      let b = g.tree.exact.below q l s st e in
      by_equal l g.tree.top
      (λ j is. by_equal q m.root
      (λ z t. absurd (let w : Placed st l s ≡ Placed Indexed g.tree.top [] = sym e ∙ ap o.page z ∙ g.tree.exact.is_root in let v : st ≡ Indexed = cc in let u = ap rank v in omega arith))
      (λ z t. absurd (let v = ap rank (g.tree.exact.others q s st (rw j at e) z) in omega arith)))
      (λ ne is. grind (arith, nat_tests))

  -- the exchange that removes a page
  pub removes : (p x y : ℕ) → m.slots p ≡ Some x → (basis : HasRead (knows a) p x) (content : Record) → (knows a).own.rows y ≡ Written content
      → (h : MayRemove (knows a) p x basis.chain content) → (r : Option Reply)
      → LinkedTree g a p x y r log
      (record { row = put o.row y Linked; page = put o.page p (Placed Removed (level_in basis.chain) (low_in basis.chain)); index = o.index }) (point a) ×
      (o.page p ≡ Placed Held (level_in basis.chain) (low_in basis.chain))
  removes p x y s basis content written h r =
      let ranked : (r l : ℕ) (s : Key) (l' : ℕ) (s' : Key) (st : Stage) (w : PageOwner) → w ≡ Placed st l' s' → Reached r l s w → r ≤ rank st =
      λ r l s l' s' st w e h. (rw e at h).2 in
      let c = basis.chain in
      let f = found g a p x basis in
      let place = place_of g a p x c f basis.alive s in
      let above = read_names g a h.parent h.row h.above in
      let least : 2 ≤ rank place.stage = ranked 2 (level_in c) (low_in c) (level_in c) (low_in c) place.stage (o.page p) place.placed
      (above.items (level_in c) (low_in c) (Child p true) h.level (covers_from h.above.chain (low_in c) h.covers) h.held) in
      let held : place.stage ≡ Held = is_held place.stage least (sym (alive_stage g a p x c place basis.alive)) in
      let was : o.page p ≡ Placed Held (level_in c) (low_in c) = place.placed ∙ ap (λ st. Placed st (level_in c) (low_in c)) held in
      let lt : level_in c < g.tree.top = below_top p (level_in c) (low_in c) place.stage place.placed least in (
        relink_one g a p x y c f place basis.alive s (Remove (record { level = level_in c; next = x })) (written ∙ ap Written h.is) Removed
            (let i = ap rank held in omega arith) (omega arith) (put o.page p (Placed Removed (level_in c) (low_in c))) o.index
            (put_same o.page p (Placed Removed (level_in c) (low_in c))) (λ q ne. stay (put_other o.page p (Placed Removed (level_in c) (low_in c)) q ne))
            (exact_going p (level_in c) (low_in c) Held Removed was lt refl g.tree.exact) f.linked c f.stands
            refl refl refl refl refl
            log (λ k v. place.is_page.same k v) (λ l k n. refl)
            (handed_over y (knows a)) refl refl (λ v. v) refl
            (point a) (mine g a).linked_fits r,
        was,
      )
    where
      is_held : (st : Stage) → 2 ≤ rank st → stage_removed st ≡ false → st ≡ Held
      is_held Held i e = refl
      is_held Removed i e = absurd (cc)
      is_held Merged i e = absurd (cc)
      is_held st i e = absurd (omega arith)
