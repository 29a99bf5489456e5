-- One more entry: what the names that actors have learnt are, and what is read.
use Rattle.tree_law.proofs.Words.{false, ◌⊎◌, ap, refl, cond, Option, suc, None, List, true, inl, ◌≢◌, length, ◌++◌, ◌≤◌, inr, ◌∷◌, subst, sym, ℕ, ◌≡◌, Bool, zero, ◌∙◌, ◌<◌, arith, Some, ◌^◌}
use Rattle.tree_law.proofs.Words.{eqb, same_Some, Contains, unwrap_or, IsFalse, Update, Command, Reply, Limits, Answer, Whether, Content, Number, StepOf, ReuseRows, ReusePids, Leave}
use Rattle.tree_law.proofs.Words.{TakePid, Row, Place, TakeRow, Slot, Enter, Exchange, Retire, Memory, next_row, Record, Base, slice_get_below, slice_get-push, take-push_whole, TakesStep-push_cases}
use Rattle.tree_law.proofs.Words.{memory_at-push, IsOnChain, chain_rows, IsChainFrom, May, Knowledge, knows_after, after_reply, Ready, learn, learnt_next, ShowsRow, IsAnswer, memory_after}
use Rattle.tree_law.proofs.Words.{command_of, memory_of, IsStep, commands_after, Entry, Begin, Step, Key, IsReuse, IsMoved, Free, Linked, Owners, Reached, Spare, Placed, PageOwner, Cleared}
use Rattle.tree_law.proofs.Words.{shared_part, slot_in, row_in, IsReadyPage, phase_of, IsInTree, IsNamed, IsTree, []}
use Rattle.base_page.specs.Pages as pages
use Rattle.traces.specs.trace.Run.{MayTake}
use Rattle.traces.proofs.TraceLaws.{HasLearnt-push_cases}
use Rattle.linearization.specs.Phases as phase
use Rattle.linearization.specs.Faithful.{IsFaithful, KnowsRow, Disturbs, touches_pages}
use Rattle.linearization.proofs.FaithLaws.{KnowsRow-before, KnowsRow-kept, KnowsRow-shown}
use Rattle.traces.specs.discipline.Knowledge.{going_on}
use Rattle.tree_law.proofs.shape.{by_equal, put_same, put_other, put_true, slot_some, chain_linked, own_spare, false_if}
use Rattle.tree_law.proofs.links.Exchanged.{exchanged_alike}
use Rattle.tree_law.proofs.links.Keeping.{slot_of}
use Rattle.tree_law.proofs.trace.Owned.{pushed_length}
use Rattle.tree_law.proofs.links.Learning.{Stays, learning, wins, at_page, at_row, enters, leaves, in_rows, in_limbo, idle}

pub faithful_push : (limits : Limits) (entries : List Entry) (last : Entry) → IsFaithful limits entries
    → ((b row : ℕ) (x : Answer Record) → IsStep last b (Row row) x → KnowsRow entries (length entries) b row)
    → ((b : ℕ) (s : StepOf Record) (x : Answer Record) → IsStep last b s x → (memory_of limits entries).announced b ≡ 0 → IsFalse (touches_pages s))
    → IsFaithful limits (entries ++ last ∷ [])
faithful_push limits entries last old reads outside = record {
  known = λ n b row x h. elim (TakesStep-push_cases entries last n b (Row row) x h) [
    | inl before ↦ let lt : n < length entries = slice_get_below entries n _ before.1 in KnowsRow-before entries last n b row (omega arith) (old.known n b row x before)
    | inr at ↦ let same : n ≡ length entries = at.0 in KnowsRow-before entries last n b row (omega arith) (rw at.0 (reads b row x at.1))
  ];
  outside = λ n b s x h z. elim (TakesStep-push_cases entries last n b s x h) [
    | inl before ↦ let lt : n < length entries = slice_get_below entries n _ before.1 in old.outside n b s x before (rw (memory_at-push limits entries (last ∷ []) n (omega arith)) at z)
    | inr at ↦ outside b s x at.1 (rw (take-push_whole entries (last ∷ [])) at (rw at.0 at z))
  ];
}

begin_shows : (entries : List Entry) (a : ℕ) (c : Command) (b r : ℕ) → ShowsRow (entries ++ Begin a c ∷ []) (length entries) b r → ⊥
begin_shows entries a c b r (inl h) = let e = h.2.1 in let f = slice_get-push entries (Begin a c) in cc
begin_shows entries a c b r (inr h) = let e = h.2.1 in let f = slice_get-push entries (Begin a c) in cc

pub named_begins : (limits : Limits) (entries : List Entry) (o : Owners) (m : Memory) (knows : ℕ → Knowledge) (a : ℕ) (c : Command) → IsNamed limits entries o m knows
    → command_of (entries ++ Begin a c ∷ []) ≡ commands_after (command_of entries) (Begin a c)
    → IsNamed limits (entries ++ Begin a c ∷ []) o m (knows_after knows (Begin a c))
named_begins limits entries o m knows a c old asks = record {
  shown =
      λ b r h. elim (HasLearnt-push_cases entries (Begin a c) b r h) [
        | inl before ↦ elim (old.shown b r before.0)
            [ inl z ↦ inl z | inr l ↦ inr (by_equal b a (λ i t. rw t (rw i at l)) (λ ne t. rw t l)) ]
        | inr shows ↦ absurd (begin_shows entries a c b r shows)
      ];
  known = λ b r e. rw pushed_length (KnowsRow-kept entries (Begin a c) b r
      (old.known b r (by_equal b a (λ i t. let f = rw t at e in rw i f) (λ ne t. rw t at e)))
      (λ epoch x. ((λ h. let is = h.1 in cc), (λ h. let is = h.1 in cc)))
      (λ other s x h. let is = h.1 in absurd (cc)));
  announced = λ b e. old.announced b (by_equal b a (λ i t. let f = rw t at e in rw i f) (λ ne t. rw t at e));
  epoch = old.epoch;
  posted = old.posted;
  zero_free = old.zero_free;
  zero_taken = old.zero_taken;
  free_row_below = old.free_row_below;
  row_below = old.row_below;
  free_pid_below = old.free_pid_below;
  pid_below = old.pid_below;
  in_slots = λ p r e. held_begins (old.in_slots p r e);
  commands = λ b. rw asks (by_equal b a (λ i t. rw t) (λ ne t. rw t (old.commands b)));
}
  where
    held_begins : {p r : ℕ} → IsInTree (o.page p) ⊎ IsReadyPage o m knows p r → IsInTree (o.page p) ⊎ IsReadyPage o m (knows_after knows (Begin a c)) p r
    held_begins {p} {r} (inl h) = inl h
    held_begins {p} {r} (inr h) = inr (record {
      actor = h.actor;
      ready = by_equal h.actor a (λ i t. rw t (rw i at h.ready)) (λ ne t. rw t h.ready);
      owned = h.owned;
      base = h.base;
      stands = h.stands;
    })

-- what a step shows
abbrev Shown : StepOf Record → Answer Record → ℕ → Type 0
Shown s x r = ((p : ℕ) × (0 < p) × (s ≡ Slot p) × (x ≡ Number r)) ⊎ ((above : ℕ) × (w : Record) × (s ≡ Row above) × (x ≡ Content w) × (next_row w ≡ Some r))

pub learn_command : (k : Knowledge) (s : StepOf Record) (x : Answer Record) → (learn k s x).asked.command ≡ k.asked.command
learn_command k s x = elim (learning k s x) as (λ s x k' v. k'.asked.command ≡ k.asked.command) [ wins p y z ↦ (exchanged_alike p y z k).command | v ↦ refl ]

learnt_cases : (k : Knowledge) (s : StepOf Record) (x : Answer Record) (r : ℕ) → (learn k s x).read.learnt r ≡ true → ((k.read.learnt r ≡ true) × Stays s) ⊎ Shown s x r
learnt_cases k s x r e = (elim (learning k s x) as (λ s x k' v. k'.read.learnt r ≡ true → ((k.read.learnt r ≡ true) × Stays s) ⊎ Shown s x r) [
  | at_page p n ↦ by_equal r (suc n)
      (λ i t. rw t λ f. inr (inl (suc p, omega arith, refl, ap Number (sym i)))) (λ ne t. rw t λ f. inl (f, tt))
  | at_row q w ↦ go q w (next_row w) refl
  | wins p y z ↦ λ f. inl (rw (ap (λ v. v.learnt) (exchanged_alike p y z k).read) at f, tt)
  | enters n y ↦ λ f. absurd (cc)
  | leaves y ↦ λ f. absurd (cc)
  | in_rows rows st ↦ λ f. inl (f, st)
  | in_limbo limbo st ↦ λ f. inl (f, st)
  | idle st ↦ λ f. inl (f, st)
  | v ↦ λ f. inl (f, tt)
]) e
  where
    go : (q : ℕ) (w : Record) (o : Option ℕ) → next_row w ≡ o → learnt_next o k.read.learnt r ≡ true → ((k.read.learnt r ≡ true) × Unit {0}) ⊎ Shown (Row q) (Content w) r
    go q w None i f = inl (f, tt)
    go q w (Some n) i f = by_equal r n
        (λ j t. inr (inr (q, w, refl, refl, i ∙ ap Some (sym j)))) (λ ne t. let g = rw t at f in inl (g, tt))

stays_no_enter : (s : StepOf Record) (e : ℕ) → Stays s → s ≡ Enter e → ⊥
stays_no_enter s e h i = rw i at h

stays_no_leave : (s : StepOf Record) → Stays s → s ≡ Leave → ⊥
stays_no_leave s h i = rw i at h

pub whether_same : (b c : Bool) (y : Answer Record) → y ≡ Whether b → y ≡ Whether c → b ≡ c
whether_same b c y e f = cc

learn_inside : (k : Knowledge) (s : StepOf Record) (x : Answer Record) → Stays s → (learn k s x).inside ≡ k.inside
learn_inside k s x h = (elim (learning k s x) as (λ s x k' v. Stays s → k'.inside ≡ k.inside) [
  | wins p y z ↦ λ st. (exchanged_alike p y z k).inside
  | enters e y ↦ λ st. absurd st
  | leaves y ↦ λ st. absurd st
  | v ↦ λ st. refl
]) h

same_announced : (a : ℕ) (m : Memory) (s : StepOf Record) → Stays s → (memory_after a s m).announced ≡ m.announced
same_announced a m (Enter e) h = absurd h
same_announced a m Leave h = absurd h
same_announced a m s h = refl

touches_inside : (a : ℕ) (k : Knowledge) (s : StepOf Record) → May a k s → (k.inside ≡ true) ⊎ IsFalse (touches_pages s)
touches_inside a k (Slot zero) h = inl h
touches_inside a k (Slot (suc p)) h = inl h.0
touches_inside a k (Row r) h = inl h.0
touches_inside a k (Place r w) h = inl h.0
touches_inside a k (Exchange p x y) h = inl h.0
touches_inside a k s h = inr refl

pub placed_at : (w : PageOwner) → IsInTree w → (l : ℕ) × (k : Key) × Reached 0 l k w
placed_at (Placed st l k) h = (l, k, (refl, refl, omega arith))
placed_at (Cleared b l k) h = (l, k, (refl, refl))
placed_at w h = absurd h

row_none : (n : ℕ) → row_in n ≡ None → n ≡ 0
row_none zero e = refl
row_none (suc n) e = absurd (cc)

pub slot_none : (slots : ℕ → ℕ) (p : ℕ) → 0 < p → slot_in slots p ≡ None → slots p ≡ 0
slot_none slots zero above e = absurd (omega arith)
slot_none slots (suc p) above e = row_none (slots (suc p)) e

-- a chain that begins with a base has no other row
pub base_alone : (m : Memory) (x row : ℕ) (base : pages.Page) (c : List Record) → IsChainFrom m.rows x c → Contains (chain_rows x c) row → m.rows x ≡ Some (Base base) → x ≡ row
base_alone m x row base [] chain among e = absurd chain
base_alone m x row base (v ∷ c) chain (zero, lt, at) e = at
base_alone m x row base (v ∷ c) chain (suc k, lt, at) e =
    let none : c ≡ [] = rw (same_Some v (Base base) (sym chain.0 ∙ e)) at chain.1 in
    let short : length (chain_rows (unwrap_or (next_row v) 0) c) ≡ 0 = rw none in
    absurd (omega arith)

-- the slot from which a row is on a chain
pub record OnChain (m : Memory) (row : ℕ) : Type 0 where
  pub page : ℕ
  pub first : ℕ
  pub chain : List Record
  pub held : slot_in m.slots page ≡ Some first
  pub records : IsChainFrom m.rows first chain
  pub among : Contains (chain_rows first chain) row

pub on_chain : (m : Memory) (row : ℕ) → IsOnChain m row → OnChain m row
on_chain m row (p, c, chain, among) = go (slot_in m.slots p) refl
  where
    go : (v : Option ℕ) → slot_in m.slots p ≡ v → OnChain m row
    go None e = absurd (let z : m.slots p ≡ 0 = slot_none m.slots p chain.page e in let above : 0 < m.slots p = chain.linked in omega arith)
    go (Some x) e = let at = (slot_some m.slots p x e).1 in record { page = p; first = x; chain = c; held = e; records = rw at at chain.records; among = rw at at among }

module _ {limits : Limits} {entries : List Entry} {o : Owners} {m : Memory} {knows : ℕ → Knowledge} {log : List Update} {points : ℕ → Option (List Update)} {logs : ℕ → List (List Update)}
    (g : IsTree (shared_part m) log o knows points logs) (old : IsNamed limits entries o m knows) (a : ℕ) (s : StepOf Record) (x : Answer Record) (r : Option Reply)
    (may : May a (knows a) s) (is : IsAnswer m s x) where
  abbrev last : Entry
  last = Step a s x r

  abbrev longer : List Entry
  longer = entries ++ last ∷ []

  -- a step but a reuse disturbs no linked row
  pub calm : (t : StepOf Record) → (IsReuse t → ⊥) → May a (knows a) t → (y : Answer Record) → IsAnswer m t y → (q : ℕ) → o.row q ≡ Linked → Disturbs t y q → ⊥
  calm (Place row w) still_so h y i q l same =
      let spare : o.row row ≡ Spare a = own_spare (m.rows row) ((knows a).own.rows row) (g.owns a row) h.1 in
      let l' : o.row row ≡ Linked = rw same l in cc
  calm (TakeRow row) still_so h y i q l d =
      let free : o.row row ≡ Free = g.frees.row row (whether_same (m.free_rows row) true y i d.0) in
      let l' : o.row row ≡ Linked = rw d.1 l in cc
  calm (ReuseRows w b) still_so h y i q l d = still_so tt
  calm t still_so h y i q l d = d

  -- the slot of a page of the tree has a linked row
  tree_slot : (p : ℕ) → IsInTree (o.page p) → (q : ℕ) → slot_in m.slots p ≡ Some q → o.row q ≡ Linked
  tree_slot p h q e = let here = placed_at (o.page p) h in elim (slot_of g a p here.0 here.1 here.2) [
    | inl none ↦ absurd (cc none.0)
    | inr some ↦ let same : some.0 ≡ q = same_Some some.0 q (sym some.1 ∙ e) in rw same at some.2.linked
  ]

  -- what a step shows its actor learns
  learnt_shown : (q : ℕ) → Shown s x q → (q ≡ 0) ⊎ ((learn (knows a) s x).read.learnt q ≡ true)
  learnt_shown q (inl h) = rw h.2 (rw h.3 (by_slot h.0 q h.1))
    where
      by_slot : (p q : ℕ) → 0 < p → (q ≡ 0) ⊎ ((learn (knows a) (Slot p) (Number q)).read.learnt q ≡ true)
      by_slot zero q above = absurd (omega arith)
      by_slot (suc p) zero above = inl refl
      by_slot (suc p) (suc q) above = inr (put_same (knows a).read.learnt (suc q) true)
  learnt_shown q (inr h) = inr (rw h.2 (rw h.3 (rw h.4 (put_same (knows a).read.learnt q true))))

  grows_next : (v : Option ℕ) (f : ℕ → Bool) (q : ℕ) → f q ≡ true → learnt_next v f q ≡ true
  grows_next None f q e = e
  grows_next (Some n) f q e = put_true f n q e

  -- what an actor that goes on has learnt it knows still
  learnt_stays : (k : Knowledge) (t : StepOf Record) (y : Answer Record) → Stays t → (q : ℕ) → k.read.learnt q ≡ true → (learn k t y).read.learnt q ≡ true
  learnt_stays k t y st q e = (elim (learning k t y) as (λ s x k' v. Stays s → k.read.learnt q ≡ true → k'.read.learnt q ≡ true) [
    | at_page p n ↦ λ st. put_true k.read.learnt (suc n) q
    | at_row r w ↦ λ st. grows_next (next_row w) k.read.learnt q
    | wins p x z ↦ λ st. subst (λ (f : ℕ → Bool). f q ≡ true) (sym (ap (λ v. v.learnt) (exchanged_alike p x z k).read))
    | enters n x ↦ λ st e. absurd st
    | leaves x ↦ λ st e. absurd st
    | v ↦ λ st e. e
  ]) st e

  stays_or : (t : StepOf Record) → May a (knows a) t → (q : ℕ) → (knows a).read.learnt q ≡ true → ((q : ℕ) → (knows a).read.learnt q ≡ true → (knows a).inside ≡ true) → (t ≡ Leave) ⊎ Stays t
  stays_or (Enter n) h q e inside = absurd (cc (inside q e, h.0))
  stays_or Leave h q e inside = inl refl
  stays_or t h q e inside = inr tt

  shown_cases : (b q : ℕ) → ShowsRow longer (length entries) b q → (b ≡ a) × Shown s x q
  shown_cases b q (inl h) = let e = h.2.1 in let f = slice_get-push entries last in ((cc (e, f)), inl (h.0, h.1, (cc (e, f)), (cc (e, f))))
  shown_cases b q (inr h) = let e = h.2.1 in let f = slice_get-push entries last in ((cc (e, f)), inr (h.0, h.1, (cc (e, f)), (cc (e, f)), h.3))

  shows_now : (q : ℕ) → Shown s x q → ShowsRow longer (length entries) a q
  shows_now q (inl h) = inl (h.0, h.1, (r, rw (sym h.2, sym h.3) (slice_get-push entries last)))
  shows_now q (inr h) = inr (h.0, h.1, (r, rw (sym h.2, sym h.3) (slice_get-push entries last)), h.4)

  known_kept : (b q : ℕ) → (knows b).read.learnt q ≡ true → (b ≡ a → Stays s) → (Disturbs s x q → ⊥) → KnowsRow longer (length longer) b q
  known_kept b q e stays still = rw pushed_length (KnowsRow-kept entries last b q (old.known b q e)
      (λ epoch y. ((λ h. let i = h.1 in stays_no_enter s epoch (stays (let j : a ≡ b = cc in sym j)) (cc)), (λ h. let i = h.1 in stays_no_leave s (stays (let j : a ≡ b = cc in sym j)) (cc))))
      (λ other t y h d. let i = h.1 in let st : s ≡ t = cc in let xy : x ≡ y = cc in
      still (rw xy (rw st d))))

  at_rest : (t : StepOf Record) → Stays t → (y : Answer Record) → (b : ℕ) → (cond (eqb b a) (after_reply (learn (knows a) t y) r) (knows b)).inside ≡ true → 0 < (memory_after a t m).announced b
  at_rest t st y b e = rw (same_announced a m t st) (by_equal b a
      (λ i is. let f = rw is at e in rw i (old.announced a (sym (learn_inside (knows a) t y st) ∙ f))) (λ ne is. let f = rw is at e in old.announced b f))

  announced_after : (t : StepOf Record) → May a (knows a) t → (y : Answer Record) → (b : ℕ)
      → (cond (eqb b a) (after_reply (learn (knows a) t y) r) (knows b)).inside ≡ true → 0 < (memory_after a t m).announced b
  announced_after (Enter n) h y b e = by_equal b a (λ i t. rw t h.1) (λ ne t. rw t (old.announced b (rw t at e)))
  announced_after Leave h y b e = by_equal b a (λ i t. absurd (let f = rw t at e in cc)) (λ ne t. rw t (old.announced b (rw t at e)))
  announced_after t h y b e = at_rest t tt y b e

  epoch_after : (t : StepOf Record) → May a (knows a) t → (0 < (memory_after a t m).epoch) × ((memory_after a t m).epoch ≤ 2 ^ 62)
  epoch_after (Retire q) h = by_equal m.epoch q (λ i t. rw t (omega arith)) (λ ne t. rw t old.epoch)
  epoch_after t h = old.epoch

  posted_after : (t : StepOf Record) → May a (knows a) t → ((e : ℕ) → (knows a).limbo.epoch ≡ Some e → e ≤ m.epoch) → (b : ℕ) → (memory_after a t m).announced b ≤ (memory_after a t m).epoch
  posted_after (Retire q) h read b = by_equal m.epoch q (λ i t. rw t (let o = old.posted b in omega arith)) (λ ne t. rw t (old.posted b))
  posted_after (Enter n) h read b = by_equal b a (λ i t. rw t (read n h.2)) (λ ne t. rw t (old.posted b))
  posted_after Leave h read b = by_equal b a (λ i t. rw t (omega arith)) (λ ne t. rw t (old.posted b))
  posted_after t h read b = old.posted b

  pub zero_after : (t : StepOf Record) → (IsReuse t → ⊥) → May a (knows a) t → (memory_after a t m).free_rows 0 ≡ false
  zero_after (TakeRow q) still_so h = by_equal 0 q (λ i t. rw t) (λ ne t. rw t old.zero_taken)
  zero_after (ReuseRows q w) still_so h = absurd (still_so tt)
  zero_after t still_so h = old.zero_taken

  going_command : (o : Option Reply) → going_on o (command_of entries a) ≡ commands_after (command_of entries) (Step a s x o) a
  going_command None = refl
  going_command (Some y) = sym (put_same (command_of entries) a None)

  other_command : (o : Option Reply) (b : ℕ) → b ≢ a → commands_after (command_of entries) (Step a s x o) b ≡ command_of entries b
  other_command None b ne = refl
  other_command (Some y) b ne = put_other (command_of entries) a None b ne

  pub free_rows_before : (t : StepOf Record) → (IsReuse t → ⊥) → May a (knows a) t → (q : ℕ) → (memory_after a t m).free_rows q ≡ true → m.free_rows q ≡ true
  free_rows_before (TakeRow n) still_so h q e = by_equal q n (λ i t. absurd (let f = rw t at e in cc)) (λ ne t. rw t at e)
  free_rows_before (ReuseRows n w) still_so h q e = absurd (still_so tt)
  free_rows_before t still_so h q e = e

  pub free_pids_before : (t : StepOf Record) → (IsReuse t → ⊥) → May a (knows a) t → (q : ℕ) → (memory_after a t m).free_pids q ≡ true → m.free_pids q ≡ true
  free_pids_before (TakePid n) still_so h q e = by_equal q n (λ i t. absurd (let f = rw t at e in cc)) (λ ne t. rw t at e)
  free_pids_before (ReusePids n w) still_so h q e = absurd (still_so tt)
  free_pids_before t still_so h q e = e

  pub row_below_after : (o' : Owners) → ((q : ℕ) → IsMoved a (m.free_rows q) (o.row q) (o'.row q)) → (q : ℕ) → (o'.row q ≡ Free) ⊎ (q < limits.rows)
  row_below_after o' moved q = elim (moved q) [
    | inl same ↦ elim (old.row_below q) [ inl f ↦ inl (same ∙ f) | inr lt ↦ inr lt ]
    | inr more ↦ elim more [
      | inl taken ↦ inr (old.free_row_below q taken.0)
      | inr linked ↦ elim (old.row_below q) [ inl f ↦ absurd (cc linked.0) | inr lt ↦ inr lt ]
    ]
  ]

  pub zero_free_after : (o' : Owners) → IsMoved a (m.free_rows 0) (o.row 0) (o'.row 0) → o'.row 0 ≡ Free
  zero_free_after o' (inl e) = e ∙ old.zero_free
  zero_free_after o' (inr (inl h)) = absurd (cc (h.0, old.zero_taken))
  zero_free_after o' (inr (inr h)) = absurd (cc (h.0, old.zero_free))

  -- what the numbers are afterwards
  pub record Numbers (o' : Owners) : Type 0 where
    pub undisturbed : (b q : ℕ) → (knows b).read.learnt q ≡ true → Disturbs s x q → ⊥
    pub zero_free : o'.row 0 ≡ Free
    pub zero_taken : (memory_after a s m).free_rows 0 ≡ false
    pub free_row_below : (q : ℕ) → (memory_after a s m).free_rows q ≡ true → q < limits.rows
    pub row_below : (q : ℕ) → (o'.row q ≡ Free) ⊎ (q < limits.rows)
    pub free_pid_below : (p : ℕ) → (memory_after a s m).free_pids p ≡ true → (0 < p) × (p < limits.pids)

  -- of a step but a reuse
  pub calm_numbers : (IsReuse s → ⊥) → (o' : Owners) → ((q : ℕ) → IsMoved a (m.free_rows q) (o.row q) (o'.row q)) → Numbers o'
  calm_numbers still_so o' moved = record {
    undisturbed = λ b q e d. calm s still_so may x is q ((g.sound b).learnt_fits q e) d;
    zero_free = zero_free_after o' (moved 0);
    zero_taken = zero_after s still_so may;
    free_row_below = λ q e. old.free_row_below q (free_rows_before s still_so may q e);
    row_below = row_below_after o' moved;
    free_pid_below = λ p e. old.free_pid_below p (free_pids_before s still_so may p e);
  }

  pub named_steps : (o' : Owners) → Numbers o' → ((q : ℕ) → (knows a).read.learnt q ≡ true → (knows a).inside ≡ true)
      → ((e : ℕ) → (knows a).limbo.epoch ≡ Some e → e ≤ m.epoch) → ((p : ℕ) → (phase_of (o'.page p) ≡ phase.free) ⊎ ((0 < p) × (p < limits.pids)))
      → ((p q : ℕ) → slot_in (memory_after a s m).slots p ≡ Some q → IsInTree (o'.page p) ⊎ IsReadyPage o' (memory_after a s m) (knows_after knows last) p q)
      → command_of longer ≡ commands_after (command_of entries) last
      → IsNamed limits longer o' (memory_after a s m) (knows_after knows last)
  named_steps o' numbers inside read pid_below held asks = record {
    shown = λ b q h. elim (HasLearnt-push_cases entries last b q h) [
      | inl before ↦ elim (old.shown b q before.0) [
        | inl z ↦ inl z
        | inr l ↦ inr (by_equal b a
            (λ i t. rw t (let l' : (knows a).read.learnt q ≡ true = rw i at l in
            elim (stays_or s may q l' inside) [
              | inl left ↦ let back = sym i in absurd (before.1 x (r, λ d. Step (back d) (left d) x r))
              | inr st ↦ learnt_stays (knows a) s x st q l'
            ]))
            (λ ne t. rw t l))
      ]
      | inr shows ↦
          let v = shown_cases b q shows in
          elim (learnt_shown q v.1) [ inl z ↦ inl z | inr l ↦ inr (by_equal b a (λ i t. rw t l) (λ ne t. rw t (absurd (ne v.0)))) ]
    ];
    known = λ b q. by_equal b a
        (λ i t. rw (t, i) λ e. elim (learnt_cases (knows a) s x q e) [
          | inl h ↦ known_kept a q h.0 (λ j. h.1) (numbers.undisturbed a q h.0)
          | inr h ↦ rw pushed_length (KnowsRow-shown entries last a q (shows_now q h))
        ])
        (λ ne t. rw t λ e. known_kept b q e (λ i. absurd (ne i)) (numbers.undisturbed b q e));
    announced = announced_after s may x;
    epoch = epoch_after s may;
    posted = posted_after s may read;
    zero_free = numbers.zero_free;
    zero_taken = numbers.zero_taken;
    free_row_below = numbers.free_row_below;
    row_below = numbers.row_below;
    free_pid_below = numbers.free_pid_below;
    pid_below = pid_below;
    in_slots = held;
    commands = λ b. rw asks (by_equal b a
        (λ i t. rw (t, i) (ap (going_on r) (learn_command (knows a) s x ∙ old.commands a) ∙ going_command r))
        (λ ne t. rw t (old.commands b ∙ sym (other_command r b ne))));
  }

  pub reads_known : (b row : ℕ) (y : Answer Record) → IsStep last b (Row row) y → KnowsRow entries (length entries) b row
  reads_known b row y h =
      let i = h.1 in
      let ab : a ≡ b = cc in
      let st : s ≡ Row row = cc in
      rw ab at (old.known a row (rw st at may).1)

  pub touches_outside : (b : ℕ) (t : StepOf Record) (y : Answer Record) → IsStep last b t y → m.announced b ≡ 0 → IsFalse (touches_pages t)
  touches_outside b t y h z =
      let i = h.1 in
      let ab : a ≡ b = cc in
      let st : s ≡ t = cc in
      rw (← st) (elim (touches_inside a (knows a) s may) [
        | inl inside ↦ let lt : 0 < m.announced a = old.announced a inside in let z' : m.announced a ≡ 0 = rw ab z in absurd (omega arith)
        | inr no_touch ↦ no_touch
      ])

  pub may_take : memory_of limits entries ≡ m → (t : StepOf Record) → May a (knows a) t → MayTake limits entries a t
  may_take same (Place row w) h = record {
    taken = rw same (false_if (m.free_rows row) (λ e. let f : o.row row ≡ Free = g.frees.row row e in let sp = spare in cc));
    unlinked = λ on. unlinked (rw same at on);
    unlearnt = λ other ne learnt. elim (old.shown other row learnt) [
      | inl z ↦ let f : o.row row ≡ Free = ap o.row z ∙ old.zero_free in let sp = spare in absurd (cc)
      | inr l ↦ let l' = (g.sound other).learnt_fits row l in let sp = spare in absurd (cc)
    ];
  }
    where
      spare : o.row row ≡ Spare a
      spare = own_spare (m.rows row) ((knows a).own.rows row) (g.owns a row) h.1

      -- the row is on the chain of no linked row
      apart : (x : ℕ) (c : List Record) → IsChainFrom m.rows x c → Contains (chain_rows x c) row → o.row x ≡ Linked → ⊥
      apart x c chain among l = let l' : o.row row ≡ Linked = chain_linked o (shared_part m) g.closed x c l chain row among in let sp = spare in cc

      -- nor is it the base in the slot of a page that is ready
      in_base : (b p x : ℕ) → o.row x ≡ Spare b → (knows b).own.pages p ≡ Ready x → x ≡ row → ⊥
      in_base b p x sp ready here =
          let owner : o.row row ≡ Spare b = rw here at sp in
          let sp' = spare in
          let mine : b ≡ a = cc in
          h.2 p (rw mine at (ready ∙ ap Ready here))

      unlinked : IsOnChain m row → ⊥
      unlinked on =
          let c = on_chain m row on in
          elim (old.in_slots c.page c.first c.held) [
            | inl in_tree ↦ apart c.first c.chain c.records c.among (tree_slot c.page in_tree c.first c.held)
            | inr ready ↦ elim ready.owned [
              | inl l ↦ apart c.first c.chain c.records c.among l
              | inr own ↦ in_base ready.actor c.page c.first own ready.ready (base_alone m c.first row ready.base c.chain c.records c.among ready.stands)
            ]
          ]
  may_take same t h = tt
