-- A step that is paid for is a cause of its operation.
use Rattle.tree_law.proofs.Words.{false, [], ap, refl, Option, suc, List, true, inl, length, ◌++◌, inr, ◌∷◌, subst, sym, ℕ, ◌≡◌, zero, ◌∙◌, ◌<◌, arith, Some, Reply, Limits, Answer, Whether}
use Rattle.tree_law.proofs.Words.{Content, Number, StepOf, TakePid, Row, TakeRow, Slot, Exchange, Memory, Record, Remove, knows, Ready, Recalled, is_removal, Entry, Step, IsExchangeOf, IsCause}
use Rattle.tree_law.proofs.Words.{TakesNone, IsTheStep, IsTake, link_of, Operation, IsLast, Recollects, Walks, ltb-true}
use Rattle.deltas.specs.declared.record.Remove.{Remove as Removal}
use Rattle.std.specs.Prelude.{◌≤◌, ltb}
use Rattle.traces.specs.discipline.Recalled.{AnyNames, IsPaid, IsUnread, is_lower, removal_level}
use Rattle.tree_law.proofs.trace.Searches.{takes_kept}
use Rattle.tree_law.proofs.direct.Appended.{memory_last, takes_below, takes_last}
use Rattle.tree_law.proofs.direct.Causes.{none_kept}
use Rattle.tree_law.proofs.direct.Linking.{IsChange}

module _ (limits : Limits) (entries : List Entry) (last : Entry) (op : Operation) (latest : IsLast entries op) (reply : Option Reply) where
  abbrev longer : List Entry
  longer = entries ++ last ∷ []

  none : (m : ℕ) (Kind : StepOf Record → Type 0) → TakesNone limits entries op m (length entries) Kind → TakesNone limits longer op m (length entries) Kind
  none m Kind h = none_kept limits entries last op m (length entries) Kind (omega arith) h

  -- since slot 0 was last read, the first removal, or one of a lower level
  removal : (row : ℕ) (remove : Removal) (r : Recalled) (seen : ℕ → Option Record) → last ≡ Step op.actor (Row row) (Content (Remove remove)) reply
      → ((before : Record) → seen row ≡ Some before → Remove remove ≡ before)
      → Walks limits entries op seen r.walk → is_lower (Remove remove) r.walk ≡ true → IsCause limits longer op (length entries)
  removal row remove r seen is same w lower =
      let first : TakesNone limits entries op w.at (length entries) (IsTheStep limits entries op (Row row)) = λ between step answer low high own kind.
      let was = w.rows between row answer low (rw kind at own) in
      let there : (r.walk.removed ≡ true) × (r.walk.level ≤ remove.level) = subst
      (λ content. is_removal content ≡ true → (r.walk.removed ≡ true) × (r.walk.level ≤ removal_level content)) (sym (same was.0 was.1)) was.2 refl in
      let less : ltb remove.level r.walk.level ≡ true = rw there.0 at lower in
      let low = ltb-true remove.level r.walk.level less in
      let high = there.1 in
      omega (arith, low, high) in
      inr (inr (inr (
        w.at,
        w.root,
        takes_below entries last op w.at _ _ w.begins,
        takes_kept entries last op w.at _ _ w.begins,
        none w.at (IsTheStep limits entries op (Slot 0)) w.last,
        inl (row, remove, takes_last entries last op _ _ reply latest is, none w.at (IsTheStep limits entries op (Row row)) first),
      )))

  -- the slot of a page that a record names, which holds 0
  emptied : (page : ℕ) (r : Recalled) (seen : ℕ → Option Record) → last ≡ Step op.actor (Slot page) (Number 0) reply → Walks limits entries op seen r.walk → r.walk.removed ≡ false
      → IsUnread page r.walk.visited → AnyNames r.walk.records page → IsCause limits longer op (length entries)
  emptied page r seen is w fresh unread names =
      let f = w.named page names in inr (inr (inr (
        w.at,
        w.root,
        takes_below entries last op w.at _ _ w.begins,
        takes_kept entries last op w.at _ _ w.begins,
        none w.at (IsTheStep limits entries op (Slot 0)) w.last,
        inr (
          page,
          f.1,
          f.0,
          f.2,
          takes_last entries last op _ _ reply latest is,
          none w.at (IsTheStep limits entries op (Slot page)) (w.slots page fresh unread),
          f.3,
          takes_below entries last op f.0 _ _ f.4,
          takes_kept entries last op f.0 _ _ f.4,
          f.5,
        ),
      )))

  won : (slot old new : ℕ) → last ≡ Step op.actor (Exchange slot old new) (Whether true) reply → IsChange limits entries op.actor slot old new → 0 < old
      → ((base : ℕ) → (knows entries op.actor).own.pages slot ≡ Ready base → ⊥) → IsCause limits longer op (length entries)
  won slot old new is change some foreign =
      let counts = change.counts some foreign in
      inl (change.kind, (slot, old, new, takes_last entries last op _ _ reply latest is, ap (λ (m : Memory). link_of m slot old new) (memory_last entries last limits) ∙ change.is), counts.0, counts.1)

  pub paid : (s : StepOf Record) (x : Answer Record) (r : Recalled) (seen : ℕ → Option Record) → last ≡ Step op.actor s x reply
      → ((slot old new : ℕ) → s ≡ Exchange slot old new → x ≡ Whether true → IsChange limits entries op.actor slot old new)
      → ((page head base : ℕ) → r.heads page ≡ Some head → (knows entries op.actor).own.pages page ≡ Ready base → ⊥)
      → ((row : ℕ) (content before : Record) → s ≡ Row row → x ≡ Content content → seen row ≡ Some before → content ≡ before)
      → Recollects limits entries op r → (r.walk.rooted ≡ true → Walks limits entries op seen r.walk) → IsPaid r s x → IsCause limits longer op (length entries)
  paid (Exchange slot old new) (Whether true) r seen is change foreign same reads walks h = won slot old new is (change slot old new refl refl) h.0 (λ base e. foreign slot old base h.1 e)
  paid (Exchange slot old new) (Whether false) r seen is change foreign same reads walks h =
      let (m, took, none') = reads.heads slot old h.1 in
      inr (inl (slot, old, new, m, takes_last entries last op _ _ reply latest is, (takes_below entries last op m _ _ took), takes_kept entries last op m _ _ took, none m (IsExchangeOf slot) none'))
  paid (TakePid pid) (Whether false) r seen is change foreign same reads walks h =
      let (m, took, none') = reads.pids _ h.0 h.1 in
      inr (inr (inl (pid, h.0, m, (takes_below entries last op m _ _ took), h.2, none m IsTake none', inl (takes_last entries last op _ _ reply latest is, takes_kept entries last op m _ _ took))))
  paid (TakeRow row) (Whether false) r seen is change foreign same reads walks h =
      let (m, took, none') = reads.rows _ h.0 h.1 in
      inr (inr (inl (row, h.0, m, (takes_below entries last op m _ _ took), h.2, none m IsTake none', inr (takes_last entries last op _ _ reply latest is, takes_kept entries last op m _ _ took))))
  paid (Slot (suc page)) (Number zero) r seen is change foreign same reads walks h = emptied (suc page) r seen is (walks h.0) h.1 h.2 h.3
  paid (Row row) (Content (Remove remove)) r seen is change foreign same reads walks h = removal row remove r seen is (λ before e. same row (Remove remove) before refl refl e) (walks h.0) h.1
  paid s x r seen is change foreign same reads walks h = absurd h
