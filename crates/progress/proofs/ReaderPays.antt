-- What changes of the tree pay for, after one entry more.
use Rattle.progress.proofs.Words.{◌≡◌, ◌≢◌, ◌<◌, ◌≤◌, ◌+◌, ◌*◌, ◌++◌, ℕ, suc, List, [], ◌∷◌, length, drop, Bool, true, false, cond, Option, Some, refl, ap, ◌∙◌, arith, drop-append-le, All-push}
use Rattle.progress.proofs.Words.{fold-append, All, count_by, Limits, Whether, Link, Exchange, Memory, Entry, Step, Happens, memory_of, increasing_push, pushed_length, is_step_of, link_of}
use Rattle.progress.proofs.Words.{ChangesTree, one_memory, PaysFrom, Happens-kept, changes_tree}
use Rattle.std.proofs.Math.Nat.{mul-suc}
use Rattle.std.proofs.lemmas.List.{drop_all}
use Rattle.bw_model.specs.declared.step.Link.TheVariants as link
use Rattle.traces.proofs.TraceLaws.{Happens-last}
use Rattle.progress.specs.ReadersAmong.{is_change}

kind_of : (o : Option Link) → is_change o ≡ true → (kind : Link) × (o ≡ Some kind) × (kind ≢ link.Ready) × (kind ≢ link.Undo)
kind_of (Some kind) e = (kind, refl, (λ f. cc f), (λ f. cc f))
kind_of other e = absurd (cc)

pub change_is : (memory : Memory) (entry : Entry) → changes_tree memory entry ≡ true → ChangesTree memory entry
change_is memory (Step a (Exchange slot old new) (Whether true) r) e = let h = kind_of (link_of memory slot old new) e in (a, slot, old, new, h.0, ((r, refl), h.1), h.2, h.3)
change_is memory entry e = absurd (cc)

end_enough : (worth left steps : ℕ) → steps ≡ 0 → left ≤ worth + 3 → steps + left ≤ worth * (0 + 1) + 3
end_enough worth left steps none few = omega (arith, none, few)

pub kept_enough : (bound before own left rest steps : ℕ) → steps ≡ before + own → rest + own ≤ left → before + left ≤ bound → steps + rest ≤ bound
kept_enough bound before own left rest steps same less paid = omega (arith, same, less, paid)

change_enough : (worth changes more before own left rest steps : ℕ) → steps ≡ before + own → own ≡ 0 → more ≡ suc changes → rest ≤ left + worth
    → before + left ≤ worth * (changes + 1) + 3 → steps + rest ≤ worth * (more + 1) + 3
change_enough worth changes more before own left rest steps same none one less paid =
    let place : more + 1 ≡ suc (changes + 1) = omega (arith, one) in
    let grown : worth * (more + 1) ≡ worth * (changes + 1) + worth = rw place (mul-suc worth (changes + 1)) in
    omega (arith, same, none, grown, less, paid)

pub count_push : {X : Type 0} (p : X → Bool) (xs : List X) (x : X) → count_by p (xs ++ x ∷ []) ≡ count_by p xs + cond (p x) 1 0
count_push p xs x = fold-append _ _ xs (x ∷ [])

-- from the end of the trace on nothing is taken
pub pays_end : (limits : Limits) (entries : List Entry) (actor m left : ℕ) → length entries ≤ m → left ≤ one_memory limits + 3 → PaysFrom limits entries actor m left
pays_end limits entries actor m left past few = record {
  changes = [];
  increasing = λ j h. absurd (omega arith);
  each = λ j d h. absurd (omega arith);
  paid = end_enough (one_memory limits) left (count_by (is_step_of actor) (drop m entries)) (ap (count_by (is_step_of actor)) (drop_all m entries past)) few;
}

module _ (limits : Limits) (entries : List Entry) (last : Entry) (actor : ℕ) where
  abbrev longer : List Entry
  longer = entries ++ last ∷ []

  counted : (m : ℕ) → m ≤ length entries → count_by (is_step_of actor) (drop m longer) ≡ count_by (is_step_of actor) (drop m entries) + cond (is_step_of actor last) 1 0
  counted m within = ap (count_by (is_step_of actor)) (drop-append-le m entries (last ∷ []) within) ∙ count_push (is_step_of actor) (drop m entries) last

  pub changes_kept : (m : ℕ) (changes : List ℕ) → All (λ place. (m ≤ place) × (place < length entries) × Happens limits entries place ChangesTree) changes
      → All (λ place. (m ≤ place) × (place < length longer) × Happens limits longer place ChangesTree) changes
  changes_kept m changes each =
      let long : length longer ≡ suc (length entries) = pushed_length entries last in
      λ k d lt. let h = each k d lt in (h.0, (let below = h.1 in omega (arith, long, below)), Happens-kept (last ∷ []) h.2)

  -- as few are left, and the entry costs no more than was left
  pub pays_kept : (m left rest : ℕ) → m ≤ length entries → rest + cond (is_step_of actor last) 1 0 ≤ left → PaysFrom limits entries actor m left → PaysFrom limits longer actor m rest
  pays_kept m left rest within less h = record {
    changes = h.changes;
    increasing = h.increasing;
    each = changes_kept m h.changes h.each;
    paid =
        kept_enough (one_memory limits * (length h.changes + 1) + 3) (count_by (is_step_of actor) (drop m entries)) (cond (is_step_of actor last) 1 0) left rest
        (count_by (is_step_of actor) (drop m longer)) (counted m within) less h.paid;
  }

  -- the entry changes the tree, and isn't the actor's
  pub pays_more : (m left rest : ℕ) → m ≤ length entries → ChangesTree (memory_of limits entries) last → is_step_of actor last ≡ false
      → rest ≤ left + one_memory limits → PaysFrom limits entries actor m left → PaysFrom limits longer actor m rest
  pays_more m left rest within change others less h = record {
    changes = h.changes ++ length entries ∷ [];
    increasing = increasing_push h.changes (length entries) h.increasing
        (λ k d lt. (h.each k d lt).1);
    each =
        let long : length longer ≡ suc (length entries) = pushed_length entries last in
        All-push (λ place. (m ≤ place) × (place < length longer) × Happens limits longer place ChangesTree) h.changes (length entries)
        (changes_kept m h.changes h.each) (within, omega arith, Happens-last limits entries last ChangesTree change);
    paid =
        change_enough (one_memory limits) (length h.changes) (length (h.changes ++ length entries ∷ [])) (count_by (is_step_of actor) (drop m entries))
        (cond (is_step_of actor last) 1 0) left rest (count_by (is_step_of actor) (drop m longer))
        (counted m within) (ap (λ (b : Bool). cond {A = ℕ} b 1 0) others) (pushed_length h.changes (length entries)) less h.paid;
  }
