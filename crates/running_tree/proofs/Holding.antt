-- What a seat holds back between operations.
use Rattle.std.proofs.Common.{◌≡◌, ◌≢◌, ◌<◌, ◌==◌, ℕ, List, [], ◌∷◌, map, length, Option, Some, None, true, false, inl, inr, refl, sym, subst, arith}
use Rattle.running_tree.proofs.Words.{IfSome, if◌then◌else◌, is_some, same_Some, Limits, IsOwn, Recalled, Actor, IsActor, IsActorWith, command_at, running_command, IsAtRestWith, UnderWay}
use Rattle.running_tree.proofs.Words.{AreSoMany}
use Rattle.std.specs.List.{All, AllPairs, Contains}
use Rattle.std.proofs.lemmas.Bool.{eq-eqb, eqb-true}
use Rattle.std.proofs.lemmas.List.{get_or-map, length-map}
use Rattle.std.proofs.lemmas.List.Elements.{All-cons, All-contains, All-nil, Contains-append_right, Contains-push_cases}
use Rattle.std.proofs.lemmas.List.Kept.{AllPairs-cons}
use Rattle.std.proofs.lemmas.Map.Made.{Contains-tail}
use Rattle.traces.specs.discipline.Knowledge as known
use Rattle.traces.specs.discipline.Knowledge.{Belongings, Knowledge, LimboMark, OwnRow}
use Rattle.epochs.specs.declared.entry.Entry.{Entry}
use Rattle.epochs.specs.declared.entry.Stage.{Stage}
use Rattle.epochs.specs.declared.entry.Stage.TheVariants as stage
use Rattle.epochs.specs.Limbo.{IsLimboList, LimboList, stage_in, stage_of}
use Rattle.change_machine.specs.Spares.{AreSpare, AreTheSpares, IsNoneOf, IsUnlinked, Spares}
use Rattle.sweep.specs.Kept.{Agrees}

-- an actor without an operation rests
pub at_rest : (limits : Limits) (a : ℕ) (k : Knowledge) (r : Recalled) (at : Actor) → IsActor limits a k r at → running_command at ≡ None → IsAtRestWith limits a at.hand k
at_rest limits a k r at h idle = go at.running h idle
  where
    go : (running : Option UnderWay) → IsActorWith limits a k r at.hand running → command_at running ≡ None → IsAtRestWith limits a at.hand k
    go None h e = h
    go (Some running) h e = cc

none_of : (row : ℕ) (rows : List ℕ) → IsNoneOf row rows → All (λ other. row ≢ other) rows
none_of row [] n = All-nil (λ other. row ≢ other)
none_of row (spare ∷ spares) n =
    All-cons (λ other. row ≢ other) spare spares (λ same. let i : (spare == row) ≡ true = eq-eqb spare row (sym same) in let o : (spare == row) ≡ false = n.0 in cc) (none_of row spares n.1)

spares_once : (own : ℕ → OwnRow) (rows : List ℕ) → AreSpare own rows → AllPairs (λ one other. one ≢ other) rows
spares_once own [] s = λ i j d before within. absurd (omega (arith, before, within))
spares_once own (row ∷ rows) s = AllPairs-cons (λ one other. one ≢ other) row rows (none_of row rows s.1) (spares_once own rows s.2)

spares_own : (own : ℕ → OwnRow) (rows : List ℕ) → AreSpare own rows → All (λ row. IsOwn (own row)) rows
spares_own own [] s = All-nil (λ row. IsOwn (own row))
spares_own own (row ∷ rows) s = All-cons (λ row. IsOwn (own row)) row rows s.0.0 (spares_own own rows s.2)

module _ (own : Belongings) (spares : Spares) (are : AreTheSpares own spares) where
  pub rows_spare : AreSoMany (λ row. IsOwn (own.rows row)) (length spares.rows)
  rows_spare = record {
    numbers = spares.rows;
    once = spares_once own.rows spares.rows are.rows;
    exact = λ number. (λ among. All-contains (λ row. IsOwn (own.rows row)) spares.rows number (spares_own own.rows spares.rows are.rows) among, are.all_rows number);
    many = refl;
  }

  abbrev IsSpare : ℕ → Type 0
  IsSpare pid = IsUnlinked (own.pages pid)

  pub pids_spare : AreSoMany (λ pid. IsUnlinked (own.pages pid)) (if is_some spares.pid then 1 else 0)
  pids_spare = go spares.pid are.page are.all_pages
    where
      only : (pid number : ℕ) → Contains (pid ∷ []) number → pid ≡ number
      only pid number among = elim (Contains-push_cases [] pid number among) [ inl there ↦ absurd (let below = there.1 in omega (arith, below)) | inr same ↦ same ]

      go : (pid : Option ℕ) → IfSome pid (λ pid. (0 < pid) × IsSpare pid) → ((page : ℕ) → IsSpare page → pid ≡ Some page) → AreSoMany IsSpare (if is_some pid then 1 else 0)
      go None is all = record {
        numbers = [];
        once = λ i j d before within. absurd (omega (arith, before, within));
        exact = λ number. (λ among. absurd (let below = among.1 in omega (arith, below)), λ spare. let none : None ≡ Some number = all number spare in cc);
        many = refl;
      }
      go (Some pid) is all = record {
        numbers = pid ∷ [];
        once = λ i j d before within. absurd (omega (arith, before, within));
        exact = λ number. (λ among. subst IsSpare (only pid number among) is.1, λ spare. subst (Contains (pid ∷ [])) (same_Some pid number (all number spare)) (0, omega arith, refl));
        many = refl;
      }

abbrev number_of : Entry → ℕ
number_of entry = entry.number

some_entry : Entry
some_entry = record { number = 0; stage = stage.Unstamped }

-- a number is in a list exactly where it has a stage there
staged : (entries : List Entry) (number : ℕ) → Contains (map number_of entries) number → (s : Stage) × (stage_in entries number ≡ Some s)
staged [] number among = absurd (let below = among.1 in omega (arith, below))
staged (entry ∷ entries) number among = elim (entry.number == number) as (λ b. (entry.number == number) ≡ b → (s : Stage) × ((if b then Some entry.stage else stage_in entries number) ≡ Some s)) [
  | true ↦ λ is. (entry.stage, refl)
  | false ↦ λ is. staged entries number (Contains-tail entry.number (map number_of entries) number (λ same. let i : (entry.number == number) ≡ true = eq-eqb entry.number number same in cc) among)
] refl

listed : (entries : List Entry) (number : ℕ) (s : Stage) → stage_in entries number ≡ Some s → Contains (map number_of entries) number
listed [] number s is = cc
listed (entry ∷ entries) number s is = elim (entry.number == number) as
    (λ b. (entry.number == number) ≡ b → (if b then Some entry.stage else stage_in entries number) ≡ Some s → Contains (entry.number ∷ map number_of entries) number) [
      | true ↦ λ same found. subst (Contains (entry.number ∷ map number_of entries)) (eqb-true entry.number number same) (0, omega arith, refl)
      | false ↦ λ other found. Contains-append_right (entry.number ∷ []) (map number_of entries) number (listed entries number s found)
    ] refl is

module _ (limits : Limits) (actor : ℕ) (last : Option ℕ) where
  -- what has a stage is known to be out of the tree, and the other way round
  out : (s : Stage) (mark : LimboMark) → Agrees limits actor last (Some s) mark → mark ≢ known.Absent
  out stage.Unstamped mark agrees is = let none : Agrees limits actor last (Some stage.Unstamped) known.Absent = subst (Agrees limits actor last (Some stage.Unstamped)) is agrees in absurd none
  out (stage.Stamped stamp) mark agrees is =
      let none : Agrees limits actor last (Some (stage.Stamped stamp)) known.Absent = subst (Agrees limits actor last (Some (stage.Stamped stamp))) is agrees in
      absurd none
  out (stage.Passed stamp) mark agrees is =
      let none : Agrees limits actor last (Some (stage.Passed stamp)) known.Absent = subst (Agrees limits actor last (Some (stage.Passed stamp))) is agrees in
      absurd none

  in_list : (o : Option Stage) (mark : LimboMark) → Agrees limits actor last o mark → mark ≢ known.Absent → (s : Stage) × (o ≡ Some s)
  in_list (Some s) mark agrees marked = (s, refl)
  in_list None known.Absent agrees marked = absurd (marked refl)
  in_list None known.Unstamped agrees marked = absurd agrees
  in_list None (known.Stamped epoch passed) agrees marked = absurd agrees

  pub in_limbo : (list : LimboList) (marks : ℕ → LimboMark) → IsLimboList list → ((number : ℕ) → Agrees limits actor last (stage_of list number) (marks number))
      → AreSoMany (λ number. marks number ≢ known.Absent) (length list.entries)
  in_limbo list marks is agree = record {
    numbers = map number_of list.entries;
    once = once;
    exact = λ number. (
      λ among. let found = staged list.entries number among in out found.0 (marks number) (subst (λ o. Agrees limits actor last o (marks number)) found.1 (agree number)),
      λ marked. let found = in_list (stage_of list number) (marks number) (agree number) marked in listed list.entries number found.0 found.1,
    );
    many = sym (length-map list.entries number_of);
  }
    where
      once : AllPairs (λ one other. one ≢ other) (map number_of list.entries)
      once i j d before within =
          let lt : j < length list.entries = rw (length-map list.entries number_of) at within in
          let earlier : i < length list.entries = omega (arith, lt, before) in
          rw (get_or-map number_of list.entries i some_entry d earlier, get_or-map number_of list.entries j some_entry d lt) (is.once i j some_entry before lt)
