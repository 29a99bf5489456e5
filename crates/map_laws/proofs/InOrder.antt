-- The calls of an actor are its operations, in order.
use Rattle.map_laws.proofs.Words.{◌≡◌, ◌≤◌, ℕ, zero, suc, List, [], ◌∷◌, ◌++◌, length, Option, Some, None, inl, inr, refl, sym, subst, arith, slice_get}
use Rattle.map_laws.proofs.Words.{Limits, Command, Reply, Entry, IsRun, command_of, Finishes, IsOperation, calls_of, operation_at}
use Rattle.map_laws.specs.InOrder.{AreInOrder, IsEnded}
use Rattle.map_laws.proofs.Along.{Keeps, Now, keeps_on}
use Rattle.map_laws.proofs.Asking.{Calls}

module _ (run : List Entry) (actor : ℕ) where
  -- they all are done, before this place
  abbrev AreDone : ℕ → Calls → ℕ → Type 0
  AreDone early [] till = early ≤ till
  AreDone early ((asked, None) ∷ calls) till = ⊥
  AreDone early ((asked, Some given) ∷ calls) till = (done : ℕ) × IsEnded run actor early asked given done × AreDone (suc done) calls till

  done_later : (early : ℕ) (calls : Calls) (till later : ℕ) → till ≤ later → AreDone early calls till → AreDone early calls later
  done_later early [] till later le is = let before : early ≤ till = is in omega arith
  done_later early ((asked, None) ∷ calls) till later le is = absurd is
  done_later early ((asked, Some given) ∷ calls) till later le (done, ended, rest) = (done, ended, done_later (suc done) calls till later le rest)

  one_more : (early : ℕ) (calls : Calls) (asked : Command) (given : Reply) (start n : ℕ) → IsOperation run (operation_at actor start asked) → Finishes run (operation_at actor start asked) n given
      → AreDone early calls start → AreDone early (calls ++ (asked, Some given) ∷ []) (suc n)
  one_more early [] asked given start n is ends late = (n, record { begun = record { start = start; late = late; is = is }; ends = ends }, omega arith)
  one_more early ((other, None) ∷ calls) asked given start n is ends done = absurd done
  one_more early ((other, Some reply) ∷ calls) asked given start n is ends (done, ended, rest) = (done, ended, one_more (suc done) calls asked given start n is ends rest)

  in_order : (early : ℕ) (calls : Calls) (till : ℕ) → AreDone early calls till → AreInOrder run actor early calls
  in_order early [] till is = tt
  in_order early ((asked, None) ∷ calls) till is = absurd is
  in_order early ((asked, Some given) ∷ calls) till (done, ended, rest) = (done, ended, in_order (suc done) calls till rest)

  in_order_but_one : (early : ℕ) (calls : Calls) (asked : Command) (start : ℕ) → IsOperation run (operation_at actor start asked) → AreDone early calls start
      → AreInOrder run actor early (calls ++ (asked, None) ∷ [])
  in_order_but_one early [] asked start is late = (record { start = start; late = late; is = is }, refl)
  in_order_but_one early ((other, None) ∷ calls) asked start is done = absurd done
  in_order_but_one early ((other, Some given) ∷ calls) asked start is (done, ended, rest) = (done, ended, in_order_but_one (suc done) calls asked start is rest)

  module _ (early : ℕ) where
    abbrev Done : Calls → ℕ → Type 0
    Done calls n = AreDone early calls n

    abbrev Begun : Calls → Command → ℕ → ℕ → Type 0
    Begun calls asked start n = AreDone early calls start

    keeps : Keeps run actor early Done Begun
    keeps = record {
      begins = λ calls asked n is done. done;
      steps = λ calls asked start n step told is own has done. done;
      ends = λ calls asked start n step told given is own has done. one_more early calls asked given start n is (step, told, own) done;
      waits = λ calls n entry late at apart done. done_later early calls n (suc n) (omega arith) done;
      lasts = λ calls asked start n entry late at apart done. done;
    }

    by_now : (calls : Calls) → Now run actor early Done Begun run calls → AreInOrder run actor early calls
    by_now calls (inl (none, done)) = in_order early calls (length run) done
    by_now calls (inr busy) = subst (AreInOrder run actor early) (sym busy.is) (in_order_but_one early busy.calls busy.asked busy.start busy.opened.begins busy.holds)

-- the calls from a place on at which the actor had none
pub are_in_order : (limits : Limits) (front back : List Entry) (actor : ℕ) → IsRun limits (front ++ back) → command_of front actor ≡ None
    → AreInOrder (front ++ back) actor (length front) (calls_of actor back)
are_in_order limits front back actor is_run none =
    by_now (front ++ back) actor (length front) (calls_of actor back)
    (keeps_on (front ++ back) actor (length front) (Done (front ++ back) actor (length front)) (Begun (front ++ back) actor (length front)) limits is_run
    (keeps (front ++ back) actor (length front)) front back refl (omega arith) none (omega arith))

earlier : (run : List Entry) (actor early late : ℕ) (asked : Command) (given : Reply) (done : ℕ) → early ≤ late → IsEnded run actor late asked given done → IsEnded run actor early asked given done
earlier run actor early late asked given done le ended =
    let then' = ended.begun.late in
    record { begun = record { start = ended.begun.start; late = omega arith; is = ended.begun.is }; ends = ended.ends }

both_same : (v w : Command × Option Reply) → Some v ≡ Some w → (v.0 ≡ w.0) × (v.1 ≡ w.1)
both_same v w e = let pair : v ≡ w = cc in (λ i. (pair i).0, λ i. (pair i).1)

some_same : {x y : Reply} → Some x ≡ Some y → x ≡ y
some_same e = cc

-- each call that has its reply
pub each_ended : (run : List Entry) (actor early : ℕ) (calls : Calls) (place : ℕ) (asked : Command) (given : Reply) → AreInOrder run actor early calls
    → slice_get calls place ≡ Some (asked, Some given) → (done : ℕ) × IsEnded run actor early asked given done
each_ended run actor early [] place asked given are at = absurd (cc)
each_ended run actor early ((other, None) ∷ calls) zero asked given are at = let said : None ≡ Some given = (both_same (other, None) (asked, Some given) at).1 in absurd (cc)
each_ended run actor early ((other, None) ∷ calls) (suc place) asked given (begun, none) at = absurd (in_none (subst (λ (cs : Calls). slice_get cs place ≡ Some (asked, Some given)) none at))
  where
    in_none : slice_get {X = Command × Option Reply} [] place ≡ Some (asked, Some given) → ⊥
    in_none e = cc
each_ended run actor early ((other, Some reply) ∷ calls) zero asked given (done, ended, rest) at =
    let same = both_same (other, Some reply) (asked, Some given) at in
    (done, rw (← (some_same same.1)) (rw (← same.0) ended))
each_ended run actor early ((other, Some reply) ∷ calls) (suc place) asked given (done, ended, rest) at =
    let (then', is) = each_ended run actor (suc done) calls place asked given rest at in
    (then', earlier run actor early (suc done) asked given then' (let late = ended.begun.late in let begun = ended.ends.2.begun in omega arith) is)
