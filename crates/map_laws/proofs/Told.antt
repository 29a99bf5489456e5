-- Each operation of a run is one of its actor's calls.
use Rattle.map_laws.proofs.Words.{Begin, Command, Entry, List, None, Option, Reply, Some, Step, answered_last, ap, call_after, calls_along, either, eq-eqb}
use Rattle.map_laws.proofs.Words.{is_entry_of, length, own_entries, refl, slice_get, slice_get-push, slice_get_kept, suc, true, zero, ℕ, [], ◌∙◌, ◌∷◌, ◌≡◌}
use Rattle.map_laws.specs.InOrder.{IsCall}
use Rattle.map_laws.proofs.Asking.{Calls}

-- one of the calls has the command
abbrev IsAmong : Command → Calls → Type 0
IsAmong asked calls = (place : ℕ) × (reply : Option Reply) × (slice_get calls place ≡ Some (asked, reply))

one_later : (asked : Command) (first : Command × Option Reply) (calls : Calls) → IsAmong asked calls → IsAmong asked (first ∷ calls)
one_later asked first calls (place, reply, at) = (suc place, reply, at)

answered_keeps : (calls : Calls) (given : Reply) (asked : Command) (place : ℕ) (reply : Option Reply) → slice_get calls place ≡ Some (asked, reply) → IsAmong asked (answered_last calls given)
answered_keeps [] given asked place reply at = absurd (cc)
answered_keeps ((c, before) ∷ []) given asked zero reply at = (0, Some given, ap (λ (z : Command). Some (z, Some given)) (first_same (c, before) (asked, reply) at))
  where
    first_same : (v w : Command × Option Reply) → Some v ≡ Some w → v.0 ≡ w.0
    first_same v w e = let pair : v ≡ w = cc in λ i. (pair i).0
answered_keeps ((c, before) ∷ []) given asked (suc place) reply at = absurd (cc)
answered_keeps (first ∷ second ∷ rest) given asked zero reply at = (0, reply, at)
answered_keeps (first ∷ second ∷ rest) given asked (suc place) reply at = one_later asked first (answered_last (second ∷ rest) given) (answered_keeps (second ∷ rest) given asked place reply at)

after_keeps : (asked : Command) (calls : Calls) (entry : Entry) → IsAmong asked calls → IsAmong asked (call_after calls entry)
after_keeps asked calls (Begin who other) (place, reply, at) = (place, reply, slice_get_kept calls ((other, None) ∷ []) place (asked, reply) at)
after_keeps asked calls (Step who step told None) among = among
after_keeps asked calls (Step who step told (Some given)) (place, reply, at) = answered_keeps calls given asked place reply at

along_keeps : (asked : Command) (calls : Calls) (entries : List Entry) → IsAmong asked calls → IsAmong asked (calls_along calls entries)
along_keeps asked calls [] among = among
along_keeps asked calls (entry ∷ entries) among = along_keeps asked (call_after calls entry) entries (after_keeps asked calls entry among)

along_tells : (actor : ℕ) (asked : Command) (calls : Calls) (entries : List Entry) (n : ℕ) → slice_get entries n ≡ Some (Begin actor asked) → IsAmong asked (calls_along calls entries)
along_tells actor asked calls [] n at = absurd (cc)
along_tells actor asked calls (entry ∷ entries) zero at =
    let is : entry ≡ Begin actor asked = cc in
    along_keeps asked (call_after calls entry) entries (rw is (length calls, None, slice_get-push calls (asked, None)))
along_tells actor asked calls (entry ∷ entries) (suc n) at = along_tells actor asked (call_after calls entry) entries n at

own_begin : (actor : ℕ) (asked : Command) (run : List Entry) (n : ℕ) → slice_get run n ≡ Some (Begin actor asked) → (m : ℕ) × (slice_get (own_entries actor run) m ≡ Some (Begin actor asked))
own_begin actor asked [] n at = absurd (cc)
own_begin actor asked (entry ∷ run) zero at =
    let is : entry ≡ Begin actor asked = cc in
    let mine : is_entry_of actor entry ≡ true = ap (is_entry_of actor) is ∙ eq-eqb actor actor refl in
    (0, rw mine at)
own_begin actor asked (entry ∷ run) (suc n) at = by_rest (own_begin actor asked run n at)
  where
    by_rest : (m : ℕ) × (slice_get (own_entries actor run) m ≡ Some (Begin actor asked)) → (m : ℕ) × (slice_get (own_entries actor (entry ∷ run)) m ≡ Some (Begin actor asked))
    by_rest (m, there) = either (is_entry_of actor entry)
        (λ mine. (suc m, rw mine there))
        (λ apart. (m, rw apart there))

pub told_call : (run : List Entry) (actor start : ℕ) (asked : Command) → slice_get run start ≡ Some (Begin actor asked) → IsCall run actor asked
told_call run actor start asked at = let (m, there) = own_begin actor asked run start at in along_tells actor asked [] (own_entries actor run) m there
