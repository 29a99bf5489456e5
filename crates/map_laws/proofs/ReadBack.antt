-- What an actor reads of a key of its own.
use Rattle.map_laws.proofs.Words.{AreOwnReplies, Bool, Command, Get, IsDone, IsOneHistory, IsTrue, List, None, Reply, Seat, Some, Upsert, and_both, ap}
use Rattle.map_laws.proofs.Words.{append_assoc, calls_in, fits, has_point, if◌then◌else◌, is_about, is_eq, key_cmp, length, map, refl, reply_of, slice_get}
use Rattle.map_laws.proofs.Words.{slice_get-push, slice_get_kept, subst, sym, tells, true, turn_of, value_then, value_through, ℕ, [], ◌++◌, ◌∙◌, ◌∷◌, ◌≡◌}
use Rattle.std.specs.Prelude.{◌≢◌}
use Rattle.base_page.proofs.KeyLaws.{itself}
use Rattle.bw_model.specs.declared.command.Reply.TheVariants as reply
use Rattle.map_laws.proofs.Asking.{Calls}
use Rattle.map_laws.proofs.Fitting.{call_fits}
use Rattle.map_laws.proofs.OwnKeys.{Value, through_one}

not_tidied : (key : List ℕ) (asked : Command) → is_about key asked ≡ true → IsTrue (fits asked reply.Tidied) → ⊥
not_tidied key (Get k) is fit = cc
not_tidied key other is fit = cc

-- a command about a key takes effect unless it replies Full
took_effect : (key : List ℕ) (asked : Command) (given : Reply) → is_about key asked ≡ true → IsTrue (fits asked given) → given ≢ reply.Full → has_point given ≡ true
took_effect key asked reply.Full is fit full = absurd (full refl)
took_effect key asked reply.Tidied is fit full = absurd (not_tidied key asked is fit)
took_effect key asked other is fit full = refl

module _ (key : List ℕ) where
  told_last : (before : Value) (calls : Calls) (asked : Command) (given : Reply) → AreOwnReplies key before (calls ++ (asked, Some given) ∷ [])
      → IsTrue (tells key asked given) → reply_of asked (value_through key before calls) ≡ Some given
  told_last before [] asked given are tell = are.0 tell
  told_last before ((other, None) ∷ calls) asked given are tell = told_last before calls asked given are tell
  told_last before ((other, Some said) ∷ calls) asked given are tell = told_last (value_then key before other said) calls asked given are.1 tell

  pub last_replies : (before : Value) (calls : Calls) (asked : Command) (given : Reply) → AreOwnReplies key before (calls ++ (asked, Some given) ∷ [])
      → IsTrue (is_about key asked) → IsTrue (fits asked given) → given ≢ reply.Full
      → reply_of asked (value_through key before calls) ≡ Some given
  last_replies before calls asked given are is fit full = told_last before calls asked given are (and_both (is_about key asked) (has_point given) is (took_effect key asked given is fit full))

  own_key : is_eq (key_cmp key key) ≡ true
  own_key = ap is_eq (itself key)

  written : (before : Value) (calls : Calls) (value : List ℕ) (given : Reply) → IsTrue (fits (Upsert key value) given) → given ≢ reply.Full
      → value_through key before (calls ++ (Upsert key value, Some given) ∷ []) ≡ Some value
  written before calls value given fit full =
      through_one key before calls (Upsert key value) given
      ∙ ap (λ (b : Bool). if b then Some value else value_through key before calls)
      (and_both (is_eq (key_cmp key key)) (has_point given) own_key (took_effect key (Upsert key value) given own_key fit full))

  not_full : (told : Reply) → IsTrue (fits (Get key) told) → told ≢ reply.Full
  not_full told fit = λ full. let never : IsTrue (fits (Get key) reply.Full) = rw full at fit in cc

  -- what was set is read
  pub read_back : (before : Value) (calls : Calls) (value : List ℕ) (given told : Reply) → AreOwnReplies key before (calls ++ (Upsert key value, Some given) ∷ (Get key, Some told) ∷ [])
      → IsTrue (fits (Upsert key value) given) → IsTrue (fits (Get key) told) → given ≢ reply.Full → told ≡ reply.Value value
  read_back before calls value given told are fit fit_told full =
      let split : AreOwnReplies key before ((calls ++ (Upsert key value, Some given) ∷ []) ++ (Get key, Some told) ∷ []) =
      subst (AreOwnReplies key before) (sym (append_assoc calls ((Upsert key value, Some given) ∷ []) ((Get key, Some told) ∷ []))) are in
      let says : reply_of (Get key) (value_through key before (calls ++ (Upsert key value, Some given) ∷ [])) ≡ Some told = last_replies before
      (calls ++ (Upsert key value, Some given) ∷ []) (Get key) told split own_key fit_told (not_full told fit_told) in
      let has : reply_of (Get key) (Some value) ≡ Some told = rw (written before calls value given fit full) at says in
      told_so told value has
    where
      told_so : (told : Reply) (value : List ℕ) → reply_of (Get key) (Some value) ≡ Some told → told ≡ reply.Value value
      told_so told value has = let is : reply.Value value ≡ told = cc in sym is

-- two calls of a seat, one after the other
pub seat_reads_back : (old mid new : Seat) (key value : List ℕ) (before : Value) (budget more : ℕ) (given told : Reply) → IsOneHistory new.limits new.seen → AreOwnReplies key before (calls_in new)
    → IsDone old (Upsert key value) budget given mid → IsDone mid (Get key) more told new → given ≢ reply.Full → told ≡ reply.Value value
seat_reads_back old mid new key value before budget more given told history are set got full =
    read_back key before (calls_in old) value given told (subst (AreOwnReplies key before) calls are)
    (fits_at (length (calls_in old)) (Upsert key value) given first) (fits_at (length (calls_in mid)) (Get key) told second) full
  where
    calls : calls_in new ≡ calls_in old ++ (Upsert key value, Some given) ∷ (Get key, Some told) ∷ []
    calls = got.calls ∙ ap (λ (cs : Calls). cs ++ (Get key, Some told) ∷ []) set.calls ∙ append_assoc (calls_in old) ((Upsert key value, Some given) ∷ []) ((Get key, Some told) ∷ [])

    fits_at : (place : ℕ) (asked : Command) (said : Reply) → slice_get (calls_in new) place ≡ Some (asked, Some said) → IsTrue (fits asked said)
    fits_at place asked said at = call_fits new.limits (map turn_of new.seen) new.seen history.linearized new.actor place asked said at

    second : slice_get (calls_in new) (length (calls_in mid)) ≡ Some (Get key, Some told)
    second = ap (λ (cs : Calls). slice_get cs (length (calls_in mid))) got.calls ∙ slice_get-push (calls_in mid) (Get key, Some told)

    first : slice_get (calls_in new) (length (calls_in old)) ≡ Some (Upsert key value, Some given)
    first =
        let there : slice_get (calls_in mid) (length (calls_in old)) ≡ Some (Upsert key value, Some given) = ap
        (λ (cs : Calls). slice_get cs (length (calls_in old))) set.calls ∙ slice_get-push (calls_in old) (Upsert key value, Some given) in
        ap (λ (cs : Calls). slice_get cs (length (calls_in old))) got.calls ∙ slice_get_kept (calls_in mid) ((Get key, Some told) ∷ []) (length (calls_in old)) (Upsert key value, Some given) there
