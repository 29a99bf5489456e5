-- A seat that upserts pairs, one after the other.
use Rattle.std.specs.Prelude.{◌≢◌, slice_get, Option}
use Rattle.std.proofs.Common.{◌≡◌, ◌<◌, ◌+◌, ◌++◌, ℕ, List, [], ◌∷◌, length, take, get_or, refl, sym, ap, subst, ◌∙◌, Some, None, append_assoc, append-nil}
use Rattle.running_tree.proofs.Words.{Command, Reply, IsCalled, IsDone, calls_in, IsSame, Seat, unfinished_command, Called, LoadStop}
use Rattle.bw_model.specs.declared.command.Reply.TheVariants as reply
use Rattle.listing.proofs.PairLaws.{take-grown}
use Rattle.running_tree.specs.Loaded.{CallsOff, GoesOnAfter, HasLoaded, HasStopped, HaveUpserted, IsStoppedAt, upsert_of}
use Rattle.running_tree.specs.declared.called.Called.TheVariants as called
use Rattle.running_tree.specs.declared.called.LoadStop.TheVariants as stop
use Rattle.running_tree.proofs.Ascending.{Pair}
use Rattle.running_tree.proofs.Going.{starts_on}

-- one pair more
upserted_snoc : (pairs : List Pair) (calls : List (Command × Option Reply)) (pair : Pair) (given : Reply) → HaveUpserted pairs calls → given ≢ reply.Full
    → HaveUpserted (pairs ++ pair ∷ []) (calls ++ (upsert_of pair, Some given) ∷ [])
upserted_snoc [] calls pair given is some = (given, [], ap (λ (cs : List (Command × Option Reply)). cs ++ (upsert_of pair, Some given) ∷ []) is, some, refl)
upserted_snoc (one ∷ pairs) calls pair given (first, rest, is, free, upserted) some =
    (first, rest ++ (upsert_of pair, Some given) ∷ [], ap (λ (cs : List (Command × Option Reply)). cs ++ (upsert_of pair, Some given) ∷ []) is, free, upserted_snoc pairs rest pair given upserted some)

pub loaded_none : (seat : Seat) → unfinished_command seat ≡ None → HasLoaded seat [] seat
loaded_none seat idle = record { grows = ([], sym (append-nil seat.seen)); made = []; upserted = refl; calls = sym (append-nil (calls_in seat)); idle = idle }

module _ (pairs : List Pair) (i : ℕ) (pair : Pair) (start old new : Seat) (command : Command) (budget : ℕ) (result : Called) (asked : command ≡ upsert_of pair)
    (loaded : HasLoaded start (take i pairs) old) (call : IsCalled old command budget result new) where
  call_is : IsCalled old (upsert_of pair) budget result new
  call_is = subst (λ (c : Command). IsCalled old c budget result new) asked call

  module _ (below : i < length pairs) (at : pair ≡ get_or pairs i pair) where
    done_then : (given : Reply) → given ≢ reply.Full → IsDone old (upsert_of pair) budget given new → HasLoaded start (take (i + 1) pairs) new
    done_then given some done =
        subst (λ ps. HasLoaded start ps new) (sym (take-grown pairs i pair below at)) (record {
          grows = starts_on start.seen old.seen new.seen loaded.grows done.grows;
          made = loaded.made ++ (upsert_of pair, Some given) ∷ [];
          upserted = upserted_snoc (take i pairs) loaded.made pair given loaded.upserted some;
          calls =
              done.calls ∙ ap (λ (cs : List (Command × Option Reply)). cs ++ (upsert_of pair, Some given) ∷ []) loaded.calls
              ∙ append_assoc (calls_in start) loaded.made ((upsert_of pair, Some given) ∷ []);
          idle = done.idle;
        })

    pub loaded_then : GoesOnAfter result → HasLoaded start (take (i + 1) pairs) new
    loaded_then (given, is, some) = done_then given some (subst (λ (r : Called). IsCalled old (upsert_of pair) budget r new) is call_is)

  module _ (stands : slice_get pairs i ≡ Some pair) (same : IsSame old new) where
    stopped : (ended : Called) → result ≡ ended → IsStoppedAt start pairs budget i ended new
    stopped ended is = record {
      pair = pair;
      at = stands;
      before = old;
      same = same;
      loaded = loaded;
      call = subst (λ (r : Called). IsCalled old (upsert_of pair) budget r new) is call_is;
    }

    pub stops : (why : LoadStop) → CallsOff result i why → HasStopped start pairs budget why new
    stops (stop.Full place) (is, off) = subst (λ n. IsStoppedAt start pairs budget n (called.Done reply.Full) new) (sym is) (stopped (called.Done reply.Full) off)
    stops (stop.Spent place) (is, off) = subst (λ n. IsStoppedAt start pairs budget n called.Spent new) (sym is) (stopped called.Spent off)
