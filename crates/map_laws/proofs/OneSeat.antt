-- A tree with one actor: each key is its own.
use Rattle.map_laws.proofs.Words.{AreInOrder, AreOwnReplies, Begin, Entry, IsLinearized, IsOperation, IsRun, Limits, List, None, Operation, Some, Turn, arith}
use Rattle.map_laws.proofs.Words.{calls_of, dite, operation_at, refl, ℕ, ℕ_discrete, [], ◌<◌, ◌∷◌, ◌≡◌}
use Rattle.map_laws.proofs.Asking.{Calls}
use Rattle.map_laws.proofs.InOrder.{are_in_order}
use Rattle.map_laws.proofs.OwnKeys.{own_replies}

-- an operation's actor is one of the tree's
there : (limits : Limits) (run : List Entry) (operation : Operation) → IsRun limits run → IsOperation run operation → operation.actor < limits.actors
there limits run operation is_run is = (is_run.each operation.start (Begin operation.actor operation.command) is).0

-- who has no operation has no calls
nothing_told : (run : List Entry) (actor : ℕ) (key : List ℕ) (calls : Calls)
    → ((operation : Operation) → IsOperation run operation → operation.actor ≡ actor → ⊥) → AreInOrder run actor 0 calls → AreOwnReplies key None calls
nothing_told run actor key [] never are = tt
nothing_told run actor key ((asked, None) ∷ calls) never (begun, none) = absurd (never (operation_at actor begun.start asked) begun.is refl)
nothing_told run actor key ((asked, Some given) ∷ calls) never (done, ended, rest) = absurd (never (operation_at actor ended.begun.start asked) ended.begun.is refl)

pub one_actor : (limits : Limits) (turns : List Turn) (run : List Entry) (actor : ℕ) (key : List ℕ) → limits.actors ≡ 1 → IsLinearized limits turns run → AreOwnReplies key None (calls_of actor run)
one_actor limits turns run actor key one linear = dite (ℕ_discrete actor 0)
    (λ first. own_replies limits turns run actor key linear (record { each = λ operation is may. let low = there limits run operation linear.run.run is in omega arith }))
    (λ other. nothing_told run actor key (calls_of actor run)
    (λ operation is same. let low = there limits run operation linear.run.run is in absurd (omega (arith, other, same)))
    (are_in_order limits [] run actor linear.run.run refl))
