-- A run that ends early.
use Rattle.std.proofs.Common.{◌≡◌, ◌+◌, ℕ, zero, suc, List, [], ◌∷◌, ◌++◌, take, map, append_assoc, Some, refl, subst, sym, ap, ◌∙◌, inr, arith}
use Rattle.std.specs.Prelude.{slice_get}
use Rattle.std.proofs.lemmas.List.{append-nil, map-append}
use Rattle.tree_limits.specs.declared.limits.Limits.{Limits}
use Rattle.traces.specs.declared.trace.Turn.{Turn}
use Rattle.traces.specs.discipline.Disciplined.{IsDisciplined}
use Rattle.traces.specs.trace.Trace.{turn_of}
use Rattle.linearization.specs.Linearized.{IsLinearized, IsOrderly}
use Rattle.step_core.specs.declared.event.RunError.{RunError}
use Rattle.step_core.specs.declared.event.Event.{Event}
use Rattle.step_core.specs.Turns.{AddsTurn, AddsTurns, Core, Stops, StopsAt}

pub adds_push : (old mid new : Core) (turns : List Turn) (turn : Turn) (event : Event) → AddsTurns old turns mid → AddsTurn mid turn event new → AddsTurns old (turns ++ turn ∷ []) new
adds_push old mid new [] turn event same adds = (new, event, subst (λ m. AddsTurn m turn event new) same adds, refl)
adds_push old mid new (first ∷ turns) turn event (next, did, adds, rest) last = (next, did, adds, adds_push next mid new turns turn event rest last)

-- the front with one turn more
take_next : (turns : List Turn) (i : ℕ) (turn : Turn) → slice_get turns i ≡ Some turn → take (suc i) turns ≡ take i turns ++ turn ∷ []
take_next [] i turn e = cc
take_next (first ∷ turns) zero turn e = let same : first ≡ turn = cc in rw same refl
take_next (first ∷ turns) (suc i) turn e = ap (λ ts. first ∷ ts) (take_next turns i turn e)

pub take_more : (turns : List Turn) (i : ℕ) (turn : Turn) → slice_get turns i ≡ Some turn → take (i + 1) turns ≡ take i turns ++ turn ∷ []
take_more turns i turn e = let one : i + 1 ≡ suc i = omega arith in ap (λ n. take n turns) one ∙ take_next turns i turn e

-- the entries that they add, and the limits, which stay
pub adds_entries : (old new : Core) (turns : List Turn) → AddsTurns old turns new → (map turn_of new.entries ≡ map turn_of old.entries ++ turns) × (new.limits ≡ old.limits)
adds_entries old new [] same = (ap (λ (c : Core). map turn_of c.entries) same ∙ sym (append-nil (map turn_of old.entries)), ap (λ (c : Core). c.limits) same)
adds_entries old new (turn ∷ turns) (next, event, adds, rest) =
    let later = adds_entries next new turns rest in
    let one : map turn_of next.entries ≡ map turn_of old.entries ++ turn ∷ [] = ap (map turn_of) adds.entries ∙ map-append turn_of old.entries (adds.added ∷ [])
    ∙ ap (λ t. map turn_of old.entries ++ t ∷ []) adds.of_turn in
    (later.0 ∙ ap (λ ts. ts ++ turns) one ∙ append_assoc (map turn_of old.entries) (turn ∷ []) turns, later.1 ∙ adds.same_limits)

-- its entries stay in order under the limits that it was opened with
pub orderly : (limits : Limits) (new : Core) → new.limits ≡ limits → IsOrderly new.limits new.entries → IsOrderly limits new.entries
orderly limits new same is = subst (λ l. IsOrderly l new.entries) same is

-- a run that opens a core and takes the turns
pub stops : (limits : Limits) (turns : List Turn) (opened left : Core) (e : RunError) → opened.entries ≡ [] → opened.limits ≡ limits
    → StopsAt opened turns e left → IsDisciplined left.limits left.entries → IsLinearized left.limits (map turn_of left.entries) left.entries
    → IsOrderly left.limits left.entries → Stops limits turns e
stops limits turns opened left e empty same at disciplined linear in_order =
    let adds = adds_entries opened left (take at.count turns) at.added in
    let now : left.limits ≡ limits = adds.1 ∙ same in
    inr (record {
      opened = opened;
      empty = empty;
      opened_at = same;
      left = left;
      stops = at;
      disciplined = subst (λ l. IsDisciplined l left.entries) now disciplined;
      linearized = subst (λ l. IsLinearized l (map turn_of left.entries) left.entries) now linear;
      orderly = orderly limits left now in_order;
    })

-- a run that took all of them
pub whole : (limits : Limits) (turns : List Turn) (new : Core) → map turn_of new.entries ≡ turns → new.limits ≡ limits
    → IsLinearized new.limits (map turn_of new.entries) new.entries → IsLinearized limits turns new.entries
whole limits turns new all same linear = subst (λ ts. IsLinearized limits ts new.entries) all (subst (λ l. IsLinearized l (map turn_of new.entries) new.entries) same linear)
