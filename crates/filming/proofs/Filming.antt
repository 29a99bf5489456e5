-- One turn more of a film.
use Rattle.std.proofs.Common.{◌≡◌, ◌<◌, ◌≤◌, ℕ, zero, suc, ◌+◌, add-one, length, List, map, [], ◌∷◌, ◌++◌, ap, append_assoc, arith, refl, subst, sym, take, ◌∙◌}
use Rattle.std.specs.Prelude.{slice_get, slice_index_or, Some}
use Rattle.std.proofs.lemmas.List.{append-nil, map-append}
use Rattle.std.proofs.Math.Seq.{take-suc}
use Rattle.bw_model.specs.Log.{Update}
use Rattle.step_core.specs.Turns.{AddsTurn, Core}
use Rattle.step_core.specs.declared.event.Event.{Event}
use Rattle.traces.specs.declared.trace.Turn.{Turn}
use Rattle.traces.specs.declared.trace.Turn.TheVariants.{Begin, Step}
use Rattle.filming.specs.Films.{AreFilmed, IsFilmed, frames_behind, next_frame}

-- one element more
pub take_next : {X : Type 0} (xs : List X) (i : ℕ) (x : X) → i < length xs → x ≡ slice_index_or xs i x → take (i + 1) xs ≡ take i xs ++ x ∷ []
take_next {X} xs i x there is = ap (λ n. take n xs) (add-one i) ∙ take-suc xs i x there ∙ ap (λ (y : X). take i xs ++ y ∷ []) (sym is)

take_get : {X : Type 0} (xs : List X) (i : ℕ) (x : X) → slice_get xs i ≡ Some x → take (suc i) xs ≡ take i xs ++ x ∷ []
take_get [] i x e = cc
take_get (y ∷ xs) zero x e = let same : y ≡ x = cc in rw same refl
take_get {X} (y ∷ xs) (suc i) x e = ap (λ (ys : List X). y ∷ ys) (take_get xs i x e)

pub map_next : {X Y : Type 0} (f : X → Y) (xs : List X) (i : ℕ) (x : X) → slice_get xs i ≡ Some x → map f (take (i + 1) xs) ≡ map f (take i xs) ++ f x ∷ []
map_next {X} {Y} f xs i x is = ap (map f) (ap (λ n. take n xs) (add-one i) ∙ take_get xs i x is) ∙ map-append f (take i xs) (x ∷ [])

frames_more : (number : ℕ) (turns : List Turn) (turn : Turn) → frames_behind number (turns ++ turn ∷ []) ≡ next_frame (frames_behind number turns) turn
frames_more number [] turn = refl
frames_more number (first ∷ turns) turn = frames_more (next_frame number first) turns turn

pub few_next : (number : ℕ) (turn : Turn) → next_frame number turn ≤ number + 1
few_next number (Begin actor command) = omega arith
few_next number (Step actor) = omega arith

-- the frames of the first turns, and of one more
pub frames_next : (number : ℕ) (turns : List Turn) (i : ℕ) (turn : Turn) → take (i + 1) turns ≡ take i turns ++ turn ∷ []
    → frames_behind number (take (i + 1) turns) ≡ next_frame (frames_behind number (take i turns)) turn
frames_next number turns i turn more = ap (frames_behind number) more ∙ frames_more number (take i turns) turn

pub filmed_more : (number : ℕ) (before mid after : Core) (log mid_log more : List Update) (turns : List Turn) (turn : Turn) (event : Event) (text own : List ℕ)
    → AreFilmed number before log turns mid mid_log text → AddsTurn mid turn event after → IsFilmed (frames_behind number turns) mid turn event mid_log after more own
    → AreFilmed number before log (turns ++ turn ∷ []) after more (text ++ own)
unfolding AreFilmed
filmed_more number before mid after log mid_log more [] turn event text own all adds is = (
  event,
  after,
  more,
  own,
  [],
  subst (λ (c : Core). AddsTurn c turn event after) all.0 adds,
  subst (λ (l : List Update). IsFilmed number before turn event l after more own) all.1 (subst (λ (c : Core). IsFilmed number c turn event mid_log after more own) all.0 is),
  (refl, refl, refl),
  ap (λ (t : List ℕ). t ++ own) all.2 ∙ sym (append-nil own),
)
filmed_more number before mid after log mid_log more (first ∷ turns) turn event text own all adds is = (
  all.0,
  all.1,
  all.2,
  all.3,
  all.4 ++ own,
  all.5,
  all.6,
  filmed_more (next_frame number first) all.1 mid after all.2 mid_log more turns turn event all.4 own all.7 adds is,
  ap (λ (t : List ℕ). t ++ own) all.8 ∙ append_assoc all.3 all.4 own,
)
