-- Seats of a tree that opens.
use Rattle.std.proofs.Common.{◌≡◌, ◌<◌, ◌+◌, ◌-◌, ℕ, zero, suc, List, [], ◌∷◌, ◌++◌, length, map, Some, refl, sym, ap, ◌∙◌, subst, arith}
use Rattle.running_tree.proofs.Words.{slice_get, TableId, opening, Limits, Extends, Recalled, blank, Part, Idle, Running, Mine, alone, dealt, dealt_from, first_part, other_parts, with_run}
use Rattle.running_tree.proofs.Words.{seen_of, SeatsLast, AreAt, seat_at, IsLawfulRun, IsSeenRun, IsSeat, Seat}
use mathlib.Core.Logic.{dite}
use native.Mathlib.Decide.{ℕ_discrete}
use Rattle.op_machine.specs.machine.Actors.{Actor, IsActor, idle_actor}
use Rattle.traces.specs.declared.trace.Entry.{Entry}
use Rattle.traces.specs.discipline.Knowledge.{nothing}
use Rattle.tree_words.specs.Opening.{opening_words}
use Rattle.running_tree.specs.Trees.{AreFresh, IsSeatOf, IsTreeTable, Tree}
use Rattle.running_tree.proofs.Gathering.{AllExtend}
use Rattle.running_tree.proofs.Meeting.{seat_extends}

abbrev IdleRest : Type 0
IdleRest = (limits : Limits) (number : ℕ) (r : Recalled) → IsActor limits number nothing r (idle_actor limits)

-- an idle actor that has seen the empty run
fresh_idle : (limits : Limits) (number : ℕ) (me : Mine) → IdleRest → IsLawfulRun limits [] → number < limits.actors → me ≡ (alone limits number [] Idle, [])
    → IsSeat limits number me (idle_actor limits)
fresh_idle limits number me rest legal there is =
    let saw : seen_of me ≡ [] = ap seen_of is in
    subst (λ (m : Mine). IsSeat limits number m (idle_actor limits)) (sym is)
    record {
      there = there;
      place = refl;
      begins = tt;
      seated = record { lawful = legal; shows = rest limits number blank; runs = refl; pays = λ operation last own. cc; reads = tt; writes = tt; lacks = record { told = refl; pending = λ busy. cc } };
    }

pub fresh : (limits : Limits) (number : ℕ) (me : Mine) (actor : Actor) → IdleRest → IsLawfulRun limits [] → number < limits.actors
    → me ≡ (alone limits number [] Idle, []) → actor ≡ idle_actor limits → IsSeat limits number me actor
fresh limits number me actor rest legal there is idle = subst (IsSeat limits number me) (sym idle) (fresh_idle limits number me rest legal there is)

-- the same once it has seen steps of others
pub fresh_then : SeatsLast → (limits : Limits) (number : ℕ) (run : List Entry) (me : Mine) (actor : Actor) → IdleRest → IsLawfulRun limits []
    → IsSeenRun limits run → Extends number [] run → number < limits.actors
    → me ≡ (alone limits number run Idle, []) → actor ≡ idle_actor limits → IsSeat limits number me actor
fresh_then own limits number run me actor rest empty run_is extends there is idle =
    let saw : seen_of me ≡ run = ap seen_of is in
    let place : me ≡ (alone limits number (seen_of me) Idle, []) = subst (λ seen. me ≡ (alone limits number seen Idle, [])) (sym saw) is in
    seat_extends own limits number (alone limits number [] Idle, []) me run actor (fresh limits number (alone limits number [] Idle, []) actor rest empty there refl idle) run_is extends place saw

pub is_tree : (limits key : Limits) (table : TableId) (words : List ℕ) → table.words ≡ length words → table.slots ≡ 0 → key ≡ limits → words ≡ opening_words limits
    → Running limits (IsLawfulRun limits) (opening (opening_words limits) [] (dealt limits)) → IsTreeTable limits key table
is_tree limits key table words many none own are rule = record { wide = many ∙ ap length are ∙ rule.wide; slots = none; own = own }

-- the first actor of all
first_dealt : (limits : Limits) (many : ℕ) → 0 < many → first_part (dealt_from limits 0 many) ≡ alone limits 0 [] Idle
first_dealt limits zero some = absurd (omega (arith, some))
first_dealt limits (suc many) some = refl

pub deals_first : (limits : Limits) (me now : Mine) → me ≡ (dealt limits, []) → now ≡ (first_part me.0, me.1) → now ≡ (alone limits 0 [] Idle, [])
deals_first limits me now is first =
    first ∙ ap (λ (m : Mine). (first_part m.0, m.1)) is ∙ ap (λ (parts : List Part). (parts, [])) (first_dealt limits limits.actors (let some = limits.allowed.some_actor in omega (arith, some)))

-- the others
pub others_dealt : (limits : Limits) (many : ℕ) → 0 < many → other_parts (dealt_from limits 0 many) ≡ dealt_from limits 1 (many - 1)
others_dealt limits zero some = absurd (omega (arith, some))
others_dealt limits (suc many) some = let less : many ≡ suc many - 1 = omega arith in ap (dealt_from limits 1) less

-- where nobody has taken a step, all have seen the empty run
pub refreshed_none : (limits : Limits) (number many : ℕ) → dealt_from limits number many ≡ map (with_run []) (dealt_from limits number many)
refreshed_none limits number zero = refl
refreshed_none limits number (suc many) = ap (λ parts. alone limits number [] Idle ++ parts) (refreshed_none limits (suc number) many)

pub extends_none : (limits : Limits) (number many : ℕ) → AllExtend [] (dealt_from limits number many)
extends_none limits number zero = tt
extends_none limits number (suc many) = (([], refl, refl), extends_none limits (suc number) many)

-- the parts of so many actors from this one on, which have seen the run
abbrev pub left_of : Limits → List Entry → ℕ → ℕ → List Part
left_of limits run number left = map (with_run run) (dealt_from limits number left)

-- the first of the actors that are left gets a seat, and the others are left
pub deals_one : (limits : Limits) (run : List Entry) (number left : ℕ) (me now : Mine) → number < limits.actors → number + left ≡ limits.actors
    → me ≡ (left_of limits run number left, []) → now ≡ (first_part me.0, me.1) → now ≡ (alone limits number run Idle, [])
deals_one limits run number zero me now there all is first = absurd (omega (arith, there, all))
deals_one limits run number (suc left) me now there all is first = first ∙ ap (λ (m : Mine). (first_part m.0, m.1)) is

pub extends_one : (limits : Limits) (run : List Entry) (number left : ℕ) → number < limits.actors → number + left ≡ limits.actors
    → AllExtend run (dealt_from limits number left) → Extends number [] run
extends_one limits run number zero there all each = absurd (omega (arith, there, all))
extends_one limits run number (suc left) there all each = each.0

pub leaves_others : (limits : Limits) (run : List Entry) (number left : ℕ) (me others : Mine) → number < limits.actors → number + left ≡ limits.actors
    → me ≡ (left_of limits run number left, []) → AllExtend run (dealt_from limits number left) → others ≡ (other_parts me.0, [])
    → (fewer : ℕ) × ((number + 1) + fewer ≡ limits.actors) × (others ≡ (left_of limits run (number + 1) fewer, [])) × AllExtend run (dealt_from limits (number + 1) fewer)
leaves_others limits run number zero me others there all is each rest = absurd (omega (arith, there, all))
leaves_others limits run number (suc left) me others there all is each rest =
    let more : suc number ≡ number + 1 = omega arith in
    (left, omega (arith, all), rest ∙ ap (λ (m : Mine). (other_parts m.0, [])) is ∙ ap (λ n. (left_of limits run n left, [])) more, subst (λ n. AllExtend run (dealt_from limits n left)) more each.1)

get_snoc : (seats : List Seat) (last : Seat) → slice_get (seats ++ last ∷ []) (length seats) ≡ Some last
get_snoc [] last = refl
get_snoc (one ∷ seats) last = get_snoc seats last

get_before : (seats : List Seat) (last : Seat) (n : ℕ) → n < length seats → slice_get (seats ++ last ∷ []) n ≡ slice_get seats n
get_before [] last n lt = absurd (omega (arith, lt))
get_before (one ∷ seats) last zero lt = refl
get_before (one ∷ seats) last (suc n) lt = get_before seats last n (omega (arith, lt))

-- a seat more
pub one_more : (which : ℕ → Seat) (seats : List Seat) (number : ℕ) (last : Seat) → length seats ≡ number → ((n : ℕ) → n < number → slice_get seats n ≡ Some (which n)) → last ≡ which number
    → (n : ℕ) → n < number + 1 → slice_get (seats ++ last ∷ []) n ≡ Some (which n)
one_more which seats number last count each is n below = dite (ℕ_discrete n number)
    (λ same. ap (slice_get (seats ++ last ∷ [])) (same ∙ sym count) ∙ get_snoc seats last ∙ ap Some (is ∙ ap which (sym same)))
    (λ other. get_before seats last n (omega (arith, below, other, count)) ∙ each n (omega (arith, below, other)))

-- it is the seat of its actor, which has seen the run
pub seat_is : (tree : Tree) (run : List Entry) (number : ℕ) (limits : Limits) (table : TableId) (me : Mine) → limits ≡ tree.limits → table ≡ tree.table
    → me ≡ (alone limits number run Idle, []) → record { table = table; limits = limits; actor = number; seen = seen_of me } ≡ seat_at tree run number
seat_is tree run number limits table me own same is =
    ap (λ (t : TableId). seat_of t limits (seen_of me)) same ∙ ap (λ (l : Limits). seat_of tree.table l (seen_of me)) own ∙ ap (λ (m : Mine). seat_of tree.table tree.limits (seen_of m)) is
  where
    seat_of : TableId → Limits → List Entry → Seat
    seat_of t l seen = record { table = t; limits = l; actor = number; seen = seen }

-- the first seat, before the others are dealt
pub first_seat_at : (tree : Tree) (first : Seat) → IsSeatOf tree first → first.actor ≡ 0 → (n : ℕ) → n < 1 → slice_get (first ∷ []) n ≡ Some (seat_at tree first.seen n)
first_seat_at tree first own is zero below = ap Some (λ i. record { table = own.table i; limits = own.limits i; actor = is i; seen = first.seen })
first_seat_at tree first own is (suc n) below = absurd (omega (arith, below))

pub first_left : (own limits : Limits) (run : List Entry) (me : Mine) → own ≡ limits → me ≡ (map (with_run run) (other_parts (dealt own)), []) → me ≡ (left_of limits run 1 (limits.actors - 1), [])
first_left own limits run me same is =
    is ∙ ap (λ (l : Limits). (map (with_run run) (other_parts (dealt l)), [])) same
    ∙ ap (λ parts. (map (with_run run) parts, [])) (others_dealt limits limits.actors (let some = limits.allowed.some_actor in omega (arith, some)))

pub first_extend : (own limits : Limits) (run : List Entry) → own ≡ limits → AllExtend run (other_parts (dealt own)) → AllExtend run (dealt_from limits 1 (limits.actors - 1))
first_extend own limits run same each =
    subst (AllExtend run) (others_dealt limits limits.actors (let some = limits.allowed.some_actor in omega (arith, some)))
    (subst (λ (l : Limits). AllExtend run (other_parts (dealt l))) same each)

-- where nobody has taken a step
pub fresh_left : (limits : Limits) (run : List Entry) (me : Mine) → run ≡ [] → me ≡ (other_parts (dealt limits), []) → me ≡ (map (with_run run) (other_parts (dealt limits)), [])
fresh_left limits run me none is =
    let some : 0 < limits.actors = (let there = limits.allowed.some_actor in omega (arith, there)) in
    let others : other_parts (dealt limits) ≡ dealt_from limits 1 (limits.actors - 1) = others_dealt limits limits.actors some in
    is ∙ ap (λ (parts : List Part). (parts, []))
    (others ∙ refreshed_none limits 1 (limits.actors - 1) ∙ ap (map (with_run [])) (sym others) ∙ ap (λ r. map (with_run r) (other_parts (dealt limits))) (sym none))

pub fresh_extend : (limits : Limits) (run : List Entry) → run ≡ [] → AllExtend run (other_parts (dealt limits))
fresh_extend limits run none =
    let some : 0 < limits.actors = (let there = limits.allowed.some_actor in omega (arith, there)) in
    subst (λ r. AllExtend r (other_parts (dealt limits))) (sym none) (subst (AllExtend []) (sym (others_dealt limits limits.actors some)) (extends_none limits 1 (limits.actors - 1)))

pub at_fresh : (tree : Tree) (run : List Entry) (seats : List Seat) → run ≡ [] → AreAt tree run seats → AreFresh tree seats
at_fresh tree run seats none at = record { count = at.count; each = λ actor below. at.each actor below ∙ ap (λ r. Some (seat_at tree r actor)) none }
