-- A call that is done is one whole operation of the run that it has left.
use Rattle.map_laws.proofs.Words.{Begin, Bool, ComesBefore, Command, Done, Entry, Finishes, IsDone, IsOperation, IsRun, IsSame, Leave, Limits, List, None}
use Rattle.map_laws.proofs.Words.{Operation, Reply, Seat, Some, Step, answered_last, ap, append_assoc, arith, calls_along, calls_in, dite, eq-eqb, false}
use Rattle.map_laws.proofs.Words.{if◌then◌else◌, is_entry_of, length, own_append, own_entries, refl, slice_get, slice_get-append_left, slice_get-push}
use Rattle.map_laws.proofs.Words.{slice_get_below, slice_get_kept, suc, sym, true, zero, ℕ, ℕ_discrete, [], ◌++◌, ◌+◌, ◌<◌, ◌∙◌, ◌∷◌, ◌≡◌, ◌≤◌}
use Rattle.std.proofs.Common.{length-append}
use Rattle.traces.proofs.OwnEntries.{own_extends}
use Rattle.running_tree.specs.Calls.{BeginsIn}
use Rattle.map_laws.specs.RealTime.{AreApart, call_operation}
use Rattle.map_laws.proofs.Along.{get_middle}
use Rattle.map_laws.proofs.Asking.{Calls}
use Rattle.map_laws.proofs.Ending.{own_before}

-- how many of the entries begin an operation
abbrev begun : List Entry → ℕ
begun [] = 0
begun (Begin actor asked ∷ entries) = suc (begun entries)
begun (Step actor step told said ∷ entries) = begun entries

begun_append : (front back : List Entry) → begun (front ++ back) ≡ begun front + begun back
begun_append [] back = omega arith
begun_append (Begin actor asked ∷ front) back = let rest = begun_append front back in omega arith
begun_append (Step actor step told said ∷ front) back = begun_append front back

answered_long : (calls : Calls) (given : Reply) → length (answered_last calls given) ≡ length calls
answered_long [] given = refl
answered_long ((asked, before) ∷ []) given = refl
answered_long (first ∷ second ∷ rest) given = ap suc (answered_long (second ∷ rest) given)

-- there are as many calls as entries that begin one
along_long : (calls : Calls) (entries : List Entry) → length (calls_along calls entries) ≡ length calls + begun entries
along_long calls [] = omega arith
along_long calls (Begin actor asked ∷ entries) =
    let rest = along_long (calls ++ (asked, None) ∷ []) entries in let one = length-append calls ((asked, None) ∷ []) in omega arith
along_long calls (Step actor step told None ∷ entries) = along_long calls entries
along_long calls (Step actor step told (Some given) ∷ entries) = let rest = along_long (answered_last calls given) entries in let same = answered_long calls given in omega arith

is_begin : (actor : ℕ) (asked : Command) → is_entry_of actor (Begin actor asked) ≡ true
is_begin actor asked = eq-eqb actor actor refl

own_begin : (actor : ℕ) (asked : Command) (entries : List Entry) → own_entries actor (Begin actor asked ∷ entries) ≡ Begin actor asked ∷ own_entries actor entries
own_begin actor asked entries = ap (λ (b : Bool). if b then Begin actor asked ∷ own_entries actor entries else own_entries actor entries) (is_begin actor asked)

-- where the actor begins none, no entry is a begin of its own
none_begun : (actor : ℕ) (entries : List Entry) → begun (own_entries actor entries) ≡ 0 → (n : ℕ) (asked : Command) → slice_get entries n ≡ Some (Begin actor asked) → ⊥
none_begun actor [] none n asked at = cc
none_begun actor (entry ∷ entries) none zero asked at =
    let is : entry ≡ Begin actor asked = cc in
    let one : begun (own_entries actor (Begin actor asked ∷ entries)) ≡ 0 = rw is at none in
    let more = ap begun (own_begin actor asked entries) in absurd (omega arith)
none_begun actor (entry ∷ entries) none (suc n) asked at = none_begun actor entries (fewer entry (is_entry_of actor entry) none) n asked at
  where
    fewer : (e : Entry) (own : Bool) → begun (if own then e ∷ own_entries actor entries else own_entries actor entries) ≡ 0 → begun (own_entries actor entries) ≡ 0
    fewer (Begin other command) true is = absurd (omega arith)
    fewer (Step other step told said) true is = is
    fewer e false is = is

-- what stands behind a place stands in the back
behind : (front : List Entry) (one : Entry) (back : List Entry) (n : ℕ) (entry : Entry) → length front < n → slice_get (front ++ one ∷ back) n ≡ Some entry → (k : ℕ) × (slice_get back k ≡ Some entry)
behind [] one back zero entry after at = absurd (omega arith)
behind [] one back (suc n) entry after at = (n, at)
behind (first ∷ front) one back zero entry after at = absurd (omega arith)
behind (first ∷ front) one back (suc n) entry after at = behind front one back n entry (omega arith) at

module _ (old new : Seat) (command : Command) (budget : ℕ) (given : Reply) (same : IsSame old new) (is : IsDone old command budget given new)
    (begins : BeginsIn old command new.seen) where
  abbrev before : List Entry
  before = begins.before

  abbrev after : List Entry
  after = begins.after

  abbrev first : Entry
  first = Begin old.actor command

  abbrev pub operation : Operation
  operation = call_operation old command new.seen begins

  pub opens : IsOperation new.seen operation
  opens = ap (λ (run : List Entry). slice_get run (length before)) begins.is ∙ get_middle before first after

  no_other : begun (own_entries old.actor after) ≡ 0
  no_other =
      let all : length (calls_in new) ≡ 0 + begun (own_entries new.actor new.seen) = along_long [] (own_entries new.actor new.seen) in
      let own : begun (own_entries new.actor new.seen) ≡ begun (own_entries old.actor new.seen) = ap (λ a. begun (own_entries a new.seen)) same.actor in
      let had : length (calls_in old) ≡ 0 + begun (own_entries old.actor old.seen) = along_long [] (own_entries old.actor old.seen) in
      let one_more : length (calls_in new) ≡ length (calls_in old) + 1 = ap length is.calls ∙ length-append (calls_in old) ((command, Some given) ∷ []) in
      let parts : begun (own_entries old.actor new.seen) ≡ begun (own_entries old.actor before) + begun (own_entries old.actor (first ∷ after)) =
      ap (λ run. begun (own_entries old.actor run)) begins.is ∙ ap begun (own_append old.actor before (first ∷ after))
      ∙ begun_append (own_entries old.actor before) (own_entries old.actor (first ∷ after)) in
      let front : begun (own_entries old.actor before) ≡ begun (own_entries old.actor old.seen) = ap begun (own_extends old.actor old.seen before begins.extends) in
      let back : begun (own_entries old.actor (first ∷ after)) ≡ suc (begun (own_entries old.actor after)) = ap begun (own_begin old.actor command after) in
      omega arith

  abbrev pub last : ℕ
  last = length is.ends.0

  leaves : slice_get new.seen last ≡ Some (Step old.actor Leave Done (Some given))
  leaves = ap (λ (run : List Entry). slice_get run last) is.ends.1 ∙ slice_get-push is.ends.0 (Step new.actor Leave Done (Some given))
      ∙ ap (λ a. Some (Step a Leave Done (Some given))) same.actor

  later_on : length before < last
  later_on = dite (ℕ_discrete (length before) last)
      (λ e. let both : Some (Begin old.actor command) ≡ Some (Step old.actor Leave Done (Some given)) = sym opens ∙ ap (slice_get new.seen) e ∙ leaves in cc)
      (λ ne.
      let long : length new.seen ≡ length before + suc (length after) = ap length begins.is ∙ length-append before (first ∷ after) in
      let long' : length new.seen ≡ last + 1 = ap length is.ends.1 ∙ length-append is.ends.0 (Step new.actor Leave Done (Some given) ∷ []) in
      omega (arith, ne))

  pub whole : Finishes new.seen operation last given
  whole = (
    Leave,
    Done,
    record {
      begun = later_on;
      entry = leaves;
      not_ended = λ later asked far near at.
          let there = behind before first after later (Begin old.actor asked) far (ap (λ (run : List Entry). slice_get run later) (sym begins.is) ∙ at) in
          none_begun old.actor after no_other there.0 asked there.1;
    },
  )

  pub last_below : last < length new.seen
  last_below = slice_get_below new.seen last (Step old.actor Leave Done (Some given)) leaves

-- an operation is whole in each longer run
finishes_on : (run more : List Entry) (operation : Operation) (n : ℕ) (given : Reply) → Finishes run operation n given → Finishes (run ++ more) operation n given
finishes_on run more operation n given (step, told, own) =
    let below : n < length run = slice_get_below run n (Step operation.actor step told (Some given)) own.entry in (
      step,
      told,
      record {
        begun = own.begun;
        entry = slice_get_kept run more n (Step operation.actor step told (Some given)) own.entry;
        not_ended = λ later asked far near at. own.not_ended later asked far near (sym (slice_get-append_left run more later (omega arith)) ∙ at);
      },
    )

module _ (old first : Seat) (command : Command) (budget : ℕ) (given : Reply) (same : IsSame old first) (is : IsDone old command budget given first)
    (later new : Seat) (asked : Command) (comes : ComesBefore first given later asked new) where
  -- the second history goes on from the first one
  grown : new.seen ≡ first.seen ++ (comes.before.0 ++ Begin later.actor asked ∷ comes.begins.after)
  grown = comes.begins.is ∙ ap (λ (run : List Entry). run ++ Begin later.actor asked ∷ comes.begins.after) comes.before.1
      ∙ append_assoc first.seen comes.before.0 (Begin later.actor asked ∷ comes.begins.after)

  pub are_apart : (limits : Limits) → IsRun limits new.seen → AreApart new.seen (call_operation old command first.seen is.begins) (call_operation later asked new.seen comes.begins) given
  are_apart limits is_run =
      let more : List Entry = comes.before.0 ++ Begin later.actor asked ∷ comes.begins.after in
      let one : Operation = call_operation old command first.seen is.begins in
      let done : ℕ = last old first command budget given same is is.begins in
      let ends : Finishes new.seen one done given = rw grown (finishes_on first.seen more one done given (whole old first command budget given same is is.begins)) in
      let below = last_below old first command budget given same is is.begins in
      let long : length comes.begins.before ≡ length first.seen + length comes.before.0 = ap length comes.before.1 ∙ length-append first.seen comes.before.0 in
      let order : done < length comes.begins.before = omega arith in
      record {
        done = done;
        opens = rw grown (slice_get_kept first.seen more one.start (Begin old.actor command) (opens old first command budget given same is is.begins));
        ends = ends;
        begins = ap (λ (run : List Entry). slice_get run (length comes.begins.before)) comes.begins.is ∙ get_middle comes.begins.before (Begin later.actor asked) comes.begins.after;
        apart = order;
        steps = λ m n own other. let low : m ≤ done = own_before limits new.seen is_run one done given ends m own in let high = other.2.1.begun in omega arith;
      }
