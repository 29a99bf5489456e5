-- A seat that goes on for several steps.
use Rattle.std.proofs.Common.{◌≡◌, ◌<◌, ◌≤◌, ◌+◌, ◌-◌, ℕ, List, [], ◌∷◌, ◌++◌, length, refl, sym, ap, ◌∙◌, subst, arith, append_assoc, append-nil, eq-eqb, length-append}
use Rattle.std.specs.Prelude.{Option, Some, None, IsSome}
use Rattle.running_tree.proofs.Words.{Command, Reply, Answer, Done, StepOf, Leave, Record, own_entries, StartsWith, Called, IsSame, Seat, unfinished_command, own_push, own_extends}
use Rattle.traces.specs.declared.trace.Entry.{Entry}
use Rattle.traces.specs.declared.trace.Entry.TheVariants.{Begin, Step}
use Rattle.running_tree.specs.Calls.{Advances, BeginsIn, HasBegun, EndsWith, IsDone, IsCalled, IsFinished, IsResumed, IsSpent, IsStill, answered_last, call_after, calls_along, calls_in, own_count}
use Rattle.running_tree.specs.declared.called.Called.TheVariants as called

one_longer : (xs ys : List Entry) (e : Entry) → xs ≡ ys ++ e ∷ [] → length xs ≡ length ys + 1
one_longer xs ys e is = ap length is ∙ length-append ys (e ∷ [])

along_snoc : (calls : List (Command × Option Reply)) (entries : List Entry) (e : Entry) → calls_along calls (entries ++ e ∷ []) ≡ call_after (calls_along calls entries) e
along_snoc calls [] e = refl
along_snoc calls (first ∷ entries) e = along_snoc (call_after calls first) entries e

-- the reply of the call that was made last
pub answered_snoc : (before : List (Command × Option Reply)) (command : Command) (last : Option Reply) (reply : Reply)
    → answered_last (before ++ (command, last) ∷ []) reply ≡ before ++ (command, Some reply) ∷ []
answered_snoc [] command last reply = refl
answered_snoc (first ∷ []) command last reply = refl
answered_snoc (first ∷ second ∷ rest) command last reply = ap (λ calls. first ∷ calls) (answered_snoc (second ∷ rest) command last reply)

pub starts_on : (a b c : List Entry) → StartsWith b a → StartsWith c b → StartsWith c a
starts_on a b c p q = (p.0 ++ q.0, q.1 ∙ ap (λ (run : List Entry). run ++ q.0) p.1 ∙ append_assoc a p.0 q.0)

pub same_self : (s : Seat) → IsSame s s
same_self s = record { table = refl; limits = refl; actor = refl }

pub same_on : (s t u : Seat) → IsSame s t → IsSame t u → IsSame s u
same_on s t u p q = record { table = q.table ∙ p.table; limits = q.limits ∙ p.limits; actor = q.actor ∙ p.actor }

pub busy_still : (s t : Seat) (n : ℕ) → IsStill s n t → IsSome (unfinished_command s) → IsSome (unfinished_command t)
busy_still s t n still busy = subst IsSome (sym still.busy) busy

pub still_at : (s t : Seat) (n budget : ℕ) → n ≡ budget → IsStill s n t → IsStill s budget t
still_at s t n budget is still = subst (λ m. IsStill s m t) is still

pub still_self : (s : Seat) → IsStill s 0 s
still_self s = record { grows = ([], sym (append-nil s.seen)); steps = omega arith; calls = refl; busy = refl }

module _ (old : Seat) (reply : Option Reply) (new : Seat) (same : IsSame old new) (h : Advances old reply new) where
  abbrev last : Entry
  last = Step old.actor h.step h.told reply

  own_then : own_entries new.actor new.seen ≡ own_entries old.actor old.seen ++ last ∷ []
  own_then = ap (λ n. own_entries n new.seen) same.actor ∙ ap (own_entries old.actor) h.grown ∙ own_push old.actor h.run last (eq-eqb old.actor old.actor refl)
      ∙ ap (λ (es : List Entry). es ++ last ∷ []) (own_extends old.actor old.seen h.run h.extends)

  one_more : own_count new ≡ own_count old + 1
  one_more = one_longer (own_entries new.actor new.seen) (own_entries old.actor old.seen) last own_then

  calls_then : calls_in new ≡ call_after (calls_in old) last
  calls_then = ap (calls_along []) own_then ∙ along_snoc [] (own_entries old.actor old.seen) last

  grows_by_one : StartsWith new.seen old.seen
  grows_by_one = (h.extends.0 ++ last ∷ [], h.grown ∙ ap (λ (run : List Entry). run ++ last ∷ []) h.extends.1 ∙ append_assoc old.seen h.extends.0 (last ∷ []))

ends_so : (old : Seat) (reply : Reply) (new : Seat) → IsSame old new → Advances old (Some reply) new → EndsWith new reply
ends_so old reply new same h = (
  h.run,
  h.grown ∙ ap (λ (z : StepOf Record × Answer Record). h.run ++ Step old.actor z.0 z.1 (Some reply) ∷ []) (λ t. (h.last.0 t, h.last.1 t))
      ∙ ap (λ n. h.run ++ Step n Leave Done (Some reply) ∷ []) (sym same.actor),
)

-- one step more, after steps without a reply
module _ (old mid : Seat) (n : ℕ) (same : IsSame old mid) (still : IsStill old n mid) (new : Seat) (next : IsSame mid new) where
  pub still_on : (reply : Option Reply) → reply ≡ None → Advances mid reply new → IsStill old (n + 1) new
  still_on reply none h' = let h : Advances mid None new = subst (λ o. Advances mid o new) none h' in
      let one = one_more mid None new next h in let before = still.steps in record {
        grows = starts_on old.seen mid.seen new.seen still.grows (grows_by_one mid None new next h);
        steps = omega arith;
        calls = calls_then mid None new next h ∙ still.calls;
        busy = h.command ∙ still.busy;
      }

  pub finished : (budget : ℕ) (reply : Reply) → n < budget → Advances mid (Some reply) new → IsFinished old budget reply new
  finished budget reply few h =
      let one = one_more mid (Some reply) new next h in let before = still.steps in record {
        grows = starts_on old.seen mid.seen new.seen still.grows (grows_by_one mid (Some reply) new next h);
        ends = ends_so mid reply new next h;
        some = omega arith;
        steps = omega arith;
        calls = calls_then mid (Some reply) new next h ∙ ap (λ calls. answered_last calls reply) still.calls;
        idle = h.command;
      }

-- a call: its operation began, and went on
module _ (old mid : Seat) (command : Command) (same : IsSame old mid) (h : HasBegun old command mid) where
  abbrev first : Entry
  first = Step old.actor h.step h.told None

  abbrev begin : Entry
  begin = Begin old.actor command

  own_first : own_entries mid.actor mid.seen ≡ (own_entries old.actor old.seen ++ begin ∷ []) ++ first ∷ []
  own_first = ap (λ n. own_entries n mid.seen) same.actor ∙ ap (own_entries old.actor) h.grown ∙ own_push old.actor (h.run ++ begin ∷ []) first (eq-eqb old.actor old.actor refl)
      ∙ ap (λ (es : List Entry). es ++ first ∷ [])
      (own_push old.actor h.run begin (eq-eqb old.actor old.actor refl) ∙ ap (λ (es : List Entry). es ++ begin ∷ []) (own_extends old.actor old.seen h.run h.extends))

  two_more : own_count mid ≡ own_count old + 2
  two_more = let one = one_longer (own_entries mid.actor mid.seen) (own_entries old.actor old.seen ++ begin ∷ []) first own_first in
      let before = length-append (own_entries old.actor old.seen) (begin ∷ []) in omega arith

  calls_first : calls_in mid ≡ calls_in old ++ (command, None) ∷ []
  calls_first = ap (calls_along []) own_first ∙ along_snoc [] (own_entries old.actor old.seen ++ begin ∷ []) first ∙ along_snoc [] (own_entries old.actor old.seen) begin

  grows_first : StartsWith mid.seen old.seen
  grows_first = starts_on old.seen h.run mid.seen (h.extends.0, h.extends.1) (begin ∷ first ∷ [], h.grown ∙ append_assoc h.run (begin ∷ []) (first ∷ []))

  module _ (budget : ℕ) (some : 1 ≤ budget) (new : Seat) where
    begins_so : StartsWith new.seen mid.seen → BeginsIn old command new.seen
    begins_so grows = record {
      before = h.run;
      extends = h.extends;
      after = first ∷ grows.0;
      is = grows.1 ∙ ap (λ (run : List Entry). run ++ grows.0) h.grown ∙ append_assoc (h.run ++ begin ∷ []) (first ∷ []) grows.0 ∙ append_assoc h.run (begin ∷ []) (first ∷ grows.0);
    }

    pub call_done : (reply : Reply) → IsFinished mid (budget - 1) reply new → IsDone old command budget reply new
    call_done reply g = let two = two_more in let few = g.steps in record {
      grows = starts_on old.seen mid.seen new.seen grows_first g.grows;
      begins = begins_so g.grows;
      ends = g.ends;
      steps = omega arith;
      calls = g.calls ∙ ap (λ calls. answered_last calls reply) calls_first ∙ answered_snoc (calls_in old) command None reply;
      idle = g.idle;
    }

    pub call_spent : IsStill mid (budget - 1) new → IsSpent old command budget new
    call_spent g = let two = two_more in let more = g.steps in record {
      grows = starts_on old.seen mid.seen new.seen grows_first g.grows;
      begins = begins_so g.grows;
      steps = omega arith;
      calls = g.calls ∙ calls_first;
      busy = g.busy ∙ h.command;
    }

    pub call_so : (result : Called) → IsResumed mid (budget - 1) result new → IsCalled old command budget result new
    call_so (called.Done reply) g = call_done reply g
    call_so called.Spent g = call_spent g
