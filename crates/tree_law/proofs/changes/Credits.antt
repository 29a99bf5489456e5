-- What the operations that are under way may pay still.
use Rattle.tree_law.proofs.Words.{refl, Option, None, ◌≢◌, ◌≤◌, ℕ, ◌≡◌, ◌<◌, arith, Some, ◌+◌, IsSome, Command, Reply, Answer, StepOf, Record, Knowledge, learn, after_reply, after_begin, put}
use Rattle.tree_law.proofs.Words.{total}
use Rattle.traces.specs.discipline.Knowledge.{going_on}
use Rattle.tree_law.specs.Changes.{credit, credit_of}
use Rattle.tree_law.proofs.shape.Puts.{put_other, put_same}
use Rattle.tree_law.proofs.direct.Linking.{linked_kept}
use Rattle.tree_law.proofs.changes.Totals.{one}
use Rattle.tree_law.proofs.trace.Names.{learn_command}

pub credit_most : (command : Option Command) (linked : Option (Option ℕ)) → credit_of command linked ≤ 8
credit_most None linked = omega arith
credit_most (Some command) None = omega arith
credit_most command linked = omega arith

pub linked_pays_none : (command : Option Command) (linked : Option (Option ℕ)) → IsSome linked → credit_of command linked ≡ 0
linked_pays_none None linked some = refl
linked_pays_none (Some command) None some = absurd (cc)
linked_pays_none (Some command) (Some over) some = refl

-- an operation that goes on may pay no more than before
credit_less : (command : Option Command) (reply : Option Reply) (before after : Option (Option ℕ)) → (IsSome before → IsSome after)
    → credit_of (going_on reply command) after ≤ credit_of command before
credit_less None None before after kept = omega arith
credit_less command (Some reply) before after kept = let none : credit_of None after ≡ 0 = refl in omega arith
credit_less (Some command) None None after kept = credit_most (Some command) after
credit_less (Some command) None (Some over) after kept = let none : credit_of (Some command) after ≡ 0 = linked_pays_none (Some command) after (kept refl) in omega arith

pub credit_kept : (k : Knowledge) (s : StepOf Record) (x : Answer Record) (reply : Option Reply) → credit (after_reply (learn k s x) reply).asked ≤ credit k.asked
credit_kept k s x reply = rw (learn_command k s x) (credit_less k.asked.command reply k.asked.linked (learn k s x).asked.linked (linked_kept k s x))

module _ (knows : ℕ → Knowledge) (a n : ℕ) (within : a < n) where
  abbrev credits : (ℕ → Knowledge) → ℕ → ℕ
  credits ks actor = credit (ks actor).asked

  others : (k : Knowledge) (actor : ℕ) → actor < n → actor ≢ a → credits (put knows a k) actor ≤ credits knows actor
  others k actor lt ne = let same : credits (put knows a k) actor ≡ credits knows actor = rw (put_other knows a k actor ne) in omega arith

  -- one actor's operation goes on
  pub credits_move : (k : Knowledge) → total (credits (put knows a k)) n + credit (knows a).asked ≤ total (credits knows) n + credit k.asked
  credits_move k =
      let moved : total (credits (put knows a k)) n + credits knows a ≤ total (credits knows) n + credits (put knows a k) a = one (credits knows) (credits (put knows a k)) a n within (others k) in
      let here : credits (put knows a k) a ≡ credit k.asked = rw (put_same knows a k) in
      omega arith

  pub step_credits : (s : StepOf Record) (x : Answer Record) (reply : Option Reply) → total (credits (put knows a (after_reply (learn (knows a) s x) reply))) n ≤ total (credits knows) n
  step_credits s x reply =
      let moved : total (credits (put knows a (after_reply (learn (knows a) s x) reply))) n + credit (knows a).asked ≤ total (credits knows) n + credit
      (after_reply (learn (knows a) s x) reply).asked = credits_move (after_reply (learn (knows a) s x) reply) in
      let less : credit (after_reply (learn (knows a) s x) reply).asked ≤ credit (knows a).asked = credit_kept (knows a) s x reply in
      omega arith

  -- an operation that links its update pays for it
  pub update_credits : (s : StepOf Record) (x : Answer Record) (reply : Option Reply) (command : Command) → (knows a).asked.command ≡ Some command → (knows a).asked.linked ≡ None
      → IsSome (learn (knows a) s x).asked.linked
      → total (credits (put knows a (after_reply (learn (knows a) s x) reply))) n + 8 ≤ total (credits knows) n
  update_credits s x reply command going unlinked now =
      let moved : total (credits (put knows a (after_reply (learn (knows a) s x) reply))) n + credit (knows a).asked ≤ total (credits knows) n + credit
      (after_reply (learn (knows a) s x) reply).asked = credits_move (after_reply (learn (knows a) s x) reply) in
      let before : credit (knows a).asked ≡ 8 = rw (going, unlinked) refl in
      let after : credit (after_reply (learn (knows a) s x) reply).asked ≡ 0 = linked_pays_none (going_on reply (learn (knows a) s x).asked.command) (learn (knows a) s x).asked.linked now in
      omega arith

  -- one that begins brings 8
  pub begin_credits : (command : Command) → total (credits (put knows a (after_begin (knows a) command))) n ≤ total (credits knows) n + 8
  begin_credits command =
      let moved : total (credits (put knows a (after_begin (knows a) command))) n + credit (knows a).asked ≤ total (credits knows) n + 8 = credits_move (after_begin (knows a) command) in
      omega arith
