-- The other actors of a tree that is filled: they stand in one place, and see with a seat the longest run.
use Rattle.running_tree.proofs.Words.{◌≡◌, ℕ, List, [], ◌∷◌, ◌++◌, map, refl, sym, ap, ◌∙◌, subst, Actor, Limits, Extends, Part, Idle, Each, ExtendsFor, HasPart, IsRefreshed, SitsAt, Mine}
use Rattle.running_tree.proofs.Words.{alone, first_part, other_parts, part, with_run, seen_of, SeatsLast, IsLawfulRun, IsSeenRun, IsSeat}
use Rattle.traces.specs.declared.trace.Entry.{Entry}
use Rattle.running_tree.proofs.Meeting.{seat_extends}

-- the run goes on from what each has seen
abbrev pub AllExtend : List Entry → List Part → Type 0
AllExtend run parts = Each (λ p. ExtendsFor p.reach p.actor p.seen run) parts

module _ (limits : Limits) (a : ℕ) (one other joined : Mine) (at : SitsAt limits a Idle one) (both : joined ≡ (one.0 ++ other.0, one.1)) where
  both_is : joined ≡ (part limits a (seen_of one) Idle ∷ other.0, [])
  both_is = both ∙ ap (λ (m : Mine). (m.0 ++ other.0, m.1)) at

  pub some_part : HasPart limits joined.0
  some_part = (part limits a (seen_of one) Idle, other.0, ap (λ (m : Mine). m.0) both_is, refl)

  module _ (later left right : Mine) (saw : IsRefreshed (IsLawfulRun limits) joined later) (first : left ≡ (first_part later.0, later.1)) (others : right ≡ (other_parts later.0, [])) where
    refreshed_is : later ≡ (part limits a saw.run Idle ∷ map (with_run saw.run) other.0, [])
    refreshed_is = saw.saw ∙ ap (λ (m : Mine). (map (with_run saw.run) m.0, m.1)) both_is

    left_is : left ≡ (alone limits a saw.run Idle, [])
    left_is = first ∙ ap (λ (m : Mine). (first_part m.0, m.1)) refreshed_is

    left_saw : seen_of left ≡ saw.run
    left_saw = ap seen_of left_is

    left_at : SitsAt limits a Idle left
    left_at = subst (λ run. left ≡ (alone limits a run Idle, [])) (sym left_saw) left_is

    all_extend : AllExtend saw.run (part limits a (seen_of one) Idle ∷ other.0)
    all_extend = subst (λ (m : Mine). AllExtend saw.run m.0) both_is saw.extends

    pub first_extends : Extends a (seen_of one) (seen_of left)
    first_extends = subst (Extends a (seen_of one)) (sym left_saw) all_extend.0

    pub others_extend : AllExtend (seen_of left) other.0
    others_extend = subst (λ run. AllExtend run other.0) (sym left_saw) all_extend.1

    pub others_are : right ≡ (map (with_run (seen_of left)) other.0, [])
    others_are = others ∙ ap (λ (m : Mine). (other_parts m.0, [])) refreshed_is ∙ ap (λ run. (map (with_run run) other.0, [])) (sym left_saw)

    saw_run : IsSeenRun limits saw.run
    saw_run = record { lawful = saw.legal; begins = saw.begins }

    pub first_run : IsSeenRun limits (seen_of left)
    first_run = subst (IsSeenRun limits) (sym left_saw) saw_run

    pub first_seat : SeatsLast → (actor : Actor) → IsSeat limits a one actor → IsSeat limits a left actor
    first_seat own actor seat = seat_extends own limits a one left saw.run actor seat saw_run all_extend.0 left_at left_saw
