-- A page backward on a seat that is done: the page that it shows.
use Rattle.walks.proofs.Words.{BackCursor, Called, Finishes, HasShownBack, IsOneHistory, IsRunOn, IsSame, List, None, Option, PairsAscend, Reply, Seat, Some}
use Rattle.walks.proofs.Words.{ap, back_command, false, if◌then◌else◌, pairs_from, place_from, refl, subst, sym, unfinished_command, ℕ, ◌∙◌, ◌≡◌}
use Rattle.bw_model.specs.declared.command.Command.TheVariants as command
use Rattle.bw_model.specs.declared.command.Reply.TheVariants as reply
use Rattle.running_tree.specs.declared.called.Called.TheVariants as called
use Rattle.walks.proofs.Calling.{IsCompleted, completed}
use Rattle.walks.proofs.BackReplying.{IsPagedBack, paged_back}
use Rattle.walks.specs.BackCursors.{page_upto}

module _ (old shown : BackCursor) (is : shown ≡ old) (seat later : Seat) (upto : List ℕ) (budget : ℕ) (came : Called) (answered : Reply) (has : shown.at ≡ Some upto)
    (same : IsSame seat later)
    (ready : unfinished_command seat ≡ back_command old)
    (runs : IsRunOn shown.asked seat (command.Back upto) budget came later) (is_done : came ≡ called.Done answered)
    (history : IsOneHistory later.limits later.seen) where
  abbrev at : old.at ≡ Some upto
  at = rw is at has

  abbrev done : IsCompleted old.asked seat (command.Back upto) budget answered later
  done = completed old.asked seat later (command.Back upto) budget came answered same
      (ready ∙ ap (λ key. if old.asked then page_upto key else None) at) (rw is at runs) is_done history

  -- the reply is a page backward
  pub is_paged_back : IsPagedBack later.seen history.linearized.points
      (record { start = done.begun; actor = later.actor; command = command.Back upto }) upto answered
  is_paged_back = paged_back later.limits later.seen history.linearized.points _ upto refl answered
      (history.linearized.answered.each _ done.done answered done.begins done.ends)

  pub back_ascends : (items : List (List ℕ × List ℕ)) (below : Option (List ℕ)) → answered ≡ reply.BackPage items below → PairsAscend items
  back_ascends items below is = let same_items : is_paged_back.items ≡ items = of_page (sym is_paged_back.is ∙ is) in
      subst PairsAscend same_items is_paged_back.pairs.ascending
    where
      of_page : {a b : List (List ℕ × List ℕ)} {x y : Option (List ℕ)} → reply.BackPage a x ≡ reply.BackPage b y → a ≡ b
      of_page e = cc

  pub back_has_shown : (new : BackCursor) (items : List (List ℕ × List ℕ)) (below : Option (List ℕ)) → answered ≡ reply.BackPage items below
      → new ≡ record { at = place_from old.low below; low = old.low; asked = false; pairs = pairs_from old.low items } → HasShownBack old seat budget new later
  back_has_shown new items below is stands = record {
    page = record { upto = upto; next = place_from old.low below; pairs = pairs_from old.low items; actor = later.actor; begun = done.begun; done = done.done };
    upto = at;
    is = record { begins = done.begins; items = items; below = below; ends = subst (Finishes later.seen _ done.done) is done.ends; next = refl; pairs = refl };
    own = refl;
    last = done.last;
    since = done.since;
    reply = answered;
    run = done.run;
    stands = stands;
  }
