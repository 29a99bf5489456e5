-- A cursor page on a seat that is done: the page that it shows.
use Rattle.walks.proofs.Words.{Called, Cursor, Finishes, HasShown, IsOneHistory, IsRunOn, IsSame, List, None, Option, PairsAscend, Reply, Seat, Some, ap}
use Rattle.walks.proofs.Words.{cursor_command, false, if◌then◌else◌, pairs_under, place_under, refl, subst, sym, unfinished_command, ℕ, ◌∙◌, ◌≡◌}
use Rattle.bw_model.specs.declared.command.Command.TheVariants as command
use Rattle.bw_model.specs.declared.command.Reply.TheVariants as reply
use Rattle.running_tree.specs.declared.called.Called.TheVariants as called
use Rattle.walks.proofs.Calling.{IsCompleted, completed}
use Rattle.walks.proofs.Replying.{IsPaged, paged}
use Rattle.walks.specs.Cursors.{page_from}

module _ (old shown : Cursor) (is : shown ≡ old) (seat later : Seat) (from : List ℕ) (budget : ℕ) (came : Called) (answered : Reply) (has : shown.at ≡ Some from)
    (same : IsSame seat later)
    (ready : unfinished_command seat ≡ cursor_command old)
    (runs : IsRunOn shown.asked seat (command.Page from) budget came later) (is_done : came ≡ called.Done answered)
    (history : IsOneHistory later.limits later.seen) where
  abbrev at : old.at ≡ Some from
  at = rw is at has

  abbrev done : IsCompleted old.asked seat (command.Page from) budget answered later
  done = completed old.asked seat later (command.Page from) budget came answered same
      (ready ∙ ap (λ key. if old.asked then page_from key else None) at) (rw is at runs) is_done history

  -- the reply is a cursor page
  pub is_paged : IsPaged later.seen history.linearized.points (record { start = done.begun; actor = later.actor; command = command.Page from }) from answered
  is_paged = paged later.limits later.seen history.linearized.points _ from refl answered
      (history.linearized.answered.each _ done.done answered done.begins done.ends)

  pub items_ascend : (items : List (List ℕ × List ℕ)) (high : Option (List ℕ)) → answered ≡ reply.Page items high → PairsAscend items
  items_ascend items high is = let same_items : is_paged.items ≡ items = of_page (sym is_paged.is ∙ is) in subst PairsAscend same_items is_paged.pairs.ascending
    where
      of_page : {a b : List (List ℕ × List ℕ)} {x y : Option (List ℕ)} → reply.Page a x ≡ reply.Page b y → a ≡ b
      of_page e = cc

  pub has_shown : (new : Cursor) (items : List (List ℕ × List ℕ)) (high : Option (List ℕ)) → answered ≡ reply.Page items high
      → new ≡ record { at = place_under old.bound high; bound = old.bound; asked = false; pairs = pairs_under old.bound items }
      → HasShown old seat budget new later
  has_shown new items high is stands = record {
    page = record {
      from = from;
      next = place_under old.bound high;
      pairs = pairs_under old.bound items;
      actor = later.actor;
      begun = done.begun;
      done =
          done.done;
    };
    from = at;
    is = record { begins = done.begins; items = items; high = high; ends = subst (Finishes later.seen _ done.done) is done.ends; next = refl; pairs = refl };
    own = refl;
    last = done.last;
    since = done.since;
    reply = answered;
    run = done.run;
    stands = stands;
  }
