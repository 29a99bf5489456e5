-- What a cursor that goes down has walked on a seat.
use Rattle.walks.proofs.Words.{BackCursor, HasShownBack, HasToldBack, HasWalkedBack, IsSame, List, Seat, Some, StartsWith, Walk, added_back, ap, append-nil}
use Rattle.walks.proofs.Words.{append_assoc, arith, commands_in, length, length-append, refl, reverse, starts_on, sym, ℕ, [], ◌++◌, ◌+◌, ◌∙◌, ◌∷◌, ◌≡◌}
use Rattle.std.proofs.lemmas.List.{reverse-append}
use Rattle.bw_model.specs.declared.command.Command.TheVariants as command
use Rattle.running_tree.specs.declared.called.Called.TheVariants as called
use Rattle.walks.specs.BackCursors.{CallsBackPages, IsNextBack, IsSpentBackAt}
use Rattle.walks.specs.BackWalks.{IsBackWalk, pairs_upward}
use Rattle.walks.specs.declared.cursor.Walk.TheVariants as walk
use Rattle.walks.proofs.Calls.{calls_alone, calls_on, done_idle, idle_still, no_call, spent_grows}
use Rattle.walks.proofs.BackReplying.{back_is_shown}
use Rattle.walks.proofs.BackWalking.{back_tells, back_walk_on, back_walk_stays, upward_on}

walked_back_page : (old new : BackCursor) (seat later : Seat) (budget : ℕ) (before : List (List ℕ × List ℕ)) → IsSame seat later
    → HasShownBack old seat budget new later
    → HasWalkedBack old seat before (before ++ reverse new.pairs) new later
walked_back_page old new seat later budget before same h =
    let (grows, idle) = done_idle old.asked seat later (command.Back h.page.upto) budget h.reply h.run in
    let last = h.last in record {
      pages = h.page ∷ [];
      shown = ap (λ z. before ++ reverse z.pairs) h.stands;
      walk = λ early was. (later.seen, (([], sym (append-nil later.seen)), idle), (h.upto, h.since early was, h.is, (ap (λ z. z.at) h.stands, omega arith)));
      low = ap (λ z. z.low) h.stands;
      grows = grows;
      alone = calls_alone command.Back old.asked seat later h.page.upto budget (called.Done h.reply) h.run;
    }

walked_back_none : (old new : BackCursor) (seat later : Seat) (before : List (List ℕ × List ℕ)) → IsSame seat later → StartsWith later.seen seat.seen
    → CallsBackPages seat later → new.at ≡ old.at → new.low ≡ old.low → HasWalkedBack old seat before (before ++ []) new later
walked_back_none old new seat later before same grows alone at low = record {
  pages = [];
  shown = refl;
  walk = λ early was. (early, idle_still seat later early same grows was, (at, omega arith));
  low = low;
  grows = grows;
  alone = alone;
}

pub walked_back_next : (old new : BackCursor) (seat later : Seat) (budget : ℕ) (answered : Walk) (before : List (List ℕ × List ℕ)) → IsSame seat later
    → IsNextBack old seat budget answered new later
    → HasWalkedBack old seat before (before ++ added_back answered new) new later
walked_back_next old new seat later budget walk.Page before same h = walked_back_page old new seat later budget before same h
walked_back_next old new seat later budget walk.Spent before same h =
    walked_back_none old new seat later before same (spent_grows old.asked seat later (command.Back h.upto) budget h.run)
    (calls_alone command.Back old.asked seat later h.upto budget called.Spent h.run) (ap (λ z. z.at) h.stands) (ap (λ z. z.low) h.stands)
walked_back_next old new seat later budget walk.End before same h =
    walked_back_none old new seat later before same ([], ap (λ z. z.seen) h.2 ∙ sym (append-nil seat.seen))
    (no_call command.Back seat later (ap commands_in h.2)) (ap (λ z. z.at) h.1) (ap (λ z. z.low) h.1)

pub walked_back_on : (first mid last : BackCursor) (seat between later : Seat) (before middle after : List (List ℕ × List ℕ))
    → HasWalkedBack first seat before middle mid between → HasWalkedBack mid between middle after last later → HasWalkedBack first seat before after last later
walked_back_on first mid last seat between later before middle after one more = record {
  pages = one.pages ++ more.pages;
  shown =
      more.shown ∙ ap (λ pairs. pairs ++ reverse (pairs_upward more.pages)) one.shown
      ∙ append_assoc before (reverse (pairs_upward one.pages)) (reverse (pairs_upward more.pages))
      ∙ ap (λ pairs. before ++ pairs) (sym (reverse-append (pairs_upward more.pages) (pairs_upward one.pages))
      ∙ sym (ap reverse (upward_on one.pages more.pages)));
  walk = λ early was.
      let (early', was', walk) = one.walk early was in
      let (late, idle, walk') = more.walk early' was' in (
        late,
        idle,
        back_walk_on later.seen first.low first.at (length early) one.pages mid.at (length early') more.pages last.at (length late)
            (back_walk_stays between.seen later.seen first.low first.at (length early) one.pages mid.at (length early') more.grows walk)
            (rw one.low at walk'),
      );
  low = more.low ∙ one.low;
  grows = starts_on seat.seen between.seen later.seen one.grows more.grows;
  alone = calls_on command.Back seat between later one.alone more.alone;
}

-- one answer more
module _ (first mid last : BackCursor) (seat between later : Seat) (budget : ℕ) (answered : Walk) (before middle after : List (List ℕ × List ℕ))
    (same : IsSame between later) (next : IsNextBack mid between budget answered last later)
    (adds : after ≡ middle ++ added_back answered last) where
  pub walked_back_more : HasWalkedBack first seat before middle mid between → HasWalkedBack first seat before after last later
  walked_back_more walked = walked_back_on first mid last seat between later before middle after walked
      (rw adds (walked_back_next mid last between later budget answered middle same next))

  pub back_spent_on : answered ≡ walk.Spent → HasWalkedBack first seat before middle mid between → IsSpentBackAt seat budget last later
  back_spent_on is walked = record {
    old = mid;
    seat = between;
    same = same;
    grows = walked.grows;
    asked = rw is at next;
  }

  pub walked_back_counted : answered ≡ walk.Page → (n : ℕ) → (walked : HasWalkedBack first seat before middle mid between) × (length walked.pages ≡ n)
      → (walked : HasWalkedBack first seat before after last later) × (length walked.pages ≡ n + 1)
  unfolding walked_back_on walked_back_page
  walked_back_counted is n (walked, count) =
      let shows : HasShownBack mid between budget last later = rw is at next in
      let more : HasWalkedBack mid between middle (middle ++ reverse last.pairs) last later =
      walked_back_page mid last between later budget middle same shows in
      let whole : HasWalkedBack first seat before (middle ++ reverse last.pairs) last later =
      walked_back_on first mid last seat between later before middle (middle ++ reverse last.pairs) walked more in
      let is_after : middle ++ reverse last.pairs ≡ after = sym (adds ∙ ap (λ one. middle ++ added_back one last) is) in
      rw (← is_after) (whole, let long = length-append walked.pages (shows.page ∷ []) in omega arith)

-- nothing walked yet
pub walked_back_nothing : (cursor : BackCursor) (seat : Seat) (pairs : List (List ℕ × List ℕ))
    → (walked : HasWalkedBack cursor seat pairs pairs cursor seat) × (length walked.pages ≡ 0)
walked_back_nothing cursor seat pairs = (
  record {
    pages = [];
    shown = sym (append-nil pairs);
    walk = λ early was. (early, was, (refl, omega arith));
    low = refl;
    grows = ([], sym (append-nil seat.seen));
    alone = no_call command.Back seat seat refl;
  },
  refl,
)

-- and what it tells of the map
pub back_has_told : (old : BackCursor) (seat : Seat) (before after : List (List ℕ × List ℕ)) (new : BackCursor) (later : Seat)
    → HasWalkedBack old seat before after new later → HasToldBack old seat before after new later
back_has_told old seat before after new later w = record {
  upward = pairs_upward w.pages;
  added = w.shown;
  tells = λ upto early at idle.
      let (late, was, walk) = w.walk early idle in
      let walk_upto : IsBackWalk later.seen old.low (Some upto) (length early) w.pages new.at (length late) = rw at at walk in (
        late,
        was,
        λ limits turns linear. back_tells later.seen linear.points old.low (λ page is. back_is_shown limits turns later.seen old.low page linear is) upto
            (length early) w.pages new.at (length late) walk_upto,
      );
}
