-- What a cursor has walked on a seat.
use Rattle.walks.proofs.Words.{Cursor, HasShown, HasTold, HasWalked, IsSame, IsWalk, List, Seat, Some, StartsWith, Walk, added_by, ap, append-nil, append_assoc}
use Rattle.walks.proofs.Words.{arith, commands_in, length, length-append, pairs_shown, refl, starts_on, sym, ℕ, [], ◌++◌, ◌+◌, ◌∙◌, ◌∷◌, ◌≡◌}
use Rattle.bw_model.specs.declared.command.Command.TheVariants as command
use Rattle.running_tree.specs.declared.called.Called.TheVariants as called
use Rattle.walks.specs.Cursors.{CallsPages, IsNextOf, IsSpentAt}
use Rattle.walks.specs.declared.cursor.Walk.TheVariants as walk
use Rattle.walks.proofs.Calls.{calls_alone, calls_on, done_idle, idle_still, no_call, spent_grows}
use Rattle.walks.proofs.Replying.{page_is_shown}
use Rattle.walks.proofs.Walking.{shown_on, walk_on, walk_stays, walk_tells}

walked_page : (old new : Cursor) (seat later : Seat) (budget : ℕ) (before : List (List ℕ × List ℕ)) → IsSame seat later → HasShown old seat budget new later
    → HasWalked old seat before (before ++ new.pairs) new later
walked_page old new seat later budget before same h =
    let (grows, idle) = done_idle old.asked seat later (command.Page h.page.from) budget h.reply h.run in
    let last = h.last in record {
      pages = h.page ∷ [];
      shown = ap (λ z. before ++ z.pairs) h.stands ∙ ap (λ pairs. before ++ pairs) (sym (append-nil h.page.pairs));
      walk = λ early was. (later.seen, (([], sym (append-nil later.seen)), idle), (h.from, h.since early was, h.is, (ap (λ z. z.at) h.stands, omega arith)));
      bound = ap (λ z. z.bound) h.stands;
      grows = grows;
      alone = calls_alone command.Page old.asked seat later h.page.from budget (called.Done h.reply) h.run;
    }

walked_none : (old new : Cursor) (seat later : Seat) (before : List (List ℕ × List ℕ)) → IsSame seat later → StartsWith later.seen seat.seen
    → CallsPages seat later → new.at ≡ old.at → new.bound ≡ old.bound → HasWalked old seat before (before ++ []) new later
walked_none old new seat later before same grows alone at bound = record {
  pages = [];
  shown = refl;
  walk = λ early was. (early, idle_still seat later early same grows was, (at, omega arith));
  bound = bound;
  grows = grows;
  alone = alone;
}

pub walked_next : (old new : Cursor) (seat later : Seat) (budget : ℕ) (answered : Walk) (before : List (List ℕ × List ℕ)) → IsSame seat later → IsNextOf old seat budget answered new later
    → HasWalked old seat before (before ++ added_by answered new) new later
walked_next old new seat later budget walk.Page before same h = walked_page old new seat later budget before same h
walked_next old new seat later budget walk.Spent before same h =
    walked_none old new seat later before same (spent_grows old.asked seat later (command.Page h.from) budget h.run)
    (calls_alone command.Page old.asked seat later h.from budget called.Spent h.run) (ap (λ z. z.at) h.stands) (ap (λ z. z.bound) h.stands)
walked_next old new seat later budget walk.End before same h =
    walked_none old new seat later before same ([], ap (λ z. z.seen) h.2 ∙ sym (append-nil seat.seen)) (no_call command.Page seat later (ap commands_in h.2))
    (ap (λ z. z.at) h.1) (ap (λ z. z.bound) h.1)

pub walked_on : (first mid last : Cursor) (seat between later : Seat) (before middle after : List (List ℕ × List ℕ))
    → HasWalked first seat before middle mid between → HasWalked mid between middle after last later → HasWalked first seat before after last later
walked_on first mid last seat between later before middle after one more = record {
  pages = one.pages ++ more.pages;
  shown =
      more.shown ∙ ap (λ pairs. pairs ++ pairs_shown more.pages) one.shown ∙ append_assoc before (pairs_shown one.pages) (pairs_shown more.pages)
      ∙ ap (λ pairs. before ++ pairs) (sym (shown_on one.pages more.pages));
  walk = λ early was.
      let (early', was', walk) = one.walk early was in
      let (late, idle, walk') = more.walk early' was' in (
        late,
        idle,
        walk_on later.seen first.bound first.at (length early) one.pages mid.at (length early') more.pages last.at (length late)
            (walk_stays between.seen later.seen first.bound first.at (length early) one.pages mid.at (length early') more.grows walk)
            (rw one.bound at walk'),
      );
  bound = more.bound ∙ one.bound;
  grows = starts_on seat.seen between.seen later.seen one.grows more.grows;
  alone = calls_on command.Page seat between later one.alone more.alone;
}

-- one answer more
module _ (first mid last : Cursor) (seat between later : Seat) (budget : ℕ) (answered : Walk) (before middle after : List (List ℕ × List ℕ))
    (same : IsSame between later) (next : IsNextOf mid between budget answered last later)
    (adds : after ≡ middle ++ added_by answered last) where
  pub walked_more : HasWalked first seat before middle mid between → HasWalked first seat before after last later
  walked_more walked = walked_on first mid last seat between later before middle after walked
      (rw adds (walked_next mid last between later budget answered middle same next))

  pub spent_on : answered ≡ walk.Spent → HasWalked first seat before middle mid between → IsSpentAt seat budget last later
  spent_on is walked = record { old = mid; seat = between; same = same; grows = walked.grows; asked = rw is at next }

  pub walked_counted : answered ≡ walk.Page → (n : ℕ) → (walked : HasWalked first seat before middle mid between) × (length walked.pages ≡ n)
      → (walked : HasWalked first seat before after last later) × (length walked.pages ≡ n + 1)
  unfolding walked_on walked_page
  walked_counted is n (walked, count) =
      let shows : HasShown mid between budget last later = rw is at next in
      let more : HasWalked mid between middle (middle ++ last.pairs) last later = walked_page mid last between later budget middle same shows in
      let whole : HasWalked first seat before (middle ++ last.pairs) last later = walked_on first mid last seat between later before middle (middle ++ last.pairs) walked more in
      let is_after : middle ++ last.pairs ≡ after = sym (adds ∙ ap (λ one. middle ++ added_by one last) is) in
      rw (← is_after) (whole, let long = length-append walked.pages (shows.page ∷ []) in omega arith)

-- nothing walked yet
pub walked_nothing : (cursor : Cursor) (seat : Seat) (pairs : List (List ℕ × List ℕ)) → (walked : HasWalked cursor seat pairs pairs cursor seat) × (length walked.pages ≡ 0)
walked_nothing cursor seat pairs = (
  record {
    pages = [];
    shown = sym (append-nil pairs);
    walk = λ early was. (early, was, (refl, omega arith));
    bound = refl;
    grows = ([], sym (append-nil seat.seen));
    alone = no_call command.Page seat seat refl;
  },
  refl,
)

-- and what it tells of the map
pub has_told : (old : Cursor) (seat : Seat) (before after : List (List ℕ × List ℕ)) (new : Cursor) (later : Seat) → HasWalked old seat before after new later → HasTold old seat before after new later
has_told old seat before after new later w = record {
  shown = pairs_shown w.pages;
  added = w.shown;
  tells = λ from early at idle.
      let (late, was, walk) = w.walk early idle in
      let walk_from : IsWalk later.seen old.bound (Some from) (length early) w.pages new.at (length late) = rw at at walk in (
        late,
        was,
        λ limits turns linear. walk_tells later.seen linear.points old.bound (λ page is. page_is_shown limits turns later.seen old.bound page linear is) from
            (length early) w.pages new.at (length late) walk_from,
      );
}
