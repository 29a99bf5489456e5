-- Why a reply is right: where an actor may reply, its operation is answered by the points before that step.
use Rattle.tree_law.proofs.Words.{[], ap, refl, Option, None, List, inl, ◌≢◌, length, inr, sym, ℕ, ◌≡◌, Bool, ◌∙◌, ◌<◌, arith, Some, take, ⊎_elim, same_Some, IfSome, MatchOption, Update}
use Rattle.tree_law.proofs.Words.{logged_value, update_of, command_key, Command, Reply, Limits, Record, slice_get_below, IsChainFrom, low_in, level_in, high_in, MayReply, MayAnswer, knows}
use Rattle.tree_law.proofs.Words.{memory_at, command_of, memory_of, Entry, WasHeldBack, RepliesAt, Operation, IsOwnStep, log_at, log_of, IsPoint, IsQuiet, UpdatesAtLinks, IsRepliedAt}
use Rattle.tree_law.proofs.Words.{shared_part, Tells, operation_from, IsState, IsAnsweredBy, IsMarked, HasFound, HaveStood, WereRead, WasLeafWith, key_before}
use Rattle.traces.specs.discipline.Discipline.{IsHeldBack, MayShowBack, MayShowPage, MayCallTidy, MayGiveUp}
use Rattle.tree_law.proofs.answering.Answering.{answers}
use Rattle.tree_law.proofs.shape.{chain_stands, shows, shows_back}
use Rattle.tree_law.proofs.trace.Remark.{remarked, log_of_same, log_at_same, marked', marked_now, told, told_other, updates', quiet'}
use Rattle.tree_law.proofs.trace.Searches.{held_back, lacks}
use Rattle.tree_law.proofs.trace.Standing.{was_standing}

-- The points before a step that may reply: where it does, the actor's operation is answered by them.
pub record Settled (limits : Limits) (entries : List Entry) (log : List Update) (point : ℕ → Option (List Update)) (logs : ℕ → List (List Update)) (a : ℕ) (asked : Command) (r : Option Reply) : Type
    0 where
  pub points : List Bool
  pub log_is : log_of entries points ≡ log
  pub marked : IsMarked limits entries points
  pub updates : UpdatesAtLinks limits entries points
  pub quiet : IsQuiet limits entries points
  pub own_point : Option (List Update)
  pub mine : Tells entries points a asked own_point (logs a)
  pub others : (b : ℕ) (c : Command) → b ≢ a → command_of entries b ≡ Some c → Tells entries points b c (point b) (logs b)
  pub quietly : r ≡ None → own_point ≡ point a
  pub replied : (reply : Reply) → r ≡ Some reply → IsAnsweredBy limits entries points (operation_from mine.start a asked) reply

module _ (limits : Limits) (entries : List Entry) (a : ℕ) (asked : Command) (state : IsState limits entries) (asks : command_of entries a ≡ Some asked) where
  abbrev begun : Tells entries state.points a asked (state.point a) (state.logs a)
  begun = state.tells a asked asks

  abbrev mine : Operation
  mine = operation_from begun.start a asked

  -- where the points stay
  as_they_are : (r : Option Reply) → ((reply : Reply) → r ≡ Some reply → IsAnsweredBy limits entries state.points mine reply)
      → Settled limits entries (log_of entries state.points) state.point state.logs a asked r
  as_they_are r replied = record {
    points = state.points;
    log_is = refl;
    marked = state.marked;
    updates = state.updates;
    quiet = state.quiet;
    own_point = state.point a;
    mine = begun;
    others = λ b c ne e. state.tells b c e;
    quietly = λ e. refl;
    replied = replied;
  }

  pub no_point : (knows entries a).asked.linked ≡ None → state.point a ≡ None
  no_point e = rw e at (state.is_tree.sound a).linked_fits

  -- what is told of the actor's point, if it has one
  point_told : (o : Option (List Update)) → state.point a ≡ o
      → MatchOption o ((m : ℕ) → IsOwnStep entries mine m → IsPoint state.points m → ⊥) (λ l. (m : ℕ) × IsOwnStep entries mine m × IsPoint state.points m × (log_at entries state.points m ≡ l))
  point_told o e = rw e at begun.point_at

  -- where a mark is set late, at an own step at which the command makes no update and has this reply
  marked_late : (reply : Reply) → state.point a ≡ None → (m : ℕ) (own : IsOwnStep entries mine m) → command_of (take m entries) a ≡ Some asked
      → update_of a asked (logged_value (log_at entries state.points m) (command_key asked)) ≡ None → RepliesAt (memory_at limits entries m) (log_at entries state.points m) asked reply
      → Settled limits entries (log_of entries state.points) state.point state.logs a asked (Some reply)
  marked_late reply none m own asked_then changeless replies = record {
    points = remarked limits entries state.points a asked (state.logs a) state.marked t m own asked_then changeless;
    log_is = log_of_same limits entries state.points a asked (state.logs a) state.marked t m own asked_then changeless;
    marked = marked' limits entries state.points a asked (state.logs a) state.marked t m own asked_then changeless (state.searches mine begun.begins begun.unended asks).unfinished;
    updates = updates' limits entries state.points a asked (state.logs a) state.marked t m own asked_then changeless state.updates;
    quiet = quiet' limits entries state.points a asked (state.logs a) state.marked t m own asked_then changeless state.quiet;
    own_point = Some (log_at entries state.points m);
    mine = told limits entries state.points a asked (state.logs a) state.marked t m own asked_then changeless;
    others = λ b c ne e. told_other limits entries state.points a asked (state.logs a) state.marked t m own asked_then changeless b c (state.point b) (state.logs b) ne (state.tells b c e);
    quietly = λ e. absurd (cc);
    replied =
        λ y e. inl (
          m,
          own,
          marked_now limits entries state.points a asked (state.logs a) state.marked t m own asked_then changeless,
          let same : reply ≡ y = cc
              in rw (log_at_same limits entries state.points a asked (state.logs a) state.marked t m own asked_then changeless m, sym same) replies,
        );
  }
    where
      t : Tells entries state.points a asked None (state.logs a)
      t = record { start = begun.start; begins = begun.begins; unended = begun.unended; logs_at = begun.logs_at; point_at = point_told None none }

  by_value : (reply : Reply) → MayAnswer a (knows entries a) asked reply → Settled limits entries (log_of entries state.points) state.point state.logs a asked (Some reply)
  by_value reply may =
      let at : IsRepliedAt a asked reply (state.point a) (state.logs a) = answers state.is_tree a asked reply may in
      elim at.own [
        | inl linked ↦
            let p = point_told (Some at.at) linked in
            as_they_are (Some reply) (λ y e. inl (p.0, p.1, p.2, inl (rw p.3 (at.same ∙ e))))
        | inr u ↦
            let h = begun.logs_at at.at u.2 in
            marked_late reply u.0 h.0 h.1 h.3
            (rw h.2 u.1)
            (inl (rw h.2 at.same))
      ]

  stood : HaveStood limits entries mine (memory_of limits entries).rows (knows entries a).read
  stood = state.stood mine begun.begins begun.unended asks

  -- a cursor page has its point where its leaf stood
  by_page : (reply : Reply) → MayShowPage (knows entries a) asked reply → Settled limits entries (log_of entries state.points) state.point state.logs a asked (Some reply)
  by_page reply may =
      let below : was.1.step < length entries = slice_get_below entries was.1.step _ was.1.own.2.1.entry in
      marked_late reply (no_point may.unlinked) was.1.step was.1.own was.1.asked (ap (λ c. update_of a c (logged_value (log_at entries state.points was.1.step) (command_key c))) may.asks)
      (inr (inl (record {
        from = may.from;
        asks = may.asks;
        items = may.pairs;
        next = high_in may.chain;
        is = may.is;
        page =
            shows (memory_at limits entries was.1.step) (log_at entries state.points was.1.step) (state.quiet.at_each was.1.step (omega (arith, below)))
            (record { pid = was.0; chain = may.chain }) was.1.stood may.from may.covers may.pairs may.exact;
      })))
    where
      was : (page : ℕ) × WasLeafWith limits entries mine (record { pid = page; chain = may.chain })
      was = was_standing state.is_tree a limits entries mine stood may.row may.chain may.read may.leaf may.basis

  -- and so has a page backward
  by_back : (reply : Reply) → MayShowBack (knows entries a) asked reply → Settled limits entries (log_of entries state.points) state.point state.logs a asked (Some reply)
  by_back reply may =
      let below : was.1.step < length entries = slice_get_below entries was.1.step _ was.1.own.2.1.entry in
      marked_late reply (no_point may.unlinked) was.1.step was.1.own was.1.asked (ap (λ c. update_of a c (logged_value (log_at entries state.points was.1.step) (command_key c))) may.asks)
      (inr (inr (record {
        upto = may.upto;
        asks = may.asks;
        items = may.pairs;
        next = key_before (low_in may.chain);
        is = may.is;
        page =
            shows_back (memory_at limits entries was.1.step) (log_at entries state.points was.1.step) (state.quiet.at_each was.1.step (omega (arith, below)))
            (record { pid = was.0; chain = may.chain }) was.1.stood may.upto may.covers may.short may.pairs may.exact;
      })))
    where
      was : (page : ℕ) × WasLeafWith limits entries mine (record { pid = page; chain = may.chain })
      was = was_standing state.is_tree a limits entries mine stood may.row may.chain may.read may.leaf may.basis

  -- what an operation without a point may reply
  pointlessly : (reply : Reply) → (knows entries a).asked.linked ≡ None → HasFound limits entries mine reply
      → Settled limits entries (log_of entries state.points) state.point state.logs a asked (Some reply)
  pointlessly reply unlinked finds = as_they_are (Some reply) (λ y e. let same : reply ≡ y = cc in inr (record { unmarked = point_told None (no_point unlinked); finds = rw same at finds }))

  by_tidying : (reply : Reply) → MayCallTidy (knows entries a) asked reply → Settled limits entries (log_of entries state.points) state.point state.logs a asked (Some reply)
  by_tidying reply may = pointlessly reply may.unlinked (inl (
    may.is,
    record {
      key = may.key;
      asks = may.asks;
      step = was.0.step;
      own = was.0.own;
      tidy = record {
        leaf = record { pid = may.page; chain = may.basis.chain };
        stands = record { leaves = was.0.stood.leaves; are = was.0.stood.are; among = was.0.stood.among; covers = may.covers };
        base = may.base;
        alone = may.alone;
        few = may.few;
      };
      back = λ other few. ⊎_elim (λ (first : low_in may.basis.chain ≡ []). absurd (other (was.0.stood.first first))) back (may.back other few);
    },
  ))
    where
      stands : (row : ℕ) (chain : List Record) → IsChainFrom (knows entries a).read.seen row chain → IsChainFrom (memory_of limits entries).rows row chain
      stands row chain = chain_stands state.owners (shared_part (memory_of limits entries)) (knows entries a).read.seen (state.is_tree.sound a).seen_fits chain (Some row)

      was : (leaf : WasLeafWith limits entries mine (record { pid = may.page; chain = may.basis.chain })) × WereRead limits entries mine
          (memory_of limits entries).rows ((knows entries a).read.before may.page) leaf.step
      was = stood.heads may.page may.head may.basis.chain may.basis.head (stands may.head may.basis.chain may.basis.read) (ap level_in may.alone ∙ may.leaf) may.basis.alive

      -- before it the page was read that held it back
      back : IsHeldBack (knows entries a) may.page (low_in may.basis.chain) → WasHeldBack limits entries mine was.0.step (record { pid = may.page; chain = may.basis.chain })
      back h = held_back _ h.parent h.row h.above.chain (was.1 h.parent h.row h.above.chain h.order (stands h.row h.above.chain h.above.read)) h.above.alive h.holds

  by_want : (reply : Reply) → MayGiveUp limits (knows entries a) asked reply → Settled limits entries (log_of entries state.points) state.point state.logs a asked (Some reply)
  by_want reply may = pointlessly reply may.unlinked (inr (may.is, may.writes, lacks limits entries mine (knows entries a) (state.searches mine begun.begins begun.unended asks) may.lacks))

  pub settled : (r : Option Reply) → IfSome r (MayReply limits a (knows entries a)) → Settled limits entries (log_of entries state.points) state.point state.logs a asked r
  settled None may = as_they_are None (λ reply e. absurd (cc))
  settled (Some reply) may =
      let same : may.command ≡ asked = same_Some may.command asked (sym may.going ∙ state.named.commands a ∙ asks) in
      elim may.justified [
        | inl value ↦ by_value reply (rw same at value)
        | inr (inl page) ↦ by_page reply (rw same at page)
        | inr (inr (inl back)) ↦ by_back reply (rw same at back)
        | inr (inr (inr (inl tidy))) ↦ by_tidying reply (rw same at tidy)
        | inr (inr (inr (inr want))) ↦ by_want reply (rw same at want)
      ]
