-- What follows from what a writer's round does with a page that was read whole.
use Rattle.round_model.proofs.Words.{ap, ◌∙◌, ◌≡◌, ◌≢◌, ◌<◌, ◌≤◌, ◌-◌, inl, inr, ℕ, suc, List, [], ◌∷◌, length, Bool, true, false, Option, Some, None, refl, sym, subst, arith, IfSome}
use Rattle.round_model.proofs.Words.{IsTrue, IfSome_then, is_below, Child, not_true, Record, content_in, covers, is_removed, level_in, low_in, right_in, Knowledge, Version, made, DueChange}
use Rattle.round_model.proofs.Words.{WriteEnd, IsAlive, IsInHand, LeadsDown, LeadsRight, NamesAt, reaches, IsHere, IsSplitFinished, TreatsWrite, EndsBy, IsGone}
use Rattle.std.proofs.Math.Nat.{lt_of_not-le}
use Rattle.base_page.specs.Pages.{Page as PageOf}
use Rattle.deltas.specs.declared.record.Merge.{Merge as MergeRecord}
use Rattle.deltas.specs.declared.record.Term.{Term}
use Rattle.deltas.specs.declared.record.Unterm.{Unterm as UntermRecord}
use Rattle.traces.specs.discipline.Recalled.{Recalled, WasHead}
use Rattle.structure_changes.specs.Sizes.{HasFewItems, many_of}
use Rattle.structure_changes.specs.Splits.{CanSplit}
use Rattle.structure_changes.specs.declared.plan.Plan.{Plan}
use Rattle.structure_changes.proofs.Few.{few_many}
use Rattle.round_model.specs.Courses.{WriteGoal, Seek, Left, Merge, Unterm}
use Rattle.round_model.specs.WriteEnds as end
use Rattle.round_model.specs.Visits as page
use Rattle.round_model.specs.WriteRounds.{IsCleanEnd, IsUncutEnd, IsUnmergedEnd, IsMergeEnd, IsMissing, IsUntermEnd, KeepsToWrite, SeeksLeaf}
use Rattle.round_model.specs.WriteRounds.{is_cutting, write_way, EndsWrite, IsBased, IsLeftOf, IsKept, IsLeafEnd, IsLong, IsRootEnd, IsTermEnd, VisitsToWrite}
use Rattle.round_model.specs.WriteRounds.{Shows, WriteRound, goes_left, IsTendEnd, IsDueBy}
use Rattle.round_model.specs.WriteResponses.{EndsClean, EndsUncut, EndsUnmerged, EndsCut, EndsFine, EndsMerged, EndsSmall, EndsUnposted, EndsUnrooted, IsFine}
use Rattle.round_model.proofs.Holding.{has_read}
use Rattle.round_model.proofs.Keeping.{HasReached, LiesAbove, Passed, differs}
use Rattle.round_model.proofs.Leading.{led_aside, termed}
use Rattle.round_model.proofs.PageLaws.{covered, spans}
use Rattle.round_model.proofs.Seeking.{hand, is_gone, living, reached, seeks_on}
use Rattle.round_model.proofs.Walking.{all_past, not_itself, recalled_head, told_of, trail_on}
use Rattle.round_model.proofs.WayLaws.{covers_here, down_names, lowest, right_names}

-- what follows once a page was read whole
abbrev pub After : WriteRound → Knowledge → Recalled → WriteRound → Option WriteEnd → Type 0
After old now r new None = Shows new now r
After old now r new (Some end) = EndsWrite old now r end

-- a key is at itself
reaches_itself : (key : List ℕ) → IsTrue (reaches key key)
reaches_itself key = by_test (is_below key key) refl
  where
    by_test : (b : Bool) → is_below key key ≡ b → IsTrue (reaches key key)
    by_test false e = rw e refl
    by_test true e = absurd (not_itself key e)

-- what is above a key is above the empty key
inner : (low high : List ℕ) → IsTrue (is_below low high) → IsTrue (is_below [] high)
inner low [] h = let no : is_below low [] ≡ false = not_true (is_below low []) (lowest low) in let clash : true ≡ false = sym h ∙ no in cc
inner low (x ∷ xs) h = refl

module _ (old : WriteRound) (k now : Knowledge) (r : Recalled) (version : Version) (h : HasReached old.limits old.key old.floor old.splits old.goal old.parent old.left k now r version) where
  abbrev way : List ℕ → Bool
  way = write_way old.goal old.key

  abbrev chain : List Record
  chain = version.chain

  alive_of : (other : Version) → IsKept old.limits now other h.earlier → IsAlive old.limits now r other
  alive_of other kept = record {
    in_hand = kept.in_hand;
    alive = kept.alive;
    recalled = (other.is_row.0, recalled_head now r (version.pid ∷ h.earlier) other.pid other.head h.arrives.recalled (inr kept.among) kept.in_hand.seen.head);
  }

  hand_here : IsInHand old.limits now version
  hand_here = hand old.limits k now r version h.level h.low h.earlier h.arrives

  gone_here : is_removed version.chain ≡ true → IsGone old.limits now version
  gone_here gone = is_gone old.limits k now r version h.level h.low h.earlier h.arrives gone

  alive_here : is_removed version.chain ≡ false → IsAlive old.limits now r version
  alive_here alive = living old.limits k now r version h.level h.low h.earlier h.arrives alive

  kept_on : (other : Version) → IsKept old.limits now other h.earlier → IsKept old.limits now other (version.pid ∷ h.earlier)
  kept_on other kept = record { in_hand = kept.in_hand; alive = kept.alive; among = inr kept.among }

  kept_here : is_removed version.chain ≡ false → IsKept old.limits now version (version.pid ∷ h.earlier)
  kept_here alive = record { in_hand = hand_here; alive = alive; among = inl refl }

  -- the removed page begins where the way ends, so that the next page isn't that one
  keeps_on : is_removed chain ≡ false → (pid level : ℕ) (low : List ℕ) → NamesAt chain pid level low → (goal : WriteGoal) → SeeksLeaf goal
      → IsTrue (write_way goal old.key low) → Passed old.limits old.key old.floor k now version.pid h.earlier goal
      → KeepsToWrite old.limits old.key old.floor now pid (version.pid ∷ h.earlier) goal
  keeps_on alive pid level low names Seek seeks passing by = tt
  keeps_on alive pid level low names (Left removed) seeks passing by =
      let was = by.0 in
      let apart : removed ≢ pid = λ e. (
      let here : NamesAt chain was.removed.pid level low = rw (was.is ∙ e) names in
      let so = told_of chain was.removed.pid was.removed.chain level low
      (h.arrives.arrives.whole.names alive was.removed.pid was.removed.head was.removed.chain was.gone.in_hand.seen.head was.gone.in_hand.seen.read)
      here in
      not_itself low (rw (sym was.low ∙ so.1) at passing)
      ) in
      record { removed = by.1.removed; gone = by.1.gone; is = by.1.is; low = by.1.low; level = by.1.level; unread = (apart, by.1.unread) }
  keeps_on alive pid level low names (Merge left) seeks passing by = absurd seeks
  keeps_on alive pid level low names (Unterm parent left) seeks passing by = absurd seeks

  few_deltas : ¬ IsLong old.limits old.due version.chain → length version.chain ≤ 8
  few_deltas short =
      let few = few_many old.limits (level_in version.chain) in
      let most = lt_of_not-le (λ (many : suc (many_of old.limits (level_in version.chain)) ≤ length version.chain). short (inl many)) in
      omega (arith, few, most)

  few_items : is_removed version.chain ≡ false → length version.chain ≤ 8 → ¬ CanSplit version → HasFewItems version.chain
  few_items alive short narrow =
      let m = made version.chain hand_here.sound.is_chain.fitted in
      (m.0.items, m.1.items, lt_of_not-le (λ many. narrow (record { alive = alive; short = short; wide = (m.0.items, m.1.items, many) })))

  -- what finishes a split isn't due in a round that splits pages
  where_split : old.splits ≡ true → IsSplitFinished old.splits old.parent old.left version → IsSplitFinished true old.parent old.left version
  where_split on finished = rw on at finished

  -- goes on

  based_on : (parent left : Option Version) (pid : ℕ) (low : List ℕ) → IsBased r parent left version.pid h.low
      → IfSome left (IsLeftOf old.limits now h.low h.earlier) → IsBased r parent (Some version) pid low
  based_on (Some above) left pid low based aside = tt
  based_on None None pid low based aside = elim based [ inl is ↦ inl is | inr above ↦ inr (rw h.arrives.is_low above) ]
  based_on None (Some other) pid low based aside = inr (rw h.arrives.is_low aside.inner)

  aside : (pid : ℕ) → is_removed version.chain ≡ false → SeeksLeaf old.goal → IsSplitFinished old.splits old.parent old.left version → LeadsRight way version.chain pid
      → VisitsToWrite old.limits old.key old.floor old.splits old.goal old.parent (Some version) now r (page.to_page old.limits pid)
  aside pid alive seeks finished leads =
      let names = right_names way version.chain pid leads in
      record {
        level = level_in version.chain;
        low = leads.low;
        earlier = version.pid ∷ h.earlier;
        seeks = seeks_on old.limits k now r version h.level h.low h.earlier h.arrives way (is_cutting old.goal) pid (level_in version.chain) leads.low names alive leads.on_way h.fresh;
        above = IfSome_then old.parent h.above (λ other i. record { kept = kept_on other i.kept; up = i.up; after = tt });
        aside = record {
          kept = kept_here alive;
          inner = inner (low_in version.chain) leads.low
              (spans version.chain leads.low hand_here.sound.is_chain.fitted leads.is_high);
        };
        based = based_on old.parent old.left pid leads.low h.based h.aside;
        led = λ so on. led_aside old.limits (goes_left old.goal) old.key k now r version h.level h.low h.earlier h.arrives alive pid leads old.parent old.left h.above h.aside (h.led so on)
            (where_split on finished);
        keeps = keeps_on alive pid (level_in version.chain) leads.low names old.goal seeks leads.on_way h.passed;
      }

  below : (pid : ℕ) → IsHere old version → IsFine old.limits old.due old.splits version → 0 < level_in version.chain → LeadsDown way version.chain pid
      → VisitsToWrite old.limits old.key old.floor old.splits old.goal (Some version) None now r (page.to_page old.limits pid)
  below pid here fine index leads =
      let alive = here.alive in
      let names = down_names way version.chain pid index leads in
      record {
        level = level_in version.chain - 1;
        low = leads.low;
        earlier = version.pid ∷ h.earlier;
        seeks = seeks_on old.limits k now r version h.level h.low h.earlier h.arrives way (is_cutting old.goal) pid (level_in version.chain - 1) leads.low names alive leads.greatest.passing h.fresh;
        above = record { kept = kept_here alive; up = omega (arith, index); after = tt };
        aside = tt;
        based = tt;
        led = λ so on. record { short = few_deltas fine.short; roomy = few_items alive (few_deltas fine.short) (fine.narrow on); stays = here.stays; held = leads.held; greatest = leads.greatest };
        keeps = keeps_on alive pid (level_in version.chain - 1) leads.low names old.goal here.seeks leads.greatest.passing h.passed;
      }

  -- reads the removed page again
  module _ (pid : ℕ) (goal : old.goal ≡ Left pid) (alive : is_removed version.chain ≡ false) where
    by : IsMissing old.limits k old.key old.floor pid (version.pid ∷ h.earlier) × IsMissing old.limits now old.key old.floor pid (version.pid ∷ h.earlier)
    by = rw goal at h.passed

    left_of : IsTrue (is_below h.low old.key)
    left_of = rw goal at h.passing

    above_low : IsTrue (is_below [] old.key)
    above_low = inner h.low old.key left_of

    back_to_merge : right_in version.chain ≡ Some pid → VisitsToWrite old.limits old.key old.floor old.splits (Merge version) None None now r (page.to_page old.limits pid)
    back_to_merge beside =
        let was = by.0 in
        let says = (h.arrives.arrives.whole.names alive was.removed.pid was.removed.head was.removed.chain was.gone.in_hand.seen.head was.gone.in_hand.seen.read).right
        (beside ∙ ap Some (sym was.is)) in
        let names : NamesAt chain pid (level_in chain) old.key = inl (beside, refl, says.1 ∙ ap Some was.low) in
        record {
          level = level_in version.chain;
          low = old.key;
          earlier = version.pid ∷ h.earlier;
          seeks =
              seeks_on old.limits k now r version h.level h.low h.earlier h.arrives (reaches old.key) false pid (level_in version.chain) old.key names alive
              (reaches_itself old.key) (λ here. h.fresh (ap is_cutting goal));
          above = tt;
          aside = tt;
          based = inr above_low;
          led = λ so on. absurd so;
          keeps = kept_here alive;
        }

    module _ (parent : Version) (over : LiesAbove old.limits now version h.earlier parent) (term : content_in parent.chain old.key ≡ Some (Child pid true)) where
      inside_parent : IsTrue (covers parent.chain old.key)
      inside_parent = covered parent.chain old.key (Child pid true) over.kept.in_hand.sound.is_chain.fitted term

      apart_parent : parent.pid ≢ pid
      apart_parent = differs pid parent.pid h.earlier by.1.unread.1 over.kept.among

      some : 0 < pid
      some = rw by.1.is at by.1.removed.is_pid.0

      below_limit : pid < old.limits.pids
      below_limit = rw by.1.is at by.1.gone.in_hand.page

      back_to_unterm : VisitsToWrite old.limits old.key old.floor old.splits (Unterm parent version) None None now r (page.to_page old.limits pid)
      back_to_unterm = record {
        level = level_in version.chain;
        low = old.key;
        earlier = version.pid ∷ h.earlier;
        seeks = record {
          on_way = record {
            shows = record {
              inside = h.arrives.arrives.inside;
              page = some;
              below = below_limit;
              head = tt;
              stands = inr (record {
                other = parent.pid;
                row = parent.head;
                basis = has_read over.kept.in_hand.seen over.kept.alive;
                named = inr (inl (level_in version.chain, old.key, true, over.up, inside_parent, term));
              });
            };
            same = refl;
            bare = refl;
            visited = trail_on r.walk chain h.arrives.removed alive ∙ h.arrives.visited;
            recalled = h.arrives.recalled;
            expected = inr (inl (record { naming = parent; in_hand = over.kept.in_hand; alive = over.kept.alive; apart = apart_parent; names = inr (true, over.up, inside_parent, term) }));
            distinct = (some, below_limit, by.1.unread, h.arrives.distinct);
            past = all_past old.limits k now r version h.level h.low h.earlier h.arrives (level_in version.chain) old.key (inr (refl, rw h.arrives.is_low left_of));
            rooted = h.arrives.rooted;
            removed = tt;
            lowest = tt;
            kept = λ other none. absurd none;
          };
          passing = reaches_itself old.key;
          named = λ here. absurd cc;
          fresh = λ here. absurd cc;
        };
        above = tt;
        aside = tt;
        based = inr above_low;
        led = λ so on. absurd so;
        keeps = record { above = kept_on parent over.kept; aside = kept_here alive; up = over.up; after = over.after };
      }

  -- ends

  term_end : (parent : Version) (term : Term) → EndsUnposted old version parent term → IsTermEnd old now r parent term
  term_end parent term t =
      let over = rw t.above at h.above in
      record { page = alive_of parent over.kept; child = version; below = alive_here t.plan.can.alive; after = over.after; plan = t.plan }

  root_of : (left : Version) → IsBased r None (Some left) version.pid h.low → low_in left.chain ≡ [] → WasHead r 0 left.pid
  root_of left based first = elim based [
    | inl is ↦ (left.is_pid.0, is)
    | inr above ↦ absurd (not_itself [] (rw first at above))
  ]

  root_end : (left : Version) (root : PageOf) → EndsUnrooted old version left root → IsRootEnd old now r left root
  root_end left root t =
      let beside = rw t.aside at h.aside in
      let based = rw (t.above, t.aside) at h.based in
      record { page = alive_of left beside.kept; right = version; aside = alive_here t.plan.can.alive; rooted = root_of left based t.plan.can.lowest; plan = t.plan }

  tend_end : (parent page : Version) (upkeep : Plan) → EndsSmall old version parent page upkeep → IsTendEnd old now r parent page upkeep
  tend_end parent page upkeep t =
      let over = rw t.tended.above at h.above in
      rw t.is (record {
        tends = t.tended.tends;
        seeks = t.tended.seeks;
        page = alive_here t.here.alive;
        above = record { page = alive_of parent over.kept; up = over.up; after = over.after };
        index = t.tended.index;
        due = t.due;
      })

  leaf_end : (parent : Option Version) (leaf : Version) → EndsFine old version parent leaf → IsLeafEnd old now r parent leaf
  leaf_end parent leaf t =
      let alive = t.here.alive in
      let short = few_deltas t.fine.short in
      let early : length version.chain ≤ old.due = (let most = lt_of_not-le (λ (many : suc old.due ≤ length version.chain). t.fine.short (inr (t.level, many))) in omega (arith, most)) in
      rw (t.is, t.above) (record {
        seeks = t.seeks;
        page = alive_here alive;
        level = t.level;
        covered =
            covers_here old.key version.chain
            (reached old.limits k now r version h.level h.low h.earlier h.arrives (reaches old.key) (rw t.seeks at h.passing)).reached
            (rw t.seeks at t.here.stays);
        short = short;
        early = early;
        few = λ on. few_items alive short (t.fine.narrow on);
        above = IfSome_then old.parent h.above (λ other i. record { page = alive_of other i.kept; up = i.up; after = i.after });
        termed = λ on.
            termed old.limits (goes_left old.goal) old.key k now r version h.level h.low h.earlier h.arrives alive old.parent old.left h.above h.aside
            (h.led (subst SeeksLeaf (sym t.seeks) tt) on) (where_split on t.here.finished) t.level;
      })

  merge_end : (left removed : Version) (merge : MergeRecord) → EndsMerged old version left removed merge → IsMergeEnd old now r left removed merge
  merge_end left removed merge t = rw t.is (record { page = alive_of left (rw t.goal at h.passed); gone = gone_here t.plan.can.gone; plan = t.plan })

  unterm_end : (parent left removed : Version) (unterm : UntermRecord) → EndsCut old version parent left removed unterm → IsUntermEnd old now r parent left removed unterm
  unterm_end parent left removed unterm t =
      let cut = rw t.goal at h.passed in
      rw t.is (record {
        page = alive_of parent cut.above;
        aside = alive_of left cut.aside;
        gone = gone_here t.plan.can.gone;
        up = cut.up;
        after = cut.after;
        plan = t.plan;
      })

  clean_end : EndsClean old version → IsCleanEnd old now r
  clean_end t = record {
    pid = t.pid;
    goal = t.left.goal;
    version = version;
    page = alive_here t.left.here.alive;
    level = t.left.level;
    stays = t.left.here.stays;
    apart = t.apart;
    above = IfSome_then old.parent h.above (λ other i. record { page = alive_of other i.kept; up = i.up; after = i.after });
    lacks = t.lacks;
  }

  unmerged_end : EndsUnmerged old version → IsUnmergedEnd old now r
  unmerged_end t = record { left = t.left; goal = t.goal; aside = alive_of t.left (rw t.goal at h.passed); version = version; page = hand_here; none = t.none }

  uncut_end : EndsUncut old version → IsUncutEnd old now r
  uncut_end t =
      let cut = rw t.goal at h.passed in
      record { parent = t.parent; left = t.left; goal = t.goal; above = alive_of t.parent cut.above; aside = alive_of t.left cut.aside; version = version; page = hand_here; none = t.none }

  due_end : (change : DueChange) → EndsBy old version change → IsDueBy old now r change
  due_end (end.Consolidate page base) t = rw t.is (record { page = alive_here t.here.alive; long = t.long; plan = t.plan })
  due_end (end.Split page plan) t = rw t.is (record { page = alive_here t.here.alive; plan_due = t.plan_due })
  due_end (end.Term parent term) t = term_end parent term t
  due_end (end.Root left root) t = root_end left root t
  due_end (end.Tend parent page upkeep) t = tend_end parent page upkeep t
  due_end (end.Merge left removed merge) t = merge_end left removed merge t
  due_end (end.Unterm parent left removed unterm) t = unterm_end parent left removed unterm t

  pub treated : (new : WriteRound) (result : Option WriteEnd) → TreatsWrite old version new result → After old now r new result
  treated new None t = elim t [
    | inl right ↦ rw right.goes (aside right.right right.alive right.seeks right.finished right.leads)
    | inr (inl down) ↦ rw down.goes (below down.child down.here down.fine (let index = down.index in omega (arith, index)) down.leads)
    | inr (inr (inl merge)) ↦ rw merge.goes (back_to_merge merge.pid merge.left.goal merge.left.here.alive merge.beside)
    | inr (inr (inr cut)) ↦
        let over = rw cut.above at h.above in
        rw cut.goes (back_to_unterm cut.pid cut.left.goal cut.left.here.alive cut.parent over cut.term)
  ]
  treated new (Some end.Again) t = inr (record { pid = t.pid; goal = t.goal; version = version; page = alive_here t.here.alive; below = t.below })
  treated new (Some end.Done) t = elim t [ inl clean ↦ inl (clean_end clean) | inr (inl unmerged) ↦ inr (inl (unmerged_end unmerged)) | inr (inr uncut) ↦ inr (inr (uncut_end uncut)) ]
  treated new (Some (end.Removed removed)) t = rw t.is (gone_here t.gone)
  treated new (Some (end.Due plan after)) t = record { change = t.change; planned = t.planned; due = due_end t.change t.due }
  treated new (Some (end.Leaf parent leaf)) t = leaf_end parent leaf t
