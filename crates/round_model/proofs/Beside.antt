-- Where a round goes on beside a removed page: to a page that this one names, once the page to its left was read after it.
use Rattle.round_model.proofs.Words.{◌≡◌, ◌≢◌, ◌<◌, ◌⊎◌, inl, inr, ℕ, List, [], ◌∷◌, false, Some, refl, sym, ◌∙◌, arith, IsTrue, AllByRecursion, Limits, is_below, Record, IsChainFrom}
use Rattle.round_model.proofs.Words.{high_in, is_removed, level_in, low_in, right_in, SaysOf, Knowledge, IsUnread, Recalled, IsAfter, Version, IsGone, IsInHand, to_page, HasArrived, IsOnWay}
use Rattle.round_model.proofs.Words.{IsPast, IsPastAt, NamesAt}
use Rattle.traces.specs.discipline.Discipline.{IsBeyond, NamesChild}
use Rattle.round_model.proofs.Holding.{has_read}
use Rattle.round_model.proofs.PageLaws.{spans}
use Rattle.round_model.proofs.Seeking.{hand}
use Rattle.round_model.proofs.Walking.{all_past, never_there, past_on, told_of, trail_on, trans}

-- The removed page was read before this one, which begins to its left, isn't removed, and has it as its right.
pub record IsBesideGone (limits : Limits) (k now : Knowledge) (removed version : Version) : Type 0 where
  pub known : IsInHand limits k removed
  pub gone : IsGone limits now removed
  pub before : IsAfter k removed version
  pub after : IsAfter now removed version
  pub left : IsTrue (is_below (low_in version.chain) (low_in removed.chain))
  pub alive : is_removed version.chain ≡ false
  pub right : right_in version.chain ≡ Some removed.pid

module _ (limits : Limits) (k now : Knowledge) (r : Recalled) (removed version : Version) (was_level : ℕ) (was_low : List ℕ) (earlier : List ℕ)
    (arrives : HasArrived limits k now r version was_level was_low earlier) (by : IsBesideGone limits k now removed version) where
  abbrev here : List Record
  here = version.chain

  pub says : (level_in removed.chain ≡ level_in here) × (high_in here ≡ Some (low_in removed.chain))
  says = (arrives.arrives.whole.names by.alive removed.pid removed.head removed.chain by.known.seen.head by.known.seen.read).right by.right

  module _ (pid : ℕ) (named : (right_in removed.chain ≡ Some pid) ⊎ NamesChild removed.chain pid) where
    abbrev known_before : IsBeyond k version.pid here pid
    known_before = record { removed = removed.pid; row = removed.head; chain = removed.chain; right = by.right; order = by.before; read = by.known.seen.read; gone = by.gone.gone; named = named }

    abbrev known_now : IsBeyond now version.pid here pid
    known_now = record { removed = removed.pid; row = removed.head; chain = removed.chain; right = by.right; order = by.after; read = by.gone.in_hand.seen.read; gone = by.gone.gone; named = named }

    pub within : (0 < pid) × (pid < limits.pids)
    within = let reach = arrives.arrives.whole.beyond by.alive pid known_before in let both : (0 < pid) × (pid < arrives.visit.limits.pids) = (reach.0, reach.1) in rw arrives.same at both

    -- what the removed page says of a page that was read is so
    pub says_before : (other row : ℕ) (read : List Record) → k.read.heads other ≡ Some row → IsChainFrom k.read.seen row read → SaysOf removed.chain other read
    says_before other row read = (arrives.arrives.whole.beyond by.alive pid known_before).3 other row read

    module _ (level : ℕ) (low : List ℕ) (names : NamesAt removed.chain pid level low) where
      descends_on : IsPastAt level low (level_in here) (low_in here)
      descends_on = elim names [
        | inl right ↦ inr (sym says.0 ∙ right.1, trans (low_in here) (low_in removed.chain) low by.left (spans removed.chain low by.gone.in_hand.sound.is_chain.fitted right.2))
        | inr child ↦ inl (let e = says.0 in let d = child.1 in omega (arith, e, d))
      ]

      apart_here : pid ≢ version.pid
      apart_here e =
          let so = told_of removed.chain version.pid here level low (arrives.arrives.whole.beyond by.alive pid known_before).2 (rw e at names) in
          never_there level (level_in here) low (low_in here) descends_on so.0 so.1

      new_others : (others : List ℕ) → level_in here ≡ was_level → AllByRecursion (IsPast k was_level was_low) others → IsUnread pid others
      new_others [] is past = tt
      new_others (other ∷ others) is past = (
        (λ e.
            let told = (arrives.arrives.whole.beyond by.alive pid known_before).3 other past.0.head past.0.chain past.0.in_slot past.0.read in
            let so = told_of removed.chain other past.0.chain level low told (rw e at names) in
            let before : IsPastAt (level_in here) (low_in here) (level_in past.0.chain) (low_in past.0.chain) = rw (is, arrives.is_low) past.0.past in
            never_there level (level_in past.0.chain) low (low_in past.0.chain)
            (past_on (level_in here) level (level_in past.0.chain) (low_in here) low (low_in past.0.chain) descends_on before) so.0 so.1),
        new_others others is past.1,
      )

      new_page : IsUnread pid (version.pid ∷ earlier)
      new_page = (apart_here, elim arrives.is_level [ inl first ↦ rw first tt | inr is ↦ new_others earlier is arrives.past ])

      pub beside_on : IsOnWay limits now r (to_page limits pid) level low (version.pid ∷ earlier)
      beside_on =
          let in_hand = hand limits k now r version was_level was_low earlier arrives in
          record {
            shows = record {
              inside = arrives.arrives.inside;
              page = within.0;
              below = within.1;
              head = tt;
              stands =
                  inr (record { other = version.pid; row = version.head; basis = has_read in_hand.seen by.alive; named = inr (inr known_now) });
            };
            same = refl;
            bare = refl;
            visited = trail_on r.walk here arrives.removed by.alive ∙ arrives.visited;
            recalled = arrives.recalled;
            expected = inr (inr (record { left = version; in_hand = in_hand; alive = by.alive; apart = λ e. apart_here (sym e); beyond = known_now; names = names }));
            distinct = (within.0, within.1, new_page, arrives.distinct);
            past = all_past limits k now r version was_level was_low earlier arrives level low descends_on;
            rooted = arrives.rooted;
            removed = tt;
            lowest = tt;
            kept = λ other none. absurd none;
          }
