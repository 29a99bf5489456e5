-- What a cursor page has replied.
use Rattle.walks.proofs.Words.{Bool, Entry, IsLinearized, IsOwnStep, IsPageOf, IsPageShown, IsPairsOf, IsPoint, IsTrue, Limits, List, LivePage, None, Operation}
use Rattle.walks.proofs.Words.{Option, Reply, Some, Turn, WalkedPage, and_right, ap, covers, either, end_under, high_in, inl, inr, is_below, is_under, log_at}
use Rattle.walks.proofs.Words.{logged_value, low_in, memory_at, not, own_before, page_operation, pairs_under, place_under, refl, subst, sym, true, ℕ, ◌∙◌, ◌≡◌}
use Rattle.bw_model.specs.Replies.{command_key, reply_of}
use Rattle.bw_model.specs.declared.command.Command.TheVariants as command
use Rattle.bw_model.specs.declared.command.Reply.TheVariants as reply
use Rattle.linearization.specs.Answered.{FindsTidy, IsTrueReply, RepliesAtPoint, ShowsPage}
use Rattle.walks.proofs.Cuts.{cut_pairs}

-- a cursor page with these pairs, at a point
pub record IsPaged (run : List Entry) (points : List Bool) (operation : Operation) (from : List ℕ) (answer : Reply) : Type 0 where
  pub items : List (List ℕ × List ℕ)
  pub high : Option (List ℕ)
  pub is : answer ≡ reply.Page items high
  pub step : ℕ
  pub own : IsOwnStep run operation step
  pub point : IsPoint points step
  pub ahead : is_under from high ≡ true
  pub pairs : IsPairsOf (log_at run points step) from high items

module _ (limits : Limits) (run : List Entry) (points : List Bool) (operation : Operation) (from : List ℕ) (asks : operation.command ≡ command.Page from) where
  shown : (answer : Reply) (n : ℕ) → IsOwnStep run operation n → IsPoint points n
      → (page : ShowsPage (memory_at limits run n) (log_at run points n) operation.command answer) → IsPaged run points operation from answer
  shown answer n own point page =
      let same : page.from ≡ from = from_same (sym page.asks ∙ asks) in record {
        items = page.items;
        high = page.next;
        is = page.is;
        step = n;
        own = own;
        point = point;
        ahead = rw same at (covered page.from page.next page.page.leaf page.page.ends page.page.stands.covers);
        pairs = rw same at page.page.pairs;
      }
    where
      from_same : {a b : List ℕ} → command.Page a ≡ command.Page b → a ≡ b
      from_same e = cc

      -- the leaf that has the key ends above it
      covered : (key : List ℕ) (high : Option (List ℕ)) (leaf : LivePage) → high_in leaf.chain ≡ high → IsTrue (covers leaf.chain key) → is_under key high ≡ true
      covered key high leaf ends has = rw ends at (and_right (not (is_below key (low_in leaf.chain))) (is_under key (high_in leaf.chain)) has)

  at_point : (answer : Reply) → RepliesAtPoint limits run points operation answer → IsPaged run points operation from answer
  at_point answer (n, own, point, inl by_value) = absurd (let none = sym (ap (λ c. reply_of c (logged_value (log_at run points n) (command_key operation.command))) asks) ∙ by_value in cc)
  at_point answer (n, own, point, inr (inl page)) = shown answer n own point page
  at_point answer (n, own, point, inr (inr back)) = absurd (let both = sym asks ∙ back.asks in cc)

  not_tidy : FindsTidy limits run operation → ⊥
  not_tidy tidy = let both = sym asks ∙ tidy.asks in cc

  -- a true reply to a cursor page is a cursor page
  pub paged : (answer : Reply) → IsTrueReply limits run points operation answer → IsPaged run points operation from answer
  paged reply.Full is = absurd (let never = rw asks at is.0 in cc)
  paged reply.Tidied is = absurd (not_tidy is)
  paged other is = at_point other is

-- what a page shows is the map's at its operation's point
pub page_is_shown : (limits : Limits) (turns : List Turn) (run : List Entry) (bound : Option (List ℕ)) (page : WalkedPage) (linear : IsLinearized limits turns run)
    → IsPageOf run bound page → IsPageShown run linear.points bound page
page_is_shown limits turns run bound page linear is =
    let p : IsPaged run linear.points (page_operation page) page.from (reply.Page is.items is.high) =
    paged limits run linear.points (page_operation page) page.from refl (reply.Page is.items is.high)
    (linear.answered.each (page_operation page) page.done (reply.Page is.items is.high) is.begins is.ends) in
    let same_items : is.items ≡ p.items = items_same p.is in
    let same_high : is.high ≡ p.high = high_same p.is in
    let cut = cut_pairs (logged_value (log_at run linear.points p.step)) page.from p.high bound p.items p.pairs in
    record {
      step = p.step;
      own = p.own;
      within = own_before limits run linear.run.run (page_operation page) page.done (reply.Page is.items is.high) is.ends p.step p.own;
      point = p.point;
      ahead = rw (is.next ∙ ap (place_under bound) same_high) (goes_ahead p.high p.ahead);
      pairs = subst (λ (z : Option (List ℕ) × List (List ℕ × List ℕ)). IsPairsOf (log_at run linear.points p.step) page.from (end_under bound z.0) z.1)
          (λ i. (sym (is.next ∙ ap (place_under bound) same_high) i, sym (is.pairs ∙ ap (pairs_under bound) same_items) i)) cut;
    }
  where
    goes_ahead : (high : Option (List ℕ)) → is_under page.from high ≡ true → is_under page.from (place_under bound high) ≡ true
    goes_ahead None up = refl
    goes_ahead (Some high) up = either (is_under high bound) (λ within. rw within up) (λ past. rw past refl)

    items_same : {a b : List (List ℕ × List ℕ)} {x y : Option (List ℕ)} → reply.Page a x ≡ reply.Page b y → a ≡ b
    items_same e = cc

    high_same : {a b : List (List ℕ × List ℕ)} {x y : Option (List ℕ)} → reply.Page a x ≡ reply.Page b y → x ≡ y
    high_same e = cc
