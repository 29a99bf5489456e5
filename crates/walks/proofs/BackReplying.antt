-- What a page backward has replied.
use Rattle.walks.proofs.Words.{AreKeyPairs, BackPage, Bool, Entry, IsBackOf, IsBackShown, IsLinearized, IsOwnStep, IsPairsOf, IsPoint, IsShort, IsTrue, Limits}
use Rattle.walks.proofs.Words.{List, LivePage, Operation, Option, Reply, Some, Turn, and_left, ap, back_operation, begin_above, covers, false, high_in, inl}
use Rattle.walks.proofs.Words.{inr, is_below, is_under, key_after, key_before, log_at, logged_value, low_in, memory_at, not, not_true, own_before, pairs_from}
use Rattle.walks.proofs.Words.{place_from, refl, subst, sym, ℕ, ◌∙◌, ◌≡◌}
use Rattle.bw_model.specs.Replies.{command_key, reply_of}
use Rattle.bw_model.specs.declared.command.Command.TheVariants as command
use Rattle.bw_model.specs.declared.command.Reply.TheVariants as reply
use Rattle.linearization.specs.Answered.{FindsTidy, IsTrueReply, RepliesAtPoint, ShowsBack}
use Rattle.walks.proofs.BackCuts.{cut_from, goes_below}

-- a page backward with these pairs, at a point
pub record IsPagedBack (run : List Entry) (points : List Bool) (operation : Operation) (upto : List ℕ) (answer : Reply) : Type 0 where
  pub items : List (List ℕ × List ℕ)
  pub below : Option (List ℕ)
  pub is : answer ≡ reply.BackPage items below
  pub step : ℕ
  pub own : IsOwnStep run operation step
  pub point : IsPoint points step
  pub from : List ℕ
  pub short : IsShort from
  pub goes_on : key_before from ≡ below
  pub reached : is_below upto from ≡ false
  pub pairs : IsPairsOf (log_at run points step) from (Some (key_after upto)) items

module _ (limits : Limits) (run : List Entry) (points : List Bool) (operation : Operation) (upto : List ℕ) (asks : operation.command ≡ command.Back upto) where
  shown : (answer : Reply) (n : ℕ) → IsOwnStep run operation n → IsPoint points n
      → (page : ShowsBack (memory_at limits run n) (log_at run points n) operation.command answer) → IsPagedBack run points operation upto answer
  shown answer n own point page =
      let same : page.upto ≡ upto = upto_same (sym page.asks ∙ asks) in
      let leaf = page.page.leaf in record {
        items = page.items;
        below = page.next;
        is = page.is;
        step = n;
        own = own;
        point = point;
        from = low_in leaf.chain;
        short = page.page.short;
        goes_on = page.page.goes_on;
        reached = rw same at (covered page.upto leaf page.page.stands.covers);
        pairs = rw same at page.page.pairs;
      }
    where
      upto_same : {a b : List ℕ} → command.Back a ≡ command.Back b → a ≡ b
      upto_same e = cc

      -- the leaf that has the key begins at or below it
      covered : (key : List ℕ) (leaf : LivePage) → IsTrue (covers leaf.chain key) → is_below key (low_in leaf.chain) ≡ false
      covered key leaf has = not_true (is_below key (low_in leaf.chain))
          (and_left (not (is_below key (low_in leaf.chain))) (is_under key (high_in leaf.chain)) has)

  at_point : (answer : Reply) → RepliesAtPoint limits run points operation answer → IsPagedBack run points operation upto answer
  at_point answer (n, own, point, inl by_value) = absurd
      (let none = sym (ap (λ c. reply_of c (logged_value (log_at run points n) (command_key operation.command))) asks) ∙ by_value in cc)
  at_point answer (n, own, point, inr (inl page)) = absurd (let both = sym asks ∙ page.asks in cc)
  at_point answer (n, own, point, inr (inr back)) = shown answer n own point back

  not_tidy : FindsTidy limits run operation → ⊥
  not_tidy tidy = let both = sym asks ∙ tidy.asks in cc

  -- a true reply to a page backward is a page backward
  pub paged_back : (answer : Reply) → IsTrueReply limits run points operation answer → IsPagedBack run points operation upto answer
  paged_back reply.Full is = absurd (let never = rw asks at is.0 in cc)
  paged_back reply.Tidied is = absurd (not_tidy is)
  paged_back other is = at_point other is

-- what a page backward shows is the map's at its operation's point
pub back_is_shown : (limits : Limits) (turns : List Turn) (run : List Entry) (low : List ℕ) (page : BackPage) (linear : IsLinearized limits turns run)
    → IsBackOf run low page → IsBackShown run linear.points low page
back_is_shown limits turns run low page linear is =
    let p : IsPagedBack run linear.points (back_operation page) page.upto (reply.BackPage is.items is.below) =
    paged_back limits run linear.points (back_operation page) page.upto refl (reply.BackPage is.items is.below)
    (linear.answered.each (back_operation page) page.done (reply.BackPage is.items is.below) is.begins is.ends) in
    let same_items : is.items ≡ p.items = items_same p.is in
    let same_below : is.below ≡ p.below = below_same p.is in
    let next : page.next ≡ place_from low (key_before p.from) = is.next ∙ ap (place_from low) (same_below ∙ sym p.goes_on) in
    let pairs : page.pairs ≡ pairs_from low p.items = is.pairs ∙ ap (pairs_from low) same_items in
    let cut = cut_from (logged_value (log_at run linear.points p.step)) low p.from page.upto p.items p.short p.pairs in
    record {
      step = p.step;
      own = p.own;
      within = own_before limits run linear.run.run (back_operation page) page.done (reply.BackPage is.items is.below) is.ends p.step p.own;
      point = p.point;
      ahead = rw next (goes_below low p.from page.upto p.short p.reached (key_before p.from) refl);
      pairs = subst
          (λ (z : Option (List ℕ) × List (List ℕ × List ℕ)). AreKeyPairs (logged_value (log_at run linear.points p.step)) (begin_above low z.0)
          (Some (key_after page.upto)) z.1)
          (λ i. (sym next i, sym pairs i)) cut;
    }
  where
    items_same : {a b : List (List ℕ × List ℕ)} {x y : Option (List ℕ)} → reply.BackPage a x ≡ reply.BackPage b y → a ≡ b
    items_same e = cc

    below_same : {a b : List (List ℕ × List ℕ)} {x y : Option (List ℕ)} → reply.BackPage a x ≡ reply.BackPage b y → x ≡ y
    below_same e = cc
