-- A lookup beside a removed leaf is a reader's run.
use Rattle.progress.proofs.Words.{◌≡◌, ◌<◌, ℕ, List, [], ◌∷◌, true, false, Option, None, Some, refl, sym, ap, subst, ◌∙◌, inl, inr, IsSome, is_some, Limits, Answer, next_row, Record}
use Rattle.progress.proofs.Words.{content_in, high_in, IsAnswer, Version, ReadEnd, Beside, Removed, ReadGoal, Seek, Left, Down, LeadsDown, reaches, first_read, read_left_of, AfterReading}
use Rattle.progress.proofs.Words.{Leave, Read, State, IsReaderRun, ReadsIn, last_round, is_below, Number, Content, Page, Root, ReadRound, TreatsRead, left_of, read_way, reading, wanted_step}
use Rattle.progress.proofs.Words.{Responds, Row, Slot, Visit, Whole, to_page, small}
use Rattle.std.proofs.Common.{lit≤}
use Rattle.std.specs.Prelude.{codes}
use Rattle.std.specs.Ordering.{is_eq}
use Rattle.bw_model.specs.Bytes.{key_cmp}
use Rattle.bw_model.specs.declared.command.Reply.TheVariants as reply
use Rattle.round_model.specs.Descents.{Descent}
use Rattle.linearization.specs.Examples.{hold_leaf, new_leaf, opening_leaf, remove_leaf, root, split_away}
use Rattle.tree_law.proofs.shape.KeyOrder.{by_key}
use Rattle.progress.specs.RoundExample.{beside_removal, get_x, lookup_rounds, removed_read, root_read, round_at, wrong_rounds}

-- slot 0 is read
begins : (goal : ReadGoal) → ReadsIn beside_removal get_x (record { limits = small; key = codes "x"; goal = goal; leg = Down None; state = Root }) (Read (round_at goal None 3 [] Slot))
begins goal = record {
  answer = Number 3;
  told = refl;
  steps = record {
    next = round_at goal None 3 [] Slot;
    end = None;
    responds = inl (record { on = inl (record { root = 3; asked = refl; is = refl; goes = refl }); same = refl; none = refl });
    same = record { limits = refl; key = refl };
    goes = refl;
  };
}

-- the slot of a page is read
heads : (goal : ReadGoal) (above : Option Version) (pid row : ℕ) → IsAnswer beside_removal (wanted_step (round_at goal above pid [] Slot)) (Number row) → 0 < row
    → ReadsIn beside_removal get_x (round_at goal above pid [] Slot) (Read (round_at goal above pid [] (Row row row)))
heads goal above pid row told some = record {
  answer = Number row;
  told = told;
  steps = record {
    next = round_at goal above pid [] (Row row row);
    end = None;
    responds = inl (record {
      on = inr (record {
        visit = record { limits = small; pid = pid; part = []; state = Slot };
        next = record { limits = small; pid = pid; part = []; state = Row row row };
        asked = refl;
        responds = inl (record { row = row; asked = refl; is = refl; some = some; goes = refl });
        goes = refl;
      });
      same = refl;
      none = refl;
    });
    same = record { limits = refl; key = refl };
    goes = refl;
  };
}

-- a delta is read
deltas : (goal : ReadGoal) (above : Option Version) (pid row under : ℕ) (content : Record)
    → IsAnswer beside_removal (wanted_step (round_at goal above pid [] (Row row row))) (Content content) → next_row content ≡ Some under
    → ReadsIn beside_removal get_x (round_at goal above pid [] (Row row row)) (Read (round_at goal above pid (content ∷ []) (Row row under)))
deltas goal above pid row under content told more = record {
  answer = Content content;
  told = told;
  steps = record {
    next = round_at goal above pid (content ∷ []) (Row row under);
    end = None;
    responds = inl (record {
      on = inr (record {
        visit = record { limits = small; pid = pid; part = []; state = Row row row };
        next = record { limits = small; pid = pid; part = content ∷ []; state = Row row under };
        asked = refl;
        responds = inr (record { head = row; row = row; content = content; under = under; asked = refl; is = refl; more = more; goes = refl });
        goes = refl;
      });
      same = refl;
      none = refl;
    });
    same = record { limits = refl; key = refl };
    goes = refl;
  };
}

-- the base is read, and the page is whole
wholes : (goal : ReadGoal) (above : Option Version) (version : Version) (row : ℕ) (newest content : Record) (next : ReadRound) (end : Option ReadEnd) (new : State)
    → version.chain ≡ newest ∷ content ∷ []
    → IsAnswer beside_removal (wanted_step (round_at goal above version.pid (newest ∷ []) (Row version.head row))) (Content content) → next_row content ≡ None
    → TreatsRead (round_at goal above version.pid (newest ∷ []) (Row version.head row)) version next end
    → next.limits ≡ small → next.key ≡ codes "x" → AfterReading get_x next end new → ReadsIn beside_removal get_x (round_at goal above version.pid (newest ∷ []) (Row version.head row)) new
wholes goal above version row newest content next end new chain told last treats limits key goes = record {
  answer = Content content;
  told = told;
  steps = record {
    next = next;
    end = end;
    responds = inr (record {
      sight = Whole version;
      finds = record {
        visit = visit;
        next = visit;
        asked = refl;
        responds = record { row = row; content = content; asked = refl; is = refl; last = last; pid = refl; chain = chain };
      };
      sees = treats;
    });
    same = record { limits = limits; key = key };
    goes = goes;
  };
}
  where
    visit : Visit
    visit = record { limits = small; pid = version.pid; part = newest ∷ []; state = Row version.head row }

pid_of : (limits : Limits) (a b : ℕ) → Page (to_page limits a) ≡ Page (to_page limits b) → a ≡ b
pid_of limits a b e = let visits : to_page limits a ≡ to_page limits b = cc in ap (λ (v : Visit). v.pid) visits

-- the root has terms at the empty key and at "m" alone
terms : (P : List ℕ → Type 0) (key : List ℕ) → IsSome (content_in root_read.chain key) → P [] → P (codes "m") → P key
terms P key some low middle = by_key key (codes "m")
    (λ same test. subst P (sym same) middle)
    (λ apart test. by_key key [] (λ same empty. subst P (sym same) low) (λ other empty. absurd (none test empty)))
  where
    none : is_eq (key_cmp key (codes "m")) ≡ false → is_eq (key_cmp key []) ≡ false → ⊥
    none test empty = let is : is_some (content_in root_read.chain key) ≡ false = rw (test, empty) refl in let both : true ≡ false = sym some ∙ is in cc

down_to_removed : LeadsDown (reaches (codes "x")) root_read.chain 2
down_to_removed = record {
  low = codes "m";
  held = true;
  covered = refl;
  greatest = record { has = refl; passing = refl; greatest = λ other pass some. terms (λ key. is_below (codes "m") key ≡ false) other some refl refl };
}

down_to_left : LeadsDown (left_of removed_read) root_read.chain 1
down_to_left = record {
  low = [];
  held = false;
  covered = refl;
  greatest = record
      { has = refl; passing = refl; greatest = λ other pass some. terms (λ key. left_of removed_read key ≡ true → is_below [] key ≡ false) other some (λ e. refl) (λ e. absurd (cc e)) pass };
}

no_high : {X : Type 0} (high : List ℕ) → high_in root_read.chain ≡ Some high → X
no_high high e = let none : None ≡ Some high = e in absurd (cc)

-- the root leads down
root_whole : (goal : ReadGoal) (next : ℕ) → LeadsDown (read_way goal (codes "x")) root_read.chain next
    → ReadsIn beside_removal get_x (round_at goal None 3 (hold_leaf ∷ []) (Row 5 4)) (Read (round_at goal (Some root_read) next [] Slot))
root_whole goal next leads =
    wholes goal None root_read 4 hold_leaf root (round_at goal (Some root_read) next [] Slot) None (Read (round_at goal (Some root_read) next [] Slot)) refl (root, refl, refl) refl
    (inr (inl (record { plain = tt; alive = refl; stays = record { off = λ high e. no_high high e }; index = lit≤ tt; next = next; leads = leads; goes = refl }))) refl refl refl

removed_whole : ReadsIn beside_removal get_x (round_at Seek (Some root_read) 2 (remove_leaf ∷ []) (Row 6 2)) (Read (read_left_of removed_read (first_read get_x)))
removed_whole =
    wholes Seek (Some root_read) removed_read 2 remove_leaf new_leaf (first_read get_x) (Some (Removed removed_read))
    (Read (read_left_of removed_read (first_read get_x))) refl (new_leaf, refl, refl) refl
    (record { is = refl; plain = tt; gone = refl; leaf = refl }) refl refl refl

-- to a leaf, and the reading of its delta
to_root : (goal : ReadGoal) (next : ℕ) (rounds : List ReadRound) → LeadsDown (read_way goal (codes "x")) root_read.chain next
    → IsReaderRun beside_removal get_x (round_at goal (Some root_read) next [] Slot) rounds
    → IsReaderRun beside_removal get_x (record { limits = small; key = codes "x"; goal = goal; leg = Down None; state = Root })
    (round_at goal None 3 [] Slot ∷ round_at goal None 3 [] (Row 5 5) ∷ round_at goal None 3 (hold_leaf ∷ []) (Row 5 4) ∷ round_at goal (Some root_read) next [] Slot ∷ rounds)
to_root goal next rounds leads rest = (begins goal, (heads goal None 3 5 refl (lit≤ tt), (deltas goal None 3 5 4 hold_leaf (hold_leaf, refl, refl) refl, (root_whole goal next leads, rest))))

-- the rounds from the leaves on
abbrev at_left : List ReadRound
at_left = round_at (Left removed_read) (Some root_read) 1 [] (Row 3 3) ∷ round_at (Left removed_read) (Some root_read) 1 (split_away ∷ []) (Row 3 1) ∷ []

abbrev at_removed : List ReadRound
at_removed = round_at Seek (Some root_read) 2 [] (Row 6 6)
    ∷ round_at Seek (Some root_read) 2 (remove_leaf ∷ []) (Row 6 2)
    ∷ read_left_of removed_read (first_read get_x)
    ∷ round_at (Left removed_read) None 3 [] Slot
    ∷ round_at (Left removed_read) None 3 [] (Row 5 5)
    ∷ round_at (Left removed_read) None 3 (hold_leaf ∷ []) (Row 5 4)
    ∷ round_at (Left removed_read) (Some root_read) 1 [] Slot
    ∷ at_left

left_runs : IsReaderRun beside_removal get_x (round_at (Left removed_read) (Some root_read) 1 [] Slot) at_left
left_runs = (heads (Left removed_read) (Some root_read) 1 3 refl (lit≤ tt), (deltas (Left removed_read) (Some root_read) 1 3 1 split_away (split_away, refl, refl) refl, tt))

removed_runs : IsReaderRun beside_removal get_x (round_at Seek (Some root_read) 2 [] Slot) at_removed
removed_runs = (
  heads Seek (Some root_read) 2 6 refl (lit≤ tt),
  (deltas Seek (Some root_read) 2 6 2 remove_leaf (remove_leaf, refl, refl) refl, (removed_whole, to_root (Left removed_read) 1 at_left down_to_left left_runs)),
)

pub lookup_runs : IsReaderRun beside_removal get_x (first_read get_x) lookup_rounds
lookup_runs = to_root Seek 2 at_removed down_to_removed removed_runs

-- the leaf to the left of the removed one
abbrev left_read : Version
left_read = record { pid = 1; head = 3; chain = split_away ∷ opening_leaf ∷ []; is_pid = (lit≤ tt, lit≤ tt); is_row = (lit≤ tt, lit≤ tt) }

left_whole : ReadsIn beside_removal get_x (round_at (Left removed_read) (Some root_read) 1 (split_away ∷ []) (Row 3 1)) (Leave reply.None None)
left_whole =
    wholes (Left removed_read) (Some root_read) left_read 1 split_away opening_leaf (first_read get_x) (Some (Beside left_read removed_read))
    (Leave reply.None None) refl (opening_leaf, refl, refl) refl
    (record {
      is = refl;
      at_left = record
          { plain = tt; goal = refl; alive = refl; ends = record { leaf = refl; stays = record { off = λ high e. off high e } } };
      beside = refl;
      stays = record
          { off = λ high e. none high e };
    }) refl refl refl
  where
    off : (high : List ℕ) → Some (codes "m") ≡ Some high → left_of removed_read high ≡ false
    off high e = let same : codes "m" ≡ high = cc in rw (← same) refl

    none : (high : List ℕ) → high_in removed_read.chain ≡ Some high → reaches (codes "x") high ≡ false
    none high e = let absent : None ≡ Some high = e in absurd (cc)

-- there it is to leave
pub lookup_leaves : ReadsIn beside_removal get_x (last_round (first_read get_x) lookup_rounds) (Leave reply.None None)
lookup_leaves = left_whole

-- slot 0 has the root
pub goes_by_root : ¬ IsReaderRun beside_removal get_x (first_read get_x) wrong_rounds
goes_by_root run = by_response run.0.steps.responds run.0.steps.goes
  where
    two : (told : Answer Record) (root : ℕ) → told ≡ Number 3 → told ≡ Number root → root ≡ 3
    two told root e f = let both : Number 3 ≡ Number root = sym e ∙ f in cc

    at_three : (end : Option ReadEnd) (next : ReadRound) (root : ℕ) → root ≡ 3 → next.state ≡ Page (to_page small root) → end ≡ None
        → AfterReading get_x next end (Read (round_at Seek None 1 [] Slot)) → ⊥
    at_three None next root is state none goes =
        let same : next ≡ round_at Seek None 1 [] Slot = (let both : Read (round_at Seek None 1 [] Slot) ≡ Read next = goes in cc) in
        let states : Page (to_page small root) ≡ Page (to_page small 1) = sym state ∙ ap (λ (r : ReadRound). r.state) same in
        let pids : root ≡ 1 = pid_of small root 1 states in
        cc
    at_three (Some end) next root is state none goes = cc

    by_response : Responds reading (first_read get_x) run.0.answer run.0.steps.next run.0.steps.end → AfterReading get_x run.0.steps.next run.0.steps.end (Read (round_at Seek None 1 [] Slot)) → ⊥
    by_response (inl way) goes = elim way.on [
      | inl b ↦ at_three run.0.steps.end run.0.steps.next b.root (two run.0.answer b.root run.0.told b.is) (ap (λ (d : Descent). d.state) b.goes) way.none goes
      | inr b ↦ (let asked : Root ≡ Page b.visit = b.asked in cc)
    ]
    by_response (inr from) goes = let asked : Root ≡ Page from.finds.visit = from.finds.asked in cc
