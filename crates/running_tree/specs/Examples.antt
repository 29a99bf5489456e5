-- Entries of two actors, of which calls and counts are told. They are no run: nobody enters, reads or links anything.
use Rattle.std.specs.Prelude.{codes, ℕ, zero, suc, List, [], ◌∷◌, true, false, None, Some}
use Rattle.std.proofs.Common.{lit≤, refl}
use Rattle.tree_limits.specs.Limits.{AreLargeLimits, AreLimits, AreWidths}
use Rattle.tree_limits.specs.declared.limits.Limits.{Limits}
use Rattle.tree_limits.specs.declared.limits.TheConstants.{WIDE_WORDS}
use Rattle.bw_model.specs.declared.command.Command.TheVariants.{Get, Upsert, Delete}
use Rattle.bw_model.specs.declared.command.Reply.TheVariants as reply
use Rattle.bw_model.specs.declared.step.Answer.TheVariants.{Number, Whether, Done}
use Rattle.bw_model.specs.declared.step.Step.TheVariants.{Epoch, TakePid, Leave}
use Rattle.traces.specs.declared.trace.Entry.{Entry}
use Rattle.traces.specs.declared.trace.Entry.TheVariants.{Begin, Step}

-- Actor 0 gets "a", which is not there, while actor 1 begins to delete "b"; then actor 0 begins to set "a".
abbrev pub two_actors : List Entry
two_actors =
    Begin 0 (Get (codes "a"))
    ∷ Step 0 Epoch (Number 1) None
    ∷ Begin 1 (Delete (codes "b"))
    ∷ Step 0 Leave Done (Some reply.None)
    ∷ Step 1 Epoch (Number 1) None
    ∷ Begin 0 (Upsert (codes "a") (codes "1"))
    ∷ Step 0 Epoch (Number 1) None
    ∷ []

pub are_two_words : AreLimits 2 128 64 1
are_two_words = record {
  some_actor = lit≤ tt;
  few_actors = lit≤ tt;
  some_pids = lit≤ tt;
  few_pids = lit≤ tt;
  whole_pids = refl;
  some_rows = lit≤ tt;
  few_rows = lit≤ tt;
  whole_rows = refl;
  some_epoch = lit≤ tt;
  small_epoch = lit≤ tt;
}

pub two_words_allowed : AreLargeLimits 2 128 64 1
two_words_allowed = record {
  some_actor = are_two_words.some_actor;
  few_actors = lit≤ tt;
  some_pids = are_two_words.some_pids;
  few_pids = lit≤ tt;
  whole_pids = are_two_words.whole_pids;
  some_rows = are_two_words.some_rows;
  few_rows = lit≤ tt;
  whole_rows = are_two_words.whole_rows;
  some_epoch = are_two_words.some_epoch;
  small_epoch = are_two_words.small_epoch;
}

pub two_words_widths : AreWidths 64 0 0 WIDE_WORDS WIDE_WORDS
two_words_widths = record {
  whole_narrow = refl;
  whole_pages = refl;
  ordered = lit≤ tt;
  some_wide = lit≤ tt;
  narrow_room = lit≤ tt;
  page_room = lit≤ tt;
  widening = lit≤ tt;
  fitting = lit≤ tt;
}

-- limits of a tree with two words of PIDs
abbrev pub two_words : Limits
two_words = record {
  actors = 2;
  pids = 128;
  rows = 64;
  epoch = 1;
  is_large = false;
  narrow_rows = 0;
  wide_from = 0;
  narrow_words = WIDE_WORDS;
  page_words = WIDE_WORDS;
  allowed = two_words_allowed;
  small = λ _. are_two_words;
  widths = two_words_widths;
  alike = λ _. record { narrow = refl; pages = refl };
}

-- One reads the first word of free PIDs; then another takes a PID of each word; then the one reads the second word.
abbrev pub read_between : ℕ → List Entry
read_between zero = []
read_between (suc word) = Step 1 (TakePid 2) (Whether true) None ∷ Step 1 (TakePid 64) (Whether true) None ∷ []
