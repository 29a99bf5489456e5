-- Laws of lines and of what they ask for.
use Rattle.std.proofs.Common.{◌≡◌, ℕ, ◌+◌, ◌<◌, List, [], ◌∷◌, ◌++◌, length, refl, sym, ap, ◌∙◌, arith, ◌==◌, Bool, true, false, All, subst}
use Rattle.std.proofs.lemmas.List.{append_assoc, append-nil}
use Rattle.std.proofs.lemmas.Bool.{eqb-true, eqb-false}
use Rattle.std.proofs.lemmas.Grind.{flat_map-append}
use Rattle.std.proofs.lemmas.List.Elements.{All-nil, All-cons}
use Rattle.std.specs.List.{AllByRecursion, flat_map}
use Rattle.shell_lines.specs.declared.race_line.JobCommand.{JobCommand}
use Rattle.shell_lines.specs.Request.{IsShortCommand}
use Rattle.shell_lines.specs.RaceLine.{SaysOfJob}
use Rattle.bw_shell.specs.Lines.{lines_of, with_newline, HasNoFeed, Splits}
use Rattle.bw_shell.specs.declared.refusal.Refusal.{Refusal}
use Rattle.race.specs.Asked.{AskFor, RefuseAt, RefusesJobLine}
use Rattle.race.specs.Looked.{AreLinesOf}
use Rattle.bw_shell.proofs.Feeding.{all_then}

-- ---- lines of bytes

-- bytes are whole lines and a part of one
some_split : (bytes : List ℕ) → (lines : List (List ℕ)) × (part : List ℕ) × Splits bytes lines part
some_split [] = ([], [], record { whole = refl; each = tt; open_end = tt })
some_split (b ∷ bs) = let rest = some_split bs in at (b == 10) refl rest.0 rest.1 rest.2
  where
    longer : (lines : List (List ℕ)) (part : List ℕ) → (b ≡ 10 → ⊥) → Splits bs lines part → (all : List (List ℕ)) × (last : List ℕ) × Splits (b ∷ bs) all last
    longer [] part other s = ([], b ∷ part, record { whole = ap (λ (l : List ℕ). b ∷ l) s.whole; each = tt; open_end = (other, s.open_end) })
    longer (l ∷ ls) part other s = ((b ∷ l) ∷ ls, part, record { whole = ap (λ (x : List ℕ). b ∷ x) s.whole; each = ((other, s.each.0), s.each.1); open_end = s.open_end })

    at : (is_feed : Bool) → (b == 10) ≡ is_feed → (lines : List (List ℕ)) (part : List ℕ) → Splits bs lines part → (all : List (List ℕ)) × (last : List ℕ) × Splits (b ∷ bs) all last
    at true is lines part s = ([] ∷ lines, part, record { whole = rw (eqb-true b 10 is) (ap (λ (x : List ℕ). 10 ∷ x) s.whole); each = (tt, s.each); open_end = s.open_end })
    at false is lines part s = longer lines part (eqb-false b 10 is) s

-- what the lines of bytes are
abbrev pub Whole : Type 0
Whole = (lines : List (List ℕ)) → AllByRecursion HasNoFeed lines → lines_of (flat_map with_newline lines) ≡ lines

abbrev pub Last : Type 0
Last = (lines : List (List ℕ)) (part : List ℕ) → AllByRecursion HasNoFeed lines → HasNoFeed part → 0 < length part → lines_of (flat_map with_newline lines ++ part) ≡ lines ++ part ∷ []

all_lines : Whole → Last → (bytes : List ℕ) (lines : List (List ℕ)) (part : List ℕ) → Splits bytes lines part → (rest : List (List ℕ)) × (lines_of bytes ≡ lines ++ rest)
all_lines whole last bytes lines [] s = ([], ap lines_of (s.whole ∙ append-nil (flat_map with_newline lines)) ∙ whole lines s.each ∙ sym (append-nil lines))
all_lines whole last bytes lines (b ∷ bs) s = ((b ∷ bs) ∷ [], ap lines_of s.whole ∙ last lines (b ∷ bs) s.each s.open_end (omega arith))

-- ---- the lines that are looked at so far

-- these lines stand in front, with their LF, and ask for this
pub record AreLooked (bytes : List ℕ) (done : List (List ℕ)) (rest : List ℕ) (asked : List JobCommand) : Type 0 where
  pub whole : bytes ≡ flat_map with_newline done ++ rest
  pub each : AllByRecursion HasNoFeed done
  pub asks : AskFor done asked

pub none_looked : (bytes : List ℕ) → AreLooked bytes [] bytes []
unfolding AskFor
none_looked bytes = record { whole = refl; each = tt; asks = refl }

pub ask_more : (done : List (List ℕ)) (asked : List JobCommand) (line : List ℕ) (own : List JobCommand) → AskFor done asked → AskFor (line ∷ []) own → AskFor (done ++ line ∷ []) (asked ++ own)
unfolding AskFor
ask_more [] asked line own h one = rw h one
ask_more ([] ∷ ls) asked line own h one = ask_more ls asked line own h one
ask_more ((b ∷ bs) ∷ ls) [] line own h one = absurd h
ask_more ((b ∷ bs) ∷ ls) (a ∷ more) line own h one = (h.0, h.1, ask_more ls more line own h.2 one)

one_more : (done : List (List ℕ)) (line behind : List ℕ) → flat_map with_newline done ++ (line ++ 10 ∷ behind) ≡ flat_map with_newline (done ++ line ∷ []) ++ behind
one_more done line behind =
    sym (
    ap (λ (l : List ℕ). l ++ behind) (flat_map-append with_newline done (line ∷ [])) ∙ append_assoc (flat_map with_newline done) (flat_map with_newline (line ∷ [])) behind
    ∙ ap (λ (l : List ℕ). flat_map with_newline done ++ l) (ap (λ (l : List ℕ). l ++ behind) (append-nil (line ++ 10 ∷ [])) ∙ append_assoc line (10 ∷ []) behind)
    )

pub more_looked : (bytes : List ℕ) (done : List (List ℕ)) (rest : List ℕ) (asked : List JobCommand) (line behind : List ℕ) (own : List JobCommand)
    → AreLooked bytes done rest asked → HasNoFeed line → rest ≡ line ++ 10 ∷ behind → AskFor (line ∷ []) own → AreLooked bytes (done ++ line ∷ []) behind (asked ++ own)
more_looked bytes done rest asked line behind own l clean is one = record {
  whole = l.whole ∙ ap (λ (x : List ℕ). flat_map with_newline done ++ x) is ∙ one_more done line behind;
  each = all_then HasNoFeed done (line ∷ []) l.each (clean, tt);
  asks = ask_more done asked line own l.asks one;
}

-- ---- refused lines

-- whether the input has ended or not, a line stands behind those
lines_with : Whole → Last → (bytes : List ℕ) (done : List (List ℕ)) (line behind : List ℕ) (ends : Bool) → AllByRecursion HasNoFeed done → HasNoFeed line
    → bytes ≡ flat_map with_newline (done ++ line ∷ []) ++ behind → (others : List (List ℕ)) × AreLinesOf bytes ends (done ++ line ∷ others)
lines_with whole last bytes done line behind ends each clean is = at ends
  where
    s : (lines : List (List ℕ)) × (part : List ℕ) × Splits behind lines part
    s = some_split behind

    all : Splits bytes ((done ++ line ∷ []) ++ s.0) s.1
    all = record {
      whole =
          is ∙ ap (λ (l : List ℕ). flat_map with_newline (done ++ line ∷ []) ++ l) s.2.whole
          ∙ sym (append_assoc (flat_map with_newline (done ++ line ∷ [])) (flat_map with_newline s.0) s.1)
          ∙ ap (λ (l : List ℕ). l ++ s.1) (sym (flat_map-append with_newline (done ++ line ∷ []) s.0));
      each = all_then HasNoFeed (done ++ line ∷ []) s.0 (all_then HasNoFeed done (line ∷ []) each (clean, tt)) s.2.each;
      open_end = s.2.open_end;
    }

    at : (flag : Bool) → (others : List (List ℕ)) × AreLinesOf bytes flag (done ++ line ∷ others)
    at true =
        let rest = all_lines whole last bytes ((done ++ line ∷ []) ++ s.0) s.1 all in (
          s.0 ++ rest.0,
          sym (rest.1 ∙ append_assoc (done ++ line ∷ []) s.0 rest.0 ∙ append_assoc done (line ∷ []) (s.0 ++ rest.0)),
        )
    at false = (s.0, (s.1, subst (λ (l : List (List ℕ)). Splits bytes l s.1) (append_assoc done (line ∷ []) s.0) all))

pub refused_line : Whole → Last → (bytes : List ℕ) (done : List (List ℕ)) (rest : List ℕ) (asked : List JobCommand) (line behind : List ℕ) (ends : Bool) (number : ℕ) (why : Refusal)
    → AreLooked bytes done rest asked → HasNoFeed line → rest ≡ line ++ 10 ∷ behind → number ≡ length done + 1 → 0 < length line → RefusesJobLine line why
    → (lines : List (List ℕ)) × AreLinesOf bytes ends lines × RefuseAt lines number why
refused_line whole last bytes done rest asked line behind ends number why l clean is count some refuses =
    let w = lines_with whole last bytes done line behind ends l.each clean (l.whole ∙ ap (λ (x : List ℕ). flat_map with_newline done ++ x) is ∙ one_more done line behind) in
    (done ++ line ∷ w.0, w.1, (done, line, w.0, refl, (asked, l.asks), count, some, refuses))

-- ---- the end of the bytes

-- it has ended: the rest is the last line
pub last_looked : Whole → Last → (bytes : List ℕ) (done : List (List ℕ)) (rest : List ℕ) (asked own : List JobCommand) → AreLooked bytes done rest asked → HasNoFeed rest → AskFor (rest ∷ []) own
    → (lines : List (List ℕ)) × AreLinesOf bytes true lines × AskFor lines (asked ++ own)
unfolding AskFor
last_looked whole last bytes done [] asked own l clean one =
    (done, sym (ap lines_of (l.whole ∙ append-nil (flat_map with_newline done)) ∙ whole done l.each), rw (one, append-nil) l.asks)
last_looked whole last bytes done (b ∷ bs) asked own l clean one =
    (done ++ (b ∷ bs) ∷ [], sym (ap lines_of l.whole ∙ last done (b ∷ bs) l.each clean (omega arith)), ask_more done asked (b ∷ bs) own l.asks one)

pub last_refused : Last → (bytes : List ℕ) (done : List (List ℕ)) (rest : List ℕ) (asked : List JobCommand) (number : ℕ) (why : Refusal)
    → AreLooked bytes done rest asked → HasNoFeed rest → number ≡ length done + 1 → 0 < length rest → RefusesJobLine rest why
    → (lines : List (List ℕ)) × AreLinesOf bytes true lines × RefuseAt lines number why
last_refused last bytes done rest asked number why l clean count some refuses =
    (done ++ rest ∷ [], sym (ap lines_of l.whole ∙ last done rest l.each clean some), (done, rest, [], refl, (asked, l.asks), count, some, refuses))

-- ---- one line

pub no_command : (line : List ℕ) → length line ≡ 0 → AskFor (line ∷ []) []
unfolding AskFor
no_command [] h = refl
no_command (b ∷ bs) h = absurd (omega arith)

pub one_command : (line : List ℕ) (asks : JobCommand) → 0 < length line → SaysOfJob line asks → IsShortCommand asks.command → AskFor (line ∷ []) (asks ∷ [])
unfolding AskFor
one_command [] asks some says short = absurd (omega arith)
one_command (b ∷ bs) asks some says short = (says, short, refl)

-- job numbers are below 4,096
pub all_low : (lines : List (List ℕ)) (asked : List JobCommand) → AskFor lines asked → All (λ (asks : JobCommand). asks.job < 4096) asked
unfolding AskFor
all_low [] asked h = rw h (All-nil (λ (asks : JobCommand). asks.job < 4096))
all_low ([] ∷ ls) asked h = all_low ls asked h
all_low ((b ∷ bs) ∷ ls) [] h = absurd h
all_low ((b ∷ bs) ∷ ls) (a ∷ more) h = All-cons (λ (asks : JobCommand). asks.job < 4096) a more h.0.5 (all_low ls more h.2)
