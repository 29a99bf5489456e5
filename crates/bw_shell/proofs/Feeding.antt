-- Laws of lines, and of what is run of them.
use Rattle.std.proofs.Common.{◌≡◌, ◌≢◌, ℕ, ◌+◌, ◌<◌, List, [], ◌∷◌, ◌++◌, length, refl, sym, ap, ◌∙◌, arith, inl, Bool, true, false, Option, Some, None}
use Rattle.std.proofs.Common.{◌⊎◌, length-append, take, drop, get_or, subst, inr, MatchBool}
use Rattle.std.proofs.lemmas.List.{append_assoc, append-nil, take-append-drop, drop_more, take_more}
use Rattle.std.proofs.lemmas.Bool.{ne_eqb}
use Rattle.std.proofs.lemmas.Grind.{flat_map-append}
use Rattle.std.specs.List.{AllByRecursion, flat_map}
use Rattle.byte_streams.specs.Output.{Prints, Sink}
use Rattle.shell_lines.specs.declared.request.Language.{Language}
use Rattle.bw_shell.specs.Turns.{Trace}
use Rattle.bw_shell.specs.Lines.{lines_of, HasNoFeed, with_newline}
use Rattle.bw_shell.specs.declared.refusal.Refusal.TheVariants.{Malformed}
use Rattle.bw_shell.specs.declared.refusal.RefusedLine.{RefusedLine}
use Rattle.bw_shell.specs.Transcript.{Transcript}
use Rattle.bw_shell.specs.Weave.{Weaves, StopsAmong}
use Rattle.bw_shell.proofs.Transcripts.{transcript_then, refused, refused_at}

pub all_then : {A : Type 0} (P : A → Type 0) (xs ys : List A) → AllByRecursion P xs → AllByRecursion P ys → AllByRecursion P (xs ++ ys)
all_then P [] ys p q = q
all_then P (x ∷ xs) ys p q = (p.0, all_then P xs ys p.1 q)

-- ---- lines

-- a line without LF stands in front
line_front : (x : List ℕ) (rest : List ℕ) → HasNoFeed x → lines_of (x ++ 10 ∷ rest) ≡ x ∷ lines_of rest
line_front [] rest h = refl
line_front (b ∷ bs) rest h = rw (ne_eqb b 10 h.0, line_front bs rest h.1) refl

pub lines_whole : (lines : List (List ℕ)) (rest : List ℕ) → AllByRecursion HasNoFeed lines → lines_of (flat_map with_newline lines ++ rest) ≡ lines ++ lines_of rest
lines_whole [] rest h = refl
lines_whole (x ∷ xs) rest h =
    let e : flat_map with_newline (x ∷ xs) ++ rest ≡ x ++ 10 ∷ (flat_map with_newline xs ++ rest)
    = append_assoc (x ++ 10 ∷ []) (flat_map with_newline xs) rest ∙ append_assoc x (10 ∷ []) (flat_map with_newline xs ++ rest) in
    ap lines_of e ∙ line_front x (flat_map with_newline xs ++ rest) h.0 ∙ ap (λ (l : List (List ℕ)). x ∷ l) (lines_whole xs rest h.1)

-- what has no LF is a front of one line
line_open : (b : ℕ) (bs rest : List ℕ) → HasNoFeed (b ∷ bs) → (first : List ℕ) × (others : List (List ℕ)) × (lines_of ((b ∷ bs) ++ rest) ≡ ((b ∷ bs) ++ first) ∷ others)
line_open b [] rest h = at (lines_of rest) refl
  where
    at : (ls : List (List ℕ)) → lines_of rest ≡ ls → (first : List ℕ) × (others : List (List ℕ)) × (lines_of ((b ∷ []) ++ rest) ≡ ((b ∷ []) ++ first) ∷ others)
    at [] e = ([], [], rw (ne_eqb b 10 h.0, e) refl)
    at (l ∷ ls) e = (l, ls, rw (ne_eqb b 10 h.0, e) refl)
line_open b (x ∷ xs) rest h =
    let ih = line_open x xs rest h.1 in
    (ih.0, ih.1, rw (ne_eqb b 10 h.0, ih.2) refl)

-- the last line may lack its LF
pub line_last : (x : List ℕ) → HasNoFeed x → 0 < length x → lines_of x ≡ x ∷ []
line_last [] h some = absurd (omega arith)
line_last (b ∷ []) h some = rw (ne_eqb b 10 h.0) refl
line_last (b ∷ c ∷ bs) h some = rw (ne_eqb b 10 h.0, line_last (c ∷ bs) h.1 (omega arith)) refl

-- ---- steps

pub one_line : {language : Language} (n : ℕ) (m : Trace) (q : List ℕ) (after : Trace) (u : List ℕ) → HasNoFeed q → Transcript language n m (q ∷ []) after u None
    → Weaves language n m q (10 ∷ []) (n + 1) after [] u
one_line n m q after u h t = record {
  lines = q ∷ [];
  splits = record { whole = sym (append-nil (q ++ 10 ∷ [])) ∙ sym (append-nil ((q ++ 10 ∷ []) ++ [])); each = (h, tt); open_end = tt };
  says = t;
  count = refl;
}

pub one_byte : {language : Language} (n : ℕ) (m : Trace) (q : List ℕ) (b : ℕ) → HasNoFeed q → (b ≡ 10 → ⊥) → Weaves language n m q (b ∷ []) n m (q ++ b ∷ []) []
unfolding Transcript
one_byte n m q b h other = record {
  lines = [];
  splits = record { whole = refl; each = tt; open_end = all_then (λ x. x ≢ 10) q (b ∷ []) h (other, tt) };
  says = (refl, refl, refl);
  count = omega arith;
}

pub no_bytes : {language : Language} (n : ℕ) (m : Trace) (q : List ℕ) → HasNoFeed q → Weaves language n m q [] n m q []
unfolding Transcript
no_bytes n m q h = record {
  lines = [];
  splits = record { whole = append-nil q; each = tt; open_end = h };
  says = (refl, refl, refl);
  count = omega arith;
}

pub stop_line : (language : Language) (n : ℕ) (m : Trace) (q more : List ℕ) (after : Trace) (u : List ℕ) (r : Option RefusedLine) → HasNoFeed q
    → Transcript language n m (q ∷ []) after u r → StopsAmong language n m q (10 ∷ more) after u r
stop_line language n m q more after u r h t rest = (
  q ∷ [],
  lines_of (more ++ rest),
  ap lines_of (append_assoc q (10 ∷ more) rest) ∙ line_front q (more ++ rest) h,
  t,
)

long_line : (language : Language) (n : ℕ) (m : Trace) (line : List ℕ) → 1024 < length line → Transcript language n m (line ∷ []) m [] (Some (refused_at n Malformed))
long_line language n m line long = refused language n m line Malformed m [] (omega arith) (inl (refl, refl, refl, λ request says. let fits = says.0 in omega arith))

pub stop_long : (language : Language) (n : ℕ) (m : Trace) (q : List ℕ) (b : ℕ) (more : List ℕ) → HasNoFeed q → (b ≡ 10 → ⊥) → 1024 < length (q ++ b ∷ [])
    → StopsAmong language n m q (b ∷ more) m [] (Some (refused_at n Malformed))
stop_long language n m q b more h other long rest = at (q ++ b ∷ []) refl (all_then (λ x. x ≢ 10) q (b ∷ []) h (other, tt))
  where
    regroup : (q ++ b ∷ more) ++ rest ≡ (q ++ b ∷ []) ++ (more ++ rest)
    regroup = append_assoc q (b ∷ more) rest ∙ sym (append_assoc q (b ∷ []) (more ++ rest))

    at : (x : List ℕ) → q ++ b ∷ [] ≡ x → HasNoFeed x
        → (front : List (List ℕ)) × (others : List (List ℕ)) × (lines_of ((q ++ b ∷ more) ++ rest) ≡ front ++ others) × Transcript language n m front m [] (Some (refused_at n Malformed))
    at [] e clean = let len = ap length e in absurd (omega (arith, long, len))
    at (y ∷ ys) e clean =
        let opened = line_open y ys (more ++ rest) clean in
        let len = ap length e in
        let sum = length-append (y ∷ ys) opened.0 in (
          ((y ∷ ys) ++ opened.0) ∷ [],
          opened.1,
          ap lines_of (regroup ∙ ap (λ (l : List ℕ). l ++ (more ++ rest)) e) ∙ opened.2,
          long_line language n m ((y ∷ ys) ++ opened.0) (omega (arith, len, sum, long)),
        )

-- ---- one piece behind another

pub weaves_then : {language : Language} (n : ℕ) (m : Trace) (p bs : List ℕ) (n' : ℕ) (m' : Trace) (q t : List ℕ) (cs : List ℕ) (n'' : ℕ) (m'' : Trace) (q' u : List ℕ)
    → Weaves language n m p bs n' m' q t → Weaves language n' m' q cs n'' m'' q' u → Weaves language n m p (bs ++ cs) n'' m'' q' (t ++ u)
weaves_then n m p bs n' m' q t cs n'' m'' q' u v w = record {
  lines = v.lines ++ w.lines;
  splits = record {
    whole =
        sym (append_assoc p bs cs) ∙ ap (λ (l : List ℕ). l ++ cs) v.splits.whole ∙ append_assoc (flat_map with_newline v.lines) q cs
        ∙ ap (λ (l : List ℕ). flat_map with_newline v.lines ++ l) w.splits.whole
        ∙ sym (append_assoc (flat_map with_newline v.lines) (flat_map with_newline w.lines) q')
        ∙ ap (λ (l : List ℕ). l ++ q') (sym (flat_map-append with_newline v.lines w.lines));
    each = all_then HasNoFeed v.lines w.lines v.splits.each w.splits.each;
    open_end = w.splits.open_end;
  };
  says = transcript_then _ n m v.lines m' t n' w.lines m'' u None v.says v.count w.says;
  count = let len = length-append v.lines w.lines in let a = v.count in let b = w.count in omega arith;
}

pub weaves_stops : {language : Language} (n : ℕ) (m : Trace) (p bs : List ℕ) (n' : ℕ) (m' : Trace) (q t : List ℕ) (tail : List ℕ) (m'' : Trace) (u : List ℕ) (r : Option RefusedLine)
    → Weaves language n m p bs n' m' q t → StopsAmong language n' m' q tail m'' u r → StopsAmong language n m p (bs ++ tail) m'' (t ++ u) r
weaves_stops n m p bs n' m' q t tail m'' u r v s rest =
    let end = s rest in
    let e : (p ++ (bs ++ tail)) ++ rest ≡ flat_map with_newline v.lines ++ ((q ++ tail) ++ rest)
    = ap (λ (l : List ℕ). l ++ rest) (sym (append_assoc p bs tail) ∙ ap (λ (l : List ℕ). l ++ tail) v.splits.whole ∙ append_assoc (flat_map with_newline v.lines) q tail)
    ∙ append_assoc (flat_map with_newline v.lines) (q ++ tail) rest in (
      v.lines ++ end.0,
      end.1,
      ap lines_of e ∙ lines_whole v.lines ((q ++ tail) ++ rest) v.splits.each ∙ ap (λ (l : List (List ℕ)). v.lines ++ l) end.2 ∙ sym (append_assoc v.lines end.0 end.1),
      transcript_then _ n m v.lines m' t n' end.0 m'' u r v.says v.count end.3,
    )

-- Behind bytes that were read a run may stop, whatever follows them.
pub weaves_end : {language : Language} (n : ℕ) (m : Trace) (p bs : List ℕ) (n' : ℕ) (m' : Trace) (q t : List ℕ)
    → Weaves language n m p bs n' m' q t → StopsAmong language n m p bs m' t None
weaves_end n m p bs n' m' q t v rest =
    let e : (p ++ bs) ++ rest ≡ flat_map with_newline v.lines ++ (q ++ rest)
    = ap (λ (l : List ℕ). l ++ rest) v.splits.whole ∙ append_assoc (flat_map with_newline v.lines) q rest in
    (v.lines, lines_of (q ++ rest), ap lines_of e ∙ lines_whole v.lines (q ++ rest) v.splits.each, v.says)

-- Of two facts one is so, by whether a writer has failed: one that shows nothing more from there on.
pub either_by : (a c : Sink) (P Q : Type 0) → Prints a c [] → MatchBool a.failed P Q → P ⊎ Q
either_by a c P Q shows fact = at a.failed fact
  where
    at : (b : Bool) → MatchBool b P Q → P ⊎ Q
    at true p = inl p
    at false q = inr q

-- ---- the end of the input

pub end_whole : {language : Language} (m : Trace) (taken : List ℕ) (n : ℕ) (after : Trace) (t : List ℕ) → Weaves language 1 m [] taken n after [] t
    → Transcript language 1 m (lines_of taken) after t None
end_whole m taken n after t v =
    let e : lines_of taken ≡ v.lines = ap lines_of v.splits.whole ∙ lines_whole v.lines [] v.splits.each ∙ append-nil v.lines in
    rw e v.says

pub end_part : {language : Language} (m : Trace) (taken : List ℕ) (n : ℕ) (mid : Trace) (q t : List ℕ) (after : Trace) (u : List ℕ) (r : Option RefusedLine)
    → Weaves language 1 m [] taken n mid q t → 0 < length q → Transcript language n mid (q ∷ []) after u r → Transcript language 1 m (lines_of taken) after (t ++ u) r
end_part m taken n mid q t after u r v some last =
    let e : lines_of taken ≡ v.lines ++ q ∷ []
    = ap lines_of v.splits.whole ∙ lines_whole v.lines q v.splits.each ∙ ap (λ (l : List (List ℕ)). v.lines ++ l) (line_last q v.splits.open_end some) in
    rw e (transcript_then _ 1 m v.lines mid t n (q ∷ []) after u r v.says v.count last)

-- ---- at the byte i of a piece

piece : (bytes : List ℕ) (i b : ℕ) → i < length bytes → get_or bytes i 0 ≡ b → take i bytes ++ b ∷ drop (i + 1) bytes ≡ bytes
piece bytes i b h is =
    let d : drop i bytes ≡ get_or bytes i 0 ∷ drop (i + 1) bytes = drop_more bytes i 0 h in
    rw (sym is, sym d) (take-append-drop i bytes)

pub stop_at : {language : Language} (n : ℕ) (m : Trace) (p bytes : List ℕ) (i b : ℕ) (n' : ℕ) (m' : Trace) (q t : List ℕ) (m'' : Trace) (u : List ℕ) (r : Option RefusedLine)
    → i < length bytes → get_or bytes i 0 ≡ b → Weaves language n m p (take i bytes) n' m' q t → StopsAmong language n' m' q (b ∷ drop (i + 1) bytes) m'' u r
    → StopsAmong language n m p bytes m'' (t ++ u) r
stop_at {language} n m p bytes i b n' m' q t m'' u r h is v s =
    subst (λ (bs : List ℕ). StopsAmong language n m p bs m'' (t ++ u) r) (piece bytes i b h is) (weaves_stops n m p (take i bytes) n' m' q t (b ∷ drop (i + 1) bytes) m'' u r v s)

pub more_at : {language : Language} (n : ℕ) (m : Trace) (p bytes : List ℕ) (i b : ℕ) (n' : ℕ) (m' : Trace) (q t : List ℕ) (n'' : ℕ) (m'' : Trace) (q' u : List ℕ)
    → i < length bytes → get_or bytes i 0 ≡ b → Weaves language n m p (take i bytes) n' m' q t → Weaves language n' m' q (b ∷ []) n'' m'' q' u
    → Weaves language n m p (take (i + 1) bytes) n'' m'' q' (t ++ u)
more_at {language} n m p bytes i b n' m' q t n'' m'' q' u h is v w =
    let e : take i bytes ++ b ∷ [] ≡ take (i + 1) bytes = rw (sym is) (sym (take_more bytes i 0 h)) in
    subst (λ (bs : List ℕ). Weaves language n m p bs n'' m'' q' (t ++ u)) e (weaves_then n m p (take i bytes) n' m' q t (b ∷ []) n'' m'' q' u v w)

pub match_true : (b : Bool) (P Q : Type 0) → b ≡ true → P → MatchBool b P Q
match_true true P Q e p = p
match_true false P Q e p = cc e

pub match_false : (b : Bool) (P Q : Type 0) → b ≡ false → Q → MatchBool b P Q
match_false true P Q e q = cc e
match_false false P Q e q = q

pub match_false_at : (b : Bool) (P Q : Type 0) → b ≡ false → MatchBool b P Q → Q
match_false_at true P Q e q = cc e
match_false_at false P Q e q = q
