-- Laws of writing one text behind another.
use Rattle.std.proofs.Common.{◌≡◌, ℕ, ◌+◌, ◌<◌, get_or, List, [], ◌∷◌, ◌++◌, length, take, drop, refl, sym, ap, ◌∙◌, arith, length-append, Bool, true, false}
use Rattle.std.proofs.Common.{not, Option, subst, Result, Ok, Err, is_ok, OnErr}
use Rattle.std.proofs.lemmas.List.{append_assoc, append-nil, take-append-drop, take_more}
use Rattle.std.proofs.lemmas.Grind.{flat_map-append}
use Rattle.std.specs.List.{flat_map}
use Rattle.std.specs.Io.KnownBytes.{Appends}
use Rattle.byte_streams.specs.Output.{Sink, Puts, Prints, Writes}
use Rattle.std.proofs.KnownBytes.{Appends-nil, Appends-trans}

-- ---- all bytes to the writer

-- of these bytes the rest is still to be written
abbrev pub SoFar : Option (List ℕ) → Option (List ℕ) → List ℕ → List ℕ → Type 0
SoFar old new bytes rest = (written : List ℕ) × (bytes ≡ written ++ rest) × Appends old new written

pub so_far_more : (a b c : Option (List ℕ)) (bytes rest : List ℕ) (n : ℕ) → SoFar a b bytes rest → Appends b c (take n rest) → SoFar a c bytes (drop n rest)
so_far_more a b c bytes rest n s p = (
  s.0 ++ take n rest,
  s.1 ∙ ap (λ (l : List ℕ). s.0 ++ l) (sym (take-append-drop n rest)) ∙ sym (append_assoc s.0 (take n rest) (drop n rest)),
  Appends-trans a b c s.0 (take n rest) s.2 p,
)

-- ---- one text behind another

pub no_text : (a : Sink) → Prints a a []
no_text a = record {
  puts = λ _. record { written = []; rest = a.held; splits = append-nil a.held; appends = Appends-nil a.contents; all = λ _. refl };
  stays = λ e. (refl, e);
}

pub puts_then : (a b c : Sink) (t u : List ℕ) (w : Bool) → Puts a b t true → Puts b c u w → Puts a c (t ++ u) w
puts_then a b c t u w p q =
    let held : p.rest ≡ b.held = p.all refl in
    record {
      written = p.written ++ q.written;
      rest = q.rest;
      splits =
          sym (append_assoc a.held t u) ∙ ap (λ (l : List ℕ). l ++ u) p.splits ∙ append_assoc p.written p.rest u
          ∙ ap (λ (l : List ℕ). p.written ++ (l ++ u)) held ∙ ap (λ (l : List ℕ). p.written ++ l) q.splits
          ∙ sym (append_assoc p.written q.written q.rest);
      appends = Appends-trans a.contents b.contents c.contents p.written q.written p.appends q.appends;
      all = q.all;
    }

-- what follows an unfinished text isn't written
pub puts_short : (a b c : Sink) (t u : List ℕ) → Puts a b t false → c.contents ≡ b.contents → Puts a c (t ++ u) false
puts_short a b c t u p same = record {
  written = p.written;
  rest = p.rest ++ u;
  splits = sym (append_assoc a.held t u) ∙ ap (λ (l : List ℕ). l ++ u) p.splits ∙ append_assoc p.written p.rest u;
  appends = subst (λ (x : Option (List ℕ)). Appends a.contents x p.written) (sym same) p.appends;
  all = λ e. cc e;
}

shows_at : (a b c : Sink) (t u : List ℕ) (f g : Bool) → b.failed ≡ f → c.failed ≡ g → Prints a b t → Prints b c u → Prints a c (t ++ u)
shows_at a b c t u true g is_f is_g p q =
    let end = q.stays is_f in record {
      puts = λ e. subst (λ (f : Bool). Puts a c (t ++ u) (not f)) (sym end.1) (puts_short a b c t u (subst (λ (f : Bool). Puts a b t (not f)) is_f (p.puts e)) end.0);
      stays = λ e. (end.0 ∙ (p.stays e).0, end.1);
    }
shows_at a b c t u false g is_f is_g p q = record {
  puts = λ e. puts_then a b c t u (not c.failed) (subst (λ (f : Bool). Puts a b t (not f)) is_f (p.puts e)) (q.puts is_f);
  stays = λ e. cc (sym is_f ∙ (p.stays e).1);
}

pub shows_then : {a b c : Sink} {t u : List ℕ} → Prints a b t → Prints b c u → Prints a c (t ++ u)
shows_then {a} {b} {c} {t} {u} p q = shows_at a b c t u b.failed c.failed refl refl p q

pub then_no_text : {a b c : Sink} {t : List ℕ} → Prints a b t → Prints b c [] → Prints a c t
then_no_text {a} {b} {c} {t} p q = subst (λ (u : List ℕ). Prints a c u) (append-nil t) (shows_then p q)

-- a writer that hasn't failed hadn't failed before
pub sound_before : {a b : Sink} {t : List ℕ} → Prints a b t → b.failed ≡ false → a.failed ≡ false
sound_before {a} {b} {t} p sound = at a.failed refl
  where
    at : (f : Bool) → a.failed ≡ f → f ≡ false
    at true e = cc (sym (p.stays e).1 ∙ sound)
    at false e = refl

-- ---- pieces that don't fit

pub err_holds : {A E : Type 0} (r : Result A E) (P : Type 0) → is_ok r ≡ false → OnErr r P → P
err_holds (Ok x) P e h = cc e
err_holds (Err x) P e h = h

-- what was held back is written, and then the bytes, as far as that goes
pub passed_on : (a b : Sink) (mid : Option (List ℕ)) (bytes : List ℕ) (whole : Bool) → Writes a.contents mid a.held true → Writes mid b.contents bytes whole
    → a.failed ≡ false → b.held ≡ [] → b.failed ≡ not whole → Prints a b bytes
passed_on a b mid bytes whole p q sound none is_failed = record {
  puts = λ _. record {
    written = a.held ++ q.written;
    rest = q.rest;
    splits = ap (λ (l : List ℕ). a.held ++ l) q.splits ∙ sym (append_assoc a.held q.written q.rest);
    appends = Appends-trans a.contents mid b.contents a.held q.written (subst (λ (l : List ℕ). Appends a.contents mid l) (sym (p.all refl)) p.appends) q.appends;
    all = λ e. nothing_left q.written q.rest (q.all (sym (not_not whole) ∙ ap not (sym is_failed) ∙ e)) q.splits ∙ sym none;
  };
  stays = λ e. cc (sym sound ∙ e);
}
  where
    not_not : (w : Bool) → not (not w) ≡ w
    not_not true = refl
    not_not false = refl

    nothing_left : (w r : List ℕ) → bytes ≡ w → bytes ≡ w ++ r → r ≡ []
    nothing_left w [] e s = refl
    nothing_left w (x ∷ xs) e s = let len = ap length (sym e ∙ s) in let sum = length-append w (x ∷ xs) in absurd (omega (arith, len, sum))

-- all of a text that began with nothing held back, and has ended so
pub writes_whole : (a b : Sink) (t : List ℕ) → Prints a b (t ++ []) → a.failed ≡ false → a.held ≡ [] → (b.failed ≡ false → b.held ≡ [])
    → Writes a.contents b.contents t (not b.failed)
writes_whole a b t s sound fresh ends = at b.failed refl
  where
    p : Puts a b (t ++ []) (not b.failed)
    p = s.puts sound

    splits : t ≡ p.written ++ p.rest
    splits = sym (append-nil t) ∙ sym (ap (λ (l : List ℕ). l ++ (t ++ [])) fresh) ∙ p.splits

    at : (f : Bool) → b.failed ≡ f → Writes a.contents b.contents t (not b.failed)
    at true e = record { written = p.written; rest = p.rest; splits = splits; appends = p.appends; all = λ h. cc (sym (ap not e) ∙ h) }
    at false e = record {
      written = p.written;
      rest = p.rest;
      splits = splits;
      appends = p.appends;
      all = λ h. splits ∙ ap (λ (l : List ℕ). p.written ++ l) (p.all h ∙ ends e) ∙ append-nil p.written;
    }

pub flat_more : {A : Type 0} (f : A → List ℕ) (xs : List A) (i : ℕ) (x : A) → i < length xs → x ≡ get_or xs i x
    → flat_map f (take (i + 1) xs) ≡ flat_map f (take i xs) ++ f x
flat_more f xs i x h is =
    rw (take_more xs i x h, flat_map-append f (take i xs) (get_or xs i x ∷ []), sym is, append-nil) refl
