-- What fields request for, as a function, is what the grammar says.
use Rattle.std.proofs.Common.{◌≡◌, ℕ, ◌≤◌, ◌<◌, List, [], ◌∷◌, length, refl, sym, subst, ap, ◌∙◌, arith, ◌^◌, inl, inr, Option, Some, None, Result, Ok, Err}
use Rattle.std.proofs.Common.{true, cond, ◌&&◌, nat_le, nat_lt, IfOk, codes, option_map}
use Rattle.std.specs.Option.{option_and_then}
use Rattle.std.specs.Str.{bytes_eq}
use Rattle.std.proofs.lemmas.Slice.Eq.{bytes_eq-Decides}
use Rattle.std.proofs.lemmas.Bool.Decides.{nat_tests}
use Rattle.bw_model.specs.declared.command.Command.{Command}
use Rattle.bw_model.specs.declared.command.Command.TheVariants.{Get, Insert, Upsert, Delete, DeleteIf, Swap, Add, Page, Back, Tidy}
use Rattle.bw_model.specs.declared.step.Link.{Link}
use Rattle.bw_model.specs.declared.step.Link.TheVariants as link
use Rattle.shell_lines.specs.declared.request.Language.{Language}
use Rattle.shell_lines.specs.declared.request.Language.TheVariants.{Script, Weave}
use Rattle.shell_lines.specs.declared.request.Request.{Request}
use Rattle.shell_lines.specs.declared.request.Request.TheVariants.{Begin, Turn, Until, Finish, Mix, List as ListPairs, Run}
use Rattle.shell_lines.specs.declared.token.LineError.{LineError}
use Rattle.shell_lines.specs.declared.token.LineError.TheVariants.{Malformed, TooLong}
use Rattle.shell_lines.specs.Token.{Means, token_value}
use Rattle.shell_lines.specs.Number.{number_of, up_to_most, fitting}
use Rattle.shell_lines.specs.Fields.{fields_of}
use Rattle.shell_lines.specs.Request.{Says, SpellsRequest, SpellsNumber, SpellsCommand, IsAskedIn, IsShortRequest, word_of}
use Rattle.shell_lines.specs.Reading.{key_in, pair_in, pair_said, swap_in, number_said, addition_in, command_in, capped_number}
use Rattle.shell_lines.specs.Reading.{begin_in, turn_by, turn_in, link_in, until_in, finish_in}
use Rattle.shell_lines.specs.Reading.{mix_by, mix_in, list_in, woven_in, script_in, request_in, GivesRequest}
use Rattle.shell_lines.proofs.Tokens.{chosen, some_is, value_means, means_value}

pub map_some : {A B : Type 0} (f : A → B) (o : Option A) (y : B) → option_map f o ≡ Some y → (x : A) × (o ≡ Some x) × (f x ≡ y)
map_some f (Some x) y h = (x, refl, some_is (f x) y h)
map_some f None y h = cc h

pub then_some : {A B : Type 0} (f : A → Option B) (o : Option A) (y : B) → option_and_then f o ≡ Some y → (x : A) × (o ≡ Some x) × (f x ≡ Some y)
then_some f (Some x) y h = (x, refl, h)
then_some f None y h = cc h

is_text : (a b : List ℕ) → bytes_eq a b ≡ true → a ≡ b
is_text a b h = (bytes_eq-Decides a b).0 h

number_is : (a : List ℕ) (n : ℕ) → capped_number a ≡ Some n → SpellsNumber a n
number_is a n h = let m = map_some up_to_most (number_of a) n h in (m.0, m.1, sym m.2)

is_number : (a : List ℕ) (n : ℕ) → SpellsNumber a n → capped_number a ≡ Some n
is_number a n h = rw (h.1, h.2) refl

-- a number that 64 bits hold
is_small : (n m : ℕ) → fitting n ≡ Some m → (n ≡ m) × (n < 2 ^ 64)
is_small n m h =
    elim (chosen (nat_lt n (2 ^ 64)) _ _ (Some m) h) [
      | inl p ↦ let low : n < 2 ^ 64 = grind (arith, nat_tests, p.0) in (some_is n m p.1, low)
      | inr out ↦ cc out.1
    ]

is_fitting : (n : ℕ) → n < 2 ^ 64 → fitting n ≡ Some n
is_fitting n low = let e : nat_lt n (2 ^ 64) ≡ true = grind (arith, nat_tests, low) in rw e refl

-- ---- links

-- a test of one word more
word_is : (w word : List ℕ) (made : Link) (rest : Option Link) (found : Link) → word_of made ≡ Some word → (rest ≡ Some found → word_of found ≡ Some w)
    → cond (bytes_eq w word) (Some made) rest ≡ Some found → word_of found ≡ Some w
word_is w word made rest found spelled others h =
    elim (chosen (bytes_eq w word) (Some made) rest (Some found) h) [
      | inl p ↦ rw (sym (some_is made found p.1), is_text w word p.0) spelled
      | inr q ↦ others q.1
    ]

link_is : (w : List ℕ) (found : Link) → link_in w ≡ Some found → word_of found ≡ Some w
unfolding link_in
link_is w found =
    word_is w (codes "put") link.Put _ found refl
    (word_is w (codes "delete") link.Delete _ found refl
    (word_is w (codes "base") link.Base _ found refl
    (word_is w (codes "split") link.Split _ found refl
    (word_is w (codes "term") link.Term _ found refl
    (word_is w (codes "root") link.Root _ found refl
    (word_is w (codes "hold") link.Hold _ found refl
    (word_is w (codes "remove") link.Remove _ found refl
    (word_is w (codes "merge") link.Merge _ found refl
    (word_is w (codes "unterm") link.Unterm _ found refl
    (word_is w (codes "clear") link.Clear _ found refl (λ h. cc h)))))))))))

is_link : (w : List ℕ) (link : Link) → word_of link ≡ Some w → link_in w ≡ Some link
unfolding link_in
is_link w link.Ready h = cc h
is_link w link.Undo h = cc h
is_link w link h = rw (sym (some_is _ w h)) refl

-- ---- commands

-- one token, and two
key_is : (args : List (List ℕ)) (key : List ℕ) → key_in args ≡ Some key → (k : List ℕ) × (args ≡ k ∷ []) × Means k key
unfolding key_in
key_is [] key h = cc h
key_is (k ∷ []) key h = (k, refl, value_means k key h)
key_is (k ∷ x ∷ rest) key h = cc h

two_are : (k v : List ℕ) (pair : List ℕ × List ℕ) → pair_said k v ≡ Some pair → Means k pair.0 × Means v pair.1
two_are k v pair h =
    let a = then_some (λ key. option_map (λ value. (key, value)) (token_value v)) (token_value k) pair h in
    let b = map_some (λ value. (a.0, value)) (token_value v) pair a.2 in
    rw (sym b.2) (value_means k a.0 a.1, value_means v b.0 b.1)

pair_is : (args : List (List ℕ)) (pair : List ℕ × List ℕ) → pair_in args ≡ Some pair → (k : List ℕ) × (v : List ℕ) × (args ≡ k ∷ v ∷ []) × Means k pair.0 × Means v pair.1
unfolding pair_in
pair_is (k ∷ v ∷ []) pair h = let both = two_are k v pair h in (k, v, refl, both.0, both.1)
pair_is args pair h = cc h

swap_is : (args : List (List ℕ)) (c : Command) → swap_in args ≡ Some c → SpellsCommand (codes "swap" ∷ args) c
unfolding swap_in
swap_is (k ∷ e ∷ v ∷ []) c h =
    let a = then_some (λ (pair : List ℕ × List ℕ). option_map (Swap pair.0 pair.1) (token_value v)) (pair_said k e) c h in
    let b = map_some (Swap a.0.0 a.0.1) (token_value v) c a.2 in
    let p = two_are k e a.0 a.1 in
    rw (sym b.2) (k, e, v, refl, p.0, p.1, value_means v b.0 b.1)
swap_is args c h = cc h

addition_is : (args : List (List ℕ)) (c : Command) → addition_in args ≡ Some c → SpellsCommand (codes "add" ∷ args) c
unfolding addition_in
addition_is (k ∷ n ∷ []) c h =
    let a = then_some (λ (key : List ℕ). option_map (Add key) (number_said n)) (token_value k) c h in
    let b = map_some (Add a.0) (number_said n) c a.2 in
    let d = then_some fitting (number_of n) b.0 b.1 in
    let m = is_small d.0 b.0 d.2 in
    rw (sym b.2) (k, n, refl, value_means k a.0 a.1, d.1 ∙ ap Some m.0, rw (← m.0) m.1)
addition_is args c h = cc h

pub command_is : (fs : List (List ℕ)) (c : Command) → command_in fs ≡ Some c → SpellsCommand fs c
unfolding command_in
command_is [] c h = cc h
command_is (verb ∷ args) c h =
    verb_is (codes "get") (one_token (codes "get") Get (λ key k. k))
    (verb_is (codes "insert") (two_tokens (codes "insert") Insert (λ key value k. k))
    (verb_is (codes "upsert") (two_tokens (codes "upsert") Upsert (λ key value k. k))
    (verb_is (codes "delete") (one_token (codes "delete") Delete (λ key k. k))
    (verb_is (codes "delete_if") (two_tokens (codes "delete_if") DeleteIf (λ key value k. k))
    (verb_is (codes "swap") (swap_is args c)
    (verb_is (codes "add") (addition_is args c)
    (verb_is (codes "page") (one_token (codes "page") Page (λ key k. k))
    (verb_is (codes "back") (one_token (codes "back") Back (λ key k. k))
    (verb_is (codes "tidy") (one_token (codes "tidy") Tidy (λ key k. k)) (λ none. cc none)))))))))) h
  where
    -- a test of one verb more
    verb_is : {made rest : Option Command} (word : List ℕ) → (made ≡ Some c → SpellsCommand (word ∷ args) c) → (rest ≡ Some c → SpellsCommand (verb ∷ args) c)
        → cond (bytes_eq verb word) made rest ≡ Some c → SpellsCommand (verb ∷ args) c
    verb_is {made} {rest} word spelled others found =
        elim (chosen (bytes_eq verb word) made rest (Some c) found) [
          | inl p ↦ rw (is_text verb word p.0) (spelled p.1)
          | inr q ↦ others q.1
        ]

    one_token : (word : List ℕ) (made : List ℕ → Command)
        → ((key : List ℕ) → ((k : List ℕ) × (word ∷ args ≡ word ∷ k ∷ []) × Means k key) → SpellsCommand (word ∷ args) (made key))
        → option_map made (key_in args) ≡ Some c → SpellsCommand (word ∷ args) c
    one_token word made spells found =
        let m = map_some made (key_in args) c found in
        let k = key_is args m.0 m.1 in
        subst (SpellsCommand (word ∷ args)) m.2 (spells m.0 (k.0, ap (λ (fs : List (List ℕ)). word ∷ fs) k.1, k.2))

    two_tokens : (word : List ℕ) (made : List ℕ → List ℕ → Command)
        → ((key value : List ℕ) → ((k : List ℕ) × (v : List ℕ) × (word ∷ args ≡ word ∷ k ∷ v ∷ []) × Means k key × Means v value)
        → SpellsCommand (word ∷ args) (made key value))
        → option_map (λ (pair : List ℕ × List ℕ). made pair.0 pair.1) (pair_in args) ≡ Some c → SpellsCommand (word ∷ args) c
    two_tokens word made spells found =
        let m = map_some (λ (pair : List ℕ × List ℕ). made pair.0 pair.1) (pair_in args) c found in
        let k = pair_is args m.0 m.1 in
        subst (SpellsCommand (word ∷ args)) m.2 (spells m.0.0 m.0.1 (k.0, k.1, ap (λ (fs : List (List ℕ)). word ∷ fs) k.2, k.3, k.4))

pub is_command : (fs : List (List ℕ)) (c : Command) → SpellsCommand fs c → command_in fs ≡ Some c
unfolding command_in key_in pair_in swap_in addition_in
is_command fs (Get key) h = rw (h.1, means_value h.0 key h.2) refl
is_command fs (Insert key value) h = rw (h.2, means_value h.0 key h.3, means_value h.1 value h.4) refl
is_command fs (Upsert key value) h = rw (h.2, means_value h.0 key h.3, means_value h.1 value h.4) refl
is_command fs (Delete key) h = rw (h.1, means_value h.0 key h.2) refl
is_command fs (DeleteIf key expected) h = rw (h.2, means_value h.0 key h.3, means_value h.1 expected h.4) refl
is_command fs (Swap key expected value) h = rw (h.3, means_value h.0 key h.4, means_value h.1 expected h.5, means_value h.2 value h.6) refl
is_command fs (Add key number) h = rw (h.2, means_value h.0 key h.3, h.4, is_fitting number h.5) refl
is_command fs (Page key) h = rw (h.1, means_value h.0 key h.2) refl
is_command fs (Back key) h = rw (h.1, means_value h.0 key h.2) refl
is_command fs (Tidy key) h = rw (h.1, means_value h.0 key h.2) refl

-- ---- lines

-- the fields ask for this in a program's language
abbrev Spells : Language → List (List ℕ) → Request → Type 0
Spells language fs request = SpellsRequest fs request × IsAskedIn language request

begin_is : (args : List (List ℕ)) (request : Request) → begin_in args ≡ Some request → Spells Weave (codes "begin" ∷ args) request
unfolding begin_in
begin_is [] request h = cc h
begin_is (a ∷ rest) request h =
    let n = then_some (λ actor. option_map (Begin actor) (command_in rest)) (capped_number a) request h in
    let c = map_some (Begin n.0) (command_in rest) request n.2 in
    rw (sym c.2) ((a, rest, refl, number_is a n.0 n.1, command_is rest c.0 c.1), tt)

turn_is : (args : List (List ℕ)) (request : Request) → turn_in args ≡ Some request → Spells Weave (codes "turn" ∷ args) request
unfolding turn_in
turn_is (a ∷ n ∷ []) request h =
    let x = then_some (λ actor. option_and_then (turn_by actor) (capped_number n)) (capped_number a) request h in
    let y = then_some (turn_by x.0) (capped_number n) request x.2 in
    elim (chosen (nat_le 1 y.0 && nat_le y.0 100000) _ _ (Some request) y.2) [
      | inl p ↦
          let same = some_is (Turn x.0 y.0) request p.1 in
          let low : 1 ≤ y.0 = grind (arith, nat_tests, p.0) in
          let high : y.0 ≤ 100000 = grind (arith, nat_tests, p.0) in
          rw (sym same) ((a, n, refl, number_is a x.0 x.1, number_is n y.0 y.1, low, high), tt)
      | inr out ↦ cc out.1
    ]
turn_is args request h = cc h

until_is : (args : List (List ℕ)) (request : Request) → until_in args ≡ Some request → Spells Weave (codes "until" ∷ args) request
unfolding until_in
until_is (a ∷ w ∷ []) request h =
    let x = then_some (λ actor. option_map (Until actor) (link_in w)) (capped_number a) request h in
    let y = map_some (Until x.0) (link_in w) request x.2 in
    rw (sym y.2) ((a, w, refl, number_is a x.0 x.1, link_is w y.0 y.1), tt)
until_is args request h = cc h

finish_is : (args : List (List ℕ)) (request : Request) → finish_in args ≡ Some request → Spells Weave (codes "finish" ∷ args) request
unfolding finish_in
finish_is [] request h = cc h
finish_is (a ∷ []) request h = let n = map_some Finish (capped_number a) request h in rw (sym n.2) ((a, refl, number_is a n.0 n.1), tt)
finish_is (a ∷ x ∷ rest) request h = cc h

mix_is : (args : List (List ℕ)) (request : Request) → mix_in args ≡ Some request → Spells Weave (codes "mix" ∷ args) request
unfolding mix_in
mix_is (s ∷ n ∷ []) request h =
    let x = then_some (λ seed. option_and_then (mix_by seed) (capped_number n)) (option_and_then fitting (number_of s)) request h in
    let z = then_some fitting (number_of s) x.0 x.1 in
    let seed = is_small z.0 x.0 z.2 in
    let y = then_some (mix_by x.0) (capped_number n) request x.2 in
    elim (chosen (nat_le 1 y.0 && nat_le y.0 100000) _ _ (Some request) y.2) [
      | inl p ↦
          let same = some_is (Mix x.0 y.0) request p.1 in
          let low : 1 ≤ y.0 = grind (arith, nat_tests, p.0) in
          let high : y.0 ≤ 100000 = grind (arith, nat_tests, p.0) in
          rw (sym same) ((s, n, refl, z.1 ∙ ap Some seed.0, rw (← seed.0) seed.1, number_is n y.0 y.1, low, high), tt)
      | inr out ↦ cc out.1
    ]
mix_is args request h = cc h

list_is : (language : Language) (args : List (List ℕ)) (request : Request) → IsAskedIn language ListPairs → list_in args ≡ Some request → Spells language (codes "list" ∷ args) request
unfolding list_in
list_is language [] request asked h = rw (sym (some_is ListPairs request h)) (refl, asked)
list_is language (x ∷ rest) request asked h = cc h

woven_is : (fs : List (List ℕ)) (request : Request) → woven_in fs ≡ Some request → Spells Weave fs request
unfolding woven_in
woven_is [] request h = cc h
woven_is (verb ∷ args) request h =
    elim (chosen (bytes_eq verb (codes "begin")) _ _ (Some request) h) [
      | inl p ↦ rw (is_text verb (codes "begin") p.0) (begin_is args request p.1)
      | inr q ↦ elim (chosen (bytes_eq verb (codes "turn")) _ _ (Some request) q.1) [
        | inl p ↦ rw (is_text verb (codes "turn") p.0) (turn_is args request p.1)
        | inr r ↦ elim (chosen (bytes_eq verb (codes "until")) _ _ (Some request) r.1) [
          | inl p ↦ rw (is_text verb (codes "until") p.0) (until_is args request p.1)
          | inr s ↦ elim (chosen (bytes_eq verb (codes "finish")) _ _ (Some request) s.1) [
            | inl p ↦ rw (is_text verb (codes "finish") p.0) (finish_is args request p.1)
            | inr t ↦ elim (chosen (bytes_eq verb (codes "mix")) _ _ (Some request) t.1) [
              | inl p ↦ rw (is_text verb (codes "mix") p.0) (mix_is args request p.1)
              | inr u ↦ elim (chosen (bytes_eq verb (codes "list")) _ _ (Some request) u.1) [
                | inl p ↦ rw (is_text verb (codes "list") p.0) (list_is Weave args request tt p.1)
                | inr n ↦ cc n.1
              ]
            ]
          ]
        ]
      ]
    ]

script_is : (fs : List (List ℕ)) (request : Request) → script_in fs ≡ Some request → Spells Script fs request
unfolding script_in
script_is [] request h = cc h
script_is (verb ∷ args) request h =
    elim (chosen (bytes_eq verb (codes "list")) _ _ (Some request) h) [
      | inl p ↦ rw (is_text verb (codes "list") p.0) (list_is Script args request tt p.1)
      | inr q ↦
          let c = map_some Run (command_in (verb ∷ args)) request q.1 in
          rw (sym c.2) (command_is (verb ∷ args) c.0 c.1, tt)
    ]

pub asked_is : (language : Language) (fs : List (List ℕ)) (request : Request) → request_in language fs ≡ Some request → Spells language fs request
asked_is Script fs request h = script_is fs request h
asked_is Weave fs request h = woven_is fs request h

is_woven : (fs : List (List ℕ)) (request : Request) → SpellsRequest fs request → IsAskedIn Weave request → woven_in fs ≡ Some request
unfolding woven_in begin_in turn_in until_in finish_in mix_in list_in
is_woven fs (Begin actor command) h a = rw (h.2, is_number h.0 actor h.3, is_command h.1 command h.4) refl
is_woven fs (Turn actor count) h a =
    let fits : (nat_le 1 count && nat_le count 100000) ≡ true = grind (arith, nat_tests, h.5, h.6) in
    rw (h.2, is_number h.0 actor h.3, is_number h.1 count h.4, fits) refl
is_woven fs (Until actor link) h a = rw (h.2, is_number h.0 actor h.3, is_link h.1 link h.4) refl
is_woven fs (Finish actor) h a = rw (h.1, is_number h.0 actor h.2) refl
is_woven fs (Mix seed count) h a =
    let fits : (nat_le 1 count && nat_le count 100000) ≡ true = grind (arith, nat_tests, h.6, h.7) in
    rw (h.2, h.3, is_fitting seed h.4, is_number h.1 count h.5, fits) refl
is_woven fs ListPairs h a = rw h refl
is_woven fs (Run command) h a = absurd a

-- a command's verb isn't `list`
is_run : (fs : List (List ℕ)) (command : Command) → SpellsCommand fs command → script_in fs ≡ option_map Run (command_in fs)
unfolding script_in
is_run fs (Insert key value) h = rw h.2 refl
is_run fs (Upsert key value) h = rw h.2 refl
is_run fs (DeleteIf key expected) h = rw h.2 refl
is_run fs (Swap key expected value) h = rw h.3 refl
is_run fs (Add key number) h = rw h.2 refl
is_run fs command h = rw h.1 refl

is_script : (fs : List (List ℕ)) (request : Request) → SpellsRequest fs request → IsAskedIn Script request → script_in fs ≡ Some request
unfolding script_in list_in
is_script fs (Run command) h a = is_run fs command h ∙ ap (option_map Run) (is_command fs command h)
is_script fs ListPairs h a = rw h refl
is_script fs request h a = absurd a

pub is_asked : (language : Language) (fs : List (List ℕ)) (request : Request) → Spells language fs request → request_in language fs ≡ Some request
is_asked Script fs request h = is_script fs request h.0 h.1
is_asked Weave fs request h = is_woven fs request h.0 h.1

-- ---- what reading a line answers

pub parse_ok : (language : Language) (line : List ℕ) (r : Result Request LineError) → length line ≤ 1024 → GivesRequest r (request_in language (fields_of line))
    → IfOk r (λ request. Says language line request × IsShortRequest request)
parse_ok language line (Ok request) short h = let asks = asked_is language (fields_of line) request h.0 in ((short, asks.0, asks.1), h.1)
parse_ok language line (Err e) short h = tt

pub parse_malformed : (language : Language) (line : List ℕ) (r : Result Request LineError) → GivesRequest r (request_in language (fields_of line)) → r ≡ Err Malformed
    → (request : Request) → Says language line request → ⊥
parse_malformed language line (Ok a) h e request says = cc e
parse_malformed language line (Err Malformed) h e request says = cc (sym h ∙ is_asked language (fields_of line) request (says.1, says.2))
parse_malformed language line (Err TooLong) h e request says = cc e

pub parse_too_long : (language : Language) (line : List ℕ) (r : Result Request LineError) → length line ≤ 1024 → GivesRequest r (request_in language (fields_of line)) → r ≡ Err TooLong
    → (request : Request) × Says language line request × (IsShortRequest request → ⊥)
parse_too_long language line (Ok request) short h e = cc e
parse_too_long language line (Err Malformed) short h e = cc e
parse_too_long language line (Err TooLong) short h e = let asks = asked_is language (fields_of line) h.0 h.1 in (h.0, (short, asks.0, asks.1), h.2)

pub one_request : (language : Language) (line : List ℕ) (a b : Request) → Says language line a → Says language line b → a ≡ b
one_request language line a b p q = some_is a b (sym (is_asked language (fields_of line) a (p.1, p.2)) ∙ is_asked language (fields_of line) b (q.1, q.2))
