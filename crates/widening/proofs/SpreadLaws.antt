-- Fields that are spread: how many words they are, one field more, and that they are told apart.
use Rattle.std.proofs.Common.{◌≡◌, ◌≤◌, ◌+◌, ◌*◌, ◌-◌, ℕ, zero, suc, List, [], ◌∷◌, ◌++◌, length, get_or, take, drop, replicate, refl, sym, ap, ◌∙◌, arith, append_assoc, length-append, length-drop}
use Rattle.std.proofs.lemmas.List.{take-append-drop, drop-drop, length-take-le}
use Rattle.std.proofs.Math.Seq.{take-append_seam, drop-append_seam}
use Rattle.record_slots.specs.Layout.{first_at, form_unit, this_form}
use Rattle.widening.specs.Spread.{behind, fields, first_field, grown_by, spread, spread_fields}

pub spread_none : (words : List ℕ) → spread_fields 0 words ≡ words
unfolding spread_fields
spread_none words = refl

pub spread_more : (count : ℕ) (words : List ℕ) → spread_fields (suc count) words ≡ take first_field words ++ (replicate grown_by 0 ++ spread_fields count (drop first_field words))
unfolding spread_fields
spread_more count words = refl

-- a field of its words
pub spread_field : (count a b c d e : ℕ) (words : List ℕ) → spread_fields (suc count) (a ∷ b ∷ c ∷ d ∷ e ∷ words) ≡ a ∷ b ∷ c ∷ d ∷ e ∷ 0 ∷ 0 ∷ 0 ∷ 0 ∷ spread_fields count words
unfolding spread_fields
spread_field count a b c d e words = refl

pub spread_length : (count : ℕ) (words : List ℕ) → first_field * count ≤ length words → length (spread_fields count words) ≡ length words + grown_by * count
spread_length zero words many = ap length (spread_none words) ∙ (let e : length words ≡ length words + 0 = omega arith in e)
spread_length (suc count) words many =
    let d = length-drop first_field words in
    let t = length-take-le first_field words (omega arith) in
    let r = spread_length count (drop first_field words) (omega arith) in
    let a = length-append (take first_field words) (replicate grown_by 0 ++ spread_fields count (drop first_field words)) in
    let b = length-append (replicate grown_by 0) (spread_fields count (drop first_field words)) in
    let gap : List ℕ = replicate grown_by 0 in
    let g : length gap ≡ grown_by = refl in
    ap length (spread_more count words) ∙ (omega arith)

-- the words of zeros
pub spread_zeros : (count rest whole : ℕ) → whole ≡ first_field * count + rest → spread_fields count (replicate whole 0) ≡ replicate (9 * count + rest) 0
spread_zeros zero rest whole e = spread_none (replicate whole 0) ∙ ap (λ n. replicate n 0) (let f : whole ≡ 0 + rest = omega arith in f)
spread_zeros (suc count) rest whole e =
    let n : ℕ = first_field * count + rest in
    let w : whole ≡ suc (suc (suc (suc (suc n)))) = omega arith in
    let k : ℕ = 9 * count + rest in
    let v : suc (suc (suc (suc (suc (suc (suc (suc (suc k)))))))) ≡ 9 * suc count + rest = omega arith in
    ap (λ m. spread_fields (suc count) (replicate m 0)) w ∙ spread_field count 0 0 0 0 0 (replicate n 0)
    ∙ ap (λ ws. 0 ∷ 0 ∷ 0 ∷ 0 ∷ 0 ∷ 0 ∷ 0 ∷ 0 ∷ 0 ∷ ws) (spread_zeros count rest n refl) ∙ ap (λ m. replicate m 0) v

-- one field more is written
pub field_more : (left place count : ℕ) (words before now whole : List ℕ) → count ≡ place + suc left
    → before ++ spread_fields (suc left) (drop (first_field * place) words) ≡ whole
    → now ≡ (before ++ take first_field (drop (first_field * place) words)) ++ replicate grown_by 0
    → now ++ spread_fields left (drop (first_field * (place + 1)) words) ≡ whole
field_more left place count words before now whole e so more =
    let rest : List ℕ = drop (first_field * place) words in
    let next : drop first_field rest ≡ drop (first_field * (place + 1)) words = drop-drop first_field (first_field * place) words ∙ ap (λ n. drop n words)
    (let f : first_field * place + first_field ≡ first_field * (place + 1) = omega arith in f) in
    ap (λ ws. ws ++ spread_fields left (drop (first_field * (place + 1)) words)) more
    ∙ append_assoc (before ++ take first_field rest) (replicate grown_by 0) (spread_fields left (drop (first_field * (place + 1)) words))
    ∙ append_assoc before (take first_field rest) (replicate grown_by 0 ++ spread_fields left (drop (first_field * (place + 1)) words))
    ∙ ap (λ ws. before ++ (take first_field rest ++ (replicate grown_by 0 ++ spread_fields left ws))) (sym next)
    ∙ ap (λ ws. before ++ ws) (sym (spread_more left rest)) ∙ so

front : (n : ℕ) (xs ys : List ℕ) → length xs ≡ n → take n (xs ++ ys) ≡ xs
front n xs ys e = ap (λ k. take k (xs ++ ys)) (sym e) ∙ take-append_seam xs ys

back : (n : ℕ) (xs ys : List ℕ) → length xs ≡ n → drop n (xs ++ ys) ≡ ys
back n xs ys e = ap (λ k. drop k (xs ++ ys)) (sym e) ∙ drop-append_seam xs ys

fields_one : (count : ℕ) (xs ys : List ℕ) → first_field * count ≤ length xs → first_field * count ≤ length ys → spread_fields count xs ≡ spread_fields count ys → xs ≡ ys
fields_one zero xs ys h g e = sym (spread_none xs) ∙ e ∙ spread_none ys
fields_one (suc count) xs ys h g e =
    let tx = length-take-le first_field xs (omega arith) in
    let ty = length-take-le first_field ys (omega arith) in
    let dx = length-drop first_field xs in
    let dy = length-drop first_field ys in
    let sx : List ℕ = spread_fields count (drop first_field xs) in
    let sy : List ℕ = spread_fields count (drop first_field ys) in
    let same : take first_field xs ++ (replicate grown_by 0 ++ sx) ≡ take first_field ys ++ (replicate grown_by 0 ++ sy) = sym (spread_more count xs) ∙ e ∙ spread_more count ys in
    let one : take first_field xs ≡ take first_field ys = sym (front first_field (take first_field xs) (replicate grown_by 0 ++ sx) tx) ∙ ap (take first_field)
    same ∙ front first_field (take first_field ys) (replicate grown_by 0 ++ sy) ty in
    let rest : replicate grown_by 0 ++ sx ≡ replicate grown_by 0 ++ sy = sym (back first_field (take first_field xs) (replicate grown_by 0 ++ sx) tx) ∙ ap
    (drop first_field) same ∙ back first_field (take first_field ys) (replicate grown_by 0 ++ sy) ty in
    let others = fields_one count (drop first_field xs) (drop first_field ys) (omega arith) (omega arith) (ap (drop grown_by) rest) in
    sym (take-append-drop first_field xs) ∙ (λ i. one i ++ others i) ∙ take-append-drop first_field ys

cut : (words : List ℕ) → 3 ≤ length words → words ≡ get_or words 0 0 ∷ get_or words 1 0 ∷ get_or words 2 0 ∷ drop first_at words
cut [] h = absurd (omega arith)
cut (a ∷ []) h = absurd (omega arith)
cut (a ∷ b ∷ []) h = absurd (omega arith)
cut (a ∷ b ∷ c ∷ words) h = refl

pub spread_is : (words : List ℕ)
    → spread words ≡ (get_or words 0 0 + form_unit * this_form.number) ∷ get_or words 1 0 ∷ get_or words 2 0 ∷ (spread_fields fields (drop first_at words) ++ replicate behind 0)
unfolding spread
spread_is words = refl

-- words that are spread to the same are the same
pub spread_one : (xs ys : List ℕ) → length xs ≡ 256 → length ys ≡ 256 → spread xs ≡ spread ys → xs ≡ ys
spread_one xs ys h g e =
    let same = sym (spread_is xs) ∙ e ∙ spread_is ys in
    let dx = length-drop first_at xs in
    let dy = length-drop first_at ys in
    let lx = spread_length fields (drop first_at xs) (omega arith) in
    let ly = spread_length fields (drop first_at ys) (omega arith) in
    let head = ap (λ ws. get_or ws 0 0) same in
    let first : get_or xs 0 0 ≡ get_or ys 0 0 = omega arith in
    let next : get_or xs 1 0 ≡ get_or ys 1 0 = ap (λ ws. get_or ws 1 0) same in
    let page : get_or xs 2 0 ≡ get_or ys 2 0 = ap (λ ws. get_or ws 2 0) same in
    let bodies : spread_fields fields (drop first_at xs) ≡ spread_fields fields (drop first_at ys) =
    sym (front 453 (spread_fields fields (drop first_at xs)) (replicate behind 0) (omega arith)) ∙ ap (λ ws. take 453 (drop first_at ws)) same ∙ front 453
    (spread_fields fields (drop first_at ys)) (replicate behind 0) (omega arith) in
    let rest = fields_one fields (drop first_at xs) (drop first_at ys) (omega arith) (omega arith) bodies in
    cut xs (omega arith) ∙ (λ i. first i ∷ next i ∷ page i ∷ rest i) ∙ sym (cut ys (omega arith))

-- a row that is written part by part
pub spread_written : (words a b c d f z : List ℕ) (left : ℕ) → length words ≡ 256 → a ≡ [] → b ≡ a ++ (get_or words 0 0 + form_unit * this_form.number) ∷ []
    → c ≡ b ++ get_or words 1 0 ∷ [] → d ≡ c ++ get_or words 2 0 ∷ []
    → f ≡ d ++ spread_fields fields (drop first_at words) → left ≡ 512 - length f → z ≡ f ++ replicate left 0 → z ≡ spread words
spread_written words a b c d f z left long at bt ct dt ft lt zt =
    let head : ℕ = get_or words 0 0 + form_unit * this_form.number in
    let body : List ℕ = spread_fields fields (drop first_at words) in
    let d_is : d ≡ head ∷ get_or words 1 0 ∷ get_or words 2 0 ∷ [] = dt ∙ ap (λ xs. xs ++ get_or words 2 0 ∷ []) (ct ∙ ap (λ xs. xs ++ get_or words 1 0 ∷ []) (bt ∙ ap (λ xs. xs ++ head ∷ []) at)) in
    let f_is : f ≡ head ∷ get_or words 1 0 ∷ get_or words 2 0 ∷ body = ft ∙ ap (λ xs. xs ++ body) d_is in
    let cut_length = length-drop first_at words in
    let body_length = spread_length fields (drop first_at words) (omega arith) in
    let f_length : length f ≡ length (head ∷ get_or words 1 0 ∷ get_or words 2 0 ∷ body) = ap length f_is in
    let left_is : left ≡ behind = omega arith in
    zt ∙ (λ i. f_is i ++ replicate (left_is i) 0) ∙ sym (spread_is words)
