-- Sums of numbers of which none grows, but at one place, or at two.
use Rattle.tree_law.proofs.Words.{suc, ◌≢◌, ◌≤◌, sym, ℕ, ◌≡◌, zero, ◌∙◌, ◌<◌, arith, ◌+◌, ◌*◌, total}
use Rattle.std.proofs.Math.Nat.{mul-suc}
use Rattle.tree_law.proofs.shape.Puts.{by_equal}

-- numbers that are no greater have no greater sum
pub none : (f g : ℕ → ℕ) (n : ℕ) → ((i : ℕ) → i < n → g i ≤ f i) → total g n ≤ total f n
none f g zero each = omega arith
none f g (suc n) each =
    let rest : total g n ≤ total f n = none f g n (λ i lt. each i (omega arith)) in
    let here : g n ≤ f n = each n (omega arith) in
    omega arith

not_last : (i n : ℕ) → i < n → i ≢ n
not_last i n lt same = omega arith

-- those that are no greater but at one place
pub one : (f g : ℕ → ℕ) (p n : ℕ) → p < n → ((i : ℕ) → i < n → i ≢ p → g i ≤ f i) → total g n + f p ≤ total f n + g p
one f g p zero lt each = absurd (omega arith)
one f g p (suc n) lt each = by_equal p n
    (λ same t.
    let rest : total g n ≤ total f n = none f g n (λ i below. each i (omega arith) (λ e. not_last i n below (e ∙ same))) in
    rw same (omega arith))
    (λ ne t.
    let rest : total g n + f p ≤ total f n + g p = one f g p n (omega (arith, lt, ne)) (λ i below. each i (omega arith)) in
    let here : g n ≤ f n = each n (omega arith) (λ e. ne (sym e)) in
    omega arith)

-- or at two places
pub two : (f g : ℕ → ℕ) (p q n : ℕ) → p < n → q < n → p ≢ q → ((i : ℕ) → i < n → i ≢ p → i ≢ q → g i ≤ f i) → total g n + (f p + f q) ≤ total f n + (g p + g q)
two f g p q zero lt lt' apart each = absurd (omega arith)
two f g p q (suc n) lt lt' apart each = by_equal p n
    (λ same t.
    let less : q ≢ n = (λ e. apart (same ∙ sym e)) in
    let rest : total g n + f q ≤ total f n + g q = one f g q n (omega (arith, lt', less)) (λ i below other. each i (omega arith) (λ e. not_last i n below (e ∙ same)) other) in
    rw same (omega arith))
    (λ ne t. by_equal q n
    (λ same u.
    let rest : total g n + f p ≤ total f n + g p = one f g p n (omega (arith, lt, ne)) (λ i below other. each i (omega arith) other (λ e. not_last i n below (e ∙ same))) in
    rw same (omega arith))
    (λ ne' u.
    let rest : total g n + (f p + f q) ≤ total f n + (g p + g q) = two f g p q n (omega (arith, lt, ne)) (omega (arith, lt', ne')) apart (λ i below. each i (omega arith)) in
    let here : g n ≤ f n = each n (omega arith) (λ e. ne (sym e)) (λ e. ne' (sym e)) in
    omega arith))

-- numbers of which none is more than the most
pub bounded : (f : ℕ → ℕ) (most n : ℕ) → ((i : ℕ) → f i ≤ most) → total f n ≤ most * n
bounded f most zero each = omega arith
bounded f most (suc n) each =
    let rest : total f n ≤ most * n = bounded f most n each in
    let here : f n ≤ most = each n in
    let more : most * suc n ≡ most * n + most = mul-suc most n in
    omega (arith, rest, here, more)
