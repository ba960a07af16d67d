-- The law of rounding, and what the code's remainder says of it.
use Prim.Native.Nat.{ℕ, ◌+◌, ◌-◌, ◌*◌, ◌/◌, ◌%◌, ◌<◌, ◌≤◌}
use mathlib.Core.Path.{◌≡◌, ap, ◌∙◌}
use native.Mathlib.Nat.{le-div_iff_mul-le, div-eq_of_lt-le, add-mul, one-mul, mul_left_comm, div-add-mod', mod-lt, div-zero, mul-le-mul_right, div-mul-le_self, lt-div-mul-add}
use native.Mathlib.Omega.{arith}
use Rattle.measures.specs.Rounding.{rounded, gap, Rounds, Floors}

next_multiple : (m k : ℕ) → (m + 1) * k ≡ m * k + k
next_multiple m k = add-mul m 1 k ∙ ap (λ (z : ℕ). m * k + z) (one-mul k)

-- twice the rest, and one more where the quotient is odd: it is rounded up where this is above the divisor
abbrev pub doubled : ℕ → ℕ → ℕ
doubled n d = n % d + n % d + n / d % 2

pub up : (n d : ℕ) → 0 < d → d < doubled n d → rounded n d ≡ n / d + 1
unfolding rounded
up n d hd h =
    let m = mod-lt n hd in
    let s = div-add-mod' n d in
    let f : n / d * (2 * d) ≡ 2 * (n / d * d) = mul_left_comm (n / d) 2 d in
    let e = next_multiple (n / d) (2 * d) in
    let g = next_multiple (n / d + 1) (2 * d) in
    div-eq_of_lt-le (2 * d) (omega arith) (omega arith)

pub down : (n d : ℕ) → 0 < d → doubled n d ≤ d → rounded n d ≡ n / d
unfolding rounded
down n d hd h =
    let s = div-add-mod' n d in
    let f : n / d * (2 * d) ≡ 2 * (n / d * d) = mul_left_comm (n / d) 2 d in
    let e = next_multiple (n / d) (2 * d) in
    div-eq_of_lt-le (2 * d) (omega arith) (omega arith)

pub by_zero : (n : ℕ) → rounded n 0 ≡ 0
unfolding rounded
by_zero n = div-zero _

pub rounded_most : (n d : ℕ) → rounded n d ≤ n / d + 1
rounded_most n d = grind (arith, by_zero n, up n d, down n d)

bounds : (n d : ℕ) → 0 < d → (2 * (rounded n d * d) ≤ 2 * n + d) × (2 * n ≤ 2 * (rounded n d * d) + d)
unfolding rounded
bounds n d hd =
    let x = 2 * n + d - 1 + n / d % 2 in
    let q = x / (2 * d) in
    let e : q * (2 * d) ≡ 2 * (q * d) = mul_left_comm q 2 d in
    let l = div-mul-le_self x (2 * d) in
    let h : x < q * (2 * d) + 2 * d = lt-div-mul-add (omega arith) in
    (omega arith, omega arith)

-- the multiple of a smaller number is a divisor below, or more
further_multiple : (m q d : ℕ) → m < q → m * d + d ≤ q * d
further_multiple m q d h =
    let e = next_multiple m d in
    let l : (m + 1) * d ≤ q * d = mul-le-mul_right d (omega arith) in
    omega arith

apart : (n d q m : ℕ) → (2 * (q * d) ≤ 2 * n + d) × (2 * n ≤ 2 * (q * d) + d) → gap n (q * d) ≤ gap n (m * d)
apart n d q m b =
    let same : m ≡ q → m * d ≡ q * d = ap (λ (x : ℕ). x * d) in
    grind (arith, same, further_multiple m q d, further_multiple q m d)

halfway : (n d m : ℕ) → 0 < d → 2 * n ≡ 2 * (m * d) + d → rounded n d ≡ m + m % 2
halfway n d m hd h =
    let e = next_multiple m d in
    let whole : n / d ≡ m = div-eq_of_lt-le d (omega arith) (omega arith) in
    let multiple : n / d * d ≡ m * d = ap (λ (q : ℕ). q * d) whole in
    let s = div-add-mod' n d in
    grind (arith, up n d hd, down n d hd)

pub rounds : Rounds
rounds n d hd = record { nearest = λ m. apart n d (rounded n d) m (bounds n d hd); half_even = λ m h. omega (arith, halfway n d m hd h) }

pub floors : Floors
floors n d hd = record { fits = div-mul-le_self n d; greatest = λ m h. (le-div_iff_mul-le hd).1 h }
