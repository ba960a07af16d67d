-- Rounding (to the nearest in kinds 3 and 6, down in kinds 2 and 10): one law of each, for any divisor.
use Rattle.std.specs.Prelude.{ℕ, ◌+◌, ◌-◌, ◌*◌, ◌/◌, ◌%◌, ◌<◌, ◌≤◌, ◌≡◌}

-- n by d to the nearest whole number, an exact half to the even one; 0 where d is 0
unfoldable pub rounded : ℕ → ℕ → ℕ
rounded n d = (2 * n + d - 1 + n / d % 2) / (2 * d)

-- how far two numbers are apart
abbrev pub gap : ℕ → ℕ → ℕ
gap a b = a - b + (b - a)

-- q is n / d to the nearest whole number, and the even one of m and m + 1 where n / d is halfway between them
pub record Nearest (n d q : ℕ) : Type 0 where
  pub nearest : (m : ℕ) → gap n (q * d) ≤ gap n (m * d)
  pub half_even : (m : ℕ) → 2 * n ≡ 2 * (m * d) + d → q ≡ m + m % 2

-- the law, for any divisor; proofs/Rounding.antt shows it
abbrev pub Rounds : Type 0
Rounds = (n d : ℕ) → 0 < d → Nearest n d (rounded n d)

-- q is n / d rounded down: the greatest number whose multiple by d is at most n
pub record Floor (n d q : ℕ) : Type 0 where
  pub fits : q * d ≤ n
  pub greatest : (m : ℕ) → m * d ≤ n → m ≤ q

-- a quotient is rounded down; proofs/Rounding.antt shows it
abbrev pub Floors : Type 0
Floors = (n d : ℕ) → 0 < d → Floor n d (n / d)
