-- Sums and products of cents. They stop at 2^64 - 1, differences at 0.
use Rattle.std.specs.Prelude.{ℕ, ◌+◌, ◌-◌, ◌*◌, min}
use Rattle.measures.specs.Rounding.{rounded}
use Rattle.measures.specs.declared.Cents.{Cents}

abbrev pub most : ℕ
most = 18446744073709551615

abbrev pub product_of : ℕ → ℕ → ℕ
product_of a b = min (a * b) most

abbrev pub cents : ℕ → Cents
cents n = record { 0 = n }

abbrev pub plus_of : Cents → Cents → Cents
plus_of a b = cents (min (a.0 + b.0) most)

abbrev pub minus_of : Cents → Cents → Cents
minus_of a b = cents (a.0 - b.0)

abbrev pub least_of : Cents → Cents → Cents
least_of a b = cents (min a.0 b.0)

abbrev pub times_of : Cents → ℕ → Cents
times_of a n = cents (product_of a.0 n)

abbrev pub rounded_of : Cents → ℕ → Cents
rounded_of a d = cents (rounded a.0 d)
