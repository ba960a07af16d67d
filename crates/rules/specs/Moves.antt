-- Two moves serve all kinds, here on plain numbers.
use Rattle.std.specs.Prelude.{ℕ, ◌-◌, min}

-- To credit c: arrears fall by the smaller of c and arrears, which is settled; the rest is left over.
abbrev pub settles : ℕ → ℕ → ℕ
settles c arrears = min c arrears

abbrev pub leaves : ℕ → ℕ → ℕ
leaves c arrears = c - settles c arrears

-- To charge c: credit falls by the smaller of c and credit, which is covered; the rest is added to arrears.
abbrev pub covers : ℕ → ℕ → ℕ
covers c credit = min c credit

abbrev pub owes : ℕ → ℕ → ℕ
owes c credit = c - covers c credit
