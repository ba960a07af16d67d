-- A day's year has a place among the years.
use Prim.Native.Nat.{ℕ, ◌<◌}
use native.Mathlib.Omega.{arith}
use Rattle.calendar.specs.Years.{year_of}
use Rattle.calendar.proofs.Years.{year_most}
use Rattle.years.specs.Years.{years_most}

pub year_inside : (d : ℕ) → year_of d < years_most
year_inside d = omega (arith, year_most d)
