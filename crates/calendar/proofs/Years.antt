-- Years and months: their lengths, their starts by formulas, and the year and the month of a day.
use Prim.Native.Nat.{ℕ, min, zero, suc, ◌+◌, ◌-◌, ◌*◌, ◌/◌, ◌%◌, ◌<◌, ◌≤◌}
use mathlib.Core.Path.{◌≡◌, refl, sym}
use mathlib.Core.Bool.{Bool, true, false, cond, ◌&&◌}
use lib.ListN.{get_or}
use lib.Dec.{eqb, leb}
use borrow.Author.Tests.{eqb-true, eqb-false}
use native.Mathlib.Numerals.{add-one}
use native.Mathlib.Omega.{arith}
use Rattle.std.proofs.lemmas.Bool.Decides.{nat_tests}
use Rattle.measures.specs.Days.{last_day}
use Rattle.calendar.specs.Years.{leap, days_of_year, months, days_of_month, start, span_from, first_day, year_of, month_start, month_of}
use Rattle.calendar.specs.declared.TheConstants.{MONTH_STARTS}
use Rattle.calendar.proofs.Spans.{start_zero, start_next, starts_rise, span_most, span_begun, span_next, span_is, same_below, le_below}

-- a month has 28 to 31 days
pub month_range : (b : Bool) (m : ℕ) → m < 12 → (28 ≤ days_of_month b m) × (days_of_month b m ≤ 31)
unfolding days_of_month months
month_range true m h = (le_below (λ m. 28) (days_of_month true) 12 refl m h, le_below (days_of_month true) (λ m. 31) 12 refl m h)
month_range false m h = (le_below (λ m. 28) (days_of_month false) 12 refl m h, le_below (days_of_month false) (λ m. 31) 12 refl m h)

-- twelve months are a year
pub year_days : (b : Bool) → month_start b 12 ≡ cond b 366 365
unfolding start days_of_month months
year_days true = refl
year_days false = refl

pub twelve_months : (y : ℕ) → month_start (leap (2000 + y)) 12 ≡ days_of_year y
unfolding days_of_year
twelve_months y = year_days (leap (2000 + y))

pub year_range : (b : Bool) → (365 ≤ month_start b 12) × (month_start b 12 ≤ 366)
year_range true = omega (arith, year_days true)
year_range false = omega (arith, year_days false)

pub next_year : (y : ℕ) → first_day (suc y) ≡ first_day y + month_start (leap (2000 + y)) 12
next_year y = omega (arith, start_next days_of_year y, twelve_months y)

pub next_month : (b : Bool) (m : ℕ) → month_start b (m + 1) ≡ month_start b m + days_of_month b m
next_month b m = rw (add-one m) (start_next (days_of_month b) m)

-- what a leap year has more
pub february : (m : ℕ) → m < 12 → days_of_month true m ≡ days_of_month false m + cond (eqb m 1) 1 0
unfolding days_of_month months
february = same_below (days_of_month true) (λ m. days_of_month false m + cond (eqb m 1) 1 0) 12 refl

-- the code's table, with a leap year's day more from March on
pub by_table : (b : Bool) (m : ℕ) → m < 13 → month_start b m ≡ get_or MONTH_STARTS m 0 + cond (b && leb 2 m) 1 0
unfolding start days_of_month months
by_table true = same_below (month_start true) (λ m. get_or MONTH_STARTS m 0 + cond (leb 2 m) 1 0) 13 refl
by_table false = same_below (month_start false) (λ m. get_or MONTH_STARTS m 0 + 0) 13 refl

pub march : (m : ℕ) → m < 13 → month_start true m ≡ month_start false m + cond (leb 2 m) 1 0
march m h = omega (arith, by_table true m h, by_table false m h)

-- a leap year by its number from 2000
pub leap_year : (y : ℕ) → leap (2000 + y) ≡ true → y % 4 ≡ 0
unfolding leap
leap_year y q = let e = eqb-true ((2000 + y) % 4) 0 q in omega arith

pub common_year : (y : ℕ) → leap (2000 + y) ≡ false → 0 < y % 4
unfolding leap
common_year y q = let e = eqb-false ((2000 + y) % 4) 0 q in omega arith

-- the first day of a year: a day more for each leap year before it
pub first_day_lem : (y : ℕ) → first_day y ≡ 365 * y + (y + 3) / 4
first_day_lem zero = start_zero days_of_year
first_day_lem (suc y) = grind (arith, first_day_lem y, next_year y, leap_year y, common_year y, year_days (leap (2000 + y)))

-- the year of a day
pub year_most : (d : ℕ) → year_of d ≤ 99
year_most d = span_most days_of_year 99 0 d

pub year_begun : (d : ℕ) → first_day (year_of d) ≤ d
year_begun d = span_begun days_of_year 99 0 d (omega (arith, start_zero days_of_year))

pub year_inside : (d : ℕ) → d ≤ last_day → d - first_day (year_of d) < month_start (leap (2000 + year_of d)) 12
year_inside d h = omega (arith, year_begun d, span_next days_of_year 99 0 d (omega (arith, first_day_lem 100)), next_year (year_of d))

year_within : (d : ℕ) → d ≤ last_day → year_of d ≡ 4 * d / 1461
year_within d h =
    span_is days_of_year 99 d (4 * d / 1461) (omega arith)
    (omega (arith, first_day_lem (4 * d / 1461)))
    (omega (arith, first_day_lem (suc (4 * d / 1461))))

-- a day after the last is in none of the hundred, and so in the last
past_all : (n i d : ℕ) → first_day (i + n) ≤ d → span_from days_of_year n i d ≡ i + n
unfolding span_from
past_all zero i d h = omega arith
past_all (suc n) i d h = grind (arith, nat_tests, past_all n (suc i) d, starts_rise days_of_year (suc i) (i + suc n))

pub year_after : (d : ℕ) → last_day < d → year_of d ≡ 99
year_after d h = past_all 99 0 d (omega (arith, first_day_lem 99))

pub year_is : (d : ℕ) → year_of d ≡ min (4 * d / 1461) 99
year_is d = grind (arith, year_within d, year_after d)

-- the month of a year's day
pub month_most : (b : Bool) (k : ℕ) → month_of b k ≤ 11
month_most b k = span_most (days_of_month b) 11 0 k

pub month_begun : (b : Bool) (k : ℕ) → month_start b (month_of b k) ≤ k
month_begun b k = span_begun (days_of_month b) 11 0 k (omega (arith, start_zero (days_of_month b)))

pub month_inside : (b : Bool) (k : ℕ) → k < month_start b 12 → k - month_start b (month_of b k) < days_of_month b (month_of b k)
month_inside b k h = omega (arith, month_begun b k, span_next (days_of_month b) 11 0 k h, start_next (days_of_month b) (month_of b k))

-- 32 days are more than a month has and fewer than two have, so that it is the day by 32 or the next

one_month : (b : Bool) (m : ℕ) → m < 12 → month_start b m ≤ 32 * m
unfolding start days_of_month months
one_month true = le_below (month_start true) (λ m. 32 * m) 12 refl
one_month false = le_below (month_start false) (λ m. 32 * m) 12 refl

two_months : (b : Bool) (m : ℕ) → m < 11 → 32 * m + 32 ≤ month_start b (suc (suc m))
unfolding start days_of_month months
two_months true = le_below (λ m. 32 * m + 32) (λ m. month_start true (suc (suc m))) 11 refl
two_months false = le_below (λ m. 32 * m + 32) (λ m. month_start false (suc (suc m))) 11 refl

module _ (b : Bool) (k : ℕ) (h : k < month_start b 12) where
  month_is : (m : ℕ) → m < 12 → month_start b m ≤ k → k < month_start b (suc m) → m ≡ month_of b k
  month_is m o lo hi = sym (span_is (days_of_month b) 11 k m (omega arith) lo hi)

  pub month_next : k / 32 < 11 → month_start b (k / 32 + 1) ≤ k → k / 32 + 1 ≡ month_of b k
  month_next o l = month_is (k / 32 + 1) (omega arith) l (rw add-one (omega (arith, two_months b (k / 32) o)))

  pub month_same : k / 32 < 11 → k < month_start b (k / 32 + 1) → k / 32 ≡ month_of b k
  month_same o l = month_is (k / 32) (omega arith) (omega (arith, one_month b (k / 32))) (rw add-one at l)

  pub december : 11 ≤ k / 32 → k / 32 ≡ month_of b k
  december o =
      let e : k / 32 ≡ 11 = omega (arith, year_range b) in
      month_is (k / 32) (omega arith) (omega (arith, one_month b (k / 32))) (rw e h)
