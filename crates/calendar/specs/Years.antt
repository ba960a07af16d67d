-- Years and months, as a calendar is told. Day 0 is 1 January 2000. A year y is 2000 + y, and months and days are counted from 0; `leap` takes a year's
-- number.
use Rattle.std.specs.Prelude.{ℕ, zero, suc, ◌+◌, ◌%◌, Bool, cond, List, [], ◌∷◌, eqb, ltb, get_or}

-- from 2000 to 2099 a year whose number is divisible by 4 is a leap year
unfoldable pub leap : ℕ → Bool
leap year = eqb (year % 4) 0

-- the days of a leap year and of a common one
unfoldable pub days_of_year : ℕ → ℕ
days_of_year y = cond (leap (2000 + y)) 366 365

-- the days of the months, in a leap year (true) or a common one
unfoldable pub months : Bool → List ℕ
months long = 31 ∷ cond long 29 28 ∷ 31 ∷ 30 ∷ 31 ∷ 30 ∷ 31 ∷ 31 ∷ 30 ∷ 31 ∷ 30 ∷ 31 ∷ []

unfoldable pub days_of_month : Bool → ℕ → ℕ
days_of_month long m = get_or (months long) m 0

-- Spans that follow one another, of so many days each: the days before the i-th,
unfoldable pub start : (ℕ → ℕ) → ℕ → ℕ
start days zero = 0
start days (suc i) = start days i + days i

-- and, of the i-th and n more, the first that ends after day d, else the last
unfoldable pub span_from : (ℕ → ℕ) → ℕ → ℕ → ℕ → ℕ
span_from days zero i d = i
span_from days (suc n) i d = cond (ltb d (start days (suc i))) i (span_from days n (suc i) d)

-- the first day of a year
abbrev pub first_day : ℕ → ℕ
first_day y = start days_of_year y

-- the year of a day, up to 99; later days count in that one
abbrev pub year_of : ℕ → ℕ
year_of d = span_from days_of_year 99 0 d

-- the days of a year before a month, and the month of a year's day
abbrev pub month_start : Bool → ℕ → ℕ
month_start long m = start (days_of_month long) m

abbrev pub month_of : Bool → ℕ → ℕ
month_of long k = span_from (days_of_month long) 11 0 k
