-- The theorem: what the definitions come to, over every day and every date. proofs/Calendar.antt shows it.
use Rattle.std.specs.Prelude.{ℕ, suc, ◌+◌, ◌*◌, ◌%◌, ◌<◌, ◌≤◌, ◌≡◌, true, false, List, [], ◌∷◌, map, eqb, leb}
use Rattle.measures.specs.Days.{last_day}
use Rattle.calendar.specs.Years.{leap, days_of_year, first_day, year_of, month_start}
use Rattle.calendar.specs.Dates.{date, no_date, date_of, real, never, day_of, next_of, yyyymmdd}
use Rattle.calendar.specs.Periods.{leap_day, years_on}
use Rattle.calendar.specs.declared.Date.{Date}

-- the first days of the months of a year
abbrev pub firsts : ℕ → List Date
firsts year = map (λ (m : ℕ). date year m 1) (1 ∷ 2 ∷ 3 ∷ 4 ∷ 5 ∷ 6 ∷ 7 ∷ 8 ∷ 9 ∷ 10 ∷ 11 ∷ 12 ∷ [])

pub record Calendar : Type 0 where
  -- the months of a year have its days, and the hundred years end with the last day
  pub twelve_months : (y : ℕ) → month_start (leap (2000 + y)) 12 ≡ days_of_year y
  pub hundred_years : first_day 100 ≡ suc last_day
  -- day 0 is 1 January 2000, and the next day is the next date
  pub first : date_of 0 ≡ date 2000 1 1
  pub next : (d : ℕ) → d < last_day → date_of (suc d) ≡ next_of (date_of d)
  -- every day up to the last has a real date, whose day it is; a later one has none
  pub dated : (d : ℕ) → d ≤ last_day → real (date_of d) ≡ true
  pub day_again : (d : ℕ) → d ≤ last_day → day_of (date_of d) ≡ d
  pub undated : (d : ℕ) → last_day < d → date_of d ≡ no_date
  -- every real date has a day up to the last, whose date it is; every other is never, which is no day
  pub counted : (t : Date) → real t ≡ true → day_of t ≤ last_day
  pub date_again : (t : Date) → real t ≡ true → date_of (day_of t) ≡ t
  pub uncounted : (t : Date) → real t ≡ false → day_of t ≡ never
  pub no_day : last_day < never
  -- a year has 29 February exactly where its number is divisible by 4
  pub leap_days : (year : ℕ) → 2000 ≤ year → year ≤ 2099 → real (date year 2 29) ≡ eqb (year % 4) 0
  -- the months of a leap year and of a common one begin on these days
  pub months_of_2000 : map date_of (0 ∷ 31 ∷ 60 ∷ 91 ∷ 121 ∷ 152 ∷ 182 ∷ 213 ∷ 244 ∷ 274 ∷ 305 ∷ 335 ∷ []) ≡ firsts 2000
  pub months_of_2001 : map date_of (366 ∷ 397 ∷ 425 ∷ 456 ∷ 486 ∷ 517 ∷ 547 ∷ 578 ∷ 609 ∷ 639 ∷ 670 ∷ 700 ∷ []) ≡ firsts 2001
  -- the year of a day is its date's; later days count in the last
  pub year : (d : ℕ) → d ≤ last_day → (date_of d).year ≡ 2000 + year_of d
  pub late_year : (d : ℕ) → last_day < d → year_of d ≡ 99
  -- a period ends on the same date; from 29 February, where the end year is common, on 1 March
  pub keeps_date : (n d : ℕ) → d ≤ last_day → (date_of d).year + n ≤ 2099 → leap_day (date_of d) ≡ false →
      date_of (years_on n d) ≡ date ((date_of d).year + n) (date_of d).month (date_of d).day
  pub leap_to_leap : (n d : ℕ) → d ≤ last_day → (date_of d).year + n ≤ 2099 → leap_day (date_of d) ≡ true → leap ((date_of d).year + n) ≡ true →
      date_of (years_on n d) ≡ date ((date_of d).year + n) 2 29
  pub leap_to_common : (n d : ℕ) → d ≤ last_day → (date_of d).year + n ≤ 2099 → leap_day (date_of d) ≡ true → leap ((date_of d).year + n) ≡ false →
      date_of (years_on n d) ≡ date ((date_of d).year + n) 3 1
  -- where the end year is past 2099 it never ends, nor does one from a day after the last
  pub past : (n d : ℕ) → 2099 < (date_of d).year + n → years_on n d ≡ never
  pub after : (n d : ℕ) → last_day < d → years_on n d ≡ never
  -- it has ended on a day exactly when that day's date, as a number, has reached the first day's with n more years
  pub reached : (n d e : ℕ) → d ≤ last_day → e ≤ last_day → leb (years_on n d) e ≡ leb (yyyymmdd (date_of d) + 10000 * n) (yyyymmdd (date_of e))
  -- five years from day 0, from 29 February 2000, from P6's day, and the last that end
  pub from_0 : years_on 5 0 ≡ 1827
  pub from_59 : years_on 5 59 ≡ 1886
  pub from_100 : years_on 5 100 ≡ 1926
  pub from_34698 : years_on 5 34698 ≡ last_day
  pub from_34699 : years_on 5 34699 ≡ never
