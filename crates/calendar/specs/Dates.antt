-- Dates from 2000-01-01 to 2099-12-31, and the days that they are.
use Rattle.std.specs.Prelude.{ℕ, ◌+◌, ◌-◌, ◌*◌, Bool, cond, ◌&&◌, leb, ltb, List, ◌∷◌, ◌++◌, decimal}
use Rattle.measures.specs.Days.{last_day}
use Rattle.calendar.specs.Years.{leap, days_of_month, first_day, year_of, month_start, month_of}
use Rattle.calendar.specs.declared.Date.{Date}

abbrev pub date : ℕ → ℕ → ℕ → Date
date year month d = record { year = year; month = month; day = d }

-- what a day after the last has
abbrev pub no_date : Date
no_date = date 0 0 0

-- the date of a year's day k
unfoldable pub date_in : ℕ → ℕ → Date
date_in y k =
    let long = leap (2000 + y) in
    let m = month_of long k in
    date (2000 + y) (m + 1) (k - month_start long m + 1)

unfoldable pub date_of : ℕ → Date
date_of d = cond (leb d last_day) (date_in (year_of d) (d - first_day (year_of d))) no_date

-- the days of a date's month
abbrev pub month_days : Date → ℕ
month_days t = days_of_month (leap t.year) (t.month - 1)

-- the calendar has such a date
unfoldable pub real : Date → Bool
real t = leb 2000 t.year && leb t.year 2099 && (leb 1 t.month && leb t.month 12) && (leb 1 t.day && leb t.day (month_days t))

-- above every day: what a date that is not real has
abbrev pub never : ℕ
never = 65535

unfoldable pub day_of : Date → ℕ
day_of t = cond (real t) (first_day (t.year - 2000) + month_start (leap t.year) (t.month - 1) + (t.day - 1)) never

-- the date after a date
unfoldable pub next_of : Date → Date
next_of t =
    cond (ltb t.day (month_days t)) (date t.year t.month (t.day + 1))
    (cond (ltb t.month 12) (date t.year (t.month + 1) 1) (date (t.year + 1) 1 1))

-- a date as the number that it is written as without hyphens
abbrev pub yyyymmdd : Date → ℕ
yyyymmdd t = 10000 * t.year + 100 * t.month + t.day

-- a number in decimal, of two digits at least
abbrev pub two_digits : ℕ → List ℕ
two_digits n = cond (ltb n 10) (48 ∷ decimal n) (decimal n)

-- a date as it is printed
abbrev pub date_text : Date → List ℕ
date_text t = decimal t.year ++ (45 ∷ two_digits t.month ++ (45 ∷ two_digits t.day))
