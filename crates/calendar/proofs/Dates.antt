-- A real date as a year, a month and a day counted from 0, and the day that it is.
use Prim.Native.Nat.{ℕ, suc, ◌+◌, ◌-◌, ◌<◌, ◌≤◌}
use mathlib.Core.Path.{◌≡◌, refl, ap, sym, ◌∙◌}
use mathlib.Core.Bool.{Bool, true, false}
use lib.Dec.{leb}
use borrow.Author.Tests.{le-leb, lt-leb}
use native.Mathlib.Omega.{arith}
use Rattle.std.proofs.lemmas.Bool.Decides.{nat_tests}
use Rattle.measures.specs.Days.{last_day}
use Rattle.calendar.specs.Years.{leap, days_of_year, days_of_month, first_day, year_of, month_start, month_of}
use Rattle.calendar.specs.Dates.{date, no_date, date_in, date_of, month_days, real, never, day_of}
use Rattle.calendar.specs.declared.Date.{Date}
use Rattle.calendar.proofs.Spans.{start_next, starts_rise, span_is}
use Rattle.calendar.proofs.Years.{month_range, next_year, first_day_lem, year_most, year_begun, year_inside, month_most, month_begun, month_inside}

pub record At (y m k : ℕ) : Type 0 where
  pub year : y < 100
  pub month : m < 12
  pub day : k < days_of_month (leap (2000 + y)) m

abbrev pub day_at : ℕ → ℕ → ℕ → ℕ
day_at y m k = first_day y + month_start (leap (2000 + y)) m + k

abbrev pub date_at : ℕ → ℕ → ℕ → Date
date_at y m k = date (2000 + y) (m + 1) (k + 1)

-- it is before the next month, the next year, and the end of the hundred years
pub before_next_month : {y m k : ℕ} → At y m k → month_start (leap (2000 + y)) m + k < month_start (leap (2000 + y)) (suc m)
before_next_month {y} {m} {k} a = omega (arith, start_next (days_of_month (leap (2000 + y))) m)

pub before_twelve : {y m k : ℕ} → At y m k → month_start (leap (2000 + y)) m + k < month_start (leap (2000 + y)) 12
before_twelve {y} {m} {k} a = omega (arith, before_next_month a, starts_rise (days_of_month (leap (2000 + y))) (suc m) 12 (omega arith))

pub before_next_year : {y m k : ℕ} → At y m k → day_at y m k < first_day (suc y)
before_next_year {y} a = omega (arith, before_twelve a, next_year y)

pub by_last : {y m k : ℕ} → At y m k → day_at y m k ≤ last_day
by_last {y} a = omega (arith, before_next_year a, starts_rise days_of_year (suc y) 100 (omega arith), first_day_lem 100)

-- what makes a date real
pub record Real (t : Date) : Type 0 where
  pub year_low : 2000 ≤ t.year
  pub year_high : t.year ≤ 2099
  pub month_low : 1 ≤ t.month
  pub month_high : t.month ≤ 12
  pub day_low : 1 ≤ t.day
  pub day_high : t.day ≤ month_days t

pub real_parts : (t : Date) → real t ≡ true → Real t
unfolding real
real_parts t e = grind (arith, nat_tests)

pub real_day : (t : Date) → 2000 ≤ t.year → t.year ≤ 2099 → 1 ≤ t.month → t.month ≤ 12 → 1 ≤ t.day → real t ≡ leb t.day (month_days t)
unfolding real
real_day t a b c d e = grind (arith, nat_tests)

pub uncounted : (t : Date) → real t ≡ false → day_of t ≡ never
unfolding day_of
uncounted t e = rw e refl

-- the date there is real, and the day is its day
pub real_at : {y m k : ℕ} → At y m k → real (date_at y m k) ≡ true
real_at {y} {m} {k} a =
    let e : m + 1 - 1 ≡ m = omega arith in
    real_day (date_at y m k) (omega arith) (omega arith) (omega arith) (omega arith) (omega arith)
    ∙ rw e (le-leb (k + 1) (days_of_month (leap (2000 + y)) m) (omega arith))

pub day_at_lem : {y m k : ℕ} → At y m k → day_of (date_at y m k) ≡ day_at y m k
unfolding day_of
day_at_lem {y} {m} {k} a =
    let e : 2000 + y - 2000 ≡ y = omega arith in
    let f : m + 1 - 1 ≡ m = omega arith in
    let g : k + 1 - 1 ≡ k = omega arith in
    rw (real_at a, e, f, g) refl

-- and the date is that day's
pub year_at : {y m k : ℕ} → At y m k → year_of (day_at y m k) ≡ y
year_at {y} {m} {k} a = span_is days_of_year 99 (day_at y m k) y (omega arith) (omega arith) (before_next_year a)

month_at : {y m k : ℕ} → At y m k → month_of (leap (2000 + y)) (month_start (leap (2000 + y)) m + k) ≡ m
month_at {y} {m} {k} a =
    let b = leap (2000 + y) in
    span_is (days_of_month b) 11 (month_start b m + k) m (omega arith) (omega arith) (before_next_month a)

pub date_at_lem : {y m k : ℕ} → At y m k → date_of (day_at y m k) ≡ date_at y m k
unfolding date_of date_in
date_at_lem {y} {m} {k} a =
    let b = leap (2000 + y) in
    let e : day_at y m k - first_day y ≡ month_start b m + k = omega arith in
    let f : month_start b m + k - month_start b m ≡ k = omega arith in
    rw (le-leb (day_at y m k) last_day (by_last a), year_at a, e, month_at a, f) refl

pub undated : (d : ℕ) → last_day < d → date_of d ≡ no_date
unfolding date_of
undated d h = rw (lt-leb d last_day h) refl

-- every day up to the last is somewhere
pub record Somewhere (d : ℕ) : Type 0 where
  pub y : ℕ
  pub m : ℕ
  pub k : ℕ
  pub at : At y m k
  pub is : day_at y m k ≡ d

pub somewhere : (d : ℕ) → d ≤ last_day → Somewhere d
somewhere d h =
    let b = leap (2000 + year_of d) in
    let k = d - first_day (year_of d) in
    record {
      y = year_of d;
      m = month_of b k;
      k = k - month_start b (month_of b k);
      at = record { year = omega (arith, year_most d); month = omega (arith, month_most b k); day = month_inside b k (year_inside d h) };
      is = omega (arith, year_begun d, month_begun b k);
    }

pub date_is : (d : ℕ) (h : d ≤ last_day) → date_of d ≡ date_at (somewhere d h).y (somewhere d h).m (somewhere d h).k
date_is d h = ap date_of (sym (somewhere d h).is) ∙ date_at_lem (somewhere d h).at

-- and so is every real date
year_again : (t : Date) → Real t → 2000 + (t.year - 2000) ≡ t.year
year_again t r = omega arith

pub at_date : (t : Date) → Real t → At (t.year - 2000) (t.month - 1) (t.day - 1)
at_date t r = record { year = omega arith; month = omega arith; day = rw (year_again t r) (omega arith) }

pub date_there : (t : Date) → Real t → date_at (t.year - 2000) (t.month - 1) (t.day - 1) ≡ t
date_there t r =
    let m : t.month - 1 + 1 ≡ t.month = omega arith in
    let k : t.day - 1 + 1 ≡ t.day = omega arith in
    rw (year_again t r, m, k) refl

pub day_is : (t : Date) → Real t → day_of t ≡ day_at (t.year - 2000) (t.month - 1) (t.day - 1)
day_is t r = ap day_of (sym (date_there t r)) ∙ day_at_lem (at_date t r)

-- what the code goes by at a real date, and at a day that has a date
pub record Counted (t : Date) : Type 0 where
  pub is_real : real t ≡ true
  pub parts : Real t
  pub fits : day_of t ≤ last_day
  pub is : day_of t ≡ first_day (t.year - 2000) + month_start (leap t.year) (t.month - 1) + (t.day - 1)

pub counted : (t : Date) → real t ≡ true → Counted t
counted t e =
    let r = real_parts t e in
    record { is_real = e; parts = r; fits = omega (arith, day_is t r, by_last (at_date t r)); is = rw (year_again t r) at (day_is t r) }

pub record Placed (d y k m s : ℕ) : Type 0 where
  pub year : y < 100
  pub in_year : first_day y ≤ d
  pub before_end : k < month_start (leap (2000 + y)) 12
  pub month : m < 12
  pub in_month : s ≤ k
  pub day : k - s < 31
  pub is : date_of d ≡ date (2000 + y) (m + 1) (k - s + 1)

-- the year of day d, the day in it, its month, and that month's first day in the year
abbrev PlacedIn : ℕ → ℕ → ℕ → Bool → Type 0
PlacedIn d y k b = Placed d y k (month_of b k) (month_start b (month_of b k))

pub placed : (d : ℕ) → d ≤ last_day → PlacedIn d (year_of d) (d - first_day (year_of d)) (leap (2000 + year_of d))
unfolding date_of date_in
placed d h =
    let b = leap (2000 + year_of d) in
    let k = d - first_day (year_of d) in
    let month : month_of b k < 12 = omega (arith, month_most b k) in
    record {
      year = omega (arith, year_most d);
      in_year = year_begun d;
      before_end = year_inside d h;
      month = month;
      in_month = month_begun b k;
      day = omega (arith, month_inside b k (year_inside d h), month_range b (month_of b k) month);
      is = rw (le-leb d last_day h) refl;
    }
