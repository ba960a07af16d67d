-- The theorem of specs/Calendar.antt.
use Prim.Native.Nat.{ℕ, suc, ◌+◌, ◌-◌, ◌%◌, ◌<◌, ◌≤◌}
use mathlib.Core.Path.{◌≡◌, refl, ap, sym, ◌∙◌}
use mathlib.Core.Bool.{Bool, true, false, cond, and-eq-true_iff}
use lib.Dec.{eqb, leb, ltb}
use borrow.Author.Tests.{eqb-true, ltb-true, ltb-false}
use native.Mathlib.Nat.{add_assoc}
use native.Mathlib.Numerals.{add-one}
use native.Mathlib.Omega.{arith}
use Rattle.measures.specs.Days.{last_day}
use Rattle.calendar.specs.Years.{leap, days_of_year, months, days_of_month, start, span_from, first_day, year_of, month_start}
use Rattle.calendar.specs.Dates.{date, date_in, date_of, real, day_of, next_of}
use Rattle.calendar.specs.Periods.{leap_day, same_date, years_on}
use Rattle.calendar.specs.Calendar.{Calendar}
use Rattle.calendar.proofs.Spans.{start_zero, start_next}
use Rattle.calendar.proofs.Years.{month_range, twelve_months, next_year, first_day_lem, year_after}
use Rattle.calendar.proofs.Dates.{At, day_at, date_at, by_last, real_parts, real_day, uncounted, undated, real_at, day_at_lem, year_at, date_at_lem, somewhere, date_is, at_date, date_there, day_is}
use Rattle.calendar.proofs.Periods.{end_date, on_year, past_end, after_last, reached}

-- the date of the next day: in the same month, on the first of the next, or on 1 January
module _ (y m k : ℕ) (a : At y m k) (h : day_at y m k < last_day) where
  b : Bool
  b = leap (2000 + y)

  next_at : date_of (suc (day_at y m k)) ≡ next_of (date_at y m k)
  unfolding next_of b
  next_at = go (ltb (k + 1) (days_of_month b (m + 1 - 1))) refl (ltb (m + 1) 12) refl
    where
      same : m + 1 - 1 ≡ m
      same = omega arith

      go : (t : Bool) → ltb (k + 1) (days_of_month b (m + 1 - 1)) ≡ t → (u : Bool) → ltb (m + 1) 12 ≡ u →
          date_of (suc (day_at y m k)) ≡ cond t (date (2000 + y) (m + 1) (k + 1 + 1)) (cond u (date (2000 + y) (m + 1 + 1) 1) (date (2000 + y + 1) 1 1))
      go true p u q =
          let l : k + 1 < days_of_month b m = rw same at (ltb-true (k + 1) (days_of_month b (m + 1 - 1)) p) in
          let z : At y m (k + 1) = record { year = a.year; month = a.month; day = l } in
          let e : suc (day_at y m k) ≡ day_at y m (k + 1) = omega arith in
          ap date_of e ∙ date_at_lem z
      go false p true q =
          let l : days_of_month b m ≤ k + 1 = rw same at (ltb-false (k + 1) (days_of_month b (m + 1 - 1)) p) in
          let m1 = ltb-true (m + 1) 12 q in
          let z : At y (m + 1) 0 = record { year = a.year; month = m1; day = omega (arith, month_range b (m + 1) m1) } in
          let n : month_start b (m + 1) ≡ month_start b m + days_of_month b m = rw (add-one m) (start_next (days_of_month b) m) in
          let e : suc (day_at y m k) ≡ day_at y (m + 1) 0 = omega (arith, a.day) in
          ap date_of e ∙ date_at_lem z
      go false p false q =
          let l : days_of_month b m ≤ k + 1 = rw same at (ltb-false (k + 1) (days_of_month b (m + 1 - 1)) p) in
          let m1 : suc m ≡ 12 = omega (arith, ltb-false (m + 1) 12 q, a.month) in
          let n : month_start b 12 ≡ month_start b m + days_of_month b m = rw m1 at (start_next (days_of_month b) m) in
          let f : first_day (y + 1) ≡ first_day y + month_start b 12 = rw (add-one y) (next_year y) in
          let d : suc (day_at y m k) ≡ first_day (y + 1) = omega (arith, a.day) in
          let y1 : y + 1 < 100 = omega (arith, first_day_lem (y + 1)) in
          let c = leap (2000 + (y + 1)) in
          let z : At (y + 1) 0 0 = record { year = y1; month = omega arith; day = omega (arith, month_range c 0 (omega arith)) } in
          let e : suc (day_at y m k) ≡ day_at (y + 1) 0 0 = omega (arith, start_zero (days_of_month c)) in
          ap date_of e ∙ date_at_lem z ∙ ap (λ (x : ℕ). date x 1 1) (sym (add_assoc 2000 y 1))

next_date : (d : ℕ) → d < last_day → date_of (suc d) ≡ next_of (date_of d)
next_date d h =
    let p = somewhere d (omega arith) in
    let l : day_at p.y p.m p.k < last_day = omega (arith, p.is) in
    ap (λ (x : ℕ). date_of (suc x)) (sym p.is) ∙ next_at p.y p.m p.k p.at l ∙ sym (ap next_of (date_is d (omega arith)))

has_29 : (b : Bool) → leb 29 (days_of_month b 1) ≡ b
unfolding days_of_month months
has_29 true = refl
has_29 false = refl

leap_days : (year : ℕ) → 2000 ≤ year → year ≤ 2099 → real (date year 2 29) ≡ eqb (year % 4) 0
unfolding leap
leap_days year l h = real_day (date year 2 29) l h (omega arith) (omega arith) (omega arith) ∙ has_29 (leap year)

-- a period that ends by 2099
module _ (n d : ℕ) (h : d ≤ last_day) (l : (date_of d).year + n ≤ 2099) where
  ended : date_of (years_on n d) ≡ same_date ((date_of d).year + n) (date_of d)
  ended = end_date n d _ _ _ (somewhere d h).at (somewhere d h).is (omega (arith, on_year n d h))

  keeps_date : leap_day (date_of d) ≡ false → date_of (years_on n d) ≡ date ((date_of d).year + n) (date_of d).month (date_of d).day
  unfolding same_date
  keeps_date e = ended ∙ rw e refl

  leap_to_leap : leap_day (date_of d) ≡ true → leap ((date_of d).year + n) ≡ true → date_of (years_on n d) ≡ date ((date_of d).year + n) 2 29
  unfolding same_date
  leap_to_leap e f =
      let p = (and-eq-true_iff (eqb (date_of d).month 2) (eqb (date_of d).day 29)).0 e in
      ended ∙ rw (e, f, eqb-true (date_of d).month 2 p.0, eqb-true (date_of d).day 29 p.1) refl

  leap_to_common : leap_day (date_of d) ≡ true → leap ((date_of d).year + n) ≡ false → date_of (years_on n d) ≡ date ((date_of d).year + n) 3 1
  unfolding same_date
  leap_to_common e f = ended ∙ rw (e, f) refl

pub calendar : Calendar
unfolding years_on same_date day_of date_of date_in real start span_from days_of_year days_of_month months leap
calendar =
    record {
      twelve_months = twelve_months;
      hundred_years = first_day_lem 100;
      first = refl;
      next = λ d h. next_date d (omega arith);
      dated = λ d h. rw (date_is d h) (real_at (somewhere d h).at);
      day_again = λ d h. rw (date_is d h) (day_at_lem (somewhere d h).at ∙ (somewhere d h).is);
      undated = λ d h. undated d (omega arith);
      counted = λ t h. let r = real_parts t h in omega (arith, day_is t r, by_last (at_date t r));
      date_again = λ t h. let r = real_parts t h in ap date_of (day_is t r) ∙ date_at_lem (at_date t r) ∙ date_there t r;
      uncounted = uncounted;
      no_day = omega arith;
      leap_days = leap_days;
      months_of_2000 = refl;
      months_of_2001 = refl;
      year = λ d h. let p = somewhere d h in on_year 0 d h ∙ ap (λ (y : ℕ). 2000 + y) (sym (year_at p.at) ∙ ap year_of p.is);
      late_year = year_after;
      keeps_date = keeps_date;
      leap_to_leap = leap_to_leap;
      leap_to_common = leap_to_common;
      past = past_end;
      after = after_last;
      reached = λ n d e g h. reached n d e (omega arith) (omega arith);
      from_0 = refl;
      from_59 = refl;
      from_100 = refl;
      from_34698 = refl;
      from_34699 = refl;
    }
