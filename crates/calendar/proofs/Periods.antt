-- The ends of periods: the date, the day by a formula, and when it is reached.
use Prim.Native.Nat.{ℕ, suc, ◌+◌, ◌-◌, ◌*◌, ◌/◌, ◌<◌, ◌≤◌}
use mathlib.Core.Path.{◌≡◌, refl, ap, sym, subst, ◌∙◌}
use mathlib.Core.Logic.{⊎_elim}
use mathlib.Core.Bool.{Bool, true, false, cond, and-false}
use lib.Dec.{eqb, leb}
use borrow.Author.Tests.{le-leb, lt-leb}
use native.Mathlib.Nat.{add_assoc}
use native.Mathlib.Omega.{arith}
use Rattle.std.proofs.lemmas.Bool.Decides.{nat_tests}
use Rattle.std.proofs.lemmas.Bool.{cases_order}
use Rattle.measures.specs.Days.{last_day}
use Rattle.calendar.specs.Years.{leap, days_of_year, months, days_of_month, start, first_day, month_start}
use Rattle.calendar.specs.Dates.{date, date_of, real, never, day_of, yyyymmdd}
use Rattle.calendar.specs.Periods.{leap_day, same_date, years_on}
use Rattle.calendar.specs.declared.Date.{Date}
use Rattle.calendar.proofs.Spans.{start_next, starts_rise}
use Rattle.calendar.proofs.Years.{month_range, year_range, next_year, february, march, leap_year, common_year, first_day_lem}
use Rattle.calendar.proofs.Dates.{At, day_at, date_at, before_next_month, before_twelve, before_next_year, by_last, uncounted, day_at_lem, date_at_lem, somewhere, date_is}

-- 29 February, counted from 0
leap_day_parts : (m k : ℕ) → leap_day (date_at 0 m k) ≡ true → (m ≡ 1) × (k ≡ 28)
leap_day_parts m k e = grind (arith, nat_tests)

-- a month's days in two years, of which one may be a leap year
february_range : (b : Bool) → (28 ≤ days_of_month b 1) × (days_of_month b 1 ≤ 29)
unfolding days_of_month months
february_range true = omega arith
february_range false = omega arith

month_longer : (b c : Bool) (m : ℕ) → m < 12 → days_of_month b m ≤ days_of_month c m + cond (eqb m 1) 1 0
month_longer true true m h = omega arith
month_longer true false m h = omega (arith, february m h)
month_longer false true m h = omega (arith, february m h)
month_longer false false m h = omega arith

-- every day of a year is one of every year, but for 29 February
kept : (b c : Bool) (m k : ℕ) → m < 12 → k < days_of_month b m → leap_day (date_at 0 m k) ≡ false → k < days_of_month c m
kept b c m k h l e = grind (arith, nat_tests, february_range b, february_range c, month_longer b c m h)

-- and that one would be 1 March in a common year
leap_february : days_of_month true 1 ≡ 29
unfolding days_of_month months
leap_february = refl

first_of_march : month_start false 2 + 0 ≡ month_start false 1 + 28
unfolding start days_of_month months
first_of_march = refl

-- where the same date is, n years on
record End (n y m k : ℕ) : Type 0 where
  pub month : ℕ
  pub day : ℕ
  pub at : At (y + n) month day
  pub is : same_date (2000 + (y + n)) (date_at y m k) ≡ date_at (y + n) month day
  pub same : month_start (leap (2000 + (y + n))) month + day ≡ month_start (leap (2000 + (y + n))) m + k

end : (n y m k : ℕ) → At y m k → y + n < 100 → End n y m k
unfolding same_date
end n y m k a h = go (leap_day (date_at y m k)) refl (leap (2000 + (y + n))) refl
  where
    go : (t : Bool) → leap_day (date_at y m k) ≡ t → (u : Bool) → leap (2000 + (y + n)) ≡ u → End n y m k
    go false p u q =
        let inside = kept (leap (2000 + y)) (leap (2000 + (y + n))) m k a.month a.day p in
        record { month = m; day = k; at = record { year = h; month = a.month; day = inside }; is = rw p refl; same = refl }
    go true p true q =
        let e = leap_day_parts m k p in
        let inside : k < days_of_month (leap (2000 + (y + n))) m = rw (q, e.0, e.1) (omega (arith, leap_february)) in
        record { month = m; day = k; at = record { year = h; month = a.month; day = inside }; is = rw (p, q) refl; same = refl }
    go true p false q =
        let e = leap_day_parts m k p in
        let inside : 0 < days_of_month (leap (2000 + (y + n))) 2 = omega (arith, month_range (leap (2000 + (y + n))) 2 (omega arith)) in
        record {
          month = 2;
          day = 0;
          at = record { year = h; month = omega arith; day = inside };
          is = rw (p, q) refl;
          same = rw (q, e.0, e.1) first_of_march;
        }

-- a period that ends by 2099
module _ (n d y m k : ℕ) (a : At y m k) (i : day_at y m k ≡ d) (l : y + n < 100) where
  date_on : same_date ((date_of d).year + n) (date_of d) ≡ date_at (y + n) (end n y m k a l).month (end n y m k a l).day
  date_on = rw (sym i, date_at_lem a, add_assoc 2000 y n) (end n y m k a l).is

  end_at_lem : years_on n d ≡ day_at (y + n) (end n y m k a l).month (end n y m k a l).day
  unfolding years_on
  end_at_lem = ap day_of date_on ∙ day_at_lem (end n y m k a l).at

  pub end_day : years_on n d ≡ first_day (y + n) + (month_start (leap (2000 + (y + n))) m + k)
  end_day = end_at_lem ∙ omega (arith, (end n y m k a l).same)

  pub end_by_last : years_on n d ≤ last_day
  end_by_last = omega (arith, end_at_lem, by_last (end n y m k a l).at)

  pub end_date : date_of (years_on n d) ≡ same_date ((date_of d).year + n) (date_of d)
  end_date = ap date_of end_at_lem ∙ date_at_lem (end n y m k a l).at ∙ sym date_on

-- one that does not
year_on : (year : ℕ) (t : Date) → (same_date year t).year ≡ year
unfolding same_date
year_on year t = grind arith

past_real : (t : Date) → 2099 < t.year → real t ≡ false
unfolding real
past_real t h = simp (lt-leb t.year 2099 h, and-false)

pub past_end : (n d : ℕ) → 2099 < (date_of d).year + n → years_on n d ≡ never
unfolding years_on
past_end n d h = uncounted _ (past_real (same_date ((date_of d).year + n) (date_of d)) (rw year_on h))

pub after_last : (n d : ℕ) → last_day < d → years_on n d ≡ never
unfolding years_on date_of same_date real
after_last n d h = rw (lt-leb d last_day h) (uncounted (date (0 + n) 0 0) (simp and-false))

-- The end by a formula. Years are counted from 1 March 1996, so that every fourth ends with a 29 February: a day's year is y + 3 before March, y + 4
-- from March on.
abbrev pub march_year : ℕ → ℕ
march_year d = (4 * (d + 1401) + 3) / 1461

abbrev pub formula : ℕ → ℕ → ℕ
formula n d = d + 365 * n + ((march_year d + n) / 4 - march_year d / 4)

march_start : (b : Bool) → month_start b 2 ≡ cond b 60 59
unfolding start days_of_month months
march_start true = refl
march_start false = refl

-- the day x of the year y
before_march : (b : Bool) (y x : ℕ) → leap (2000 + y) ≡ b → x < month_start b 2 → march_year (first_day y + x) ≡ y + 3
before_march true y x q h = omega (arith, leap_year y q, first_day_lem y, march_start true)
before_march false y x q h = omega (arith, common_year y q, first_day_lem y, march_start false)

from_march : (b : Bool) (y x : ℕ) → leap (2000 + y) ≡ b → month_start b 2 ≤ x → x < month_start b 12 → march_year (first_day y + x) ≡ y + 4
from_march true y x q l h = omega (arith, leap_year y q, first_day_lem y, march_start true, year_range true)
from_march false y x q l h = omega (arith, common_year y q, first_day_lem y, march_start false, year_range false)

-- before March a month starts on the same day of every year; from March on a day later in a leap year
early_start : (b : Bool) (m : ℕ) → m < 2 → month_start b m ≡ month_start false m
early_start true m h = omega (arith, rw (lt-leb 2 m h) at (march m (omega arith)))
early_start false m h = refl

late_start : (b : Bool) (y m : ℕ) → leap (2000 + y) ≡ b → 2 ≤ m → m < 12 → (y + 3) / 4 + month_start b m ≡ (y + 4) / 4 + month_start false m
late_start true y m q l h = omega (arith, leap_year y q, rw (le-leb 2 m l) at (march m (omega arith)))
late_start false y m q l h = omega (arith, common_year y q)

module _ (n y m k : ℕ) (a : At y m k) where
  on_formula : first_day (y + n) + (month_start (leap (2000 + (y + n))) m + k) ≡ formula n (day_at y m k)
  on_formula =
      let b = leap (2000 + y) in
      let c = leap (2000 + (y + n)) in
      let x = month_start b m + k in
      let sum : day_at y m k ≡ first_day y + x = omega arith in
      let early = before_march b y x refl in
      let late = from_march b y x refl in
      rw sum
      (grind (
        arith,
        before_next_month a,
        before_twelve a,
        starts_rise (days_of_month b) (suc m) 2,
        starts_rise (days_of_month b) 2 m,
        first_day_lem y,
        first_day_lem (y + n),
        early_start b m,
        early_start c m,
        late_start b y m refl,
        late_start c (y + n) m refl,
      ))

-- so the code's two answers
module _ (n d : ℕ) (h : d ≤ last_day) where
  at_formula : first_day ((somewhere d h).y + n) + (month_start (leap (2000 + ((somewhere d h).y + n))) (somewhere d h).m + (somewhere d h).k) ≡ formula n d
  at_formula = on_formula n _ _ _ (somewhere d h).at ∙ ap (formula n) (somewhere d h).is

  pub on_year : (date_of d).year ≡ 2000 + (somewhere d h).y
  on_year = ap (λ (t : Date). t.year) (date_is d h)

  ends : formula n d ≤ last_day → (somewhere d h).y + n < 100
  ends l = grind (arith, at_formula, first_day_lem 100, starts_rise days_of_year 100 ((somewhere d h).y + n))

  ends_not : last_day < formula n d → 2099 < (date_of d).year + n
  ends_not l =
      let p = somewhere d h in
      grind (arith, at_formula, on_year, end_day n d _ _ _ p.at p.is, end_by_last n d _ _ _ p.at p.is)

pub by_formula : (n d : ℕ) → formula n d ≤ last_day → years_on n d ≡ formula n d
by_formula n d l =
    let h : d ≤ last_day = omega arith in
    let p = somewhere d h in
    end_day n d _ _ _ p.at p.is (ends n d h l) ∙ at_formula n d h

pub past_formula : (n d : ℕ) → last_day < formula n d → years_on n d ≡ never
past_formula n d l = grind (arith, past_end n d, after_last n d, λ (h : d ≤ last_day). ends_not n d h l)

-- A period has ended where its end, written as a number, is reached. The two are compared by years, then by months, then by days.
-- the end's month, in the end's year
end_month : (n y m k : ℕ) → At y m k → month_start (leap (2000 + (y + n))) m + k ≤ month_start (leap (2000 + (y + n))) (suc m)
end_month n y m k a =
    let c = leap (2000 + (y + n)) in
    grind (arith, month_longer (leap (2000 + y)) c m a.month, start_next (days_of_month c) m)

abbrev end_at : ℕ → ℕ → ℕ → ℕ → ℕ
end_at n y m k = first_day (y + n) + (month_start (leap (2000 + (y + n))) m + k)

abbrev written : ℕ → ℕ → ℕ → ℕ
written y m k = yyyymmdd (date_at y m k)

abbrev Same : ℕ → ℕ → ℕ → ℕ → ℕ → ℕ → ℕ → Type 0
Same n y m k y' m' k' = leb (end_at n y m k) (day_at y' m' k') ≡ leb (written y m k + 10000 * n) (written y' m' k')

short : {y m k : ℕ} → At y m k → k < 31
short {y} {m} a = omega (arith, month_range (leap (2000 + y)) m a.month)

module _ (n y m k : ℕ) (a : At y m k) where
  later_year : (y' m' k' : ℕ) → y + n < y' → Same n y m k y' m' k'
  later_year y' m' k' l =
      let r = starts_rise days_of_year (suc (y + n)) y' l in
      let i = starts_rise (days_of_month (leap (2000 + (y + n)))) (suc m) 12 (omega (arith, a.month)) in
      grind (arith, nat_tests, end_month n y m k a, next_year (y + n), short a)

  earlier_year : (y' m' k' : ℕ) → At y' m' k' → y' < y + n → Same n y m k y' m' k'
  earlier_year y' m' k' a' l =
      let r = starts_rise days_of_year (suc y') (y + n) l in
      grind (arith, nat_tests, before_next_year a', short a')

  same_year : (m' k' : ℕ) → At (y + n) m' k' → Same n y m k (y + n) m' k'
  same_year m' k' a' =
      let c = leap (2000 + (y + n)) in
      grind (arith, nat_tests, end_month n y m k a, before_next_month a', short a, short a', starts_rise (days_of_month c) (suc m) m', starts_rise (days_of_month c) (suc m') m)

  same : (y' m' k' : ℕ) → At y' m' k' → Same n y m k y' m' k'
  same y' m' k' a' =
      ⊎_elim (λ e. subst (λ (z : ℕ). At z m' k' → Same n y m k z m' k') e (same_year m' k') a')
      (⊎_elim (later_year y' m' k') (earlier_year y' m' k' a')) (cases_order (y + n) y')

-- a period that never ends is reached by no date either
never_reached : (n y m k y' m' k' : ℕ) → At y' m' k' → 100 ≤ y + n → leb never (day_at y' m' k') ≡ leb (written y m k + 10000 * n) (written y' m' k')
never_reached n y m k y' m' k' a' l = grind (arith, nat_tests, by_last a', short a')

pub reached : (n d e : ℕ) → d ≤ last_day → e ≤ last_day → leb (years_on n d) e ≡ leb (yyyymmdd (date_of d) + 10000 * n) (yyyymmdd (date_of e))
reached n d e g h =
    let p = somewhere d g in
    let q = somewhere e h in
    let a = on_year n d g in
    let ended = end_day n d _ _ _ p.at p.is in
    let in_time = same n _ _ _ p.at _ _ _ q.at in
    let late = never_reached n p.y p.m p.k _ _ _ q.at in
    rw (date_is d g, date_is e h) (grind (arith, nat_tests, past_end n d, q.is))
