-- The end of a period of calendar years: the same date so many years on.
use Rattle.std.specs.Prelude.{ℕ, ◌+◌, Bool, cond, not, ◌&&◌, eqb}
use Rattle.calendar.specs.Years.{leap}
use Rattle.calendar.specs.Dates.{date, date_of, day_of}
use Rattle.calendar.specs.declared.Date.{Date}

abbrev pub leap_day : Date → Bool
leap_day t = eqb t.month 2 && eqb t.day 29

-- 1 March where the date is 29 February and the year is common
unfoldable pub same_date : ℕ → Date → Date
same_date year t = cond (leap_day t && not (leap year)) (date year 3 1) (date year t.month t.day)

-- the day on which a period of so many years from day d ends; never where its end is past 2099, as that date has no day
unfoldable pub years_on : ℕ → ℕ → ℕ
years_on years d = day_of (same_date ((date_of d).year + years) (date_of d))
