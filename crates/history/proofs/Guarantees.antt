-- The figures of guarantees and of periods, by computation.
use mathlib.Core.Path.{refl}
use Rattle.measures.specs.Rounding.{rounded}
use Rattle.calendar.specs.Years.{leap, days_of_year, months, days_of_month, start, span_from}
use Rattle.calendar.specs.Dates.{date_in, date_of}
use Rattle.entries.specs.Kinds.{kind_of}
use Rattle.entries.specs.Ranges.{limits_of, between, named_fits, b_fits, in_range_of}
use Rattle.history.specs.History.{last_serial, points, names, find, named, filter, sum, fate, move_by, balance, amounts, judge_by, offer, replied_of}
use Rattle.history.specs.Guarantees.{Guarantees}

pub guarantees : Guarantees
unfolding rounded leap days_of_year months days_of_month start span_from date_in date_of kind_of limits_of between named_fits b_fits in_range_of last_serial points names find named filter sum fate move_by balance amounts judge_by offer replied_of
guarantees = (refl, (refl, (refl, (refl, (refl, (refl, tt))))))
