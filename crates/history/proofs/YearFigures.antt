-- The figures of calendar years, by computation.
use mathlib.Core.Path.{refl}
use Rattle.measures.specs.Rounding.{rounded}
use Rattle.calendar.specs.Years.{leap, days_of_year, months, days_of_month, start, span_from}
use Rattle.calendar.specs.Dates.{date_in, date_of}
use Rattle.entries.specs.Kinds.{kind_of}
use Rattle.entries.specs.Ranges.{limits_of, between, named_fits, b_fits, in_range_of}
use Rattle.history.specs.History.{last_serial, points, names, find, named, filter, sum, fate, move_by, balance, amounts, judge_by, offer, replied_of, added_up}
use Rattle.history.specs.Years.{in_year, year_in}
use Rattle.history.specs.Queries.{query_in}
use Rattle.history.specs.Runs.{notes}
use Rattle.history.specs.Calls.{call_in}
use Rattle.history.specs.YearFigures.{YearFigures}

pub year_figures : YearFigures
unfolding rounded leap days_of_year months days_of_month start span_from date_in date_of kind_of limits_of between named_fits b_fits in_range_of last_serial points names find named filter sum fate move_by balance amounts judge_by offer replied_of added_up in_year year_in query_in notes call_in
year_figures = record { answered = refl; totals = refl; accounts = refl }
