-- The totals of a calendar year (request 7), worked out from the entries. Nothing here reads a book.
use Rattle.std.specs.Prelude.{ℕ, Bool, length, eqb}
use Rattle.calendar.specs.Dates.{date_of}
use Rattle.entries.specs.declared.raw.Raw.{Raw}
use Rattle.entries.specs.declared.kinds.Kind.TheVariants as kind
use Rattle.years.specs.Years.{plain_year}
use Rattle.years.specs.declared.Year.{Year}
use Rattle.history.specs.History.{History, Amounts, filter, total, standing_amount, billed_amount, added_up}

-- The entry's day has a date of that year, by the year's number: 2000 for day 0. No entry that joins has a day after 2099-12-31 (4), so a year
-- before 2000 or after 2099 has no entries.
unfoldable pub in_year : ℕ → Raw → Bool
in_year year r = eqb (date_of r.day).year year

-- A year's standing bills with late charges, its standing payments, its amounts paid out and its entry count. A bill or payment of the year counts
-- as it stands in the whole history, whatever the year of its correction; what an entry pays out counts in that entry's year.
unfoldable pub year_in : History → ℕ → Year
year_in h year =
    let es = filter (in_year year) h in
    plain_year (total billed_amount h es) (total (standing_amount kind.Payment) h es) (added_up (λ (x : Amounts). x.paid_out) (in_year year) h) (length es)
