-- The totals of a calendar year, and of them all, as entries join and are corrected.
use Rattle.std.specs.Prelude.{ℕ, ◌-◌, cond, List, get_or, set, replicate}
use Rattle.measures.specs.Cents.{cents, plus_of, minus_of}
use Rattle.measures.specs.declared.Cents.{Cents}
use Rattle.calendar.specs.Years.{year_of}
use Rattle.entries.specs.Ranges.{between}
use Rattle.entries.specs.Kinds.{same_of, counts_with_bills}
use Rattle.entries.specs.Data.{particulars_of, standing_if, one_more}
use Rattle.entries.specs.declared.kinds.Kind.TheVariants as kind
use Rattle.entries.specs.declared.data.Data.{Data}
use Rattle.years.specs.declared.Year.{Year}
use Rattle.years.specs.declared.Years.{Years}

abbrev pub year : Cents → Cents → Cents → ℕ → Year
year bills payments paid_out entries = record { bills = bills; payments = payments; paid_out = paid_out; entries = entries }

-- by plain numbers
abbrev pub plain_year : ℕ → ℕ → ℕ → ℕ → Year
plain_year bills payments paid_out entries = year (cents bills) (cents payments) (cents paid_out) entries

-- of a year without entries
abbrev pub no_year : Year
no_year = plain_year 0 0 0 0

-- what an entry counts among bills, late charges with them, and among payments: its standing amount
unfoldable pub in_bills : Data → Cents
in_bills d = let n = particulars_of d in standing_if (counts_with_bills n.kind) n

unfoldable pub in_payments : Data → Cents
in_payments d = let n = particulars_of d in standing_if (same_of n.kind kind.Payment) n

-- after an entry of the year, which paid so much out
unfoldable pub posted_in : Year → Data → Cents → Year
posted_in y d paid_out =
    year (plus_of y.bills (in_bills d)) (plus_of y.payments (in_payments d)) (plus_of y.paid_out paid_out) (one_more y.entries)

-- after a change of an entry of the year: plus what it counts now, minus what it counted before
unfoldable pub restated_in : Year → Data → Data → Year
restated_in y before after =
    year (minus_of (plus_of y.bills (in_bills after)) (in_bills before)) (minus_of (plus_of y.payments (in_payments after)) (in_payments before))
    y.paid_out y.entries

-- the calendar years from 2000 to 2099
abbrev pub years_most : ℕ
years_most = 100

-- of no entries
abbrev pub no_years : Years
no_years = record { 0 = replicate years_most no_year }

-- with the totals of the year of day d changed
abbrev pub year_changed : (Year → Year) → ℕ → List Year → List Year
year_changed f d ys = set ys (year_of d) (f (get_or ys (year_of d) no_year))

-- after an entry of day d, which paid so much out
unfoldable pub posted_to : Years → ℕ → Data → Cents → Years
posted_to ys d entered paid_out = record { 0 = year_changed (λ y. posted_in y entered paid_out) d ys.0 }

-- after a change of an entry of day d
unfoldable pub restated_to : Years → ℕ → Data → Data → Years
restated_to ys d before after = record { 0 = year_changed (λ y. restated_in y before after) d ys.0 }

-- the totals of a year by its number; a year before 2000 or after 2099 reads zero
unfoldable pub totals_of : Years → ℕ → Year
totals_of ys n = cond (between n 2000 2099) (get_or ys.0 (n - 2000) no_year) no_year
