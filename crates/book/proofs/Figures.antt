-- P1 to P12.
use mathlib.Core.Path.{refl}
use Rattle.measures.specs.Rounding.{rounded}
use Rattle.calendar.specs.Years.{leap, days_of_year, months, days_of_month, start, span_from}
use Rattle.calendar.specs.Dates.{date_in, date_of, real, day_of}
use Rattle.calendar.specs.Periods.{same_date, years_on}
use Rattle.entries.specs.Kinds.{kind_of, misnames_of}
use Rattle.entries.specs.Ranges.{limits_of, between, named_fits, b_fits, in_range_of}
use Rattle.entries.specs.Data.{case_of, particulars_of, refunded_of, expired_of, restated_of, entry_of, with_of}
use Rattle.entries.specs.Refusals.{refuse_if, decided_of}
use Rattle.rules.specs.Accounts.{credited_of, plus_credit_of, charged_of, with_deposit_of}
use Rattle.rules.specs.Formulas.{billed_of, refund_of, interest_of}
use Rattle.rules.specs.Checks.{check_own_of, check_naming_of}
use Rattle.changes.specs.Changes.{contribution_of, added_customer_of, bill_of, payment_of, deposit_of, deposit_return_of, expiry_of, correction_of, own_change_of, naming_change_of, own_decision_of, naming_decision_of}
use Rattle.book.specs.Refusals.{check_entry_of, searched_of, decision_by}
use Rattle.book.specs.Figures.{Figures}

pub shown : Figures
unfolding rounded leap days_of_year months days_of_month start span_from date_in date_of real day_of same_date years_on kind_of misnames_of limits_of between named_fits b_fits in_range_of case_of particulars_of refunded_of expired_of restated_of entry_of with_of refuse_if credited_of plus_credit_of charged_of with_deposit_of billed_of refund_of interest_of check_own_of check_naming_of contribution_of added_customer_of bill_of payment_of deposit_of deposit_return_of expiry_of correction_of own_change_of naming_change_of decided_of own_decision_of naming_decision_of check_entry_of searched_of decision_by
shown = (refl, (refl, (refl, (refl, (refl, (refl, (refl, (refl, (refl, (refl, (refl, (refl, (refl, (refl, (refl, (refl, (refl, tt)))))))))))))))))
