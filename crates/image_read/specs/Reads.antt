-- The statement, the contribution query and the totals of a year of an image.
use Rattle.std.specs.Prelude.{ℕ, false, cond, eqb, Result, Ok, Err}
use Rattle.loads.specs.Loaded.{LoadedReply, record_number}
use Rattle.loads.specs.declared.Fault.{Fault}
use Rattle.entries.specs.Refusals.{refusal_number}
use Rattle.queries.specs.Statements.{statement_reply_of, statement_of}
use Rattle.queries.specs.Contributions.{contribution_reply_of, contribution_query_of}
use Rattle.queries.specs.Replies.{statement_reply, contribution_reply}
use Rattle.queries.specs.declared.statements.StatementFigures.{StatementFigures}
use Rattle.queries.specs.declared.statements.StatementReply.{StatementReply}
use Rattle.queries.specs.declared.contributions.ContributionFigures.{ContributionFigures}
use Rattle.queries.specs.declared.contributions.ContributionReply.{ContributionReply}
use Rattle.years.specs.Years.{no_year, totals_of}
use Rattle.years.specs.declared.Year.{Year}
use Rattle.image_read.specs.declared.reads.StatementGiven.{StatementGiven}
use Rattle.image_read.specs.declared.reads.ContributionGiven.{ContributionGiven}
use Rattle.image_read.specs.declared.reads.YearGiven.{YearGiven}

-- an answer, and the image's record at fault
abbrev pub statement_given : StatementReply → ℕ → StatementGiven
statement_given r faulty =
    record {
      refusal = r.refusal;
      «record» = faulty;
      links_read = r.links_read;
      complete = r.complete;
      arrears = r.arrears;
      credit = r.credit;
      deposit = r.deposit;
      held = r.held;
      bills = r.bills;
      payments = r.payments;
    }

-- an answer with the record at fault as what is given
unfoldable pub statement_given_of : Result StatementFigures Fault → StatementGiven
statement_given_of (Err f) = statement_given (statement_reply_of (Err f.refusal)) (record_number f)
statement_given_of (Ok s) = statement_given (statement_reply_of (Ok s)) 0

-- a refused image: the number, its record, and otherwise zeros; else the statement
unfoldable pub statement_image : LoadedReply → ℕ → ℕ → StatementGiven
statement_image l account allowance =
    cond (eqb l.refusal 0) (statement_given (statement_of l.book account allowance) 0)
    (statement_given (statement_reply l.refusal 0 0 0 0 0 0 0 false) l.faulty)

abbrev pub contribution_given : ContributionReply → ℕ → ContributionGiven
contribution_given r faulty =
    record {
      refusal = r.refusal;
      «record» = faulty;
      added = r.added;
      closed = r.closed;
      amount = r.amount;
      to_arrears = r.to_arrears;
      paid_out = r.paid_out;
      held = r.held;
      retained = r.retained;
    }

unfoldable pub contribution_given_of : Result ContributionFigures Fault → ContributionGiven
contribution_given_of (Err f) = contribution_given (contribution_reply_of (Err f.refusal)) (record_number f)
contribution_given_of (Ok s) = contribution_given (contribution_reply_of (Ok s)) 0

-- a refused image: the number, its record, and otherwise zeros; else the contribution query
unfoldable pub contribution_image : LoadedReply → ℕ → ℕ → ℕ → ContributionGiven
contribution_image l account node serial =
    cond (eqb l.refusal 0) (contribution_given (contribution_query_of l.book account node serial) 0)
    (contribution_given (contribution_reply l.refusal 0 0 0 0 0 0 false) l.faulty)

-- totals, a refusal's number and the image's record at fault
abbrev pub year_given : Year → ℕ → ℕ → YearGiven
year_given y refusal faulty =
    record {
      refusal = refusal;
      «record» = faulty;
      entries = y.entries;
      bills = y.bills.0;
      payments = y.payments.0;
      paid_out = y.paid_out.0;
    }

unfoldable pub year_given_of : Result Year Fault → YearGiven
year_given_of (Err f) = year_given no_year (refusal_number f.refusal) (record_number f)
year_given_of (Ok y) = year_given y 0 0

-- a refused image: the number, its record, and otherwise zeros; else the totals of the year
unfoldable pub year_image : LoadedReply → ℕ → YearGiven
year_image l year = cond (eqb l.refusal 0) (year_given (totals_of l.book.years year) 0 0) (year_given no_year l.refusal l.faulty)
