-- The walk of a chain that the statement's code makes: what it counted and summed so far. No promise of a call cites this.
use Rattle.std.specs.Prelude.{ℕ, cond, leb}
use Rattle.measures.specs.Cents.{cents, plus_of}
use Rattle.measures.specs.declared.Cents.{Cents}
use Rattle.entries.specs.Kinds.{counts_with_bills}
use Rattle.entries.specs.Data.{particulars_of, standing_if, one_more}
use Rattle.entries.specs.declared.data.Entry.{Entry}
use Rattle.rules.specs.declared.accounts.Account.{Account}
use Rattle.queries.specs.Chain.{is_payment}
use Rattle.queries.specs.declared.statements.Sums.{Sums}
use Rattle.queries.specs.declared.statements.StatementFigures.{StatementFigures}

abbrev pub sums : ℕ → ℕ → Cents → Cents → Cents → Sums
sums length links_read held bills payments =
    record { length = length; links_read = links_read; held = held; bills = bills; payments = payments }

abbrev pub no_sums : Sums
no_sums = sums 0 0 (cents 0) (cents 0) (cents 0)

-- with one entry more, which is read where fewer than the allowance were before it
unfoldable pub sums_with : Sums → Entry → ℕ → Sums
sums_with s e allowance =
    let n = particulars_of e.«data» in
    cond (leb allowance s.links_read)
    (sums (one_more s.length) s.links_read (plus_of s.held n.held) s.bills s.payments)
    (sums (one_more s.length)
    (one_more s.links_read)
    (plus_of s.held n.held)
    (plus_of s.bills (standing_if (counts_with_bills n.kind) n))
    (plus_of s.payments (standing_if (is_payment n.kind) n)))

unfoldable pub statement_figures_of : Sums → Account → ℕ → StatementFigures
statement_figures_of s acc allowance =
    record {
      arrears = acc.arrears;
      credit = acc.credit;
      deposit = acc.deposit;
      held = s.held;
      links_read = s.links_read;
      bills = s.bills;
      payments = s.payments;
      complete = leb s.length allowance;
    }
