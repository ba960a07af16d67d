-- What the queries answer, in document 01's numbers: the records.
use Rattle.std.specs.Prelude.{ℕ, Bool}
use Rattle.queries.specs.declared.statements.StatementReply.{StatementReply}
use Rattle.queries.specs.declared.contributions.ContributionReply.{ContributionReply}

abbrev pub statement_reply : ℕ → ℕ → ℕ → ℕ → ℕ → ℕ → ℕ → ℕ → Bool → StatementReply
statement_reply refusal arrears credit deposit held links bills payments complete =
    record {
      refusal = refusal;
      arrears = arrears;
      credit = credit;
      deposit = deposit;
      held = held;
      links_read = links;
      bills = bills;
      payments = payments;
      complete = complete;
    }

abbrev pub contribution_reply : ℕ → ℕ → ℕ → ℕ → ℕ → ℕ → ℕ → Bool → ContributionReply
contribution_reply refusal amount to_arrears paid_out held retained added closed =
    record {
      refusal = refusal;
      amount = amount;
      to_arrears = to_arrears;
      paid_out = paid_out;
      held = held;
      retained = retained;
      added = added;
      closed = closed;
    }
