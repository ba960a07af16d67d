-- The statement of an account, in document 01's numbers.
use Rattle.std.specs.Prelude.{ℕ, min, false, not, List, [], ◌∷◌, length, take, leb, Result, Ok, Err}
use Rattle.measures.specs.Cents.{most}
use Rattle.entries.specs.Kinds.{counts_with_bills}
use Rattle.entries.specs.Ranges.{between}
use Rattle.entries.specs.Refusals.{refusal_number, Row, ◌⇒◌, check_rows, decided_of}
use Rattle.entries.specs.declared.data.Entry.{Entry}
use Rattle.entries.specs.declared.refusals.Refusal.{Refusal}
use Rattle.entries.specs.declared.refusals.Refusal.TheVariants as no
use Rattle.rules.specs.declared.accounts.Account.{Account}
use Rattle.book.specs.Fresh.{accounts_most}
use Rattle.book.specs.Posting.{account_at}
use Rattle.book.specs.declared.Book.{Book}
use Rattle.queries.specs.Chain.{chain_at, total_of, held_of, standing_of, is_payment}
use Rattle.queries.specs.Replies.{statement_reply}
use Rattle.queries.specs.declared.statements.StatementFigures.{StatementFigures}
use Rattle.queries.specs.declared.statements.StatementReply.{StatementReply}

abbrev pub StatementAnswer : Type 0
StatementAnswer = Result StatementFigures Refusal

-- refused: the number and otherwise zeros; given: the figures
unfoldable pub statement_reply_of : StatementAnswer → StatementReply
statement_reply_of (Err n) = statement_reply (refusal_number n) 0 0 0 0 0 0 0 false
statement_reply_of (Ok f) =
    statement_reply 0
    f.arrears.0
    f.credit.0
    f.deposit.0
    f.held.0
    f.links_read
    f.bills.0
    f.payments.0
    f.complete

-- The account's arrears, credit and deposit held, and held summed over its contributions; links read, and the sums of
-- standing bills, with which late charges count, and standing payments among the entries read; complete exactly when the
-- length is at most the allowance. A sum stops at 2^64 - 1.
unfoldable pub given_of : Account → List Entry → ℕ → StatementReply
given_of acc chain allowance =
    statement_reply 0
    acc.arrears.0
    acc.credit.0
    acc.deposit.0
    (min (total_of held_of chain) most)
    (min allowance (length chain))
    (min (total_of (standing_of counts_with_bills) (take allowance chain)) most)
    (min (total_of (standing_of is_payment) (take allowance chain)) most)
    (leb (length chain) allowance)

abbrev pub statement_rows : ℕ → List Row
statement_rows account = (not (between account 1 accounts_most) ⇒ no.UnknownAccount) ∷ []

unfoldable pub statement_of : Book → ℕ → ℕ → StatementReply
statement_of b account allowance =
    decided_of (check_rows (statement_rows account)) (λ n. statement_reply_of (Err n))
    (given_of (account_at b account) (chain_at b account) allowance)
