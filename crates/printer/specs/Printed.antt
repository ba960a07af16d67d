-- What the statement printer writes of a load, as bytes.
use Rattle.std.specs.Prelude.{ℕ, zero, suc, Bool, cond, not, List, [], ◌++◌, eqb}
use Rattle.lines.specs.Lines.{account_line, end_line, refused_line}
use Rattle.book.specs.Fresh.{accounts_most}
use Rattle.book.specs.Posting.{account_at}
use Rattle.book.specs.declared.Book.{Book}
use Rattle.queries.specs.Statements.{statement_of}
use Rattle.queries.specs.declared.statements.StatementReply.{StatementReply}
use Rattle.loads.specs.Loaded.{LoadedReply}

-- an account has entries exactly where the number of its newest entry is not 0
abbrev pub has_entries : Book → ℕ → Bool
has_entries b account = not (eqb (account_at b account).newest 0)

-- account, arrears, credit, deposit held, held: figures of its statement that do not depend on the allowance
abbrev pub statement_line : ℕ → StatementReply → List ℕ
statement_line account s = account_line account s.arrears s.credit s.deposit s.held

-- a line for each account with entries, ascending: those of the accounts from 1 to n
unfoldable pub account_lines : Book → ℕ → List ℕ
account_lines b zero = []
account_lines b (suc n) =
    account_lines b n ++ cond (has_entries b (suc n)) (statement_line (suc n) (statement_of b (suc n) 0)) []

-- the lines of all accounts; the last line is `end` and the count
abbrev pub book_lines : Book → List ℕ
book_lines b = account_lines b accounts_most ++ end_line b.count

-- a refusal writes only `refused`, number, record
unfoldable pub printed_of : LoadedReply → List ℕ
printed_of l = cond (eqb l.refusal 0) (book_lines l.book) (refused_line l.refusal l.faulty)
