-- The queries, and what they give, as the history has it. Nothing here reads a book.
use Rattle.std.specs.Prelude.{ℕ, zero, suc, ◌+◌, min, ◌≤◌, ◌≡◌, Bool, true, false, cond, not, ◌||◌, List, [], ◌∷◌, ◌++◌, length, take, drop, eqb, leb, ltb}
use Rattle.entries.specs.Kinds.{kind_of, same_of}
use Rattle.entries.specs.Ranges.{between}
use Rattle.entries.specs.declared.raw.Raw.{Raw}
use Rattle.entries.specs.declared.kinds.Kind.TheVariants as kind
use Rattle.queries.specs.Replies.{statement_reply, contribution_reply}
use Rattle.queries.specs.declared.statements.StatementReply.{StatementReply}
use Rattle.queries.specs.declared.contributions.ContributionReply.{ContributionReply}
use Rattle.years.specs.declared.Year.{Year}
use Rattle.pages.specs.Rows.{page_rows, text_of, AllLines, EntryLine}
use Rattle.pages.specs.Pages.{PageExit, page_exit}
use Rattle.history.specs.History.{History, accounts, pointer_to, find, fate, target_entry, balance, ◌⇒◌, first_broken, entries_of, total, standing_amount, billed_amount, held_amount, to_arrears, refunds_paid}
use Rattle.history.specs.Laws.{Valid}
use Rattle.history.specs.Years.{year_in}
use Rattle.history.specs.Runs.{State, is_open}
use Rattle.history.specs.Images.{bytes_in, short_in, room_in, saved_by}

-- a statement refuses only by 3; links read is the smaller of the allowance and the number of entries
abbrev pub statement_by : ℕ → History → ℕ → ℕ → StatementReply
statement_by zero h account allowance =
    let b = balance h account in
    let es = entries_of h account in
    let bills = total billed_amount h (take allowance es) in
    let payments = total (standing_amount kind.Payment) h (take allowance es) in
    statement_reply 0 b.arrears b.credit b.deposit (total held_amount h es) (min allowance (length es)) bills payments (leb (length es) allowance)
statement_by (suc n) h account allowance = statement_reply (suc n) 0 0 0 0 0 0 0 false

unfoldable pub statement_in : History → ℕ → ℕ → StatementReply
statement_in h account allowance = statement_by (first_broken ((not (between account 1 accounts) ⇒ 3) ∷ [])) h account allowance

-- a contribution query refuses by 2, 3 or 8 in that order
abbrev pub contribution_by : ℕ → History → Raw → ContributionReply
contribution_by zero h e =
    let f = fate h e in contribution_reply 0 e.amount (to_arrears h e) (refunds_paid h e) f.held f.retained f.added f.closed
contribution_by (suc n) h e = contribution_reply (suc n) 0 0 0 0 0 0 false

unfoldable pub contribution_in : History → ℕ → ℕ → ℕ → ContributionReply
contribution_in h account node serial =
    let e = target_entry (find h (pointer_to account node serial)) in
    contribution_by (first_broken ((not (between node 1 2) ⇒ 2) ∷ (not (between account 1 accounts) ⇒ 3) ∷ (not (same_of (kind_of e.kind) kind.Contribution) ⇒ 8) ∷ [])) h e

-- a page shows a bill's or payment's standing amount, else the posted one, which is 0 where the kind has none (5)
abbrev pub shown_amount_in : History → Raw → ℕ
shown_amount_in all e =
    let k = kind_of e.kind in cond (same_of k kind.Bill || same_of k kind.Payment) (fate all e).standing e.amount

-- the line of an entry, h the older entries and `all` the whole history: its number, day, kind and amount
unfoldable pub entry_line_in : History → History → Raw → EntryLine
entry_line_in all h e = record { number = length h + 1; day = e.day; kind = e.kind; amount = shown_amount_in all e }

-- of an account's entries, newest first
unfoldable pub entry_lines_in : History → History → ℕ → List EntryLine
entry_lines_in all [] account = []
entry_lines_in all (e ∷ h) account = cond (eqb e.account account) (entry_line_in all h e ∷ entry_lines_in all h account) (entry_lines_in all h account)

-- the page of an account, as bytes; its four figures are the statement's
unfoldable pub page_text_in : History → ℕ → List ℕ
page_text_in h account = text_of (page_rows account (statement_in h account 0) (entry_lines_in h h account))

-- 66 lines of 80 columns, each closed by a newline
abbrev pub page_length : ℕ
page_length = 5346

-- it is so of every page of a history whose entries passed the judge; proofs/Pages.antt shows it
pub record PagesFormed : Type 0 where
  pub columns : (h : History) → Valid h → (a : ℕ) → a ≤ accounts → AllLines (page_rows a (statement_in h a 0) (entry_lines_in h h a))
  pub bytes : (h : History) → Valid h → (a : ℕ) → a ≤ accounts → length (page_text_in h a) ≡ page_length

-- a page refuses by 3, then by 23 where the buffer is under 5,346 bytes; it is untouched then, else the page is written over its first
-- 5,346 bytes, and no other byte is touched
abbrev pub page_by : ℕ → History → ℕ → List ℕ → PageExit
page_by zero h account buffer = page_exit 0 page_length (page_text_in h account ++ drop page_length buffer)
page_by (suc n) h account buffer = page_exit (suc n) 0 buffer

unfoldable pub page_in : History → ℕ → List ℕ → PageExit
page_in h account buffer =
    page_by (first_broken ((not (between account 1 accounts) ⇒ 3) ∷ (ltb (length buffer) page_length ⇒ 23) ∷ [])) h account buffer

-- the calls that only read, with what each is given
pub data Query : Type 0 where
  statement : ℕ → ℕ → Query  -- account, allowance
  contribution : ℕ → ℕ → ℕ → Query  -- account, node, serial
  page : ℕ → List ℕ → Query  -- account, and the buffer as it is lent
  year : ℕ → Query  -- the year's number
  save : List ℕ → Query  -- the buffer as it is lent

-- what they answer
pub data QueryAnswer : Type 0 where
  stated : StatementReply → QueryAnswer
  given : ContributionReply → QueryAnswer
  paged : PageExit → QueryAnswer  -- the refusal number, the length, and the buffer after it
  totalled : Year → QueryAnswer  -- no year is refused
  saved : ℕ → ℕ → List ℕ → QueryAnswer  -- the refusal number, the length, and the buffer after it

-- a save is refused by 29 during a run, and leaves the buffer; then by 21
abbrev pub save_in : Bool → History → List ℕ → QueryAnswer
save_in true h buffer = saved 29 0 buffer
save_in false h buffer = saved (room_in h buffer) (cond (short_in h buffer) 0 (bytes_in h)) (saved_by h buffer)

unfoldable pub query_in : State → Query → QueryAnswer
query_in s (statement account allowance) = stated (statement_in s.entries account allowance)
query_in s (contribution account node serial) = given (contribution_in s.entries account node serial)
query_in s (page account buffer) = paged (page_in s.entries account buffer)
query_in s (year y) = totalled (year_in s.entries y)
query_in s (save buffer) = save_in (is_open s.run) s.entries buffer
