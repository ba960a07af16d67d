-- Demand 3: one claim about a list of calls as a whole.
use Rattle.std.specs.Prelude.{ℕ, ◌≤◌, ◌≡◌, List, []}
use Rattle.entries.specs.Kinds.{kind_of}
use Rattle.entries.specs.Data.{particulars_of}
use Rattle.entries.specs.declared.raw.Raw.{Raw}
use Rattle.entries.specs.declared.kinds.Kind.TheVariants as kind
use Rattle.entries.specs.declared.data.Entry.{Entry}
use Rattle.book.specs.Fresh.{fresh_book}
use Rattle.book.specs.Posting.{account_at, post_of}
use Rattle.book.specs.declared.Book.{Book}
use Rattle.queries.specs.Chain.{chain_at, total_of}
use Rattle.queries.specs.Chain as chains
use Rattle.queries.specs.Statements.{statement_of}
use Rattle.queries.specs.Contributions.{contribution_query_of}
use Rattle.years.specs.Years.{totals_of}
use Rattle.pages.specs.Pages.{page_of}
use Rattle.saves.specs.Saves.{save_of, saved_in}
use Rattle.history.specs.History.{accounts, after, answers_along, balance, entries_of, total, held_of, held_amount}
use Rattle.history.specs.Laws.{In, Lawful, Bounded}
use Rattle.history.specs.Runs.{State}
use Rattle.history.specs.Years.{year_in}
use Rattle.history.specs.Agreement.{Kept, RunKept}
use Rattle.carry.specs.Carry.{carry_refusal_of, carry_book_of, carry_results_of}
use Rattle.runs.specs.Runs.{open_run_of, step_of, close_run_of}
use Rattle.history.specs.Queries.{Query, statement, contribution, page, year, save, QueryAnswer, stated, given, paged, totalled, saved}
use Rattle.history.specs.Calls.{Call, posting, carry_over, opening, step, close, query, CallAnswer, posted, carried, ran, queried, call_in, state_from, state_after, history_after}

-- the queries on a book
unfoldable pub query_of : Book → Query → QueryAnswer
query_of b (statement account allowance) = stated (statement_of b account allowance)
query_of b (contribution account node serial) = given (contribution_query_of b account node serial)
query_of b (page account buffer) = paged (page_of b account buffer)
query_of b (year y) = totalled (totals_of b.years y)
query_of b (save buffer) = saved (save_of b buffer).refusal (save_of b buffer).bytes (saved_in b buffer)

-- the calls on a book: the next book, and the answer
unfoldable pub call_of : Book → Call → Book × CallAnswer
call_of b (posting r) = ((post_of b r).book, posted (post_of b r).reply)
call_of b (carry_over rs results) = (carry_book_of b rs results, carried (carry_refusal_of rs results) (carry_results_of b rs results))
call_of b (opening node day rate) = let o = open_run_of b node day rate in (o.book, ran o.refusal)
call_of b step = ((step_of b).book, posted (step_of b).reply)
call_of b close = ((close_run_of b).book, ran (close_run_of b).refusal)
call_of b (query q) = (b, queried (query_of b q))

abbrev pub book_after : Book → List Call → Book
book_after b cs = after call_of b cs

-- the book that a list of calls makes of a fresh one, and the answers
abbrev pub book_of : List Call → Book
book_of cs = book_after fresh_book cs

abbrev pub answers_of : List Call → List CallAnswer
answers_of cs = answers_along call_of fresh_book cs

-- what is held of a guarantee, and 0 of every other entry
unfoldable pub guarantee_held_of : Entry → ℕ
guarantee_held_of e = (particulars_of e.«data»).guarantee_held.0

-- of a list of calls, cs, that begins with the book b and with the history's state s
pub record Claim (b : Book) (s : State) (cs : List Call) : Type 0 where
  -- Every answer in the list is the history's at that point: an offered entry's refusal number is 0 exactly when it joins; which
  -- calls are refused, which statements are complete and an accepted posting's four amounts; and what every accepted statement,
  -- contribution query, page, query of a year and save gives, a page's and a save's buffer among it.
  pub answered : answers_along call_of b cs ≡ answers_along call_in s cs
  -- the book after the list has the history's arrears
  pub arrears : (a : ℕ) → 1 ≤ a → a ≤ accounts → (account_at (book_after b cs) a).arrears.0 ≡ (balance (history_after s cs) a).arrears
  -- its credit
  pub credit : (a : ℕ) → 1 ≤ a → a ≤ accounts → (account_at (book_after b cs) a).credit.0 ≡ (balance (history_after s cs) a).credit
  -- its amounts held: the deposit
  pub deposit : (a : ℕ) → 1 ≤ a → a ≤ accounts → (account_at (book_after b cs) a).deposit.0 ≡ (balance (history_after s cs) a).deposit
  -- and what is held of the account's contributions
  pub held : (a : ℕ) → 1 ≤ a → a ≤ accounts → total_of chains.held_of (chain_at (book_after b cs) a) ≡ total held_amount (history_after s cs) (entries_of (history_after s cs) a)
  -- and of its guarantees
  pub guarantee_held : (a : ℕ) → 1 ≤ a → a ≤ accounts →
      total_of guarantee_held_of (chain_at (book_after b cs) a) ≡ total (held_of kind.Guarantee) (history_after s cs) (entries_of (history_after s cs) a)
  -- what it keeps of each calendar year is what the history's entries come to
  pub years : (year : ℕ) → totals_of (book_after b cs).years year ≡ year_in (history_after s cs) year
  -- it keeps the history's entries, chains and last serials too
  pub kept : Kept (book_after b cs) (history_after s cs)
  -- and its run: the same node, day and rate, and the same accounts left with the same noted arrears
  pub run : RunKept (book_after b cs).run (state_after s cs).run
  -- the claims of the history: sums, contributions, refunds with their days, guarantees, corrections
  pub lawful : Lawful (history_after s cs)
  -- a bill of zero days served that the history has after the list was there before it: none joins
  pub no_day : (e : Raw) → In e (history_after s cs) → kind_of e.kind ≡ kind.Bill → e.b ≡ 0 → In e s.entries
  -- bounds within which no sum saturates
  pub bounded : Bounded (history_after s cs)

-- every list from a fresh book: proofs/Claim.antt shows it
abbrev pub Demand3 : Type 0
Demand3 = (cs : List Call) → Claim fresh_book (state_from []) cs
