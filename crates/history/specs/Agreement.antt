-- A book and a history that agree, and that they agree after every entry offered.
use Rattle.std.specs.Prelude.{ℕ, ◌+◌, ◌≤◌, ◌<◌, ◌≡◌, Bool, cond, List, [], ◌∷◌, length, get_or, drop, eqb, ltb, Option, None, Some}
use Rattle.measures.specs.Cents.{cents}
use Rattle.measures.specs.Days.{day}
use Rattle.measures.specs.declared.Cents.{Cents}
use Rattle.entries.specs.Kinds.{kind_of}
use Rattle.entries.specs.Data.{metres, no_entry, named_by, entry_of}
use Rattle.entries.specs.declared.arrivals.Arrival.{Arrival}
use Rattle.entries.specs.declared.raw.Raw.{Raw}
use Rattle.entries.specs.declared.kinds.Kind.{Kind}
use Rattle.entries.specs.declared.kinds.Kind.TheVariants as kind
use Rattle.entries.specs.declared.data.Entry.{Entry}
use Rattle.entries.specs.declared.data.Data.{Data}
use Rattle.entries.specs.declared.data.Data.TheVariants as data'
use Rattle.rules.specs.Accounts.{account_of}
use Rattle.rules.specs.declared.accounts.Account.{Account}
use Rattle.book.specs.Fresh.{fresh_book}
use Rattle.book.specs.Runs as books
use Rattle.changes.specs.declared.Link.{Link}
use Rattle.book.specs.Posting.{account_at, enter_of}
use Rattle.book.specs.declared.Book.{Book}
use Rattle.book.specs.declared.Run as declared
use Rattle.runs.specs.Runs.{without_run}
use Rattle.years.specs.Years.{years_most, no_year}
use Rattle.years.specs.declared.Year.{Year}
use Rattle.queries.specs.Chain.{walk_at}
use Rattle.history.specs.History.{History, last_day, last_serial, Fate, fate, guarantee_open, Balance, balance, accounts, entries, to_arrears, refunds_paid, offer, replied_of}
use Rattle.history.specs.Laws.{Valid, amount_bound}
use Rattle.history.specs.Years.{year_in}
use Rattle.history.specs.Runs.{Noted, Run, State, late_rate_most}
use Rattle.history.specs.Images.{newest_of}

-- an account as the book keeps it: its amounts, and whether a guarantee is open
abbrev pub kept_account : Balance → Bool → ℕ → Account
kept_account b guarantee newest =
    account_of (cents b.arrears) (cents b.credit) (cents b.deposit) b.rate (day b.deposited) guarantee newest

abbrev pub account_in : History → ℕ → Account
account_in h a = kept_account (balance h a) (guarantee_open h a) (newest_of h a)

-- what the book keeps of an entry of a kind: what was posted, and what became of it
abbrev pub kept_data : Kind → Raw → Fate → ℕ → ℕ → Data
kept_data kind.Unknown e f settled paid_out = data'.Unused
kept_data kind.Contribution e f settled paid_out =
    data'.Contribution e.b (metres e.a) f.added f.closed (cents e.amount) (cents f.held) (cents settled) (cents paid_out) (cents f.retained)
kept_data kind.AddedCustomer e f settled paid_out = data'.AddedCustomer (named_by e) (metres e.a) e.b
kept_data kind.Bill e f settled paid_out = data'.Bill (cents e.amount) e.a e.b (cents f.standing) f.corrected
kept_data kind.Payment e f settled paid_out = data'.Payment (cents e.amount) (cents f.standing) f.corrected
kept_data kind.Deposit e f settled paid_out = data'.Deposit (cents e.amount) e.a
kept_data kind.DepositReturn e f settled paid_out = data'.DepositReturn
kept_data kind.Expiry e f settled paid_out = data'.Expiry (named_by e)
kept_data kind.Correction e f settled paid_out = data'.Correction (named_by e) (cents e.amount)
kept_data kind.Guarantee e f settled paid_out = data'.Guarantee f.closed (day f.reduced) (cents e.amount) (cents f.held)
kept_data kind.Reduction e f settled paid_out = data'.Reduction (named_by e)
kept_data kind.Retention e f settled paid_out = data'.Retention (named_by e)
kept_data kind.LateCharge e f settled paid_out = data'.LateCharge (cents e.amount)

abbrev pub data_in : History → Raw → Data
data_in all e = kept_data (kind_of e.kind) e (fate all e) (to_arrears all e) (refunds_paid all e)

-- an entry as the book keeps it, h the older entries and `all` the whole history; its next index is the number of the account's previous entry
abbrev pub kept_entry : History → History → Raw → Entry
kept_entry all h e = entry_of e (newest_of h e.account) (data_in all e)

-- with its place
abbrev pub kept_link : History → History → Raw → Link
kept_link all h e = record { place = length h; entry = kept_entry all h e }

-- these are the totals of the hundred years from 2000 on
abbrev pub YearsKept : List Year → (ℕ → Year) → Type 0
YearsKept ys totals = (y : ℕ) → y < years_most → get_or ys y no_year ≡ totals (2000 + y)

-- each entry stands at the place of its number
pub data Placed (all : History) (es : List Entry) : History → Type 0 where
  start : Placed all es []
  more : {e : Raw} {h : History} → get_or es (length h) no_entry ≡ kept_entry all h e → Placed all es h → Placed all es (e ∷ h)

-- The book keeps the history's arrears, credit, deposits, open guarantees, last serials, entries and totals of calendar years, each number as it is.
pub record Agrees (b : Book) (h : History) : Type 0 where
  pub accounts_long : length b.accounts ≡ accounts
  pub entries_long : length b.entries ≡ entries
  pub counted : b.count ≡ length h
  pub last_1 : b.last.node_1 ≡ last_serial h 1
  pub last_2 : b.last.node_2 ≡ last_serial h 2
  pub account : (a : ℕ) → 1 ≤ a → a ≤ accounts → account_at b a ≡ account_in h a
  pub rows : Placed h b.entries h
  -- places past the count are unused
  pub unused : (i : ℕ) → length h ≤ i → get_or b.entries i no_entry ≡ no_entry
  pub years_long : length b.years.0 ≡ years_most
  pub years : YearsKept b.years.0 (year_in h)

-- an account's entries, newest first, as the book keeps them
unfoldable pub kept_walk : History → History → ℕ → List Link
kept_walk all [] account = []
kept_walk all (e ∷ h) account =
    cond (eqb e.account account) (kept_link all h e ∷ kept_walk all h account) (kept_walk all h account)

-- a book that agrees with a history whose every entry passed the judge
pub record Kept (b : Book) (h : History) : Type 0 where
  pub agrees : Agrees b h
  pub valid : Valid h

-- proofs/Agreement.antt shows it
pub record Agreement : Type 0 where
  -- a fresh book agrees with the empty history
  pub fresh : Kept fresh_book []
  -- the reply to an entry that comes in is the history's
  pub replied : (w : Arrival) (b : Book) (h : History) → Kept b h → (r : Raw) → (enter_of w b r).reply ≡ replied_of w h r
  -- the next book agrees with the next history
  pub entered : (w : Arrival) (b : Book) (h : History) → Kept b h → (r : Raw) → Kept (enter_of w b r).book (offer w h r)
  -- an account's chain is its entries, newest first
  pub chain : (b : Book) (h : History) → Kept b h → (a : ℕ) → 1 ≤ a → a ≤ accounts → walk_at b a ≡ kept_walk h h a

-- A history determines the book that keeps it, but for its run: proofs/Determined.antt shows it.
abbrev pub Determined : Type 0
Determined = (b c : Book) (h : History) → Kept b h → Kept c h → without_run b ≡ without_run c

-- the notes of accounts from one on, of those that have some
unfoldable pub notes_in : ℕ → List Cents → List Noted
notes_in a [] = []
notes_in a (n ∷ ns) = cond (ltb 0 n.0) (record { account = a; arrears = n.0 } ∷ notes_in (a + 1) ns) (notes_in (a + 1) ns)

-- the account that is charged next
abbrev pub next_in : List Noted → Option ℕ
next_in [] = None
next_in (n ∷ ns) = Some n.account

abbrev pub AllSmall : List Noted → Type 0
AllSmall [] = Unit {0}
AllSmall (n ∷ ns) = (n.arrears ≤ amount_bound) × AllSmall ns

-- what every open run of a list of calls satisfies: its node, day and rate are in range, and no noted arrears pass the bound of an account's
pub record RunInRange (run : Run) : Type 0 where
  pub node_low : 1 ≤ run.node
  pub node_high : run.node ≤ 2
  pub day : run.day ≤ last_day
  pub rate : run.rate ≤ late_rate_most
  pub small : AllSmall run.left

-- A book's run is the history's. While it is open, the accounts left are those after some place that have noted arrears; where it is over,
-- the book has none.
pub data RunKept (kept : Option declared.Run) (run : Run) : Type 0 where
  over : run.left ≡ [] → kept ≡ None → RunKept kept run
  goes_on : (n : Noted) (ns : List Noted) (noted : List Cents) → run.left ≡ n ∷ ns → kept ≡ Some (books.run_of run.node run.day run.rate n.account noted) →
      length noted ≡ accounts → (place : ℕ) → run.left ≡ notes_in (place + 1) (drop place noted) → RunInRange run → RunKept kept run

-- a book that keeps the history's entries and its run
pub record KeptState (b : Book) (s : State) : Type 0 where
  pub history : Kept b s.entries
  pub run : RunKept b.run s.run
