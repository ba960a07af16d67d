-- An entry that comes in, a posted one among them: the next book, and the answer in the documents' numbers.
use Rattle.std.specs.Prelude.{ℕ, ◌+◌, cond, List, [], ◌∷◌, get_or, set, Option, None, Some, Ok, Err}
use Rattle.measures.specs.Cents.{cents}
use Rattle.measures.specs.declared.Cents.{Cents}
use Rattle.entries.specs.Kinds.{kind_of, same_of}
use Rattle.entries.specs.Data.{no_entry, entry_of, points_at}
use Rattle.entries.specs.declared.arrivals.Arrival.{Arrival}
use Rattle.entries.specs.declared.arrivals.Arrival.TheVariants.{Recorded}
use Rattle.entries.specs.declared.raw.Raw.{Raw}
use Rattle.entries.specs.declared.kinds.Kind.TheVariants as kind
use Rattle.entries.specs.declared.data.Entry.{Entry}
use Rattle.rules.specs.Accounts.{no_account, with_newest_of}
use Rattle.rules.specs.Answers.{PostingAnswer, posting_reply_of}
use Rattle.changes.specs.Changes.{Decision}
use Rattle.years.specs.Years.{posted_to, restated_to}
use Rattle.years.specs.declared.Years.{Years}
use Rattle.rules.specs.declared.accounts.Account.{Account}
use Rattle.rules.specs.declared.answers.PostingReply.{PostingReply}
use Rattle.changes.specs.declared.Link.{Link}
use Rattle.changes.specs.declared.Change.{Change}
use Rattle.book.specs.Fresh.{entries_most}
use Rattle.book.specs.Runs.{arrival_of}
use Rattle.book.specs.Serials.{last_of, after_of}
use Rattle.book.specs.Chain.{slot_of, start_of, walk_of, sought_in, paid_over}
use Rattle.book.specs.Refusals.{decision_by}
use Rattle.book.specs.declared.Book.{Book}
use Rattle.book.specs.declared.Found.{Found}
use Rattle.book.specs.declared.Next.{Next}

-- what it gives
pub record PostedReply : Type 0 where
  pub book : Book
  pub reply : PostingReply

abbrev pub posted_reply : Next PostingAnswer → PostedReply
posted_reply p = record { book = p.book; reply = posting_reply_of p.answer }

abbrev pub account_at : Book → ℕ → Account
account_at b account = get_or b.accounts (slot_of account) no_account

-- the entry that r names, and its place
unfoldable pub lookup_of : Book → Raw → Found
lookup_of b r =
    sought_in (points_at r) (walk_of b.entries entries_most (start_of (kind_of r.kind) (account_at b r.account).newest))

-- where r is a reduction, the payments of its account in its window; else 0
unfoldable pub paid_of : Book → Raw → Cents
paid_of b r =
    cond (same_of (kind_of r.kind) kind.Reduction)
    (paid_over r.day (cents 0) (walk_of b.entries entries_most (account_at b r.account).newest))
    (cents 0)

-- the book with other totals of the years
abbrev pub with_years : Book → Years → Book
with_years b ys = record { accounts = b.accounts; entries = b.entries; count = b.count; last = b.last; run = b.run; years = ys }

-- with the named entry as it is afterwards
abbrev pub entries_rewritten : Option Link → List Entry → List Entry
entries_rewritten None es = es
entries_rewritten (Some l) es = set es l.place l.entry

-- with the named entry, one of es, as it is afterwards; unchanged where none is named
abbrev pub years_restated : List Entry → Option Link → Years → Years
years_restated es None ys = ys
years_restated es (Some l) ys = let e = get_or es l.place no_entry in restated_to ys e.day.0 e.«data» l.entry.«data»

-- an entry counts in its own year, and what it changes of the entry that it names in that one's
unfoldable pub years_of : Book → Raw → Change → Years
years_of b r c = years_restated b.entries c.named (posted_to b.years r.day c.«data» c.amounts.paid_out)

-- The next entry gets the next number; its next index is the number of the account's previous entry;
-- its serial becomes its node's last; the entry that it names is rewritten; the totals of their years take both on.
unfoldable pub stored_of : Book → Raw → Change → Book
stored_of b r c =
    record {
      accounts = set b.accounts (slot_of r.account) (with_newest_of c.account (b.count + 1));
      entries =
          entries_rewritten c.named (set b.entries b.count (entry_of r (account_at b r.account).newest c.«data»));
      count = b.count + 1;
      last = after_of b.last r;
      run = b.run;
      years = years_of b r c;
    }

-- a refused entry leaves the book as it was
unfoldable pub decided_book : Book → Raw → Decision → Book
decided_book b r (Err n) = b
decided_book b r (Ok c) = stored_of b r c

-- the refusal of r, which comes in by w, or what it does
unfoldable pub decision_of : Arrival → Book → Raw → Decision
decision_of w b r =
    decision_by r w b.count (last_of b.last r.node) (account_at b r.account) (lookup_of b r) (paid_of b r)

-- an accepted answer carries the entry's number and the four amounts
unfoldable pub answer_of : Decision → ℕ → PostingAnswer
answer_of (Err n) number = Err n
answer_of (Ok c) number = Ok (record { number = number; amounts = c.amounts })

-- r comes in by w
unfoldable pub enter_of : Arrival → Book → Raw → PostedReply
enter_of w b r =
    record {
      book = decided_book b r (decision_of w b r);
      reply = posting_reply_of (answer_of (decision_of w b r) (b.count + 1));
    }

-- it is posted, during a run where one is open
unfoldable pub post_of : Book → Raw → PostedReply
post_of b r = enter_of (arrival_of b.run) b r

-- it is recorded, as an image's record or by a run's step
abbrev pub record_of : Book → Raw → PostedReply
record_of b r = enter_of Recorded b r

-- the book after each entry of a list is posted in turn, refused ones included
unfoldable pub posts_of : Book → List Raw → Book
posts_of b [] = b
posts_of b (r ∷ rs) = posts_of (post_of b r).book rs
