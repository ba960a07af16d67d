-- Late-charge runs on a book: an opening, a step and a close.
use Rattle.std.specs.Prelude.{ℕ, ◌+◌, min, cond, not, List, [], ◌∷◌, map, get_or, drop, eqb, ltb, Option, None, Some, is_some, Err}
use Rattle.measures.specs.Cents.{cents}
use Rattle.measures.specs.Days.{last_day}
use Rattle.measures.specs.declared.Cents.{Cents}
use Rattle.entries.specs.Kinds.{number_of}
use Rattle.entries.specs.Ranges.{between}
use Rattle.entries.specs.Refusals.{refusal_number, check_number, Check, Row, ◌⇒◌, check_rows, decided_of}
use Rattle.entries.specs.declared.raw.Raw.{Raw}
use Rattle.entries.specs.declared.kinds.Kind.TheVariants as kind
use Rattle.entries.specs.declared.refusals.Refusal.TheVariants as no
use Rattle.rules.specs.Answers.{posting_reply_of}
use Rattle.rules.specs.Formulas.{late_amount_of, run_rate_most}
use Rattle.rules.specs.declared.accounts.Account.{Account}
use Rattle.book.specs.Runs.{run_of}
use Rattle.book.specs.Chain.{slot_of}
use Rattle.book.specs.Serials.{last_of}
use Rattle.book.specs.Posting.{PostedReply, record_of}
use Rattle.book.specs.declared.Book.{Book}
use Rattle.book.specs.declared.Next.{Next}
use Rattle.book.specs.declared.Run.{Run}
use Rattle.book.specs.declared.Serials.{Serials}

-- a book with another run, or with none
abbrev pub with_run : Book → Option Run → Book
with_run b run = record { accounts = b.accounts; entries = b.entries; count = b.count; last = b.last; run = run; years = b.years }

unfoldable pub without_run : Book → Book
without_run b = with_run b None

abbrev pub arrears_of : Account → Cents
arrears_of acc = acc.arrears

-- of the noted arrears of accounts a, a + 1 and so on: the first account that has some
unfoldable pub next_noted : ℕ → List Cents → Option ℕ
next_noted a [] = None
next_noted a (n ∷ ns) = cond (ltb 0 n.0) (Some a) (next_noted (a + 1) ns)

-- a run of a node, a day and a rate on noted arrears goes on at an account; with no account left it is over
unfoldable pub goes_on_at : ℕ → ℕ → ℕ → List Cents → Option ℕ → Option Run
goes_on_at node day rate noted None = None
goes_on_at node day rate noted (Some next) = Some (run_of node day rate next noted)

-- after one that it has charged
abbrev pub goes_on_after : ℕ → ℕ → ℕ → List Cents → ℕ → Option Run
goes_on_after node day rate noted charged = goes_on_at node day rate noted (next_noted (charged + 1) (drop charged noted))

-- what an opening or a close gives, the answer in the documents' numbers
pub record RanReply : Type 0 where
  pub book : Book
  pub refusal : ℕ

abbrev pub ran_reply : Next Check → RanReply
ran_reply r = record { book = r.book; refusal = check_number r.answer }

-- 28: a run is open, or the node, the day or the rate is out of range
abbrev pub opening_rows : Option Run → ℕ → ℕ → ℕ → List Row
opening_rows run node day rate =
    (is_some run ⇒ no.RunState) ∷
    (not (between node 1 2) ⇒ no.RunState) ∷
    (ltb last_day day ⇒ no.RunState) ∷
    (ltb run_rate_most rate ⇒ no.RunState) ∷
    []

unfoldable pub check_opening_of : Option Run → ℕ → ℕ → ℕ → Check
check_opening_of run node day rate = check_rows (opening_rows run node day rate)

-- an opening notes every account's arrears; a refused one leaves the book as it was
unfoldable pub open_run_of : Book → ℕ → ℕ → ℕ → RanReply
open_run_of b node day rate =
    decided_of (check_opening_of b.run node day rate) (λ n. record { book = b; refusal = refusal_number n })
    (record { book = with_run b (goes_on_after node day rate (map arrears_of b.accounts) 0); refusal = 0 })

-- the node's last plus 1; where that passes 32 bits it stops, and is not new (6)
abbrev pub next_serial : ℕ → ℕ
next_serial last = min (last + 1) 4294967295

-- the noted arrears of the account that comes next
abbrev pub noted_next : Run → Cents
noted_next run = get_or run.noted (slot_of run.next) (cents 0)

-- the entry by which a run charges that account
unfoldable pub charge_of : Run → Serials → Raw
charge_of run last =
    record {
      kind = number_of kind.LateCharge;
      node = run.node;
      account = run.next;
      day = run.day;
      serial = next_serial (last_of last run.node);
      amount = (late_amount_of (noted_next run) run.rate).0;
      named_serial = 0;
      a = 0;
      b = 0;
      named_node = 0;
    }

-- a refused step leaves the run at its account
unfoldable pub stepped_of : Run → PostedReply → PostedReply
stepped_of run p =
    record {
      book = cond (eqb p.reply.refusal 0) (with_run p.book (goes_on_after run.node run.day run.rate run.noted run.next)) p.book;
      reply = p.reply;
    }

-- 28: no run is open; else the charge is recorded
unfoldable pub step_by : Option Run → Book → PostedReply
step_by None b = record { book = b; reply = posting_reply_of (Err no.RunState) }
step_by (Some run) b = stepped_of run (record_of b (charge_of run b.last))

abbrev pub step_of : Book → PostedReply
step_of b = step_by b.run b

-- 28: no run is open
unfoldable pub close_run_of : Book → RanReply
close_run_of b =
    cond (is_some b.run) (record { book = without_run b; refusal = 0 }) (record { book = b; refusal = refusal_number no.RunState })
