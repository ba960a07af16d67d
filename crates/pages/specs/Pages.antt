-- The page of an account of a book, written into a lent buffer.
use Rattle.std.specs.Prelude.{ℕ, ◌+◌, cond, not, ◌||◌, List, [], ◌∷◌, ◌++◌, map, length, drop, ltb, Result, Ok, Err}
use Rattle.entries.specs.Kinds.{number_of, same_of}
use Rattle.entries.specs.Ranges.{between}
use Rattle.entries.specs.Data.{particulars_of}
use Rattle.entries.specs.Refusals.{refusal_number, Row, ◌⇒◌, check_rows, decided_of}
use Rattle.entries.specs.declared.kinds.Kind.TheVariants as kind
use Rattle.entries.specs.declared.data.Entry.{Entry}
use Rattle.entries.specs.declared.refusals.Refusal.{Refusal}
use Rattle.entries.specs.declared.refusals.Refusal.TheVariants as no
use Rattle.book.specs.Fresh.{accounts_most}
use Rattle.changes.specs.declared.Link.{Link}
use Rattle.book.specs.declared.Book.{Book}
use Rattle.queries.specs.Chain.{walk_at}
use Rattle.queries.specs.Statements.{statement_of}
use Rattle.saves.specs.Saves.{raw_of}
use Rattle.pages.specs.Rows.{page_bytes, page_rows, text_of, EntryLine}

-- a bill's or payment's standing amount, else the posted one, which is zero where the kind has none
unfoldable pub shown_amount : Entry → ℕ
shown_amount e =
    let n = particulars_of e.«data» in
    cond (same_of n.kind kind.Bill || same_of n.kind kind.Payment) n.standing.0 (raw_of e).amount

-- what a page's line shows of the entry of a number
unfoldable pub entry_line_of : ℕ → Entry → EntryLine
entry_line_of number e =
    record { number = number; day = e.day.0; kind = number_of (particulars_of e.«data»).kind; amount = shown_amount e }

-- what the lines of an account's entries show, newest first; an entry's number is its place, counted from 1
abbrev pub entry_lines_of : List Link → List EntryLine
entry_lines_of ls = map (λ (l : Link). entry_line_of (l.place + 1) l.entry) ls

-- the page of an account; its figures are those of the statement
abbrev pub page_text_of : Book → ℕ → List ℕ
page_text_of b account = text_of (page_rows account (statement_of b account 0) (entry_lines_of (walk_at b account)))

-- what the call answers, in the documents' numbers, and the buffer after it
pub record PageExit : Type 0 where
  pub refusal : ℕ
  pub bytes : ℕ
  pub buffer : List ℕ

abbrev pub page_exit : ℕ → ℕ → List ℕ → PageExit
page_exit refusal bytes buffer = record { refusal = refusal; bytes = bytes; buffer = buffer }

unfoldable pub page_exit_of : Result ℕ Refusal → List ℕ → PageExit
page_exit_of (Err n) buf = page_exit (refusal_number n) 0 buf
page_exit_of (Ok n) buf = page_exit 0 n buf

-- 3, then 23
abbrev pub page_refusals : ℕ → ℕ → List Row
page_refusals account bytes =
    (not (between account 1 accounts_most) ⇒ no.UnknownAccount) ∷ (ltb bytes page_bytes ⇒ no.PageBufferShort) ∷ []

-- refused: nothing is written; else the page is written over the buffer's start, and no other byte is touched
unfoldable pub page_of : Book → ℕ → List ℕ → PageExit
page_of b account buf =
    decided_of (check_rows (page_refusals account (length buf))) (λ n. page_exit (refusal_number n) 0 buf)
    (page_exit 0 page_bytes (page_text_of b account ++ drop page_bytes buf))
