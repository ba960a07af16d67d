-- Laws of the printer's text: account by account, and by the load's answer.
use Prim.Native.Nat.{ℕ, zero, suc, ◌-◌, ◌<◌}
use native.Mathlib.Omega.{arith}
use mathlib.Core.Path.{◌≡◌}
use mathlib.Core.List.{List, ◌++◌, append-nil}
use native.Mathlib.Numerals.{sub-one}
use borrow.Author.Tests.{ne_eqb, eq-eqb}
use Rattle.entries.specs.Refusals.{refusal_number}
use Rattle.entries.proofs.RefusalsLaws.{is_refusal}
use Rattle.lines.specs.Lines.{refused_line}
use Rattle.book.specs.Posting.{account_at}
use Rattle.book.specs.declared.Book.{Book}
use Rattle.queries.specs.Statements.{statement_of}
use Rattle.queries.specs.declared.statements.StatementReply.{StatementReply}
use Rattle.loads.specs.Loaded.{LoadAnswer, record_number, loaded_reply}
use Rattle.loads.specs.declared.Fault.{Fault}
use Rattle.book.specs.declared.Next.{Next}
use Rattle.std.specs.Prelude.{Ok, Err}
use Rattle.printer.specs.Printed.{statement_line, account_lines, book_lines, printed_of}

-- the lines up to an account, where it has entries and where it has none
module _ (b : Book) where
  pub lines_more : (account : ℕ) (text : List ℕ) (s : StatementReply) → 0 < account → ((account_at b account).newest ≡ 0 → ⊥) →
      s ≡ statement_of b account 0 → text ≡ account_lines b (account - 1) → text ++ statement_line account s ≡ account_lines b account
  unfolding account_lines
  lines_more zero text s above h q k = absurd (omega arith)
  lines_more (suc n) text s above h q k = rw (k, sub-one (suc n), ne_eqb (account_at b (suc n)).newest 0 h, q)

  pub lines_same : (account : ℕ) (text : List ℕ) → 0 < account → (account_at b account).newest ≡ 0 → text ≡ account_lines b (account - 1) → text ≡ account_lines b account
  unfolding account_lines
  lines_same zero text above h k = absurd (omega arith)
  lines_same (suc n) text above h k = rw (k, sub-one (suc n), eq-eqb (account_at b (suc n)).newest 0 h, append-nil (account_lines b n))

pub printed_book : (l : Next LoadAnswer) (x : Unit {0}) → l.answer ≡ Ok x → printed_of (loaded_reply l) ≡ book_lines l.book
unfolding printed_of loaded_reply
printed_book l x e = rw e

pub printed_refused : (l : Next LoadAnswer) (f : Fault) → l.answer ≡ Err f → printed_of (loaded_reply l) ≡ refused_line (refusal_number f.refusal) (record_number f)
unfolding printed_of loaded_reply
printed_refused l f e = rw (e, is_refusal f.refusal)
