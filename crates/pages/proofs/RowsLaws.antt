-- Laws of a page's lines: an entry's columns, how long lines are, and their form.
use Prim.Native.Nat.{ℕ, zero, suc, ◌*◌, ◌≤◌, ◌<◌}
use mathlib.Core.Path.{◌≡◌, refl, ap, ◌∙◌}
use mathlib.Core.List.{List, [], ◌∷◌, ◌++◌, map, append_assoc}
use native.Mathlib.Omega.{arith}
use lib.ListN.{length, take, drop, length-append}
use lib.Seq.{take_at, drop_at}
use Rattle.decimal.specs.Decimal.{newline, line_columns, digits, dollars, right}
use Rattle.decimal.proofs.Decimal.{decimal_text, at_most_twenty_one}
use Rattle.queries.specs.declared.statements.StatementReply.{StatementReply}
use Rattle.pages.specs.Rows.{line_bytes, entries_shown, closed, blank_row, account_row, figure_row, entry_row, entry_rows, figure_rows, head_rows, text_of, Line, AllLines, FiguresFit, EntryFits, AllFit, PageForm, EntryLine}

pub blank_long : length blank_row ≡ line_bytes
unfolding blank_row right
blank_long = refl

from_end : drop line_columns blank_row ≡ newline ∷ []
unfolding blank_row right
from_end = refl

-- an entry's fields, one after another, and the end of the line
pub entry_row_lem : (l : EntryLine) →
    (((right 4 (digits l.number) ++ right 6 (digits l.day)) ++ right 3 (digits l.kind)) ++ right 67 (dollars l.amount)) ++ drop line_columns blank_row ≡ entry_row l
unfolding entry_row
entry_row_lem l = simp (from_end, append_assoc)

-- THE FORM OF A PAGE

closed_line : (columns : List ℕ) → length columns ≡ line_columns → Line (closed columns)
closed_line columns h =
    record { long = omega (arith, length-append columns (newline ∷ [])); end = drop_at columns (newline ∷ []) line_columns h }

pub blank_line : Line blank_row
blank_line = record { long = blank_long; end = from_end }

pub account_line_lem : (account : ℕ) → account < 1000 → Line (account_row account)
unfolding account_row
account_line_lem account h =
    closed_line (right 3 (digits account) ++ right 77 [])
    (omega (
      arith,
      length-append (right 3 (digits account)) (right 77 []),
      (decimal_text.field 3 (digits account) (decimal_text.fewest 2 account (omega arith)) (omega arith)).0,
      (decimal_text.field 77 [] (omega arith) (omega arith)).0,
    ))

pub figure_line : (cents : ℕ) → cents < 18446744073709551616 → Line (figure_row cents)
unfolding figure_row
figure_line cents h =
    closed_line (right line_columns (dollars cents)) (decimal_text.field line_columns (dollars cents) (omega (arith, at_most_twenty_one cents h)) (omega arith)).0

-- an entry's digits and dollars have room in their columns
pub record EntryRoom (l : EntryLine) : Type 0 where
  pub number : length (digits l.number) ≤ 4
  pub day : length (digits l.day) ≤ 6
  pub kind : length (digits l.kind) ≤ 3
  pub amount : length (dollars l.amount) ≤ 67

pub entry_room : (l : EntryLine) → EntryFits l → EntryRoom l
entry_room l f =
    record {
      number = decimal_text.fewest 3 l.number (omega (arith, f.number));
      day = decimal_text.fewest 5 l.day (omega (arith, f.day));
      kind = decimal_text.fewest 2 l.kind (omega (arith, f.kind));
      amount = omega (arith, at_most_twenty_one l.amount f.amount);
    }

pub entry_line : (l : EntryLine) → EntryFits l → Line (entry_row l)
unfolding entry_row
entry_line l f =
    let n = right 4 (digits l.number) in
    let d = right 6 (digits l.day) in
    let k = right 3 (digits l.kind) in
    let x = right 67 (dollars l.amount) in
    let r = entry_room l f in
    closed_line (n ++ (d ++ (k ++ x)))
    (omega (
      arith,
      length-append n (d ++ (k ++ x)),
      length-append d (k ++ x),
      length-append k x,
      (decimal_text.field 4 (digits l.number) r.number (omega arith)).0,
      (decimal_text.field 6 (digits l.day) r.day (omega arith)).0,
      (decimal_text.field 3 (digits l.kind) r.kind (omega arith)).0,
      (decimal_text.field 67 (dollars l.amount) r.amount (omega arith)).0,
    ))

both_lines : (rows more : List (List ℕ)) → AllLines rows → AllLines more → AllLines (rows ++ more)
both_lines [] more h k = k
both_lines (row ∷ rows) more h k = (h.0, both_lines rows more h.1 k)

entries_lines : (n : ℕ) (ls : List EntryLine) → AllFit ls → AllLines (entry_rows n ls)
unfolding entry_rows
entries_lines zero ls f = tt
entries_lines (suc n) [] f = (blank_line, entries_lines n [] tt)
entries_lines (suc n) (l ∷ ls) f = (entry_line l f.0, entries_lines n ls f.1)

entries_counted : (n : ℕ) (ls : List EntryLine) → length (entry_rows n ls) ≡ n
unfolding entry_rows
entries_counted zero ls = refl
entries_counted (suc n) [] = ap suc (entries_counted n [])
entries_counted (suc n) (l ∷ ls) = ap suc (entries_counted n ls)

-- where there are as many entries, each has its row
entries_shown_lem : (n : ℕ) (ls : List EntryLine) → n ≤ length ls → entry_rows n ls ≡ map entry_row (take n ls)
unfolding entry_rows
entries_shown_lem zero ls h = refl
entries_shown_lem (suc n) [] h = absurd (omega arith)
entries_shown_lem (suc n) (l ∷ ls) h = ap (λ rows. entry_row l ∷ rows) (entries_shown_lem n ls (omega arith))

pub figures_lines : (s : StatementReply) → FiguresFit s → AllLines (figure_rows s)
figures_lines s f = (
  figure_line s.arrears f.arrears,
  (figure_line s.credit f.credit, (figure_line s.deposit f.deposit, (figure_line s.held f.held, tt))),
)

pub head_lines : (account : ℕ) (s : StatementReply) → account < 1000 → FiguresFit s → AllLines (head_rows account s)
head_lines account s h f =
    (account_line_lem account h, (blank_line, both_lines (figure_rows s) (blank_row ∷ []) (figures_lines s f) (blank_line, tt)))

pub page_form : PageForm
page_form =
    record {
      lines = λ account s ls. omega (arith, length-append (entry_rows entries_shown ls) (blank_row ∷ []), entries_counted entries_shown ls);
      columns = λ account s ls h f g.
          both_lines (head_rows account s) (entry_rows entries_shown ls ++ (blank_row ∷ [])) (head_lines account s h f)
          (both_lines (entry_rows entries_shown ls) (blank_row ∷ []) (entries_lines entries_shown ls g) (blank_line, tt));
      newest = λ account s ls h.
          take_at (entry_rows entries_shown ls) (blank_row ∷ []) 58 (entries_counted entries_shown ls) ∙ entries_shown_lem entries_shown ls h;
    }

-- the bytes of lines, one after another
pub text_long : (rows : List (List ℕ)) → AllLines rows → length (text_of rows) ≡ line_bytes * length rows
unfolding text_of
text_long [] h = refl
text_long (row ∷ rows) h = omega (arith, length-append row (text_of rows), h.0.long, text_long rows h.1)
