-- A statement page: 66 lines of 80 columns, each closed by a newline. A row is the bytes of a line. The book and the history share this form.
use Rattle.std.specs.Prelude.{ℕ, zero, suc, ◌*◌, ◌≤◌, ◌<◌, ◌≡◌, List, [], ◌∷◌, ◌++◌, map, length, take, drop}
use Rattle.decimal.specs.Decimal.{newline, line_columns, digits, dollars, right}
use Rattle.queries.specs.declared.statements.StatementReply.{StatementReply}

-- the lines of a page, and the bytes of a line and of a page
abbrev pub page_lines : ℕ
page_lines = 66

abbrev pub line_bytes : ℕ
line_bytes = 81

abbrev pub page_bytes : ℕ
page_bytes = page_lines * line_bytes

-- how many entries a page shows
abbrev pub entries_shown : ℕ
entries_shown = 58

-- columns closed by a newline
abbrev pub closed : List ℕ → List ℕ
closed columns = columns ++ (newline ∷ [])

unfoldable pub blank_row : List ℕ
blank_row = closed (right line_columns [])

-- the account in columns 1 to 3
unfoldable pub account_row : ℕ → List ℕ
account_row account = closed (right 3 (digits account) ++ right 77 [])

-- an amount, to column 80
unfoldable pub figure_row : ℕ → List ℕ
figure_row cents = closed (right line_columns (dollars cents))

-- what a line shows of an entry: its number, day, kind and amount in cents
pub record EntryLine : Type 0 where
  pub number : ℕ
  pub day : ℕ
  pub kind : ℕ
  pub amount : ℕ

-- an entry's number in columns 1 to 4, its day in 6 to 10, its kind in 12 to 13 and its amount to column 80
unfoldable pub entry_row : EntryLine → List ℕ
entry_row l =
    closed (right 4 (digits l.number) ++ (right 6 (digits l.day) ++ (right 3 (digits l.kind) ++ right 67 (dollars l.amount))))

-- the first n entries, newest first; where there are fewer, blank lines
unfoldable pub entry_rows : ℕ → List EntryLine → List (List ℕ)
entry_rows zero ls = []
entry_rows (suc n) [] = blank_row ∷ entry_rows n []
entry_rows (suc n) (l ∷ ls) = entry_row l ∷ entry_rows n ls

-- lines 3 to 6: the statement's arrears, credit, deposit held and held
abbrev pub figure_rows : StatementReply → List (List ℕ)
figure_rows s = figure_row s.arrears ∷ figure_row s.credit ∷ figure_row s.deposit ∷ figure_row s.held ∷ []

-- lines 1 to 7
abbrev pub head_rows : ℕ → StatementReply → List (List ℕ)
head_rows account s = account_row account ∷ blank_row ∷ (figure_rows s ++ (blank_row ∷ []))

-- all 66: the newest 58 entries from line 8 on, and line 66
abbrev pub page_rows : ℕ → StatementReply → List EntryLine → List (List ℕ)
page_rows account s ls = head_rows account s ++ (entry_rows entries_shown ls ++ (blank_row ∷ []))

-- lines one after another, as bytes
unfoldable pub text_of : List (List ℕ) → List ℕ
text_of [] = []
text_of (row ∷ rows) = row ++ text_of rows

-- THE FORM OF A PAGE

-- 80 columns and a newline
pub record Line (row : List ℕ) : Type 0 where
  pub long : length row ≡ line_bytes
  pub end : drop line_columns row ≡ newline ∷ []

abbrev pub AllLines : List (List ℕ) → Type 0
AllLines [] = Unit {0}
AllLines (row ∷ rows) = Line row × AllLines rows

-- Numbers and amounts that have room in their columns. The book's are within these bounds: an entry's number by the 1,024 entries, the others
-- by their widths.
pub record FiguresFit (s : StatementReply) : Type 0 where
  pub arrears : s.arrears < 18446744073709551616
  pub credit : s.credit < 18446744073709551616
  pub deposit : s.deposit < 18446744073709551616
  pub held : s.held < 18446744073709551616

pub record EntryFits (l : EntryLine) : Type 0 where
  pub number : l.number < 10000
  pub day : l.day < 65536
  pub kind : l.kind < 256
  pub amount : l.amount < 18446744073709551616

abbrev pub AllFit : List EntryLine → Type 0
AllFit [] = Unit {0}
AllFit (l ∷ ls) = EntryFits l × AllFit ls

-- proofs/RowsLaws.antt shows it
pub record PageForm : Type 0 where
  -- 66 lines
  pub lines : (account : ℕ) (s : StatementReply) (ls : List EntryLine) → length (page_rows account s ls) ≡ 66
  -- each of 80 columns, closed by a newline
  pub columns : (account : ℕ) (s : StatementReply) (ls : List EntryLine) → account < 1000 → FiguresFit s → AllFit ls → AllLines (page_rows account s ls)
  -- lines 8 to 65 are those of the newest 58 entries
  pub newest : (account : ℕ) (s : StatementReply) (ls : List EntryLine) → 58 ≤ length ls → take 58 (drop 7 (page_rows account s ls)) ≡ map entry_row (take 58 ls)
