-- The statement printer's lines, as bytes.
use Rattle.std.specs.Prelude.{ℕ, List, [], ◌∷◌, ◌++◌}
use Rattle.decimal.specs.Decimal.{newline, space, digits}

-- no line of the printer's has more bytes
abbrev pub longest_line : ℕ
longest_line = 128

-- a space before each number, and the end of the line
unfoldable pub numbers_of : List ℕ → List ℕ
numbers_of [] = newline ∷ []
numbers_of (n ∷ ns) = (space ∷ digits n) ++ numbers_of ns

-- a word and numbers, one space between
unfoldable pub line_of : List ℕ → List ℕ → List ℕ
line_of word numbers = word ++ numbers_of numbers

-- account, arrears, credit, deposit held, held
abbrev pub account_line : ℕ → ℕ → ℕ → ℕ → ℕ → List ℕ
account_line account arrears credit deposit held = line_of (digits account) (arrears ∷ credit ∷ deposit ∷ held ∷ [])

-- `end` and the count
abbrev pub end_line : ℕ → List ℕ
end_line count = line_of (101 ∷ 110 ∷ 100 ∷ []) (count ∷ [])

-- `refused`, number, record
abbrev pub refused_line : ℕ → ℕ → List ℕ
refused_line number record' = line_of (114 ∷ 101 ∷ 102 ∷ 117 ∷ 115 ∷ 101 ∷ 100 ∷ []) (number ∷ record' ∷ [])
