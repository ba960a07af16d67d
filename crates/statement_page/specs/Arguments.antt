-- The account that an argument names.
use Rattle.std.specs.Prelude.{ℕ, cond, Option, Some, None, List, [], ◌∷◌, leb}
use Rattle.text.specs.Reading.{number_in}

-- the account of a number and the bytes after it: 0, which no account has, where there are any, or the number is above 65,535
abbrev pub account_of : Option (ℕ × List ℕ) → ℕ
account_of None = 0
account_of (Some (n, [])) = cond (leb n 65535) n 0
account_of (Some (n, byte ∷ rest)) = 0

-- the number that the whole argument is
unfoldable pub account_in : List ℕ → ℕ
account_in word = account_of (number_in word)
