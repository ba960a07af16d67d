-- The number that a text begins with.
use Rattle.std.specs.Prelude.{ℕ, ◌+◌, ◌*◌, ◌-◌, cond, Option, Some, None, List, [], ◌∷◌, leb}
use Rattle.std.specs.Char.{is_ascii_digit}

-- The digits are read one by one, with the value of those before: the value of all, and the bytes after them. One beyond 64 bits is
-- none.
unfoldable pub number_from : ℕ → List ℕ → Option (ℕ × List ℕ)
number_from value [] = Some (value, [])
number_from value (byte ∷ rest) =
    let grown = value * 10 + (byte - 48) in
    cond (is_ascii_digit byte)
    (cond (leb grown 18446744073709551615) (number_from grown rest) None)
    (Some (value, byte ∷ rest))

-- the number and the bytes after it; none where no digit stands first
unfoldable pub number_in : List ℕ → Option (ℕ × List ℕ)
number_in [] = None
number_in (byte ∷ rest) = cond (is_ascii_digit byte) (number_from 0 (byte ∷ rest)) None
