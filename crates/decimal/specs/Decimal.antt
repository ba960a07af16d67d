-- Numbers and amounts in decimal, and texts that end in a column, as bytes.
use Rattle.std.specs.Prelude.{ℕ, zero, suc, ◌+◌, ◌*◌, ◌-◌, ◌/◌, ◌%◌, ◌^◌, ◌≤◌, ◌<◌, ◌≡◌, cond, length, drop, replicate, ltb}
use Prim.Native.Char.{code}
use Prim.Native.String.{String, [] as none, ◌∷◌ as ◌then◌}
use mathlib.Core.List.{List, [], ◌∷◌, ◌++◌, Memᴰ}

-- the bytes of a text in ASCII
abbrev pub ascii : String → List ℕ
ascii none = []
ascii (c then s) = code c ∷ ascii s

abbrev pub newline : ℕ
newline = 10

abbrev pub space : ℕ
space = 32

abbrev pub point : ℕ
point = 46

-- a number's last digit
abbrev pub last_digit : ℕ → ℕ
last_digit n = 48 + n % 10

-- the digits of a number, without leading zeros, of which there are at most fuel
unfoldable pub digits_in : ℕ → ℕ → List ℕ
digits_in zero n = []
digits_in (suc fuel) n = let higher = digits_in fuel (n / 10) in cond (ltb n 10) [] higher ++ (last_digit n ∷ [])

-- a number n has at most n + 1 digits
unfoldable pub digits : ℕ → List ℕ
digits n = digits_in (suc n) n

-- an amount's cents: two digits
abbrev pub cents_of : ℕ → List ℕ
cents_of c = last_digit (c / 10) ∷ last_digit c ∷ []

-- an amount in cents as dollars, at least one digit, a point and two digits of cents
unfoldable pub dollars : ℕ → List ℕ
dollars c = digits (c / 100) ++ (point ∷ cents_of c)

-- a text that ends in the last of so many columns, spaces before it
unfoldable pub right : ℕ → List ℕ → List ℕ
right w t = replicate (w - length t) space ++ t

-- the columns of a line
abbrev pub line_columns : ℕ
line_columns = 80

-- the last so many columns of a line
abbrev pub last_columns : ℕ → List ℕ → List ℕ
last_columns w columns = drop (line_columns - w) columns

-- the number that digits read, after those that read `before`
unfoldable pub value_after : ℕ → List ℕ → ℕ
value_after before [] = before
value_after before (d ∷ ds) = value_after (before * 10 + (d - 48)) ds

-- The laws of decimal text; proofs/Decimal.antt shows them.
pub record DecimalText : Type 0 where
  -- a number's digits are the bytes of digits, and read as the number
  pub digit : (n d : ℕ) → Memᴰ d (digits n) → (48 ≤ d) × (d < 58)
  pub read : (n : ℕ) → value_after 0 (digits n) ≡ n
  -- there is at least one
  pub some : (n : ℕ) → 0 < length (digits n)
  -- and no more than it needs: at most k + 1 where it is below 10^(k + 1)
  pub fewest : (k n : ℕ) → n < 10 ^ suc k → length (digits n) ≤ suc k
  -- an amount's dollars and then its cents read as the amount
  pub amount : (c : ℕ) → value_after (value_after 0 (digits (c / 100))) (cents_of c) ≡ c
  -- a text that has room in w columns fills them, after spaces; the last w columns of a line that it ends are the same
  pub field : (w : ℕ) (t : List ℕ) → length t ≤ w → w ≤ line_columns → (length (right w t) ≡ w) × (last_columns w (right line_columns t) ≡ right w t)
  -- in k columns more than it has bytes, a text has k spaces before it
  pub before : (k : ℕ) (t : List ℕ) → right (length t + k) t ≡ replicate k space ++ t
