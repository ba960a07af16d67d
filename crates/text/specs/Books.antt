-- The books that calls go to.
use Rattle.std.specs.Prelude.{ℕ, List, [], ◌∷◌, get_or, Result, Ok, Err}
use Rattle.text.specs.declared.calls.BookNumber.{BookNumber}
use Rattle.text.specs.declared.calls.BookNumber.TheVariants.{First, Second}
use Rattle.text.specs.declared.calls.Unclear.{Unclear}

-- by number from 0 on
abbrev pub books : List (Result BookNumber Unclear)
books = Err (record {}) ∷ Ok First ∷ Ok Second ∷ []

-- the book of a number; every number but 1 and 2 has none
unfoldable pub book_of : ℕ → Result BookNumber Unclear
book_of n = get_or books n (Err (record {}))
