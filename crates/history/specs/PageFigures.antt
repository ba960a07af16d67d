-- A page worked out by hand from document 02, and the buffers that it is written into or refused for.
use Rattle.std.specs.Prelude.{ℕ, zero, suc, ◌≡◌, List, [], ◌∷◌, ◌++◌, replicate}
use Prim.Native.String.{String}
use Rattle.decimal.specs.Decimal.{ascii}
use Rattle.pages.specs.Pages.{page_exit}
use Rattle.entries.specs.declared.arrivals.Arrival.TheVariants.{Posted}
use Rattle.history.specs.History.{History, offers}
use Rattle.history.specs.Queries.{page_in}
use Rattle.history.specs.Guarantees.{entry}

-- Two bills of 2,333 each, of which one is corrected to 2,000, a payment of 2,500 and a reduction of 250: arrears 1,583. One entry is
-- of another account.
abbrev pub history : History
history =
    offers Posted []
    (entry 128 1 0 100000000 200 1 0 1 ∷
    entry 128 3 100 10000 30 7 0 2 ∷
    entry 5 4 100 700 0 0 0 3 ∷
    entry 128 8 101 2000 0 0 2 4 ∷
    entry 128 5 102 30005 520 0 0 5 ∷
    entry 128 9 103 50000 0 0 0 6 ∷
    entry 128 3 104 10000 30 7 0 7 ∷
    entry 128 4 36524 2500 0 0 0 8 ∷
    entry 128 10 36524 0 0 0 6 9 ∷
    [])

-- the bytes of a line, and its newline
abbrev printed : String → List ℕ
printed s = ascii s ++ (10 ∷ [])

abbrev blank : List ℕ
blank = printed "                                                                                "

abbrev blanks : ℕ → List ℕ
blanks zero = []
blanks (suc n) = blank ++ blanks n

abbrev pub page : List ℕ
page =
    printed "128                                                                             " ++
    blank ++
    printed "                                                                           15.83" ++
    printed "                                                                            0.00" ++
    printed "                                                                          300.05" ++
    printed "                                                                      1000000.00" ++
    blank ++
    printed "   9 36524 10                                                               0.00" ++
    printed "   8 36524  4                                                              25.00" ++
    printed "   7   104  3                                                              23.33" ++
    printed "   6   103  9                                                             500.00" ++
    printed "   5   102  5                                                             300.05" ++
    printed "   4   101  8                                                              20.00" ++
    printed "   2   100  3                                                              20.00" ++
    printed "   1     0  1                                                         1000000.00" ++
    blanks 51

-- a buffer as it is lent
abbrev pub lent : ℕ → List ℕ
lent n = replicate n 7

-- proofs/PageFigures.antt shows it
pub record PageFigures : Type 0 where
  -- further bytes of the buffer are untouched
  pub written : page_in history 128 (lent 5348) ≡ page_exit 0 5346 (page ++ lent 2)
  pub short : page_in history 128 (lent 5345) ≡ page_exit 23 0 (lent 5345)
  -- 3 before 23
  pub unknown : page_in history 129 (lent 5345) ≡ page_exit 3 0 (lent 5345)
