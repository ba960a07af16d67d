-- Figures of decimal text, worked out by hand: one table, each text and what it should be.
use Rattle.std.specs.Prelude.{ℕ, ◌≡◌, List, [], ◌∷◌}
use Prim.Native.String.{String}
use Rattle.decimal.specs.Decimal.{ascii, digits, dollars, right}

pub record Figure : Type 0 where
  pub is : List ℕ
  pub should : List ℕ

infix 20 ◌reads◌
abbrev ◌reads◌ : List ℕ → String → Figure
t reads s = record { is = t; should = ascii s }

abbrev pub figures : List Figure
figures =
    (digits 0 reads "0") ∷
    (digits 9 reads "9") ∷
    (digits 10 reads "10") ∷
    (digits 1024 reads "1024") ∷
    (dollars 0 reads "0.00") ∷
    (dollars 5 reads "0.05") ∷
    (dollars 99 reads "0.99") ∷
    (dollars 100 reads "1.00") ∷
    (dollars 1234567 reads "12345.67") ∷
    (dollars 18446744073709551615 reads "184467440737095516.15") ∷
    (right 4 (digits 7) reads "   7") ∷
    (right 6 (dollars 250) reads "  2.50") ∷
    []

abbrev pub AllRead : List Figure → Type 0
AllRead [] = Unit {0}
AllRead (f ∷ fs) = (f.is ≡ f.should) × AllRead fs

-- the lemma; proofs/Figures.antt shows it
abbrev pub Figures : Type 0
Figures = AllRead figures
