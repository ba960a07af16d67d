-- Laws of refusals: their numbers, of which 0 means none, and rows of a table by them.
use Prim.Native.Nat.{ℕ, ◌<◌}
use mathlib.Core.Path.{◌≡◌, refl}
use mathlib.Core.Bool.{false, Bool, true, cond}
use native.Mathlib.Omega.{arith}
use lib.Dec.{eqb}
use borrow.Author.Tests.{ne_eqb}
use Rattle.entries.specs.Refusals.{refusal_number, Row, ◌⇒◌, check_rows}
use Rattle.entries.specs.declared.refusals.Refusal.{Refusal}
use Rattle.entries.specs.declared.refusals.Refusal.TheVariants as no
use Rattle.std.specs.Prelude.{Ok, Err}
use mathlib.Core.List.{List, [], ◌∷◌}

pub refusal_above : (n : Refusal) → 0 < refusal_number n
refusal_above no.UnknownKind = omega arith
refusal_above no.UnknownNode = omega arith
refusal_above no.UnknownAccount = omega arith
refusal_above no.UnknownDay = omega arith
refusal_above no.FieldOutOfRange = omega arith
refusal_above no.SerialNotNew = omega arith
refusal_above no.BookFull = omega arith
refusal_above no.NotOnChain = omega arith
refusal_above no.DepositState = omega arith
refusal_above no.DayBefore = omega arith
refusal_above no.Closed = omega arith
refusal_above no.PeriodOver = omega arith
refusal_above no.PeriodRunning = omega arith
refusal_above no.OnePhase = omega arith
refusal_above no.MetresExceeded = omega arith
refusal_above no.CorrectedBefore = omega arith
refusal_above no.ImageLength = omega arith
refusal_above no.ImageHeader = omega arith
refusal_above no.ImageCount = omega arith
refusal_above no.NextIndex = omega arith
refusal_above no.BufferShort = omega arith
refusal_above no.ResultsShort = omega arith
refusal_above no.PageBufferShort = omega arith
refusal_above no.GuaranteeOpen = omega arith
refusal_above no.ReductionEarly = omega arith
refusal_above no.RetentionEarly = omega arith
refusal_above no.CorrectionInRun = omega arith
refusal_above no.RunState = omega arith
refusal_above no.SaveInRun = omega arith
refusal_above no.NoDaysServed = omega arith

pub is_refusal : (n : Refusal) → eqb (refusal_number n) 0 ≡ false
is_refusal n = ne_eqb (refusal_number n) 0 (λ z. omega (arith, refusal_above n))

-- the row of a refusal's number; one that is not broken where the table has none
abbrev pub row_of : ℕ → List Row → Row
row_of n [] = false ⇒ no.UnknownKind
row_of n (r ∷ rs) = cond (eqb (refusal_number r.refusal) n) r (row_of n rs)

pub unbroken : (n : ℕ) (rows : List Row) → check_rows rows ≡ Ok tt → (row_of n rows).broken ≡ false
unbroken n [] e = refl
unbroken n (r ∷ rs) e = go r.broken refl (unbroken n rs) e
  where
    pick : (t : Bool) → r.broken ≡ false → (row_of n rs).broken ≡ false → (cond t r (row_of n rs)).broken ≡ false
    pick true p q = p
    pick false p q = q

    go : (t : Bool) → r.broken ≡ t → (check_rows rs ≡ Ok tt → (row_of n rs).broken ≡ false) → cond t (Err r.refusal) (check_rows rs) ≡ Ok tt →
        (row_of n (r ∷ rs)).broken ≡ false
    go true p rest e = let z : ◌≡◌ {A = ℕ} 0 1 = cc in absurd (omega arith)
    go false p rest e = pick (eqb (refusal_number r.refusal) n) p (rest e)
