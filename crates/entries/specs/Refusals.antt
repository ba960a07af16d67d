-- The refusals of every call, and checks in order.
use Rattle.std.specs.Prelude.{ℕ, Bool, cond, List, [], ◌∷◌, Result, Ok, Err}
use Rattle.entries.specs.declared.refusals.Refusal.{Refusal}
use Rattle.entries.specs.declared.refusals.Refusal.TheVariants as no

-- the documents' number of a refusal
abbrev pub refusal_number : Refusal → ℕ
refusal_number no.UnknownKind = 1
refusal_number no.UnknownNode = 2
refusal_number no.UnknownAccount = 3
refusal_number no.UnknownDay = 4
refusal_number no.FieldOutOfRange = 5
refusal_number no.SerialNotNew = 6
refusal_number no.BookFull = 7
refusal_number no.NotOnChain = 8
refusal_number no.DepositState = 9
refusal_number no.DayBefore = 10
refusal_number no.Closed = 11
refusal_number no.PeriodOver = 12
refusal_number no.PeriodRunning = 13
refusal_number no.OnePhase = 14
refusal_number no.MetresExceeded = 15
refusal_number no.CorrectedBefore = 16
refusal_number no.ImageLength = 17
refusal_number no.ImageHeader = 18
refusal_number no.ImageCount = 19
refusal_number no.NextIndex = 20
refusal_number no.BufferShort = 21
refusal_number no.ResultsShort = 22
refusal_number no.PageBufferShort = 23
refusal_number no.GuaranteeOpen = 24
refusal_number no.ReductionEarly = 25
refusal_number no.RetentionEarly = 26
refusal_number no.CorrectionInRun = 27
refusal_number no.RunState = 28
refusal_number no.SaveInRun = 29
refusal_number no.NoDaysServed = 30

-- nothing, or the refusal
abbrev pub Check : Type 0
Check = Result (Unit {0}) Refusal

-- the refusal's number; 0 where nothing is refused
unfoldable pub check_number : Check → ℕ
check_number (Ok x) = 0
check_number (Err n) = refusal_number n

-- a rule that is broken or not
unfoldable pub refuse_if : Bool → Refusal → Check
refuse_if broken n = cond broken (Err n) (Ok tt)

-- a row of a table of checks: where the test is true, the refusal
pub record Row : Type 0 where
  pub broken : Bool
  pub refusal : Refusal

infix 10 ◌⇒◌
abbrev pub ◌⇒◌ : Bool → Refusal → Row
b ⇒ n = record { broken = b; refusal = n }

-- the refusal of the first broken rule of a table
abbrev pub check_rows : List Row → Check
check_rows [] = Ok tt
check_rows (r ∷ rs) = cond r.broken (Err r.refusal) (check_rows rs)

-- after a check: what a refusal gives, or what follows where nothing is refused
unfoldable pub decided_of : {A : Type 0} → Check → (Refusal → A) → A → A
decided_of (Err n) refused passed = refused n
decided_of (Ok x) refused passed = passed
