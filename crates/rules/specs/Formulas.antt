-- The formulas of kinds 2, 3, 6, 10 and 12: the documents' on plain numbers, and those of the code, whose products stop at 2^64 - 1.
use Rattle.std.specs.Prelude.{ℕ, ◌+◌, ◌-◌, ◌*◌, ◌/◌, min, ◌≤◌, ◌<◌, ◌≡◌, true}
use Rattle.measures.specs.Days.{last_day}
use Rattle.measures.specs.Cents.{product_of, cents, least_of, times_of, rounded_of}
use Rattle.measures.specs.Rounding.{rounded, Nearest, Floor}
use Rattle.measures.specs.declared.Cents.{Cents}
use Rattle.measures.specs.declared.Metres.{Metres}
use Rattle.entries.specs.Ranges.{amount_most, in_range_of, rate_most}
use Rattle.entries.specs.Data.{metres}
use Rattle.entries.specs.declared.raw.Raw.{Raw}
use Rattle.entries.specs.declared.kinds.Kind.TheVariants as kind
use Rattle.entries.specs.declared.data.Particulars.{Particulars}

-- 3: billed = charge × served / period, rounded
abbrev pub billed : ℕ → ℕ → ℕ → ℕ
billed charge served period = rounded (charge * served) period

-- 2: k = 2 plus the added customers accepted before; the refund is the smaller of held and
-- floor(contribution × metres shared / (metres built × k))
abbrev pub refund : ℕ → ℕ → ℕ → ℕ → ℕ → ℕ
refund held contribution shared built added = min held (contribution * shared / (built * (added + 2)))

-- 6: interest = deposit × rate × t / 3,650,000, rounded
abbrev pub interest : ℕ → ℕ → ℕ → ℕ
interest deposit rate t = rounded (deposit * rate * t) 3650000

-- 10: the smaller of held and floor(payments in the window / 10)
abbrev pub given_back : ℕ → ℕ → ℕ
given_back held paid = min held (paid / 10)

-- 12: noted arrears × rate / 10,000, rounded as bills are, at most 100,000,000
abbrev pub late_amount : ℕ → ℕ → ℕ
late_amount noted rate = min (rounded (noted * rate) 10000) amount_most

unfoldable pub billed_of : Cents → ℕ → ℕ → Cents
billed_of charge served period = rounded_of (times_of charge served) period

unfoldable pub refund_of : Particulars → Metres → Cents
refund_of n shared = cents (min n.held.0 (product_of n.amount.0 shared.0 / (n.built.0 * (n.added + 2))))

unfoldable pub interest_of : Cents → ℕ → ℕ → Cents
interest_of deposit rate days = rounded_of (times_of (times_of deposit rate) days) 3650000

unfoldable pub given_back_of : Cents → Cents → Cents
given_back_of held paid = cents (given_back held.0 paid.0)

unfoldable pub late_amount_of : Cents → ℕ → Cents
late_amount_of noted rate = least_of (rounded_of (times_of noted rate) 10000) (cents amount_most)

-- a run's highest rate, in hundredths of a percent, and arrears that no 1,024 entries pass
abbrev pub run_rate_most : ℕ
run_rate_most = 1000

abbrev pub arrears_most : ℕ
arrears_most = 1024000000000000

-- Within these limits no product reaches 2^64 - 1, and the code's formulas are the documents'.
pub record Plain : Type 0 where
  pub bill : (charge served period : ℕ) → charge ≤ amount_most → served ≤ 255 → billed_of (cents charge) served period ≡ cents (billed charge served period)
  pub added_customer : (n : Particulars) (shared : Metres) → n.amount.0 ≤ amount_most → shared.0 ≤ 65535 →
      refund_of n shared ≡ cents (refund n.held.0 n.amount.0 shared.0 n.built.0 n.added)
  pub deposit_return : (deposit rate days : ℕ) → deposit ≤ amount_most → rate ≤ rate_most → days ≤ last_day → interest_of (cents deposit) rate days ≡ cents (interest deposit rate days)
  pub late_charge : (noted rate : ℕ) → noted ≤ arrears_most → rate ≤ run_rate_most → late_amount_of (cents noted) rate ≡ cents (late_amount noted rate)

-- So they are for every entry that refusals 1 to 5 let through: a bill; a customer added to a contribution; the return of a deposit.
pub record PlainEntries : Type 0 where
  pub bill : (r : Raw) → in_range_of r kind.Bill ≡ true →
      billed_of (cents r.amount) r.b r.a ≡ cents (billed r.amount r.b r.a)
  pub added_customer : (contribution r : Raw) (n : Particulars) → in_range_of contribution kind.Contribution ≡ true → in_range_of r kind.AddedCustomer ≡ true →
      n.amount ≡ cents contribution.amount →
      refund_of n (metres r.a) ≡ cents (refund n.held.0 contribution.amount r.a n.built.0 n.added)
  pub deposit_return : (deposit r : Raw) → in_range_of deposit kind.Deposit ≡ true → r.day ≤ last_day →
      interest_of (cents deposit.amount) deposit.a (r.day - deposit.day) ≡ cents (interest deposit.amount deposit.a (r.day - deposit.day))

-- Billed amounts, interest and late charges are rounded by the one law of rounding: to the nearest cent, an exact half to the even one.
pub record RoundedNearest : Type 0 where
  pub bill : (charge served period : ℕ) → 0 < period → Nearest (charge * served) period (billed charge served period)
  pub deposit_return : (deposit rate t : ℕ) → Nearest (deposit * rate * t) 3650000 (interest deposit rate t)
  pub late_charge : (noted rate : ℕ) → (x : ℕ) × Nearest (noted * rate) 10000 x × (late_amount noted rate ≡ min x amount_most)

-- A refund is the smaller of what is held and its share rounded down; k is 2 more than the customers added before, however many.
abbrev pub RefundFloor : Type 0
RefundFloor = (held contribution shared built added : ℕ) → 0 < built →
    (share : ℕ) × Floor (contribution * shared) (built * (added + 2)) share × (refund held contribution shared built added ≡ min held share)

-- A reduction is the smaller of what is held and a tenth of the sum of the payments, rounded down once.
abbrev pub GivenBackFloor : Type 0
GivenBackFloor = (held paid : ℕ) → (tenth : ℕ) × Floor paid 10 tenth × (given_back held paid ≡ min held tenth)
