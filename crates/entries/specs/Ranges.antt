-- The ranges of the fields by kind (refusal 5).
use Rattle.std.specs.Prelude.{ℕ, Bool, true, false, ◌&&◌, ◌||◌, eqb, leb}
use Rattle.std.specs.declared.ops.RangeInclusive.{RangeInclusive}
use Rattle.entries.specs.Kinds.{names_of}
use Rattle.entries.specs.declared.kinds.BRange.{BRange}
use Rattle.entries.specs.declared.kinds.BRange.TheVariants.{Phases, UpTo}
use Rattle.entries.specs.declared.kinds.Ends.{Ends}
use Rattle.entries.specs.declared.kinds.Limits.{Limits}
use Rattle.entries.specs.declared.kinds.Kind.{Kind}
use Rattle.entries.specs.declared.kinds.Kind.TheVariants as kind
use Rattle.entries.specs.declared.raw.Raw.{Raw}

abbrev pub amount_most : ℕ
amount_most = 100000000

-- a deposit's rate, in hundredths of a percent a year
abbrev pub rate_most : ℕ
rate_most = 2000

-- the days in a bill's period
abbrev pub bill_period_most : ℕ
bill_period_most = 62

-- a range, both ends included
abbrev pub range : ℕ → ℕ → Ends ℕ
range low high = record { start = low; end = high }

-- the ends of a range of the library
abbrev pub ends_of : {N : Type 0} → RangeInclusive N → Ends N
ends_of r = record { start = r.start; end = r.end }

abbrev pub row : ℕ → ℕ → ℕ → ℕ → BRange → Limits
row amount_low amount_high a_low a_high b = record { amount = range amount_low amount_high; a = range a_low a_high; b = b }

-- amount from, to; a from, to; b.
-- A field that the kind does not list is from 0 to 0. A bill's days served go to its days in the period, a.
unfoldable pub limits_of : Kind → ℕ → Limits
limits_of kind.Contribution a = row 1 amount_most 1 65535 Phases
limits_of kind.AddedCustomer a = row 0 0 1 65535 Phases
limits_of kind.Bill a = row 1 amount_most 1 bill_period_most (UpTo a)
limits_of kind.Payment a = row 1 amount_most 0 0 (UpTo 0)
limits_of kind.Deposit a = row 1 amount_most 0 rate_most (UpTo 0)
limits_of kind.DepositReturn a = row 0 0 0 0 (UpTo 0)
limits_of kind.Expiry a = row 0 0 0 0 (UpTo 0)
limits_of kind.Correction a = row 0 amount_most 0 0 (UpTo 0)
limits_of kind.Guarantee a = row 1 amount_most 0 0 (UpTo 0)
limits_of kind.Reduction a = row 0 0 0 0 (UpTo 0)
limits_of kind.Retention a = row 0 0 0 0 (UpTo 0)
limits_of kind.LateCharge a = row 0 amount_most 0 0 (UpTo 0)
limits_of kind.Unknown a = row 0 0 0 0 (UpTo 0)

unfoldable pub between : ℕ → ℕ → ℕ → Bool
between n low high = leb low n && leb n high

-- named node 1 or 2 and named serial 1 or more, where an entry is named; else zero and zero
unfoldable pub named_fits : Raw → Bool → Bool
named_fits r true = between r.named_node 1 2 && leb 1 r.named_serial
named_fits r false = eqb r.named_node 0 && eqb r.named_serial 0

-- 1 or 3 phases, or a number up to another
unfoldable pub b_fits : ℕ → BRange → Bool
b_fits b Phases = eqb b 1 || eqb b 3
b_fits b (UpTo high) = leb b high

-- every field but the common ones is in its range
unfoldable pub in_range_of : Raw → Kind → Bool
in_range_of r k =
    let l = limits_of k r.a in
    (between r.amount l.amount.start l.amount.end && named_fits r (names_of k)) &&
    (between r.a l.a.start l.a.end && b_fits r.b l.b)
