-- The payments that a reduction counts.
use Rattle.std.specs.Prelude.{ℕ, ◌+◌, Bool, cond, ◌&&◌, leb, ltb}
use Rattle.measures.specs.Cents.{cents}
use Rattle.measures.specs.declared.Cents.{Cents}
use Rattle.entries.specs.Kinds.{same_of}
use Rattle.entries.specs.Data.{particulars_of}
use Rattle.entries.specs.declared.kinds.Kind.TheVariants as kind
use Rattle.entries.specs.declared.data.Entry.{Entry}

-- the days whose payments a reduction counts; its own is the last
abbrev pub window_days : ℕ
window_days = 365

-- a payment's day is one of those that end on a day
abbrev pub in_window : ℕ → ℕ → Bool
in_window dated day = leb dated day && ltb day (dated + window_days)

-- what an entry counts for a reduction of a day: a payment dated in these days its standing amount, any other entry nothing
unfoldable pub paid_within : Entry → ℕ → Cents
paid_within e day =
    let n = particulars_of e.«data» in cond (same_of n.kind kind.Payment && in_window e.day.0 day) n.standing (cents 0)
