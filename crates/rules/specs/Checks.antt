-- The refusals that the account and the named entry decide, in checking order: 8 to 16, 24 beside 9, 25 and 26 after 13.
use Rattle.std.specs.Prelude.{ℕ, ◌+◌, Bool, cond, ◌&&◌, ◌||◌, List, [], ◌∷◌, eqb, leb, ltb}
use Rattle.measures.specs.declared.Cents.{Cents}
use Rattle.measures.specs.declared.Day.{Day}
use Rattle.calendar.specs.Periods.{years_on}
use Rattle.entries.specs.Kinds.{same_of, misnames_of}
use Rattle.entries.specs.Refusals.{Check, Row, ◌⇒◌, check_rows}
use Rattle.entries.specs.Data.{particulars_of}
use Rattle.entries.specs.declared.raw.Raw.{Raw}
use Rattle.entries.specs.declared.kinds.Kind.{Kind}
use Rattle.entries.specs.declared.kinds.Kind.TheVariants as kind
use Rattle.entries.specs.declared.data.Entry.{Entry}
use Rattle.entries.specs.declared.data.Particulars.{Particulars}
use Rattle.entries.specs.declared.refusals.Refusal.TheVariants as no
use Rattle.rules.specs.declared.accounts.Account.{Account}

-- the calendar years from a contribution on in which added customers bring refunds
abbrev pub refund_years : ℕ
refund_years = 5

-- the calendar years from a guarantee on after which its rest may be retained
abbrev pub guarantee_years : ℕ
guarantee_years = 5

-- a retention is judged by the guarantee's period, an added customer and an expiry by the contribution's
abbrev pub period_years : Kind → ℕ
period_years k = cond (same_of k kind.Retention) guarantee_years refund_years

-- the day on which it ends, from the day of the named entry
abbrev pub period_end : Kind → Day → ℕ
period_end k named = years_on (period_years k) named.0

-- the days from a guarantee, or from a reduction of it, to its next reduction
abbrev pub reduction_interval : ℕ
reduction_interval = 365

-- the first day on which a guarantee may be reduced, where it was given or last reduced on a day
abbrev pub next_reduction : Day → ℕ
next_reduction reduced = reduced.0 + reduction_interval

-- a deposit comes while one is held, or a return while none is; a deposit is held while its amount is above 0
abbrev pub deposit_clash : Kind → Cents → Bool
deposit_clash k held = same_of k kind.Deposit && ltb 0 held.0 || same_of k kind.DepositReturn && eqb held.0 0

-- of an entry that names nothing
abbrev pub own_rows : Raw → Kind → Account → List Row
own_rows r k acc =
    (deposit_clash k acc.deposit ⇒ no.DepositState) ∷
    (same_of k kind.Guarantee && acc.guarantee_open ⇒ no.GuaranteeOpen) ∷
    (same_of k kind.DepositReturn && ltb r.day acc.deposited.0 ⇒ no.DayBefore) ∷
    []

-- of an entry that names one of these particulars: the line, and the correction
abbrev pub named_rows : Raw → Kind → Particulars → List Row
named_rows r k n =
    (same_of k kind.AddedCustomer && (eqb r.b 1 && eqb n.phases 3) ⇒ no.OnePhase) ∷
    (same_of k kind.AddedCustomer && ltb n.built.0 r.a ⇒ no.MetresExceeded) ∷
    (n.corrected ⇒ no.CorrectedBefore) ∷
    []

-- the period first, from the named entry's day
abbrev pub period_rows : Raw → Kind → Day → Particulars → List Row
period_rows r k day n =
    (same_of k kind.AddedCustomer && leb (period_end k day) r.day ⇒ no.PeriodOver) ∷
    (same_of k kind.Expiry && ltb r.day (period_end k day) ⇒ no.PeriodRunning) ∷
    (same_of k kind.Reduction && ltb r.day (next_reduction n.reduced) ⇒ no.ReductionEarly) ∷
    (same_of k kind.Retention && ltb r.day (period_end k day) ⇒ no.RetentionEarly) ∷
    named_rows r k n

-- of an entry that names e
abbrev pub naming_rows : Raw → Kind → Entry → List Row
naming_rows r k e =
    let n = particulars_of e.«data» in
    (misnames_of k n.kind ⇒ no.NotOnChain) ∷
    (ltb r.day e.day.0 ⇒ no.DayBefore) ∷
    (n.closed ⇒ no.Closed) ∷
    period_rows r k e.day n

unfoldable pub check_own_of : Raw → Kind → Account → Check
check_own_of r k acc = check_rows (own_rows r k acc)

unfoldable pub check_naming_of : Raw → Kind → Entry → Check
check_naming_of r k e = check_rows (naming_rows r k e)
