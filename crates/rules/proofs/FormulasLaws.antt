-- No product of an entry in range reaches the limit, so the code's formulas are the documents'.
use Prim.Native.Nat.{ℕ, ◌+◌, ◌-◌, ◌*◌, ◌<◌, ◌≤◌, min}
use mathlib.Core.Path.{◌≡◌, refl, ap, ◌∙◌}
use mathlib.Core.Bool.{true}
use borrow.Author.Tests.{leb-true}
use native.Mathlib.Nat.{mul-le-mul, mul-pos, min-eq_left}
use native.Mathlib.Omega.{arith}
use Rattle.measures.specs.Days.{last_day}
use Rattle.measures.specs.Cents.{cents, most}
use Rattle.measures.specs.declared.Cents.{Cents}
use Rattle.measures.proofs.Rounding.{rounds, floors}
use Rattle.entries.specs.Ranges.{amount_most, limits_of, b_fits, in_range_of, rate_most, bill_period_most}
use Rattle.entries.specs.Data.{metres}
use Rattle.entries.specs.declared.raw.Raw.{Raw}
use Rattle.entries.specs.declared.kinds.Kind.TheVariants as kind
use Rattle.entries.proofs.Ranges.{ranged}
use Rattle.rules.specs.Formulas.{refund, billed_of, refund_of, interest_of, late_amount_of, run_rate_most, arrears_most, Plain, PlainEntries, RoundedNearest, RefundFloor, GivenBackFloor}

-- a product of two numbers within bounds whose product fits
fits : (m n a b : ℕ) → a ≤ m → b ≤ n → m * n ≤ most → min (a * b) most ≡ a * b
fits m n a b ha hb h =
    let p : a * b ≤ m * n = mul-le-mul {n₁ = a} {m₁ = b} {n₂ = m} {m₂ = n} ha hb in
    min-eq_left (omega arith)

pub plain : Plain
unfolding billed_of refund_of interest_of late_amount_of
plain =
    record {
      bill = λ charge served period hc hs. rw (fits amount_most 255 charge served hc hs (omega arith)) refl;
      added_customer = λ n shared hn hs. rw (fits amount_most 65535 n.amount.0 shared.0 hn hs (omega arith)) refl;
      deposit_return = λ deposit rate days hd hr ht.
          let p : deposit * rate ≤ amount_most * rate_most = mul-le-mul {n₁ = deposit} {m₁ = rate} {n₂ = amount_most} {m₂ = rate_most} hd hr in
          rw (fits amount_most rate_most deposit rate hd hr (omega arith), fits (amount_most * rate_most) last_day (deposit * rate) days p ht (omega arith)) refl;
      late_charge = λ noted rate hn hr. rw (fits arrears_most run_rate_most noted rate hn hr (omega arith)) refl;
    }

served_fits : (r : Raw) → in_range_of r kind.Bill ≡ true → r.b ≤ 255
unfolding limits_of b_fits
served_fits r e =
    let s = ranged r kind.Bill e in
    let b : r.b ≤ r.a = leb-true r.b r.a s.b in
    let a : r.a ≤ bill_period_most = s.a.1 in
    omega arith

pub plain_entries : PlainEntries
unfolding limits_of
plain_entries =
    record {
      bill = λ r e. plain.bill r.amount r.b r.a (ranged r kind.Bill e).amount.1 (served_fits r e);
      added_customer = λ c r n ec er en.
          let h = (ranged c kind.Contribution ec).amount.1 in
          let same = ap (λ (m : Cents). m.0) en in
          plain.added_customer n (metres r.a) (omega arith) (ranged r kind.AddedCustomer er).a.1 ∙
          ap (λ (m : ℕ). cents (refund n.held.0 m r.a n.built.0 n.added)) same;
      deposit_return = λ d r e h.
          plain.deposit_return d.amount d.a (r.day - d.day) (ranged d kind.Deposit e).amount.1 (ranged d kind.Deposit e).a.1 (omega arith);
    }

pub rounded_nearest : RoundedNearest
rounded_nearest =
    record {
      bill = λ charge served period h. rounds (charge * served) period h;
      deposit_return = λ deposit rate t. rounds (deposit * rate * t) 3650000 (omega arith);
      late_charge = λ noted rate. (_, rounds (noted * rate) 10000 (omega arith), refl);
    }

pub refund_floor : RefundFloor
refund_floor held contribution shared built added h =
    let d : 0 < built * (added + 2) = mul-pos h (omega arith) in
    (_, floors (contribution * shared) (built * (added + 2)) d, refl)

pub given_back_floor : GivenBackFloor
given_back_floor held paid = (_, floors paid 10 (omega arith), refl)
