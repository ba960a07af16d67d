-- What an entry of each kind does to its account and to the entry that it names.
use Rattle.std.specs.Prelude.{Bool, true, false, cond, Option, None, Some, Result, Ok, Err}
use Rattle.measures.specs.Cents.{cents, plus_of, minus_of}
use Rattle.measures.specs.Days.{day, since_of}
use Rattle.measures.specs.declared.Cents.{Cents}
use Rattle.entries.specs.Kinds.{same_of}
use Rattle.entries.specs.Data.{metres, particulars_of, with_of, named_by, refunded_of, expired_of, restated_of, reduced_of, retained_of}
use Rattle.entries.specs.Refusals.{decided_of}
use Rattle.entries.specs.declared.refusals.Refusal.{Refusal}
use Rattle.entries.specs.declared.raw.Raw.{Raw}
use Rattle.entries.specs.declared.kinds.Kind.{Kind}
use Rattle.entries.specs.declared.kinds.Kind.TheVariants as kind
use Rattle.entries.specs.declared.data.Data.{Data}
use Rattle.entries.specs.declared.data.Data.TheVariants as data'
use Rattle.rules.specs.Accounts.{credited_of, plus_credit_of, charged_of, with_deposit_of, with_guarantee_of}
use Rattle.rules.specs.Formulas.{billed_of, refund_of, interest_of, given_back_of}
use Rattle.rules.specs.Checks.{check_own_of, check_naming_of}
use Rattle.rules.specs.Answers.{amounts_of}
use Rattle.rules.specs.declared.accounts.Account.{Account}
use Rattle.rules.specs.declared.answers.Amounts.{Amounts}
use Rattle.changes.specs.declared.Link.{Link}
use Rattle.changes.specs.declared.Change.{Change}

abbrev pub nothing_of : Amounts
nothing_of = amounts_of (cents 0) (cents 0) (cents 0) (cents 0)

-- what an entry does, or its refusal
abbrev pub Decision : Type 0
Decision = Result Change Refusal

abbrev pub change_of : Account → Data → Option Link → Amounts → Change
change_of acc d named amounts = record { account = acc; «data» = d; named = named; amounts = amounts }

-- of an entry that names nothing
abbrev pub alone_of : Account → Data → Amounts → Change
alone_of acc d amounts = change_of acc d None amounts

-- of one that names the entry of a link, which has the data `after` then
abbrev pub naming_of : Account → Data → Link → Data → Amounts → Change
naming_of acc d l after amounts = change_of acc d (Some (record { place = l.place; entry = with_of l.entry after })) amounts

-- 1: held = amount
unfoldable pub contribution_of : Raw → Account → Change
contribution_of r acc =
    let amount = cents r.amount in
    alone_of acc (data'.Contribution r.b (metres r.a) 0 false amount amount (cents 0) (cents 0) (cents 0)) nothing_of

-- 2: held falls by the refund; it is credited; what is left over is paid out
unfoldable pub added_customer_of : Raw → Account → Link → Change
added_customer_of r acc l =
    let d = l.entry.«data» in
    let refund = refund_of (particulars_of d) (metres r.a) in
    let credited = credited_of acc refund in
    naming_of credited.account (data'.AddedCustomer (named_by r) (metres r.a) r.b) l
    (refunded_of d refund credited.settled credited.left)
    (amounts_of credited.settled credited.left (cents 0) (cents 0))

-- 3: billed is charged
unfoldable pub bill_of : Raw → Account → Change
bill_of r acc =
    let charge = cents r.amount in
    let standing = billed_of charge r.b r.a in
    alone_of (charged_of acc standing) (data'.Bill charge r.a r.b standing false) nothing_of

-- 4: credited; what is left over is added to credit
unfoldable pub payment_of : Raw → Account → Change
payment_of r acc =
    let amount = cents r.amount in
    let credited = credited_of acc amount in
    alone_of (plus_credit_of credited.account credited.left) (data'.Payment amount amount false)
    (amounts_of credited.settled (cents 0) (cents 0) (cents 0))

-- 5: deposit held = amount
unfoldable pub deposit_of : Raw → Account → Change
deposit_of r acc =
    let amount = cents r.amount in
    alone_of (with_deposit_of acc amount r.a (day r.day)) (data'.Deposit amount r.a) nothing_of

-- 6: deposit and interest are credited together; what is left over is paid out; deposit held = 0
unfoldable pub deposit_return_of : Raw → Account → Change
deposit_return_of r acc =
    let interest = interest_of acc.deposit acc.rate (since_of (day r.day) acc.deposited) in
    let credited = credited_of acc (plus_of acc.deposit interest) in
    alone_of (with_deposit_of credited.account (cents 0) 0 (day 0)) data'.DepositReturn
    (amounts_of credited.settled credited.left (cents 0) interest)

-- 7: retained = held; held = 0; the contribution is closed
unfoldable pub expiry_of : Raw → Account → Link → Change
expiry_of r acc l =
    let d = l.entry.«data» in
    naming_of acc (data'.Expiry (named_by r)) l (expired_of d)
    (amounts_of (cents 0) (cents 0) (particulars_of d).held (cents 0))

abbrev pub pick_of : Bool → Cents → Cents → Cents
pick_of true a b = a
pick_of false a b = b

-- 8: the standing amount becomes the new one. A bill that grows, or a payment that shrinks, charges the difference;
-- the others credit it, what is left over going to credit. Of `up` and `down` at least one is 0, and moves nothing.
unfoldable pub correction_of : Raw → Account → Link → Change
correction_of r acc l =
    let d = l.entry.«data» in
    let new = cents r.amount in
    let old = (particulars_of d).standing in
    let bill = same_of (particulars_of d).kind kind.Bill in
    let up = minus_of new old in
    let down = minus_of old new in
    let credited = credited_of (charged_of acc (pick_of bill up down)) (pick_of bill down up) in
    naming_of (plus_credit_of credited.account credited.left) (data'.Correction (named_by r) new) l
    (restated_of d new) (amounts_of credited.settled (cents 0) (cents 0) (cents 0))

-- 9: guarantee held = amount; one is open
unfoldable pub guarantee_of : Raw → Account → Change
guarantee_of r acc =
    let amount = cents r.amount in
    alone_of (with_guarantee_of acc true) (data'.Guarantee false (day r.day) amount amount) nothing_of

-- 10: guarantee held falls by what is given back; it is credited; what is left over is paid out
unfoldable pub reduction_of : Raw → Account → Cents → Link → Change
reduction_of r acc paid l =
    let d = l.entry.«data» in
    let back = given_back_of (particulars_of d).guarantee_held paid in
    let credited = credited_of acc back in
    naming_of credited.account (data'.Reduction (named_by r)) l (reduced_of d back (day r.day))
    (amounts_of credited.settled credited.left (cents 0) (cents 0))

-- 11: retained = guarantee held; held = 0; the guarantee is closed, and none is open
unfoldable pub retention_of : Raw → Account → Link → Change
retention_of r acc l =
    let d = l.entry.«data» in
    naming_of (with_guarantee_of acc false) (data'.Retention (named_by r)) l (retained_of d)
    (amounts_of (cents 0) (cents 0) (particulars_of d).guarantee_held (cents 0))

-- 12: the amount is charged
unfoldable pub late_charge_of : Raw → Account → Change
late_charge_of r acc = let amount = cents r.amount in alone_of (charged_of acc amount) (data'.LateCharge amount) nothing_of

-- what an entry that names nothing does: of kind 1, 3, 4, 5, 9, 12 or else 6
unfoldable pub own_change_of : Raw → Kind → Account → Change
own_change_of r k acc =
    cond (same_of k kind.Contribution) (contribution_of r acc)
    (cond (same_of k kind.Bill) (bill_of r acc)
    (cond (same_of k kind.Payment) (payment_of r acc)
    (cond (same_of k kind.Deposit) (deposit_of r acc)
    (cond (same_of k kind.Guarantee) (guarantee_of r acc)
    (cond (same_of k kind.LateCharge) (late_charge_of r acc) (deposit_return_of r acc))))))

-- what an entry does that names the one of a link: of kind 2, 7, 10, 11 or else 8; `paid` is the sum of the payments in a reduction's
-- window
unfoldable pub naming_change_of : Raw → Kind → Account → Cents → Link → Change
naming_change_of r k acc paid l =
    cond (same_of k kind.AddedCustomer) (added_customer_of r acc l)
    (cond (same_of k kind.Expiry) (expiry_of r acc l)
    (cond (same_of k kind.Reduction) (reduction_of r acc paid l)
    (cond (same_of k kind.Retention) (retention_of r acc l) (correction_of r acc l))))

-- an entry that names nothing is refused by the first rule that it breaks, or has its effect
unfoldable pub own_decision_of : Raw → Kind → Account → Decision
own_decision_of r k acc = decided_of (check_own_of r k acc) Err (Ok (own_change_of r k acc))

-- and so is one that names the entry of a link
unfoldable pub naming_decision_of : Raw → Kind → Account → Cents → Link → Decision
naming_decision_of r k acc paid l = decided_of (check_naming_of r k l.entry) Err (Ok (naming_change_of r k acc paid l))
