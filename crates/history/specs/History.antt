-- The history (document 01, "History"): the entries that joined, and what is read off their list alone.
-- Nothing here reads a book. All numbers are plain ones: no sum stops at a limit.
use Rattle.std.specs.Prelude.{ℕ, zero, suc, ◌+◌, ◌-◌, ◌*◌, Bool, true, false, cond, not, ◌&&◌, ◌||◌, length, drop, eqb, leb, ltb}
use mathlib.Core.List.{List, [], ◌∷◌, ◌++◌, foldl}
use Rattle.calendar.specs.Dates.{date_of, yyyymmdd}
use Rattle.entries.specs.Kinds.{kind_of, same_of}
use Rattle.entries.specs.Ranges.{between, in_range_of}
use Rattle.entries.specs.declared.arrivals.Arrival.{Arrival}
use Rattle.entries.specs.declared.arrivals.Arrival.TheVariants.{Posted, PostedInRun, Recorded}
use Rattle.entries.specs.declared.raw.Raw.{Raw}
use Rattle.entries.specs.declared.kinds.Kind.{Kind}
use Rattle.entries.specs.declared.kinds.Kind.TheVariants as kind
use Rattle.rules.specs.Formulas.{billed, refund, interest, given_back}
use Rattle.rules.specs.Moves.{settles, leaves, covers, owes}
use Rattle.rules.specs.Answers.{posting_reply}
use Rattle.rules.specs.declared.answers.PostingReply.{PostingReply}

-- 128 accounts and 1,024 entries are facts of every book
abbrev pub accounts : ℕ
accounts = 128

abbrev pub entries : ℕ
entries = 1024

-- 2099-12-31
abbrev pub last_day : ℕ
last_day = 36524

-- the calendar years from a contribution on in which added customers bring refunds
abbrev pub refund_years : ℕ
refund_years = 5

-- the calendar years from a guarantee on after which its rest may be retained
abbrev pub guarantee_years : ℕ
guarantee_years = 5

-- the date of a day, as the number that it is written as: 20000101 for day 0
abbrev pub dated : ℕ → ℕ
dated d = yyyymmdd (date_of d)

-- The same date so many years on. Written so, 29 February of a common year lies between 28 February and 1 March, the first date that
-- reaches it; a year past 2099 is reached by no day of the book.
abbrev pub dated_after : ℕ → ℕ → ℕ
dated_after years d = dated d + 10000 * years

-- the date from which on a contribution e brings no refunds, and from which on a guarantee e may be retained
abbrev pub refund_end : Raw → ℕ
refund_end e = dated_after refund_years e.day

abbrev pub guarantee_end : Raw → ℕ
guarantee_end e = dated_after guarantee_years e.day

-- the days whose payments a reduction counts, its own the last of them
abbrev pub window_days : ℕ
window_days = 365

-- the days from a guarantee, or from a reduction of it, to its next reduction
abbrev pub reduction_interval : ℕ
reduction_interval = 365

-- the list, newest first: document 01's end of the list is the head here
abbrev pub History : Type 0
History = List Raw

-- the serial of a node's last entry, 0 where it has none
unfoldable pub last_serial : History → ℕ → ℕ
last_serial [] node = 0
last_serial (r ∷ h) node = cond (eqb r.node node) r.serial (last_serial h node)

-- the kinds that name a guarantee, and all that name an entry
abbrev pub naming_guarantee : Kind → Bool
naming_guarantee k = same_of k kind.Reduction || same_of k kind.Retention

abbrev pub naming : Kind → Bool
naming k = naming_guarantee k || (same_of k kind.AddedCustomer || (same_of k kind.Expiry || same_of k kind.Correction))

-- a correction names a bill or a payment, a reduction and a retention a guarantee, an added customer and an expiry a contribution
abbrev pub suits : Kind → Kind → Bool
suits k l =
    cond (same_of k kind.Correction) (same_of l kind.Bill || same_of l kind.Payment)
    (cond (naming_guarantee k) (same_of l kind.Guarantee) (same_of l kind.Contribution))

-- e is of c's account, and carries the named node and named serial as its node and serial
unfoldable pub points : Raw → Raw → Bool
points c e = eqb e.account c.account && (eqb e.node c.named_node && eqb e.serial c.named_serial)

-- c is of a kind that names an entry, and e is the one
unfoldable pub names : Raw → Raw → Bool
names c e = naming (kind_of c.kind) && points c e

-- what a search ends in: the entry, with the number of entries that are older
pub data Target : Type 0 where
  absent : Target
  present : ℕ → Raw → Target

unfoldable pub find : History → Raw → Target
find [] c = absent
find (e ∷ h) c = cond (points c e) (present (length h) e) (find h c)

-- the entry that c names; none where its kind names none
unfoldable pub named : History → Raw → Target
named h c = cond (naming (kind_of c.kind)) (find h c) absent

-- the entries of a list that pass a test, and an account's entries, newest first
unfoldable pub filter : (Raw → Bool) → History → History
filter test [] = []
filter test (r ∷ h) = cond (test r) (r ∷ filter test h) (filter test h)

abbrev pub on_account : ℕ → Raw → Bool
on_account account r = eqb r.account account

abbrev pub entries_of : History → ℕ → History
entries_of h account = filter (on_account account) h

-- What became of an entry. `reduced` is the day of the last reduction, the entry's own before the first.
pub record Fate : Type 0 where
  pub held : ℕ
  pub retained : ℕ
  pub added : ℕ
  pub closed : Bool
  pub standing : ℕ
  pub corrected : Bool
  pub reduced : ℕ

abbrev pub fate_of : ℕ → ℕ → ℕ → Bool → ℕ → Bool → ℕ → Fate
fate_of held retained added closed standing corrected reduced =
    record { held = held; retained = retained; added = added; closed = closed; standing = standing; corrected = corrected; reduced = reduced }

-- 1 and 9: held = amount; the standing amount is first the billed amount of a bill, or the amount of a payment
abbrev pub posted_fate : Raw → Fate
posted_fate e = fate_of e.amount 0 0 false (cond (same_of (kind_of e.kind) kind.Bill) (billed e.amount e.b e.a) e.amount) false e.day

-- the refund that an added customer c brings to a contribution e
abbrev pub refund_by : Raw → Raw → Fate → ℕ
refund_by c e f = refund f.held e.amount c.a e.a f.added

-- What c, of a kind, makes of the entry e that it names; `paid` is the sum of the payments that a reduction counts. 2: held falls by
-- the refund. 7 and 11: retained = held; held = 0; the contribution or guarantee is closed. 8: the standing amount becomes the new
-- one. 10: held falls by the reduction, and its day is kept.
abbrev pub fate_after : Kind → Raw → Raw → ℕ → Fate → Fate
fate_after k c e paid f =
    cond (same_of k kind.AddedCustomer)
    (fate_of (f.held - refund_by c e f) f.retained (f.added + 1) f.closed f.standing f.corrected f.reduced)
    (cond (same_of k kind.Expiry || same_of k kind.Retention)
    (fate_of 0 f.held f.added true f.standing f.corrected f.reduced)
    (cond (same_of k kind.Correction)
    (fate_of f.held f.retained f.added f.closed c.amount true f.reduced)
    (cond (same_of k kind.Reduction)
    (fate_of (f.held - given_back f.held paid) f.retained f.added f.closed f.standing f.corrected c.day)
    f)))

-- what is read off an entry, of its kind, and its fate
abbrev pub Reading : Type 0
Reading = Kind → Raw → Fate → ℕ

-- a sum over entries, of what is read off each and what became of it
unfoldable pub sum : Reading → (Raw → Fate) → History → ℕ
sum f fates [] = 0
sum f fates (r ∷ es) = f (kind_of r.kind) r (fates r) + sum f fates es

-- a payment dated in the 365 days that end on a day, as it stands
abbrev pub in_window : ℕ → Kind → Raw → Bool
in_window day k p = same_of k kind.Payment && between p.day (day + 1 - window_days) day

abbrev pub paid_until : ℕ → Reading
paid_until day k p f = cond (in_window day k p) f.standing 0

unfoldable pub fate : History → Raw → Fate
fate [] e = posted_fate e
fate (c ∷ h) e =
    cond (names c e) (fate_after (kind_of c.kind) c e (sum (paid_until c.day) (fate h) (entries_of h c.account)) (fate h e)) (fate h e)

-- a sum over entries, each with its fate in the whole history, `all`
abbrev pub total : Reading → History → History → ℕ
total f all es = sum f (fate all) es

-- the payments of its account that a reduction c counts, as they stand at its posting
abbrev pub paid_by : History → Raw → ℕ
paid_by h c = total (paid_until c.day) h (entries_of h c.account)

-- a guarantee is open until its retention; how many of an account's are open, and whether one is
abbrev pub unclosed : Reading
unclosed k e f = cond (same_of k kind.Guarantee && not f.closed) 1 0

abbrev pub open_guarantees : History → ℕ → ℕ
open_guarantees h account = total unclosed h (entries_of h account)

abbrev pub guarantee_open : History → ℕ → Bool
guarantee_open h account = ltb 0 (open_guarantees h account)

-- an entry of which only the account and what it names are set
abbrev pub pointer_to : ℕ → ℕ → ℕ → Raw
pointer_to account node serial =
    record { kind = 0; node = 0; account = account; day = 0; serial = 0; amount = 0; named_serial = serial; a = 0; b = 0; named_node = node }

-- the entry found and its fate; zeros where there is none
abbrev pub target_entry : Target → Raw
target_entry absent = pointer_to 0 0 0
target_entry (present i e) = e

abbrev pub target_fate : History → Target → Fate
target_fate h absent = posted_fate (pointer_to 0 0 0)
target_fate h (present i e) = fate h e

-- An account's amounts, with the rate and the day of the deposit held.
pub record Balance : Type 0 where
  pub arrears : ℕ
  pub credit : ℕ
  pub deposit : ℕ
  pub rate : ℕ
  pub deposited : ℕ

abbrev pub balance_of : ℕ → ℕ → ℕ → ℕ → ℕ → Balance
balance_of arrears credit deposit rate deposited =
    record { arrears = arrears; credit = credit; deposit = deposit; rate = rate; deposited = deposited }

-- What an entry does to an account, with its amounts.
pub data Move : Type 0 where
  stays : Move
  restates : ℕ → ℕ → Move  -- what is owed goes from the first to the second
  refunds : ℕ → Move  -- a credit of which what is left over is paid out
  deposits : ℕ → ℕ → ℕ → Move  -- with rate and day
  returns : ℕ → Move  -- the interest; it and the deposit are credited together, and what is left over is paid out
  retains : ℕ → Move

-- to charge x, and to credit x, what is left over going to credit
abbrev pub charges : ℕ → Move
charges x = restates 0 x

abbrev pub credits : ℕ → Move
credits x = restates x 0

-- what an entry r, of kind k, does to an account; e, of kind l, and f are the entry that it names and its fate, and `paid` is the sum
-- of the payments that a reduction counts.
-- A correction: a bill that grows, or a payment that shrinks, charges the difference; the others credit it.
abbrev pub move_of : Kind → Kind → Raw → Balance → Raw → ℕ → Fate → Move
move_of kind.Unknown l r b e paid f = stays
move_of kind.Contribution l r b e paid f = stays
move_of kind.AddedCustomer l r b e paid f = refunds (refund_by r e f)
move_of kind.Bill l r b e paid f = charges (billed r.amount r.b r.a)
move_of kind.Payment l r b e paid f = credits r.amount
move_of kind.Deposit l r b e paid f = deposits r.amount r.a r.day
move_of kind.DepositReturn l r b e paid f = returns (interest b.deposit b.rate (r.day - b.deposited))
move_of kind.Expiry l r b e paid f = retains f.held
move_of kind.Correction l r b e paid f =
    let bill = same_of l kind.Bill in restates (cond bill f.standing r.amount) (cond bill r.amount f.standing)
move_of kind.Guarantee l r b e paid f = stays
move_of kind.Reduction l r b e paid f = refunds (given_back f.held paid)
move_of kind.Retention l r b e paid f = retains f.held
move_of kind.LateCharge l r b e paid f = charges r.amount

-- The account's amounts afterwards. `restates x y` charges y - x and credits x - y, what is left over going to credit; at least one of
-- the two is 0, and moves nothing.
abbrev pub moved : Move → Balance → Balance
moved stays b = b
moved (restates x y) b =
    balance_of (b.arrears + owes (y - x) b.credit - settles (x - y) b.arrears) (b.credit - covers (y - x) b.credit + leaves (x - y) b.arrears)
    b.deposit b.rate b.deposited
moved (refunds x) b = balance_of (b.arrears - settles x b.arrears) b.credit b.deposit b.rate b.deposited
moved (deposits x rate day) b = balance_of b.arrears b.credit x rate day
moved (returns i) b = balance_of (b.arrears - settles (b.deposit + i) b.arrears) b.credit 0 0 0
moved (retains x) b = b

unfoldable pub move_by : History → Raw → Balance → Move
move_by h r b = let e = target_entry (named h r) in move_of (kind_of r.kind) (kind_of e.kind) r b e (paid_by h r) (target_fate h (named h r))

unfoldable pub balance : History → ℕ → Balance
balance [] account = balance_of 0 0 0 0 0
balance (r ∷ h) account = let b = balance h account in cond (eqb r.account account) (moved (move_by h r b) b) b

-- The four amounts of an answer.
pub record Amounts : Type 0 where
  pub settled : ℕ
  pub paid_out : ℕ
  pub retained : ℕ
  pub interest : ℕ

abbrev pub four_amounts : ℕ → ℕ → ℕ → ℕ → Amounts
four_amounts settled paid_out retained interest = record { settled = settled; paid_out = paid_out; retained = retained; interest = interest }

abbrev pub amounts_by : Move → Balance → Amounts
amounts_by stays b = four_amounts 0 0 0 0
amounts_by (restates x y) b = four_amounts (settles (x - y) b.arrears) 0 0 0
amounts_by (refunds x) b = four_amounts (settles x b.arrears) (leaves x b.arrears) 0 0
amounts_by (deposits x rate day) b = four_amounts 0 0 0 0
amounts_by (returns i) b = four_amounts (settles (b.deposit + i) b.arrears) (leaves (b.deposit + i) b.arrears) 0 i
amounts_by (retains x) b = four_amounts 0 0 x 0

-- those of an entry that joins a history
unfoldable pub amounts : History → Raw → Amounts
amounts h r = let b = balance h r.account in amounts_by (move_by h r b) b

-- Refused, in checking order: a rule that is broken or not, and its number.
pub record Rule : Type 0 where
  pub broken : Bool
  pub number : ℕ

infix 10 ◌⇒◌
abbrev pub ◌⇒◌ : Bool → ℕ → Rule
b ⇒ n = record { broken = b; number = n }

-- the number of the first rule that is broken, 0 where none is
abbrev pub first_broken : List Rule → ℕ
first_broken [] = 0
first_broken (x ∷ xs) = cond x.broken x.number (first_broken xs)

-- a late charge and a bill of zero days served are recorded, and not posted or carried over; a correction is not posted during a run
abbrev pub unknown_so : Arrival → Kind → Bool
unknown_so Posted k = same_of k kind.Unknown || same_of k kind.LateCharge
unknown_so PostedInRun k = same_of k kind.Unknown || same_of k kind.LateCharge
unknown_so Recorded k = same_of k kind.Unknown

abbrev pub no_day_so : Arrival → Kind → ℕ → Bool
no_day_so Posted k served = same_of k kind.Bill && eqb served 0
no_day_so PostedInRun k served = same_of k kind.Bill && eqb served 0
no_day_so Recorded k served = false

abbrev pub waits_so : Arrival → Kind → Bool
waits_so Posted k = false
waits_so PostedInRun k = same_of k kind.Correction
waits_so Recorded k = false

-- of an entry r that comes in by w; e and f are the entry that r names and its fate, b is the balance of r's account
abbrev pub refusals : Arrival → History → Raw → Kind → Raw → Fate → Balance → List Rule
refusals w h r k e f b =
    let l = kind_of e.kind in
    (unknown_so w k ⇒ 1) ∷
    (not (between r.node 1 2) ⇒ 2) ∷
    (not (between r.account 1 accounts) ⇒ 3) ∷
    (ltb last_day r.day ⇒ 4) ∷
    (not (in_range_of r k) ⇒ 5) ∷
    (no_day_so w k r.b ⇒ 30) ∷
    (leb r.serial (last_serial h r.node) ⇒ 6) ∷
    (waits_so w k ⇒ 27) ∷
    (leb entries (length h) ⇒ 7) ∷
    (naming k && not (suits k l) ⇒ 8) ∷
    (same_of k kind.Deposit && ltb 0 b.deposit || same_of k kind.DepositReturn && eqb b.deposit 0 ⇒ 9) ∷
    (same_of k kind.Guarantee && guarantee_open h r.account ⇒ 24) ∷
    (ltb r.day (cond (same_of k kind.DepositReturn) b.deposited e.day) ⇒ 10) ∷
    ((same_of l kind.Contribution || same_of l kind.Guarantee) && f.closed ⇒ 11) ∷
    (same_of k kind.AddedCustomer && leb (refund_end e) (dated r.day) ⇒ 12) ∷
    (same_of k kind.Expiry && ltb (dated r.day) (refund_end e) ⇒ 13) ∷
    (same_of k kind.Reduction && ltb r.day (f.reduced + reduction_interval) ⇒ 25) ∷
    (same_of k kind.Retention && ltb (dated r.day) (guarantee_end e) ⇒ 26) ∷
    (same_of k kind.AddedCustomer && (eqb r.b 1 && eqb e.b 3) ⇒ 14) ∷
    (same_of k kind.AddedCustomer && ltb e.a r.a ⇒ 15) ∷
    ((same_of l kind.Bill || same_of l kind.Payment) && f.corrected ⇒ 16) ∷ []

-- the refusal of an entry that comes in by w, read against the history so far; 0 where it joins
unfoldable pub judge_by : Arrival → History → Raw → ℕ
judge_by w h r = first_broken (refusals w h r (kind_of r.kind) (target_entry (named h r)) (target_fate h (named h r)) (balance h r.account))

-- of one that is recorded, as an image's record or by a run's step: an entry that joins in any way passes this one too
abbrev pub judge : History → Raw → ℕ
judge h r = judge_by Recorded h r

-- an entry that a refusal stops adds nothing; every other joins
abbrev pub joined : ℕ → Raw → History → History
joined zero r h = r ∷ h
joined (suc n) r h = h

unfoldable pub offer : Arrival → History → Raw → History
offer w h r = joined (judge_by w h r) r h

abbrev pub offers : Arrival → History → List Raw → History
offers w h rs = foldl (offer w) h rs

-- where `step` gives the next state and an answer: the state after a list, and what each of it is answered at its point
abbrev pub after : {S A B : Type 0} → (S → A → S × B) → S → List A → S
after step s xs = foldl (λ s x. (step s x).0) s xs

abbrev pub answers_along : {S A B : Type 0} → (S → A → S × B) → S → List A → List B
answers_along step s [] = []
answers_along step s (x ∷ xs) = (step s x).1 ∷ answers_along step (step s x).0 xs

-- refused: the number and otherwise zeros; accepted: the entry's number and the four amounts
abbrev pub replied_by : ℕ → ℕ → Amounts → PostingReply
replied_by zero number x = posting_reply 0 number x.settled x.paid_out x.retained x.interest
replied_by (suc n) number x = posting_reply (suc n) 0 0 0 0 0

unfoldable pub replied_of : Arrival → History → Raw → PostingReply
replied_of w h r = replied_by (judge_by w h r) (length h + 1) (amounts h r)

-- in a carry-over each entry is offered in turn; its refusal number, or 0, goes to the same place of the result list
abbrev pub verdicts : Arrival → History → List Raw → List ℕ
verdicts w h rs = answers_along (λ h r. (offer w h r, judge_by w h r)) h rs

-- refusal 22: the result list is shorter than the entries; none is offered, and the list is unchanged
abbrev pub too_short : List Raw → List ℕ → Bool
too_short rs results = ltb (length results) (length rs)

abbrev pub results_refusal : List Raw → List ℕ → ℕ
results_refusal rs results = cond (too_short rs results) 22 0

abbrev pub carry_offers : Arrival → History → List Raw → List ℕ → History
carry_offers w h rs results = cond (too_short rs results) h (offers w h rs)

-- the result list after it; further places are unchanged
abbrev pub carry_verdicts : Arrival → History → List Raw → List ℕ → List ℕ
carry_verdicts w h rs results = cond (too_short rs results) results (verdicts w h rs ++ drop (length rs) results)

-- contributions, deposits, guarantees and late charges are summed by their amounts, bills and payments at their standing amounts,
-- contributions and guarantees by what is held
abbrev pub amount_of : Kind → Reading
amount_of l k e f = cond (same_of k l) e.amount 0

abbrev pub standing_amount : Kind → Reading
standing_amount l k e f = cond (same_of k l) f.standing 0

-- late charges count with bills
abbrev pub billed_amount : Reading
billed_amount k e f = standing_amount kind.Bill k e f + amount_of kind.LateCharge k e f

abbrev pub held_of : Kind → Reading
held_of l k e f = cond (same_of k l) f.held 0

abbrev pub held_amount : Reading
held_amount = held_of kind.Contribution

-- interest, paid out, retained, refunds and reductions are added up posting by posting, over the entries that pass a test
unfoldable pub added_up : (Amounts → ℕ) → (Raw → Bool) → History → ℕ
added_up f test [] = 0
added_up f test (r ∷ h) = cond (test r) (f (amounts h r)) 0 + added_up f test h

-- what gives something of an entry e back: the entries of a kind that point at it, added customers at a contribution, reductions at a
-- guarantee
abbrev pub gives_back : Kind → Raw → Raw → Bool
gives_back k e c = same_of (kind_of c.kind) k && points c e

-- what they settle, and what they leave over
abbrev pub settled_by : Kind → History → Raw → ℕ
settled_by k h e = added_up (λ (x : Amounts). x.settled) (gives_back k e) h

abbrev pub paid_out_by : Kind → History → Raw → ℕ
paid_out_by k h e = added_up (λ (x : Amounts). x.paid_out) (gives_back k e) h

-- a contribution's refunds to arrears and paid out are its added customers', which are counted
abbrev pub to_arrears : History → Raw → ℕ
to_arrears h e = settled_by kind.AddedCustomer h e

abbrev pub refunds_paid : History → Raw → ℕ
refunds_paid h e = paid_out_by kind.AddedCustomer h e

abbrev pub customers : History → Raw → ℕ
customers h e = added_up (λ (x : Amounts). 1) (gives_back kind.AddedCustomer e) h
