-- The documents' figures P1 to P12, about the rules themselves: one table, the decision on each posting and what it should be.
-- Each goes through the checks and the effect.
use Rattle.std.specs.Prelude.{ℕ, ◌≡◌, cond, List, [], ◌∷◌, Option, None, Some, Ok, Err}
use Rattle.measures.specs.Cents.{cents}
use Rattle.entries.specs.Kinds.{kind_of, names_of}
use Rattle.entries.specs.Data.{no_entry, entry_of}
use Rattle.entries.specs.Refusals.{refusal_number}
use Rattle.entries.specs.declared.arrivals.Arrival.TheVariants.{Posted}
use Rattle.entries.specs.declared.raw.Raw.{Raw}
use Rattle.entries.specs.declared.data.Entry.{Entry}
use Rattle.rules.specs.Accounts.{no_account}
use Rattle.rules.specs.declared.accounts.Account.{Account}
use Rattle.changes.specs.Changes.{Decision}
use Rattle.changes.specs.declared.Link.{Link}
use Rattle.book.specs.Chain.{link_of}
use Rattle.book.specs.declared.Found.TheVariants.{At, Nothing}
use Rattle.book.specs.Refusals.{decision_by}

-- an entry of node 1 and account 1: serial, kind, day, amount, a, b. Where its kind names an entry, it names the one of serial 1.
abbrev raw : ℕ → ℕ → ℕ → ℕ → ℕ → ℕ → Raw
raw serial kind day amount a b =
    let named : ℕ = cond (names_of (kind_of kind)) 1 0 in
    record {
      kind = kind;
      node = 1;
      account = 1;
      day = day;
      serial = serial;
      amount = amount;
      named_serial = named;
      a = a;
      b = b;
      named_node = named;
    }

-- the account, and its first entry, which has serial 1
pub record State : Type 0 where
  pub account : Account
  pub first : Entry

-- after the first entry; nothing where it is refused
abbrev begun : Raw → Decision → State
begun r (Err n) = record { account = no_account; first = no_entry }
begun r (Ok c) = record { account = c.account; first = entry_of r 0 c.«data» }

abbrev begins : ℕ → ℕ → ℕ → ℕ → ℕ → State
begins kind day amount a b = let r = raw 1 kind day amount a b in begun r (decision_by r Posted 0 0 no_account Nothing (cents 0))

-- an entry after it: each is posted as the second of a book whose node's last serial is 1
abbrev post : State → ℕ → ℕ → ℕ → ℕ → ℕ → Decision
post s kind day amount a b = decision_by (raw 2 kind day amount a b) Posted 1 1 s.account (At (link_of 0 s.first)) (cents 0)

abbrev rewritten : Entry → Option Link → Entry
rewritten e None = e
rewritten e (Some l) = l.entry

abbrev after : State → Decision → State
after s (Err n) = s
after s (Ok c) = record { account = c.account; first = rewritten s.first c.named }

-- what a decision shows: the refusal, or settled, paid out, retained and interest, and the account's arrears and credit then
pub data Shown : Type 0 where
  refused : ℕ → Shown
  posted : ℕ → ℕ → ℕ → ℕ → ℕ → ℕ → Shown

abbrev shown : Decision → Shown
shown (Err n) = refused (refusal_number n)
shown (Ok c) =
    posted c.amounts.settled.0 c.amounts.paid_out.0 c.amounts.retained.0 c.amounts.interest.0 c.account.arrears.0
    c.account.credit.0

-- a contribution of 300,000 for 200 m of one phase, on day 100; and then a bill of 80,000
abbrev line : State
line = begins 1 100 300000 200 1

abbrev owing : State
owing = after line (post line 3 100 80000 30 30)

-- a customer who shares so many metres
abbrev customer : State → ℕ → Decision
customer s shared = post s 2 100 0 shared 1

abbrev s1 : State
s1 = after owing (customer owing 100)

abbrev s2 : State
s2 = after s1 (customer s1 200)

abbrev s3 : State
s3 = after s2 (customer s2 200)

abbrev s4 : State
s4 = after s3 (customer s3 200)

-- a bill in arrears, and after its correction; a payment, and then a bill of 6,000, which leaves credit 4,000
abbrev billed : State
billed = begins 3 0 12000 30 30

abbrev corrected : State
corrected = after billed (post billed 8 0 10000 0 0)

abbrev paid : State
paid = let s = begins 4 0 10000 0 0 in after s (post s 3 0 6000 30 30)

pub record Figure : Type 0 where
  pub is : Shown
  pub should : Shown

infix 20 ◌gives◌
abbrev ◌gives◌ : Decision → Shown → Figure
o gives s = record { is = shown o; should = s }

abbrev pub figures : List Figure
figures =
    -- P1 to P5
    (customer owing 100 gives posted 75000 0 0 0 5000 0) ∷
    (customer s1 200 gives posted 5000 95000 0 0 0 0) ∷
    (customer s2 200 gives posted 0 75000 0 0 0 0) ∷
    (customer s3 200 gives posted 0 50000 0 0 0 0) ∷
    (customer s4 200 gives posted 0 0 0 0 0 0) ∷
    -- P6: an added customer and an expiry on 1,925 and on 1,926
    (post line 2 1925 0 100 1 gives posted 0 75000 0 0 0 0) ∷
    (post line 2 1926 0 100 1 gives refused 12) ∷
    (post line 7 1925 0 0 0 gives refused 13) ∷
    (post line 7 1926 0 0 0 gives posted 0 0 300000 0 0 0) ∷
    -- P7, P8
    (post line 3 100 10000 30 7 gives posted 0 0 0 0 2333 0) ∷
    (post line 3 100 5 2 1 gives posted 0 0 0 0 2 0) ∷
    -- P9, P10
    (post (begins 5 100 30000 520 0) 6 465 0 0 0 gives posted 0 31560 0 1560 0 0) ∷
    (post (begins 5 100 1000 100 0) 6 118 0 0 0 gives posted 0 1000 0 0 0 0) ∷
    (post (begins 5 100 1000 100 0) 6 119 0 0 0 gives posted 0 1001 0 1 0 0) ∷
    -- P11, and the second correction
    (post billed 8 0 10000 0 0 gives posted 2000 0 0 0 10000 0) ∷
    (post corrected 8 0 9000 0 0 gives refused 16) ∷
    -- P12
    (post paid 8 0 1000 0 0 gives posted 0 0 0 0 5000 0) ∷
    []

abbrev pub AllGiven : List Figure → Type 0
AllGiven [] = Unit {0}
AllGiven (f ∷ fs) = (f.is ≡ f.should) × AllGiven fs

-- the lemma; proofs/Figures.antt shows it
abbrev pub Figures : Type 0
Figures = AllGiven figures
