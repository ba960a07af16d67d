-- What holds of every history that offers give, from the empty one on.
use Rattle.std.specs.Prelude.{ℕ, ◌+◌, ◌*◌, ◌/◌, min, ◌≤◌, ◌<◌, ◌≡◌, true, List, [], ◌∷◌, length}
use Rattle.entries.specs.Kinds.{kind_of}
use Rattle.entries.specs.declared.arrivals.Arrival.{Arrival}
use Rattle.entries.specs.declared.raw.Raw.{Raw}
use Rattle.entries.specs.declared.kinds.Kind.{Kind}
use Rattle.entries.specs.declared.kinds.Kind.TheVariants as kind
use Rattle.history.specs.History.{History, Amounts, entries, dated, refund_end, points, fate, total, paid_by, open_guarantees, Balance, balance, amounts, judge, offers, on_account, entries_of, Reading, amount_of, standing_amount, billed_amount, held_of, held_amount, added_up, settled_by, paid_out_by, customers}
use Rattle.history.specs.Years.{year_in}

-- the histories that offers give, and a run's steps: no refusal stopped any entry, read against those before it
pub data Valid : History → Type 0 where
  empty : Valid []
  joins : {r : Raw} {h : History} → Valid h → judge h r ≡ 0 → Valid (r ∷ h)

-- an entry of a history
pub data In (e : Raw) : History → Type 0 where
  newest : {r : Raw} {h : History} → r ≡ e → In e (r ∷ h)
  older : {r : Raw} {h : History} → In e h → In e (r ∷ h)

-- An account's sums over its entries and posting by posting, and its amounts as the last entry leaves them.
pub record AccountSums : Type 0 where
  pub contributions : ℕ
  pub payments : ℕ
  pub deposits : ℕ
  pub guarantees : ℕ
  pub interest : ℕ
  pub arrears : ℕ
  pub bills : ℕ
  pub paid_out : ℕ
  pub retained : ℕ
  pub held : ℕ
  pub deposit : ℕ
  pub guarantee_held : ℕ
  pub credit : ℕ

-- from a sum over entries of what is read off each, one posting by posting of an amount, and the balance
abbrev pub sums_by : (Reading → ℕ) → ((Amounts → ℕ) → ℕ) → Balance → AccountSums
sums_by sum added b =
    record {
      contributions = sum (amount_of kind.Contribution);
      payments = sum (standing_amount kind.Payment);
      deposits = sum (amount_of kind.Deposit);
      guarantees = sum (amount_of kind.Guarantee);
      interest = added (λ x. x.interest);
      arrears = b.arrears;
      bills = sum billed_amount;
      paid_out = added (λ x. x.paid_out);
      retained = added (λ x. x.retained);
      held = sum held_amount;
      deposit = b.deposit;
      guarantee_held = sum (held_of kind.Guarantee);
      credit = b.credit;
    }

abbrev pub sums_of : History → ℕ → AccountSums
sums_of h a = sums_by (λ f. total f h (entries_of h a)) (λ f. added_up f (on_account a) h) (balance h a)

-- Contributions, payments, deposits, guarantees, interest and arrears together are bills with late charges, paid out, retained, contributions held,
-- deposit held, guarantee held and credit together.
abbrev pub Conserved : AccountSums → Type 0
Conserved s =
    s.contributions + s.payments + s.deposits + s.guarantees + s.interest + s.arrears
    ≡ s.bills + s.paid_out + s.retained + s.held + s.deposit + s.guarantee_held + s.credit

-- A contribution or guarantee is what was given back of it to arrears and paid out, what is held and what is retained together; k is
-- the kind that gives back.
abbrev pub Divided : Kind → History → Raw → Type 0
Divided k h e = e.amount ≡ settled_by k h e + paid_out_by k h e + (fate h e).held + (fate h e).retained

-- An added customer c, after h: its refund, settled and paid out, is the smaller of held and
-- floor(contribution × metres shared / (metres built × k)), k = 2 plus the added customers of the contribution before.
abbrev pub Refunds : Raw → History → Type 0
Refunds c h =
    (e : Raw) → In e h → kind_of c.kind ≡ kind.AddedCustomer → points c e ≡ true →
    (amounts h c).settled + (amounts h c).paid_out ≡ min (fate h e).held (e.amount * c.a / (e.a * (customers h e + 2)))

-- A reduction c, after h: what it gives back, settled and paid out, is the smaller of held and a tenth, rounded down, of the payments
-- that it counts.
abbrev pub Reduces : Raw → History → Type 0
Reduces c h =
    (e : Raw) → In e h → kind_of c.kind ≡ kind.Reduction → points c e ≡ true →
    (amounts h c).settled + (amounts h c).paid_out ≡ min (fate h e).held (paid_by h c / 10)

-- two corrections on one account that name the same entry
pub record Again (c d : Raw) : Type 0 where
  pub first : kind_of c.kind ≡ kind.Correction
  pub second : kind_of d.kind ≡ kind.Correction
  pub account : c.account ≡ d.account
  pub node : c.named_node ≡ d.named_node
  pub serial : c.named_serial ≡ d.named_serial

-- c corrects nothing that an older entry has corrected
abbrev pub Once : Raw → History → Type 0
Once c h = (d : Raw) → In d h → Again c d → ⊥

-- what holds of every entry and those older than it
abbrev pub Each : (Raw → History → Type 0) → History → Type 0
Each P [] = Unit {0}
Each P (c ∷ h) = P c h × Each P h

-- the contribution of an added customer c, among the entries older than it
pub record Contributed (h : History) (c : Raw) : Type 0 where
  pub entry : Raw
  pub member : In entry h
  pub contribution : kind_of entry.kind ≡ kind.Contribution
  pub aimed : points c entry ≡ true

abbrev pub HasContribution : Raw → History → Type 0
HasContribution c h = kind_of c.kind ≡ kind.AddedCustomer → Contributed h c

-- the demand's claims
pub record Lawful (h : History) : Type 0 where
  -- each account's sums and amounts
  pub conserved : (a : ℕ) → Conserved (sums_of h a)
  -- each contribution's refunds to arrears and paid out, what is held, and its expiry's retained
  pub divided : (e : Raw) → In e h → kind_of e.kind ≡ kind.Contribution → Divided kind.AddedCustomer h e
  -- each guarantee's reductions to arrears and paid out, what is held, and its retention's retained
  pub guaranteed : (e : Raw) → In e h → kind_of e.kind ≡ kind.Guarantee → Divided kind.Reduction h e
  -- each refund, and that k counts the added customers of a contribution, all of them
  pub refunds : Each Refunds h
  pub counted : (e : Raw) → In e h → kind_of e.kind ≡ kind.Contribution → (fate h e).added ≡ customers h e
  -- each reduction, and that at most one guarantee of an account is open
  pub reductions : Each Reduces h
  pub one_open : (a : ℕ) → open_guarantees h a ≤ 1
  -- refunds are the added customers, with their days: each has its contribution, and is dated before the same date five years after it
  pub contributed : Each HasContribution h
  pub in_period : (c e : Raw) → In c h → In e h → kind_of c.kind ≡ kind.AddedCustomer → points c e ≡ true → dated c.day < refund_end e
  -- no two corrections on one account name the same entry
  pub once : Each Once h

-- a bound on an account's amounts: 1,024 entries, none of which moves more than 10^12 cents
abbrev pub amount_bound : ℕ
amount_bound = 1024000000000000

-- The book's amounts, statements and queries equal plain sums (Claim, `kept` and `answered`), so no sum in a book so reached
-- saturates. Its limits are 1,024 entries, 2^64 - 1 cents and 65,535, of customers added to an entry and of entries of a year; these are the bounds,
-- those of the payments that a reduction c counts and of a year's totals among them.
pub record Bounded (h : History) : Type 0 where
  pub room : length h ≤ entries
  pub arrears : (a : ℕ) → (balance h a).arrears ≤ amount_bound
  pub credit : (a : ℕ) → (balance h a).credit ≤ amount_bound
  pub deposit : (a : ℕ) → (balance h a).deposit ≤ amount_bound
  pub added : (e : Raw) → (fate h e).added ≤ entries
  pub paid : (c : Raw) → paid_by h c ≤ amount_bound
  pub years : (year : ℕ) → let x = year_in h year in (x.bills.0 ≤ amount_bound) × (x.payments.0 ≤ amount_bound) × (x.paid_out.0 ≤ amount_bound) × (x.entries ≤ entries)

-- proofs/Laws.antt shows them
pub record Laws : Type 0 where
  -- offers give such a history, whatever is offered
  pub valid : (w : Arrival) (rs : List Raw) → Valid (offers w [] rs)
  pub lawful : (h : History) → Valid h → Lawful h
  pub bounded : (h : History) → Valid h → Bounded h
