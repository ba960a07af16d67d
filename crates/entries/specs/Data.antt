-- An entry as the book keeps it.
use Rattle.std.specs.Prelude.{ℕ, ◌+◌, min, Bool, true, false, cond, ◌&&◌, eqb}
use Rattle.measures.specs.Cents.{cents, plus_of, minus_of}
use Rattle.measures.specs.Days.{day}
use Rattle.measures.specs.declared.Cents.{Cents}
use Rattle.measures.specs.declared.Day.{Day}
use Rattle.measures.specs.declared.Metres.{Metres}
use Rattle.entries.specs.declared.raw.Raw.{Raw}
use Rattle.entries.specs.declared.kinds.Kind.{Kind}
use Rattle.entries.specs.declared.kinds.Kind.TheVariants as kind
use Rattle.entries.specs.declared.data.Name.{Name}
use Rattle.entries.specs.declared.data.Entry.{Entry}
use Rattle.entries.specs.declared.data.Particulars.{Particulars}
use Rattle.entries.specs.declared.data.Data.{Data}
use Rattle.entries.specs.declared.data.Data.TheVariants.{Unused, Contribution, AddedCustomer, Bill, Payment, Deposit, DepositReturn, Expiry, Correction, Guarantee, Reduction, Retention, LateCharge}

abbrev pub metres : ℕ → Metres
metres n = record { 0 = n }

-- a place of the book that holds no entry
abbrev pub no_entry : Entry
no_entry = record { node = 0; account = 0; day = day 0; serial = 0; next = 0; «data» = Unused }

unfoldable pub entry_of : Raw → ℕ → Data → Entry
entry_of r next d =
    record { node = r.node; account = r.account; day = day r.day; serial = r.serial; next = next; «data» = d }

unfoldable pub with_of : Entry → Data → Entry
with_of e d =
    record { node = e.node; account = e.account; day = e.day; serial = e.serial; next = e.next; «data» = d }

abbrev pub name_of : ℕ → ℕ → Name
name_of node serial = record { node = node; serial = serial }

-- the pair of named node and named serial
abbrev pub named_by : Raw → Name
named_by r = name_of r.named_node r.named_serial

-- whether an entry carries a name as its node and serial
abbrev pub carries : Name → Entry → Bool
carries n e = eqb e.node n.node && eqb e.serial n.serial

-- the pair of named node and named serial means the entry that carries them
abbrev pub points_at : Raw → Entry → Bool
points_at r e = carries (named_by r) e

-- what the rules and the queries read of a bill, a payment or a late charge: the kind, the standing amount, and whether it was corrected
abbrev pub standing_particulars : Kind → Cents → Bool → Particulars
standing_particulars k standing corrected =
    record {
      kind = k;
      amount = cents 0;
      built = metres 0;
      phases = 0;
      held = cents 0;
      added = 0;
      closed = false;
      standing = standing;
      corrected = corrected;
      guarantee_held = cents 0;
      reduced = day 0;
    }

-- what they read of an entry that nothing names: the kind
abbrev pub other_particulars : Kind → Particulars
other_particulars k = standing_particulars k (cents 0) false

-- what they read of a contribution: its amount, metres, phases, what is held, the customers added and whether it is closed
abbrev pub contribution_particulars : Cents → Metres → ℕ → Cents → ℕ → Bool → Particulars
contribution_particulars amount built phases held added closed =
    record {
      kind = kind.Contribution;
      amount = amount;
      built = built;
      phases = phases;
      held = held;
      added = added;
      closed = closed;
      standing = cents 0;
      corrected = false;
      guarantee_held = cents 0;
      reduced = day 0;
    }

-- what they read of a guarantee: what is held, the day of its last reduction, or its own before the first, and whether it is closed
abbrev pub guarantee_particulars : Cents → Day → Bool → Particulars
guarantee_particulars held reduced closed =
    record {
      kind = kind.Guarantee;
      amount = cents 0;
      built = metres 0;
      phases = 0;
      held = cents 0;
      added = 0;
      closed = closed;
      standing = cents 0;
      corrected = false;
      guarantee_held = held;
      reduced = reduced;
    }

-- a function of a contribution's fields: phases, metres built, customers added, closed, amount, held, to arrears, paid out, retained
abbrev pub FromContribution : Type 0 → Type 0
FromContribution A = ℕ → Metres → ℕ → Bool → Cents → Cents → Cents → Cents → Cents → A

-- of a bill's: charge, period, days served, standing amount, corrected
abbrev pub FromBill : Type 0 → Type 0
FromBill A = Cents → ℕ → ℕ → Cents → Bool → A

-- of a payment's: amount, standing amount, corrected
abbrev pub FromPayment : Type 0 → Type 0
FromPayment A = Cents → Cents → Bool → A

-- of a guarantee's: closed, the day of its last reduction, amount, held
abbrev pub FromGuarantee : Type 0 → Type 0
FromGuarantee A = Bool → Day → Cents → Cents → A

-- f of a contribution's fields, g of a bill's, h of a payment's, i of a guarantee's, j of a late charge's amount; of every other entry x of
-- its kind
unfoldable pub case_of : {A : Type 0} → Data → FromContribution A → FromBill A → FromPayment A → FromGuarantee A → (Cents → A) → (Kind → A) → A
case_of Unused f g h i j x = x kind.Unknown
case_of (Contribution phases built added closed amount held to_arrears paid_out retained) f g h i j x =
    f phases built added closed amount held to_arrears paid_out retained
case_of (AddedCustomer named shared phases) f g h i j x = x kind.AddedCustomer
case_of (Bill charge period served standing corrected) f g h i j x = g charge period served standing corrected
case_of (Payment amount standing corrected) f g h i j x = h amount standing corrected
case_of (Deposit amount rate) f g h i j x = x kind.Deposit
case_of DepositReturn f g h i j x = x kind.DepositReturn
case_of (Expiry named) f g h i j x = x kind.Expiry
case_of (Correction named amount) f g h i j x = x kind.Correction
case_of (Guarantee closed reduced amount held) f g h i j x = i closed reduced amount held
case_of (Reduction named) f g h i j x = x kind.Reduction
case_of (Retention named) f g h i j x = x kind.Retention
case_of (LateCharge amount) f g h i j x = j amount

-- f of a contribution's fields; of every other entry x
abbrev pub of_contribution : {A : Type 0} → Data → FromContribution A → A → A
of_contribution d f x = case_of d f (λ _ _ _ _ _. x) (λ _ _ _. x) (λ _ _ _ _. x) (λ _. x) (λ _. x)

-- g of a bill's fields, h of a payment's; of every other entry x
abbrev pub of_bill_or_payment : {A : Type 0} → Data → FromBill A → FromPayment A → A → A
of_bill_or_payment d g h x = case_of d (λ _ _ _ _ _ _ _ _ _. x) g h (λ _ _ _ _. x) (λ _. x) (λ _. x)

-- i of a guarantee's fields; of every other entry x
abbrev pub of_guarantee : {A : Type 0} → Data → FromGuarantee A → A → A
of_guarantee d i x = case_of d (λ _ _ _ _ _ _ _ _ _. x) (λ _ _ _ _ _. x) (λ _ _ _. x) i (λ _. x) (λ _. x)

-- what the rules read of every entry
unfoldable pub particulars_of : Data → Particulars
particulars_of d =
    case_of d (λ phases built added closed amount held _ _ _. contribution_particulars amount built phases held added closed)
    (λ _ _ _ standing corrected. standing_particulars kind.Bill standing corrected)
    (λ _ standing corrected. standing_particulars kind.Payment standing corrected)
    (λ closed reduced _ held. guarantee_particulars held reduced closed)
    (λ amount. standing_particulars kind.LateCharge amount false)
    other_particulars

-- the standing amount of an entry that counts, and 0 of another
unfoldable pub standing_if : Bool → Particulars → Cents
standing_if counts n = cond counts n.standing (cents 0)

abbrev pub one_more : ℕ → ℕ
one_more n = min (n + 1) 65535

-- a contribution after a refund, of which `settled` went to arrears and `rest` was paid out
unfoldable pub refunded_of : Data → Cents → Cents → Cents → Data
refunded_of d refund settled rest =
    of_contribution d
    (λ phases built added closed amount held to_arrears paid_out retained.
    Contribution phases built (one_more added) closed amount (minus_of held refund) (plus_of to_arrears settled) (plus_of paid_out rest) retained)
    d

-- a contribution after its expiry: retained = held; held = 0; it is closed
unfoldable pub expired_of : Data → Data
expired_of d =
    of_contribution d (λ phases built added _ amount held to_arrears paid_out _. Contribution phases built added true amount (cents 0) to_arrears paid_out held)
    d

-- a bill or payment after its correction
unfoldable pub restated_of : Data → Cents → Data
restated_of d new =
    of_bill_or_payment d (λ charge period served _ _. Bill charge period served new true) (λ amount _ _. Payment amount new true) d

-- a guarantee after a reduction on a day, which is kept: held falls by what is given back
unfoldable pub reduced_of : Data → Cents → Day → Data
reduced_of d back day = of_guarantee d (λ closed _ amount held. Guarantee closed day amount (minus_of held back)) d

-- a guarantee after its retention: held = 0; it is closed
unfoldable pub retained_of : Data → Data
retained_of d = of_guarantee d (λ _ reduced amount _. Guarantee true reduced amount (cents 0)) d
