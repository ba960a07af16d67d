-- The kinds of entries.
use Rattle.std.specs.Prelude.{ℕ, Bool, cond, not, ◌||◌, List, [], ◌∷◌, get_or, eqb}
use Rattle.entries.specs.declared.kinds.Kind.{Kind}
use Rattle.entries.specs.declared.kinds.Kind.TheVariants as kind

-- the documents' number of a kind
abbrev pub number_of : Kind → ℕ
number_of kind.Unknown = 0
number_of kind.Contribution = 1
number_of kind.AddedCustomer = 2
number_of kind.Bill = 3
number_of kind.Payment = 4
number_of kind.Deposit = 5
number_of kind.DepositReturn = 6
number_of kind.Expiry = 7
number_of kind.Correction = 8
number_of kind.Guarantee = 9
number_of kind.Reduction = 10
number_of kind.Retention = 11
number_of kind.LateCharge = 12

abbrev pub kinds : List Kind
kinds =
    kind.Unknown ∷
    kind.Contribution ∷
    kind.AddedCustomer ∷
    kind.Bill ∷
    kind.Payment ∷
    kind.Deposit ∷
    kind.DepositReturn ∷
    kind.Expiry ∷
    kind.Correction ∷
    kind.Guarantee ∷
    kind.Reduction ∷
    kind.Retention ∷
    kind.LateCharge ∷
    []

-- the kind of a number; every number but 1 to 12 is unknown
unfoldable pub kind_of : ℕ → Kind
kind_of n = get_or kinds n kind.Unknown

abbrev pub same_of : Kind → Kind → Bool
same_of k l = eqb (number_of k) (number_of l)

-- the kinds that count with bills: bills and late charges
abbrev pub counts_with_bills : Kind → Bool
counts_with_bills k = same_of k kind.Bill || same_of k kind.LateCharge

-- the kinds that name a guarantee
abbrev pub names_guarantee_of : Kind → Bool
names_guarantee_of k = same_of k kind.Reduction || same_of k kind.Retention

-- the kinds that name another entry
abbrev pub names_of : Kind → Bool
names_of k = names_guarantee_of k || (same_of k kind.AddedCustomer || (same_of k kind.Expiry || same_of k kind.Correction))

-- of a kind that names one: a correction names a bill or a payment, a reduction and a retention a guarantee, an added customer and an
-- expiry a contribution
unfoldable pub misnames_of : Kind → Kind → Bool
misnames_of k l =
    cond (same_of k kind.Correction) (not (same_of l kind.Bill || same_of l kind.Payment))
    (cond (names_guarantee_of k) (not (same_of l kind.Guarantee)) (not (same_of l kind.Contribution)))
