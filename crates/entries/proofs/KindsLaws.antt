-- What is shown of every kind at once.
use Prim.Native.Nat.{ℕ, zero, suc, ◌+◌}
use mathlib.Core.Path.{◌≡◌, refl, sym, ap, ◌∙◌, subst}
use mathlib.Core.Bool.{true, false, true≢false}
use mathlib.Core.List.{List, [], ◌∷◌}
use native.Mathlib.Omega.{arith}
use lib.ListN.{get_or}
use borrow.Author.Tests.{eqb-true}
use Rattle.entries.specs.Kinds.{number_of, kinds, kind_of, same_of}
use Rattle.entries.specs.declared.kinds.Kind.{Kind}
use Rattle.entries.specs.declared.kinds.Kind.TheVariants as kind

kind_again : (k : Kind) → kind_of (number_of k) ≡ k
unfolding kind_of
kind_again kind.Unknown = refl
kind_again kind.Contribution = refl
kind_again kind.AddedCustomer = refl
kind_again kind.Bill = refl
kind_again kind.Payment = refl
kind_again kind.Deposit = refl
kind_again kind.DepositReturn = refl
kind_again kind.Expiry = refl
kind_again kind.Correction = refl
kind_again kind.Guarantee = refl
kind_again kind.Reduction = refl
kind_again kind.Retention = refl
kind_again kind.LateCharge = refl

pub same_kind : (k l : Kind) → same_of k l ≡ true → k ≡ l
same_kind k l e = sym (kind_again k) ∙ ap kind_of (eqb-true (number_of k) (number_of l) e) ∙ kind_again l

pub no_kind : kind_of 0 ≡ kind.Unknown
unfolding kind_of
no_kind = refl

-- what holds of each kind of a list
abbrev pub Each : (Kind → Type 0) → List Kind → Type 0
Each P [] = Unit {0}
Each P (k ∷ ks) = P k × Each P ks

each_at : (P : Kind → Type 0) (ks : List Kind) → Each P ks → P kind.Unknown → (n : ℕ) → P (get_or ks n kind.Unknown)
each_at P [] w u n = u
each_at P (k ∷ ks) w u zero = w.0
each_at P (k ∷ ks) w u (suc n) = each_at P ks w.1 u n

-- one proof for all of them: `omega` finds each of them, where it has 64 parts at most
pub every_kind : (P : Kind → Type 0) → Each P kinds → (k : Kind) → P k
unfolding kind_of
every_kind P w k = subst P (kind_again k) (each_at P kinds w w.0 (number_of k))

-- the kinds of a list have the numbers from n on
abbrev Counts : ℕ → List Kind → Type 0
Counts n [] = Unit {0}
Counts n (k ∷ ks) = (number_of k ≡ n) × Counts (suc n) ks

counted : (n : ℕ) (ks : List Kind) → Counts n ks → (i : ℕ) → same_of (get_or ks i kind.Unknown) kind.Unknown ≡ false → number_of (get_or ks i kind.Unknown) ≡ n + i
counted n [] w i e = absurd (true≢false e)
counted n (k ∷ ks) w zero e = omega arith
counted n (k ∷ ks) w (suc i) e = omega (arith, counted (suc n) ks w.1 i e)

-- the number of a known kind
pub number_again : (n : ℕ) → same_of (kind_of n) kind.Unknown ≡ false → number_of (kind_of n) ≡ n
unfolding kind_of
number_again n e = omega (arith, counted 0 kinds (omega arith) n e)
