-- At most one guarantee of an account is open, and each entry tells whether one is.
use mathlib.Core.Path.{◌≡◌, refl, subst}
use Prim.Native.Nat.{ℕ, ◌+◌, ◌-◌, ◌≤◌}
use native.Mathlib.Omega.{arith}
use mathlib.Core.Bool.{Bool, true, false, cond, ◌&&◌, ◌||◌, true≢false}
use mathlib.Core.List.{◌∷◌}
use lib.Dec.{eqb, ltb}
use borrow.Author.Tests.{eqb-true}
use Rattle.entries.specs.Kinds.{kind_of, same_of}
use Rattle.entries.specs.declared.raw.Raw.{Raw}
use Rattle.entries.specs.declared.kinds.Kind.{Kind}
use Rattle.entries.specs.declared.kinds.Kind.TheVariants as kind
use Rattle.entries.proofs.KindsLaws.{every_kind}
use Rattle.history.specs.History.{History, filter, naming, suits, Fate, posted_fate, fate_after, sum, fate, paid_by, unclosed, open_guarantees, guarantee_open, judge}
use Rattle.history.specs.Laws.{Valid, empty, joins}
use Rattle.history.proofs.Tests.{tested}
use Rattle.history.proofs.Accept.{accepts, accepts_upon, Role, alone, upon, role, upon_cases}
use Rattle.history.proofs.Conserve.{unheld, plain_sum, named_sum, still, own}

-- a guarantee opens, a retention closes: the number of open guarantees after an entry of a kind, and whether one is open
abbrev counted : Kind → ℕ → ℕ
counted k n = cond (same_of k kind.Guarantee) (n + 1) (cond (same_of k kind.Retention) (n - 1) n)

abbrev pub open_after : Kind → Bool → Bool
open_after k open' = cond (same_of k kind.Guarantee) true (cond (same_of k kind.Retention) false open')

-- each kind, n guarantees being open before it and m after
module _ (r e : Raw) (n m : ℕ) where
  alone_open : (k : Kind) → naming k ≡ false → m ≡ unclosed k r (posted_fate r) + n → m ≡ counted k n
  alone_open = every_kind _ (omega (arith, true≢false))

  upon_open : (paid : ℕ) (f g : Fate) (k l : Kind) → naming k ≡ true → suits k l ≡ true →
      ((same_of l kind.Contribution || same_of l kind.Guarantee) && f.closed) ≡ false →
      m + unclosed l e f ≡ unclosed k r g + n + unclosed l e (fate_after k r e paid f) → m ≡ counted k n
  upon_open paid f g =
      upon_cases _ (λ u. omega arith) (λ u. omega arith) (λ u. omega arith) (λ u. omega arith) (λ u. omega arith)
      (λ u. rw u (omega arith))

-- the same on numbers: where at most one was, and none when one opens
opened : (opens closes : Bool) (n m : ℕ) → n ≤ 1 → cond opens n 0 ≡ 0 → m ≡ cond opens (n + 1) (cond closes (n - 1) n) →
    (m ≤ 1) × (ltb 0 m ≡ cond opens true (cond closes false (ltb 0 n)))
opened true closes n m l z e = let q : m ≡ 1 = omega arith in rw q (omega arith, refl)
opened false true n m l z e = let q : m ≡ 0 = omega arith in rw q (omega arith, refl)
opened false false n m l z e = rw e (l, refl)

module _ {h : History} (v : Valid h) (r : Raw) (j : judge h r ≡ 0) where
  abbrev k : Kind
  k = kind_of r.kind

  count : Role h r → open_guarantees (r ∷ h) r.account ≡ counted k (open_guarantees h r.account)
  count (alone n) = alone_open r r _ _ k n (rw (own v r j) at (plain_sum v r j n r.account unclosed))
  count (upon n i e q s) =
      upon_open r e _ _ (paid_by h r) (fate h e) (posted_fate r) k (kind_of e.kind) n s (accepts_upon h r j n i e q).unclosed
      (rw (own v r j) at (named_sum v r j n i e q r.account unclosed))

  -- on the entry's own account
  own_open : open_guarantees h r.account ≤ 1 →
      (open_guarantees (r ∷ h) r.account ≤ 1) × (guarantee_open (r ∷ h) r.account ≡ open_after k (guarantee_open h r.account))
  own_open l =
      let guarantee = same_of k kind.Guarantee in
      opened guarantee (same_of k kind.Retention) _ _ l (unheld guarantee _ (accepts h r j).guarantee) (count (role h r j))

pub one_open : {h : History} → Valid h → (a : ℕ) → open_guarantees h a ≤ 1
unfolding sum filter
one_open empty a = omega arith
one_open (joins {r} {h} v j) a =
    tested (λ t. open_guarantees (r ∷ h) a ≤ 1) (eqb r.account a)
    (λ t. subst (λ (n : ℕ). open_guarantees (r ∷ h) n ≤ 1) (eqb-true r.account a t) (own_open v r j (one_open v r.account)).0)
    (λ t. rw (still v r j a t (role h r j) unclosed) (one_open v a))

-- whether one is open, after an entry: on its own account, and on another
module _ {h : History} (v : Valid h) (r : Raw) (j : judge h r ≡ 0) where
  pub open_own : guarantee_open (r ∷ h) r.account ≡ open_after (kind_of r.kind) (guarantee_open h r.account)
  open_own = (own_open v r j (one_open v r.account)).1

  pub open_other : (a : ℕ) → eqb r.account a ≡ false → guarantee_open (r ∷ h) a ≡ guarantee_open h a
  open_other a t = rw (still v r j a t (role h r j) unclosed) refl
