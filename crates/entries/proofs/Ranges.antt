-- What an entry whose fields are in range satisfies.
use Prim.Native.Nat.{ℕ, ◌≤◌}
use mathlib.Core.Path.{◌≡◌, refl}
use mathlib.Core.Bool.{Bool, true, false, ◌&&◌, ◌||◌}
use native.Mathlib.Omega.{arith}
use lib.Dec.{eqb}
use borrow.Author.Tests.{eqb-true, leb-true}
use Rattle.entries.specs.Kinds.{names_of}
use Rattle.entries.specs.Ranges.{between, named_fits, b_fits, limits_of, in_range_of}
use Rattle.entries.specs.declared.raw.Raw.{Raw}
use Rattle.entries.specs.declared.kinds.Kind.{Kind}
use Rattle.entries.specs.declared.kinds.BRange.{BRange}
use Rattle.entries.specs.declared.kinds.BRange.TheVariants.{Phases, UpTo}

-- both tests are true
pub both_true : (s t : Bool) → s && t ≡ true → (s ≡ true) × (t ≡ true)
both_true true t h = (refl, h)
both_true false t h = let z : ◌≡◌ {A = ℕ} 0 1 = cc in absurd (omega arith)

-- a number between two others
pub inside : (n low high : ℕ) → between n low high ≡ true → (low ≤ n) × (n ≤ high)
unfolding between
inside n low high e = let p = both_true _ _ e in (leb-true low n p.0, leb-true n high p.1)

-- the most that b may be
abbrev pub b_most : BRange → ℕ
b_most Phases = 3
b_most (UpTo high) = high

pub b_below : (b : ℕ) (t : BRange) → b_fits b t ≡ true → b ≤ b_most t
unfolding b_fits
b_below b Phases e = go (eqb b 1) refl e
  where
    go : (t : Bool) → eqb b 1 ≡ t → (t || eqb b 3) ≡ true → b ≤ 3
    go true p q = omega (arith, eqb-true b 1 p)
    go false p q = omega (arith, eqb-true b 3 q)
b_below b (UpTo high) e = leb-true b high e

pub record Ranged (r : Raw) (k : Kind) : Type 0 where
  pub amount : ((limits_of k r.a).amount.start ≤ r.amount) × (r.amount ≤ (limits_of k r.a).amount.end)
  pub named : named_fits r (names_of k) ≡ true
  pub a : ((limits_of k r.a).a.start ≤ r.a) × (r.a ≤ (limits_of k r.a).a.end)
  pub b : b_fits r.b (limits_of k r.a).b ≡ true

pub ranged : (r : Raw) (k : Kind) → in_range_of r k ≡ true → Ranged r k
unfolding in_range_of
ranged r k e =
    let p = both_true _ _ e in
    let q = both_true _ _ p.0 in
    let s = both_true _ _ p.1 in
    record { amount = inside _ _ _ q.0; named = q.1; a = inside _ _ _ s.0; b = s.1 }
