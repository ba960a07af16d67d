-- Laws of spans that follow one another, and of short tables: years and months go by the same ones.
use Prim.Native.Nat.{ℕ, zero, suc, ◌+◌, ◌<◌, ◌≤◌}
use mathlib.Core.Path.{◌≡◌, refl}
use mathlib.Core.Bool.{Bool, true, ◌&&◌}
use lib.Dec.{eqb, leb}
use borrow.Author.Tests.{leb-true, le-leb}
use native.Mathlib.Omega.{arith}
use Rattle.std.proofs.lemmas.Bool.Decides.{nat_tests, Decides-eqb, Decides-below_and}
use Rattle.calendar.specs.Years.{start, span_from}

module _ (days : ℕ → ℕ) where
  pub start_zero : start days 0 ≡ 0
  unfolding start
  start_zero = refl

  pub start_next : (i : ℕ) → start days (suc i) ≡ start days i + days i
  unfolding start
  start_next i = refl

  pub starts_rise : (i j : ℕ) → i ≤ j → start days i ≤ start days j
  starts_rise i zero h = let e : i ≡ 0 = omega arith in rw e (omega arith)
  starts_rise i (suc j) h = grind (arith, nat_tests, starts_rise i j, start_next j)

  -- the span of a day is one of those, it has begun, and the next has not
  pub span_most : (n i d : ℕ) → span_from days n i d ≤ i + n
  unfolding span_from
  span_most zero i d = omega arith
  span_most (suc n) i d = grind (arith, nat_tests, span_most n (suc i) d)

  pub span_begun : (n i d : ℕ) → start days i ≤ d → start days (span_from days n i d) ≤ d
  unfolding span_from
  span_begun zero i d h = h
  span_begun (suc n) i d h = grind (arith, nat_tests, span_begun n (suc i) d)

  pub span_next : (n i d : ℕ) → d < start days (suc (i + n)) → d < start days (suc (span_from days n i d))
  unfolding span_from
  span_next zero i d h = let e : i + 0 ≡ i = omega arith in rw e at h
  span_next (suc n) i d h = let e : suc i + n ≡ i + suc n = omega arith in grind (arith, nat_tests, e, span_next n (suc i) d)

  -- and it alone is so
  pub span_is : (n d i : ℕ) → i ≤ n → start days i ≤ d → d < start days (suc i) → span_from days n 0 d ≡ i
  span_is n d i l lo hi =
      let j = span_from days n 0 d in
      let z : 0 + n ≡ n = omega arith in
      let b = span_begun n 0 d (omega (arith, start_zero)) in
      let c = span_next n 0 d (rw z (omega (arith, starts_rise (suc i) (suc n) (omega arith)))) in
      grind (arith, b, c, starts_rise (suc j) i, starts_rise (suc i) j)

-- a test that passes at each number below n: computed once, what it decides holds at each
abbrev pub all : (ℕ → Bool) → ℕ → Bool
all test zero = true
all test (suc n) = test n && all test n

module _ (f g : ℕ → ℕ) (n : ℕ) where
  pub same_below : all (λ m. eqb (f m) (g m)) n ≡ true → (m : ℕ) → m < n → f m ≡ g m
  same_below =
      (Decides-below_and (λ m. eqb (f m) (g m)) (λ m. f m ≡ g m) (all (λ m. eqb (f m) (g m))) (λ m. Decides-eqb (f m) (g m)) refl (λ _. refl) n).0

  pub le_below : all (λ m. leb (f m) (g m)) n ≡ true → (m : ℕ) → m < n → f m ≤ g m
  le_below =
      (Decides-below_and (λ m. leb (f m) (g m)) (λ m. f m ≤ g m) (all (λ m. leb (f m) (g m))) (λ m. (leb-true (f m) (g m), le-leb (f m) (g m))) refl (λ _. refl) n).0
