-- Laws of refusals in checking order.
use Prim.Native.Nat.{ℕ, ◌<◌}
use mathlib.Core.Path.{◌≡◌, refl, sym}
use mathlib.Core.Bool.{Bool, true, false, cond}
use mathlib.Core.List.{List, [], ◌∷◌}
use native.Mathlib.Omega.{arith}
use lib.Dec.{eqb}
use borrow.Author.Tests.{eq-eqb, ne_eqb, eqb-true}
use Rattle.entries.specs.Order.{first_refusal}

pub first_here : (n : ℕ) (ns : List ℕ) → 0 < n → first_refusal (n ∷ ns) ≡ n
unfolding first_refusal
first_here n ns h = rw (ne_eqb n 0 (λ z. omega arith))

pub first_later : (n : ℕ) (ns : List ℕ) → n ≡ 0 → first_refusal (n ∷ ns) ≡ first_refusal ns
unfolding first_refusal
first_later n ns e = rw (eq-eqb n 0 e)

pub first_only : (n : ℕ) → first_refusal (n ∷ []) ≡ n
unfolding first_refusal
first_only n = by (eqb n 0) refl
  where
    by : (t : Bool) → eqb n 0 ≡ t → cond t 0 n ≡ n
    by true e = sym (eqb-true n 0 e)
    by false e = refl
