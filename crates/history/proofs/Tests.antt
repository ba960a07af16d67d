-- Proofs by a test.
use mathlib.Core.Path.{◌≡◌, refl}
use mathlib.Core.Bool.{Bool, true, false, cond}

pub tested : (P : Bool → Type 0) (t : Bool) → (t ≡ true → P true) → (t ≡ false → P false) → P t
tested P true p q = p refl
tested P false p q = q refl

-- what stands between two values, by a test that picks both
pub either : {A B : Type 0} (R : A → B → Type 0) (t : Bool) {a a' : A} {b b' : B} → (t ≡ true → R a b) → (t ≡ false → R a' b') → R (cond t a a') (cond t b b')
either R t {a} {a'} {b} {b'} p q = tested (λ t. R (cond t a a') (cond t b b')) t p q
