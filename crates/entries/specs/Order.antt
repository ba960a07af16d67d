-- Refusals in checking order.
use Rattle.std.specs.Prelude.{ℕ, cond, List, [], ◌∷◌, eqb}

-- the first number that is a refusal; 0 means none
unfoldable pub first_refusal : List ℕ → ℕ
first_refusal [] = 0
first_refusal (n ∷ ns) = cond (eqb n 0) (first_refusal ns) n
