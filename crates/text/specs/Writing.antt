-- Bytes as they are written in an answer.
use Rattle.std.specs.Prelude.{ℕ, List, ◌∷◌}
use Rattle.std.specs.List.{flat_map}
use Rattle.std.specs.Fmt.{decimal}

-- each as a space and its decimal digits
abbrev pub spaced : List ℕ → List ℕ
spaced = flat_map (λ byte. 32 ∷ decimal byte)
