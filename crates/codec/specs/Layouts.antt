-- Values as bytes by a layout, the list of the fields' widths in bytes, and back.
use Rattle.std.specs.Prelude.{ℕ, ◌+◌, ◌<◌, List, [], ◌∷◌, ◌++◌, take, drop}
use Rattle.codec.specs.Bytes.{to_bytes, from_bytes, capacity}

-- the bytes of all the fields
abbrev pub total_width : List ℕ → ℕ
total_width [] = 0
total_width (w ∷ ws) = w + total_width ws

-- each value in the bytes of its field, in order
abbrev pub pack : List ℕ → List ℕ → List ℕ
pack [] vs = []
pack (w ∷ ws) [] = []
pack (w ∷ ws) (v ∷ vs) = to_bytes w v ++ pack ws vs

-- the values that stand at the start of bytes
abbrev pub unpack : List ℕ → List ℕ → List ℕ
unpack [] l = []
unpack (w ∷ ws) l = from_bytes (take w l) ∷ unpack ws (drop w l)

-- there is a value for each field, and it fits the field's bytes
abbrev pub Fit : List ℕ → List ℕ → Type 0
Fit [] [] = Unit {0}
Fit [] (v ∷ vs) = ⊥
Fit (w ∷ ws) [] = ⊥
Fit (w ∷ ws) (v ∷ vs) = (v < capacity w) × Fit ws vs
