-- The round trips of values and bytes, over every layout.
use Prim.Native.Nat.{ℕ, ◌+◌, ◌≤◌, ◌<◌}
use mathlib.Core.Path.{◌≡◌, refl}
use mathlib.Core.List.{List, [], ◌∷◌, ◌++◌, append_assoc}
use native.Mathlib.Omega.{arith}
use lib.ListN.{length, get_or, take, drop, length-append, length-drop}
use lib.Seq.{take_at, drop_at, take-add, get_or-drop}
use Rattle.codec.specs.Bytes.{to_bytes, Bytes}
use Rattle.codec.specs.Layouts.{total_width, pack, unpack, Fit}
use Rattle.codec.proofs.Bytes.{length_to_bytes, from_to_bytes, from_bytes_lt, bytes_drop, to_from_bytes_take, from_bytes_same}

pub length_pack : (ws vs : List ℕ) → length vs ≡ length ws → length (pack ws vs) ≡ total_width ws
length_pack [] vs h = refl
length_pack (w ∷ ws) [] h = omega arith
length_pack (w ∷ ws) (v ∷ vs) h =
    let i : length (pack ws vs) ≡ total_width ws = length_pack ws vs (omega arith) in
    omega (arith, length-append (to_bytes w v) (pack ws vs), length_to_bytes w v)

pub unpack_pack : (ws vs rest : List ℕ) → Fit ws vs → unpack ws (pack ws vs ++ rest) ≡ vs
unpack_pack [] [] rest h = refl
unpack_pack [] (v ∷ vs) rest h = absurd h
unpack_pack (w ∷ ws) [] rest h = absurd h
unpack_pack (w ∷ ws) (v ∷ vs) rest h =
    rw (
      append_assoc (to_bytes w v) (pack ws vs) rest,
      take_at (to_bytes w v) (pack ws vs ++ rest) w (length_to_bytes w v),
      drop_at (to_bytes w v)
          (pack ws vs ++ rest) w (length_to_bytes w v),
      from_to_bytes w v h.0,
      unpack_pack ws vs rest h.1,
    )

pub pack_unpack : (ws l : List ℕ) → total_width ws ≤ length l → Bytes l → pack ws (unpack ws l) ≡ take (total_width ws) l
pack_unpack [] l k h = refl
pack_unpack (w ∷ ws) l k h =
    rw (to_from_bytes_take w l (omega arith) h, pack_unpack ws (drop w l) (simp length-drop (omega arith)) (bytes_drop w l h), take-add w (total_width ws) l)

-- what bytes hold fits the layout
pub fit_unpack : (ws l : List ℕ) → Bytes l → Fit ws (unpack ws l)
fit_unpack [] l h = tt
fit_unpack (w ∷ ws) l h = (from_bytes_lt w l h, fit_unpack ws (drop w l) (bytes_drop w l h))

-- the same bytes, 0 past the end, hold the same values
pub unpack_same : (ws a b : List ℕ) → ((i : ℕ) → i < total_width ws → get_or a i 0 ≡ get_or b i 0) → unpack ws a ≡ unpack ws b
unpack_same [] a b h = refl
unpack_same (w ∷ ws) a b h =
    rw (from_bytes_same w a b (λ i k. h i (omega arith)), unpack_same ws (drop w a) (drop w b) (λ i k. rw (get_or-drop w a i 0, get_or-drop w b i 0) (h (w + i) (omega arith))))
