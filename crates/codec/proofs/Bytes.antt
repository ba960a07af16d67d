-- Laws of numbers as bytes, over every width.
use Prim.Native.Nat.{ℕ, zero, suc, ◌+◌, ◌*◌, ◌/◌, ◌%◌, ◌^◌, ◌≤◌, ◌<◌}
use mathlib.Core.Path.{◌≡◌, refl, ap}
use mathlib.Core.List.{List, [], ◌∷◌}
use native.Mathlib.Nat.{add-zero}
use native.Mathlib.Omega.{arith}
use lib.ListN.{length, get_or, take, drop}
use lib.Seq.{get_or-drop, take-nil, length-take-le}
use Rattle.std.specs.Int.{Width, byte_len, byte_at, bytes_low_first, to_le_bytes}
use Rattle.std.proofs.Math.Nat.{pow-suc, div-div-eq-div-mul}
use Rattle.codec.specs.Bytes.{to_bytes, from_bytes, capacity, Bytes}

pub length_to_bytes : (w x : ℕ) → length (to_bytes w x) ≡ w
length_to_bytes zero x = refl
length_to_bytes (suc w) x = ap suc (length_to_bytes w (x / 256))

pub from_to_bytes : (w x : ℕ) → x < capacity w → from_bytes (to_bytes w x) ≡ x
from_to_bytes zero x h = omega arith
from_to_bytes (suc w) x h = let i : from_bytes (to_bytes w (x / 256)) ≡ x / 256 = from_to_bytes w (x / 256) (omega arith) in omega arith

pub to_from_bytes : (bs : List ℕ) → Bytes bs → to_bytes (length bs) (from_bytes bs) ≡ bs
to_from_bytes [] h = refl
to_from_bytes (b ∷ bs) h =
    let lo : (b + 256 * from_bytes bs) % 256 ≡ b = omega arith in
    let hi : (b + 256 * from_bytes bs) / 256 ≡ from_bytes bs = omega arith in
    rw (lo, hi, to_from_bytes bs h.1)

-- the number of w bytes, or of fewer where the list ends
pub from_bytes_lt : (w : ℕ) (l : List ℕ) → Bytes l → from_bytes (take w l) < capacity w
from_bytes_lt zero l h = omega arith
from_bytes_lt (suc w) [] h = let i = from_bytes_lt w [] h in omega arith
from_bytes_lt (suc w) (b ∷ l) h = let i = from_bytes_lt w l h.1 in omega arith

pub bytes_take : (n : ℕ) (l : List ℕ) → Bytes l → Bytes (take n l)
bytes_take zero l h = tt
bytes_take (suc n) [] h = tt
bytes_take (suc n) (b ∷ l) h = (h.0, bytes_take n l h.1)

pub bytes_drop : (n : ℕ) (l : List ℕ) → Bytes l → Bytes (drop n l)
bytes_drop zero l h = h
bytes_drop (suc n) [] h = tt
bytes_drop (suc n) (b ∷ l) h = bytes_drop n l h.1

-- reading a field's bytes and writing them again gives them back
pub to_from_bytes_take : (w : ℕ) (l : List ℕ) → w ≤ length l → Bytes l → to_bytes w (from_bytes (take w l)) ≡ take w l
to_from_bytes_take w l k h = rw (length-take-le w l k) at (to_from_bytes (take w l) (bytes_take w l h))

-- the number at a place is the byte there and 256 times the number of the bytes after it
from_bytes_head : (n : ℕ) (l : List ℕ) → from_bytes (take (suc n) l) ≡ get_or l 0 0 + 256 * from_bytes (take n (drop 1 l))
from_bytes_head n [] = rw (take-nil n) refl
from_bytes_head n (b ∷ l) = refl

pub from_bytes_two : (l : List ℕ) (at : ℕ) → from_bytes (take 2 (drop at l)) ≡ get_or l at 0 + 256 * get_or l (at + 1) 0
from_bytes_two l at =
    omega (
      arith,
      from_bytes_head 1 (drop at l),
      from_bytes_head 0 (drop 1 (drop at l)),
      rw add-zero at (get_or-drop at l 0 0),
      get_or-drop 1 (drop at l) 0 0,
      get_or-drop at l 1 0,
    )

-- the same bytes, 0 past the end, are the same number
pub from_bytes_same : (w : ℕ) (a b : List ℕ) → ((i : ℕ) → i < w → get_or a i 0 ≡ get_or b i 0) → from_bytes (take w a) ≡ from_bytes (take w b)
from_bytes_same zero a b h = refl
from_bytes_same (suc w) a b h =
    rw (from_bytes_head w a, from_bytes_head w b, h 0 (omega arith), from_bytes_same w (drop 1 a) (drop 1 b) (λ i k. rw (get_or-drop 1 a i 0, get_or-drop 1 b i 0) (h (1 + i) (omega arith))))

-- STD'S LITTLE-ENDIAN BYTES

byte_is : (i x : ℕ) → byte_at i x ≡ x / 256 ^ i % 256
byte_is zero x = omega arith
byte_is (suc i) x = refl

low_first : (n i x : ℕ) → bytes_low_first i n x ≡ to_bytes n (x / 256 ^ i)
low_first zero i x = refl
low_first (suc n) i x = rw (byte_is i x, low_first n (suc i) x, pow-suc 256 i, ← div-div-eq-div-mul x (256 ^ i) 256) refl

pub to_le : (w : Width) (x : ℕ) → to_le_bytes w x ≡ to_bytes (byte_len w) x
to_le w x = rw (low_first (byte_len w) 0 x) (ap (to_bytes (byte_len w)) (omega arith))
