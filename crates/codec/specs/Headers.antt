-- An image's header, and what a load checks before the records: 17 to 19.
use Rattle.std.specs.Prelude.{ℕ, ◌-◌, ◌/◌, ◌%◌, Bool, not, ◌&&◌, List, [], ◌∷◌, ◌++◌, length, take, drop, replicate, eqb, leb}
use Rattle.std.specs.List.{starts_with}
use Rattle.std.specs.Str.{bytes_eq}
use Rattle.entries.specs.Refusals.{Check, Row, ◌⇒◌, check_rows}
use Rattle.entries.specs.declared.refusals.Refusal.TheVariants as no
use Rattle.codec.specs.Bytes.{to_bytes, from_bytes}
use Rattle.codec.specs.Records.{record_bytes}

-- the bytes of the longest image: the header and 1,024 records
abbrev pub longest_image : ℕ
longest_image = 24600

-- CHB1
abbrev pub mark : List ℕ
mark = 67 ∷ 72 ∷ 66 ∷ 49 ∷ []

-- CHB1, count (16 bits), zeros: 24 bytes
unfoldable pub header_of : ℕ → List ℕ
header_of count = mark ++ to_bytes 2 count ++ replicate 18 0

-- the count in a header
abbrev pub count_in : List ℕ → ℕ
count_in l = from_bytes (take 2 (drop 4 l))

-- 24 to 24,600 bytes, a multiple of 24
abbrev pub fits_of : ℕ → Bool
fits_of n = (leb record_bytes n && leb n longest_image) && eqb (n % record_bytes) 0

-- the mark is CHB1, and the header's bytes from 6 to 23 are zero
abbrev pub marked : List ℕ → Bool
marked l = starts_with eqb l mark && bytes_eq (take 18 (drop 6 l)) (replicate 18 0)

abbrev pub image_rows : List ℕ → List Row
image_rows l =
    (not (fits_of (length l)) ⇒ no.ImageLength) ∷
    (not (marked l) ⇒ no.ImageHeader) ∷
    (not (eqb (count_in l) (length l / record_bytes - 1)) ⇒ no.ImageCount) ∷
    []

unfoldable pub check_of : List ℕ → Check
check_of l = check_rows (image_rows l)
