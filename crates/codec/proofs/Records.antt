-- The round trips of records and bytes.
use Prim.Native.Nat.{ℕ, zero, suc, ◌+◌, ◌-◌, ◌*◌, ◌≤◌, ◌<◌}
use mathlib.Core.Path.{◌≡◌, refl, ap}
use mathlib.Core.List.{List, [], ◌∷◌, ◌++◌, append_assoc, map}
use native.Mathlib.Omega.{arith}
use lib.ListN.{length, get_or, take, drop, length-append, length-drop, drop_of_length-le, take-append-drop, replicate}
use lib.Seq.{drop_at, drop-cons}
use Rattle.std.proofs.lemmas.List.{get_or-take, drop-map, drop-replicate}
use native.Mathlib.Numerals.{add-one}
use Rattle.std.specs.Simd.{first_chunks}
use Rattle.codec.specs.Bytes.{Bytes}
use Rattle.codec.specs.Records.{record_bytes, layout, fields_of, fields_record, FieldsFit, encode_record, decode_record, encode_all, decode_all, AllFieldsFit}
use Rattle.codec.specs.declared.Record.{Record}
use Rattle.codec.proofs.Bytes.{bytes_drop}
use Rattle.codec.proofs.Layouts.{unpack_pack, pack_unpack, unpack_same}

-- the same bytes, 0 past the end, are the same record
pub decode_same : (a b : List ℕ) → ((i : ℕ) → i < record_bytes → get_or a i 0 ≡ get_or b i 0) → decode_record a ≡ decode_record b
unfolding decode_record
decode_same a b h = ap fields_record (unpack_same layout a b h)

-- past its 24 bytes nothing is read
pub decode_take : (l : List ℕ) → decode_record (take record_bytes l) ≡ decode_record l
decode_take l = decode_same _ l (λ i k. get_or-take record_bytes l i 0 k)

get_or_padded : (n i : ℕ) (l : List ℕ) → get_or (l ++ replicate n 0) i 0 ≡ get_or l i 0
get_or_padded zero i [] = refl
get_or_padded (suc n) zero [] = refl
get_or_padded (suc n) (suc i) [] = get_or_padded n i []
get_or_padded n zero (b ∷ l) = refl
get_or_padded n (suc i) (b ∷ l) = get_or_padded n i l

-- what bytes are too short for is 0
pub decode_padded : (l : List ℕ) (n : ℕ) → decode_record (l ++ drop n (replicate record_bytes 0)) ≡ decode_record l
decode_padded l n = rw (drop-replicate {X = ℕ} n record_bytes 0) (decode_same _ l (λ i k. get_or_padded (record_bytes - n) i l))

pub length-encode : (r : Record) → length (encode_record r) ≡ record_bytes
unfolding encode_record
length-encode r = refl

pub decode-encode : (r : Record) (rest : List ℕ) → FieldsFit r → decode_record (encode_record r ++ rest) ≡ r
unfolding encode_record decode_record
decode-encode r rest h = ap fields_record (unpack_pack layout (fields_of r) rest h)

pub encode_decode : (l : List ℕ) → record_bytes ≤ length l → Bytes l → encode_record (decode_record l) ≡ take record_bytes l
unfolding encode_record decode_record
encode_decode l k h = pack_unpack layout l k h

-- LISTS OF RECORDS

pub length_encode_all : (rs : List Record) → length (encode_all rs) ≡ record_bytes * length rs
length_encode_all [] = refl
length_encode_all (r ∷ rs) =
    omega (arith, length-append (encode_record r) (encode_all rs), length-encode r, length_encode_all rs)

pub length_decode_all : (n : ℕ) (l : List ℕ) → length (decode_all n l) ≡ n
length_decode_all zero l = refl
length_decode_all (suc n) l = ap suc (length_decode_all n (drop record_bytes l))

-- the bytes of so many records, cut after each 24, decode to these records
pub decode_chunks : (n : ℕ) (l : List ℕ) → map decode_record (first_chunks record_bytes n l) ≡ decode_all n l
decode_chunks zero l = refl
decode_chunks (suc n) l = rw (decode_take l, decode_chunks n (drop record_bytes l)) refl

-- a loop over the bytes s of the records rs: what those at a place decode to is the first record that is left, and past the last place
-- none is left
pub record_next : (s : List (List ℕ)) (rs : List Record) (i : ℕ) (r : Record) → map decode_record s ≡ rs → i < length s →
    r ≡ decode_record (get_or s i []) → drop i rs ≡ r ∷ drop (i + 1) rs
record_next s rs i r e h k =
    rw (← e, add-one i, drop-map decode_record i s, drop-map decode_record (suc i) s, drop-cons s i [] h, k) refl

pub records_end : (s : List (List ℕ)) (rs : List Record) (i : ℕ) → map decode_record s ≡ rs → length s ≤ i → drop i rs ≡ []
records_end s rs i e h = rw (← e, drop-map decode_record i s, drop_of_length-le s h) refl

pub decode_encode_all : (rs : List Record) → AllFieldsFit rs → decode_all (length rs) (encode_all rs) ≡ rs
decode_encode_all [] h = refl
decode_encode_all (r ∷ rs) h =
    rw (decode-encode r (encode_all rs) h.0, drop_at (encode_record r) (encode_all rs) record_bytes (length-encode r), decode_encode_all rs h.1)

pub encode_decode_all : (n : ℕ) (l : List ℕ) → length l ≡ record_bytes * n → Bytes l → encode_all (decode_all n l) ≡ l
encode_decode_all zero [] k h = refl
encode_decode_all zero (b ∷ l) k h = absurd (omega arith)
encode_decode_all (suc n) l k h =
    rw (encode_decode l (omega arith) h, encode_decode_all n (drop record_bytes l) (simp length-drop (omega arith)) (bytes_drop record_bytes l h)) (take-append-drop record_bytes l)

pub encode_append : (rs ts : List Record) → encode_all (rs ++ ts) ≡ encode_all rs ++ encode_all ts
encode_append [] ts = refl
encode_append (r ∷ rs) ts = rw (encode_append rs ts, append_assoc (encode_record r) (encode_all rs) (encode_all ts))

pub in_range_append : (rs ts : List Record) → AllFieldsFit rs → AllFieldsFit ts → AllFieldsFit (rs ++ ts)
in_range_append [] ts h k = k
in_range_append (r ∷ rs) ts h k = (h.0, in_range_append rs ts h.1 k)
