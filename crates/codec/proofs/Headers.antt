-- Laws of the header and of the checks before the records.
use Prim.Native.Nat.{ℕ, ◌+◌, ◌*◌, ◌-◌, ◌/◌, ◌%◌, ◌≤◌, ◌<◌}
use mathlib.Core.Path.{◌≡◌, refl, sym, ap, ◌∙◌}
use mathlib.Core.Bool.{true, false}
use mathlib.Core.List.{List, ◌++◌}
use native.Mathlib.Omega.{arith}
use lib.ListN.{length, take, drop, replicate, length-drop}
use lib.Seq.{take-add}
use lib.Dec.{eqb, leb}
use borrow.Author.Tests.{eq-eqb, eqb-true, le-leb, leb-true, not-false}
use Rattle.std.specs.Prelude.{Ok}
use Rattle.entries.proofs.RefusalsLaws.{row_of, unbroken}
use Rattle.entries.proofs.Ranges.{both_true}
use Rattle.codec.specs.Records.{record_bytes}
use Rattle.codec.specs.Bytes.{to_bytes, Bytes}
use Rattle.codec.specs.Headers.{longest_image, mark, header_of, count_in, fits_of, marked, image_rows, check_of}
use Rattle.codec.proofs.Bytes.{from_to_bytes, to_from_bytes_take, bytes_drop}
use Rattle.std.proofs.lemmas.Slice.Eq.{bytes_eq-Decides}

pub length_header : (n : ℕ) → length (header_of n) ≡ record_bytes
unfolding header_of
length_header n = refl

-- the count that a header was made with
pub count_header : (n : ℕ) (rest : List ℕ) → n < 65536 → count_in (header_of n ++ rest) ≡ n
unfolding header_of
count_header n rest h = from_to_bytes 2 n h

marks : (n : ℕ) (rest : List ℕ) → marked (header_of n ++ rest) ≡ true
unfolding header_of
marks n rest = refl

-- a header and its records pass the checks
pub header_passes : (n : ℕ) (rest : List ℕ) → record_bytes * (n + 1) ≤ longest_image → length (header_of n ++ rest) ≡ record_bytes * (n + 1) →
    check_of (header_of n ++ rest) ≡ Ok tt
unfolding check_of
header_passes n rest h len =
    let l : List ℕ = header_of n ++ rest in
    let low : leb record_bytes (length l) ≡ true = le-leb record_bytes (length l) (omega arith) in
    let high : leb (length l) longest_image ≡ true = le-leb (length l) longest_image (omega arith) in
    let even : eqb (length l % record_bytes) 0 ≡ true = eq-eqb (length l % record_bytes) 0 (omega arith) in
    let c : eqb (count_in l) (length l / record_bytes - 1) ≡ true =
    eq-eqb (count_in l) (length l / record_bytes - 1) (omega (arith, count_header n rest (omega arith))) in
    simp (low, high, even, marks n rest, c)

pub fits_ends : (n : ℕ) → fits_of n ≡ true → (record_bytes ≤ n) × (n ≤ longest_image) × (n % record_bytes ≡ 0)
fits_ends n e =
    let fits = both_true _ _ e in
    let ends = both_true _ _ fits.0 in
    (leb-true record_bytes n ends.0, leb-true n longest_image ends.1, eqb-true (n % record_bytes) 0 fits.1)

-- what an image that passes the checks satisfies
pub record PassedChecks (l : List ℕ) : Type 0 where
  pub low : record_bytes ≤ length l
  pub short : length l ≤ longest_image
  pub sized : length l ≡ record_bytes * (count_in l + 1)
  pub same_mark : take 4 l ≡ mark
  pub same_zeros : take 18 (drop 6 l) ≡ replicate 18 0

pub checked : (l : List ℕ) → check_of l ≡ Ok tt → PassedChecks l
unfolding check_of
checked l e =
    let row : (n : ℕ) → (row_of n (image_rows l)).broken ≡ false = λ n. unbroken n (image_rows l) e in
    let fits = fits_ends (length l) (not-false _ (row 17)) in
    let marked = both_true _ _ (not-false _ (row 18)) in
    let count = eqb-true (count_in l) (length l / record_bytes - 1) (not-false _ (row 19)) in
    record {
      low = fits.0;
      short = fits.1;
      sized = omega arith;
      same_mark = sym ((bytes_eq-Decides mark (take 4 l)).0 marked.0);
      same_zeros = (bytes_eq-Decides (take 18 (drop 6 l)) (replicate 18 0)).0 marked.1;
    }

parts : (l a b z : List ℕ) → take 4 l ≡ a → take 2 (drop 4 l) ≡ b → take 18 (drop 6 l) ≡ z → a ++ b ++ z ≡ take record_bytes l
parts l a b z p q r =
    rw (← p, ← q, ← r) (sym (take-add 6 18 l ∙ ap (λ (x : List ℕ). x ++ take 18 (drop 6 l)) (take-add 4 2 l)))

-- its first 24 bytes are the header of its count
pub header_again : (l : List ℕ) → PassedChecks l → Bytes l → header_of (count_in l) ≡ take record_bytes l
unfolding header_of
header_again l c h =
    let low = c.low in
    let count : to_bytes 2 (count_in l) ≡ take 2 (drop 4 l) = to_from_bytes_take 2 (drop 4 l) (simp length-drop (omega arith)) (bytes_drop 4 l h) in
    parts l mark (to_bytes 2 (count_in l)) (replicate 18 0) c.same_mark (sym count) c.same_zeros
