-- What is printed of a month and of a day.
use Rattle.std.proofs.Common.{ℕ, ◌/◌, ◌<◌, ◌≡◌, refl, arith, Bool, true, false}
use lib.Dec.{ltb}
use borrow.Author.Tests.{ltb-true, ltb-false}
use Rattle.std.specs.Fmt.{styled_decimal, format_spec, padded_integral, char_count}
use Rattle.std.proofs.lemmas.Fmt.{decimal_digit, decimal_step}
use Rattle.calendar.specs.Dates.{two_digits}

-- `{n:02}` of a byte
pub two_wide : (n : ℕ) → n < 256 → styled_decimal (format_spec 32 0 4 2 18446744073709551615) n ≡ two_digits n
unfolding padded_integral char_count
two_wide n h = go (ltb n 10) refl (ltb n 100) refl
  where
    go : (t : Bool) → ltb n 10 ≡ t → (u : Bool) → ltb n 100 ≡ u → styled_decimal (format_spec 32 0 4 2 18446744073709551615) n ≡ two_digits n
    go true e u f = rw (e, decimal_digit n (ltb-true n 10 e)) refl
    go false e true f =
        let l = ltb-false n 10 e in
        let m = ltb-true n 100 f in
        rw (e, decimal_step n l (omega arith), decimal_digit (n / 10) (omega arith)) refl
    go false e false f =
        let l = ltb-false n 100 f in
        rw (e, decimal_step n (omega arith) (omega arith), decimal_step (n / 10) (omega arith) (omega arith), decimal_digit (n / 10 / 10) (omega arith)) refl
