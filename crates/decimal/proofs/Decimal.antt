-- Laws of decimal text: a number digit by digit, its length, texts that end in a line's last column, and columns written from the last on.
use Prim.Native.Nat.{ℕ, zero, suc, ◌+◌, ◌*◌, ◌-◌, ◌/◌, ◌^◌, ◌≤◌, ◌<◌}
use mathlib.Core.Path.{◌≡◌, refl, sym, ap, ◌∙◌}
use mathlib.Core.Bool.{Bool, true, false}
use mathlib.Core.Logic.{⊎_elim}
use mathlib.Core.List.Memᴰ
use mathlib.Core.List.{List, [], ◌∷◌, ◌++◌, append_assoc, Memᴰ}
use native.Mathlib.Nat.{pow-suc}
use native.Mathlib.Omega.{arith}
use lib.ListN.{length, take, drop, set, replicate, take-append-drop, length-append, length-drop, length-set, length-replicate, replicate-append-replicate}
use lib.Seq.{drop_at, take_at, take-take, set_split, take-set-le, length-take-le}
use lib.Dec.{ltb}
use borrow.Author.Tests.{ltb-true, ltb-false, lt-ltb, le-ltb}
use Rattle.decimal.specs.Decimal.{space, last_digit, digits_in, digits, cents_of, dollars, right, line_columns, last_columns, value_after, DecimalText}

one : (fuel n : ℕ) → n < 10 → digits_in (suc fuel) n ≡ last_digit n ∷ []
unfolding digits_in
one fuel n h = rw (lt-ltb n 10 h) refl

more : (fuel n : ℕ) → 10 ≤ n → digits_in (suc fuel) n ≡ digits_in fuel (n / 10) ++ (last_digit n ∷ [])
unfolding digits_in
more fuel n h = rw (le-ltb n 10 h) refl

-- What holds of a number of one digit, and of a number if it holds of the number without its last digit, holds of every number.
by_digits : (P : ℕ → List ℕ → Type 0) → ((n : ℕ) → n < 10 → P n (last_digit n ∷ [])) →
    ((n : ℕ) (ds : List ℕ) → 10 ≤ n → P (n / 10) ds → P n (ds ++ (last_digit n ∷ []))) → (n : ℕ) → P n (digits n)
unfolding digits
by_digits P first next n = go (suc n) n (omega arith)
  where
    go : (fuel n : ℕ) → n < fuel → P n (digits_in fuel n)
    go zero n f = absurd (omega arith)
    go (suc fuel) n f = case (ltb n 10) refl (go fuel (n / 10))
      where
        case : (t : Bool) → ltb n 10 ≡ t → (n / 10 < fuel → P (n / 10) (digits_in fuel (n / 10))) → P n (digits_in (suc fuel) n)
        case true e rest = let h = ltb-true n 10 e in rw (one fuel n h) (first n h)
        case false e rest = let h = ltb-false n 10 e in rw (more fuel n h) (next n (digits_in fuel (n / 10)) h (rest (omega arith)))

-- the fuel is of no matter where it is above the number
enough : (n fuel : ℕ) → n < fuel → digits_in fuel n ≡ digits n
enough = by_digits (λ n ds. (fuel : ℕ) → n < fuel → digits_in fuel n ≡ ds) first next
  where
    first : (n : ℕ) → n < 10 → (fuel : ℕ) → n < fuel → digits_in fuel n ≡ last_digit n ∷ []
    first n h zero f = absurd (omega arith)
    first n h (suc fuel) f = one fuel n h

    next : (n : ℕ) (ds : List ℕ) → 10 ≤ n → ((fuel : ℕ) → n / 10 < fuel → digits_in fuel (n / 10) ≡ ds) →
        (fuel : ℕ) → n < fuel → digits_in fuel n ≡ ds ++ (last_digit n ∷ [])
    next n ds h rest zero f = absurd (omega arith)
    next n ds h rest (suc fuel) f = rw (more fuel n h, rest fuel (omega arith)) refl

one_digit : (n : ℕ) → n / 10 ≡ 0 → digits n ≡ last_digit n ∷ []
unfolding digits
one_digit n h = one n n (omega arith)

more_digits : (n : ℕ) → (n / 10 ≡ 0 → ⊥) → digits n ≡ digits (n / 10) ++ (last_digit n ∷ [])
unfolding digits
more_digits n h = more n n (omega arith) ∙ ap (λ ds. ds ++ (last_digit n ∷ [])) (enough (n / 10) n (omega arith))

digit : (n d : ℕ) → Memᴰ d (digits n) → (48 ≤ d) × (d < 58)
digit = by_digits (λ n ds. (d : ℕ) → Memᴰ d ds → (48 ≤ d) × (d < 58)) (λ n h. one_of n) next
  where
    one_of : (n d : ℕ) → Memᴰ d (last_digit n ∷ []) → (48 ≤ d) × (d < 58)
    one_of n d m = let e = Memᴰ.eq_of_singleton m in omega arith

    next : (n : ℕ) (ds : List ℕ) → 10 ≤ n → ((d : ℕ) → Memᴰ d ds → (48 ≤ d) × (d < 58)) →
        (d : ℕ) → Memᴰ d (ds ++ (last_digit n ∷ [])) → (48 ≤ d) × (d < 58)
    next n ds h rest d m = ⊎_elim (rest d) (one_of n d) (Memᴰ.append_cases ds m)

value_last : (v : ℕ) (ds : List ℕ) (d : ℕ) → value_after v (ds ++ (d ∷ [])) ≡ value_after v ds * 10 + (d - 48)
unfolding value_after
value_last v [] d = refl
value_last v (x ∷ ds) d = value_last (v * 10 + (x - 48)) ds d

read : (n : ℕ) → value_after 0 (digits n) ≡ n
unfolding value_after
read =
    by_digits (λ n ds. value_after 0 ds ≡ n) (λ n h. omega arith) (λ n ds h rest. rw (value_last, rest) (omega arith))

length_more : (ds : List ℕ) (d : ℕ) → length (ds ++ (d ∷ [])) ≡ length ds + 1
length_more ds d = length-append ds (d ∷ [])

fewest : (k n : ℕ) → n < 10 ^ suc k → length (digits n) ≤ suc k
fewest k n = by_digits (λ n ds. (k : ℕ) → n < 10 ^ suc k → length ds ≤ suc k) (λ n h k b. omega arith) next n k
  where
    next : (n : ℕ) (ds : List ℕ) → 10 ≤ n → ((k : ℕ) → n / 10 < 10 ^ suc k → length ds ≤ suc k) →
        (k : ℕ) → n < 10 ^ suc k → length (ds ++ (last_digit n ∷ [])) ≤ suc k
    next n ds h rest zero b = absurd (omega arith)
    next n ds h rest (suc k) b =
        let up : n < 10 ^ suc k * 10 = rw (pow-suc 10 (suc k)) at b in
        let l = rest k (omega arith) in
        rw length_more (omega arith)

amount : (c : ℕ) → value_after (value_after 0 (digits (c / 100))) (cents_of c) ≡ c
unfolding value_after
amount c = rw read (omega arith)

spaces : (a b w : ℕ) → a + b ≡ w → replicate w space ≡ replicate a space ++ replicate b space
spaces a b w e = rw (← e, replicate-append-replicate) refl

field : (w : ℕ) (t : List ℕ) → length t ≤ w → w ≤ line_columns → (length (right w t) ≡ w) × (last_columns w (right line_columns t) ≡ right w t)
unfolding right
field w t h l = (
  rw (length-append, length-replicate) (omega arith),
  rw (spaces (line_columns - w) (w - length t) (line_columns - length t) (omega arith), append_assoc)
      (drop_at (replicate (line_columns - w) space) _ (line_columns - w) (length-replicate (line_columns - w) space)),
)

-- the last columns of a line, where they have room for the text that it ends in
pub last_right : (w : ℕ) (t : List ℕ) → length t ≤ w → w ≤ line_columns → last_columns w (right line_columns t) ≡ right w t
last_right w t h l = (field w t h l).1

before : (k : ℕ) (t : List ℕ) → right (length t + k) t ≡ replicate k space ++ t
unfolding right
before k t = let e : length t + k - length t ≡ k = omega arith in rw e refl

some_digits : (n : ℕ) → 0 < length (digits n)
some_digits = by_digits (λ n ds. 0 < length ds) (λ n h. omega arith) (λ n ds h rest. rw length_more (omega arith))

pub decimal_text : DecimalText
decimal_text = record { digit = digit; read = read; some = some_digits; fewest = fewest; amount = amount; field = field; before = before }

-- a number of 64 bits has at most 20 digits
pub at_most_twenty : (n : ℕ) → n < 18446744073709551616 → length (digits n) ≤ 20
at_most_twenty n h = fewest 19 n (omega arith)

-- an amount of 64 bits, in dollars, has at most 21 bytes
pub at_most_twenty_one : (c : ℕ) → c < 18446744073709551616 → length (dollars c) ≤ 21
unfolding dollars
at_most_twenty_one c h = rw length-append (omega (arith, fewest 17 (c / 100) (omega arith)))

-- A number's digits are being written, from the last on, into columns of a line that are to end in a text: the digits of what is left of the
-- number, and then the columns from `at` on, are the text, and the columns before `at` are spaces.
pub record Left (text columns : List ℕ) (at rest : ℕ) : Type 0 where
  pub room : length text ≤ line_columns
  pub inside : at ≤ line_columns
  pub filled : length columns ≡ line_columns
  pub front : take at columns ≡ replicate at space
  pub whole : digits rest ++ drop at columns ≡ text

-- there is a column for the next digit
pub left_room : {text columns : List ℕ} {at rest : ℕ} → Left text columns at rest → 0 < at
left_room {text} {columns} {at} {rest} k =
    omega (arith, some_digits rest, k.room, k.filled, simp (length-append, length-drop) at (ap length k.whole))

-- and so is there where a line is to end in the digits of a number of 64 bits and the columns after them
pub digit_room : (n end : ℕ) (columns shown : List ℕ) (at rest : ℕ) → n < 18446744073709551616 → 20 ≤ end → end ≤ line_columns →
    length columns ≡ line_columns → length shown ≡ line_columns → digits rest ++ drop at shown ≡ digits n ++ drop end columns → 0 < at
digit_room n end columns shown at rest few low high all filled whole =
    omega (arith, some_digits rest, at_most_twenty n few, simp (length-append, length-drop) at (ap length whole))

-- before the first: the number has 64 bits
pub left_all : (n end : ℕ) (columns : List ℕ) → n < 18446744073709551616 → 20 ≤ end → end ≤ line_columns → length columns ≡ line_columns →
    take end columns ≡ replicate end space → Left (digits n ++ drop end columns) columns end n
left_all n end columns few low high all front = record {
  room = rw (length-append, length-drop) (omega (arith, at_most_twenty n few));
  inside = high;
  filled = all;
  front = front;
  whole = refl;
}

drop-set : (columns : List ℕ) (at d : ℕ) → 0 < at → at ≤ length columns → drop (at - 1) (set columns (at - 1) d) ≡ d ∷ drop at columns
drop-set columns at d z l =
    let e : suc (at - 1) ≡ at = omega arith in
    rw (set_split columns (at - 1) d (omega arith), e) (drop_at (take (at - 1) columns) _ (at - 1) (length-take-le (at - 1) columns (omega arith)))

take-set : (columns : List ℕ) (at d : ℕ) → 0 < at → take at columns ≡ replicate at space → take (at - 1) (set columns (at - 1) d) ≡ replicate (at - 1) space
take-set columns at d z h =
    rw (take-set-le (at - 1) columns (at - 1) d (omega arith), ← take-take (at - 1) at columns (omega arith), h, spaces (at - 1) 1 at (omega arith))
    (take_at (replicate (at - 1) space) (replicate 1 space) (at - 1) (length-replicate (at - 1) space))

-- after a digit, where others are left
pub left_next : {text columns : List ℕ} {at rest : ℕ} → (rest / 10 ≡ 0 → ⊥) → Left text columns at rest →
    Left text (set columns (at - 1) (last_digit rest)) (at - 1) (rest / 10)
left_next {text} {columns} {at} {rest} h k = let z = left_room k in record {
  room = k.room;
  inside = omega (arith, k.inside);
  filled = simp length-set k.filled;
  front = take-set columns at (last_digit rest) z k.front;
  whole = rw (drop-set columns at (last_digit rest) z (omega arith), ← k.whole, more_digits rest h, append_assoc) refl;
}

-- after the last: the line ends in the text from there on
pub record Ended (text columns : List ℕ) (start : ℕ) : Type 0 where
  pub whole : drop start columns ≡ text
  pub field : (start ≤ line_columns) × (length columns ≡ line_columns) × (columns ≡ right line_columns (drop start columns))

pub left_end : {text columns : List ℕ} {at rest : ℕ} → rest / 10 ≡ 0 → Left text columns at rest →
    Ended text (set columns (at - 1) (last_digit rest)) (at - 1)
unfolding right
left_end {text} {columns} {at} {rest} h k =
    let z = left_room k in
    let d = last_digit rest in
    let w : d ∷ drop at columns ≡ text = rw (one_digit rest h) at k.whole in
    let l : length text ≡ suc (length (drop at columns)) = sym (ap length w) in
    let a : line_columns - length text ≡ at - 1 = omega (arith, length-drop at columns, k.filled) in
    let e : drop (at - 1) (set columns (at - 1) d) ≡ text = drop-set columns at d z (omega arith) ∙ w in
    let f : set columns (at - 1) d ≡ right line_columns text =
    sym (take-append-drop (at - 1) (set columns (at - 1) d)) ∙ (rw (take-set columns at d z k.front, e, a) refl) in
    record { whole = e; field = (omega (arith, k.inside), simp length-set k.filled, f ∙ ap (right line_columns) (sym e)) }
