-- Laws of a line, number by number.
use Prim.Native.Nat.{ℕ, suc, ◌+◌, ◌<◌}
use mathlib.Core.Path.{◌≡◌}
use mathlib.Core.List.{List, [], ◌∷◌, ◌++◌, append_assoc}
use native.Mathlib.Numerals.{add-one}
use lib.ListN.{length, drop, get_or}
use lib.Seq.{drop-cons, drop-length}
use Rattle.decimal.specs.Decimal.{newline, space, digits}
use Rattle.lines.specs.Lines.{numbers_of}

-- the rest of a line from a number on
pub next_number : (numbers text whole : List ℕ) (i : ℕ) → i < length numbers → text ++ numbers_of (drop i numbers) ≡ whole →
    ((text ++ (space ∷ [])) ++ digits (get_or numbers i 0)) ++ numbers_of (drop (i + 1) numbers) ≡ whole
unfolding numbers_of
next_number numbers text whole i h e =
    let later : text ++ numbers_of (get_or numbers i 0 ∷ drop (suc i) numbers) ≡ whole = rw (drop-cons numbers i 0 h) at e in
    rw (add-one, append_assoc, append_assoc) later

-- the end of a line
pub finished : (numbers text whole : List ℕ) (i : ℕ) → i ≡ length numbers →
    text ++ numbers_of (drop i numbers) ≡ whole → text ++ (newline ∷ []) ≡ whole
unfolding numbers_of
finished numbers text whole i e q =
    let none : drop i numbers ≡ [] = rw e (drop-length numbers) in
    rw none at q
