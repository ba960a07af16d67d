-- The walk's sums over a chain are the statement's.
use Prim.Native.Nat.{ℕ, suc, ◌+◌, ◌-◌, ◌<◌, ◌≤◌, min}
use mathlib.Core.Path.{◌≡◌, refl, sym, ap, ◌∙◌}
use mathlib.Core.Bool.{Bool, true, false}
use mathlib.Core.List.{List, [], ◌∷◌}
use native.Mathlib.Nat.{min-eq_left, min-eq_right, min-le_right, min-zero, suc-min-suc, add_assoc, add-zero, zero-add, sub-zero, sub-eq-zero_of_le}
use native.Mathlib.Omega.{arith}
use lib.ListN.{length, take}
use lib.Seq.{take-nil}
use lib.Dec.{leb}
use borrow.Author.Tests.{leb-true, leb-false, le-leb, lt-leb}
use Rattle.measures.specs.Cents.{cents, most}
use Rattle.entries.specs.Kinds.{counts_with_bills}
use Rattle.entries.specs.Data.{particulars_of, standing_if, one_more}
use Rattle.entries.specs.declared.kinds.Kind.{Kind}
use Rattle.entries.specs.declared.data.Entry.{Entry}
use Rattle.entries.proofs.DataLaws.{standing_if_lem}
use Rattle.queries.specs.Chain.{total_of, held_of, standing_of, is_payment}
use Rattle.queries.specs.Walk.{sums, no_sums, sums_with}
use Rattle.queries.specs.declared.statements.Sums.{Sums}

-- a sum that stops at m may stop there on the way
stops : (m a b : ℕ) → min (min a m + b) m ≡ min (a + b) m
stops m a b = go (leb a m) refl
  where
    go : (t : Bool) → leb a m ≡ t → min (min a m + b) m ≡ min (a + b) m
    go true e = let h = leb-true a m e in rw (min-eq_left h) refl
    go false e =
        let h = leb-false a m e in
        let x : min a m ≡ m = min-eq_right (omega arith) in
        let y : min (a + b) m ≡ m = min-eq_right (omega arith) in
        let z : min (m + b) m ≡ m = min-eq_right (omega arith) in
        rw (x, y, z) refl

stops_cons : (m h x t : ℕ) → min (min (h + x) m + t) m ≡ min (h + (x + t)) m
stops_cons m h x t = stops m (h + x) t ∙ ap (λ n. min n m) (add_assoc h x t)

kept : (m b : ℕ) → b ≤ m → b ≡ min (b + 0) m
kept m b h = rw (add-zero b) (sym (min-eq_left h))

-- the walk over a list of entries
abbrev pub sums_over : ℕ → Sums → List Entry → Sums
sums_over allowance s [] = s
sums_over allowance s (e ∷ es) = sums_over allowance (sums_with s e allowance) es

standing_same : (counts : Kind → Bool) (e : Entry) →
    standing_if (counts (particulars_of e.«data»).kind) (particulars_of e.«data») ≡ cents (standing_of counts e)
unfolding standing_of
standing_same counts e = standing_if_lem (counts (particulars_of e.«data»).kind) (particulars_of e.«data»)

-- sums as numbers
abbrev pub plain : ℕ → ℕ → ℕ → ℕ → ℕ → Sums
plain n r h b p = sums n r (cents h) (cents b) (cents p)

equal : {n n' r r' h h' b b' p p' : ℕ} → n ≡ n' → r ≡ r' → h ≡ h' → b ≡ b' → p ≡ p' → plain n r h b p ≡ plain n' r' h' b' p'
equal e f g i j = rw (e, f, g, i, j) refl

-- an entry past the allowance, and an entry read
with_unread : (allowance n r h b p : ℕ) (e : Entry) → allowance ≤ r → n < 65535 →
    sums_with (plain n r h b p) e allowance ≡ plain (n + 1) r (min (h + held_of e) most) b p
unfolding sums_with held_of
with_unread allowance n r h b p e u f =
    let m : one_more n ≡ n + 1 = min-eq_left (omega arith) in
    rw (le-leb _ _ u, m) refl

with_read : (allowance n r h b p : ℕ) (e : Entry) → r < allowance → n < 65535 → r < 65535 →
    sums_with (plain n r h b p) e allowance ≡
    plain (n + 1) (r + 1) (min (h + held_of e) most) (min (b + standing_of counts_with_bills e) most) (min (p + standing_of is_payment e) most)
unfolding sums_with held_of
with_read allowance n r h b p e u f g =
    let m : one_more n ≡ n + 1 = min-eq_left (omega arith) in
    let l : one_more r ≡ r + 1 = min-eq_left (omega arith) in
    rw (lt-leb _ _ u, m, l, standing_same counts_with_bills e, standing_same is_payment e) refl

-- what the walk adds to sums so far: each entry's length and held; links, bills and payments while the allowance lasts
abbrev Summed : ℕ → List Entry → Type 0
Summed allowance es =
    (n r h b p : ℕ) → n + length es ≤ 65535 → r ≤ n → h ≤ most → b ≤ most → p ≤ most →
    sums_over allowance (plain n r h b p) es ≡
    plain (n + length es) (r + min (allowance - r) (length es)) (min (h + total_of held_of es) most)
    (min (b + total_of (standing_of counts_with_bills) (take (allowance - r) es)) most)
    (min (p + total_of (standing_of is_payment) (take (allowance - r) es)) most)

summed : (allowance : ℕ) (es : List Entry) → Summed allowance es
unfolding total_of
summed allowance [] n r h b p short below hm bm pm =
    let z : min (allowance - r) 0 ≡ 0 = min-zero (allowance - r) in
    equal (omega arith) (omega arith) (kept most h hm) (kept_none counts_with_bills b bm) (kept_none is_payment p pm)
  where
    kept_none : (counts : Kind → Bool) (x : ℕ) → x ≤ most → x ≡ min (x + total_of (standing_of counts) (take (allowance - r) [])) most
    kept_none counts x xm = rw take-nil (kept most x xm)
summed allowance (e ∷ es) n r h b p short below hm bm pm = go (leb allowance r) refl (summed allowance es)
  where
    unread : (counts : Kind → Bool) (x : ℕ) → allowance ≤ r →
        min (x + total_of (standing_of counts) (take (allowance - r) es)) most ≡ min (x + total_of (standing_of counts) (take (allowance - r) (e ∷ es))) most
    unread counts x u = rw (sub-eq-zero_of_le u) refl

    read : (counts : Kind → Bool) (x : ℕ) → r < allowance →
        min (min (x + standing_of counts e) most + total_of (standing_of counts) (take (allowance - (r + 1)) es)) most ≡
        min (x + total_of (standing_of counts) (take (allowance - r) (e ∷ es))) most
    read counts x u =
        let z : allowance - r ≡ suc (allowance - (r + 1)) = omega arith in
        rw z (stops_cons most x (standing_of counts e) (total_of (standing_of counts) (take (allowance - (r + 1)) es)))

    go : (t : Bool) → leb allowance r ≡ t → Summed allowance es → sums_over allowance (sums_with (plain n r h b p) e allowance) es ≡
        plain (n + length (e ∷ es)) (r + min (allowance - r) (length (e ∷ es))) (min (h + total_of held_of (e ∷ es)) most)
        (min (b + total_of (standing_of counts_with_bills) (take (allowance - r) (e ∷ es))) most)
        (min (p + total_of (standing_of is_payment) (take (allowance - r) (e ∷ es))) most)
    go true q rest =
        let u = leb-true allowance r q in
        let x : min (allowance - r) (length es) ≡ 0 = rw (sub-eq-zero_of_le u) (min-eq_left (omega arith)) in
        let y : min (allowance - r) (suc (length es)) ≡ 0 = rw (sub-eq-zero_of_le u) (min-eq_left (omega arith)) in
        rw (with_unread allowance n r h b p e u (omega arith))
        (rest (n + 1) r (min (h + held_of e) most) b p (omega arith) (omega arith) (min-le_right _ _) bm pm ∙
        equal (omega arith) (omega arith) (stops_cons most h (held_of e) (total_of held_of es)) (unread counts_with_bills b u) (unread is_payment p u))
    go false q rest =
        let u = leb-false allowance r q in
        let z : allowance - r ≡ suc (allowance - (r + 1)) = omega arith in
        let y : min (allowance - r) (suc (length es)) ≡ suc (min (allowance - (r + 1)) (length es)) = rw z (suc-min-suc _ _) in
        rw (with_read allowance n r h b p e u (omega arith) (omega arith))
        (rest (n + 1) (r + 1) (min (h + held_of e) most) (min (b + standing_of counts_with_bills e) most) (min (p + standing_of is_payment e) most)
        (omega arith) (omega arith) (min-le_right _ _) (min-le_right _ _) (min-le_right _ _) ∙
        equal (omega arith) (omega arith) (stops_cons most h (held_of e) (total_of held_of es)) (read counts_with_bills b u) (read is_payment p u))

-- the walk over a whole chain
pub whole : (allowance : ℕ) (es : List Entry) → length es ≤ 65535 →
    sums_over allowance no_sums es ≡
    plain (length es) (min allowance (length es)) (min (total_of held_of es) most)
    (min (total_of (standing_of counts_with_bills) (take allowance es)) most)
    (min (total_of (standing_of is_payment) (take allowance es)) most)
whole allowance es short =
    summed allowance es 0 0 0 0 0 (omega arith) (omega arith) (omega arith) (omega arith) (omega arith) ∙ simp (sub-zero, zero-add)
