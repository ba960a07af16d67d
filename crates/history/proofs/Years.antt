-- Totals of calendar years: what an entry makes of them, in the history and in the book.
use mathlib.Core.Path.{◌≡◌, refl, sym, ap, ◌∙◌, subst}
use Prim.Native.Nat.{ℕ, ◌+◌, ◌-◌, ◌*◌, min, ◌≤◌, ◌<◌}
use native.Mathlib.Omega.{arith}
use native.Mathlib.Nat.{min-eq_left}
use mathlib.Core.Bool.{Bool, true, false, cond, ◌||◌, true≢false}
use mathlib.Core.List.{List, [], ◌∷◌}
use lib.ListN.{length, get_or, length-set}
use lib.Seq.{get_or-set_same, get_or-set_other}
use lib.Dec.{eqb}
use borrow.Author.Tests.{eqb-true, eqb-false, eq-eqb, ne_eqb, le-leb}
use Rattle.measures.specs.Cents.{cents, most}
use Rattle.calendar.specs.Years.{year_of}
use Rattle.calendar.proofs.Years.{year_most}
use Rattle.calendar.proofs.Calendar.{calendar}
use Rattle.entries.specs.Kinds.{kind_of, same_of, counts_with_bills}
use Rattle.entries.specs.Ranges.{amount_most, between}
use Rattle.entries.specs.declared.raw.Raw.{Raw}
use Rattle.entries.specs.declared.kinds.Kind.{Kind}
use Rattle.entries.specs.declared.kinds.Kind.TheVariants as kind
use Rattle.entries.specs.declared.data.Data.{Data}
use Rattle.entries.proofs.DataLaws.{standing_if_lem}
use Rattle.entries.proofs.KindsLaws.{every_kind}
use Rattle.years.specs.Years.{years_most, year, plain_year, no_year, in_bills, in_payments, posted_in, restated_in, year_changed}
use Rattle.years.specs.declared.Year.{Year}
use Rattle.history.specs.History.{History, entries, last_day, naming, present, find, filter, Fate, Reading, posted_fate, fate, sum, total, Amounts, amounts, judge, standing_amount, billed_amount, added_up}
use Rattle.history.specs.Laws.{Valid, empty, joins}
use Rattle.history.specs.Years.{in_year, year_in}
use Rattle.history.specs.Agreement.{kept_data, data_in, YearsKept}
use Rattle.history.proofs.Tests.{tested}
use Rattle.history.proofs.Accept.{FieldsInRange, accepts}
use Rattle.history.proofs.Names.{hit, names_points, fate_new, fate_hit}
use Rattle.history.proofs.Conserve.{plain_over, named_over}
use Rattle.history.proofs.Bound.{large, in_ranges, in_book, standing_small, some_small, total_small, paid_out_small}
use Rattle.history.proofs.Tables.{kept_read}

-- THE YEAR OF AN ENTRY

totals_same : {b b' p p' o o' n n' : ℕ} → b ≡ b' → p ≡ p' → o ≡ o' → n ≡ n' → plain_year b p o n ≡ plain_year b' p' o' n'
totals_same e f g h = rw (e, f, g, h) refl

same_from : (n a b : ℕ) → eqb (n + a) (n + b) ≡ eqb a b
same_from n a b =
    tested (λ t. eqb (n + a) (n + b) ≡ t) (eqb a b) (λ q. eq-eqb (n + a) (n + b) (omega (arith, eqb-true a b q)))
    (λ q. let ne = eqb-false a b q in ne_eqb (n + a) (n + b) (λ z. ne (omega arith)))

-- the history's year of an entry is the book's
in_year_lem : (r : Raw) → r.day ≤ last_day → (y : ℕ) → in_year (2000 + y) r ≡ eqb (year_of r.day) y
unfolding in_year
in_year_lem r l y = rw (calendar.year r.day l) (same_from 2000 (year_of r.day) y)

-- no entry is of another year than 2000 to 2099
other_year : (r : Raw) → r.day ≤ last_day → (year : ℕ) → between year 2000 2099 ≡ false → in_year year r ≡ false
unfolding in_year between
other_year r l year o =
    tested (λ t. t ≡ false) (in_year year r)
    (λ t.
    let e : year ≡ 2000 + year_of r.day = sym (eqb-true _ year t) ∙ calendar.year r.day l in
    let m = year_most r.day in
    absurd (true≢false (rw (le-leb 2000 year (omega arith), le-leb year 2099 (omega arith)) at o))) (λ t. refl)

emptied : {h : History} → Valid h → (year : ℕ) → between year 2000 2099 ≡ false → (f : Amounts → ℕ) → (filter (in_year year) h ≡ []) × (added_up f (in_year year) h ≡ 0)
unfolding filter added_up
emptied empty year o f = (refl, refl)
emptied (joins {r} {h} v j) year o f =
    let ih = emptied v year o f in rw (other_year r (accepts h r j).day year o) (ih.0, omega (arith, ih.1))

pub no_entries : {h : History} → Valid h → (year : ℕ) → between year 2000 2099 ≡ false → year_in h year ≡ plain_year 0 0 0 0
unfolding year_in sum
no_entries v year o = let e = emptied v year o (λ (x : Amounts). x.paid_out) in rw e.0 (totals_same refl refl e.1 refl)

-- WHAT THE TOTALS COME TO

-- how many entries pass a test
count_filter : (p : Raw → Bool) (r : Raw) (h : History) → length (filter p (r ∷ h)) ≡ cond (p r) 1 0 + length (filter p h)
unfolding filter
count_filter p r h = go (p r)
  where
    go : (t : Bool) → length (cond t (r ∷ filter p h) (filter p h)) ≡ cond t 1 0 + length (filter p h)
    go true = omega arith
    go false = omega arith

some_one : (t : Bool) → cond t 1 0 ≤ 1
some_one true = omega arith
some_one false = omega arith

count_small : (p : Raw → Bool) (h : History) → length (filter p h) ≤ length h
unfolding filter
count_small p [] = omega arith
count_small p (r ∷ h) = omega (arith, count_filter p r h, some_one (p r), count_small p h)

-- what counts of each kind: bills at what stands, with late charges, and payments
pub counted : (x y : ℕ) (l : Kind) →
    let stands = cond (same_of l kind.Bill || same_of l kind.Payment) x (cond (same_of l kind.LateCharge) y 0) in
    (cond (counts_with_bills l) stands 0 ≡ cond (same_of l kind.Bill) x 0 + cond (same_of l kind.LateCharge) y 0) ×
    (cond (same_of l kind.Payment) stands 0 ≡ cond (same_of l kind.Payment) x 0)
counted x y = every_kind _ (omega arith)

pub billed_sum : {x y : ℕ} → x ≤ large → y ≤ amount_most → (l : Kind) → cond (same_of l kind.Bill) x 0 + cond (same_of l kind.LateCharge) y 0 ≤ large
billed_sum p q = every_kind _ (omega arith)

-- each of them is small, and so are their sums
paid_up : (p : Raw → Bool) {h : History} → Valid h → added_up (λ (x : Amounts). x.paid_out) p h ≤ large * length h
unfolding added_up
paid_up p empty = omega arith
paid_up p (joins {r} {h} v j) = omega (arith, paid_up p v, some_small (p r) (amounts h r).paid_out (paid_out_small v r j))

module _ {h : History} (v : Valid h) where
  pub record SmallYear (x : Year) : Type 0 where
    pub bills : x.bills.0 ≤ large * length h
    pub payments : x.payments.0 ≤ large * length h
    pub paid_out : x.paid_out.0 ≤ large * length h
    pub entries : x.entries ≤ length h

  pub small_year : (year : ℕ) → SmallYear (year_in h year)
  unfolding year_in
  small_year year =
      record {
        bills = total_small billed_amount h (in_year year) (λ e s. billed_sum (standing_small v e s) s.amount (kind_of e.kind)) v;
        payments = total_small (standing_amount kind.Payment) h (in_year year) (λ e s. some_small (same_of (kind_of e.kind) kind.Payment) (fate h e).standing (standing_small v e s)) v;
        paid_out = paid_up (in_year year) v;
        entries = count_small (in_year year) h;
      }

-- THE BOOK'S YEARS

-- what an entry's kept data count
module _ (l : Kind) (e : Raw) (f : Fate) (s p : ℕ) where
  bills_kept : in_bills (kept_data l e f s p) ≡ cents (billed_amount l e f)
  unfolding in_bills
  bills_kept = rw ((kept_read l e f s p).0, standing_if_lem) (ap cents (counted f.standing e.amount l).0)

  payments_kept : in_payments (kept_data l e f s p) ≡ cents (standing_amount kind.Payment l e f)
  unfolding in_payments
  payments_kept = rw ((kept_read l e f s p).0, standing_if_lem) (ap cents (counted f.standing e.amount l).1)

-- on plain numbers, where no sum reaches a limit
posted_plain : (x : Year) (d : Data) (bills payments paid_out : ℕ) → in_bills d ≡ cents bills → in_payments d ≡ cents payments →
    x.bills.0 + bills ≤ most → x.payments.0 + payments ≤ most → x.paid_out.0 + paid_out ≤ most → x.entries < 65535 →
    posted_in x d (cents paid_out) ≡ plain_year (x.bills.0 + bills) (x.payments.0 + payments) (x.paid_out.0 + paid_out) (x.entries + 1)
unfolding posted_in
posted_plain x d bills payments paid_out eb ep lb lp lo le =
    let b : min (x.bills.0 + bills) most ≡ x.bills.0 + bills = min-eq_left lb in
    let p : min (x.payments.0 + payments) most ≡ x.payments.0 + payments = min-eq_left lp in
    let o : min (x.paid_out.0 + paid_out) most ≡ x.paid_out.0 + paid_out = min-eq_left lo in
    let n : min (x.entries + 1) 65535 ≡ x.entries + 1 = min-eq_left (omega arith) in
    rw (eb, ep, b, p, o, n) refl

restated_plain : (x : Year) (c d : Data) (bills payments bills' payments' : ℕ) → in_bills c ≡ cents bills → in_payments c ≡ cents payments →
    in_bills d ≡ cents bills' → in_payments d ≡ cents payments' → x.bills.0 + bills' ≤ most → x.payments.0 + payments' ≤ most →
    restated_in x c d ≡ year (cents (x.bills.0 + bills' - bills)) (cents (x.payments.0 + payments' - payments)) x.paid_out x.entries
unfolding restated_in
restated_plain x c d bills payments bills' payments' eb ep eb' ep' lb lp =
    let b : min (x.bills.0 + bills') most ≡ x.bills.0 + bills' = min-eq_left lb in
    let p : min (x.payments.0 + payments') most ≡ x.payments.0 + payments' = min-eq_left lp in
    rw (eb, ep, eb', ep', b, p) refl

-- the year of a day changes, and no other
year_at : (f : Year → Year) (ys : List Year) (d y : ℕ) → length ys ≡ years_most →
    get_or (year_changed f d ys) y no_year ≡ cond (eqb (year_of d) y) (f (get_or ys y no_year)) (get_or ys y no_year)
year_at f ys d y long =
    let inside : year_of d < length ys = omega (arith, year_most d) in
    tested (λ t. get_or (year_changed f d ys) y no_year ≡ cond t (f (get_or ys y no_year)) (get_or ys y no_year)) (eqb (year_of d) y)
    (λ q. subst (λ (n : ℕ). get_or (year_changed f d ys) n no_year ≡ f (get_or ys n no_year)) (eqb-true (year_of d) y q)
    (get_or-set_same ys (year_of d) (f (get_or ys (year_of d) no_year)) no_year inside))
    (λ q. let ne = eqb-false (year_of d) y q in get_or-set_other ys (year_of d) y (f (get_or ys (year_of d) no_year)) no_year (λ z. ne (sym z)))

module _ {h : History} (v : Valid h) (r : Raw) (j : judge h r ≡ 0) (ys : List Year) (long : length ys ≡ years_most) (kept : YearsKept ys (year_in h)) where
  abbrev k : Kind
  k = kind_of r.kind

  -- with what the entry itself counts
  abbrev posts : Year → Year
  posts y = posted_in y (data_in (r ∷ h) r) (cents (amounts h r).paid_out)

  abbrev joined_years : List Year
  joined_years = year_changed posts r.day ys

  own_standing : (posted_fate r).standing ≤ large
  own_standing = subst (λ (f : Fate). f.standing ≤ large) (fate_new v r j) (standing_small (joins v j) r (accepts h r j).ranges)

  own_bills : billed_amount k r (posted_fate r) ≤ large
  own_bills = billed_sum own_standing (accepts h r j).ranges.amount k

  own_payments : standing_amount kind.Payment k r (posted_fate r) ≤ large
  own_payments = some_small (same_of k kind.Payment) (posted_fate r).standing own_standing

  room : length h < entries
  room = (accepts h r j).room

  module _ (y : ℕ) where
    abbrev x : Year
    x = year_in h (2000 + y)

    abbrev small : SmallYear v x
    small = small_year v (2000 + y)

    abbrev p : Raw → Bool
    p = in_year (2000 + y)

    abbrev joined_by : Bool → Year
    joined_by t =
        plain_year (x.bills.0 + cond t (billed_amount k r (posted_fate r)) 0) (x.payments.0 + cond t (standing_amount kind.Payment k r (posted_fate r)) 0)
        (x.paid_out.0 + cond t (amounts h r).paid_out 0) (x.entries + cond t 1 0)

    joined_kept : y < years_most → get_or joined_years y no_year ≡ joined_by (p r)
    joined_kept l =
        year_at posts ys r.day y long ∙ rw (kept y l, ← in_year_lem r (accepts h r j).day y)
        (tested (λ t. cond t (posts x) x ≡ joined_by t) (p r)
        (λ t.
        rw (fate_new v r j)
        (posted_plain x _ _ _ _ (bills_kept k r (posted_fate r) _ _) (payments_kept k r (posted_fate r) _ _) (omega (arith, small.bills, own_bills, room))
        (omega (arith, small.payments, own_payments, room)) (omega (arith, small.paid_out, paid_out_small v r j, room)) (omega (arith, small.entries, room))))
        (λ t. totals_same (omega arith) (omega arith) (omega arith) (omega arith)))

  -- after an entry that names nothing
  pub years_alone : naming k ≡ false → YearsKept joined_years (year_in (r ∷ h))
  unfolding year_in added_up
  years_alone n y l =
      joined_kept y l ∙
      totals_same (omega (arith, plain_over v r j n (p y) billed_amount)) (omega (arith, plain_over v r j n (p y) (standing_amount kind.Payment)))
      (omega arith) (omega (arith, count_filter (p y) r h))

  -- after one that names e
  module _ (n : naming k ≡ true) (i : ℕ) (e : Raw) (q : find h r ≡ present i e) where
    abbrev l : Kind
    l = kind_of e.kind

    in_range : FieldsInRange e l
    in_range = in_ranges v e (hit v r i e q).member

    now_standing : (fate (r ∷ h) e).standing ≤ large
    now_standing = standing_small (joins v j) e in_range

    over : (p : Raw → Bool) (f : Reading) →
        total f (r ∷ h) (filter p (r ∷ h)) + cond (p e) (f l e (fate h e)) 0 ≡
        cond (p r) (f k r (posted_fate r)) 0 + total f h (filter p h) + cond (p e) (f l e (fate (r ∷ h) e)) 0
    over p f = rw (fate_hit r h e (names_points r e n (hit v r i e q).aimed)) (named_over v r j n i e q p f)

    abbrev restates : Year → Year
    restates y = restated_in y (data_in h e) (data_in (r ∷ h) e)

    pub years_upon : YearsKept (year_changed restates e.day joined_years) (year_in (r ∷ h))
    unfolding year_in added_up
    years_upon y m =
        let b = over (p y) billed_amount in
        let g = over (p y) (standing_amount kind.Payment) in
        let c = count_filter (p y) r h in
        year_at restates joined_years e.day y (length-set ys (year_of r.day) (posts (get_or ys (year_of r.day) no_year)) ∙ long) ∙ rw (joined_kept y m, ← in_year_lem e (in_book v e (hit v r i e q).member) y)
        (tested (λ t. cond t (restates (joined_by y (p y r))) (joined_by y (p y r)) ≡ year_in (r ∷ h) (2000 + y)) (p y e)
        (λ t.
        restated_plain (joined_by y (p y r)) _ _ _ _ _ _ (bills_kept l e (fate h e) _ _) (payments_kept l e (fate h e) _ _) (bills_kept l e (fate (r ∷ h) e) _ _)
        (payments_kept l e (fate (r ∷ h) e) _ _) (omega (arith, (small y).bills, room, some_small (p y r) _ own_bills, billed_sum now_standing in_range.amount l))
        (omega (arith, (small y).payments, room, some_small (p y r) _ own_payments, some_small (same_of l kind.Payment) _ now_standing)) ∙
        totals_same (omega (arith, rw t at b)) (omega (arith, rw t at g)) (omega arith) (omega arith))
        (λ t. totals_same (omega (arith, rw t at b)) (omega (arith, rw t at g)) (omega arith) (omega arith)))
