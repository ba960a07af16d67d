-- What is known of an entry that no refusal stops.
use mathlib.Core.Path.{◌≡◌, refl, sym, ap, ◌∙◌}
use Prim.Native.Nat.{ℕ, ◌≤◌, ◌<◌}
use native.Mathlib.Omega.{arith}
use mathlib.Core.Bool.{Bool, true, false, cond, not, ◌&&◌, ◌||◌, true≢false}
use mathlib.Core.List.{List, [], ◌∷◌}
use lib.ListN.{length}
use lib.Dec.{eqb, leb, ltb}
use borrow.Author.Tests.{ltb-false, leb-false, not-false}
use Rattle.entries.specs.Kinds.{kind_of, same_of}
use Rattle.entries.specs.Ranges.{amount_most, bill_period_most, limits_of, in_range_of}
use Rattle.entries.specs.declared.arrivals.Arrival.{Arrival}
use Rattle.entries.specs.declared.arrivals.Arrival.TheVariants.{Posted, PostedInRun, Recorded}
use Rattle.entries.specs.declared.raw.Raw.{Raw}
use Rattle.entries.specs.declared.kinds.Kind.{Kind}
use Rattle.entries.specs.declared.kinds.Kind.TheVariants as kind
use Rattle.entries.proofs.Ranges.{inside, b_most, b_below, Ranged, ranged}
use Rattle.entries.proofs.KindsLaws.{every_kind, same_kind, no_kind}
use Rattle.history.specs.History.{accounts, entries, dated, refund_end, History, last_serial, naming_guarantee, naming, suits, Target, absent, present, find, named, Fate, fate, paid_by, guarantee_open, target_entry, target_fate, Balance, move_of, move_by, balance, Rule, ◌⇒◌, first_broken, unknown_so, no_day_so, refusals, judge_by, judge, last_day}
use Rattle.history.specs.Laws.{Valid, empty, joins}

pub or_left : (a b : Bool) → (a || b) ≡ false → a ≡ false
or_left true b e = e
or_left false b e = refl

pub or_right : (a b : Bool) → (a || b) ≡ false → b ≡ false
or_right true b e = absurd (true≢false e)
or_right false b e = e

-- what follows from either of two tests
or-true : {A : Type 0} (a b : Bool) → (a ≡ true → A) → (b ≡ true → A) → (a || b) ≡ true → A
or-true true b p q e = p refl
or-true false b p q e = q e

abbrev pub Numbered : List Rule → Type 0
Numbered [] = Unit {0}
Numbered (x ∷ xs) = (0 < x.number) × Numbered xs

-- the row of a number; one that is not broken where the table has none
abbrev row_of : ℕ → List Rule → Rule
row_of n [] = false ⇒ n
row_of n (x ∷ xs) = cond (eqb x.number n) x (row_of n xs)

-- where a table refuses nothing, no row of it is broken
unbroken : (n : ℕ) (xs : List Rule) → Numbered xs → first_broken xs ≡ 0 → (row_of n xs).broken ≡ false
unbroken n [] m e = refl
unbroken n (x ∷ xs) m e = by x.broken (λ q. unbroken n xs m.1 q) refl e
  where
    pick : (t : Bool) → x.broken ≡ false → (row_of n xs).broken ≡ false → (cond t x (row_of n xs)).broken ≡ false
    pick true p q = p
    pick false p q = q

    by : (t : Bool) → (first_broken xs ≡ 0 → (row_of n xs).broken ≡ false) → x.broken ≡ t → cond t x.number (first_broken xs) ≡ 0 →
        (cond (eqb x.number n) x (row_of n xs)).broken ≡ false
    by true ih p q = absurd (omega (arith, m.0))
    by false ih p q = pick (eqb x.number n) p (ih q)

-- THE RANGES OF FIELDS
highs : (a : ℕ) (k : Kind) → let l = limits_of k a in (l.amount.end ≤ amount_most) × (l.a.end ≤ 65535)
unfolding limits_of
highs a = every_kind _ (omega arith)

b_high : (a : ℕ) (k : Kind) → let l = limits_of k a in a ≤ l.a.end → b_most l.b ≤ bill_period_most
unfolding limits_of
b_high a = every_kind _ (omega arith)

pub record FieldsInRange (r : Raw) (k : Kind) : Type 0 where
  pub amount : r.amount ≤ amount_most
  pub a : r.a ≤ 65535
  pub by_kind : Ranged r k
  pub b : r.b ≤ bill_period_most

in_range : (r : Raw) (k : Kind) → in_range_of r k ≡ true → FieldsInRange r k
in_range r k e =
    let s = ranged r k e in
    let h = highs r.a k in
    record {
      amount = omega (arith, s.amount.1, h.0);
      a = omega (arith, s.a.1, h.1);
      by_kind = s;
      b = omega (arith, b_below r.b (limits_of k r.a).b s.b, b_high r.a k s.a.1);
    }

-- WHAT AN ACCEPTED ENTRY HAS PASSED
pub record Passed (h : History) (r : Raw) (k : Kind) (e : Raw) (f : Fate) (b : Balance) : Type 0 where
  pub kind_known : same_of k kind.Unknown ≡ false
  pub node_low : 1 ≤ r.node
  pub node_high : r.node ≤ 2
  pub account_low : 1 ≤ r.account
  pub account_high : r.account ≤ accounts
  pub day : r.day ≤ last_day
  pub ranges : FieldsInRange r k
  pub serial_above : last_serial h r.node < r.serial
  pub room : length h < entries
  pub suited : (naming k && not (suits k (kind_of e.kind))) ≡ false
  pub deposit : (same_of k kind.Deposit && ltb 0 b.deposit || same_of k kind.DepositReturn && eqb b.deposit 0) ≡ false
  pub guarantee : (same_of k kind.Guarantee && guarantee_open h r.account) ≡ false
  pub unclosed : ((same_of (kind_of e.kind) kind.Contribution || same_of (kind_of e.kind) kind.Guarantee) && f.closed) ≡ false
  pub period_runs : (same_of k kind.AddedCustomer && leb (refund_end e) (dated r.day)) ≡ false
  pub uncorrected : ((same_of (kind_of e.kind) kind.Bill || same_of (kind_of e.kind) kind.Payment) && f.corrected) ≡ false

pass : (h : History) (r : Raw) (k : Kind) (e : Raw) (f : Fate) (b : Balance) → first_broken (refusals Recorded h r k e f b) ≡ 0 → Passed h r k e f b
pass h r k e f b z =
    let row : (n : ℕ) → (row_of n (refusals Recorded h r k e f b)).broken ≡ false = λ n. unbroken n (refusals Recorded h r k e f b) (omega arith) z in
    let node = inside r.node 1 2 (not-false _ (row 2)) in
    let account = inside r.account 1 accounts (not-false _ (row 3)) in
    record {
      kind_known = row 1;
      node_low = node.0;
      node_high = node.1;
      account_low = account.0;
      account_high = account.1;
      day = ltb-false _ _ (row 4);
      ranges = in_range r k (not-false _ (row 5));
      serial_above = leb-false _ _ (row 6);
      room = leb-false _ _ (row 7);
      suited = row 8;
      deposit = row 9;
      guarantee = row 24;
      unclosed = row 11;
      period_runs = row 12;
      uncorrected = row 16;
    }

abbrev pub Accepts : History → Raw → Type 0
Accepts h r = Passed h r (kind_of r.kind) (target_entry (named h r)) (target_fate h (named h r)) (balance h r.account)

pub accepts : (h : History) (r : Raw) → judge h r ≡ 0 → Accepts h r
unfolding judge_by
accepts h r e = pass h r _ _ _ _ e

known : (w : Arrival) (k : Kind) → unknown_so w k ≡ false → same_of k kind.Unknown ≡ false
known Posted k e = or_left _ _ e
known PostedInRun k e = or_left _ _ e
known Recorded k e = e

-- an entry that joins, however it comes in, passes as a recorded one
pub recorded : (w : Arrival) (h : History) (r : Raw) → judge_by w h r ≡ 0 → judge h r ≡ 0
unfolding judge_by
recorded w h r z =
    let k = kind_of r.kind in
    let table = refusals w h r k (target_entry (named h r)) (target_fate h (named h r)) (balance h r.account) in
    let row : (n : ℕ) → (row_of n table).broken ≡ false = λ n. unbroken n table (omega arith) z in
    rw (known w k (row 1)) (rw (row 1, row 30, row 27) at z)

-- and is no bill of zero days served where such are stopped
pub served : (w : Arrival) (h : History) (r : Raw) → judge_by w h r ≡ 0 → no_day_so w (kind_of r.kind) r.b ≡ false
unfolding judge_by
served w h r z = unbroken 30 (refusals w h r (kind_of r.kind) (target_entry (named h r)) (target_fate h (named h r)) (balance h r.account)) (omega arith) z

pub fits : {h : History} → Valid h → length h ≤ entries
fits empty = omega arith
fits (joins {r} {h} v j) = omega (arith, (accepts h r j).room)

-- WHAT AN ACCEPTED ENTRY NAMES
-- nothing suits where nothing is found
pub unsuited : (k : Kind) → suits k (kind_of 0) ≡ false
unsuited k = rw no_kind (go (same_of k kind.Correction) (naming_guarantee k))
  where
    go : (t u : Bool) → cond t false (cond u false false) ≡ false
    go true u = refl
    go false true = refl
    go false false = refl

module _ (h : History) (r : Raw) where
  pub data Role : Type 0 where
    alone : naming (kind_of r.kind) ≡ false → Role
    upon : naming (kind_of r.kind) ≡ true → (i : ℕ) (e : Raw) → find h r ≡ present i e → suits (kind_of r.kind) (kind_of e.kind) ≡ true → Role

  pub named_none : naming (kind_of r.kind) ≡ false → named h r ≡ absent
  unfolding named
  named_none n = rw n

  pub named_at_lem : naming (kind_of r.kind) ≡ true → (i : ℕ) (e : Raw) → find h r ≡ present i e → named h r ≡ present i e
  unfolding named
  named_at_lem n i e f = rw n f

  pub role : judge h r ≡ 0 → Role
  unfolding named
  role j = go (naming (kind_of r.kind)) refl (find h r) refl (accepts h r j).suited
    where
      go : (t : Bool) → naming (kind_of r.kind) ≡ t → (s : Target) → find h r ≡ s →
          (t && not (suits (kind_of r.kind) (kind_of (target_entry (cond t s absent)).kind))) ≡ false → Role
      go false n s f p = alone n
      go true n absent f p = absurd (true≢false (sym (ap not (unsuited (kind_of r.kind))) ∙ p))
      go true n (present i e) f p = upon n i e f (not-false _ p)

  -- what it has passed, of the entry that it names
  pub accepts_upon : judge h r ≡ 0 → naming (kind_of r.kind) ≡ true → (i : ℕ) (e : Raw) → find h r ≡ present i e →
      Passed h r (kind_of r.kind) e (fate h e) (balance h r.account)
  accepts_upon j n i e f = rw (named_at_lem n i e f) at (accepts h r j)

  pub move_upon : (b : Balance) → naming (kind_of r.kind) ≡ true → (i : ℕ) (e : Raw) → find h r ≡ present i e →
      move_by h r b ≡ move_of (kind_of r.kind) (kind_of e.kind) r b e (paid_by h r) (fate h e)
  unfolding move_by
  move_upon b n i e f = rw (named_at_lem n i e f)

-- the kinds that name an entry, each with the kinds that it names
pub upon_cases : (P : Kind → Kind → Type 0) → P kind.AddedCustomer kind.Contribution → P kind.Expiry kind.Contribution →
    P kind.Correction kind.Bill → P kind.Correction kind.Payment → P kind.Reduction kind.Guarantee → P kind.Retention kind.Guarantee →
    (k l : Kind) → naming k ≡ true → suits k l ≡ true → P k l
upon_cases P added expired bill payment reduced retained k l =
    or-true _ _
    (or-true _ _ (at kind.Reduction (λ s. pair _ kind.Guarantee s reduced)) (at kind.Retention (λ s. pair _ kind.Guarantee s retained)))
    (or-true _ _ (at kind.AddedCustomer (λ s. pair _ kind.Contribution s added))
    (or-true _ _ (at kind.Expiry (λ s. pair _ kind.Contribution s expired))
    (at kind.Correction (λ s. or-true _ _ (λ t. pair _ kind.Bill t bill) (λ t. pair _ kind.Payment t payment) s))))
  where
    at : (m : Kind) → (suits m l ≡ true → P m l) → same_of k m ≡ true → suits k l ≡ true → P k l
    at m x p = rw (same_kind k m p) x

    pair : (m n : Kind) → same_of l n ≡ true → P m n → P m l
    pair m n q x = rw (same_kind l n q) x
