-- How large the numbers of a history can grow: far below the limits of the book's sums.
use mathlib.Core.Path.{◌≡◌, subst}
use Prim.Native.Nat.{ℕ, zero, suc, ◌+◌, ◌-◌, ◌*◌, ◌≤◌}
use native.Mathlib.Omega.{arith}
use native.Mathlib.Nat.{mul-le-mul, div-le_self}
use mathlib.Core.Bool.{Bool, true, false, cond}
use mathlib.Core.List.{[], ◌∷◌}
use lib.ListN.{length, take}
use lib.Dec.{eqb}
use Rattle.measures.proofs.Rounding.{rounded_most}
use Rattle.entries.specs.Kinds.{kind_of, same_of}
use Rattle.entries.specs.Ranges.{amount_most, limits_of, rate_most, bill_period_most}
use Rattle.entries.specs.declared.raw.Raw.{Raw}
use Rattle.entries.specs.declared.kinds.Kind.{Kind}
use Rattle.entries.specs.declared.kinds.Kind.TheVariants as kind
use Rattle.entries.proofs.KindsLaws.{every_kind, no_kind}
use Rattle.rules.specs.Formulas.{billed, interest}
use Rattle.history.specs.History.{History, named, filter, on_account, Fate, Reading, sum, in_window, paid_until, fate, total, paid_by, target_entry, target_fate, Balance, move_of, moved, move_by, balance, amounts_by, amounts, judge, last_day}
use Rattle.history.specs.Laws.{Valid, empty, joins, In, newest, older}
use Rattle.history.proofs.Accept.{FieldsInRange, accepts, Role, alone, upon, named_none, named_at_lem, role}
use Rattle.history.proofs.Names.{hit, fate_cases}
use Rattle.history.proofs.Conserve.{total_filter}

-- more than one entry can move
abbrev pub large : ℕ
large = 1000000000000

-- what every entry that joins has, each of a history has
each_has : (P : Raw → Type 0) → ((h : History) (r : Raw) → judge h r ≡ 0 → P r) → {h : History} → Valid h → (e : Raw) → In e h → P e
each_has P has empty e m = elim m [ ]
each_has P has (joins {r} {h} v j) e (newest q) = subst P q (has h r j)
each_has P has (joins v j) e (older t) = each_has P has v e t

pub in_ranges : {h : History} → Valid h → (e : Raw) → In e h → FieldsInRange e (kind_of e.kind)
in_ranges = each_has (λ e. FieldsInRange e (kind_of e.kind)) (λ h r j. (accepts h r j).ranges)

pub in_book : {h : History} → Valid h → (e : Raw) → In e h → e.day ≤ last_day
in_book = each_has (λ e. e.day ≤ last_day) (λ h r j. (accepts h r j).day)

pub billed_small : (charge served days : ℕ) → charge ≤ amount_most → served ≤ bill_period_most → billed charge served days ≤ large
billed_small charge served days c s =
    let p : charge * served ≤ amount_most * bill_period_most = mul-le-mul c s in
    omega (arith, rounded_most (charge * served) days, div-le_self (charge * served) days)

-- what a return gives back: a deposit and its interest
pub return_small : (deposit rate days : ℕ) → deposit ≤ amount_most → rate ≤ rate_most → days ≤ last_day → deposit + interest deposit rate days ≤ large
return_small deposit rate days d r t =
    let p : deposit * rate ≤ amount_most * rate_most = mul-le-mul d r in
    let q : deposit * rate * days ≤ amount_most * rate_most * last_day = mul-le-mul p t in
    omega (arith, rounded_most (deposit * rate * days) 3650000)

first_small : (e : Raw) (t : Bool) → FieldsInRange e (kind_of e.kind) → cond t (billed e.amount e.b e.a) e.amount ≤ large
first_small e true w = billed_small e.amount e.b e.a w.amount w.b
first_small e false w = omega (arith, w.amount)

-- what became of an entry
pub added_small : (h : History) (e : Raw) → (fate h e).added ≤ length h
unfolding fate
added_small [] e = omega arith
added_small (c ∷ h) e =
    let ih = added_small h e in
    fate_cases (λ f. f.added ≤ suc (length h)) c h e (omega arith) (omega arith) (omega arith) (omega arith) (omega arith)

-- what is held only falls
pub held_small : (h : History) (e : Raw) → (fate h e).held ≤ e.amount
unfolding fate
held_small [] e = omega arith
held_small (c ∷ h) e =
    let ih = held_small h e in fate_cases (λ f. f.held ≤ e.amount) c h e ih (omega arith) (omega arith) ih (omega arith)

pub standing_small : {h : History} → Valid h → (e : Raw) → FieldsInRange e (kind_of e.kind) → (fate h e).standing ≤ large
unfolding fate
standing_small empty e w = first_small e (same_of (kind_of e.kind) kind.Bill) w
standing_small (joins {r} {h} v j) e w =
    let ih = standing_small v e w in
    fate_cases (λ f. f.standing ≤ large) r h e ih ih ih (omega (arith, (accepts h r j).ranges.amount)) ih

-- sums of small numbers are small
-- a number of two
pub either_small : (t : Bool) (x y : ℕ) → x ≤ large → y ≤ large → cond t x y ≤ large
either_small true x y p q = p
either_small false x y p q = q

pub some_small : (t : Bool) (x : ℕ) → x ≤ large → cond t x 0 ≤ large
some_small t x l = either_small t x 0 l (omega arith)

module _ (f : Reading) (all : History) where
  pub total_small : (p : Raw → Bool) → ((e : Raw) → FieldsInRange e (kind_of e.kind) → f (kind_of e.kind) e (fate all e) ≤ large) → {h : History} → Valid h →
      total f all (filter p h) ≤ large * length h
  unfolding sum filter
  total_small p small empty = omega arith
  total_small p small (joins {r} {h} v j) =
      rw total_filter
      (omega (arith, total_small p small v, some_small (p r) (f (kind_of r.kind) r (fate all r)) (small r (accepts h r j).ranges)))

  pub taken_small : (n : ℕ) (es : History) → total f all (take n es) ≤ total f all es
  unfolding sum
  taken_small zero es = omega arith
  taken_small (suc n) [] = omega arith
  taken_small (suc n) (e ∷ es) = omega (arith, taken_small n es)

pub paid_small : {h : History} → Valid h → (c : Raw) → paid_by h c ≤ large * length h
paid_small {h} v c = total_small (paid_until c.day) h (on_account c.account) (λ e s. some_small (in_window c.day (kind_of e.kind) e) (fate h e).standing (standing_small v e s)) v

-- an account's amounts
pub record Small (n : ℕ) (b : Balance) : Type 0 where
  pub arrears : b.arrears ≤ large * n
  pub credit : b.credit ≤ large * n
  pub deposit : b.deposit ≤ amount_most
  pub rate : b.rate ≤ rate_most

-- no move of an entry in range takes them further
module _ (r e : Raw) (paid : ℕ) (f : Fate) (b : Balance) (l : Kind) (n : ℕ) (w : Small n b) (m : r.amount ≤ amount_most) where
  moved_amounts : billed r.amount r.b r.a ≤ large → b.deposit + interest b.deposit b.rate (r.day - b.deposited) ≤ large → f.standing ≤ large → (k : Kind) →
      let c = moved (move_of k l r b e paid f) b in (c.arrears ≤ large * suc n) × (c.credit ≤ large * suc n)
  moved_amounts p i s =
      let bill = same_of l kind.Bill in
      every_kind _ (omega (arith, either_small bill f.standing r.amount s (omega arith), either_small bill r.amount f.standing (omega arith) s))

  moved_deposit : (k : Kind) → (moved (move_of k l r b e paid f) b).deposit ≤ amount_most
  moved_deposit = every_kind _ (omega arith)

  moved_rate : (k : Kind) → r.a ≤ (limits_of k r.a).a.end → (moved (move_of k l r b e paid f) b).rate ≤ rate_most
  unfolding limits_of
  moved_rate = every_kind _ (omega arith)

  -- and none pays out more than is held of what it names, or the deposit with its interest
  pays_small : b.deposit + interest b.deposit b.rate (r.day - b.deposited) ≤ large → f.held ≤ amount_most → (k : Kind) → (amounts_by (move_of k l r b e paid f) b).paid_out ≤ large
  pays_small i h = every_kind _ (omega arith)

module _ {h : History} (v : Valid h) (r : Raw) (j : judge h r ≡ 0) where
  named_held : Role h r → (target_fate h (named h r)).held ≤ amount_most
  named_held (alone n) = rw (named_none h r n) (omega arith)
  named_held (upon n i e q s) = rw (named_at_lem h r n i e q) (omega (arith, held_small h e, (in_ranges v e (hit v r i e q).member).amount))

  named_small : Role h r → (target_fate h (named h r)).standing ≤ large
  named_small (alone n) = rw (named_none h r n, no_kind) (omega arith)
  named_small (upon n i e q s) = rw (named_at_lem h r n i e q) (standing_small v e (in_ranges v e (hit v r i e q).member))

pub bounded : {h : History} → Valid h → (a : ℕ) → Small (length h) (balance h a)
unfolding balance move_by
bounded empty a = omega arith
bounded (joins {r} {h} v j) a = go (bounded v a) (eqb r.account a)
  where
    go : Small (length h) (balance h a) → (t : Bool) → Small (suc (length h)) (cond t (moved (move_by h r (balance h a)) (balance h a)) (balance h a))
    go w true =
        let b = balance h a in
        let p = accepts h r j in
        let s = p.ranges in
        let e = target_entry (named h r) in
        let paid = paid_by h r in
        let f = target_fate h (named h r) in
        let amounts =
        moved_amounts r e paid f b (kind_of e.kind) (length h) w s.amount (billed_small r.amount r.b r.a s.amount s.b)
        (return_small b.deposit b.rate (r.day - b.deposited) w.deposit w.rate (omega (arith, p.day))) (named_small v r j (role h r j)) (kind_of r.kind) in
        record {
          arrears = amounts.0;
          credit = amounts.1;
          deposit = moved_deposit r e paid f b (kind_of e.kind) (length h) w s.amount (kind_of r.kind);
          rate = moved_rate r e paid f b (kind_of e.kind) (length h) w s.amount (kind_of r.kind) s.by_kind.a.1;
        }
    go w false = omega arith

-- what an entry pays out
pub paid_out_small : {h : History} → Valid h → (r : Raw) → judge h r ≡ 0 → (amounts h r).paid_out ≤ large
unfolding amounts move_by
paid_out_small {h} v r j =
    let b = balance h r.account in
    let w = bounded v r.account in
    let p = accepts h r j in
    let e = target_entry (named h r) in
    pays_small r e (paid_by h r) (target_fate h (named h r)) b (kind_of e.kind) (length h) w p.ranges.amount
    (return_small b.deposit b.rate (r.day - b.deposited) w.deposit w.rate (omega (arith, p.day))) (named_held v r j (role h r j)) (kind_of r.kind)
