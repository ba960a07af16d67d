-- What an entry of each kind does in the book is what it does in the history, where no sum reaches a limit.
use mathlib.Core.Path.{◌≡◌, refl}
use Prim.Native.Nat.{ℕ, ◌+◌, ◌-◌, min, ◌≤◌, ◌<◌}
use native.Mathlib.Omega.{arith}
use native.Mathlib.Nat.{min-eq_left, zero-add, add-zero, sub-zero, zero-sub, zero-min, min-zero}
use mathlib.Core.Bool.{Bool, true, false, cond, true≢false}
use lib.Dec.{leb}
use borrow.Author.Tests.{leb-true, leb-false}
use Rattle.measures.specs.Cents.{cents, most}
use Rattle.measures.specs.declared.Cents.{Cents}
use Rattle.entries.specs.Ranges.{amount_most}
use Rattle.entries.specs.Kinds.{same_of}
use Rattle.entries.specs.declared.data.Entry.{Entry}
use Rattle.entries.specs.Data.{metres, with_of, case_of, particulars_of, refunded_of, expired_of, restated_of, reduced_of, retained_of}
use Rattle.entries.specs.declared.raw.Raw.{Raw}
use Rattle.entries.specs.declared.kinds.Kind.{Kind}
use Rattle.entries.specs.declared.kinds.Kind.TheVariants as kind
use Rattle.entries.specs.declared.data.Data.{Data}
use Rattle.rules.specs.Moves.{settles, leaves, covers, owes}
use Rattle.rules.specs.Formulas.{billed, interest, given_back_of}
use Rattle.rules.specs.Accounts.{credited_of, plus_credit_of, charged_of, with_deposit_of, with_guarantee_of}
use Rattle.rules.specs.Answers.{amounts_of}
use Rattle.changes.specs.Changes.{change_of, contribution_of, added_customer_of, bill_of, payment_of, deposit_of, deposit_return_of, expiry_of, correction_of, guarantee_of, late_charge_of, reduction_of, retention_of, own_change_of, naming_change_of}
use Rattle.rules.specs.declared.accounts.Account.{Account}
use Rattle.rules.specs.declared.accounts.Credited.{Credited}
use Rattle.rules.specs.declared.answers.Amounts as four'
use Rattle.changes.specs.declared.Link.{Link}
use Rattle.changes.specs.declared.Change.{Change}
use Rattle.book.specs.Chain.{link_of}
use Rattle.std.specs.Prelude.{Option, None, Some}
use Rattle.rules.proofs.FormulasLaws.{plain}
use Rattle.history.specs.History.{naming, suits, Fate, posted_fate, refund_by, fate_after, Balance, Move, restates, charges, credits, move_of, moved, Amounts, amounts_by, last_day, entries}
use Rattle.history.specs.Agreement.{kept_account, kept_data}
use Rattle.history.proofs.Accept.{FieldsInRange, upon_cases}
use Rattle.history.proofs.Conserve.{posted_as}
use Rattle.history.proofs.Open.{open_after}
use Rattle.history.proofs.Bound.{large, Small, billed_small, return_small}

abbrev pub kept_amounts : Amounts → four'.Amounts
kept_amounts x = amounts_of (cents x.settled) (cents x.paid_out) (cents x.retained) (cents x.interest)

-- the change that a move makes
abbrev pub change_by : Move → Balance → Bool → ℕ → Data → Option Link → Change
change_by m b guarantee newest d named = change_of (kept_account (moved m b) guarantee newest) d named (kept_amounts (amounts_by m b))

fits : (n : ℕ) → n ≤ most → min n most ≡ n
fits n l = min-eq_left l

ruleset zeros = (zero-add, add-zero, sub-zero, zero-sub, zero-min, min-zero)

-- an account's moves on plain numbers
module _ (b : Balance) (guarantee : Bool) (newest : ℕ) where
  charged_plain : (x : ℕ) → b.arrears + x ≤ most → charged_of (kept_account b guarantee newest) (cents x) ≡ kept_account (moved (charges x) b) guarantee newest
  unfolding charged_of
  charged_plain x l = simp (zeros, fits (b.arrears + owes x b.credit) (omega arith))

  kept_plain : (x : ℕ) → b.credit + x ≤ most →
      plus_credit_of (credited_of (kept_account b guarantee newest) (cents x)).account (credited_of (kept_account b guarantee newest) (cents x)).left ≡ kept_account (moved (credits x) b) guarantee newest
  unfolding plus_credit_of credited_of
  kept_plain x l = simp (zeros, fits (b.credit + leaves x b.arrears) (omega arith))

  -- of a charge and a credit one is 0
  abbrev both : ℕ → ℕ → Credited
  both up down = credited_of (charged_of (kept_account b guarantee newest) (cents up)) (cents down)

  restated : (x y : ℕ) → b.arrears + y ≤ most → b.credit + x ≤ most →
      let moves = both (y - x) (x - y) in
      (plus_credit_of moves.account moves.left ≡ kept_account (moved (restates x y) b) guarantee newest) × (moves.settled ≡ cents (settles (x - y) b.arrears))
  unfolding plus_credit_of credited_of charged_of
  restated x y l m = go (leb x y) refl
    where
      go : (t : Bool) → leb x y ≡ t →
          let moves = both (y - x) (x - y) in
          (plus_credit_of moves.account moves.left ≡ kept_account (moved (restates x y) b) guarantee newest) × (moves.settled ≡ cents (settles (x - y) b.arrears))
      go true e =
          let z : x - y ≡ 0 = omega (arith, leb-true x y e) in
          rw z (
            simp (zeros, fits (b.arrears + owes (y - x) b.credit) (omega arith), fits (b.credit - covers (y - x) b.credit) (omega arith)),
            simp zeros,
          )
      go false e =
          let z : y - x ≡ 0 = omega (arith, leb-false x y e) in
          rw z (
            simp (zeros, fits b.arrears (omega arith), fits (b.credit + leaves (x - y) b.arrears) (omega arith)),
            simp (zeros, fits b.arrears (omega arith)),
          )

-- EFFECTS, KIND BY KIND
module _ (r : Raw) (b : Balance) (guarantee : Bool) (newest n : ℕ) (w : Small n b) (room : n < entries) where
  -- of an entry that names nothing
  pub own_effect : (l : Kind) (e : Raw) (sum : ℕ) (f : Fate) (k : Kind) → naming k ≡ false → same_of k kind.Unknown ≡ false → FieldsInRange r k → r.day ≤ last_day →
      own_change_of r k (kept_account b guarantee newest) ≡ change_by (move_of k l r b e sum f) b (open_after k guarantee) newest (kept_data k r (posted_as k r) 0 0) None
  unfolding own_change_of contribution_of bill_of payment_of deposit_of deposit_return_of guarantee_of late_charge_of credited_of with_deposit_of with_guarantee_of
  own_effect l e sum f kind.Unknown a u s d = absurd (true≢false u)
  own_effect l e sum f kind.Contribution a u s d = refl
  own_effect l e sum f kind.AddedCustomer a u s d = absurd (true≢false a)
  own_effect l e sum f kind.Bill a u s d =
      let small = billed_small r.amount r.b r.a s.amount s.b in
      rw (plain.bill r.amount r.b r.a s.amount (omega (arith, s.b)), charged_plain b guarantee newest (billed r.amount r.b r.a) (omega arith)) (simp zeros)
  own_effect l e sum f kind.Payment a u s d = rw (kept_plain b guarantee newest r.amount (omega (arith, s.amount))) (simp zeros)
  own_effect l e sum f kind.Deposit a u s d = refl
  own_effect l e sum f kind.DepositReturn a u s d =
      let since = r.day - b.deposited in
      let small = return_small b.deposit b.rate since w.deposit w.rate (omega arith) in
      rw (plain.deposit_return b.deposit b.rate since w.deposit w.rate (omega arith), fits (b.deposit + interest b.deposit b.rate since) (omega arith)) refl
  own_effect l e sum f kind.Expiry a u s d = absurd (true≢false a)
  own_effect l e sum f kind.Correction a u s d = absurd (true≢false a)
  own_effect l e sum f kind.Guarantee a u s d = refl
  own_effect l e sum f kind.Reduction a u s d = absurd (true≢false a)
  own_effect l e sum f kind.Retention a u s d = absurd (true≢false a)
  own_effect l e sum f kind.LateCharge a u s d = rw (charged_plain b guarantee newest r.amount (omega (arith, s.amount))) (simp zeros)

  -- of one that names e, which the book keeps as x at place i, of which `settled` and `paid` are refunded; `sum` is that of the payments that a
  -- reduction counts
  module _ (e : Raw) (sum : ℕ) (g : Fate) (i settled paid : ℕ) (x : Entry) where
    abbrev pub NamingEffect : Kind → Kind → Type 0
    NamingEffect k l =
        let y = amounts_by (move_of k l r b e sum g) b in
        let t = same_of k kind.AddedCustomer in
        naming_change_of r k (kept_account b guarantee newest) (cents (cond (same_of k kind.Reduction) sum 0)) (link_of i (with_of x (kept_data l e g settled paid))) ≡
        change_by (move_of k l r b e sum g) b (open_after k guarantee) newest (kept_data k r (posted_fate r) 0 0)
        (Some (link_of i (with_of x (kept_data l e (fate_after k r e sum g) (cond t y.settled 0 + settled) (cond t y.paid_out 0 + paid)))))

    added_effect : e.amount ≤ amount_most → r.a ≤ 65535 → g.added < 65535 → settled + paid + g.held ≤ amount_most → NamingEffect kind.AddedCustomer kind.Contribution
    unfolding naming_change_of added_customer_of credited_of case_of refunded_of particulars_of with_of
    added_effect m a c p =
        let y = refund_by r e g in
        let one_more : min (g.added + 1) 65535 ≡ g.added + 1 = min-eq_left (omega arith) in
        let to : min (settled + settles y b.arrears) most ≡ settles y b.arrears + settled = omega arith in
        let out : min (paid + leaves y b.arrears) most ≡ leaves y b.arrears + paid = omega arith in
        rw (plain.added_customer (particulars_of (kept_data kind.Contribution e g settled paid)) (metres r.a) m a, to, out, one_more) refl

    pub naming_effect : (k l : Kind) → naming k ≡ true → suits k l ≡ true → e.amount ≤ amount_most → r.amount ≤ amount_most → r.a ≤ 65535 → g.added < 65535 → g.standing ≤ large →
        (l ≡ kind.Contribution → settled + paid + g.held ≤ amount_most) → NamingEffect k l
    unfolding naming_change_of expiry_of correction_of reduction_of retention_of case_of expired_of restated_of reduced_of retained_of particulars_of credited_of given_back_of with_guarantee_of with_of
    naming_effect k l n u m o a c s =
        let bill = restated b guarantee newest g.standing r.amount (omega arith) (omega arith) in
        let payment = restated b guarantee newest r.amount g.standing (omega arith) (omega arith) in
        upon_cases (λ k l. (l ≡ kind.Contribution → settled + paid + g.held ≤ amount_most) → NamingEffect k l)
        (λ p. added_effect m a c (p refl)) (λ p. simp zero-add) (λ p. rw (bill.0, bill.1) refl) (λ p. rw (payment.0, payment.1) refl) (λ p. refl) (λ p. refl) k l n u

-- AN ENTRY THAT NAMES ANOTHER CHANGES IT, AT ITS PLACE, AND ITS DATA ALONE

abbrev Names : Link → Change → Type 0
Names l c = (d : Data) × (c.named ≡ Some (record { place = l.place; entry = with_of l.entry d }))

either_names : (l : Link) (t : Bool) (x y : Change) → Names l x → Names l y → Names l (cond t x y)
either_names l true x y p q = p
either_names l false x y p q = q

pub naming_names : (r : Raw) (k : Kind) (acc : Account) (paid : Cents) (l : Link) → Names l (naming_change_of r k acc paid l)
unfolding naming_change_of added_customer_of expiry_of reduction_of retention_of correction_of
naming_names r k acc paid l =
    either_names l (same_of k kind.AddedCustomer) _ _ (_, refl)
    (either_names l (same_of k kind.Expiry) _ _ (_, refl)
    (either_names l (same_of k kind.Reduction) _ _ (_, refl)
    (either_names l (same_of k kind.Retention) _ _ (_, refl) (_, refl))))
