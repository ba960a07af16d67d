-- The book's table of refusals and the history's stop an entry by the same number.
use mathlib.Core.Path.{◌≡◌, refl, sym, ap, ◌∙◌}
use Prim.Native.Nat.{ℕ, ◌≤◌}
use native.Mathlib.Omega.{arith}
use mathlib.Core.Bool.{Bool, true, false, cond, not, ◌&&◌, ◌||◌, true≢false, and-true, and-false}
use mathlib.Core.List.{List, [], ◌∷◌, ◌++◌}
use lib.ListN.{length}
use lib.Dec.{eqb, leb, ltb}
use borrow.Author.Tests.{eqb-true, ltb-false, lt-ltb, le-ltb, leb-true, leb-false, not-false}
use Rattle.measures.specs.Cents.{cents}
use Rattle.measures.specs.Days.{day, last_day}
use Rattle.measures.specs.declared.Cents.{Cents}
use Rattle.calendar.specs.Periods.{years_on}
use Rattle.calendar.proofs.Calendar.{calendar}
use Rattle.entries.specs.Arrivals.{unknown_to, no_day_for, waits_for}
use Rattle.entries.specs.Kinds.{kind_of, names_of, misnames_of, same_of}
use Rattle.entries.specs.Ranges.{between}
use Rattle.entries.specs.Refusals.{refusal_number, check_number, decided_of}
use Rattle.entries.specs.Refusals as checks
use Rattle.entries.specs.Data.{metres, entry_of, FromContribution, case_of, of_contribution, particulars_of}
use Rattle.entries.specs.declared.arrivals.Arrival.{Arrival}
use Rattle.entries.specs.declared.arrivals.Arrival.TheVariants.{Posted, PostedInRun, Recorded}
use Rattle.entries.specs.declared.raw.Raw.{Raw}
use Rattle.entries.specs.declared.kinds.Kind.{Kind}
use Rattle.entries.specs.declared.kinds.Kind.TheVariants as kind
use Rattle.entries.specs.declared.data.Particulars.{Particulars}
use Rattle.entries.specs.declared.refusals.Refusal.TheVariants as no
use Rattle.rules.specs.Checks.{own_rows, naming_rows, check_own_of, check_naming_of}
use Rattle.std.specs.Prelude.{Ok, Err}
use Rattle.changes.specs.Changes.{Decision, own_change_of, naming_change_of, own_decision_of, naming_decision_of}
use Rattle.rules.specs.declared.accounts.Account.{Account}
use Rattle.book.specs.Chain.{link_of}
use Rattle.book.specs.declared.Found.{Found}
use Rattle.book.specs.declared.Found.TheVariants.{At, Nothing}
use Rattle.book.specs.Refusals.{entry_rows, check_entry_of, searched_of, decision_by}
use Rattle.history.specs.History.{History, accounts, entries, refund_years, guarantee_years, dated, dated_after, naming_guarantee, naming, suits, last_serial, absent, Fate, fate, guarantee_open, target_entry, target_fate, Balance, Rule, first_broken, unknown_so, no_day_so, waits_so, refusals, to_arrears, refunds_paid}
use Rattle.history.specs.Agreement.{kept_account, kept_data, kept_entry}
use Rattle.history.proofs.Tests.{tested}
use Rattle.history.proofs.Accept.{unsuited}
use Rattle.entries.proofs.KindsLaws.{same_kind, no_kind}

abbrev Pick : Bool → Type 0 → Type 0 → Type 0
Pick true A B = A
Pick false A B = B

-- Rows of one number have the same test, and a row of the history's that the book's table has not is not broken; each as far as no
-- earlier row stops the entry.
abbrev pub Same : List checks.Row → List Rule → Type 0
Same [] [] = Unit {0}
Same (x ∷ xs) [] = ⊥
Same [] (y ∷ ys) = (y.broken ≡ false) × Same [] ys
Same (x ∷ xs) (y ∷ ys) =
    Pick (eqb (refusal_number x.refusal) y.number) ((x.broken ≡ y.broken) × (y.broken ≡ false → Same xs ys)) ((y.broken ≡ false) × Same (x ∷ xs) ys)

pub first_same : (xs : List checks.Row) (ys : List Rule) → Same xs ys → check_number (checks.check_rows xs) ≡ first_broken ys
unfolding check_number
first_same [] [] s = refl
first_same (x ∷ xs) [] s = absurd s
first_same [] (y ∷ ys) s = rw s.0 (first_same [] ys s.1)
first_same (x ∷ xs) (y ∷ ys) s =
    pick (λ q. first_same xs ys q) (λ q. first_same (x ∷ xs) ys q) (eqb (refusal_number x.refusal) y.number) refl s
  where
    here : (Same xs ys → check_number (checks.check_rows xs) ≡ first_broken ys) → (y.broken ≡ false → Same xs ys) → refusal_number x.refusal ≡ y.number →
        (t : Bool) → y.broken ≡ t → check_number (cond t (Err x.refusal) (checks.check_rows xs)) ≡ cond t y.number (first_broken ys)
    here ih s q true e = q
    here ih s q false e = ih (s e)

    pick : (Same xs ys → check_number (checks.check_rows xs) ≡ first_broken ys) →
        (Same (x ∷ xs) ys → check_number (checks.check_rows (x ∷ xs)) ≡ first_broken ys) → (t : Bool) → eqb (refusal_number x.refusal) y.number ≡ t →
        Pick t ((x.broken ≡ y.broken) × (y.broken ≡ false → Same xs ys)) ((y.broken ≡ false) × Same (x ∷ xs) ys) →
        check_number (checks.check_rows (x ∷ xs)) ≡ first_broken (y ∷ ys)
    pick ih more true e s = rw s.0 (here ih s.1 (eqb-true _ _ e) y.broken refl)
    pick ih more false e s = rw s.0 (more s.1)

-- TESTS THAT ARE SAID UNLIKE
misnames_same : (k l : Kind) → misnames_of k l ≡ not (suits k l)
unfolding misnames_of
misnames_same k l = go (same_of k kind.Correction) (naming_guarantee k)
  where
    go : (t u : Bool) →
        cond t (not (same_of l kind.Bill || same_of l kind.Payment)) (cond u (not (same_of l kind.Guarantee)) (not (same_of l kind.Contribution))) ≡
        not (cond t (same_of l kind.Bill || same_of l kind.Payment) (cond u (same_of l kind.Guarantee) (same_of l kind.Contribution)))
    go true u = refl
    go false true = refl
    go false false = refl

-- a kind that names an entry is none that doesn't, nor the reverse
naming_not : (k l : Kind) (t : Bool) → naming l ≡ not t → naming k ≡ t → same_of k l ≡ false
naming_not k l t n e = go (same_of k l) refl
  where
    clash : (t : Bool) → t ≡ not t → ⊥
    clash true q = true≢false q
    clash false q = true≢false (sym q)

    go : (u : Bool) → same_of k l ≡ u → u ≡ false
    go true p = absurd (clash t (sym e ∙ ap naming (same_kind k l p) ∙ n))
    go false p = refl

-- a return's first day is the deposit's, and else that of no entry
own_day : (t : Bool) (x deposited : ℕ) → (t && ltb x deposited) ≡ ltb x (cond t deposited 0)
own_day true x deposited = refl
own_day false x deposited = sym (le-ltb x 0 (omega arith))

-- a rule of kind m is the same where it reads the same of that kind
kind_same : (m k : Kind) (p q : Bool) → (k ≡ m → p ≡ q) → (same_of k m && p) ≡ (same_of k m && q)
kind_same m k p q e = go (same_of k m) refl
  where
    go : (t : Bool) → same_of k m ≡ t → (t && p) ≡ (t && q)
    go true a = e (same_kind k m a)
    go false a = refl

-- a rule of kind m, which names entries of kind n alone, is the same where it reads the same of these
suited_same : (m n : Kind) → ((l : Kind) → suits m l ≡ same_of l n) → naming m ≡ true → (k l : Kind) (p q : Bool) → (l ≡ n → p ≡ q) →
    (naming k && not (suits k l)) ≡ false → (same_of k m && p) ≡ (same_of k m && q)
suited_same m n only names k l p q e s = kind_same m k p q (λ a. e (same_kind l n (not-false _ (rw (a, names, only l) at s))))

-- The book's end of a period is a day, the history's a date: a day has reached the one exactly when its date has reached the other.
module _ (d e : ℕ) (from : d ≤ last_day) (until : e ≤ last_day) (n : ℕ) where
  ended_same : leb (years_on n d) e ≡ leb (dated_after n d) (dated e)
  ended_same = calendar.reached n d e from until ∙ ap (λ x. leb x (dated e)) (omega arith)

  running_same : ltb e (years_on n d) ≡ ltb (dated e) (dated_after n d)
  running_same = less e (years_on n d) ∙ ap not ended_same ∙ sym (less (dated e) (dated_after n d))
    where
      less : (a b : ℕ) → ltb a b ≡ not (leb b a)
      less a b = tested (λ t. ltb a b ≡ not t) (leb b a) (λ p. le-ltb a b (leb-true b a p)) (λ p. lt-ltb a b (leb-false b a p))

-- how an entry comes in stops the same kinds
unknown_same : (w : Arrival) (k : Kind) → unknown_to w k ≡ unknown_so w k
unknown_same Posted k = rw (and-true (same_of k kind.LateCharge)) refl
unknown_same PostedInRun k = rw (and-true (same_of k kind.LateCharge)) refl
unknown_same Recorded k = go (same_of k kind.Unknown) (same_of k kind.LateCharge)
  where
    go : (s t : Bool) → (s || (t && false)) ≡ s
    go true t = refl
    go false true = refl
    go false false = refl

no_day_same : (w : Arrival) (k : Kind) (served : ℕ) → no_day_for w k served ≡ no_day_so w k served
no_day_same Posted k served = and-true (same_of k kind.Bill && eqb served 0)
no_day_same PostedInRun k served = and-true (same_of k kind.Bill && eqb served 0)
no_day_same Recorded k served = and-false (same_of k kind.Bill && eqb served 0)

waits_same : (w : Arrival) (k : Kind) → waits_for w k ≡ waits_so w k
waits_same Posted k = and-false (same_of k kind.Correction)
waits_same PostedInRun k = and-true (same_of k kind.Correction)
waits_same Recorded k = and-false (same_of k kind.Correction)

-- what the rules read of an entry of a kind, as the history has it
abbrev pub seen_of : Kind → Raw → Fate → Particulars
seen_of l e f =
    let contribution = same_of l kind.Contribution in
    let guarantee = same_of l kind.Guarantee in
    let correctable = same_of l kind.Bill || same_of l kind.Payment in
    record {
      kind = l;
      amount = cents (cond contribution e.amount 0);
      built = metres (cond contribution e.a 0);
      phases = cond contribution e.b 0;
      held = cents (cond contribution f.held 0);
      added = cond contribution f.added 0;
      closed = (contribution || guarantee) && f.closed;
      standing = cents (cond correctable f.standing (cond (same_of l kind.LateCharge) e.amount 0));
      corrected = correctable && f.corrected;
      guarantee_held = cents (cond guarantee f.held 0);
      reduced = day (cond guarantee f.reduced 0);
    }

-- what is read of an entry that the book keeps: by the rules, and of a contribution
pub kept_read : (l : Kind) (e : Raw) (f : Fate) (s p : ℕ) → let d = kept_data l e f s p in
    (particulars_of d ≡ seen_of l e f) ×
    ((A : Type 0) (g : FromContribution A) (x : A) →
    of_contribution d g x ≡ cond (same_of l kind.Contribution)
    (g e.b (metres e.a) f.added f.closed (cents e.amount) (cents f.held) (cents s) (cents p) (cents f.retained)) x)
unfolding case_of particulars_of
kept_read kind.Unknown e f s p = (refl, λ A g x. refl)
kept_read kind.Contribution e f s p = (refl, λ A g x. refl)
kept_read kind.AddedCustomer e f s p = (refl, λ A g x. refl)
kept_read kind.Bill e f s p = (refl, λ A g x. refl)
kept_read kind.Payment e f s p = (refl, λ A g x. refl)
kept_read kind.Deposit e f s p = (refl, λ A g x. refl)
kept_read kind.DepositReturn e f s p = (refl, λ A g x. refl)
kept_read kind.Expiry e f s p = (refl, λ A g x. refl)
kept_read kind.Correction e f s p = (refl, λ A g x. refl)
kept_read kind.Guarantee e f s p = (refl, λ A g x. refl)
kept_read kind.Reduction e f s p = (refl, λ A g x. refl)
kept_read kind.Retention e f s p = (refl, λ A g x. refl)
kept_read kind.LateCharge e f s p = (refl, λ A g x. refl)

-- what is left of the table after 1 to 7, 30 and 27, for the entry that r names or none, and what an entry does that passes it
abbrev pub rows : Raw → Kind → Account → Bool → Found → List checks.Row
rows r k acc false f = own_rows r k acc
rows r k acc true Nothing = record { broken = true; refusal = no.NotOnChain } ∷ []
rows r k acc true (At l) = naming_rows r k l.entry

abbrev pub effect : Raw → Kind → Account → Cents → Bool → Found → Decision
effect r k acc paid false f = Ok (own_change_of r k acc)
effect r k acc paid true Nothing = Err no.NotOnChain
effect r k acc paid true (At l) = Ok (naming_change_of r k acc paid l)

-- the parted checks are one table
parted : (xs ys : List checks.Row) (o : Decision) →
    decided_of (checks.check_rows xs) Err (decided_of (checks.check_rows ys) Err o) ≡ decided_of (checks.check_rows (xs ++ ys)) Err o
unfolding decided_of
parted [] ys o = refl
parted (x ∷ xs) ys o = go x.broken (parted xs ys o)
  where
    go : (t : Bool) → decided_of (checks.check_rows xs) Err (decided_of (checks.check_rows ys) Err o) ≡ decided_of (checks.check_rows (xs ++ ys)) Err o →
        decided_of (cond t (Err x.refusal) (checks.check_rows xs)) Err (decided_of (checks.check_rows ys) Err o) ≡
        decided_of (cond t (Err x.refusal) (checks.check_rows (xs ++ ys))) Err o
    go true again = refl
    go false again = again

pub one_table : (r : Raw) (w : Arrival) (count last : ℕ) (acc : Account) (f : Found) (paid : Cents) → let k = kind_of r.kind in
    decision_by r w count last acc f paid ≡ decided_of (checks.check_rows (entry_rows r k w count last ++ rows r k acc (names_of k) f)) Err (effect r k acc paid (names_of k) f)
unfolding decision_by check_entry_of searched_of own_decision_of naming_decision_of check_own_of check_naming_of decided_of
one_table r w count last acc f paid = rw (go (names_of k) f) (parted (entry_rows r k w count last) (rows r k acc (names_of k) f) (effect r k acc paid (names_of k) f))
  where
    k : Kind
    k = kind_of r.kind

    go : (t : Bool) (f : Found) →
        cond t (searched_of r k acc paid f) (own_decision_of r k acc) ≡ decided_of (checks.check_rows (rows r k acc t f)) Err (effect r k acc paid t f)
    go false f = refl
    go true Nothing = refl
    go true (At l) = refl

-- THE ROWS FROM 8 ON
abbrev pub rows_from : ℕ → List Rule → List Rule
rows_from n [] = []
rows_from n (x ∷ xs) = cond (eqb x.number n) (x ∷ xs) (rows_from n xs)

module _ (w : Arrival) (h : History) (r : Raw) (k : Kind) (b : Balance) where
  -- of an entry that names nothing
  pub own_same : (newest : ℕ) → naming k ≡ false →
      Same (rows r k (kept_account b (guarantee_open h r.account) newest) false Nothing) (rows_from 8 (refusals w h r k (target_entry absent) (target_fate h absent) b))
  own_same newest n =
      let none : (l : Kind) → naming l ≡ true → same_of k l ≡ false = λ l m. naming_not k l false m n in
      let no-added = none kind.AddedCustomer refl in (
        rw n refl,
        (
          refl,
          λ t. (
            refl,
            λ t. (
              own_day (same_of k kind.DepositReturn) r.day b.deposited,
              λ t. (
                rw no_kind refl,
                (
                  rw no-added refl,
                  (
                    rw (none kind.Expiry refl) refl,
                    (
                      rw (none kind.Reduction refl) refl,
                      (rw (none kind.Retention refl) refl, (rw no-added refl, (rw no-added refl, (rw no_kind refl, tt)))),
                    ),
                  ),
                ),
              ),
            ),
          ),
        ),
      )

  -- of an entry that names one that is not on the chain
  pub missing_same : (acc : Account) → naming k ≡ true → Same (rows r k acc true Nothing) (rows_from 8 (refusals w h r k (target_entry absent) (target_fate h absent) b))
  missing_same acc n =
      let stops : true ≡ (naming k && not (suits k (kind_of 0))) = rw (n, unsuited k) in
      (stops, λ t. absurd (true≢false (stops ∙ t)))

  -- of an entry that names x, which the book keeps
  pub naming_same : (acc : Account) (i : ℕ) (g : History) (x : Raw) → naming k ≡ true → x.day ≤ last_day → r.day ≤ last_day →
      Same (rows r k acc true (At (link_of i (kept_entry h g x)))) (rows_from 8 (refusals w h r k x (fate h x) b))
  unfolding entry_of
  naming_same acc i g x n from until =
      let l = kind_of x.kind in
      let ended = ended_same x.day r.day from until in
      let running = running_same x.day r.day from until in
      let returned = naming_not k kind.DepositReturn true refl n in
      rw (kept_read l x (fate h x) (to_arrears h x) (refunds_paid h x)).0 (
        rw n (misnames_same k l),
        λ suited.
            let added = suited_same kind.AddedCustomer kind.Contribution (λ l. refl) refl k l in (
              rw (naming_not k kind.Deposit true refl n, returned) refl,
              (
                rw (naming_not k kind.Guarantee true refl n) refl,
                (
                  rw returned refl,
                  λ t. (
                    refl,
                    λ t. (
                      kind_same kind.AddedCustomer k _ _ (λ a. rw a (ended refund_years)),
                      λ t. (
                        kind_same kind.Expiry k _ _ (λ a. rw a (running refund_years)),
                        λ t. (
                          suited_same kind.Reduction kind.Guarantee (λ l. refl) refl k l _ _ (λ l. rw l) suited,
                          λ t. (
                            kind_same kind.Retention k _ _ (λ a. rw a (running guarantee_years)),
                            λ t. (
                              added _ _ (λ l. rw l) suited,
                              λ t. (
                                added _ _ (λ l. rw l) suited,
                                λ t. (refl, λ t. tt),
                              ),
                            ),
                          ),
                        ),
                      ),
                    ),
                  ),
                ),
              ),
            ),
      )

-- the two tables as a whole
module _ (w : Arrival) (h : History) (r : Raw) (k : Kind) (count last : ℕ) (rest : List checks.Row) (x : Raw) (f : Fate) (b : Balance) (counted : count ≡ length h)
    (lasts : between r.node 1 2 ≡ true → last ≡ last_serial h r.node)
    (state : between r.account 1 accounts ≡ true → r.day ≤ last_day → Same rest (rows_from 8 (refusals w h r k x f b))) where
  pub check_same : check_number (checks.check_rows (entry_rows r k w count last ++ rest)) ≡ first_broken (refusals w h r k x f b)
  check_same =
      first_same (entry_rows r k w count last ++ rest) (refusals w h r k x f b) (
        unknown_same w k,
        λ t. (
          refl,
          λ node. (
            refl,
            λ account. (
              refl,
              λ day. (
                refl,
                λ t. (
                  no_day_same w k r.b,
                  λ t. (
                    ap (λ n. leb r.serial n) (lasts (not-false _ node)),
                    λ t. (
                      waits_same w k,
                      λ t.
                          (ap (λ n. leb entries n) counted, λ t. state (not-false _ account) (ltb-false _ _ day)),
                    ),
                  ),
                ),
              ),
            ),
          ),
        ),
      )
