-- An account's sums and amounts are conserved, and so is each contribution and each guarantee.
use mathlib.Core.Path.{◌≡◌, refl, ap, ◌∙◌, subst}
use Prim.Native.Nat.{ℕ, ◌+◌, ◌-◌, ◌≤◌}
use native.Mathlib.Omega.{arith}
use mathlib.Core.Bool.{Bool, true, false, cond, ◌&&◌, ◌||◌, true≢false, and-true}
use mathlib.Core.List.{[], ◌∷◌}
use lib.Dec.{eqb, ltb}
use borrow.Author.Tests.{eqb-true, eq-eqb, ltb-false}
use Rattle.entries.specs.Kinds.{kind_of, same_of}
use Rattle.entries.specs.Ranges.{limits_of}
use Rattle.entries.specs.declared.raw.Raw.{Raw}
use Rattle.entries.specs.declared.kinds.Kind.{Kind}
use Rattle.entries.specs.declared.kinds.Kind.TheVariants as kind
use Rattle.entries.proofs.Ranges.{both_true}
use Rattle.entries.proofs.KindsLaws.{every_kind}
use Rattle.rules.specs.Formulas.{billed}
use Rattle.rules.specs.Moves.{settles, leaves, covers, owes}
use Rattle.history.specs.History.{History, naming, suits, points, names, present, find, named, target_entry, target_fate, Fate, fate_of, posted_fate, fate_after, sum, fate, total, paid_by, Balance, Move, stays, restates, refunds, deposits, returns, retains, move_of, moved, move_by, balance, Amounts, amounts_by, amounts, judge, filter, on_account, entries_of, Reading, amount_of, standing_amount, billed_amount, held_of, held_amount, added_up, gives_back, customers}
use Rattle.history.specs.Laws.{Valid, empty, joins, In, newest, older, sums_of, Conserved, Divided, Refunds, Reduces, Each}
use Rattle.history.proofs.Accept.{or_left, accepts, Role, alone, upon, role, named_at_lem, accepts_upon, move_upon, upon_cases}
use Rattle.history.proofs.Names.{pointed, hit, aimed, fate_new, given_new, Misses, none, miss, Hits, first, later, misses_kind, hits, fate_cases, fate_miss, fate_hit, gives_miss}

-- a sum over the entries that pass a test: an entry's own part, and the rest
pub total_filter : (f : Reading) (all : History) (p : Raw → Bool) (r : Raw) (h : History) →
    total f all (filter p (r ∷ h)) ≡ cond (p r) (f (kind_of r.kind) r (fate all r)) 0 + total f all (filter p h)
unfolding sum filter
total_filter f all p r h = go (p r)
  where
    go : (t : Bool) → total f all (cond t (r ∷ filter p h) (filter p h)) ≡ cond t (f (kind_of r.kind) r (fate all r)) 0 + total f all (filter p h)
    go true = refl
    go false = omega arith

-- a sum as the history grows, whatever is read off the entries
module _ (f : Reading) (c : Raw) (h : History) (p : Raw → Bool) where
  pub total_miss : {g : History} → Misses c g → total f (c ∷ h) (filter p g) ≡ total f h (filter p g)
  unfolding sum filter
  total_miss none = refl
  total_miss (miss {x} {g} e m) = rw (total_filter, total_filter, fate_miss c h x e, total_miss m)

  pub total_hit : {i : ℕ} {e : Raw} {g : History} → Hits c i e g →
      total f (c ∷ h) (filter p g) + cond (p e) (f (kind_of e.kind) e (fate h e)) 0 ≡
      total f h (filter p g) + cond (p e) (f (kind_of e.kind) e (fate_after (kind_of c.kind) c e (paid_by h c) (fate h e))) 0
  total_hit {e = e} (first {x} {g} n s l m) = rw (← s, total_filter, total_filter, fate_hit c h x n, total_miss m) (omega arith)
  total_hit (later {x} {g} n t) = rw (total_filter, total_filter, fate_miss c h x n) (omega (arith, total_hit t))

-- a sum of two readings
total_plus : (f g : Reading) (all es : History) → total (λ k e x. f k e x + g k e x) all es ≡ total f all es + total g all es
unfolding sum
total_plus f g all [] = refl
total_plus f g all (e ∷ es) = omega (arith, total_plus f g all es)

-- EACH ACCOUNT
-- What an entry brings: a contribution, a deposit and a guarantee their amounts, a payment its standing amount.
abbrev brings : Reading
brings k e f = amount_of kind.Contribution k e f + standing_amount kind.Payment k e f + amount_of kind.Deposit k e f + amount_of kind.Guarantee k e f

-- What it holds: a bill its standing amount and a late charge its own, which stand on this side of the sum, a contribution and a guarantee what is held.
abbrev holds : Reading
holds k e f = billed_amount k e f + held_amount k e f + held_of kind.Guarantee k e f

-- a kind whose amount is 1 or more stands on one of the two sides
accounted : (e : Raw) (f : Fate) → 1 ≤ e.amount → 1 ≤ f.held → 1 ≤ f.standing → (k : Kind) → 1 ≤ (limits_of k e.a).amount.start →
    1 ≤ brings k e f + holds k e f
unfolding limits_of
accounted e f m h s = every_kind _ (omega arith)

-- a move of an account balances so much brought and so much held
abbrev Balances : Move → Balance → ℕ → ℕ → Type 0
Balances m b brought held =
    brought + (amounts_by m b).interest + (moved m b).arrears + b.deposit + b.credit ≡
    held + (amounts_by m b).paid_out + (amounts_by m b).retained + (moved m b).deposit + (moved m b).credit + b.arrears

-- what a move balances: so much brought more or held less, and so much brought less or held more
abbrev sides : Move → Balance → ℕ × ℕ
sides stays b = (0, 0)
sides (restates x y) b = (x, y)
sides (refunds x) b = (x, 0)
sides (deposits x rate day) b = (x, b.deposit)
sides (returns i) b = (0, 0)
sides (retains x) b = (x, 0)

-- charged and credited amounts, whose difference is that of x and y
restated : (b : Balance) (x y up down : ℕ) → up + x ≡ down + y →
    x + (b.arrears + owes up b.credit - settles down b.arrears) + b.credit ≡ y + (b.credit - covers up b.credit + leaves down b.arrears) + b.arrears
restated b x y up down e = omega arith

-- EACH MOVE balances its two sides
move_even : (m : Move) (b : Balance) → Balances m b (sides m b).0 (sides m b).1
move_even stays b = omega arith
move_even (restates x y) b = omega (arith, restated b x y (y - x) (x - y) (omega arith))
move_even (refunds x) b = omega arith
move_even (deposits x rate day) b = omega arith
move_even (returns i) b = omega arith
move_even (retains x) b = omega arith

-- a posted entry's fate, of a kind
abbrev pub posted_as : Kind → Raw → Fate
posted_as k e = fate_of e.amount 0 0 false (cond (same_of k kind.Bill) (billed e.amount e.b e.a) e.amount) false e.day

-- EACH KIND: what it brings and holds more is what its move says
module _ (r e : Raw) (paid : ℕ) (f : Fate) (b : Balance) where
  alone_even : (l k : Kind) → naming k ≡ false → cond (same_of k kind.Deposit) b.deposit 0 ≡ 0 →
      let s = sides (move_of k l r b e paid f) b in brings k r (posted_as k r) + s.1 ≡ holds k r (posted_as k r) + s.0
  alone_even l = every_kind _ (omega (arith, true≢false))

  upon_even : (g : Fate) (k l : Kind) → naming k ≡ true → suits k l ≡ true →
      let s = sides (move_of k l r b e paid f) b in
      let f' = fate_after k r e paid f in
      brings k r g + brings l e f' + holds l e f + s.1 ≡ holds k r g + holds l e f' + brings l e f + s.0
  upon_even g = upon_cases _ (omega arith) (omega arith) (omega arith) (omega arith) (omega arith) (omega arith)

-- what is brought, with interest and arrears, is what is held, paid out and retained, with deposit held and credit
abbrev Even : History → ℕ → Type 0
Even h a =
    let b = balance h a in
    total brings h (entries_of h a) + added_up (λ (x : Amounts). x.interest) (on_account a) h + b.arrears ≡
    total holds h (entries_of h a) + added_up (λ (x : Amounts). x.paid_out) (on_account a) h + added_up (λ (x : Amounts). x.retained) (on_account a) h + b.deposit + b.credit

-- a deposit comes while none is held, and a guarantee while none is open
pub unheld : (t : Bool) (n : ℕ) → (t && ltb 0 n) ≡ false → cond t n 0 ≡ 0
unheld true n e = omega (arith, ltb-false 0 n e)
unheld false n e = refl

module _ {h : History} (v : Valid h) (r : Raw) (j : judge h r ≡ 0) where
  abbrev k : Kind
  k = kind_of r.kind

  -- an account's part in what is read off an entry of r's account
  abbrev on : ℕ → ℕ → ℕ
  on a x = cond (eqb r.account a) x 0

  -- a sum over the entries that pass a test, after an entry that names nothing, and after one that does
  pub plain_over : naming k ≡ false → (p : Raw → Bool) (f : Reading) → total f (r ∷ h) (filter p (r ∷ h)) ≡ cond (p r) (f k r (posted_fate r)) 0 + total f h (filter p h)
  plain_over n p f = rw (total_filter, total_miss f r h p (misses_kind r n h), fate_new v r j)

  pub named_over : naming k ≡ true → (i : ℕ) (e : Raw) → find h r ≡ present i e → (p : Raw → Bool) (f : Reading) →
      total f (r ∷ h) (filter p (r ∷ h)) + cond (p e) (f (kind_of e.kind) e (fate h e)) 0 ≡
      cond (p r) (f k r (posted_fate r)) 0 + total f h (filter p h) + cond (p e) (f (kind_of e.kind) e (fate_after k r e (paid_by h r) (fate h e))) 0
  named_over n i e q p f = rw (total_filter, fate_new v r j) (omega (arith, total_hit f r h p (hits v r i e n q)))

  -- an account's sum: what is named is of the same account
  pub plain_sum : naming k ≡ false → (a : ℕ) (f : Reading) → total f (r ∷ h) (entries_of (r ∷ h) a) ≡ on a (f k r (posted_fate r)) + total f h (entries_of h a)
  plain_sum n a f = plain_over n (on_account a) f

  pub named_sum : naming k ≡ true → (i : ℕ) (e : Raw) → find h r ≡ present i e → (a : ℕ) (f : Reading) →
      total f (r ∷ h) (entries_of (r ∷ h) a) + on a (f (kind_of e.kind) e (fate h e)) ≡
      on a (f k r (posted_fate r)) + total f h (entries_of h a) + on a (f (kind_of e.kind) e (fate_after k r e (paid_by h r) (fate h e)))
  named_sum n i e q a f = rw (ap (λ (x : ℕ). eqb x a) (pointed r e (hit v r i e q).aimed).account) at (named_over n i e q (on_account a) f)

  -- another account's sums stay
  pub still : (a : ℕ) → eqb r.account a ≡ false → Role h r → (f : Reading) → total f (r ∷ h) (entries_of (r ∷ h) a) ≡ total f h (entries_of h a)
  still a t (alone n) f = omega (arith, rw t at (plain_sum n a f))
  still a t (upon n i e q s) f = omega (arith, rw t at (named_sum n i e q a f))

  pub own : eqb r.account r.account ≡ true
  own = eq-eqb r.account r.account refl

  abbrev summed : History → Reading → ℕ
  summed g f = total f g (entries_of g r.account)

  -- on the entry's own account, what is brought and held more is what the move balances
  grown : Role h r → let b = balance h r.account in Balances (move_by h r b) b (summed (r ∷ h) brings + summed h holds) (summed (r ∷ h) holds + summed h brings)
  unfolding move_by
  grown (alone n) =
      let b = balance h r.account in
      let free = or_left (same_of k kind.Deposit && ltb 0 b.deposit) (same_of k kind.DepositReturn && eqb b.deposit 0) (accepts h r j).deposit in
      let e = target_entry (named h r) in
      omega (
        arith,
        move_even (move_by h r b) b,
        alone_even r e (paid_by h r) (target_fate h (named h r)) b (kind_of e.kind) k n (unheld (same_of k kind.Deposit) b.deposit free),
        rw own at (plain_sum n r.account brings),
        rw own at (plain_sum n r.account holds),
      )
  grown (upon n i e q s) =
      let b = balance h r.account in
      rw (named_at_lem h r n i e q)
      (omega (
        arith,
        move_even (move_of k (kind_of e.kind) r b e (paid_by h r) (fate h e)) b,
        upon_even r e (paid_by h r) (fate h e) b (posted_fate r) k (kind_of e.kind) n s,
        rw own at (named_sum n i e q r.account brings),
        rw own at (named_sum n i e q r.account holds),
      ))

  own_even : Even h r.account → Even (r ∷ h) r.account
  unfolding added_up balance amounts
  own_even l = rw own (omega (arith, grown (role h r j)))

  other_even : (a : ℕ) → eqb r.account a ≡ false → Even h a → Even (r ∷ h) a
  unfolding added_up balance
  other_even a t l = rw t (omega (arith, still a t (role h r j) brings, still a t (role h r j) holds))

even : {h : History} → Valid h → (a : ℕ) → Even h a
unfolding sum filter added_up balance
even empty a = refl
even (joins {r} {h} v j) a = go (λ n. even v n) (eqb r.account a) refl
  where
    go : ((n : ℕ) → Even h n) → (t : Bool) → eqb r.account a ≡ t → Even (r ∷ h) a
    go ih true t = subst (λ (n : ℕ). Even (r ∷ h) n) (eqb-true r.account a t) (own_even v r j (ih r.account))
    go ih false t = other_even v r j a t (ih a)

pub conserve : {h : History} → Valid h → (a : ℕ) → Conserved (sums_of h a)
conserve {h} v a =
    let es = entries_of h a in
    let contributions = amount_of kind.Contribution in
    let payments = standing_amount kind.Payment in
    let deposits = amount_of kind.Deposit in
    let bills = billed_amount in
    omega (
      arith,
      even v a,
      total_plus (λ k e f. contributions k e f + payments k e f + deposits k e f) (amount_of kind.Guarantee) h es,
      total_plus (λ k e f. contributions k e f + payments k e f) deposits h es,
      total_plus contributions payments h es,
      total_plus (λ k e f. bills k e f + held_amount k e f) (held_of kind.Guarantee) h es,
      total_plus bills held_amount h es,
    )

-- EACH CONTRIBUTION AND EACH GUARANTEE
-- the kind that gives something of an entry of kind l back
abbrev giver : Kind → Kind
giver l = cond (same_of l kind.Guarantee) kind.Reduction kind.AddedCustomer

giver_names : (l : Kind) → naming (giver l) ≡ true
giver_names l = go (same_of l kind.Guarantee)
  where
    go : (t : Bool) → naming (cond t kind.Reduction kind.AddedCustomer) ≡ true
    go true = refl
    go false = refl

-- an entry is divided, and its customers are counted
abbrev pub Parted : History → Raw → Type 0
Parted h e = Divided (giver (kind_of e.kind)) h e × ((fate h e).added ≡ customers h e)

-- what is not closed has nothing retained
still_open : (h : History) (e : Raw) → (fate h e).closed ≡ false → (fate h e).retained ≡ 0
unfolding fate
still_open [] e = λ t. refl
still_open (c ∷ h) e =
    let ih = still_open h e in fate_cases (λ f. f.closed ≡ false → f.retained ≡ 0) c h e ih ih (λ t. absurd (true≢false t)) ih ih

-- the parts of an entry e, of which `settled` and `paid` are given back, after one that names it
parted : (r e : Raw) (sum : ℕ) (f : Fate) (b : Balance) (settled paid added : ℕ) → (f.closed ≡ false → f.retained ≡ 0) →
    (e.amount ≡ settled + paid + f.held + f.retained) × (f.added ≡ added) → (k l : Kind) → naming k ≡ true → suits k l ≡ true →
    ((same_of l kind.Contribution || same_of l kind.Guarantee) && f.closed) ≡ false →
    let x = amounts_by (move_of k l r b e sum f) b in
    let f' = fate_after k r e sum f in
    let t = same_of k (giver l) in
    (e.amount ≡ cond t x.settled 0 + settled + (cond t x.paid_out 0 + paid) + f'.held + f'.retained) × (f'.added ≡ cond (same_of k kind.AddedCustomer) 1 0 + added)
parted r e sum f b settled paid added o w =
    upon_cases _ (λ u. omega arith) (λ u. omega (arith, o u)) (λ u. omega arith) (λ u. omega arith) (λ u. omega arith) (λ u. omega (arith, o u))

module _ {h : History} (v : Valid h) (r : Raw) (j : judge h r ≡ 0) where
  -- the entry that joins
  divided_new : Parted (r ∷ h) r
  divided_new =
      let l = kind_of r.kind in
      let none : (f : Amounts → ℕ) → added_up f (gives_back (giver l) r) (r ∷ h) ≡ 0 = λ f. given_new (giver l) (giver_names l) f r v j in
      rw (fate_new v r j)
      (omega (arith, none (λ x. x.settled), none (λ x. x.paid_out), given_new kind.AddedCustomer refl (λ x. 1) r v j))

  divided_miss : (e : Raw) → names r e ≡ false → Parted h e → Parted (r ∷ h) e
  unfolding added_up
  divided_miss e n w =
      let l = kind_of e.kind in
      rw (fate_miss r h e n, gives_miss (giver l) (giver_names l) r e n, gives_miss kind.AddedCustomer refl r e n) (omega arith)

  divided_hit : (e : Raw) → In e h → names r e ≡ true → Parted h e → Parted (r ∷ h) e
  unfolding names added_up amounts
  divided_hit e m n l =
      let p = both_true _ _ n in
      let w = aimed v r j p.0 e m p.1 in
      let b = balance h r.account in
      rw (fate_hit r h e n, p.1, and-true (same_of (kind_of r.kind) (giver (kind_of e.kind))), and-true (same_of (kind_of r.kind) kind.AddedCustomer), move_upon h r b p.0 w.place e w.at)
      (parted r e (paid_by h r) (fate h e) b _ _ _ (still_open h e) l (kind_of r.kind) (kind_of e.kind) p.0 w.suited (accepts_upon h r j p.0 w.place e w.at).unclosed)

pub divide : {h : History} → Valid h → (e : Raw) → In e h → Parted h e
divide empty e m = elim m [ ]
divide (joins {r} {h} v j) e (newest q) = subst (λ y. Parted (r ∷ h) y) q (divided_new v r j)
divide (joins {r} {h} v j) e (older t) = go (divide v e t) (names r e) refl
  where
    go : Parted h e → (u : Bool) → names r e ≡ u → Parted (r ∷ h) e
    go l true n = divided_hit v r j e t n l
    go l false n = divided_miss v r j e n l

-- EACH REFUND AND EACH REDUCTION
-- what an accepted entry of a kind that names moves, by the entry at which it points
move_aimed : {h : History} → Valid h → (c : Raw) → judge h c ≡ 0 → (k : Kind) → naming k ≡ true → kind_of c.kind ≡ k → (e : Raw) → In e h → points c e ≡ true →
    let b = balance h c.account in move_by h c b ≡ move_of k (kind_of e.kind) c b e (paid_by h c) (fate h e)
move_aimed {h} v c j k n q e m p =
    let o = ap naming q ∙ n in
    let w = aimed v c j o e m p in
    move_upon h c (balance h c.account) o w.place e w.at ∙ rw q refl

module _ {h : History} (v : Valid h) (c : Raw) (j : judge h c ≡ 0) where
  refund_new : Refunds c h
  unfolding amounts
  refund_new e m k p = rw (move_aimed v c j kind.AddedCustomer refl k e m p, ← (divide v e m).1) (omega arith)

  reduction_new : Reduces c h
  unfolding amounts
  reduction_new e m k p = rw (move_aimed v c j kind.Reduction refl k e m p) (omega arith)

pub refunds_all : {h : History} → Valid h → Each Refunds h
refunds_all empty = tt
refunds_all (joins {r} v j) = (refund_new v r j, refunds_all v)

pub reductions_all : {h : History} → Valid h → Each Reduces h
reductions_all empty = tt
reductions_all (joins {r} v j) = (reduction_new v r j, reductions_all v)
