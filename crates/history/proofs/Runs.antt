-- Openings, steps and closes of a run keep a book and a state in agreement, and answer as the history says.
use Prim.Native.Nat.{ℕ, zero, suc, ◌+◌, ◌≤◌, ◌<◌}
use mathlib.Core.Path.{◌≡◌, refl, sym, ap, ap₂, subst, ◌∙◌}
use mathlib.Core.Bool.{Bool, true, false, cond, not, ◌||◌, true≢false}
use mathlib.Core.List.{List, [], ◌∷◌, map}
use native.Mathlib.Omega.{arith}
use native.Mathlib.Nat.{min-eq_left, zero-sub, zero-min}
use lib.ListN.{length, get_or, drop, length-map, length-drop}
use lib.Seq.{drop-cons, drop-drop, get_or-drop}
use lib.Dec.{leb, ltb}
use borrow.Author.Tests.{ne_eqb, le-leb, lt-leb, le-ltb, ltb-true, ltb-false}
use Rattle.measures.specs.Cents.{cents}
use Rattle.measures.specs.declared.Cents.{Cents}
use Rattle.entries.specs.Kinds.{kind_of}
use Rattle.entries.specs.Ranges.{amount_most, between, limits_of, named_fits, b_fits, in_range_of}
use Rattle.std.specs.Prelude.{Option, None, Some, Ok, Err, is_some}
use Rattle.entries.specs.Refusals.{refusal_number, decided_of}
use Rattle.entries.specs.declared.arrivals.Arrival.{Arrival}
use Rattle.entries.specs.declared.arrivals.Arrival.TheVariants.{Recorded}
use Rattle.entries.specs.declared.raw.Raw.{Raw}
use Rattle.entries.specs.declared.refusals.Refusal.TheVariants as no
use Rattle.entries.proofs.Ranges.{inside}
use Rattle.rules.specs.Accounts.{no_account}
use Rattle.rules.specs.Answers.{posting_reply_of}
use Rattle.rules.specs.Formulas.{late_amount}
use Rattle.rules.specs.declared.accounts.Account.{Account}
use Rattle.rules.proofs.FormulasLaws.{plain}
use Rattle.book.specs.Runs as books
use Rattle.book.specs.Chain.{slot_of}
use Rattle.book.specs.Posting.{enter_of, record_of}
use Rattle.book.specs.declared.Book.{Book}
use Rattle.book.specs.declared.Run as declared
use Rattle.book.proofs.Posting.{enter_run}
use Rattle.runs.specs.Runs.{RanReply, arrears_of, next_noted, with_run, without_run, goes_on_at, goes_on_after, next_serial, charge_of, stepped_of, check_opening_of, open_run_of, step_by, step_of, close_run_of}
use Rattle.history.specs.History.{History, accounts, entries, last_day, last_serial, named, move_by, balance, four_amounts, amounts, judge_by, judge, offer, replied_by, replied_of}
use Rattle.history.specs.Laws.{Valid, amount_bound}
use Rattle.history.specs.Images.{Typed}
use Rattle.history.specs.Runs.{Noted, Run, run_of, no_run, any_left, is_open, State, state_with, arrival_in, late_rate_most, serial_most, with_note, notes, opening_refusal, opened, late_charge, charge_in, step_refusal, stepped, step_reply, close_refusal, closed}
use Rattle.history.specs.Agreement.{Kept, notes_in, next_in, AllSmall, RunInRange, RunKept, over, goes_on, KeptState}
use Rattle.history.proofs.Tests.{tested}
use Rattle.history.proofs.Laws.{laws}
use Rattle.history.proofs.Search.{last_same}
use Rattle.history.proofs.Stored.{slot_at}
use Rattle.history.proofs.Agreement.{agreement}

-- NOTES
-- the first note of accounts from a on: where it stands, and what is left after it
record First (a : ℕ) (l : List Cents) (n : Noted) (ns : List Noted) : Type 0 where
  place : ℕ
  inside_list : place < length l
  account : n.account ≡ a + place
  arrears : (get_or l place (cents 0)).0 ≡ n.arrears
  rest : ns ≡ notes_in (a + place + 1) (drop (place + 1) l)

first : (a : ℕ) (l : List Cents) (n : Noted) (ns : List Noted) → notes_in a l ≡ n ∷ ns → First a l n ns
unfolding notes_in
first a [] n ns = λ e. absurd (omega (arith, ap (λ (x : List Noted). length x) e))
first a (x ∷ l) n ns =
    tested (λ t. cond t (record { account = a; arrears = x.0 } ∷ notes_in (a + 1) l) (notes_in (a + 1) l) ≡ n ∷ ns → First a (x ∷ l) n ns) (ltb 0 x.0)
    (λ p e. here e) (λ p e. later (first (a + 1) l n ns e))
  where
    here : (record { account = a; arrears = x.0 } ∷ notes_in (a + 1) l) ≡ n ∷ ns → First a (x ∷ l) n ns
    here e =
        let own : record { account = a; arrears = x.0 } ≡ n = cc in
        let tail : notes_in (a + 1) l ≡ ns = cc in
        let same : a + 0 ≡ a = omega arith in
        record {
          place = 0;
          inside_list = omega arith;
          account = sym (ap (λ (m : Noted). m.account) own) ∙ sym same;
          arrears = ap (λ (m : Noted). m.arrears) own;
          rest = rw same (sym tail);
        }

    later : First (a + 1) l n ns → First a (x ∷ l) n ns
    later f =
        let p = f.place in
        let up : a + suc p + 1 ≡ a + 1 + p + 1 = omega arith in
        let down : suc p + 1 ≡ suc (p + 1) = omega arith in
        record {
          place = suc p;
          inside_list = omega (arith, f.inside_list);
          account = omega (arith, f.account);
          arrears = f.arrears;
          rest = rw (up, down) f.rest;
        }

-- the account that the book's run goes to is the first noted one
next_same : (a : ℕ) (l : List Cents) → next_noted a l ≡ next_in (notes_in a l)
unfolding next_noted notes_in
next_same a [] = refl
next_same a (x ∷ l) =
    tested (λ t. cond t (Some a) (next_noted (a + 1) l) ≡ next_in (cond t (record { account = a; arrears = x.0 } ∷ notes_in (a + 1) l) (notes_in (a + 1) l))) (ltb 0 x.0)
    (λ p. refl) (λ p. next_same (a + 1) l)

-- the arrears of an account, noted
mapped : (accs : List Account) (i : ℕ) → get_or (map arrears_of accs) i (cents 0) ≡ (get_or accs i no_account).arrears
mapped [] i = refl
mapped (x ∷ accs) zero = refl
mapped (x ∷ accs) (suc i) = mapped accs i

drop_past : (n : ℕ) (l : List Cents) → length l ≤ n → drop n l ≡ []
drop_past zero [] k = refl
drop_past (suc n) [] k = refl
drop_past zero (x ∷ l) k = absurd (omega arith)
drop_past (suc n) (x ∷ l) k = drop_past n l (omega arith)

-- an opening notes the history's arrears: those of the first n accounts, in front of the other notes
notes_same : (h : History) (l : List Cents) → ((i : ℕ) → i < length l → (get_or l i (cents 0)).0 ≡ (balance h (suc i)).arrears) → (n : ℕ) → n ≤ length l →
    notes h n (notes_in (suc n) (drop n l)) ≡ notes_in 1 l
unfolding notes notes_in
notes_same h l same zero k = refl
notes_same h l same (suc n) k = ap (notes h n) (sym one) ∙ notes_same h l same n (omega arith)
  where
    one : notes_in (suc n) (drop n l) ≡ with_note (suc n) (balance h (suc n)).arrears (notes_in (suc (suc n)) (drop (suc n) l))
    one =
        let up : suc n + 1 ≡ suc (suc n) = omega arith in
        rw (drop-cons l n (cents 0) (omega arith), ← same n (omega arith), up) refl

notes_small : {h : History} → Valid h → (n : ℕ) (ns : List Noted) → AllSmall ns → AllSmall (notes h n ns)
unfolding notes
notes_small v zero ns w = w
notes_small {h} v (suc n) ns w =
    notes_small v n (with_note (suc n) (balance h (suc n)).arrears ns)
    (tested (λ t. AllSmall (cond t (record { account = suc n; arrears = (balance h (suc n)).arrears } ∷ ns) ns)) (ltb 0 (balance h (suc n)).arrears)
    (λ p. ((laws.bounded h v).arrears (suc n), w)) (λ p. w))

-- THE RUN THAT A BOOK KEEPS
-- the account that is charged next, of an open run
record Next (noted : List Cents) (run : Run) (n : Noted) (ns : List Noted) : Type 0 where
  low : 1 ≤ n.account
  high : n.account ≤ accounts
  own : get_or noted (slot_of n.account) (cents 0) ≡ cents n.arrears
  rest : ns ≡ notes_in (n.account + 1) (drop n.account noted)

next : (noted : List Cents) (run : Run) (n : Noted) (ns : List Noted) (last : ℕ) → run.left ≡ n ∷ ns → length noted ≡ accounts →
    run.left ≡ notes_in (last + 1) (drop last noted) → Next noted run n ns
next noted run n ns last e long left =
    let f = first (last + 1) (drop last noted) n ns (sym left ∙ e) in
    let in_List = f.inside_list in
    let least : 1 ≤ n.account = omega (arith, f.account) in
    let most : n.account ≤ accounts = omega (arith, f.account, length-drop last noted) in
    let place : slot_of n.account ≡ last + f.place = omega (arith, slot_at n.account least most, f.account) in
    let past : last + 1 + f.place + 1 ≡ n.account + 1 = omega (arith, f.account) in
    let dropped : last + (f.place + 1) ≡ n.account = omega (arith, f.account) in
    record {
      low = least;
      high = most;
      own = rw place (sym (get_or-drop last noted f.place (cents 0)) ∙ ap cents f.arrears);
      rest = f.rest ∙ ap (notes_in (last + 1 + f.place + 1)) (drop-drop (f.place + 1) last noted) ∙ ap₂ (λ a i. notes_in a (drop i noted)) past dropped;
    }

-- a run is open in the book exactly where it is in the history
pub open_same : {kept : Option declared.Run} {run : Run} → RunKept kept run → is_some kept ≡ is_open run
open_same (over e k) = rw (e, k) refl
open_same (goes_on n ns noted e k long last left ranged) = rw (e, k) refl

pub arrival_same : {kept : Option declared.Run} {run : Run} → RunKept kept run → books.arrival_of kept ≡ arrival_in run
unfolding books.arrival_of
arrival_same (over e k) = rw (e, k) refl
arrival_same (goes_on n ns noted e k long last left ranged) = rw (e, k) refl

pub kept_with : (b : Book) {c : Book} {h : History} {run : Run} → Kept c h → c.run ≡ b.run → RunKept b.run run → KeptState c (state_with h run)
kept_with b w e r = record { history = w; run = rw e r }

-- a book with another run keeps the same history
run_apart : {b : Book} {h : History} → Kept b h → (run : Option declared.Run) → Kept (with_run b run) h
run_apart w run =
    let a = w.agrees in
    record {
      agrees =
          record {
            accounts_long = a.accounts_long;
            entries_long = a.entries_long;
            counted = a.counted;
            last_1 = a.last_1;
            last_2 = a.last_2;
            account = a.account;
            rows = a.rows;
            unused = a.unused;
            years_long = a.years_long;
            years = a.years;
          };
      valid = w.valid;
    }

pub kept_idle : {b : Book} {h : History} → Kept b h → Kept (without_run b) h
unfolding without_run
kept_idle w = run_apart w None

-- where no run is open, the book is the same without its run, and the reverse
pub idle_is : (b : Book) → b.run ≡ None → without_run b ≡ b
unfolding without_run
idle_is b e = rw (← e) refl

pub idle_run : (b : Book) → without_run b ≡ b → b.run ≡ None
unfolding without_run
idle_run b e = sym (ap (λ (x : Book). x.run) e)

pub idle_over : {b : Book} {run : Run} → RunKept b.run run → is_open run ≡ false → without_run b ≡ b
idle_over {b} (over e k) o = idle_is b k
idle_over (goes_on n ns noted e k long last left ranged) o = absurd (true≢false (sym (ap any_left e) ∙ o))

-- an entry that comes in opens none
pub idle_entered : (w : Arrival) (b : Book) (r : Raw) → without_run b ≡ b → without_run (enter_of w b r).book ≡ (enter_of w b r).book
idle_entered w b r e = idle_is (enter_of w b r).book (enter_run w b r ∙ idle_run b e)

-- a run goes on after an account
module _ {b : Book} {h : History} (w : Kept b h) (run : Run) (noted : List Cents) (charged : ℕ) (left : run.left ≡ notes_in (charged + 1) (drop charged noted))
    (long : length noted ≡ accounts) (ranged : RunInRange run) where
  resumes : KeptState (with_run b (goes_on_after run.node run.day run.rate noted charged)) (state_with h run)
  unfolding goes_on_at
  resumes = record { history = run_apart w _; run = rw (next_same (charged + 1) (drop charged noted), ← left) (go run.left refl) }
    where
      go : (l : List Noted) → run.left ≡ l → RunKept (goes_on_at run.node run.day run.rate noted (next_in l)) run
      go [] e = over e refl
      go (n ∷ ns) e = goes_on n ns noted e refl long charged left ranged

-- AN OPENING
module _ {b : Book} {s : State} (w : KeptState b s) (node day rate : ℕ) where
  abbrev h : History
  h = s.entries

  -- what it notes are the history's arrears
  noted_same : notes h accounts [] ≡ notes_in 1 (drop 0 (map arrears_of b.accounts))
  unfolding notes_in
  noted_same =
      let a = w.history.agrees in
      let l = map arrears_of b.accounts in
      let long : length l ≡ accounts = length-map b.accounts arrears_of ∙ a.accounts_long in
      let none : drop accounts l ≡ [] = drop_past accounts l (omega arith) in
      rw none at
      (notes_same h l (λ i k.
      let in-accounts : suc i ≤ accounts = omega arith in
      let place : slot_of (suc i) ≡ i = omega (arith, slot_at (suc i) (omega arith) in-accounts) in
      ap (λ (x : Cents). x.0) (mapped b.accounts i) ∙ ap (λ (x : Account). x.arrears.0) (rw place at (a.account (suc i) (omega arith) in-accounts))) accounts (omega arith))

  abbrev Same : Bool → Bool → Bool → Bool → Type 0
  Same t u v x =
      let reply : RanReply =
      decided_of (cond t (Err no.RunState) (cond (not u) (Err no.RunState) (cond v (Err no.RunState) (cond x (Err no.RunState) (Ok tt)))))
      (λ n. record { book = b; refusal = refusal_number n }) (record { book = with_run b (goes_on_after node day rate (map arrears_of b.accounts) 0); refusal = 0 }) in
      let n : ℕ = cond (t || (not u || (v || x))) 28 0 in
      KeptState reply.book (opened n s node day rate) × (reply.refusal ≡ n)

  begun : between node 1 2 ≡ true → ltb last_day day ≡ false → ltb late_rate_most rate ≡ false →
      KeptState (with_run b (goes_on_after node day rate (map arrears_of b.accounts) 0)) (state_with h (run_of node day rate (notes h accounts [])))
  begun p q r =
      let i = inside node 1 2 p in
      resumes w.history (run_of node day rate (notes h accounts [])) (map arrears_of b.accounts) 0 noted_same
      (length-map b.accounts arrears_of ∙ w.history.agrees.accounts_long)
      (record { node_low = i.0; node_high = i.1; day = ltb-false _ _ q; rate = ltb-false _ _ r; small = notes_small w.history.valid accounts [] tt })

  pub opening_same : let o = open_run_of b node day rate in let n = opening_refusal s.run node day rate in
      KeptState o.book (opened n s node day rate) × (o.refusal ≡ n)
  unfolding open_run_of check_opening_of decided_of
  opening_same = rw (open_same w.run) (go (is_open s.run) (between node 1 2) (ltb last_day day) (ltb late_rate_most rate) refl refl refl)
    where
      go : (t u v x : Bool) → between node 1 2 ≡ u → ltb last_day day ≡ v → ltb late_rate_most rate ≡ x → Same t u v x
      go true u v x p q r = (w, refl)
      go false false v x p q r = (w, refl)
      go false true true x p q r = (w, refl)
      go false true false true p q r = (w, refl)
      go false true false false p q r = (begun p q r, refl)

-- A STEP
-- a charge in range is stopped by 6 and 7 alone
charge_judged : (h : History) (node account day serial amount : ℕ) → 1 ≤ node → node ≤ 2 → 1 ≤ account → account ≤ accounts → day ≤ last_day → amount ≤ amount_most →
    judge h (late_charge node account day serial amount) ≡ cond (leb serial (last_serial h node)) 6 (cond (leb entries (length h)) 7 0)
unfolding judge_by kind_of named between in_range_of limits_of named_fits b_fits
charge_judged h node account day serial amount n₁ n₂ a₁ a₂ d m =
    rw (le-leb 1 node n₁, le-leb node 2 n₂, le-leb 1 account a₁, le-leb account accounts a₂, le-ltb last_day day d, le-leb 0 amount (omega arith), le-leb amount amount_most m, le-ltb day 0 (omega arith)) refl

-- it settles nothing
charge_amounts : (h : History) (node account day serial amount : ℕ) → amounts h (late_charge node account day serial amount) ≡ four_amounts 0 0 0 0
unfolding amounts move_by kind_of
charge_amounts h node account day serial amount = simp (zero-sub, zero-min)

module _ {b : Book} {s : State} (w : KeptState b s) where
  abbrev g : History
  g = s.entries

  abbrev Stepped : Type 0
  Stepped = KeptState (step_of b).book (stepped (step_refusal g s.run) s) × ((step_of b).reply ≡ step_reply s)

  module _ (n : Noted) (ns : List Noted) (noted : List Cents) (e : s.run.left ≡ n ∷ ns)
      (k : b.run ≡ Some (books.run_of s.run.node s.run.day s.run.rate n.account noted))
      (long : length noted ≡ accounts) (to : Next noted s.run n ns) (ranged : RunInRange s.run) where
    abbrev run : Run
    run = s.run

    abbrev last : ℕ
    last = last_serial g run.node

    abbrev opened_run : declared.Run
    opened_run = books.run_of run.node run.day run.rate n.account noted

    steps : step_of b ≡ step_by (Some opened_run) b
    steps = ap (λ r. step_by r b) k

    -- the charge that the book records
    abbrev entry : Raw
    entry = charge_of opened_run b.last

    -- one that is refused leaves the run
    stays : (m : ℕ) → judge g entry ≡ suc m → step_refusal g run ≡ suc m → Stepped
    unfolding step_by stepped_of replied_of offer
    stays m j q =
        let reply : (record_of b entry).reply ≡ replied_by (suc m) (length g + 1) (amounts g entry) = rw j at (agreement.replied Recorded b g w.history entry) in
        let kept : Kept (record_of b entry).book g = rw j at (agreement.entered Recorded b g w.history entry) in
        rw (steps, q, reply, ne_eqb (suc m) 0 (λ z. omega arith)) (kept_with b kept (enter_run Recorded b entry) w.run, refl)

    small : n.arrears ≤ amount_bound
    small = (rw e at ranged.small).0

    charge_same : entry ≡ late_charge run.node n.account run.day (next_serial last) (late_amount n.arrears run.rate)
    unfolding charge_of between
    charge_same =
        let known : between run.node 1 2 ≡ true = rw (le-leb 1 run.node ranged.node_low, le-leb run.node 2 ranged.node_high) refl in
        rw (to.own, last_same w.history.agrees w.history.valid (late_charge run.node 0 0 0 0) known, plain.late_charge n.arrears run.rate small ranged.rate) refl

    judged : judge g entry ≡ cond (leb (next_serial last) last) 6 (cond (leb entries (length g)) 7 0)
    judged =
        ap (judge g) charge_same ∙
        charge_judged g run.node n.account run.day (next_serial last) (late_amount n.arrears run.rate) ranged.node_low ranged.node_high to.low to.high
        ranged.day (omega arith)

    refusal : step_refusal g run ≡ cond (ltb serial_most (last + 1)) 6 (cond (leb entries (length g)) 7 0)
    refusal = rw e refl

    -- the charge is accepted, and the run goes on
    goes : next_serial last ≡ last + 1 → judge g entry ≡ 0 → step_refusal g run ≡ 0 → Stepped
    unfolding step_by stepped_of replied_of offer
    goes serial j z =
        let charged : entry ≡ charge_in g run n = charge_same ∙ ap (λ x. late_charge run.node n.account run.day x (late_amount n.arrears run.rate)) serial in
        let reply : (record_of b entry).reply ≡ replied_by 0 (length g + 1) (four_amounts 0 0 0 0) =
        (rw j at (agreement.replied Recorded b g w.history entry)) ∙ ap (replied_by 0 (length g + 1)) (ap (amounts g) charge_same ∙ charge_amounts g _ _ _ _ _) in
        let kept : Kept (record_of b entry).book (charge_in g run n ∷ g) =
        subst (λ (x : Raw). Kept (record_of b entry).book (x ∷ g)) charged (rw j at (agreement.entered Recorded b g w.history entry)) in
        let after : Run = run_of run.node run.day run.rate ns in
        let on =
        resumes kept after noted n.account to.rest long
        (record { node_low = ranged.node_low; node_high = ranged.node_high; day = ranged.day; rate = ranged.rate; small = (rw e at ranged.small).1 }) in
        rw (steps, z, reply, e) (on, refl)

    step_open : Stepped
    step_open = go (ltb serial_most (last + 1)) (leb entries (length g)) refl refl
      where
        go : (t u : Bool) → ltb serial_most (last + 1) ≡ t → leb entries (length g) ≡ u → Stepped
        go true u p q =
            let above = ltb-true serial_most (last + 1) p in
            let full : leb (next_serial last) last ≡ true = le-leb (next_serial last) last (omega arith) in
            stays 5 (judged ∙ rw full refl) (refusal ∙ rw p refl)
        go false true p q =
            let below = ltb-false serial_most (last + 1) p in
            let new : leb (next_serial last) last ≡ false = lt-leb (next_serial last) last (omega arith) in
            stays 6 (judged ∙ rw (new, q) refl) (refusal ∙ rw (p, q) refl)
        go false false p q =
            let below = ltb-false serial_most (last + 1) p in
            let new : leb (next_serial last) last ≡ false = lt-leb (next_serial last) last (omega arith) in
            goes (min-eq_left (omega arith)) (judged ∙ rw (new, q) refl) (refusal ∙ rw (p, q) refl)

  -- a charge that joins is a value of its type
  typed_by : RunKept b.run s.run → (n : Noted) (ns : List Noted) → s.run.left ≡ n ∷ ns → step_refusal g s.run ≡ 0 → Typed (charge_in g s.run n)
  typed_by (over e k) n ns q r = absurd (omega (arith, ap (λ (x : List Noted). length x) (sym e ∙ q)))
  typed_by (goes_on m ms noted e k long place left ranged) n ns q r =
      let to = next noted s.run n ns place q long left in
      let serial : last_serial g s.run.node + 1 ≤ serial_most =
      tested (λ t. ◌≡◌ {A = ℕ} (cond t 6 (cond (leb entries (length g)) 7 0)) 0 → last_serial g s.run.node + 1 ≤ serial_most) (ltb serial_most (last_serial g s.run.node + 1))
      (λ p z. let six : ◌≡◌ {A = ℕ} 6 0 = z in absurd (omega arith)) (λ p z. ltb-false serial_most (last_serial g s.run.node + 1) p) (rw q at r) in
      omega (arith, serial, to.low, to.high, ranged.node_high, ranged.day)

  pub charge_typed : (n : Noted) (ns : List Noted) → s.run.left ≡ n ∷ ns → step_refusal g s.run ≡ 0 → Typed (charge_in g s.run n)
  charge_typed = typed_by w.run

  stepped_by : RunKept b.run s.run → Stepped
  unfolding step_by posting_reply_of
  stepped_by (over e k) =
      let there : is_open s.run ≡ false = rw e refl in
      rw (ap (λ r. step_by r b) k, there) (w, refl)
  stepped_by (goes_on n ns noted e k long passed left ranged) = step_open n ns noted e k long (next noted s.run n ns passed e long left) ranged

  pub step_same : KeptState (step_of b).book (stepped (step_refusal g s.run) s) × ((step_of b).reply ≡ step_reply s)
  step_same = stepped_by w.run

  -- A CLOSE
  closes : KeptState (without_run b) (state_with g no_run)
  unfolding without_run
  closes = record { history = kept_idle w.history; run = over refl refl }

  pub close_same : KeptState (close_run_of b).book (closed s) × ((close_run_of b).refusal ≡ close_refusal s.run)
  unfolding close_run_of
  close_same = rw (open_same w.run) (go (is_open s.run) refl)
    where
      go : (t : Bool) → is_open s.run ≡ t →
          KeptState (cond {A = RanReply} t (record { book = without_run b; refusal = 0 }) (record { book = b; refusal = 28 })).book (state_with g (cond t no_run s.run)) ×
          ((cond {A = RanReply} t (record { book = without_run b; refusal = 0 }) (record { book = b; refusal = 28 })).refusal ≡ cond t 0 28)
      go true e = (closes, refl)
      go false e = (w, refl)
