-- The documents' claims once more and in full, from demand 3's claim alone, for lists of calls on a fresh book and on a loaded one: no weaker statement, and
-- none with a part left out, proves them. What a run does, from its definitions, and what the figures' lists and images give of the book.
use mathlib.Core.Path.{◌≡◌, refl, sym, ap, subst, ◌∙◌}
use Prim.Native.Nat.{ℕ, zero, suc, ◌+◌, ◌-◌, ◌*◌, ◌/◌, min, ◌≤◌, ◌<◌}
use native.Mathlib.Omega.{arith}
use mathlib.Core.Bool.{true, cond, not, ◌&&◌, true≢false}
use mathlib.Core.List.{List, [], ◌∷◌, ◌++◌}
use lib.ListN.{length, take, drop}
use lib.Seq.{take_all, take_at, drop_at}
use lib.Dec.{eqb}
use borrow.Author.Tests.{leb-true, le-leb, lt-leb, le-ltb}
use Rattle.measures.specs.Cents.{most}
use Rattle.measures.specs.Rounding.{rounded}
use Rattle.calendar.specs.Dates.{date_of}
use Rattle.entries.specs.Kinds.{kind_of, same_of}
use Rattle.entries.specs.Ranges.{between}
use Rattle.entries.specs.declared.raw.Raw.{Raw}
use Rattle.entries.specs.declared.kinds.Kind.TheVariants as kind
use Rattle.book.specs.Fresh.{fresh_book}
use Rattle.book.specs.Posting.{account_at}
use Rattle.book.specs.declared.Book.{Book}
use Rattle.queries.specs.Chain.{chain_at, total_of}
use Rattle.queries.specs.Chain as chains
use Rattle.queries.specs.Statements.{statement_of}
use Rattle.years.specs.Years.{totals_of}
use Rattle.queries.specs.declared.statements.StatementReply.{StatementReply}
use Rattle.pages.specs.Rows.{page_rows, AllLines}
use Rattle.pages.specs.Pages.{page_of}
use Rattle.saves.specs.Saves.{image_of}
use Rattle.loads.specs.Loaded.{accepted_load}
use Rattle.loads.specs.Loads.{load_of}
use Rattle.history.specs.History.{History, accounts, entries, answers_along, last_serial, points, filter, fate, total, Amounts, amounts, added_up, entries_of, settled_by, paid_out_by, to_arrears, refunds_paid, customers, paid_by}
use Rattle.history.specs.Laws.{In, newest, older, AccountSums, sums_of, Refunds, Reduces, Once, Each, HasContribution}
use Rattle.history.specs.Years.{in_year, year_in}
use Rattle.history.specs.Queries.{statement_by, statement_in, entry_lines_in, page_text_in, page_in}
use Rattle.history.specs.Runs.{Noted, State}
use Rattle.history.specs.Agreement.{Kept, RunKept}
use Rattle.history.specs.Calls.{Call, posting, step, call_in, state_from, state_after, history_after, history_of}
use Rattle.history.specs.Claim.{call_of, book_after, answers_of, guarantee_held_of, Claim}
use Rattle.history.specs.Trips.{history_in}
use Rattle.history.specs.Witness.{calls, answers}
use Rattle.history.specs.RunFigures as counter
use Rattle.history.specs.YearFigures as years
use Rattle.history.specs.NoDayFigures as NoDay
use Rattle.history.proofs.Tests.{tested}
use Rattle.history.proofs.Queries.{statement_same}
use Rattle.history.proofs.Pages.{page_same, pages_formed}
use Rattle.history.proofs.Claim.{demand3}
use Rattle.history.proofs.Witness.{witnessed}
use Rattle.history.proofs.Trips.{trips, demand3_loaded}
use Rattle.history.proofs.RunFigures.{run_figures}
use Rattle.history.proofs.YearFigures.{year_figures}
use Rattle.history.proofs.NoDayFigures.{image_bytes, calls_typed, run_over, no_day_figures}

middle : (x : History) (e : Raw) (y : History) → In e (x ++ e ∷ y)
middle [] e y = newest refl
middle (r ∷ x) e y = older (middle x e y)

each_at : (P : Raw → History → Type 0) (x : History) (c : Raw) (g : History) → Each P (x ++ c ∷ g) → P c g
each_at P [] c g w = w.0
each_at P (r ∷ x) c g w = each_at P x c g w.1

-- an account's sums with a statement's figures
abbrev Balances : AccountSums → StatementReply → Type 0
Balances s t =
    s.contributions + t.payments + s.deposits + s.guarantees + s.interest + t.arrears
    ≡ t.bills + s.paid_out + s.retained + t.held + t.deposit + s.guarantee_held + t.credit

module _ {start : Book} {s : State} {cs : List Call} (claim : Claim start s cs) where
  abbrev h : History
  h = history_after s cs

  abbrev b : Book
  b = book_after start cs

  answered : answers_along call_of start cs ≡ answers_along call_in s cs
  answered = claim.answered

  kept : Kept b h
  kept = claim.kept

  -- and the history's run
  running : RunKept b.run (state_after s cs).run
  running = claim.run

  -- the sums, with the book's amounts
  conserved : (a : ℕ) → 1 ≤ a → a ≤ accounts →
      let x = sums_of h a in
      x.contributions + x.payments + x.deposits + x.guarantees + x.interest + (account_at b a).arrears.0
      ≡ x.bills + x.paid_out + x.retained + total_of chains.held_of (chain_at b a) + (account_at b a).deposit.0 + total_of guarantee_held_of (chain_at b a) + (account_at b a).credit.0
  conserved a l m =
      omega (arith, claim.lawful.conserved a, claim.arrears a l m, claim.credit a l m, claim.deposit a l m, claim.held a l m, claim.guarantee_held a l m)

  -- the totals that the book keeps of a calendar year, which every query of it gives, are those of the entries dated in it: bills with late
  -- charges and payments as they stand after the calls, what these entries paid out, and how many they are
  yearly : (year : ℕ) → let x = totals_of b.years year in let es = filter (λ (r : Raw). eqb (date_of r.day).year year) h in
      (x.bills.0 ≡ total (λ k e f. cond (same_of k kind.Bill) f.standing 0 + cond (same_of k kind.LateCharge) e.amount 0) h es) ×
      (x.payments.0 ≡ total (λ k e f. cond (same_of k kind.Payment) f.standing 0) h es) ×
      (x.paid_out.0 ≡ added_up (λ (a : Amounts). a.paid_out) (λ (r : Raw). eqb (date_of r.day).year year) h) × (x.entries ≡ length es)
  unfolding year_in in_year
  yearly year = rw (claim.years year) (refl, refl, refl, refl)

  -- and with those of every complete statement
  balanced : (a n : ℕ) → (statement_of b a n).complete ≡ true → Balances (sums_of h a) (statement_of b a n)
  unfolding statement_in
  balanced a n =
      rw (statement_same kept a n)
      (tested (λ u. let t = statement_by (cond (not u) 3 0) h a n in t.complete ≡ true → Balances (sums_of h a) t) (between a 1 accounts)
      (λ p e. rw (take_all n (entries_of h a) (leb-true _ _ e)) (claim.lawful.conserved a)) (λ p e. absurd (true≢false (sym e))))

  -- an accepted page is written over the buffer's first 5,346 bytes, and no other byte is touched
  paged : (a : ℕ) (buffer : List ℕ) → 1 ≤ a → a ≤ accounts → 5346 ≤ length buffer → let x = page_of b a buffer in
      (x.refusal ≡ 0) × (x.bytes ≡ 5346) × (take 5346 x.buffer ≡ page_text_in h a) × (drop 5346 x.buffer ≡ drop 5346 buffer)
  unfolding page_in between
  paged a buffer l m r =
      let long = pages_formed.bytes h kept.valid a m in
      rw (page_same kept a buffer, le-leb 1 a l, le-leb a accounts m, le-ltb (length buffer) 5346 r)
      (refl, refl, take_at (page_text_in h a) (drop 5346 buffer) 5346 long, drop_at (page_text_in h a) (drop 5346 buffer) 5346 long)

  -- each of its lines has 80 columns and a newline
  lined : (a : ℕ) → a ≤ accounts → AllLines (page_rows a (statement_in h a 0) (entry_lines_in h h a))
  lined = pages_formed.columns h kept.valid

  divided : (e : Raw) → In e h → kind_of e.kind ≡ kind.Contribution → e.amount ≡ to_arrears h e + refunds_paid h e + (fate h e).held + (fate h e).retained
  divided = claim.lawful.divided

  guaranteed : (e : Raw) → In e h → kind_of e.kind ≡ kind.Guarantee →
      e.amount ≡ settled_by kind.Reduction h e + paid_out_by kind.Reduction h e + (fate h e).held + (fate h e).retained
  guaranteed = claim.lawful.guaranteed

  counted : (e : Raw) → In e h → kind_of e.kind ≡ kind.Contribution → (fate h e).added ≡ customers h e
  counted e m k = omega (arith, claim.lawful.counted e m k)

  refunds : (x g : History) (c e : Raw) → h ≡ x ++ c ∷ g → In e g → kind_of c.kind ≡ kind.AddedCustomer → points c e ≡ true →
      (amounts g c).settled + (amounts g c).paid_out ≡ min (fate g e).held (e.amount * c.a / (e.a * (customers g e + 2)))
  refunds x g c e q m k p = omega (arith, each_at Refunds x c g (subst (λ y. Each Refunds y) q claim.lawful.refunds) e m k p)

  -- the payments of the 365 days that end on the reduction's, at their standing amounts
  reductions : (x g : History) (c e : Raw) → h ≡ x ++ c ∷ g → In e g → kind_of c.kind ≡ kind.Reduction → points c e ≡ true →
      (amounts g c).settled + (amounts g c).paid_out
      ≡ min (fate g e).held (total (λ k p f. cond (same_of k kind.Payment && between p.day (c.day + 1 - 365) c.day) f.standing 0) g (entries_of g c.account) / 10)
  reductions x g c e q m k p = each_at Reduces x c g (subst (λ y. Each Reduces y) q claim.lawful.reductions) e m k p

  one_open : (a : ℕ) → total (λ k e f. cond (same_of k kind.Guarantee && not f.closed) 1 0) h (entries_of h a) ≤ 1
  one_open = claim.lawful.one_open

  contributed : (x g : History) (c : Raw) → h ≡ x ++ c ∷ g → kind_of c.kind ≡ kind.AddedCustomer → (e : Raw) × In e g × (kind_of e.kind ≡ kind.Contribution) × (points c e ≡ true)
  contributed x g c q k =
      let w = each_at HasContribution x c g (subst (λ y. Each HasContribution y) q claim.lawful.contributed) k in
      (w.entry, w.member, w.contribution, w.aimed)

  -- the year, month and day of an added customer are before those of its contribution with five years more
  in_period : (c e : Raw) → In c h → In e h → kind_of c.kind ≡ kind.AddedCustomer → points c e ≡ true →
      let t = date_of c.day in
      let s = date_of e.day in
      10000 * t.year + 100 * t.month + t.day < 10000 * (s.year + 5) + 100 * s.month + s.day
  in_period c e m n k p = omega (arith, claim.lawful.in_period c e m n k p)

  once : (x y z : History) (c d : Raw) → h ≡ x ++ c ∷ (y ++ d ∷ z) → kind_of c.kind ≡ kind.Correction → kind_of d.kind ≡ kind.Correction →
      c.account ≡ d.account → c.named_node ≡ d.named_node → c.named_serial ≡ d.named_serial → ⊥
  once x y z c d q k l a n s =
      each_at Once x c (y ++ d ∷ z) (subst (λ g. Each Once g) q claim.lawful.once) d (middle y d z)
      (record { first = k; second = l; account = a; node = n; serial = s })

  -- a bill of zero days served that the history has after the calls was there before them
  no_day : (e : Raw) → In e h → kind_of e.kind ≡ kind.Bill → e.b ≡ 0 → In e s.entries
  no_day = claim.no_day

  -- no amount and no count comes near its limit
  unsaturated : (a : ℕ) → 1 ≤ a → a ≤ accounts → ((account_at b a).arrears.0 < most) × ((account_at b a).credit.0 < most) × ((account_at b a).deposit.0 < most)
  unsaturated a l m =
      let w = claim.bounded in
      omega (arith, w.arrears a, w.credit a, w.deposit a, claim.arrears a l m, claim.credit a l m, claim.deposit a l m)

  counted_payments : (c : Raw) → paid_by h c < most
  counted_payments c = omega (arith, claim.bounded.paid c)

  -- nor does a year's total
  small_years : (year : ℕ) → let x = totals_of b.years year in (x.bills.0 < most) × (x.payments.0 < most) × (x.paid_out.0 < most) × (x.entries < 65535)
  small_years year = rw (claim.years year) (let w = claim.bounded.years year in omega arith)

  counts : (e : Raw) → (b.count ≤ entries) × ((fate h e).added < 65535)
  counts e = omega (arith, claim.kept.agrees.counted, claim.bounded.room, claim.bounded.added e)

-- RUNS: what their definitions say, written out
module _ (s : State) where
  -- a posting leaves the run: a payment that comes in meanwhile lowers no noted arrears
  unmoved : (r : Raw) → (call_in s (posting r)).0.run ≡ s.run
  unfolding call_in
  unmoved r = refl

  -- a step that is not refused charges the account that comes next, and no other, on its noted arrears
  charges : (n : Noted) (ns : List Noted) → s.run.left ≡ n ∷ ns → last_serial s.entries s.run.node < 4294967295 → length s.entries < 1024 →
      let t = (call_in s step).0 in
      let charge : Raw =
      record {
        kind = 12;
        node = s.run.node;
        account = n.account;
        day = s.run.day;
        serial = last_serial s.entries s.run.node + 1;
        amount = min (rounded (n.arrears * s.run.rate) 10000) 100000000;
        named_serial = 0;
        a = 0;
        b = 0;
        named_node = 0;
      } in
      (t.entries ≡ charge ∷ s.entries) × (t.run.left ≡ ns)
  unfolding call_in
  charges n ns e serial room = rw (e, le-ltb 4294967295 (last_serial s.entries s.run.node + 1) (omega arith), lt-leb 1024 (length s.entries) room) (refl, refl)

-- EVERY LIST OF CALLS, on a fresh book and on one that was loaded
fresh_claim : (cs : List Call) → Claim fresh_book (state_from []) cs
fresh_claim = demand3

-- no call makes a bill of zero days served
every_bill_served : (cs : List Call) (e : Raw) → In e (history_of cs) → kind_of e.kind ≡ kind.Bill → 0 < e.b
every_bill_served cs e m k = go e.b refl
  where
    some : {h : History} → In e h → 0 < length h
    some (newest q) = omega arith
    some (older i) = omega arith

    go : (n : ℕ) → e.b ≡ n → 0 < n
    go zero z = absurd (omega (arith, some (no_day (fresh_claim cs) e m k z)))
    go (suc n) z = omega arith

loaded_claim : (l : List ℕ) → (load_of l).refusal ≡ 0 → (cs : List Call) → Claim (load_of l).book (state_from (history_in l)) cs
loaded_claim = demand3_loaded

-- FIGURES
-- the book's own answers to the witness's list
shown : answers_of calls ≡ answers
shown = answered (fresh_claim calls) ∙ witnessed.answered

-- to that of a run
run_shown : answers_of counter.calls ≡ counter.answers
run_shown = answered (fresh_claim counter.calls) ∙ run_figures.answered

-- to that of calendar years
year_shown : answers_of years.calls ≡ years.answers
year_shown = answered (fresh_claim years.calls) ∙ year_figures.answered

-- to that on the book of an image with bills of zero days served
no_day_shown : answers_along call_of (load_of NoDay.image).book NoDay.calls ≡ NoDay.answers
no_day_shown =
    answered (loaded_claim NoDay.image no_day_figures.loads NoDay.calls) ∙
    ap (λ (g : History). answers_along call_in (state_from g) NoDay.calls) no_day_figures.read ∙ no_day_figures.answered

-- that image saves as the same bytes, and the book after the calls loads from its own as the same book
no_day_saves : image_of (load_of NoDay.image).book ≡ NoDay.image
no_day_saves = trips.loaded_saves NoDay.image image_bytes no_day_figures.loads

no_day_loads : let b = book_after (load_of NoDay.image).book NoDay.calls in load_of (image_of b) ≡ accepted_load b
no_day_loads =
    let e = no_day_figures.loads in
    trips.loaded_on NoDay.image e NoDay.calls calls_typed ∙ ap accepted_load (trips.loaded_whole NoDay.image e NoDay.calls run_over)
