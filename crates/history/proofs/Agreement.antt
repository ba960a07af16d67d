-- A book and a history agree from the fresh book on, entry by entry.
use mathlib.Core.Path.{◌≡◌, refl, sym, ap, ◌∙◌, subst}
use Prim.Native.Nat.{ℕ, zero, suc, ◌+◌, ◌≤◌, ◌<◌}
use native.Mathlib.Omega.{arith}
use mathlib.Core.Bool.{Bool, true, false, cond, and-true}
use mathlib.Core.List.{List, [], ◌∷◌, ◌++◌}
use lib.ListN.{length, get_or, set, replicate, length-set, length-replicate, get_or-replicate}
use lib.Seq.{get_or-set_same, get_or-set_other}
use lib.Dec.{eqb}
use borrow.Author.Tests.{eqb-true, eqb-false, eq-eqb, le-leb}
use Rattle.entries.specs.Kinds.{kind_of, same_of, names_of}
use Rattle.entries.specs.Ranges.{between}
use Rattle.entries.specs.Refusals as checks
use Rattle.entries.specs.Refusals.{refusal_number, Check, check_number, decided_of}
use Rattle.entries.specs.Data.{no_entry, entry_of, with_of, points_at}
use Rattle.entries.specs.declared.arrivals.Arrival.{Arrival}
use Rattle.entries.specs.declared.raw.Raw.{Raw}
use Rattle.entries.specs.declared.kinds.Kind.{Kind}
use Rattle.entries.specs.declared.kinds.Kind.TheVariants as kind
use Rattle.entries.specs.declared.data.Entry.{Entry}
use Rattle.entries.specs.declared.refusals.Refusal.{Refusal}
use Rattle.std.specs.Prelude.{Option, None, Some, Ok, Err}
use Rattle.rules.specs.Accounts.{no_account, with_newest_of}
use Rattle.rules.specs.Answers.{posting_reply_of}
use Rattle.changes.specs.Changes.{Decision}
use Rattle.rules.specs.declared.accounts.Account.{Account}
use Rattle.changes.specs.declared.Link.{Link}
use Rattle.changes.specs.declared.Change.{Change}
use Rattle.book.specs.Fresh.{fresh_book}
use Rattle.book.specs.Serials.{last_of, after_of}
use Rattle.book.specs.Chain.{slot_of, link_of}
use Rattle.book.specs.declared.Found.TheVariants.{At}
use Rattle.book.proofs.ChainLaws.{found_entry}
use Rattle.book.specs.Refusals.{entry_rows}
use Rattle.book.specs.Posting.{account_at, lookup_of, paid_of, entries_rewritten, years_restated, years_of, stored_of, decided_book, decision_of, answer_of, enter_of}
use Rattle.book.specs.declared.Book.{Book}
use Rattle.book.specs.declared.Serials.{Serials}
use Rattle.queries.specs.Chain.{walk_at}
use Rattle.years.specs.Years.{years_most, no_year, posted_to, restated_to}
use Rattle.years.specs.declared.Years.{Years}
use Rattle.entries.proofs.RefusalsLaws.{refusal_above}
use Rattle.history.specs.History.{History, accounts, entries, last_serial, naming, Target, absent, present, find, named, filter, sum, posted_fate, fate_after, fate, paid_by, guarantee_open, target_entry, target_fate, Balance, move_of, moved, move_by, balance, Amounts, amounts_by, amounts, judge_by, judge, joined, offer, replied_by, replied_of, added_up, to_arrears, refunds_paid}
use Rattle.history.specs.Laws.{Valid, empty, joins}
use Rattle.history.specs.Years.{year_in}
use Rattle.history.specs.Images.{newest_of}
use Rattle.history.specs.Agreement.{kept_account, account_in, kept_data, data_in, kept_entry, kept_walk, Placed, start, more, YearsKept, Agrees, Kept, Agreement}
use Rattle.history.proofs.Accept.{accepts, recorded, fits, named_none, Role, alone, upon, role, named_at_lem, move_upon}
use Rattle.history.proofs.Names.{hit, fate_new, given_new, misses_kind, hits, names_points, fate_hit}
use Rattle.history.proofs.Conserve.{divide}
use Rattle.history.proofs.Open.{open_after, open_own, open_other}
use Rattle.history.proofs.Bound.{in_ranges, added_small, standing_small, bounded}
use Rattle.history.proofs.Tables.{rows, effect, one_table, check_same}
use Rattle.history.proofs.Search.{walk, found_at, lookup_same, paid_same, state_same, last_same}
use Rattle.history.proofs.Effects.{change_by, own_effect, naming_effect}
use Rattle.history.proofs.Stored.{slot_at, rows_past, rows_miss, rows_hit}
use Rattle.history.proofs.Years.{years_alone, years_upon}

-- THE REFUSAL
module _ (way : Arrival) {b : Book} {h : History} (w : Agrees b h) (v : Valid h) (r : Raw) where
  abbrev k : Kind
  k = kind_of r.kind

  abbrev table : List checks.Row
  table = entry_rows r k way b.count (last_of b.last r.node) ++ rows r k (account_at b r.account) (names_of k) (lookup_of b r)

  pub refusal_same : check_number (checks.check_rows table) ≡ judge_by way h r
  unfolding judge_by
  refusal_same =
      check_same way h r k b.count (last_of b.last r.node) (rows r k (account_at b r.account) (names_of k) (lookup_of b r))
      (target_entry (named h r)) (target_fate h (named h r)) (balance h r.account)
      w.counted
      (λ t. last_same w v r t)
      (λ t d. state_same w v way r t d)

decided_passed : (c : Check) (o : Decision) → check_number c ≡ 0 → decided_of c Err o ≡ o
unfolding decided_of check_number
decided_passed (Ok x) o e = refl
decided_passed (Err n) o e = absurd (omega (arith, refusal_above n))

decided_refused : (c : Check) (o : Decision) (n : ℕ) → check_number c ≡ suc n → (m : Refusal) × (decided_of c Err o ≡ Err m) × (refusal_number m ≡ suc n)
unfolding decided_of check_number
decided_refused (Ok x) o n e = absurd (omega arith)
decided_refused (Err m) o n e = (m, refl, e)

module _ {b : Book} {h : History} (w : Agrees b h) (v : Valid h) (r : Raw) where
  abbrev does : Decision
  does = effect r (kind_of r.kind) (account_at b r.account) (paid_of b r) (names_of (kind_of r.kind)) (lookup_of b r)

  whole : (way : Arrival) → decision_of way b r ≡ decided_of (checks.check_rows (table way w v r)) Err does
  unfolding decision_of
  whole way = one_table r way b.count (last_of b.last r.node) (account_at b r.account) (lookup_of b r) (paid_of b r)

  decision_refused : (way : Arrival) (n : ℕ) → judge_by way h r ≡ suc n → (m : Refusal) × (decision_of way b r ≡ Err m) × (refusal_number m ≡ suc n)
  decision_refused way n j = let d = decided_refused _ does n (refusal_same way w v r ∙ j) in (d.0, whole way ∙ d.1, d.2)

  decision_accepted : (way : Arrival) → judge_by way h r ≡ 0 → decision_of way b r ≡ does
  decision_accepted way j = whole way ∙ decided_passed _ does (refusal_same way w v r ∙ j)

-- THE EFFECT OF AN ACCEPTED ENTRY
-- the named entry after it
abbrev new_named : Book → History → Raw → Target → Option Link
new_named b h r absent = None
new_named b h r (present i e) = Some (link_of i (with_of (get_or b.entries i no_entry) (data_in (r ∷ h) e)))

module _ {b : Book} {h : History} (w : Agrees b h) (v : Valid h) (r : Raw) (j : judge h r ≡ 0) where
  abbrev bal : Balance
  bal = balance h r.account

  abbrev last : ℕ
  last = newest_of h r.account

  known : between r.account 1 accounts ≡ true
  unfolding between
  known = let p = accepts h r j in rw (le-leb 1 r.account p.account_low, le-leb r.account accounts p.account_high) refl

  account_at_lem : account_at b r.account ≡ account_in h r.account
  account_at_lem = let p = accepts h r j in w.account r.account p.account_low p.account_high

  -- the entry that it names, as the book keeps it
  lookup_at : naming (kind_of r.kind) ≡ true → (i : ℕ) (e : Raw) → find h r ≡ present i e → (g : History) × (lookup_of b r ≡ At (link_of i (kept_entry h g e)))
  lookup_at k i e f = found_at (lookup_same w v r known) i e (named_at_lem h r k i e f)

  entry_at : (n : naming (kind_of r.kind) ≡ true) (i : ℕ) (e : Raw) (f : find h r ≡ present i e) → kept_entry h (lookup_at n i e f).0 e ≡ get_or b.entries i no_entry
  unfolding lookup_of
  entry_at n i e f = found_entry b.entries (points_at r) entries _ (lookup_at n i e f).1

  data_new : data_in (r ∷ h) r ≡ kept_data (kind_of r.kind) r (posted_fate r) 0 0
  data_new = rw (fate_new v r j, given_new kind.AddedCustomer refl (λ (y : Amounts). y.settled) r v j, given_new kind.AddedCustomer refl (λ (y : Amounts). y.paid_out) r v j) refl

  -- and after it
  data_after : naming (kind_of r.kind) ≡ true → (i : ℕ) (e : Raw) → find h r ≡ present i e →
      let k = kind_of r.kind in
      let x = amounts_by (move_of k (kind_of e.kind) r bal e (paid_by h r) (fate h e)) bal in
      let t = same_of k kind.AddedCustomer in
      data_in (r ∷ h) e ≡ kept_data (kind_of e.kind) e (fate_after k r e (paid_by h r) (fate h e)) (cond t x.settled 0 + to_arrears h e) (cond t x.paid_out 0 + refunds_paid h e)
  unfolding added_up amounts
  data_after n i e f =
      let p = (hit v r i e f).aimed in
      rw (fate_hit r h e (names_points r e n p), p, and-true (same_of (kind_of r.kind) kind.AddedCustomer), move_upon h r bal n i e f) refl

  -- whether a guarantee is open then
  abbrev opened : Bool
  opened = open_after (kind_of r.kind) (guarantee_open h r.account)

  abbrev the_change : Change
  the_change = change_by (move_by h r bal) bal opened last (data_in (r ∷ h) r) (new_named b h r (named h r))

  effect_by : Role h r → does w v r ≡ Ok the_change
  unfolding entry_of with_of move_by
  effect_by (alone n) =
      let p = accepts h r j in
      rw (account_at_lem, named_none h r n, n, data_new)
      (ap Ok (own_effect r bal (guarantee_open h r.account) last (length h) (bounded v r.account) p.room _ _ _ _ (kind_of r.kind) n p.kind_known p.ranges p.day))
  effect_by (upon n i e f s) =
      let p = accepts h r j in
      let member = (hit v r i e f).member in
      let old = in_ranges v e member in
      rw (account_at_lem, n, (lookup_at n i e f).1, named_at_lem h r n i e f, ← entry_at n i e f, data_new, data_after n i e f, paid_same w v r known)
      (ap Ok (naming_effect r bal (guarantee_open h r.account) last (length h) (bounded v r.account) p.room e (paid_by h r) (fate h e) i (to_arrears h e) (refunds_paid h e) (kept_entry h (lookup_at n i e f).0 e) (kind_of r.kind) (kind_of e.kind) n s old.amount
      p.ranges.amount p.ranges.a (omega (arith, added_small h e, p.room)) (standing_small v e old) (λ c. omega (arith, rw c at (divide v e member).0, old.amount))))

  pub decision : (way : Arrival) → judge_by way h r ≡ 0 → decision_of way b r ≡ Ok the_change
  decision way e = decision_accepted w v r way e ∙ effect_by (role h r j)

  -- the entries of the next book
  abbrev es₁ : List Entry
  es₁ = set b.entries (length h) (kept_entry (r ∷ h) h r)

  room : length h < length b.entries
  room = omega (arith, (accepts h r j).room, w.entries_long)

  abbrev es₂ : List Entry
  es₂ = entries_rewritten (new_named b h r (named h r)) es₁

  rows_stored : Role h r → Placed (r ∷ h) es₂ (r ∷ h)
  rows_stored (alone k) =
      rw (named_none h r k)
      (more (get_or-set_same b.entries (length h) (kept_entry (r ∷ h) h r) no_entry room)
      (rows_past (rows_miss (misses_kind r k h) w.rows) (length h) (kept_entry (r ∷ h) h r) (omega arith)))
  rows_stored (upon k i e f s) =
      let inside = (hit v r i e f).inside in
      let apart : i ≡ length h → ⊥ = λ q. omega arith in
      let apart' : length h ≡ i → ⊥ = λ q. omega arith in
      let long : i < length es₁ = rw length-set (omega (arith, room)) in
      let same : get_or b.entries i no_entry ≡ get_or es₁ i no_entry = sym (get_or-set_other b.entries (length h) i (kept_entry (r ∷ h) h r) no_entry apart) in
      rw (named_at_lem h r k i e f, same)
      (more
      (get_or-set_other es₁ i (length h) (with_of (get_or es₁ i no_entry) (data_in (r ∷ h) e)) no_entry apart' ∙
      get_or-set_same b.entries (length h) (kept_entry (r ∷ h) h r) no_entry room)
      (rows_hit r h es₁ i e long (hits v r i e k f) (rows_past w.rows (length h) (kept_entry (r ∷ h) h r) (omega arith))))

  unused_stored : Role h r → (n : ℕ) → length h + 1 ≤ n → get_or es₂ n no_entry ≡ no_entry
  unused_stored o n l = go o
    where
      before : get_or es₁ n no_entry ≡ no_entry
      before = get_or-set_other b.entries (length h) n (kept_entry (r ∷ h) h r) no_entry (λ q. omega arith) ∙ w.unused n (omega arith)

      go : Role h r → get_or es₂ n no_entry ≡ no_entry
      go (alone k) = rw (named_none h r k) before
      go (upon k i e f s) =
          let inside = (hit v r i e f).inside in
          rw (named_at_lem h r k i e f) (get_or-set_other es₁ i n (with_of (get_or b.entries i no_entry) (data_in (r ∷ h) e)) no_entry (λ q. omega arith) ∙ before)

  abbrev next : Book
  next = stored_of b r the_change

  entries_after : next.entries ≡ es₂
  unfolding stored_of
  entries_after = rw (account_at_lem, w.counted) refl

  long_rewritten : (l : Option Link) (es : List Entry) → length (entries_rewritten l es) ≡ length es
  long_rewritten None es = refl
  long_rewritten (Some l) es = length-set es l.place l.entry

  -- its accounts
  account_new : kept_account (moved (move_by h r bal) bal) opened (length h + 1) ≡ account_in (r ∷ h) r.account
  unfolding balance newest_of
  account_new = rw (open_own v r j, eq-eqb r.account r.account refl) refl

  account_else : (a : ℕ) → eqb r.account a ≡ false → account_in (r ∷ h) a ≡ account_in h a
  unfolding balance newest_of
  account_else a e = rw (open_other v r j a e, e) refl

  account_after : (a : ℕ) → 1 ≤ a → a ≤ accounts → account_at next a ≡ account_in (r ∷ h) a
  unfolding stored_of with_newest_of
  account_after a l m = rw w.counted (go (eqb r.account a) refl)
    where
      new : Account
      new = kept_account (moved (move_by h r bal) bal) opened (length h + 1)

      go : (t : Bool) → eqb r.account a ≡ t → get_or (set b.accounts (slot_of r.account) new) (slot_of a) no_account ≡ account_in (r ∷ h) a
      go true e =
          let p = accepts h r j in
          let own : slot_of r.account < length b.accounts = omega (arith, slot_at r.account p.account_low p.account_high, p.account_low, p.account_high, w.accounts_long) in
          subst (λ (n : ℕ). get_or (set b.accounts (slot_of r.account) new) (slot_of n) no_account ≡ account_in (r ∷ h) n)
          (eqb-true r.account a e) (get_or-set_same b.accounts (slot_of r.account) new no_account own ∙ account_new)
      go false e =
          let p = accepts h r j in
          let other = eqb-false r.account a e in
          let apart : slot_of a ≡ slot_of r.account → ⊥ =
          λ q. other (omega (arith, slot_at r.account p.account_low p.account_high, slot_at a l m, p.account_low)) in
          get_or-set_other b.accounts (slot_of r.account) (slot_of a) new no_account apart ∙ w.account a l m ∙ sym (account_else a e)

  -- its years
  years_stored : Role h r → YearsKept next.years.0 (year_in (r ∷ h))
  unfolding stored_of years_of posted_to restated_to amounts entry_of with_of
  years_stored (alone n) = rw (named_none h r n) (years_alone v r j b.years.0 w.years_long w.years n)
  years_stored (upon n i e f s) =
      rw (named_at_lem h r n i e f, ← entry_at n i e f) (years_upon v r j b.years.0 w.years_long w.years n i e f)

  long_restated : (es : List Entry) (named : Option Link) (years : Years) → length (years_restated es named years).0 ≡ length years.0
  unfolding restated_to
  long_restated es None years = refl
  long_restated es (Some l) years = length-set years.0 _ _

  -- its last serials
  last_1_after : (t : Bool) → (cond {A = Serials} t (record { node_1 = r.serial; node_2 = b.last.node_2 }) (record { node_1 = b.last.node_1; node_2 = r.serial })).node_1 ≡
      cond t r.serial (last_serial h 1)
  last_1_after true = refl
  last_1_after false = w.last_1

  last_2_after : (t : Bool) → eqb r.node 1 ≡ t → (u : Bool) → eqb r.node 2 ≡ u →
      (cond {A = Serials} t (record { node_1 = r.serial; node_2 = b.last.node_2 }) (record { node_1 = b.last.node_1; node_2 = r.serial })).node_2 ≡
      cond u r.serial (last_serial h 2)
  last_2_after true p true q = absurd (omega (arith, eqb-true r.node 1 p, eqb-true r.node 2 q))
  last_2_after true p false q = w.last_2
  last_2_after false p true q = refl
  last_2_after false p false q =
      let one = eqb-false r.node 1 p in
      let two = eqb-false r.node 2 q in
      absurd (omega (arith, (accepts h r j).node_low, (accepts h r j).node_high))

  pub agree_step : Agrees next (r ∷ h)
  unfolding stored_of years_of posted_to after_of last_serial
  agree_step =
      record {
        accounts_long = rw length-set w.accounts_long;
        entries_long = rw (long_rewritten, length-set) w.entries_long;
        counted = omega (arith, w.counted);
        last_1 = last_1_after (eqb r.node 1);
        last_2 = last_2_after (eqb r.node 1) refl (eqb r.node 2) refl;
        account = account_after;
        rows = rw entries_after (rows_stored (role h r j));
        unused = λ n l. rw entries_after (unused_stored (role h r j) n (omega arith));
        years_long = rw (long_restated, length-set) w.years_long;
        years = years_stored (role h r j);
      }

-- THE AGREEMENT
no_entry_lem : (n i : ℕ) → get_or (replicate n no_entry) i no_entry ≡ no_entry
no_entry_lem zero i = refl
no_entry_lem (suc n) zero = refl
no_entry_lem (suc n) (suc i) = no_entry_lem n i

fresh_agrees : Agrees fresh_book []
unfolding fresh_book newest_of balance last_serial sum filter year_in added_up
fresh_agrees =
    record {
      accounts_long = length-replicate accounts no_account;
      entries_long = length-replicate entries no_entry;
      counted = refl;
      last_1 = refl;
      last_2 = refl;
      account = λ a l m. get_or-replicate accounts (slot_of a) no_account no_account (omega (arith, slot_at a l m));
      rows = start;
      unused = λ i l. no_entry_lem entries i;
      years_long = length-replicate years_most no_year;
      years = λ y l. get_or-replicate years_most y no_year no_year l;
    }

module _ (way : Arrival) (b : Book) (h : History) (w : Kept b h) (r : Raw) where
  replied : (enter_of way b r).reply ≡ replied_of way h r
  unfolding enter_of replied_of posting_reply_of answer_of amounts
  replied = go (judge_by way h r) refl
    where
      go : (n : ℕ) → judge_by way h r ≡ n → posting_reply_of (answer_of (decision_of way b r) (b.count + 1)) ≡ replied_by n (length h + 1) (amounts h r)
      go zero j = rw (decision w.agrees w.valid r (recorded way h r j) way j, w.agrees.counted) refl
      go (suc n) j = let m = decision_refused w.agrees w.valid r way n j in rw (m.1, m.2) refl

  enters : Kept (enter_of way b r).book (offer way h r)
  unfolding enter_of offer decided_book
  enters = go (judge_by way h r) refl
    where
      go : (n : ℕ) → judge_by way h r ≡ n → Kept (decided_book b r (decision_of way b r)) (joined n r h)
      go zero j =
          let k = recorded way h r j in
          rw (decision w.agrees w.valid r k way j) (record { agrees = agree_step w.agrees w.valid r k; valid = joins w.valid k })
      go (suc n) j = rw (decision_refused w.agrees w.valid r way n j).1 w

chain : (b : Book) (h : History) → Kept b h → (a : ℕ) → 1 ≤ a → a ≤ accounts → walk_at b a ≡ kept_walk h h a
chain b h w a l m = rw (w.agrees.account a l m) (walk h b.entries a w.agrees.rows (fits w.valid) entries (fits w.valid))

pub agreement : Agreement
agreement = record { fresh = record { agrees = fresh_agrees; valid = empty }; replied = replied; entered = enters; chain = chain }
