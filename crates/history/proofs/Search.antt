-- A walk along the book's chain goes through the account's entries, and a search along it finds what the history's finds.
use mathlib.Core.Path.{◌≡◌, refl, sym, ap, ◌∙◌}
use Prim.Native.Nat.{ℕ, ◌+◌, ◌-◌, ◌≤◌, ◌<◌}
use native.Mathlib.Omega.{arith}
use native.Mathlib.Nat.{add-zero, min-eq_left}
use mathlib.Core.Bool.{Bool, true, false, cond, ◌&&◌, ◌||◌}
use mathlib.Core.List.{List, [], ◌∷◌}
use lib.ListN.{length, get_or}
use lib.Dec.{eqb, leb, ltb}
use borrow.Author.Tests.{eqb-true, eqb-false, ne_eqb, le-ltb, ltb-true, ltb-false, leb-true, leb-false}
use Rattle.measures.specs.Cents.{cents, plus_of, most}
use Rattle.measures.specs.Days.{last_day}
use Rattle.entries.specs.Kinds.{kind_of, same_of, names_of}
use Rattle.entries.specs.Ranges.{between}
use Rattle.entries.specs.Data.{no_entry, entry_of, points_at}
use Rattle.entries.specs.declared.arrivals.Arrival.{Arrival}
use Rattle.entries.specs.declared.raw.Raw.{Raw}
use Rattle.entries.specs.declared.kinds.Kind.{Kind}
use Rattle.entries.specs.declared.kinds.Kind.TheVariants as kind
use Rattle.entries.specs.declared.data.Entry.{Entry}
use Rattle.entries.proofs.Ranges.{inside}
use Rattle.rules.specs.Windows.{paid_within}
use Rattle.rules.specs.Windows as windows
use Rattle.rules.specs.declared.accounts.Account.{Account}
use Rattle.book.specs.Serials.{last_of}
use Rattle.book.specs.Chain as chains
use Rattle.book.specs.declared.Found.{Found}
use Rattle.book.specs.declared.Found.TheVariants.{At, Nothing}
use Rattle.book.specs.Chain.{ends_of, link_of, start_of, walk_of, paid_over, sought_in}
use Rattle.book.specs.Posting.{account_at, lookup_of, paid_of}
use Rattle.book.specs.declared.Book.{Book}
use Rattle.book.proofs.ChainLaws.{place_link, walk_zero, walk_link}
use Rattle.history.specs.History.{History, accounts, entries, window_days, last_serial, naming, points, Target, absent, present, find, named, filter, entries_of, sum, paid_until, fate, total, paid_by, target_entry, target_fate, Balance, balance, refusals}
use Rattle.history.specs.Images.{newest_of}
use Rattle.history.specs.Agreement.{account_in, kept_entry, Placed, start, more, Agrees, kept_link, kept_walk}
use Rattle.history.specs.Laws.{Valid}
use Rattle.history.proofs.Accept.{fits}
use Rattle.history.proofs.Names.{hit}
use Rattle.history.proofs.Conserve.{total_filter}
use Rattle.history.proofs.Bound.{in_book, paid_small}
use Rattle.history.proofs.Tables.{Same, kept_read, rows, rows_from, own_same, missing_same, naming_same}

goes_on : (n : ℕ) → n < entries → ends_of (n + 1) ≡ false
unfolding ends_of
goes_on n l = simp (ne_eqb (n + 1) 0 (λ q. omega arith), le-ltb entries (n + 1) (omega arith))

place_at : (n : ℕ) → n < entries → chains.place_of (n + 1) ≡ n
place_at n l = let p = place_link (n + 1) (goes_on n l) in omega arith

-- the walk along an account's chain goes through its entries
module _ (all : History) (es : List Entry) (a : ℕ) where
  walk_step : (r : Raw) (h : History) (f : ℕ) → length h < entries → get_or es (length h) no_entry ≡ kept_entry all h r →
      ((g : ℕ) → length h ≤ g → walk_of es g (newest_of h a) ≡ kept_walk all h a) → length h < f → (t : Bool) → eqb r.account a ≡ t →
      walk_of es f (cond t (length h + 1) (newest_of h a)) ≡ cond t (kept_link all h r ∷ kept_walk all h a) (kept_walk all h a)
  unfolding entry_of
  walk_step r h f m e ih l true p =
      rw (walk_link es {fuel = f} (length h + 1) (omega arith) (goes_on (length h) m), place_at (length h) m, e, eqb-true r.account a p, ih (f - 1) (omega arith)) refl
  walk_step r h f m e ih l false p = ih f (omega arith)

  pub walk : {h : History} → Placed all es h → length h ≤ entries → (f : ℕ) → length h ≤ f → walk_of es f (newest_of h a) ≡ kept_walk all h a
  unfolding newest_of kept_walk
  walk start m f l = walk_zero es f
  walk (more {e = r} {h} e rs) m f l =
      walk_step r h f (omega arith) e (λ g q. walk rs (omega arith) g q) (omega arith) (eqb r.account a) refl

-- what a search of the book and the history's end in
pub data Finds (all : History) : Found → Target → Type 0 where
  neither : Finds all Nothing absent
  both : (g : History) {i : ℕ} {e : Raw} → Finds all (At (link_of i (kept_entry all g e))) (present i e)

pub finds : (all h : History) (c : Raw) → Finds all (sought_in (points_at c) (kept_walk all h c.account)) (find h c)
unfolding sought_in kept_walk find points entry_of
finds all [] c = neither
finds all (r ∷ h) c = go (finds all h c) (eqb r.account c.account) (eqb r.node c.named_node && eqb r.serial c.named_serial) refl
  where
    go : Finds all (sought_in (points_at c) (kept_walk all h c.account)) (find h c) → (t u : Bool) →
        (eqb r.node c.named_node && eqb r.serial c.named_serial) ≡ u →
        Finds all (sought_in (points_at c) (cond t (kept_link all h r ∷ kept_walk all h c.account) (kept_walk all h c.account)))
        (cond (t && u) (present (length h) r) (find h c))
    go ih true true e = rw e (both h)
    go ih true false e = rw e ih
    go ih false u e = ih

pub found_at : {all : History} {x : Found} {s : Target} → Finds all x s → (i : ℕ) (e : Raw) → s ≡ present i e →
    (g : History) × (x ≡ At (link_of i (kept_entry all g e)))
found_at neither i e q = let z : ◌≡◌ {A = ℕ} 0 1 = cc in absurd (omega arith)
found_at (both g) i e q = (g, (cc))

-- the two windows are one
window_same : (x d : ℕ) → windows.in_window x d ≡ between x (d + 1 - window_days) d
unfolding between
window_same x d = go (leb x d) (ltb d (x + window_days)) refl (leb first x) refl
  where
    first : ℕ
    first = d + 1 - window_days

    go : (t u : Bool) → ltb d (x + window_days) ≡ u → (w : Bool) → leb first x ≡ w → (t && u) ≡ (w && t)
    go true true p true q = refl
    go true true p false q = absurd (omega (arith, ltb-true d (x + window_days) p, leb-false first x q))
    go true false p true q = absurd (omega (arith, ltb-false d (x + window_days) p, leb-true first x q))
    go true false p false q = refl
    go false u p true q = refl
    go false u p false q = refl

-- the payments that a reduction counts, along the account's chain
module _ (all : History) (d a : ℕ) where
  within_same : (h : History) (e : Raw) → paid_within (kept_entry all h e) d ≡ cents (paid_until d (kind_of e.kind) e (fate all e))
  unfolding paid_within entry_of
  within_same h e =
      rw ((kept_read (kind_of e.kind) e (fate all e) _ _).0, window_same e.day d)
      (go (same_of (kind_of e.kind) kind.Bill) (same_of (kind_of e.kind) kind.Payment) (between e.day (d + 1 - window_days) d) (fate all e).standing _)
    where
      go : (s t u : Bool) (n m : ℕ) → cond (t && u) (cents (cond (s || t) n m)) (cents 0) ≡ cents (cond (t && u) n 0)
      go true true true n m = refl
      go false true true n m = refl
      go s true false n m = refl
      go s false u n m = refl

  paid_over_lem : (h : History) (x : ℕ) → x + total (paid_until d) all (entries_of h a) ≤ most →
      paid_over d (cents x) (kept_walk all h a) ≡ cents (x + total (paid_until d) all (entries_of h a))
  unfolding paid_over kept_walk sum filter
  paid_over_lem [] x l = rw (add-zero x) refl
  paid_over_lem (e ∷ h) x l = go (λ y m. paid_over_lem h y m) (eqb e.account a) (rw total_filter at l)
    where
      v : ℕ
      v = paid_until d (kind_of e.kind) e (fate all e)

      go : ((y : ℕ) → y + total (paid_until d) all (entries_of h a) ≤ most → paid_over d (cents y) (kept_walk all h a) ≡ cents (y + total (paid_until d) all (entries_of h a))) →
          (t : Bool) → x + (cond t v 0 + total (paid_until d) all (entries_of h a)) ≤ most →
          paid_over d (cents x) (cond t (kept_link all h e ∷ kept_walk all h a) (kept_walk all h a)) ≡ cents (x + total (paid_until d) all (cond t (e ∷ entries_of h a) (entries_of h a)))
      go ih true l =
          let more : plus_of (cents x) (paid_within (kept_entry all h e) d) ≡ cents (x + v) = rw (within_same h e) (ap cents (min-eq_left (omega arith))) in
          ap (λ s. paid_over d s (kept_walk all h a)) more ∙ ih (x + v) (omega arith) ∙ ap cents (omega arith)
      go ih false l = ih x (omega arith)

module _ {b : Book} {h : History} (w : Agrees b h) (v : Valid h) where
  pub paid_same : (r : Raw) → between r.account 1 accounts ≡ true →
      paid_of b r ≡ cents (cond (same_of (kind_of r.kind) kind.Reduction) (paid_by h r) 0)
  unfolding paid_of
  paid_same r t = go (same_of (kind_of r.kind) kind.Reduction)
    where
      over : paid_over r.day (cents 0) (walk_of b.entries entries (account_at b r.account).newest) ≡ cents (paid_by h r)
      over =
          let i = inside r.account 1 accounts t in
          rw (w.account r.account i.0 i.1, walk h b.entries r.account w.rows (fits v) entries (fits v))
          (paid_over_lem h r.day r.account h 0 (omega (arith, paid_small v r, fits v)) ∙ ap cents (omega arith))

      go : (u : Bool) → cond u (paid_over r.day (cents 0) (walk_of b.entries entries (account_at b r.account).newest)) (cents 0) ≡ cents (cond u (paid_by h r) 0)
      go true = over
      go false = refl

  pub lookup_same : (r : Raw) → between r.account 1 accounts ≡ true → Finds h (lookup_of b r) (named h r)
  unfolding lookup_of named start_of sought_in
  lookup_same r t =
      let i = inside r.account 1 accounts t in
      rw (w.account r.account i.0 i.1)
      (go (naming (kind_of r.kind)))
    where
      go : (t : Bool) → Finds h (sought_in (points_at r) (walk_of b.entries entries (cond t (newest_of h r.account) 0))) (cond t (find h r) absent)
      go true = rw (walk h b.entries r.account w.rows (fits v) entries (fits v)) (finds h h r)
      go false = rw (walk_zero b.entries entries) neither

  -- what is left of the book's table after 1 to 7, 30 and 27 is what is left of the history's
  pub state_same : (way : Arrival) (r : Raw) → between r.account 1 accounts ≡ true → r.day ≤ last_day → let k = kind_of r.kind in
      Same (rows r k (account_at b r.account) (names_of k) (lookup_of b r))
      (rows_from 8 (refusals way h r k (target_entry (named h r)) (target_fate h (named h r)) (balance h r.account)))
  unfolding named
  state_same way r t d =
      let i = inside r.account 1 accounts t in
      rw (w.account r.account i.0 i.1) (go (naming k) refl (find h r) refl (lookup_same r t))
    where
      k : Kind
      k = kind_of r.kind

      bal : Balance
      bal = balance h r.account

      acc : Account
      acc = account_in h r.account

      go : (n : Bool) → naming k ≡ n → (s : Target) → find h r ≡ s → {x : Found} → Finds h x (cond n s absent) →
          Same (rows r k acc n x) (rows_from 8 (refusals way h r k (target_entry (cond n s absent)) (target_fate h (cond n s absent)) bal))
      go false n s q f = own_same way h r k bal (newest_of h r.account) n
      go true n absent q neither = missing_same way h r k bal acc n
      go true n (present i e) q (both g) = naming_same way h r k bal acc i g e n (in_book v e (hit v r i e q).member) d

  pub last_same : (r : Raw) → between r.node 1 2 ≡ true → last_of b.last r.node ≡ last_serial h r.node
  unfolding last_of
  last_same r t = go (eqb r.node 1) refl
    where
      go : (u : Bool) → eqb r.node 1 ≡ u → cond u b.last.node_1 b.last.node_2 ≡ last_serial h r.node
      go true e = w.last_1 ∙ ap (λ n. last_serial h n) (sym (eqb-true r.node 1 e))
      go false e =
          let i = inside r.node 1 2 t in
          let other = eqb-false r.node 1 e in
          let two : 2 ≡ r.node = omega arith in
          w.last_2 ∙ ap (λ n. last_serial h n) two
