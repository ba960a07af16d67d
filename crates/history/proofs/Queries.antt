-- A statement, a contribution query and the totals of a year give what the history has.
use mathlib.Core.Path.{◌≡◌, refl, sym, ap, ◌∙◌}
use Prim.Native.Nat.{ℕ, zero, suc, ◌+◌, ◌-◌, min, ◌≤◌}
use native.Mathlib.Omega.{arith}
use native.Mathlib.Nat.{min-eq_left}
use mathlib.Core.Bool.{Bool, true, false, cond, not}
use mathlib.Core.List.{List, [], ◌∷◌}
use lib.ListN.{length, get_or, take}
use lib.Dec.{eqb}
use Rattle.measures.specs.Cents.{most}
use Rattle.entries.specs.Kinds.{kind_of, same_of, counts_with_bills}
use Rattle.entries.specs.Ranges.{between}
use Rattle.std.specs.Prelude.{Ok, Err}
use Rattle.entries.specs.Refusals.{decided_of}
use Rattle.entries.specs.Data.{entry_of, case_of, name_of, carries}
use Rattle.entries.specs.declared.raw.Raw.{Raw}
use Rattle.entries.specs.declared.kinds.Kind.TheVariants as kind
use Rattle.entries.specs.declared.data.Entry.{Entry}
use Rattle.entries.specs.declared.data.Particulars.{Particulars}
use Rattle.entries.specs.declared.refusals.Refusal.TheVariants as no
use Rattle.entries.proofs.Ranges.{inside}
use Rattle.book.specs.declared.Found.{Found}
use Rattle.book.specs.Chain.{sought_in}
use Rattle.book.specs.Posting.{account_at}
use Rattle.book.specs.declared.Book.{Book}
use Rattle.years.specs.Years.{no_year, totals_of}
use Rattle.queries.specs.Chain.{walk_at, entries_in, chain_at, total_of, standing_of, is_payment}
use Rattle.queries.specs.Chain as chains
use Rattle.queries.specs.Statements.{statement_reply_of, given_of, statement_of}
use Rattle.queries.specs.Contributions.{contribution_reply_of, contribution_figures_of, contribution_query_of, known_of}
use Rattle.history.specs.History.{History, accounts, Target, find, fate, target_entry, pointer_to, filter, on_account, entries_of, Reading, sum, total, standing_amount, billed_amount, held_amount, to_arrears, refunds_paid}
use Rattle.history.specs.Years.{year_in}
use Rattle.history.specs.Agreement.{kept_entry, Kept, kept_link, kept_walk}
use Rattle.history.specs.Queries.{statement_by, statement_in, contribution_by, contribution_in}
use Rattle.history.proofs.Tests.{tested}
use Rattle.history.proofs.Accept.{FieldsInRange, fits}
use Rattle.history.proofs.Years.{no_entries, counted, billed_sum}
use Rattle.history.proofs.Bound.{large, held_small, standing_small, some_small, total_small, taken_small}
use Rattle.history.proofs.Tables.{kept_read}
use Rattle.history.proofs.Search.{Finds, neither, both, finds}
use Rattle.history.proofs.Agreement.{agreement}

-- a part of a chain, and its entries
pub data Reads (all : History) : List Entry → History → Type 0 where
  none : Reads all [] []
  link : (h : History) {e : Raw} {es : List Entry} {rs : History} → Reads all es rs → Reads all (kept_entry all h e ∷ es) (e ∷ rs)

pub chain_reads : (all h : History) (a : ℕ) → Reads all (entries_in (kept_walk all h a)) (entries_of h a)
unfolding kept_walk filter
chain_reads all [] a = none
chain_reads all (r ∷ h) a = go (chain_reads all h a) (eqb r.account a)
  where
    go : Reads all (entries_in (kept_walk all h a)) (entries_of h a) → (t : Bool) →
        Reads all (entries_in (cond t (kept_link all h r ∷ kept_walk all h a) (kept_walk all h a))) (cond t (r ∷ entries_of h a) (entries_of h a))
    go ih true = link h ih
    go ih false = ih

reads_taken : {all : History} {es : List Entry} {rs : History} (n : ℕ) → Reads all es rs → Reads all (take n es) (take n rs)
reads_taken zero w = none
reads_taken (suc n) none = none
reads_taken {all = all} (suc n) (link h {e = e} {es = es} {rs = rs} w) = link h (reads_taken {all = all} {es = es} {rs = rs} n w)

reads_length : {all : History} {es : List Entry} {rs : History} → Reads all es rs → length es ≡ length rs
reads_length none = refl
reads_length (link h w) = ap suc (reads_length w)

-- sums along the chain are the history's
pub reads_total : (g : Entry → ℕ) (f : Reading) (all : History) → ((h : History) (e : Raw) → g (kept_entry all h e) ≡ f (kind_of e.kind) e (fate all e)) →
    {es : List Entry} {rs : History} → Reads all es rs → total_of g es ≡ total f all rs
unfolding total_of sum
reads_total g f all same none = refl
reads_total g f all same (link h {e} w) = omega (arith, reads_total g f all same w, same h e)

-- what is read of an entry: what is held, and the standing amount of the kinds that have one
module _ (all : History) where
  pub held_read : (h : History) (e : Raw) → chains.held_of (kept_entry all h e) ≡ held_amount (kind_of e.kind) e (fate all e)
  unfolding chains.held_of entry_of
  held_read h e = ap (λ (n : Particulars). n.held.0) (kept_read (kind_of e.kind) e (fate all e) _ _).0

  bill_read : (h : History) (e : Raw) → standing_of counts_with_bills (kept_entry all h e) ≡ billed_amount (kind_of e.kind) e (fate all e)
  unfolding standing_of entry_of
  bill_read h e = let l = kind_of e.kind in rw (kept_read l e (fate all e) _ _).0 (counted (fate all e).standing e.amount l).0

  payment_read : (h : History) (e : Raw) → standing_of is_payment (kept_entry all h e) ≡ standing_amount kind.Payment (kind_of e.kind) e (fate all e)
  unfolding standing_of entry_of
  payment_read h e = let l = kind_of e.kind in rw (kept_read l e (fate all e) _ _).0 (counted (fate all e).standing e.amount l).1

-- STATEMENT
module _ {b : Book} {h : History} (w : Kept b h) where
  held_fits : (a : ℕ) → min (total_of chains.held_of (entries_in (kept_walk h h a))) most ≡ total held_amount h (entries_of h a)
  held_fits a =
      rw (reads_total chains.held_of held_amount h (held_read h) (chain_reads h h a))
      (min-eq_left (omega (
        arith,
        fits w.valid,
        total_small held_amount h (on_account a) (λ e s. some_small (same_of (kind_of e.kind) kind.Contribution) (fate h e).held
            (omega (arith, held_small h e, s.amount))) w.valid,
      )))

  -- a sum of small numbers along the chain fits
  taken_fits : (g : Entry → ℕ) (f : Reading) → ((k : History) (e : Raw) → g (kept_entry h k e) ≡ f (kind_of e.kind) e (fate h e)) →
      ((e : Raw) → FieldsInRange e (kind_of e.kind) → f (kind_of e.kind) e (fate h e) ≤ large) → (a n : ℕ) →
      min (total_of g (take n (entries_in (kept_walk h h a)))) most ≡ total f h (take n (entries_of h a))
  taken_fits g f same small a n =
      rw (reads_total g f h same (reads_taken n (chain_reads h h a)))
      (min-eq_left (omega (arith, fits w.valid, taken_small f h n (entries_of h a), total_small f h (on_account a) small w.valid)))

  billed_fits : (a n : ℕ) → min (total_of (standing_of counts_with_bills) (take n (entries_in (kept_walk h h a)))) most ≡ total billed_amount h (take n (entries_of h a))
  billed_fits = taken_fits (standing_of counts_with_bills) billed_amount (bill_read h) (λ e s. billed_sum (standing_small w.valid e s) s.amount (kind_of e.kind))

  paid_fits : (a n : ℕ) → min (total_of (standing_of is_payment) (take n (entries_in (kept_walk h h a)))) most ≡ total (standing_amount kind.Payment) h (take n (entries_of h a))
  paid_fits =
      taken_fits (standing_of is_payment) (standing_amount kind.Payment) (payment_read h)
      (λ e s. some_small (same_of (kind_of e.kind) kind.Payment) (fate h e).standing (standing_small w.valid e s))

  given_same : (a n : ℕ) → 1 ≤ a → a ≤ accounts → given_of (account_at b a) (chain_at b a) n ≡ statement_by 0 h a n
  unfolding given_of
  given_same a n l m =
      rw (agreement.chain b h w a l m, w.agrees.account a l m, held_fits a, billed_fits a n, paid_fits a n, reads_length (chain_reads h h a)) refl

  pub statement_same : (a n : ℕ) → statement_of b a n ≡ statement_in h a n
  unfolding statement_of statement_in decided_of statement_reply_of
  statement_same a n = go (between a 1 accounts) refl
    where
      go : (t : Bool) → between a 1 accounts ≡ t →
          decided_of (cond (not t) (Err no.UnknownAccount) (Ok tt)) (λ n. statement_reply_of (Err n)) (given_of (account_at b a) (chain_at b a) n) ≡ statement_by (cond (not t) 3 0) h a n
      go true e = let i = inside a 1 accounts e in given_same a n i.0 i.1
      go false e = refl

  -- TOTALS OF A YEAR
  pub year_same : (year : ℕ) → totals_of b.years year ≡ year_in h year
  unfolding totals_of
  year_same year =
      tested (λ t. cond t (get_or b.years.0 (year - 2000) no_year) no_year ≡ year_in h year) (between year 2000 2099)
      (λ t.
      let i = inside year 2000 2099 t in
      let e : 2000 + (year - 2000) ≡ year = omega arith in
      w.agrees.years (year - 2000) (omega arith) ∙ ap (year_in h) e)
      (λ t. sym (no_entries w.valid year t))

-- CONTRIBUTION QUERY
module _ (all : History) where
  known : {x : Found} {s : Target} → Finds all x s → known_of x ≡ contribution_by (cond (not (same_of (kind_of (target_entry s).kind) kind.Contribution)) 8 0) all (target_entry s)
  unfolding known_of case_of contribution_figures_of contribution_reply_of kind_of entry_of
  known neither = refl
  known (both g {e = e}) =
      let l = kind_of e.kind in rw ((kept_read l e (fate all e) (to_arrears all e) (refunds_paid all e)).1 _ _ _) (go (same_of l kind.Contribution))
    where
      go : (t : Bool) → cond t (contribution_by 0 all e) (contribution_by 8 all e) ≡ contribution_by (cond (not t) 8 0) all e
      go true = refl
      go false = refl

module _ {b : Book} {h : History} (w : Kept b h) where
  pub contribution_same : (a node serial : ℕ) → contribution_query_of b a node serial ≡ contribution_in h a node serial
  unfolding contribution_query_of contribution_in decided_of contribution_reply_of
  contribution_same a node serial = go (between node 1 2) (between a 1 accounts) refl
    where
      go : (t u : Bool) → between a 1 accounts ≡ u →
          decided_of (cond (not t) (Err no.UnknownNode) (cond (not u) (Err no.UnknownAccount) (Ok tt)))
          (λ n. contribution_reply_of (Err n)) (known_of (sought_in (carries (name_of node serial)) (walk_at b a))) ≡
          contribution_by
          (cond (not t) 2 (cond (not u) 3 (cond (not (same_of (kind_of (target_entry (find h (pointer_to a node serial))).kind) kind.Contribution)) 8 0)))
          h (target_entry (find h (pointer_to a node serial)))
      go true true e =
          let i = inside a 1 accounts e in
          rw (agreement.chain b h w a i.0 i.1) (known h (finds h h (pointer_to a node serial)))
      go true false e = refl
      go false true e = refl
      go false false e = refl
