-- A history determines the book that keeps it, but for its run.
use mathlib.Core.Path.{◌≡◌, sym, ◌∙◌}
use Prim.Native.Nat.{ℕ, ◌+◌, ◌<◌}
use native.Mathlib.Omega.{arith}
use mathlib.Core.List.{List}
use lib.ListN.{length, get_or}
use lib.Seq.{ext_get_or}
use lib.Dec.{eqb, ltb}
use borrow.Author.Tests.{eqb-true, eqb-false, ltb-true, ltb-false}
use Rattle.entries.specs.Data.{no_entry}
use Rattle.entries.specs.declared.data.Entry.{Entry}
use Rattle.rules.specs.Accounts.{no_account}
use Rattle.book.specs.declared.Book.{Book}
use Rattle.std.specs.Prelude.{None}
use Rattle.book.specs.Chain.{slot_of}
use Rattle.runs.specs.Runs.{without_run}
use Rattle.years.specs.Years.{years_most, no_year}
use Rattle.history.specs.History.{History, accounts}
use Rattle.history.specs.Agreement.{Placed, start, more, Agrees, Determined}
use Rattle.history.proofs.Tests.{tested}
use Rattle.history.proofs.Stored.{slot_at}

row_same : {all : History} {es fs : List Entry} {h : History} → Placed all es h → Placed all fs h → (i : ℕ) → i < length h → get_or es i no_entry ≡ get_or fs i no_entry
row_same start start i l = absurd (omega arith)
row_same {es = es} {fs} (more {h = h} e rs) (more f ss) i l =
    tested (λ t. get_or es i no_entry ≡ get_or fs i no_entry) (eqb i (length h)) (λ q. rw (eqb-true i (length h) q) (e ∙ sym f))
    (λ q. let ne = eqb-false i (length h) q in row_same rs ss i (omega arith))

-- a book without its run, by its fields
abbrev whole : Book → Book
whole b =
    record {
      accounts = b.accounts;
      entries = b.entries;
      count = b.count;
      last = record { node_1 = b.last.node_1; node_2 = b.last.node_2 };
      run = None;
      years = record { 0 = b.years.0 };
    }

module _ {b c : Book} {h : History} (v : Agrees b h) (w : Agrees c h) where
  entries_same : b.entries ≡ c.entries
  entries_same =
      ext_get_or no_entry b.entries c.entries (v.entries_long ∙ sym w.entries_long) (λ i l.
      tested (λ t. get_or b.entries i no_entry ≡ get_or c.entries i no_entry) (ltb i (length h)) (λ e. row_same v.rows w.rows i (ltb-true i (length h) e))
      (λ e. let m = ltb-false i (length h) e in v.unused i m ∙ sym (w.unused i m)))

  accounts_same : b.accounts ≡ c.accounts
  accounts_same = ext_get_or no_account b.accounts c.accounts (v.accounts_long ∙ sym w.accounts_long) go
    where
      go : (i : ℕ) → i < length b.accounts → get_or b.accounts i no_account ≡ get_or c.accounts i no_account
      go i l =
          let m : i < accounts = omega (arith, v.accounts_long) in
          let p : slot_of (i + 1) ≡ i = omega (arith, slot_at (i + 1) (omega arith) (omega arith)) in
          rw p at (v.account (i + 1) (omega arith) (omega arith) ∙ sym (w.account (i + 1) (omega arith) (omega arith)))

  years_same : b.years.0 ≡ c.years.0
  years_same =
      ext_get_or no_year b.years.0 c.years.0 (v.years_long ∙ sym w.years_long)
      (λ y l. let m : y < years_most = omega (arith, v.years_long) in v.years y m ∙ sym (w.years y m))

  same : whole b ≡ whole c
  same = cc (entries_same, accounts_same, years_same)

pub determined : Determined
unfolding without_run
determined b c h v w = same v.agrees w.agrees
