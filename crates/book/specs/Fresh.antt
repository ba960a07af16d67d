-- The fresh book.
use Rattle.std.specs.Prelude.{ℕ, replicate, None}
use Rattle.entries.specs.Data.{no_entry}
use Rattle.rules.specs.Accounts.{no_account}
use Rattle.years.specs.Years.{no_years}
use Rattle.book.specs.declared.Book.{Book}

-- 128 accounts and 1,024 entries are facts of every book
abbrev pub accounts_most : ℕ
accounts_most = 128

abbrev pub entries_most : ℕ
entries_most = 1024

-- no entries; every account's arrears, credit and deposit are zero; both nodes' last serial is 0; no run is open; every year's totals are zero
unfoldable pub fresh_book : Book
fresh_book =
    record {
      accounts = replicate accounts_most no_account;
      entries = replicate entries_most no_entry;
      count = 0;
      last = record { node_1 = 0; node_2 = 0 };
      run = None;
      years = no_years;
    }
