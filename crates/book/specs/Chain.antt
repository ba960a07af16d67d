-- An account's chain, and the search for an entry along it.
use Rattle.std.specs.Prelude.{ℕ, zero, suc, ◌-◌, Bool, cond, ◌||◌, List, [], ◌∷◌, get_or, eqb, ltb, Option, None, Some}
use Rattle.measures.specs.Cents.{plus_of}
use Rattle.measures.specs.declared.Cents.{Cents}
use Rattle.entries.specs.Kinds.{names_of}
use Rattle.entries.specs.Data.{no_entry}
use Rattle.entries.specs.declared.kinds.Kind.{Kind}
use Rattle.entries.specs.declared.data.Entry.{Entry}
use Rattle.rules.specs.Windows.{paid_within}
use Rattle.changes.specs.declared.Link.{Link}
use Rattle.book.specs.Fresh.{accounts_most, entries_most}
use Rattle.book.specs.declared.Chain.{Chain}
use Rattle.book.specs.declared.Found.{Found}
use Rattle.book.specs.declared.Found.TheVariants.{At, Nothing}

-- the place of an account; 0 where there is no such account
unfoldable pub slot_of : ℕ → ℕ
slot_of account = cond (eqb account 0) 0 (cond (ltb accounts_most account) 0 (account - 1))

-- zero ends a chain, and so does a number that no entry can have
unfoldable pub ends_of : ℕ → Bool
ends_of at = eqb at 0 || ltb entries_most at

-- the place of the entry at a link; 0 where the chain ends
unfoldable pub place_of : ℕ → ℕ
place_of at = cond (ends_of at) 0 (at - 1)

-- an account's chain begins at its newest entry; a kind that names nothing searches nothing
unfoldable pub start_of : Kind → ℕ → ℕ
start_of k newest = cond (names_of k) newest 0

abbrev pub link_of : ℕ → Entry → Link
link_of i e = record { place = i; entry = e }

abbrev pub link_at : List Entry → ℕ → Link
link_at es i = link_of i (get_or es i no_entry)

-- the entries of a chain, newest first: at most fuel links from the entry of a number
unfoldable pub walk_of : List Entry → ℕ → ℕ → List Link
walk_of es zero at = []
walk_of es (suc fuel) at = cond (ends_of at) [] (link_at es (place_of at) ∷ walk_of es fuel (get_or es (place_of at) no_entry).next)

-- the links that are left of a chain
abbrev pub links_of : Chain → List Link
links_of c = walk_of c.entries.now c.left c.at

-- the first of some entries that passes a test
unfoldable pub sought_in : (Entry → Bool) → List Link → Found
sought_in test [] = Nothing
sought_in test (l ∷ ls) = cond (test l.entry) (At l) (sought_in test ls)

abbrev pub found_by : Option Link → Found
found_by None = Nothing
found_by (Some l) = At l

-- an amount, and the payments of some entries in the window that ends on a day, added up in turn; a sum stops at 2^64 - 1
unfoldable pub paid_over : ℕ → Cents → List Link → Cents
paid_over day paid [] = paid
paid_over day paid (l ∷ ls) = paid_over day (plus_of paid (paid_within l.entry day)) ls
