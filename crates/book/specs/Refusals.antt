-- Refused, in checking order: 1 to 7 here, 30 after 5 and 27 before 7, 8 to 16 and 24 to 26 in the rules' own_rows and naming_rows.
use Rattle.std.specs.Prelude.{ℕ, cond, not, List, [], ◌∷◌, leb, ltb, Err}
use Rattle.measures.specs.declared.Cents.{Cents}
use Rattle.entries.specs.Arrivals.{unknown_to, no_day_for, waits_for}
use Rattle.entries.specs.Kinds.{kind_of, names_of}
use Rattle.entries.specs.Ranges.{between, in_range_of}
use Rattle.entries.specs.Refusals.{Check, Row, ◌⇒◌, check_rows, decided_of}
use Rattle.entries.specs.declared.raw.Raw.{Raw}
use Rattle.entries.specs.declared.arrivals.Arrival.{Arrival}
use Rattle.entries.specs.declared.kinds.Kind.{Kind}
use Rattle.entries.specs.declared.refusals.Refusal.TheVariants as no
use Rattle.changes.specs.Changes.{Decision, own_decision_of, naming_decision_of}
use Rattle.rules.specs.declared.accounts.Account.{Account}
use Rattle.book.specs.Fresh.{accounts_most, entries_most}
use Rattle.book.specs.declared.Found.{Found}
use Rattle.book.specs.declared.Found.TheVariants.{At, Nothing}
use Rattle.measures.specs.Days.{last_day}

-- the rules after 5
abbrev pub late_rows : Raw → Kind → Arrival → ℕ → ℕ → List Row
late_rows r k w count last =
    (no_day_for w k r.b ⇒ no.NoDaysServed) ∷
    (leb r.serial last ⇒ no.SerialNotNew) ∷
    (waits_for w k ⇒ no.CorrectionInRun) ∷
    (leb entries_most count ⇒ no.BookFull) ∷
    []

abbrev pub entry_rows : Raw → Kind → Arrival → ℕ → ℕ → List Row
entry_rows r k w count last =
    (unknown_to w k ⇒ no.UnknownKind) ∷
    (not (between r.node 1 2) ⇒ no.UnknownNode) ∷
    (not (between r.account 1 accounts_most) ⇒ no.UnknownAccount) ∷
    (ltb last_day r.day ⇒ no.UnknownDay) ∷
    (not (in_range_of r k) ⇒ no.FieldOutOfRange) ∷
    late_rows r k w count last

unfoldable pub check_entry_of : Raw → Kind → Arrival → ℕ → ℕ → Check
check_entry_of r k w count last = check_rows (entry_rows r k w count last)

-- of an entry that names another: where the chain yields no such entry, the posting stops with refusal 8
unfoldable pub searched_of : Raw → Kind → Account → Cents → Found → Decision
searched_of r k acc paid Nothing = Err no.NotOnChain
searched_of r k acc paid (At l) = naming_decision_of r k acc paid l

-- 1 to 7, 30 and 27 first, by how it comes in, w; then an entry goes on with its own rows, or with those about the entry that it names; `paid` is the sum of the
-- payments in a reduction's window
unfoldable pub decision_by : Raw → Arrival → ℕ → ℕ → Account → Found → Cents → Decision
decision_by r w count last acc f paid =
    let k = kind_of r.kind in
    decided_of (check_entry_of r k w count last) Err (cond (names_of k) (searched_of r k acc paid f) (own_decision_of r k acc))
