-- An account's chain, and what the queries read of it.
use Rattle.std.specs.Prelude.{ℕ, ◌+◌, Bool, cond, List, [], ◌∷◌, map}
use Rattle.entries.specs.Data.{particulars_of}
use Rattle.entries.specs.Kinds.{same_of}
use Rattle.entries.specs.declared.kinds.Kind.{Kind}
use Rattle.entries.specs.declared.kinds.Kind.TheVariants as kind
use Rattle.entries.specs.declared.data.Entry.{Entry}
use Rattle.book.specs.Fresh.{entries_most}
use Rattle.changes.specs.declared.Link.{Link}
use Rattle.book.specs.Chain.{walk_of}
use Rattle.book.specs.Posting.{account_at}
use Rattle.book.specs.declared.Book.{Book}

-- an account's chain, newest entry first
abbrev pub walk_at : Book → ℕ → List Link
walk_at b account = walk_of b.entries entries_most (account_at b account).newest

-- the entries alone
abbrev pub entries_in : List Link → List Entry
entries_in ls = map (λ (l : Link). l.entry) ls

abbrev pub chain_at : Book → ℕ → List Entry
chain_at b account = entries_in (walk_at b account)

-- a sum over entries
unfoldable pub total_of : (Entry → ℕ) → List Entry → ℕ
total_of f [] = 0
total_of f (e ∷ es) = f e + total_of f es

-- what is held of a contribution, and 0 of every other entry
unfoldable pub held_of : Entry → ℕ
held_of e = (particulars_of e.«data»).held.0

-- the standing amount of an entry whose kind counts, and 0 of another
unfoldable pub standing_of : (Kind → Bool) → Entry → ℕ
standing_of counts e = cond (counts (particulars_of e.«data»).kind) (particulars_of e.«data»).standing.0 0

abbrev pub is_payment : Kind → Bool
is_payment k = same_of k kind.Payment
