-- How a posted entry comes in, by the late-charge run of a book.
use Rattle.std.specs.Prelude.{ℕ, List, Option, None, Some}
use Rattle.measures.specs.declared.Cents.{Cents}
use Rattle.entries.specs.declared.arrivals.Arrival.{Arrival}
use Rattle.entries.specs.declared.arrivals.Arrival.TheVariants.{Posted, PostedInRun}
use Rattle.book.specs.declared.Run.{Run}

-- a run's node, day and rate, the account that is charged next, and every account's arrears at its opening
abbrev pub run_of : ℕ → ℕ → ℕ → ℕ → List Cents → Run
run_of node day rate next noted = record { node = node; day = day; rate = rate; next = next; noted = noted }

-- how a posted entry comes in
unfoldable pub arrival_of : Option Run → Arrival
arrival_of None = Posted
arrival_of (Some run) = PostedInRun
