-- An entry that comes in, and how: posted, posted during a late-charge run, or recorded, as an image's record or by a run's step.
use Rattle.std.specs.Prelude.{ℕ, Bool, true, false, not, ◌&&◌, ◌||◌, eqb}
use Rattle.entries.specs.Kinds.{kind_of, same_of}
use Rattle.entries.specs.declared.raw.Raw.{Raw}
use Rattle.entries.specs.declared.incoming.Incoming.{Incoming}
use Rattle.entries.specs.declared.arrivals.Arrival.{Arrival}
use Rattle.entries.specs.declared.arrivals.Arrival.TheVariants.{Posted, PostedInRun, Recorded}
use Rattle.entries.specs.declared.kinds.Kind.{Kind}
use Rattle.entries.specs.declared.kinds.Kind.TheVariants as kind

-- an entry with the kind of its number
abbrev pub incoming_of : Raw → Incoming
incoming_of r = record { raw = r; kind = kind_of r.kind }

abbrev pub is_recorded : Arrival → Bool
is_recorded Posted = false
is_recorded PostedInRun = false
is_recorded Recorded = true

abbrev pub is_in_run : Arrival → Bool
is_in_run Posted = false
is_in_run PostedInRun = true
is_in_run Recorded = false

-- 1: the kind is not 1 to 12, or it is 12 and the entry is not recorded
abbrev pub unknown_to : Arrival → Kind → Bool
unknown_to w k = same_of k kind.Unknown || (same_of k kind.LateCharge && not (is_recorded w))

-- 30: a bill of zero days served that is not recorded
abbrev pub no_day_for : Arrival → Kind → ℕ → Bool
no_day_for w k served = (same_of k kind.Bill && eqb served 0) && not (is_recorded w)

-- 27: a correction during a run
abbrev pub waits_for : Arrival → Kind → Bool
waits_for w k = same_of k kind.Correction && is_in_run w
