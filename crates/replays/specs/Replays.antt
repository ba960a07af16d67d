-- Records that come in one after another into any book, those of an image or a list of entries. No load or exported call goes by them.
use Rattle.std.specs.Prelude.{ℕ, ◌+◌, ◌/◌, Bool, true, false, cond, not, ◌&&◌, List, [], ◌∷◌, length, set, Option, eqb}
use Rattle.entries.specs.Data.{one_more}
use Rattle.entries.specs.Refusals.{refusal_number}
use Rattle.entries.specs.declared.arrivals.Arrival.{Arrival}
use Rattle.entries.specs.declared.arrivals.Arrival.TheVariants.{Recorded}
use Rattle.entries.specs.declared.raw.Raw.{Raw}
use Rattle.entries.specs.declared.refusals.Refusal.TheVariants as no
use Rattle.codec.specs.Records.{record_bytes, decode_all}
use Rattle.codec.specs.declared.Record.{Record}
use Rattle.book.specs.Runs.{arrival_of}
use Rattle.book.specs.Posting.{PostedReply, enter_of}
use Rattle.book.specs.declared.Book.{Book}
use Rattle.book.specs.declared.Run.{Run}
use Rattle.loads.specs.Loaded.{LoadedReply, accepted_load, refused_load, record_refusal}

-- the records of a list of bytes
abbrev pub listed_in : List ℕ → List Record
listed_in l = decode_all (length l / record_bytes) l

-- how a record of an image comes in, or an entry of a list
abbrev pub arrives : Bool → Option Run → Arrival
arrives true run = Recorded
arrives false run = arrival_of run

abbrev pub comes_in : Bool → Book → Raw → PostedReply
comes_in image b r = enter_of (arrives image b.run) b r

-- what ends an image at a record, or 0, by its entry's refusal, its next index and its account's newest entry
unfoldable pub stop_number : Bool → ℕ → ℕ → ℕ → ℕ
stop_number false refusal next newest = 0
stop_number true refusal next newest = cond (eqb refusal 0) (cond (eqb next newest) 0 (refusal_number no.NextIndex)) refusal

-- what is given, and the result list at the end
pub record ReplayExit : Type 0 where
  pub loaded : LoadedReply
  pub results : List ℕ

-- each record in turn, the refusal of its entry, or 0, at place i of a list; the first refused record of an image ends it
unfoldable pub replay_of : Bool → List Record → Book → List ℕ → ℕ → ReplayExit
replay_of image [] b l i = record { loaded = accepted_load b; results = l }
replay_of image (r ∷ rs) b l i =
    let m = set l i (comes_in image b r.raw).reply.refusal in
    cond (image && not (eqb (record_refusal b r) 0))
    (record { loaded = refused_load (record_refusal b r) (one_more b.count); results = m })
    (replay_of image rs (comes_in image b r.raw).book m (i + 1))
