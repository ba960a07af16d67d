-- A load.
use Rattle.std.specs.Prelude.{ℕ, ◌+◌, cond, List, [], ◌∷◌, drop, eqb}
use Rattle.entries.specs.Refusals.{refusal_number, decided_of}
use Rattle.codec.specs.Records.{record_bytes, decode_all}
use Rattle.codec.specs.Headers.{count_in, check_of}
use Rattle.codec.specs.declared.Record.{Record}
use Rattle.book.specs.Fresh.{fresh_book}
use Rattle.book.specs.Posting.{record_of}
use Rattle.book.specs.declared.Book.{Book}
use Rattle.loads.specs.Loaded.{LoadedReply, accepted_load, refused_load, record_refusal}

-- record after record from record i on; the first refusal ends it
unfoldable pub load_all : List Record → Book → ℕ → LoadedReply
load_all [] b i = accepted_load b
load_all (r ∷ rs) b i = cond (eqb (record_refusal b r) 0) (load_all rs (record_of b r.raw).book (i + 1)) (refused_load (record_refusal b r) i)

-- the records of an image
abbrev pub records_in : List ℕ → List Record
records_in l = decode_all (count_in l) (drop record_bytes l)

-- 17, 18, 19 first, with no record at fault; then the records, recorded in a book begun fresh
unfoldable pub load_of : List ℕ → LoadedReply
load_of l = decided_of (check_of l) (λ n. refused_load (refusal_number n) 0) (load_all (records_in l) fresh_book 1)
