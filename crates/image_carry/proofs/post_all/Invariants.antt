use Rattle.std.proofs.Common.{◌≡◌, ◌/◌, length, map, drop}
use Rattle.codec.specs.Records.{record_bytes, decode_all}
use Rattle.book.specs.Posting.{posts_of}
use Rattle.carry.specs.Carry.{refusals_of}
use Rattle.loads.specs.Loaded.{raw_in}
use Rattle.image_carry.specs.Carries.{read_entries, next_of, put_all}
use Rattle.image_carry.proofs.post_all.Given as goal

-- what the records that are left make of the book and the results so far is what all of them make
abbrev pub invariant-loop-i : goal.invariant-loop-i
invariant-loop-i l = record {
  book : posts_of l.book (map raw_in (drop l.i (decode_all (length l.entries / record_bytes) l.entries))) ≡ next_of l.fn.book l.entries;
  results :
      put_all l.results l.i (refusals_of l.book (map raw_in (drop l.i (decode_all (length l.entries / record_bytes) l.entries)))) ≡
      put_all l.fn.results 0 (refusals_of l.fn.book (read_entries l.entries));
}
