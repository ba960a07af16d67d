use Rattle.std.proofs.Common.{◌≡◌, ◌+◌, ◌≤◌, length, map}
use Rattle.std.specs.Iterator.Adapters.{zip_first, zip_second}
use Rattle.std.specs.Slice.Iter.{iter_rest}
use Rattle.codec.specs.Records.{decode_record}
use Rattle.book.specs.Fresh.{entries_most}
use Rattle.loads.specs.Loads.{load_all, load_of}
use Rattle.loads.proofs.load_into.Given as goal

-- the rest of the records in the book so far is the load of the image, and there are numbers for them
abbrev pub invariant-loop-number : goal.invariant-loop-number
invariant-loop-number l =
    let next = (zip_first l.number-iterator).start in
    let rest = iter_rest (zip_second l.number-iterator) in
    record {
      few : next + length rest ≤ entries_most + 1;
      loads : load_all (map decode_record rest) l.book next ≡ load_of l.image;
    }
