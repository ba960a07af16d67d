use Rattle.std.proofs.Common.{◌≡◌, ◌+◌, ◌*◌, ◌++◌, drop}
use Rattle.codec.specs.Records.{record_bytes}
use Rattle.saves.proofs.Saves.{begun_of}
use Rattle.saves.proofs.save.Given as goal

-- the header and the first i records are written
abbrev pub invariant-loop-i : goal.invariant-loop-i
invariant-loop-i l = l.buf ≡ begun_of l.fn.book l.count l.i ++ drop (record_bytes * (l.i + 1)) l.fn.buf
