use Rattle.std.proofs.Common.{◌≡◌, ◌+◌}
use Rattle.arrayvec.specs.ArrayVec.{array_vec_len}
use Rattle.text.proofs.reading.Numbers.change.Given as goal

abbrev pub invariant-loop : goal.invariant-loop
invariant-loop l = l.from + array_vec_len l.bytes ≡ l.counter
