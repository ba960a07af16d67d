use Rattle.std.proofs.Common.{◌≡◌, length}
use Rattle.text.specs.Reading.{number_from}
use Rattle.text.proofs.reading.number.Given as goal

abbrev pub invariant-loop-rest : goal.invariant-loop-rest
invariant-loop-rest l = number_from l.value l.rest ≡ number_from 0 l.text

abbrev pub decreases-loop-rest : goal.decreases-loop-rest
decreases-loop-rest l = length l.rest
