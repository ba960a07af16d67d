use Rattle.carry.proofs.Carry.{Turn}
use Rattle.carry.proofs.carry_over.Given as goal

abbrev pub invariant-loop-i : goal.invariant-loop-i
invariant-loop-i l = Turn l.fn.book l.entries l.fn.results l.i l.book l.results
