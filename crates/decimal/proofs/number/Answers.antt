use Rattle.std.proofs.Common.{length-append, arith}
use Rattle.decimal.proofs.Decimal.{at_most_twenty}
use Rattle.decimal.proofs.number.Goals as goal

pub returns-clause-short : goal.returns-clause-short
returns-clause-short c = rw c.digits_before.ensures (simp length-append (omega (arith, at_most_twenty c.args.n (omega arith))))
