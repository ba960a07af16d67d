use Rattle.std.proofs.Common.{◌++◌, drop}
use Rattle.decimal.specs.Decimal.{digits}
use Rattle.decimal.proofs.Decimal.{Left}
use Rattle.decimal.proofs.digits_before.Given as goal

abbrev pub invariant-loop-start : goal.invariant-loop-start
invariant-loop-start l = Left (digits l.n ++ drop l.end l.fn.columns) l.columns l.start l.rest
