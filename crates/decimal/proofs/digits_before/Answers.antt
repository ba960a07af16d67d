use Rattle.std.proofs.Common.{arith}
use Rattle.decimal.proofs.Decimal.{left_all, left_next, left_end}
use Rattle.decimal.proofs.digits_before.Goals as goal

pub loop-start-init : goal.loop-start-init
loop-start-init c = left_all c.args.n c.args.end c.args.columns (omega arith) (omega arith) (omega arith) (omega arith) c.requires.2

pub invariant_of-result : goal.invariant_of-result
invariant_of-result c = rw c.last_digit.ensures (left_end c.if-rest-eq0.true c.loop-start.invariant).field

pub returns-then-rest-eq0 : goal.returns-then-rest-eq0
returns-then-rest-eq0 c = rw c.last_digit.ensures (left_end c.if-rest-eq0.true c.loop-start.invariant).whole

pub loop-start-preserved : goal.loop-start-preserved
loop-start-preserved c = rw c.last_digit.ensures (left_next c.if-rest-eq0.false c.loop-start.invariant)
