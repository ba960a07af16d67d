use Rattle.std.proofs.Common.{arith, length-append}
use Rattle.lines.proofs.Lines.{next_number, finished}
use Rattle.lines.proofs.line.Goals as goal

pub loop-n-preserved : goal.loop-n-preserved
loop-n-preserved c =
    let few = c.number.ensures.short in
    let short = c.loop-n.invariant.short in
    let first = c.push-in-loop-n.ensures.room (omega (arith, short, c.requires)) in
    let second = c.push-in-loop-n-2.ensures.room (rw (first, c.text.ensures) (simp length-append (omega (arith, few, short, c.requires)))) in
    record {
      begun =
          rw (second, first, c.text.ensures, c.number.ensures.text)
          (next_number c.args.numbers.now c.loop-n.line _ c.loop-n.n-index (omega arith) c.loop-n.invariant.begun);
      short = rw (second, first, c.text.ensures) (simp length-append (omega (arith, few)));
    }

pub returns : goal.returns
returns c =
    rw (c.push-2.ensures.room (omega (arith, c.loop-n.invariant.short, c.requires)))
    (finished c.args.numbers.now c.loop-n.line _ c.loop-n.n-index (omega arith) c.loop-n.invariant.begun)
