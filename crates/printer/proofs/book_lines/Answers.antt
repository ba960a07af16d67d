use Rattle.std.proofs.Common.{◌≡◌, ◌+◌, ◌-◌, ◌∙◌, arith, length-append}
use Rattle.book.specs.Fresh.{accounts_most}
use Rattle.printer.proofs.PrintedLaws.{lines_more, lines_same}
use Rattle.printer.proofs.book_lines.Goals as goal
use Rattle.printer.proofs.book_lines.Goals.{then-account-ne0, else-account-ne0}

pub loop-account-preserved : goal.loop-account-preserved
loop-account-preserved c =
    let b = c.args.book.now in
    let l = c.loop-account in
    let next : l.account + 1 - 1 ≡ l.account = omega arith in
    elim c.if-account-ne0.branch [
      | then-account-ne0 w ↦
          let pushed = w.push.ensures.room (omega (arith, w.as_slice.ensures.room, l.invariant.short)) in
          record {
            lines =
                w.text-is ∙ pushed ∙
                (rw (w.as_slice.ensures.bytes, w.account_line.ensures, next)
                (lines_more b l.account l.text w.from-r.result (omega arith) (rw c.account.ensures at w.if-account-ne0.true)
                (w.from-r.ensures ∙ w.statement.ensures) l.invariant.lines));
            short = rw (w.text-is, pushed) (simp length-append (omega (arith, w.as_slice.ensures.room)));
          }
      | else-account-ne0 w ↦ record {
        lines =
            w.text-is ∙
            (rw next (lines_same b l.account l.text (omega arith) (rw c.account.ensures at w.if-account-ne0.false) l.invariant.lines));
        short = rw w.text-is (omega arith);
      }
    ]

pub returns : goal.returns
returns c =
    let l = c.loop-account in
    let all : l.account - 1 ≡ accounts_most = omega arith in
    let pushed = c.push-2.ensures.room (omega (arith, c.as_slice-2.ensures.room, l.invariant.short)) in
    rw (pushed, c.as_slice-2.ensures.bytes, c.end_line.ensures, c.from.ensures, l.invariant.lines, all)
