use Rattle.std.proofs.Common.{arith, sym, ◌∙◌}
use Rattle.printer.proofs.PrintedLaws.{printed_book, printed_refused}
use Rattle.printer.proofs.printed.Goals as goal

pub returns-in-Ok : goal.returns-in-Ok
returns-in-Ok c = c.book_lines.ensures ∙ sym (printed_book c.args.loaded _ c.in-Ok.is)

pub returns-in-Err : goal.returns-in-Err
returns-in-Err c =
    let pushed = c.push.ensures.room (rw c.new-text.ensures (omega (arith, c.as_slice.ensures.room))) in
    rw (
      printed_refused c.args.loaded _ c.in-Err.is,
      pushed,
      c.new-text.ensures,
      c.as_slice.ensures.bytes,
      c.refused_line.ensures,
      c.from.ensures,
      c.from-in-Err.ensures,
      c.from-number.ensures,
      c.record_number.ensures,
    )
