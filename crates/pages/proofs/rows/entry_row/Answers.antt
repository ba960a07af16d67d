use Rattle.std.proofs.Common.{◌+◌, arith, length-append, ◌∙◌, append_assoc}
use Rattle.decimal.proofs.Decimal.{last_right}
use Rattle.pages.specs.Rows.{entry_row}
use Rattle.pages.specs.Pages.{entry_line_of}
use Rattle.pages.proofs.RowsLaws.{entry_room}
use Rattle.pages.proofs.rows.entry_row.Goals as goal

pub returns : goal.returns
unfolding entry_row entry_line_of
returns c =
    let l = c.args.link in
    let room =
    entry_room (entry_line_of (l.place + 1) l.entry) (record {
      number = omega arith;
      day = omega (arith, c.well_formed);
      kind = rw (← c.particulars.ensures, ← c.from-kind.ensures) (omega arith);
      amount = rw (← c.shown_amount.ensures) (omega arith);
    }) in
    let number = c.last.ensures.columns ∙ last_right 4 _ (rw c.number.ensures.text room.number) (omega arith) in
    let day = c.last-2.ensures.columns ∙ last_right 6 _ (rw (c.number-2.ensures.text, c.from.ensures) room.day) (omega arith) in
    let kind = c.last-3.ensures.columns ∙ last_right 3 _ (rw (c.number-3.ensures.text, c.from-2.ensures, c.from-kind.ensures, c.particulars.ensures) room.kind) (omega arith) in
    let amount = c.last-4.ensures.columns ∙ last_right 67 _ (rw (c.amount.ensures.text, c.shown_amount.ensures) room.amount) (omega arith) in
    let wide = c.last.ensures.wide (omega arith) in
    let wide-2 = c.last-2.ensures.wide (omega arith) in
    let wide-3 = c.last-3.ensures.wide (omega arith) in
    let wide-4 = c.last-4.ensures.wide (omega arith) in
    let one = c.push.ensures.room (rw c.new-row.ensures (omega (arith, wide))) in
    let two = c.push-2.ensures.room (rw (one, c.new-row.ensures) (omega (arith, wide, wide-2))) in
    let three = c.push-3.ensures.room (rw (two, one, c.new-row.ensures) (simp length-append (omega (arith, wide, wide-2, wide-3)))) in
    let four = c.push-4.ensures.room (rw (three, two, one, c.new-row.ensures) (simp length-append (omega (arith, wide, wide-2, wide-3, wide-4)))) in
    let five = c.push-5.ensures.room (rw (four, three, two, one, c.new-row.ensures) (simp length-append (omega (arith, wide, wide-2, wide-3, wide-4)))) in
    rw (
      c.whole.ensures,
      five,
      four,
      three,
      two,
      one,
      c.new-row.ensures,
      number,
      c.number.ensures.text,
      day,
      c.number-2.ensures.text,
      c.from.ensures,
      kind,
      c.number-3.ensures.text,
      c.from-2.ensures,
      c.from-kind.ensures,
      c.particulars.ensures,
      amount,
      c.amount.ensures.text,
      c.shown_amount.ensures,
    )
    (simp append_assoc)
