use Rattle.std.proofs.Common.{arith, length-append, ◌∙◌}
use Rattle.decimal.specs.Decimal.{right}
use Rattle.decimal.proofs.Decimal.{decimal_text, last_right}
use Rattle.pages.specs.Rows.{account_row}
use Rattle.pages.proofs.rows.account_row.Goals as goal

pub returns : goal.returns
unfolding account_row right
returns c =
    let wide = c.last.ensures.wide (omega arith) in
    let first = c.push.ensures.room (rw c.new-row.ensures (omega (arith, wide))) in
    let second = c.push-2.ensures.room (rw (first, c.new-row.ensures) (omega (arith, wide))) in
    let third = c.push-3.ensures.room (rw (second, first, c.new-row.ensures) (simp length-append (omega (arith, wide)))) in
    let few = decimal_text.fewest 2 c.args.account.number (omega (arith, c.args.account.three_digits)) in
    let text = c.last.ensures.columns ∙ last_right 3 c.number.result (rw (c.number.ensures.text, c.from.ensures) few) (omega arith) in
    rw (c.whole.ensures, third, second, first, c.new-row.ensures, text, c.number.ensures.text, c.from.ensures)
