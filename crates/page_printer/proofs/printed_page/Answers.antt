use Rattle.std.proofs.Common.{rules, arith, sym, length-take, length-take-le}
use Rattle.loads.specs.Loads.{load_of}
use Rattle.loads.specs.Given.{bytes_given_of}
use Rattle.page_printer.proofs.Printed.{given_page, given_refusal}
use Rattle.page_printer.proofs.printed_page.Goals as goal

pub slice_bounds-page-end : goal.slice_bounds-page-end
unfolding bytes_given_of
slice_bounds-page-end c =
    let p = c.page_answer in
    omega (arith, (given_page (load_of c.args.image.now) c.args.account p.new.output c.in-Ok.bytes c.in-Ok.ensures (search rules)).0)

pub slice_bounds-push-end : goal.slice_bounds-push-end
unfolding bytes_given_of
slice_bounds-push-end c =
    let p = c.page_answer in
    let g = given_page (load_of c.args.image.now) c.args.account p.new.output c.in-Ok.bytes c.in-Ok.ensures (search rules) in
    sym (length-take-le c.in-Ok.bytes p.new.output (omega (arith, g.0)))

pub returns-in-Ok : goal.returns-in-Ok
unfolding bytes_given_of
returns-in-Ok c =
    let p = c.page_answer in
    let g = given_page (load_of c.args.image.now) c.args.account p.new.output c.in-Ok.bytes c.in-Ok.ensures (search rules) in
    let pushed = c.push.ensures.room (rw c.new-text.ensures (omega (arith, length-take c.in-Ok.bytes p.new.output, g.0))) in
    rw (pushed, c.new-text.ensures) g.1

pub returns-in-Err : goal.returns-in-Err
unfolding bytes_given_of
returns-in-Err c =
    let r = given_refusal (load_of c.args.image.now) c.args.account c.page_answer.new.output c.in-Err.fault c.in-Err.ensures in
    let line = c.refused_line.ensures in
    let pushed = c.push-in-Err.ensures.room (rw c.new-text.ensures (omega (arith, c.as_slice.ensures.room))) in
    rw (pushed, c.new-text.ensures, c.as_slice.ensures.bytes, line, c.from.ensures, c.from-number.ensures, c.from-in-Err.ensures, c.record_number.ensures, r)
