use Rattle.std.proofs.Common.{◌≡◌, sym, ◌∙◌, arith, get_or, get_or-take, take}
use Rattle.std.proofs.lemmas.List.{length-take}
use Rattle.entries.specs.Data.{no_entry}
use Rattle.saves.specs.Saves.{save_reply_of}
use Rattle.saves.proofs.Saves.{save_in_run, save_short, save_step, save_done}
use Rattle.saves.proofs.save.Goals as goal

pub returns-then-is_some : goal.returns-then-is_some
unfolding save_reply_of
returns-then-is_some c =
    let left = save_in_run c.args.book.now c.args.buf.now (sym c.is_some.ensures ∙ c.if-is_some.true) in
    (sym left.0, sym left.1)

pub returns-then-buf-total : goal.returns-then-buf-total
unfolding save_reply_of
returns-then-buf-total c =
    let left = save_short c.args.book.now c.args.buf.now (sym c.is_some.ensures ∙ c.if-is_some.false) (omega arith) in
    (sym left.0, sym left.1)

pub loop-i-preserved : goal.loop-i-preserved
loop-i-preserved c =
    let b = c.args.book.now in
    let l = c.loop-i in
    let n = c.from-count.result in
    let entry : get_or (take n b.entries) l.i no_entry ≡ get_or b.entries l.i no_entry = get_or-take n b.entries l.i no_entry (omega arith) in
    save_step b c.args.buf.now l.buf c.copy_from_slice-in-loop-i.new.self n l.i no_entry (omega (arith, length-take n b.entries))
    (rw (c.copy_from_slice-in-loop-i.ensures.after, c.encode.ensures, c.raw_of.ensures, entry))
    l.invariant

pub returns : goal.returns
unfolding save_reply_of
returns c =
    let a = c.args in
    let n = c.from-count in
    let l = c.loop-i in
    let e : l.i ≡ n.result = omega arith in
    save_done a.book.now a.buf.now l.buf n.result (sym c.is_some.ensures ∙ c.if-is_some.false) (n.ensures ∙ c.entry_count-entry_count.ensures.0) (omega arith)
    (rw e at l.invariant)
