use Rattle.std.proofs.Common.{length, length-take-le, arith, sym, ap, ◌∙◌}
use Rattle.std.proofs.lemmas.Result.{err_from_is_err_and}
use Rattle.queries.specs.Chain.{walk_at}
use Rattle.queries.specs.Statements.{statement_of}
use Rattle.pages.specs.Rows.{page_bytes}
use Rattle.pages.specs.Pages.{entry_lines_of}
use Rattle.pages.proofs.RowsLaws.{page_form}
use Rattle.pages.proofs.Pages.{has_room, page_refused, page_done}
use Rattle.pages.proofs.page.Goals as goal

pub returns-in_err-check_page : goal.returns-in_err-check_page
returns-in_err-check_page c =
    let left = err_from_is_err_and c.from_residual.result c.from_residual.ensures.1 in
    rw (left.1, left.2) (page_refused c.args.book.now c.args.account c.args.buf.now _ (sym c.check_page.ensures ∙ c.in_err-check_page.was))

pub slice_bounds-copy_from_slice-end-2 : goal.slice_bounds-copy_from_slice-end-2
slice_bounds-copy_from_slice-end-2 c = sym (length-take-le page_bytes c.args.buf.now (has_room c.args.account _ (sym c.in_ok-check_page.was ∙ c.check_page.ensures)))

pub copy_from_slice-requires : goal.copy_from_slice-requires
copy_from_slice-requires c =
    let a = c.args in
    let rows = page_form.lines a.account (statement_of a.book.now a.account 0) (entry_lines_of (walk_at a.book.now a.account)) in
    omega (
      arith,
      length-take-le page_bytes c.args.buf.now (has_room c.args.account _ (sym c.in_ok-check_page.was ∙ c.check_page.ensures)),
      c.as_flattened.ensures.len,
      ap length c.page_rows.ensures,
      rows,
    )

pub returns : goal.returns
returns c =
    page_done c.args.book.now c.args.account c.copy_from_slice.new.self c.args.buf.now (sym c.in_ok-check_page.was ∙ c.check_page.ensures)
    (c.copy_from_slice.ensures.after ∙ c.as_flattened.ensures.value ∙ (rw c.page_rows.ensures))
