use Rattle.std.proofs.Common.{sym, ap, ◌∙◌}
use Rattle.std.proofs.lemmas.Result.{err_from_is_err_and}
use Rattle.loads.specs.Loaded.{loaded_with, loaded_reply}
use Rattle.image_read.proofs.ChecksLaws.{refused}
use Rattle.image_read.proofs.checks.entries_of.Goals as goal

pub returns-in_err-answer : goal.returns-in_err-answer
unfolding loaded_reply
returns-in_err-answer c =
    let l = c.load-answer in
    let left = err_from_is_err_and c.from_residual.result c.from_residual.ensures.1 in
    rw (left.1, left.2) (refused c.args.image.now l.result.book _ (ap (loaded_with l.result.book) (sym c.in_err-answer.was) ∙ l.ensures))
