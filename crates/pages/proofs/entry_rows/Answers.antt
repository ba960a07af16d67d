use Rattle.std.proofs.Common.{◌<◌, arith}
use Rattle.std.specs.Iterator.Adapters.{enumerate_count}
use Rattle.book.proofs.ChainLaws.{first_inside}
use Rattle.pages.specs.Rows.{entries_shown}
use Rattle.pages.proofs.Pages.{begun_next, begun_ends}
use Rattle.pages.proofs.entry_rows.Goals as goal

-- an entry's number has at most four digits
pub entry_row-requires : goal.entry_row-requires
entry_row-requires c = let h = first_inside _ _ _ c.in-Some.ensures.steps.0.0 in omega arith

pub loop-i-preserved : goal.loop-i-preserved
loop-i-preserved c =
    let (fits, begun) = c.loop-i.invariant in
    let ((link, fewer), at, next, _) = c.in-Some.ensures.steps in
    let here : enumerate_count c.loop-i.i-iterator < entries_shown = omega (arith, fits, fewer) in
    (omega (arith, fits, fewer, next), rw (at, next) (begun_next c.in-Some.link c.entry_row.result here link c.entry_row.ensures begun))

pub returns : goal.returns
returns c =
    let (fits, begun) = c.loop-i.invariant in
    begun_ends fits (λ some. (c.in-None.ensures.steps.0 some).0) begun
