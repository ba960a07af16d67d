use Rattle.std.proofs.Common.{◌≡◌, ◌+◌}
use Rattle.std.specs.Iterator.Adapters.{enumerate_source, enumerate_count, take_source, take_count}
use Rattle.book.specs.Chain.{links_of}
use Rattle.pages.specs.Rows.{entries_shown, entry_rows}
use Rattle.pages.specs.Pages.{entry_lines_of}
use Rattle.queries.specs.Chain.{walk_at}
use Rattle.pages.proofs.Pages.{Begun}
use Rattle.pages.proofs.entry_rows.Given as goal

-- the entries so far are written, and the chain has those that are left
abbrev pub invariant-loop-i : goal.invariant-loop-i
invariant-loop-i l =
    let rest = enumerate_source l.i-iterator in
    (enumerate_count l.i-iterator + take_count rest ≡ entries_shown) ×
    Begun l.rows (entry_rows entries_shown (entry_lines_of (walk_at l.book l.account))) (enumerate_count l.i-iterator) (links_of (take_source rest))
