use Rattle.std.proofs.Common.{◌≡◌}
use Rattle.book.specs.Chain.{links_of}
use Rattle.queries.specs.Chain.{entries_in, chain_at}
use Rattle.queries.specs.Walk.{no_sums}
use Rattle.queries.proofs.Walk.{sums_over}
use Rattle.queries.proofs.statements.statement.Given as goal

-- the sums so far, and over what is left of the chain: the sums over the whole chain
abbrev pub invariant-loop-link : goal.invariant-loop-link
invariant-loop-link l = sums_over l.allowance l.sums (entries_in (links_of l.link-iterator)) ≡ sums_over l.allowance no_sums (chain_at l.book l.account)
