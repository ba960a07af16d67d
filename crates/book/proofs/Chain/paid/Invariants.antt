use Rattle.std.proofs.Common.{◌≡◌}
use Rattle.measures.specs.Cents.{cents}
use Rattle.book.specs.Chain.{links_of, paid_over}
use Rattle.book.proofs.Chain.paid.Given as goal

-- what is paid so far and by the links that are left is what the whole chain pays
abbrev pub invariant-loop-link : goal.invariant-loop-link
invariant-loop-link l = paid_over l.day l.paid (links_of l.link-iterator) ≡ paid_over l.day (cents 0) (links_of l.self)
