use Rattle.std.proofs.Common.{rules, arith}
use borrow.Author.Tests.{tests}
use Rattle.measures.specs.Cents.{cents}
use Rattle.rules.specs.Accounts.{no_account}
use Rattle.runs.proofs.RunsLaws.{arrears_are}
use Rattle.runs.proofs.arrears_of.Goals as goal

pub returns : goal.returns
returns c =
    let m = c.map.ensures.items in
    arrears_are c.args.accounts.now c.map.result (omega arith)
    (λ i k. let at = m.at i no_account (cents 0) (omega arith) in let called = at.2 in search (rules, tests))
