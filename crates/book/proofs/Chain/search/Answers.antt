use Rattle.std.proofs.Common.{refl, sym, rules}
use Rattle.std.proofs.lemmas.Iterator.Consumers.{YieldsList-from_first}
use Rattle.std.proofs.lemmas.Iterator.Search.{find_from_yields_List}
use borrow.Author.Tests.{tests}
use Rattle.entries.specs.Data.{carries}
use Rattle.changes.specs.declared.Link.{Link}
use Rattle.book.specs.Chain.{links_of}
use Rattle.book.proofs.ChainLaws.{sought_by}
use Rattle.book.proofs.Chain.search.Goals as goal

pub returns : goal.returns
returns c =
    let found = find_from_yields_List (λ (l : Link). carries c.args.name l.entry) c.find.new.self _ c.find.result c.find.ensures.ran
    (YieldsList-from_first (λ x. x) links_of _ refl) (λ x b q k. search (rules, tests)) in
    sym (sought_by (carries c.args.name) _ c.find.result found)
