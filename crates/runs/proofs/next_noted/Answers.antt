use Rattle.std.proofs.Common.{rules, arith, ap, ◌≡◌, ◌∙◌}
use Rattle.std.proofs.lemmas.Iterator.{YieldsList-from_slice, YieldsList-from_zip}
use Rattle.std.proofs.lemmas.Iterator.Consumers.{YieldsList-at}
use Rattle.std.proofs.lemmas.Iterator.Adapters.{YieldsList-from_skip}
use Rattle.std.proofs.lemmas.Iterator.Search.{find_from_yields_List}
use Rattle.std.specs.Option.{option_map}
use borrow.Author.Tests.{tests}
use Rattle.runs.proofs.RunsLaws.{yields_accounts, has_arrears, next_found}
use Rattle.runs.proofs.next_noted.Goals as goal

pub returns : goal.returns
returns c =
    let range = c.new.ensures in
    let accounts = yields_accounts c.new.result range.start range.end range.exhausted in
    let notes : c.zip.result.b.rest.now ≡ c.args.noted.now = c.zip.ensures.second.0 in
    let pairs = YieldsList-from_zip (YieldsList-at c.zip.ensures.first accounts) (YieldsList-from_slice c.args.noted.now notes) in
    let count : c.skip.result.n ≡ c.args.charged = c.skip.ensures.count ∙ c.from.ensures in
    let left = YieldsList-from_skip c.args.charged (YieldsList-at c.skip.ensures.source pairs) count in
    let found = find_from_yields_List has_arrears c.find.new.self _ c.find.result c.find.ensures.ran left (λ x b q k. search (rules, tests)) in
    let account : c.map.result ≡ option_map (λ p. p.0) (option_map (λ p. (p.0, p.1.now)) c.find.result) = search (rules, tests) in
    account ∙ ap (option_map (λ p. p.0)) found ∙ next_found c.args.charged c.args.noted.now (omega arith)
