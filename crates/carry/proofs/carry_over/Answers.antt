use Rattle.std.proofs.Common.{◌<◌, length, ap, ◌∙◌, arith}
use Rattle.book.specs.Posting.{PostedReply}
use Rattle.rules.proofs.AnswersLaws.{numbered}
use Rattle.carry.proofs.Carry.{refused, next, accepted}
use Rattle.carry.proofs.carry_over.Goals as goal

pub returns-then-results-entries : goal.returns-then-results-entries
returns-then-results-entries c = refused c.args.book c.args.entries.now c.args.results.now c.if-results-entries.true

pub loop-i-preserved : goal.loop-i-preserved
loop-i-preserved c =
    let here : c.loop-i.i < length c.loop-i.results = omega arith in
    next c.loop-i.invariant c.loop-i-test.true here _ _ (ap (λ (p : PostedReply). p.book) c.offer.ensures)
    (numbered _ _ c.refusal_of.ensures ∙ ap (λ (p : PostedReply). p.reply.refusal) c.offer.ensures)

pub returns : goal.returns
returns c = accepted c.loop-i.invariant c.if-results-entries.false c.loop-i-test.false
