use Rattle.std.proofs.Common.{refl, sym, ap, ◌∙◌}
use Rattle.codec.proofs.Records.{record_next, records_end}
use Rattle.book.specs.Posting.{PostedReply}
use Rattle.image_carry.specs.Carries.{read_entries}
use Rattle.image_carry.proofs.Carries.{posts_next, posts_end, put_next, put_end}
use Rattle.rules.proofs.AnswersLaws.{numbered}
use Rattle.image_carry.proofs.post_all.Goals as goal

pub loop-i-init : goal.loop-i-init
unfolding read_entries
loop-i-init c = record { book = refl; results = refl }

pub loop-i-preserved : goal.loop-i-preserved
loop-i-preserved c =
    let l = c.loop-i in
    let next = record_next _ _ l.i _ c.records_in-bytes-items.ensures c.loop-i-test.true c.decode.ensures in
    let book = ap (λ (p : PostedReply). p.book) c.offer-answer.ensures in
    let refusal = numbered _ _ c.refusal_of.ensures ∙ ap (λ (p : PostedReply). p.reply.refusal) c.offer-answer.ensures in
    record {
      book = rw book (sym (posts_next _ _ c.decode.result l.book next) ∙ l.invariant.book);
      results = rw (book, c.put_result.ensures, refusal) (sym (put_next _ _ c.decode.result l.book l.results l.i next) ∙ l.invariant.results);
    }

pub returns-clause-book : goal.returns-clause-book
returns-clause-book c =
    let l = c.loop-i in
    sym (posts_end _ l.book (records_end _ _ l.i c.records_in-bytes-items.ensures c.loop-i-test.false)) ∙ l.invariant.book

pub returns-clause-results : goal.returns-clause-results
returns-clause-results c =
    let l = c.loop-i in
    sym (put_end _ l.book l.results l.i (records_end _ _ l.i c.records_in-bytes-items.ensures c.loop-i-test.false)) ∙ l.invariant.results
