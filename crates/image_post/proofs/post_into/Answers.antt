use Rattle.std.proofs.Common.{◌≡◌, sym, ap, ◌∙◌}
use Rattle.std.proofs.lemmas.Result.{err_from_is_err_and}
use Rattle.rules.specs.Answers.{posting_reply_of}
use Rattle.rules.specs.declared.answers.PostingReply.{PostingReply}
use Rattle.book.specs.Posting.{PostedReply, post_of}
use Rattle.saves.specs.Saves.{save_reply_of}
use Rattle.image_post.specs.Postings.{PostingExit, posting_given, posting_given_of, read_entry}
use Rattle.image_post.proofs.Postings.{post_accepted, post_unsaved}
use Rattle.image_post.proofs.post_into.Goals as goal

pub returns-in_err-bytes : goal.returns-in_err-bytes
unfolding posting_given_of posting_reply_of save_reply_of
returns-in_err-bytes c =
    let b = c.args.book in
    let entry = c.args.entry.now in
    let posted = c.offer.ensures ∙ ap (λ r. post_of b r.raw) c.record_in.ensures in
    let none : (post_of b (read_entry entry)).reply.refusal ≡ 0 = sym (ap (λ (p : PostedReply). p.reply.refusal) posted) ∙ ap (λ x. (posting_reply_of x).refusal) c.in_ok-accepted.was in
    let left = err_from_is_err_and c.from_residual-in_err-bytes.result c.from_residual-in_err-bytes.ensures.1 in
    rw (left.1, left.2)
    (post_unsaved b c.offer.new.self entry c.args.output.now _ _ c.if-entry-ne-RECORD.false none (ap (λ (p : PostedReply). p.book) posted)
    (sym (ap save_reply_of c.in_err-bytes.was) ∙ c.save.ensures.0) c.save.ensures.1)

pub returns : goal.returns
unfolding posting_given_of posting_reply_of save_reply_of
returns c =
    let b = c.args.book in
    let entry = c.args.entry.now in
    let posted = c.offer.ensures ∙ ap (λ r. post_of b r.raw) c.record_in.ensures in
    let answered = ap posting_reply_of c.in_ok-accepted.was in
    let none : (post_of b (read_entry entry)).reply.refusal ≡ 0 = sym (ap (λ (p : PostedReply). p.reply.refusal) posted) ∙ ap (λ (r : PostingReply). r.refusal) answered in
    let written : PostingReply → PostingExit = λ r. record { given = posting_given r 0 c.in_ok-bytes.bytes; output = c.save.new.buf } in
    ap written (sym answered ∙ ap (λ (p : PostedReply). p.reply) posted) ∙
    post_accepted b c.offer.new.self entry c.args.output.now _ c.in_ok-bytes.bytes c.if-entry-ne-RECORD.false none (ap (λ (p : PostedReply). p.book) posted)
    (sym (ap save_reply_of c.in_ok-bytes.was) ∙ c.save.ensures.0) c.save.ensures.1
