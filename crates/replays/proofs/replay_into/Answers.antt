use Rattle.std.proofs.Common.{refl, sym, ◌∙◌}
use Rattle.entries.specs.Refusals.{check_number}
use Rattle.codec.proofs.Records.{record_next, records_end}
use Rattle.replays.proofs.Replays.{replay_next, replay_stop, replay_end}
use Rattle.replays.proofs.replay_into.Goals as goal

pub loop-i-init : goal.loop-i-init
loop-i-init c = refl

pub returns-in-Err : goal.returns-in-Err
unfolding check_number
returns-in-Err c =
    let l = c.loop-i in
    let first = record_next _ _ l.i _ c.records_in-bytes-items.ensures c.loop-i-test.true c.decode-given.ensures in
    rw c.one_more-number.ensures
    (replay_stop _ _ _ c.decode-given.result l.book _ _ _ l.results _ l.i _ first c.take_in-answer.ensures c.account-newest.ensures c.refusal_of.ensures
    c.put_result.ensures c.in-Err.refusal c.in-Err.ensures ∙ l.invariant)

pub loop-i-preserved : goal.loop-i-preserved
unfolding check_number
loop-i-preserved c =
    let l = c.loop-i in
    let first = record_next _ _ l.i _ c.records_in-bytes-items.ensures c.loop-i-test.true c.decode-given.ensures in
    sym (replay_next _ _ _ c.decode-given.result l.book _ _ _ l.results _ l.i _ first c.take_in-answer.ensures c.account-newest.ensures c.refusal_of.ensures
    c.put_result.ensures c.in_default.ensures) ∙ l.invariant

pub returns : goal.returns
returns c =
    let l = c.loop-i in
    replay_end _ _ l.book l.results l.i (records_end _ _ l.i c.records_in-bytes-items.ensures c.loop-i-test.false) ∙ l.invariant
