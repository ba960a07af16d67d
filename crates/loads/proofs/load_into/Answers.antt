use Rattle.std.proofs.Common.{sym, ap, ◌∙◌, arith, length, ⊎_elim}
use Rattle.codec.proofs.Headers.{checked}
use Rattle.entries.specs.Refusals.{check_number}
use Rattle.loads.proofs.Loads.{load_refused, behind_begin, behind_few, record_stops, record_goes_on, none_left}
use Rattle.std.proofs.lemmas.Result.{err_from_is_err_and}
use Rattle.loads.proofs.load_into.Goals as goal

pub slice_bounds-records_in-count : goal.slice_bounds-records_in-count
slice_bounds-records_in-count c = (checked c.args.image.now (sym c.check.ensures ∙ c.in_ok-check.was)).low

pub slice_bounds-records_in-start : goal.slice_bounds-records_in-start
slice_bounds-records_in-start c = omega (arith, (checked c.args.image.now (sym c.check.ensures ∙ c.in_ok-check.was)).low)

pub loop-number-init : goal.loop-number-init
loop-number-init c =
    let passed = sym c.check.ensures ∙ c.in_ok-check.was in
    let few = behind_few c.args.image.now c.records_in-records.result.now passed c.records_in-records.ensures in
    rw (c.into_iter-number-iterator.ensures.into_iter_gives, c.zip-number-items.ensures.first, c.zip-number-items.ensures.second.0) (record {
      few = omega (arith, few);
      loads = behind_begin c.args.image.now c.records_in-records.result.now passed c.records_in-records.ensures c.args.book.now c.requires;
    })

pub returns-in_err-check : goal.returns-in_err-check
returns-in_err-check c =
    let left = err_from_is_err_and c.from_residual.result c.from_residual.ensures.1 in
    rw (left.1, left.2) (sym (load_refused c.args.image.now _ (sym c.check.ensures ∙ c.in_err-check.was)))

pub returns-in-Err : goal.returns-in-Err
unfolding check_number
returns-in-Err c =
    let l = c.loop-number in
    let (number, rest) = c.in-Some.ensures.steps in
    rw number.0 (sym (record_stops l.book _ rest c.decode.ensures c.in-Err.refusal c.in-Err.ensures.number) ∙ l.invariant.loads)

pub loop-number-preserved : goal.loop-number-preserved
unfolding check_number
loop-number-preserved c =
    let l = c.loop-number in
    let (number, rest) = c.in-Some.ensures.steps in
    record {
      few = omega (arith, number, ap length rest, l.invariant.few);
      loads =
          rw (number.1, number.0, c.in_default.ensures.ok)
          (sym (record_goes_on l.book _ rest c.decode.ensures c.in_default.ensures.number) ∙ l.invariant.loads);
    }

pub returns : goal.returns
returns c =
    let l = c.loop-number in
    ⊎_elim (λ numbers. absurd (omega (arith, numbers.1.0, l.invariant.few)))
    (λ records. sym (none_left _ l.book _ records.1.0) ∙ l.invariant.loads)
    c.in-None.ensures.steps
