use Rattle.std.proofs.Common.{sym, ap, ◌∙◌}
use Rattle.saves.specs.Saves.{save_reply_of}
use Rattle.loads.specs.Given.{bytes_given_of}
use Rattle.image_carry.proofs.Carries.{carry_17, carry_22, carry_29, carry_21, carry_accepted, carry_fits}
use Rattle.image_carry.proofs.carry_into.Goals as goal

pub returns-then-entries-ne0 : goal.returns-then-entries-ne0
unfolding bytes_given_of
returns-then-entries-ne0 c =
    let a = c.args in
    rw c.into.ensures (carry_17 a.book a.entries.now a.results.now a.output.now c.if-entries-ne0.true)

pub returns-then-results-entries : goal.returns-then-results-entries
unfolding bytes_given_of
returns-then-results-entries c =
    let a = c.args in
    rw c.into-then-results-entries.ensures
    (carry_22 a.book a.entries.now a.results.now a.output.now c.if-entries-ne0.false c.if-results-entries.true)

pub returns-then-is_some : goal.returns-then-is_some
unfolding bytes_given_of
returns-then-is_some c =
    let a = c.args in
    rw c.into-then-is_some.ensures
    (carry_29 a.book a.entries.now a.results.now a.output.now c.if-entries-ne0.false c.if-results-entries.false
    (sym c.is_some.ensures ∙ c.if-is_some.true))

pub returns-then-too_short : goal.returns-then-too_short
unfolding bytes_given_of
returns-then-too_short c =
    let a = c.args in
    rw c.into-then-too_short.ensures
    (carry_21 a.book a.entries.now a.results.now a.output.now c.if-entries-ne0.false c.if-results-entries.false
    (sym c.is_some.ensures ∙ c.if-is_some.false) (sym c.too_short.ensures ∙ c.if-too_short.true))

pub returns-in_err-save : goal.returns-in_err-save
unfolding save_reply_of
returns-in_err-save c =
    let a = c.args in
    absurd (carry_fits a.book a.entries.now a.results.now a.output.now c.if-entries-ne0.false c.if-results-entries.false
    c.post_all.new.book _ (sym c.is_some.ensures ∙ c.if-is_some.false) c.post_all.ensures.book
    (sym c.too_short.ensures ∙ c.if-too_short.false) (sym (ap save_reply_of c.in_err-save.was) ∙ c.save.ensures.0))

pub returns : goal.returns
unfolding save_reply_of bytes_given_of
returns c =
    let a = c.args in
    let posted = c.post_all in
    carry_accepted a.book a.entries.now a.results.now a.output.now c.if-entries-ne0.false c.if-results-entries.false
    posted.new.book _ _ _ posted.ensures.book (sym (ap save_reply_of c.in_ok-save.was) ∙ c.save.ensures.0) posted.ensures.results c.save.ensures.1
