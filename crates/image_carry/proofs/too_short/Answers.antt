use Rattle.std.proofs.Common.{◌+◌, ◌*◌, sym, ap, ◌∙◌, arith}
use lib.Dec.{ltb}
use borrow.Author.Tests.{le-ltb}
use Rattle.saves.specs.Saves.{bytes_of}
use Rattle.codec.specs.Records.{record_bytes}
use Rattle.image_carry.specs.Carries.{next_of}
use Rattle.image_carry.proofs.Carries.{image_most}
use Rattle.image_carry.proofs.too_short.Goals as goal

pub returns-then-most-length : goal.returns-then-most-length
returns-then-most-length c =
    let a = c.args in
    sym (le-ltb a.length (bytes_of (next_of a.book a.entries.now)) (omega (arith, image_most a.book a.entries.now, c.most_after-most.ensures.0)))

pub returns : goal.returns
returns c =
    let a = c.args in
    ap (λ n. ltb a.length (record_bytes * (n + 1))) (c.from.ensures ∙ c.entry_count.ensures.0) ∙ ap (λ b. ltb a.length (bytes_of b)) c.post_all.ensures.book
