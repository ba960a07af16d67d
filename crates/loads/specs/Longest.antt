-- The longest image that 17 lets through is that of a full book.
use Rattle.std.specs.Prelude.{◌+◌, ◌*◌, ◌≡◌}
use Rattle.codec.specs.Records.{record_bytes}
use Rattle.codec.specs.Headers.{longest_image}
use Rattle.book.specs.Fresh.{entries_most}

-- the law, since `longest_image` stands below the book and does not name its 1,024 entries; proofs/Longest.antt shows it
abbrev pub LongestIsFull : Type 0
LongestIsFull = longest_image ≡ record_bytes * (entries_most + 1)
