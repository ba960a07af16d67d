-- A check of an image.
use Rattle.std.specs.Prelude.{ℕ, Result, Ok, Err}
use Rattle.entries.specs.Refusals.{refusal_number}
use Rattle.loads.specs.Loaded.{LoadedReply, record_number}
use Rattle.loads.specs.declared.Fault.{Fault}
use Rattle.image_read.specs.declared.checks.CheckGiven.{CheckGiven}

-- an answer with the record at fault as what is given
unfoldable pub check_given_of : Result ℕ Fault → CheckGiven
check_given_of (Err f) = record { refusal = refusal_number f.refusal; «record» = record_number f; entries = 0 }
check_given_of (Ok n) = record { refusal = 0; «record» = 0; entries = n }

-- what a load gives of the image; a refused one gives a fresh book, which has no entries
abbrev pub check_given : LoadedReply → CheckGiven
check_given l = record { refusal = l.refusal; «record» = l.faulty; entries = l.book.count }
