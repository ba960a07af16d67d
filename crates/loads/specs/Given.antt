-- What an exported call gives that reads an image and writes bytes.
use Rattle.std.specs.Prelude.{ℕ, Result, Ok, Err}
use Rattle.entries.specs.Refusals.{refusal_number}
use Rattle.loads.specs.Loaded.{record_number}
use Rattle.loads.specs.declared.Fault.{Fault}
use Rattle.loads.specs.declared.given.BytesGiven.{BytesGiven}

-- a refusal number, the image's record at fault, and the length of what is written
abbrev pub bytes_given : ℕ → ℕ → ℕ → BytesGiven
bytes_given refusal faulty bytes = record { refusal = refusal; «record» = faulty; bytes = bytes }

-- an answer with the record at fault as what is given
unfoldable pub bytes_given_of : Result ℕ Fault → BytesGiven
bytes_given_of (Err f) = bytes_given (refusal_number f.refusal) (record_number f) 0
bytes_given_of (Ok n) = bytes_given 0 0 n
