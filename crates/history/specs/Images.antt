-- The image of a history. Nothing here reads a book.
use Rattle.std.specs.Prelude.{ℕ, ◌+◌, ◌*◌, Bool, cond, List, [], ◌∷◌, ◌++◌, length, drop, eqb, ltb}
use Rattle.entries.specs.declared.raw.Raw.{Raw}
use Rattle.codec.specs.Records.{FieldsFit, encode_all}
use Rattle.codec.specs.Headers.{header_of}
use Rattle.codec.specs.declared.Record.{Record}
use Rattle.history.specs.History.{History}

-- the number of an account's newest entry, 0 where it has none
unfoldable pub newest_of : History → ℕ → ℕ
newest_of [] account = 0
newest_of (r ∷ h) account = cond (eqb r.account account) (length h + 1) (newest_of h account)

-- a record for each entry, from the oldest on; its next index is the number of its account's previous entry
unfoldable pub records_by : History → List Record
records_by [] = []
records_by (r ∷ h) = records_by h ++ record { raw = r; next = newest_of h r.account } ∷ []

-- the header, with the number of entries, and the records
unfoldable pub image_in : History → List ℕ
image_in h = header_of (length h) ++ encode_all (records_by h)

-- its bytes: 24 × (entries + 1)
abbrev pub bytes_in : History → ℕ
bytes_in h = 24 * (length h + 1)

-- 21: a save's buffer is shorter
abbrev pub short_in : History → List ℕ → Bool
short_in h buffer = ltb (length buffer) (bytes_in h)

abbrev pub room_in : History → List ℕ → ℕ
room_in h buffer = cond (short_in h buffer) 21 0

-- the buffer is untouched then; else the image is written over its start, and no other byte is touched
unfoldable pub saved_by : History → List ℕ → List ℕ
saved_by h buffer = cond (short_in h buffer) buffer (image_in h ++ drop (bytes_in h) buffer)

-- what every value of the type satisfies: each field is below 2^8, 2^16 or 2^32
abbrev pub Typed : Raw → Type 0
Typed r = FieldsFit (record { raw = r; next = 0 })

abbrev pub AllTyped : List Raw → Type 0
AllTyped [] = Unit {0}
AllTyped (r ∷ rs) = Typed r × AllTyped rs
