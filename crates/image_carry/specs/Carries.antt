-- A carry-over of entries into an image.
use Rattle.std.specs.Prelude.{ℕ, ◌+◌, ◌/◌, ◌%◌, cond, List, [], ◌∷◌, map, length, set, eqb}
use Rattle.entries.specs.Refusals.{refusal_number}
use Rattle.entries.specs.declared.refusals.Refusal.TheVariants as no
use Rattle.entries.specs.declared.raw.Raw.{Raw}
use Rattle.codec.specs.Records.{record_bytes, decode_all}
use Rattle.book.specs.Posting.{posts_of}
use Rattle.book.specs.declared.Book.{Book}
use Rattle.carry.specs.Carry.{carry_refusal_of, carry_results_of}
use Rattle.saves.specs.Saves.{bytes_of, save_of, saved_in}
use Rattle.loads.specs.Given.{bytes_given}
use Rattle.loads.specs.Loaded.{LoadedReply, raw_in}
use Rattle.loads.specs.declared.given.BytesGiven.{BytesGiven}
use Rattle.entries.specs.Order.{first_refusal}

abbrev pub refused_carry : ℕ → ℕ → BytesGiven
refused_carry n faulty = bytes_given n faulty 0

abbrev pub accepted_carry : ℕ → BytesGiven
accepted_carry bytes = bytes_given 0 0 bytes

-- what a carry-over gives, and its result list and output at the end
pub record CarryExit : Type 0 where
  pub given : BytesGiven
  pub results : List ℕ
  pub output : List ℕ

-- the entries: records, whose next indices are not read
unfoldable pub read_entries : List ℕ → List Raw
read_entries entries = map raw_in (decode_all (length entries / record_bytes) entries)

-- the book after the entries
abbrev pub next_of : Book → List ℕ → Book
next_of b entries = posts_of b (read_entries entries)

-- 17: their length is no multiple of 24
unfoldable pub entries_refusal : List ℕ → ℕ
entries_refusal entries = cond (eqb (length entries % record_bytes) 0) 0 (refusal_number no.ImageLength)

-- 17, then the carry-over's 22, then the save's 29 and 21
unfoldable pub carry_refusal : Book → List ℕ → List ℕ → List ℕ → ℕ
carry_refusal b entries results output =
    first_refusal (entries_refusal entries ∷ carry_refusal_of (read_entries entries) results ∷ (save_of (next_of b entries) output).refusal ∷ [])

-- a refused carry-over writes nothing
unfoldable pub carry_into : Book → List ℕ → List ℕ → List ℕ → CarryExit
carry_into b entries results output =
    cond (eqb (carry_refusal b entries results output) 0)
    (record {
      given = accepted_carry (bytes_of (next_of b entries));
      results = carry_results_of b (read_entries entries) results;
      output = saved_in (next_of b entries) output;
    })
    (record { given = refused_carry (carry_refusal b entries results output) 0; results = results; output = output })

-- the image first
unfoldable pub carry_image : LoadedReply → List ℕ → List ℕ → List ℕ → CarryExit
carry_image l entries results output =
    cond (eqb l.refusal 0) (carry_into l.book entries results output)
    (record { given = refused_carry l.refusal l.faulty; results = results; output = output })

-- a list with values set one after another from a place on, as far as it goes
unfoldable pub put_all : List ℕ → ℕ → List ℕ → List ℕ
put_all l i [] = l
put_all l i (x ∷ xs) = put_all (set l i x) (i + 1) xs
