-- What a load gives, and what ends one at a record.
use Rattle.std.specs.Prelude.{ℕ, cond, eqb, None, Result, Ok, Err, unwrap_or}
use Rattle.entries.specs.Refusals.{refusal_number}
use Rattle.entries.specs.declared.raw.Raw.{Raw}
use Rattle.entries.specs.declared.refusals.Refusal.{Refusal}
use Rattle.entries.specs.declared.refusals.Refusal.TheVariants as no
use Rattle.codec.specs.declared.Record.{Record}
use Rattle.book.specs.Fresh.{fresh_book}
use Rattle.book.specs.Posting.{account_at, record_of}
use Rattle.book.specs.declared.Book.{Book}
use Rattle.book.specs.declared.Next.{Next}
use Rattle.loads.specs.declared.Fault.{Fault}

-- nothing, or the fault
abbrev pub LoadAnswer : Type 0
LoadAnswer = Result (Unit {0}) Fault

-- a refusal with no record at fault
abbrev pub no_record : Refusal → Fault
no_record n = record { refusal = n; «record» = None }

-- the documents' number of the record at fault, 0 where none is
abbrev pub record_number : Fault → ℕ
record_number f = unwrap_or f.«record» 0

-- what a load gives, in the documents' numbers: the book, the refusal, and the record at fault, 0 where none is
pub record LoadedReply : Type 0 where
  pub book : Book
  pub refusal : ℕ
  pub faulty : ℕ

abbrev pub loaded_with : Book → LoadAnswer → LoadedReply
loaded_with b (Ok x) = record { book = b; refusal = 0; faulty = 0 }
loaded_with b (Err f) = record { book = b; refusal = refusal_number f.refusal; faulty = record_number f }

unfoldable pub loaded_reply : Next LoadAnswer → LoadedReply
loaded_reply l = loaded_with l.book l.answer

-- a load that accepts
abbrev pub accepted_load : Book → LoadedReply
accepted_load b = record { book = b; refusal = 0; faulty = 0 }

-- a refused load gives a fresh book
abbrev pub refused_load : ℕ → ℕ → LoadedReply
refused_load n i = record { book = fresh_book; refusal = n; faulty = i }

-- what a load gives of a book that its records are recorded in
abbrev pub loaded_from : Book → LoadAnswer → LoadedReply
loaded_from b (Ok x) = accepted_load b
loaded_from b (Err f) = refused_load (refusal_number f.refusal) (record_number f)

-- the refusal of a record, or 0: by 1 to 16 or 24 to 26 as recorded, and then
-- 20: a record's next index is not its account's previous entry
unfoldable pub record_refusal : Book → Record → ℕ
record_refusal b r =
    let recorded = (record_of b r.raw).reply.refusal in
    cond (eqb recorded 0)
    (cond (eqb r.next (account_at b r.raw.account).newest) 0 (refusal_number no.NextIndex))
    recorded

abbrev pub raw_in : Record → Raw
raw_in r = r.raw
