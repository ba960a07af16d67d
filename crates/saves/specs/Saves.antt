-- A save: the entries as they were given, recovered from the book's, and their image.
use Rattle.std.specs.Prelude.{ℕ, ◌+◌, ◌*◌, min, List, [], ◌∷◌, ◌++◌, map, length, take, drop, ltb, is_some, Result, Ok, Err}
use Rattle.entries.specs.Refusals.{refusal_number, Check, Row, ◌⇒◌, check_rows, decided_of}
use Rattle.entries.specs.declared.refusals.Refusal.{Refusal}
use Rattle.entries.specs.declared.refusals.Refusal.TheVariants as no
use Rattle.entries.specs.declared.data.Entry.{Entry}
use Rattle.codec.specs.Records.{record_bytes, encode_all}
use Rattle.codec.specs.Headers.{header_of}
use Rattle.codec.specs.declared.Record.{Record}
use Rattle.book.specs.Fresh.{entries_most}
use Rattle.book.specs.declared.Book.{Book}
use Rattle.measures.specs.Cents.{cents}
use Rattle.measures.specs.declared.Cents.{Cents}
use Rattle.entries.specs.Kinds.{number_of}
use Rattle.entries.specs.declared.raw.Raw.{Raw}
use Rattle.entries.specs.declared.kinds.Kind.{Kind}
use Rattle.entries.specs.declared.kinds.Kind.TheVariants as kind
use Rattle.entries.specs.declared.data.Data.{Data}
use Rattle.entries.specs.declared.data.Data.TheVariants.{Unused, Contribution, AddedCustomer, Bill, Payment, Deposit, DepositReturn, Expiry, Correction, Guarantee, Reduction, Retention, LateCharge}

-- an amount in 32 bits; no entry that was accepted has one that does not fit
abbrev pub narrow : Cents → ℕ
narrow c = min c.0 4294967295

abbrev pub raw_from : Kind → Entry → Cents → ℕ → ℕ → ℕ → ℕ → Raw
raw_from k e amount named_serial a b named_node =
    record {
      kind = number_of k;
      node = e.node;
      account = e.account;
      day = e.day.0;
      serial = e.serial;
      amount = narrow amount;
      named_serial = named_serial;
      a = a;
      b = b;
      named_node = named_node;
    }

-- a field that its kind does not list is zero
abbrev pub raw_with : Entry → Data → Raw
raw_with e Unused = raw_from kind.Unknown e (cents 0) 0 0 0 0
raw_with e (Contribution phases built added closed amount held to_arrears paid_out retained) =
    raw_from kind.Contribution e amount 0 built.0 phases 0
raw_with e (AddedCustomer named shared phases) = raw_from kind.AddedCustomer e (cents 0) named.serial shared.0 phases named.node
raw_with e (Bill charge period served standing corrected) = raw_from kind.Bill e charge 0 period served 0
raw_with e (Payment amount standing corrected) = raw_from kind.Payment e amount 0 0 0 0
raw_with e (Deposit amount rate) = raw_from kind.Deposit e amount 0 rate 0 0
raw_with e DepositReturn = raw_from kind.DepositReturn e (cents 0) 0 0 0 0
raw_with e (Expiry named) = raw_from kind.Expiry e (cents 0) named.serial 0 0 named.node
raw_with e (Correction named amount) = raw_from kind.Correction e amount named.serial 0 0 named.node
raw_with e (Guarantee closed reduced amount held) = raw_from kind.Guarantee e amount 0 0 0 0
raw_with e (Reduction named) = raw_from kind.Reduction e (cents 0) named.serial 0 0 named.node
raw_with e (Retention named) = raw_from kind.Retention e (cents 0) named.serial 0 0 named.node
raw_with e (LateCharge amount) = raw_from kind.LateCharge e amount 0 0 0 0

unfoldable pub raw_of : Entry → Raw
raw_of e = raw_with e e.«data»

abbrev pub entry_record : Entry → Record
entry_record e = record { raw = raw_of e; next = e.next }

-- the entries of an image; no reached book has more than 1,024
abbrev pub entry_count : Book → ℕ
entry_count b = min b.count entries_most

abbrev pub records_of : Book → ℕ → List Record
records_of b n = map entry_record (take n b.entries)

-- the bytes of an image: 24 × (entries + 1)
abbrev pub bytes_of : Book → ℕ
bytes_of b = record_bytes * (entry_count b + 1)

-- the header, and a record for each entry
unfoldable pub image_of : Book → List ℕ
image_of b = header_of (entry_count b) ++ encode_all (records_of b (entry_count b))

-- what a save answers in document 01's numbers
pub record SaveReply : Type 0 where
  pub refusal : ℕ
  pub bytes : ℕ

abbrev pub refused_save : ℕ → SaveReply
refused_save n = record { refusal = n; bytes = 0 }

abbrev pub accepted_save : ℕ → SaveReply
accepted_save n = record { refusal = 0; bytes = n }

unfoldable pub save_reply_of : Result ℕ Refusal → SaveReply
save_reply_of (Err n) = refused_save (refusal_number n)
save_reply_of (Ok n) = accepted_save n

-- 29: a run is open; then 21: the buffer is shorter than the image
abbrev pub save_rows : Book → List ℕ → List Row
save_rows b buf = (is_some b.run ⇒ no.SaveInRun) ∷ (ltb (length buf) (bytes_of b) ⇒ no.BufferShort) ∷ []

unfoldable pub check_save_of : Book → List ℕ → Check
check_save_of b buf = check_rows (save_rows b buf)

unfoldable pub save_of : Book → List ℕ → SaveReply
save_of b buf = decided_of (check_save_of b buf) (λ n. refused_save (refusal_number n)) (accepted_save (bytes_of b))

-- a refused save leaves the buffer; else the image is written over its start, and no other byte is touched
unfoldable pub saved_in : Book → List ℕ → List ℕ
saved_in b buf = decided_of (check_save_of b buf) (λ n. buf) (image_of b ++ drop (bytes_of b) buf)
