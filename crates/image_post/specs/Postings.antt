-- A posting to an image.
use Rattle.std.specs.Prelude.{ℕ, cond, List, [], ◌∷◌, length, eqb, Result, Ok, Err}
use Rattle.entries.specs.Refusals.{refusal_number}
use Rattle.entries.specs.declared.refusals.Refusal.TheVariants as no
use Rattle.entries.specs.declared.raw.Raw.{Raw}
use Rattle.rules.specs.Answers.{posting_reply, posting_reply_of}
use Rattle.rules.specs.declared.answers.PostingReply.{PostingReply}
use Rattle.codec.specs.Records.{record_bytes, record_in}
use Rattle.book.specs.Posting.{post_of}
use Rattle.book.specs.declared.Book.{Book}
use Rattle.saves.specs.Saves.{bytes_of, save_of, saved_in}
use Rattle.loads.specs.Loaded.{LoadedReply, record_number}
use Rattle.loads.specs.declared.Fault.{Fault}
use Rattle.entries.specs.Order.{first_refusal}
use Rattle.image_post.specs.declared.PostingGiven.{PostingGiven}
use Rattle.image_post.specs.declared.Written.{Written}

-- an answer, the image's record at fault, and the length of the image written
abbrev pub posting_given : PostingReply → ℕ → ℕ → PostingGiven
posting_given r faulty bytes =
    record {
      refusal = r.refusal;
      «record» = faulty;
      number = r.number;
      bytes = bytes;
      settled = r.settled;
      paid_out = r.paid_out;
      retained = r.retained;
      interest = r.interest;
    }

abbrev pub refused_posting : ℕ → ℕ → PostingGiven
refused_posting n faulty = posting_given (posting_reply n 0 0 0 0 0) faulty 0

-- an answer with the record at fault as what is given
unfoldable pub posting_given_of : Result Written Fault → PostingGiven
posting_given_of (Err f) = refused_posting (refusal_number f.refusal) (record_number f)
posting_given_of (Ok w) = posting_given (posting_reply_of (Ok w.accepted)) 0 w.bytes

-- what a posting gives, and its output at the end
pub record PostingExit : Type 0 where
  pub given : PostingGiven
  pub output : List ℕ

-- the entry is a record, whose next index is not read
abbrev pub read_entry : List ℕ → Raw
read_entry entry = (record_in entry 0).raw

-- 17: the entry has not 24 bytes
unfoldable pub entry_refusal : List ℕ → ℕ
entry_refusal entry = cond (eqb (length entry) record_bytes) 0 (refusal_number no.ImageLength)

-- 17, then the posting's, then the save's 29 and 21
unfoldable pub post_refusal : Book → List ℕ → List ℕ → ℕ
post_refusal b entry output =
    let p = post_of b (read_entry entry) in
    first_refusal (entry_refusal entry ∷ p.reply.refusal ∷ (save_of p.book output).refusal ∷ [])

-- a refused posting writes nothing
unfoldable pub post_into : Book → List ℕ → List ℕ → PostingExit
post_into b entry output =
    let p = post_of b (read_entry entry) in
    cond (eqb (post_refusal b entry output) 0)
    (record { given = posting_given p.reply 0 (bytes_of p.book); output = saved_in p.book output })
    (record { given = refused_posting (post_refusal b entry output) 0; output = output })

-- the image first
unfoldable pub post_image : LoadedReply → List ℕ → List ℕ → PostingExit
post_image l entry output =
    cond (eqb l.refusal 0) (post_into l.book entry output)
    (record { given = refused_posting l.refusal l.faulty; output = output })
