-- What a posting answers, in the documents' numbers.
use Rattle.std.specs.Prelude.{ℕ, Result, Ok, Err}
use Rattle.measures.specs.declared.Cents.{Cents}
use Rattle.entries.specs.Refusals.{refusal_number}
use Rattle.rules.specs.declared.answers.Amounts.{Amounts}
use Rattle.entries.specs.declared.refusals.Refusal.{Refusal}
use Rattle.rules.specs.declared.answers.Accepted.{Accepted}
use Rattle.rules.specs.declared.answers.PostingReply.{PostingReply}

abbrev pub amounts_of : Cents → Cents → Cents → Cents → Amounts
amounts_of settled paid_out retained interest =
    record { settled = settled; paid_out = paid_out; retained = retained; interest = interest }

abbrev pub posting_reply : ℕ → ℕ → ℕ → ℕ → ℕ → ℕ → PostingReply
posting_reply refusal number settled paid_out retained interest =
    record { refusal = refusal; number = number; settled = settled; paid_out = paid_out; retained = retained; interest = interest }

abbrev pub PostingAnswer : Type 0
PostingAnswer = Result Accepted Refusal

-- refused: the number and otherwise zeros; accepted: the entry's number and the four amounts
unfoldable pub posting_reply_of : PostingAnswer → PostingReply
posting_reply_of (Err n) = posting_reply (refusal_number n) 0 0 0 0 0
posting_reply_of (Ok a) =
    posting_reply 0 a.number a.amounts.settled.0 a.amounts.paid_out.0 a.amounts.retained.0 a.amounts.interest.0
