-- Laws of what a posting answers.
use mathlib.Core.Path.{◌≡◌}
use Prim.Native.Nat.{ℕ}
use Rattle.std.specs.Prelude.{Ok, Err, MatchResult}
use Rattle.entries.specs.Refusals.{refusal_number}
use Rattle.rules.specs.Answers.{PostingAnswer, posting_reply_of}

-- an answer's refusal number is its reply's
pub numbered : (a : PostingAnswer) (n : ℕ) → MatchResult a (λ _. n ≡ 0) (λ r. n ≡ refusal_number r) → n ≡ (posting_reply_of a).refusal
unfolding posting_reply_of
numbered (Ok x) n e = e
numbered (Err r) n e = e
