-- A carry-over: the other node's entries, each posted in turn.
use Rattle.std.specs.Prelude.{ℕ, Bool, cond, List, [], ◌∷◌, ◌++◌, length, drop, ltb}
use Rattle.entries.specs.Refusals.{refusal_number, check_number, Check}
use Rattle.entries.specs.declared.raw.Raw.{Raw}
use Rattle.entries.specs.declared.refusals.Refusal.TheVariants as no
use Rattle.book.specs.Posting.{post_of, posts_of}
use Rattle.book.specs.declared.Book.{Book}
use Rattle.book.specs.declared.Next.{Next}

-- the refusal number of each entry, or 0, where each is posted in turn
unfoldable pub refusals_of : Book → List Raw → List ℕ
refusals_of b [] = []
refusals_of b (r ∷ rs) = (post_of b r).reply.refusal ∷ refusals_of (post_of b r).book rs

-- 22: the result list is shorter than the entries; nothing is posted, and the list is not written
abbrev pub short_of : List Raw → List ℕ → Bool
short_of rs results = ltb (length results) (length rs)

unfoldable pub carry_refusal_of : List Raw → List ℕ → ℕ
carry_refusal_of rs results = cond (short_of rs results) (refusal_number no.ResultsShort) 0

unfoldable pub carry_book_of : Book → List Raw → List ℕ → Book
carry_book_of b rs results = cond (short_of rs results) b (posts_of b rs)

-- each refusal number, or 0, at the place of its entry; further places are unchanged
unfoldable pub carry_results_of : Book → List Raw → List ℕ → List ℕ
carry_results_of b rs results = cond (short_of rs results) results (refusals_of b rs ++ drop (length rs) results)

-- what a carry-over gives beside the result list, the answer in document 01's numbers
pub record CarriedReply : Type 0 where
  pub book : Book
  pub refusal : ℕ

abbrev pub carried_reply : Next Check → CarriedReply
carried_reply c = record { book = c.book; refusal = check_number c.answer }

abbrev pub carry_of : Book → List Raw → List ℕ → CarriedReply
carry_of b rs results = record { book = carry_book_of b rs results; refusal = carry_refusal_of rs results }
