-- Postings in turn, and a carry-over, keep book and history in agreement, and answer as the history says.
use Prim.Native.Nat.{ℕ, zero, suc}
use mathlib.Core.Path.{◌≡◌, refl, ap, ap₂, ◌∙◌}
use mathlib.Core.Bool.{cond}
use mathlib.Core.List.{List, [], ◌∷◌}
use Rattle.entries.specs.declared.arrivals.Arrival.{Arrival}
use Rattle.entries.specs.declared.raw.Raw.{Raw}
use Rattle.rules.specs.declared.answers.PostingReply.{PostingReply}
use Rattle.book.specs.Posting.{enter_of, post_of, posts_of}
use Rattle.book.specs.declared.Book.{Book}
use Rattle.book.specs.Runs.{arrival_of}
use Rattle.book.proofs.Posting.{enter_run, posts_run}
use Rattle.carry.specs.Carry.{refusals_of, carry_book_of, carry_results_of}
use Rattle.history.specs.History.{History, Amounts, judge_by, offer, offers, replied_by, replied_of, verdicts, too_short, carry_offers, carry_verdicts}
use Rattle.history.specs.Agreement.{Kept}
use Rattle.history.proofs.Tests.{tested, either}
use Rattle.history.proofs.Agreement.{agreement}

number_of : (n k : ℕ) (x : Amounts) → (replied_by n k x).refusal ≡ n
number_of zero k x = refl
number_of (suc n) k x = refl

pub replied_number : (w : Arrival) (h : History) (r : Raw) → (replied_of w h r).refusal ≡ judge_by w h r
unfolding replied_of
replied_number w h r = number_of (judge_by w h r) _ _

-- the refusal number of an entry that comes in is the history's
pub number_same : (way : Arrival) {b : Book} {h : History} → Kept b h → (r : Raw) → (enter_of way b r).reply.refusal ≡ judge_by way h r
number_same way {b} {h} w r = ap (λ (x : PostingReply). x.refusal) (agreement.replied way b h w r) ∙ replied_number way h r

-- a posting, where a posted entry comes in by `way`
module _ (way : Arrival) {b : Book} {h : History} (w : Kept b h) (so : arrival_of b.run ≡ way) (r : Raw) where
  pub posted_kept : Kept (post_of b r).book (offer way h r)
  unfolding post_of
  posted_kept = rw so (agreement.entered way b h w r)

  pub posted_same : (post_of b r).reply ≡ replied_of way h r
  unfolding post_of
  posted_same = rw so (agreement.replied way b h w r)

  -- it leaves the run as it is, so that the next one comes in likewise
  pub posted_run : (post_of b r).book.run ≡ b.run
  unfolding post_of
  posted_run = enter_run (arrival_of b.run) b r

  so_again : arrival_of (post_of b r).book.run ≡ way
  so_again = rw posted_run so

pub posts_same : (way : Arrival) {b : Book} {h : History} → Kept b h → arrival_of b.run ≡ way → (rs : List Raw) →
    Kept (posts_of b rs) (offers way h rs) × (refusals_of b rs ≡ verdicts way h rs)
unfolding posts_of refusals_of
posts_same way w so [] = (w, refl)
posts_same way {b} {h} w so (r ∷ rs) =
    let rest = posts_same way {b = (post_of b r).book} {h = offer way h r} (posted_kept way w so r) (so_again way w so r) rs in
    (rest.0, ap₂ (λ n ns. n ∷ ns) (ap (λ (x : PostingReply). x.refusal) (posted_same way w so r) ∙ replied_number way h r) rest.1)

module _ (way : Arrival) {b : Book} {h : History} (w : Kept b h) (so : arrival_of b.run ≡ way) (rs : List Raw) (results : List ℕ) where
  pub results_same : carry_results_of b rs results ≡ carry_verdicts way h rs results
  unfolding carry_results_of
  results_same = rw (posts_same way w so rs).1 refl

  pub carried_kept : Kept (carry_book_of b rs results) (carry_offers way h rs results)
  unfolding carry_book_of
  carried_kept = either Kept (too_short rs results) (λ e. w) (λ e. (posts_same way w so rs).0)

-- it leaves the run as it is
pub carried_run : (b : Book) (rs : List Raw) (results : List ℕ) → let next = carry_book_of b rs results in next.run ≡ b.run
unfolding carry_book_of
carried_run b rs results =
    tested (λ t. let next = cond t b (posts_of b rs) in next.run ≡ b.run) (too_short rs results) (λ e. refl)
    (λ e. posts_run b rs)
