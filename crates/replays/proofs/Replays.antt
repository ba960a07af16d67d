-- Laws of records that come in one after another, record by record.
use Prim.Native.Nat.{ℕ, ◌+◌}
use mathlib.Core.Path.{◌≡◌, refl, sym, ap, ◌∙◌}
use mathlib.Core.Bool.{Bool, true, false, cond, not, ◌&&◌}
use mathlib.Core.List.{List, [], ◌∷◌}
use native.Mathlib.Omega.{arith}
use lib.Dec.{eqb}
use lib.ListN.{set}
use borrow.Author.Tests.{eq-eqb}
use Rattle.std.specs.Prelude.{MatchResult}
use Rattle.entries.specs.Data.{one_more}
use Rattle.entries.specs.Refusals.{refusal_number}
use Rattle.entries.specs.declared.refusals.Refusal.{Refusal}
use Rattle.entries.proofs.RefusalsLaws.{refusal_above, is_refusal}
use Rattle.rules.specs.Answers.{PostingAnswer, posting_reply_of}
use Rattle.rules.proofs.AnswersLaws.{numbered}
use Rattle.rules.specs.declared.accounts.Account.{Account}
use Rattle.codec.specs.declared.Record.{Record}
use Rattle.book.specs.Posting.{PostedReply, account_at}
use Rattle.book.specs.declared.Book.{Book}
use Rattle.loads.specs.Loaded.{accepted_load, refused_load, record_refusal}
use Rattle.replays.specs.Replays.{comes_in, stop_number, replay_of}

-- what ends the records at one is its refusal, where they are an image's
stop_is : (image : Bool) (b : Book) (r : Record) →
    stop_number image (comes_in image b r.raw).reply.refusal r.next (account_at b r.raw.account).newest ≡ cond image (record_refusal b r) 0
unfolding stop_number record_refusal
stop_is true b r = refl
stop_is false b r = refl

passes : (image : Bool) (n : ℕ) → 0 ≡ cond image n 0 → image && not (eqb n 0) ≡ false
passes true n h = rw (eq-eqb n 0 (sym h)) refl
passes false n h = refl

stops : (image : Bool) (n : ℕ) (f : Refusal) → refusal_number f ≡ cond image n 0 → (n ≡ refusal_number f) × (image && not (eqb n 0) ≡ true)
stops true n f h = (sym h, rw (← h, is_refusal f) refl)
stops false n f h = absurd (omega (arith, h, refusal_above f))

-- a turn: the first record that is left, the answer to its entry, its account, and the list with the result at its place
module _ (image : Bool) (rs rest : List Record) (r : Record) (b next : Book) (a : PostingAnswer) (x : Account) (l m : List ℕ) (i n : ℕ) (e : rs ≡ r ∷ rest)
    (taken : record { book = next; reply = posting_reply_of a } ≡ comes_in image b r.raw) (account : x ≡ account_at b r.raw.account)
    (told : MatchResult a (λ _. n ≡ 0) (λ f. n ≡ refusal_number f)) (marked : m ≡ set l i n) where
  refusal : (posting_reply_of a).refusal ≡ (comes_in image b r.raw).reply.refusal
  refusal = ap (λ (p : PostedReply). p.reply.refusal) taken

  number : n ≡ (comes_in image b r.raw).reply.refusal
  number = numbered a n told ∙ refusal

  ends : (k : ℕ) → k ≡ stop_number image (posting_reply_of a).refusal r.next x.newest → k ≡ cond image (record_refusal b r) 0
  ends k h = (rw (refusal, account) at h) ∙ stop_is image b r

  -- a record that ends nothing
  pub replay_next : 0 ≡ stop_number image (posting_reply_of a).refusal r.next x.newest → replay_of image rs b l i ≡ replay_of image rest next m (i + 1)
  unfolding replay_of
  replay_next goes = rw (e, passes image (record_refusal b r) (ends 0 goes), ap (λ (p : PostedReply). p.book) taken, marked, number) refl

  -- the refusal that ends an image
  pub replay_stop : (f : Refusal) → refusal_number f ≡ stop_number image (posting_reply_of a).refusal r.next x.newest →
      record { loaded = refused_load (refusal_number f) (one_more b.count); results = m } ≡ replay_of image rs b l i
  unfolding replay_of
  replay_stop f refused =
      let ended = stops image (record_refusal b r) f (ends (refusal_number f) refused) in
      rw (e, ended.1, ended.0, marked, number) refl

pub replay_end : (image : Bool) (rs : List Record) (b : Book) (l : List ℕ) (i : ℕ) → rs ≡ [] →
    record { loaded = accepted_load b; results = l } ≡ replay_of image rs b l i
unfolding replay_of
replay_end image rs b l i e = rw e refl
