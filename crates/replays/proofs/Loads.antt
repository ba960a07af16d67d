-- The records of an image that passes the checks, replayed in a fresh book, are its load.
use Prim.Native.Nat.{ℕ, ◌+◌, ◌-◌, ◌/◌, ◌<◌, ◌≤◌}
use mathlib.Core.Path.{◌≡◌, refl, ap, sym, ◌∙◌}
use mathlib.Core.Bool.{Bool, true, false, cond, not}
use mathlib.Core.List.{List, [], ◌∷◌}
use native.Mathlib.Nat.{min-eq_left}
use native.Mathlib.Omega.{arith}
use lib.Dec.{eqb}
use lib.ListN.{length, take, drop, set, length-drop}
use lib.Seq.{take_all}
use borrow.Author.Tests.{eqb-true}
use Rattle.std.specs.Prelude.{Ok, Err}
use Rattle.entries.specs.Data.{one_more}
use Rattle.entries.specs.declared.arrivals.Arrival.TheVariants.{Recorded}
use Rattle.entries.specs.declared.raw.Raw.{Raw}
use Rattle.entries.proofs.RefusalsLaws.{refusal_above}
use Rattle.rules.specs.Answers.{posting_reply_of}
use Rattle.changes.specs.Changes.{Decision}
use Rattle.codec.specs.Records.{record_bytes, decode_all}
use Rattle.codec.specs.Headers.{check_of, count_in}
use Rattle.codec.specs.declared.Record.{Record}
use Rattle.codec.proofs.Headers.{checked}
use Rattle.book.specs.Fresh.{fresh_book, entries_most}
use Rattle.book.specs.Posting.{record_of, enter_of, stored_of, decided_book, decision_of, answer_of}
use Rattle.book.specs.declared.Book.{Book}
use Rattle.book.proofs.Posting.{room}
use Rattle.loads.specs.Loaded.{refused_load, record_refusal}
use Rattle.loads.specs.Loads.{load_all, load_of}
use Rattle.loads.proofs.Loads.{load_begins, stop_none}
use Rattle.replays.specs.Replays.{ReplayExit, listed_in, replay_of}

-- an accepted entry found room, and counts one up
record_counts : (b : Book) (r : Raw) → (record_of b r).reply.refusal ≡ 0 → (b.count < entries_most) × ((record_of b r).book.count ≡ b.count + 1)
unfolding enter_of decided_book stored_of answer_of posting_reply_of
record_counts b r = by (decision_of Recorded b r) refl
  where
    by : (o : Decision) → decision_of Recorded b r ≡ o → (posting_reply_of (answer_of o (b.count + 1))).refusal ≡ 0 →
        (b.count < entries_most) × ((decided_book b r o).count ≡ b.count + 1)
    by (Err n) d e = absurd (omega (arith, refusal_above n))
    by (Ok c) d e = (room Recorded b r c d, refl)

-- a replay numbers a record by the book's count, and a load by its place
replay_records : (rs : List Record) (b : Book) (l : List ℕ) (i : ℕ) → b.count ≤ entries_most → (replay_of true rs b l i).loaded ≡ load_all rs b (b.count + 1)
unfolding replay_of load_all
replay_records [] b l i g = refl
replay_records (r ∷ rs) b l i g =
    by (eqb (record_refusal b r) 0) refl (replay_records rs (record_of b r.raw).book (set l i (record_of b r.raw).reply.refusal) (i + 1))
  where
    next : Book
    next = (record_of b r.raw).book

    results : List ℕ
    results = set l i (record_of b r.raw).reply.refusal

    rest : ReplayExit
    rest = replay_of true rs next results (i + 1)

    by : (t : Bool) → eqb (record_refusal b r) 0 ≡ t → (next.count ≤ entries_most → rest.loaded ≡ load_all rs next (next.count + 1)) →
        (cond (not t) (record { loaded = refused_load (record_refusal b r) (one_more b.count); results = results }) rest).loaded ≡
        cond t (load_all rs next (b.count + 1 + 1)) (refused_load (record_refusal b r) (b.count + 1))
    by true p again =
        let step = record_counts b r.raw (stop_none b r (eqb-true (record_refusal b r) 0 p)).0 in
        again (omega arith) ∙ ap (λ n. load_all rs next (n + 1)) step.1
    by false p again = ap (refused_load (record_refusal b r)) (min-eq_left (omega arith))

-- what stands behind the header of an image that passes the checks, in a fresh book, whatever the result list
pub replay_loads : (s l : List ℕ) (b : Book) → check_of s ≡ Ok tt → b ≡ fresh_book →
    (replay_of true (listed_in (take (length s - record_bytes) (drop record_bytes s))) b l 0).loaded ≡ load_of s
unfolding fresh_book
replay_loads s l b e fresh =
    let sized = (checked s e).sized in
    let whole = take_all (length s - record_bytes) (drop record_bytes s) (simp length-drop (omega arith)) in
    let n : length (drop record_bytes s) / record_bytes ≡ count_in s = simp length-drop (omega arith) in
    rw (whole, fresh) (replay_records (listed_in (drop record_bytes s)) fresh_book l 0 (omega arith)) ∙
    ap (λ n. load_all (decode_all n (drop record_bytes s)) fresh_book 1) n ∙ sym (load_begins s e)
