-- Laws of a load: its beginning, record after record, and that it records those of its image in turn.
use Prim.Native.Nat.{ℕ, ◌+◌, ◌-◌, ◌/◌, ◌≤◌}
use mathlib.Core.Path.{◌≡◌, refl, ap, sym, ◌∙◌}
use mathlib.Core.Bool.{Bool, true, false, cond}
use mathlib.Core.List.{List, [], ◌∷◌, ◌++◌, map}
use native.Mathlib.Omega.{arith}
use lib.Dec.{eqb}
use lib.ListN.{length, take, drop, length-drop, length-map}
use lib.Seq.{take_all}
use borrow.Author.Tests.{eq-eqb, eqb-true, eqb-false}
use Rattle.std.specs.Prelude.{Ok, Err}
use Rattle.entries.specs.Refusals.{refusal_number, Check, decided_of}
use Rattle.entries.specs.declared.raw.Raw.{Raw}
use Rattle.entries.specs.declared.refusals.Refusal.{Refusal}
use Rattle.entries.specs.declared.refusals.Refusal.TheVariants as no
use Rattle.entries.proofs.RefusalsLaws.{refusal_above, is_refusal}
use Rattle.codec.specs.Records.{record_bytes, decode_record, decode_all}
use Rattle.codec.proofs.Records.{length_decode_all}
use Rattle.codec.specs.Headers.{check_of, count_in}
use Rattle.codec.specs.declared.Record.{Record}
use Rattle.codec.proofs.Headers.{checked}
use Rattle.book.specs.Fresh.{fresh_book, entries_most}
use Rattle.book.specs.Posting.{account_at, record_of}
use Rattle.book.specs.declared.Book.{Book}
use Rattle.loads.specs.Loaded.{LoadedReply, accepted_load, refused_load, record_refusal}
use Rattle.loads.specs.Loads.{load_all, records_in, load_of}

pub load_refused : (s : List ℕ) (n : Refusal) → check_of s ≡ Err n → load_of s ≡ refused_load (refusal_number n) 0
unfolding load_of decided_of
load_refused s n e = rw e

pub load_begins : (s : List ℕ) → check_of s ≡ Ok tt → load_of s ≡ load_all (records_in s) fresh_book 1
unfolding load_of decided_of
load_begins s e = rw e

-- an image that is not refused passes the checks
pub load_checked : (l : List ℕ) → (load_of l).refusal ≡ 0 → check_of l ≡ Ok tt
unfolding load_of decided_of
load_checked l e = by (check_of l) refl e
  where
    by : (c : Check) → check_of l ≡ c → (decided_of c (λ n. refused_load (refusal_number n) 0) (load_all (records_in l) fresh_book 1)).refusal ≡ 0 → check_of l ≡ Ok tt
    by (Ok x) p h = p
    by (Err n) p h = absurd (omega (arith, refusal_above n))

-- RECORDS ONE AFTER ANOTHER

-- a record that does not stop a load was accepted, and its next index is its account's previous entry
pub stop_none : (b : Book) (r : Record) → record_refusal b r ≡ 0 → ((record_of b r.raw).reply.refusal ≡ 0) × (r.next ≡ (account_at b r.raw.account).newest)
unfolding record_refusal
stop_none b r = by (eqb (record_of b r.raw).reply.refusal 0) (eqb r.next (account_at b r.raw.account).newest) refl refl
  where
    by : (s t : Bool) → eqb (record_of b r.raw).reply.refusal 0 ≡ s → eqb r.next (account_at b r.raw.account).newest ≡ t →
        cond s (cond t 0 (refusal_number no.NextIndex)) (record_of b r.raw).reply.refusal ≡ 0 →
        ((record_of b r.raw).reply.refusal ≡ 0) × (r.next ≡ (account_at b r.raw.account).newest)
    by true true p q h = (eqb-true _ 0 p, eqb-true _ _ q)
    by true false p q h = absurd (omega arith)
    by false t p q h = absurd (eqb-false _ 0 p h)

-- and such a one does not
pub none_stops : (b : Book) (r : Raw) → (record_of b r).reply.refusal ≡ 0 → record_refusal b (record { raw = r; next = (account_at b r.account).newest }) ≡ 0
unfolding record_refusal
none_stops b r e = rw (e, eq-eqb (account_at b r.account).newest (account_at b r.account).newest refl)

-- one more record after a load that accepts
pub load_more : (rs : List Record) (r : Record) (begun b : Book) (i : ℕ) → load_all rs begun i ≡ accepted_load b → record_refusal b r ≡ 0 →
    load_all (rs ++ r ∷ []) begun i ≡ accepted_load (record_of b r.raw).book
unfolding load_all
load_more [] r begun b i e h =
    let same : begun ≡ b = ap (λ q. q.book) e in
    rw (same, eq-eqb (record_refusal b r) 0 h)
load_more (q ∷ rs) r begun b i e h = by (eqb (record_refusal begun q) 0) refl (load_more rs r (record_of begun q.raw).book b (i + 1)) e h
  where
    by : (t : Bool) → eqb (record_refusal begun q) 0 ≡ t →
        (load_all rs (record_of begun q.raw).book (i + 1) ≡ accepted_load b → record_refusal b r ≡ 0 →
        load_all (rs ++ r ∷ []) (record_of begun q.raw).book (i + 1) ≡ accepted_load (record_of b r.raw).book) →
        cond t (load_all rs (record_of begun q.raw).book (i + 1)) (refused_load (record_refusal begun q) i) ≡ accepted_load b → record_refusal b r ≡ 0 →
        cond t (load_all (rs ++ r ∷ []) (record_of begun q.raw).book (i + 1)) (refused_load (record_refusal begun q) i) ≡ accepted_load (record_of b r.raw).book
    by true p more e h = more e h
    by false p more e h = absurd (eqb-false _ 0 p (ap (λ (x : LoadedReply). x.refusal) e))

-- the records behind the header of an image that passes the checks: those of the image, and at most 1,024
module _ (s : List ℕ) (rs : List (List ℕ)) (e : check_of s ≡ Ok tt)
    (h : let behind = take (length s - record_bytes) (drop record_bytes s) in map decode_record rs ≡ decode_all (length behind / record_bytes) behind) where
  behind : map decode_record rs ≡ records_in s
  behind =
      let sized = (checked s e).sized in
      let whole = take_all (length s - record_bytes) (drop record_bytes s) (simp length-drop (omega arith)) in
      let n : length (drop record_bytes s) / record_bytes ≡ count_in s = simp length-drop (omega arith) in
      rw whole at h ∙ ap (λ n. decode_all n (drop record_bytes s)) n

  pub behind_begin : (b : Book) → b ≡ fresh_book → load_all (map decode_record rs) b 1 ≡ load_of s
  behind_begin b fresh = rw (behind, fresh) (sym (load_begins s e))

  pub behind_few : length rs ≤ entries_most
  behind_few =
      let known = checked s e in
      omega (arith, known.sized, known.short, length-map rs decode_record, ap length behind, length_decode_all (count_in s) (drop record_bytes s))

-- of records in a loop over their bytes, one that is refused, by n, ends a load, and one that is not leaves the others
module _ {s rest : List (List ℕ)} {bytes : List ℕ} {r : Record} (b : Book) (i : ℕ) (e : s ≡ bytes ∷ rest) (decoded : r ≡ decode_record bytes) where
  pub record_stops : (n : Refusal) → refusal_number n ≡ record_refusal b r → load_all (map decode_record s) b i ≡ refused_load (refusal_number n) i
  unfolding load_all
  record_stops n stops = rw (e, ← decoded, ← stops, is_refusal n) refl

  pub record_goes_on : 0 ≡ record_refusal b r → load_all (map decode_record s) b i ≡ load_all (map decode_record rest) (record_of b r.raw).book (i + 1)
  unfolding load_all
  record_goes_on goes = rw (e, ← decoded, eq-eqb (record_refusal b r) 0 (sym goes)) refl

pub none_left : (s : List (List ℕ)) (b : Book) (i : ℕ) → length s ≡ 0 → load_all (map decode_record s) b i ≡ accepted_load b
unfolding load_all
none_left [] b i h = refl
none_left (bytes ∷ s) b i h = absurd (omega arith)
