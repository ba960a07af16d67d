-- Laws of a save, by the turns of its loop.
use Prim.Native.Nat.{ℕ, ◌+◌, ◌-◌, ◌*◌, ◌≤◌, ◌<◌}
use mathlib.Core.Path.{◌≡◌, refl, ap, ◌∙◌}
use mathlib.Core.Bool.{Bool, true, false, cond}
use mathlib.Core.List.{List, [], ◌∷◌, ◌++◌, map-append, append-nil, append_assoc}
use native.Mathlib.Omega.{arith}
use native.Mathlib.Numerals.{add-one}
use lib.ListN.{length, take, drop, get_or, length-map, length-append}
use lib.Seq.{take-suc, length-take-le}
use lib.Dec.{ltb}
use borrow.Author.Tests.{lt-ltb, le-ltb}
use borrow.Rule.Slice.PartMut.{put_mid}
use Rattle.buffers.proofs.Buffers.{over_more}
use Rattle.std.specs.Prelude.{Ok, Err, is_some}
use Rattle.entries.specs.Refusals.{refusal_number, Check, decided_of}
use Rattle.entries.specs.declared.refusals.Refusal.TheVariants as no
use Rattle.entries.specs.declared.data.Entry.{Entry}
use Rattle.entries.proofs.RefusalsLaws.{refusal_above}
use Rattle.codec.specs.Records.{record_bytes, encode_record, encode_all}
use Rattle.codec.specs.Headers.{header_of}
use Rattle.codec.proofs.Records.{length_encode_all, encode_append}
use Rattle.codec.proofs.Headers.{length_header}
use Rattle.book.specs.Fresh.{entries_most}
use Rattle.book.specs.declared.Book.{Book}
use Rattle.saves.specs.Saves.{SaveReply, entry_record, entry_count, records_of, bytes_of, image_of, refused_save, accepted_save, check_save_of, save_of, saved_in}

pub length_records : (b : Book) (n : ℕ) → n ≤ length b.entries → length (records_of b n) ≡ n
length_records b n h = length-map (take n b.entries) entry_record ∙ length-take-le n b.entries h

pub records_step : (b : Book) (i : ℕ) (d : Entry) → i < length b.entries →
    encode_all (records_of b (i + 1)) ≡ encode_all (records_of b i) ++ encode_record (entry_record (get_or b.entries i d))
records_step b i d h =
    rw (
      add-one i,
      take-suc b.entries i d h,
      map-append entry_record (take i b.entries) (get_or b.entries i d ∷ []),
      encode_append (records_of b i) (entry_record (get_or b.entries i d) ∷ []),
      append-nil (encode_record (entry_record (get_or b.entries i d))),
    )

-- the header of n records, and the first i records
abbrev pub begun_of : Book → ℕ → ℕ → List ℕ
begun_of b n i = header_of n ++ encode_all (records_of b i)

pub length_begun : (b : Book) (n i : ℕ) → i ≤ length b.entries → length (begun_of b n i) ≡ record_bytes * (i + 1)
length_begun b n i h =
    omega (arith, length-append (header_of n) (encode_all (records_of b i)), length_header n, length_encode_all (records_of b i), length_records b i h)

-- a turn of the loop: the next record goes just past those that are written
pub save_step : (b : Book) (l m bytes : List ℕ) (n i : ℕ) (d : Entry) → i < length b.entries →
    bytes ≡ encode_record (entry_record (get_or b.entries i d)) → m ≡ begun_of b n i ++ drop (record_bytes * (i + 1)) l →
    put_mid (record_bytes * (i + 1)) (record_bytes * (i + 1) + record_bytes - record_bytes * (i + 1)) m bytes ≡
    begun_of b n (i + 1) ++ drop (record_bytes * (i + 1 + 1)) l
save_step b l m bytes n i d h e k =
    let r = encode_record (entry_record (get_or b.entries i d)) in
    let width : record_bytes * (i + 1) + record_bytes - record_bytes * (i + 1) ≡ record_bytes = omega arith in
    let end : record_bytes * (i + 1) + record_bytes ≡ record_bytes * (i + 1 + 1) = omega arith in
    rw (e, width, records_step b i d h, ← append_assoc (header_of n) (encode_all (records_of b i)) r, ← end)
    (over_more (begun_of b n i) r l m (record_bytes * (i + 1)) record_bytes (length_begun b n i (omega arith)) k)

pub length_image : (b : Book) → length b.entries ≡ entries_most → length (image_of b) ≡ bytes_of b
unfolding image_of
length_image b h =
    omega (
      arith,
      length-append (header_of (entry_count b)) (encode_all (records_of b (entry_count b))),
      length_header (entry_count b),
      length_encode_all (records_of b (entry_count b)),
      length_records b (entry_count b) (omega arith),
    )

-- a run is open
check_in_run : (b : Book) (l : List ℕ) → is_some b.run ≡ true → check_save_of b l ≡ Err no.SaveInRun
unfolding check_save_of
check_in_run b l h = rw h refl

pub save_in_run : (b : Book) (l : List ℕ) → is_some b.run ≡ true → (save_of b l ≡ refused_save 29) × (saved_in b l ≡ l)
unfolding save_of saved_in decided_of
save_in_run b l h = (rw (check_in_run b l h) refl, rw (check_in_run b l h) refl)

-- none is: the buffer's length decides
pub save_no_run : (b : Book) (l : List ℕ) → is_some b.run ≡ false →
    (save_of b l ≡ cond (ltb (length l) (bytes_of b)) (refused_save 21) (accepted_save (bytes_of b))) ×
    (saved_in b l ≡ cond (ltb (length l) (bytes_of b)) l (image_of b ++ drop (bytes_of b) l))
unfolding save_of saved_in decided_of check_save_of
save_no_run b l none = rw none (by (ltb (length l) (bytes_of b)))
  where
    by : (t : Bool) →
        (decided_of (cond t (Err no.BufferShort) (Ok tt)) (λ n. refused_save (refusal_number n)) (accepted_save (bytes_of b)) ≡ cond t (refused_save 21) (accepted_save (bytes_of b))) ×
        (decided_of (cond t (Err no.BufferShort) (Ok tt)) (λ n. l) (image_of b ++ drop (bytes_of b) l) ≡ cond t l (image_of b ++ drop (bytes_of b) l))
    by true = (refl, refl)
    by false = (refl, refl)

-- there is no room
pub save_short : (b : Book) (l : List ℕ) → is_some b.run ≡ false → length l < bytes_of b → (save_of b l ≡ refused_save 21) × (saved_in b l ≡ l)
save_short b l none h =
    let by = save_no_run b l none in
    (rw (by.0, lt-ltb _ _ h) refl, rw (by.1, lt-ltb _ _ h) refl)

-- there is: the header and the records are written
pub save_done : (b : Book) (l m : List ℕ) (n : ℕ) → is_some b.run ≡ false → n ≡ entry_count b → record_bytes * (n + 1) ≤ length l →
    m ≡ begun_of b n n ++ drop (record_bytes * (n + 1)) l → (accepted_save (record_bytes * (n + 1)) ≡ save_of b l) × (m ≡ saved_in b l)
unfolding image_of
save_done b l m n none e h k =
    let by = save_no_run b l none in
    let big : ltb (length l) (bytes_of b) ≡ false = le-ltb (length l) (bytes_of b) (omega arith) in
    (rw (by.0, big, e) refl, rw (by.1, big, k, e) refl)

-- WHAT A SAVE'S ANSWER TELLS

pub save_size : (b : Book) (l : List ℕ) (n : ℕ) → accepted_save n ≡ save_of b l → n ≡ bytes_of b
unfolding save_of decided_of
save_size b l n e = by (check_save_of b l) e
  where
    by : (c : Check) → accepted_save n ≡ decided_of c (λ m. refused_save (refusal_number m)) (accepted_save (bytes_of b)) → n ≡ bytes_of b
    by (Ok x) h = ap (λ (q : SaveReply). q.bytes) h
    by (Err m) h = let z : 0 ≡ refusal_number m = ap (λ (q : SaveReply). q.refusal) h in absurd (omega (arith, refusal_above m))

-- a refused save leaves the buffer
pub save_left : (b : Book) (l : List ℕ) (k : ℕ) → 0 < k → refused_save k ≡ save_of b l → saved_in b l ≡ l
unfolding save_of saved_in decided_of
save_left b l k above e = by (check_save_of b l) e
  where
    by : (c : Check) → refused_save k ≡ decided_of c (λ m. refused_save (refusal_number m)) (accepted_save (bytes_of b)) →
        decided_of c (λ m. l) (image_of b ++ drop (bytes_of b) l) ≡ l
    by (Ok x) h = let z : k ≡ 0 = ap (λ (q : SaveReply). q.refusal) h in absurd (omega arith)
    by (Err m) h = refl
