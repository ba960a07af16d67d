-- Laws of a carry-over into an image: how entries are posted, which refusal stands first, and what an accepted one leaves.
use Prim.Native.Nat.{ℕ, suc, ◌+◌, ◌/◌, ◌≤◌, ◌*◌, ◌%◌, ◌<◌, min}
use mathlib.Core.Bool.{Bool, false, true}
use mathlib.Core.Path.{◌≡◌, refl, sym, ap, ◌∙◌}
use mathlib.Core.List.{List, [], ◌∷◌, ◌++◌, map, append_assoc, append-nil}
use native.Mathlib.Numerals.{add-one}
use native.Mathlib.Omega.{arith}
use lib.ListN.{length, take, drop, set, length-set, length-map, take-append-drop}
use lib.Seq.{take-suc-set, drop-set-lt}
use Rattle.entries.specs.declared.raw.Raw.{Raw}
use Rattle.codec.specs.Records.{record_bytes, decode_all}
use Rattle.codec.specs.declared.Record.{Record}
use Rattle.codec.proofs.Records.{length_decode_all}
use Rattle.book.specs.Posting.{post_of, posts_of}
use Rattle.book.specs.declared.Book.{Book}
use Rattle.carry.specs.Carry.{refusals_of, carry_refusal_of, carry_results_of}
use Rattle.loads.specs.Loaded.{raw_in}
use Rattle.image_carry.specs.Carries.{read_entries, next_of, put_all, accepted_carry, refused_carry, entries_refusal, carry_refusal, carry_into}
use lib.Dec.{ltb}
use borrow.Author.Tests.{eq-eqb, ne_eqb, lt-ltb, le-ltb}
use Rattle.entries.specs.Refusals.{refusal_number}
use Rattle.entries.specs.declared.refusals.Refusal.{Refusal}
use Rattle.book.proofs.Posting.{posts_count, posts_run}
use Rattle.saves.specs.Saves.{SaveReply, refused_save, accepted_save, bytes_of, save_of, saved_in}
use Rattle.entries.proofs.Order.{first_here, first_later, first_only}
use Rattle.entries.proofs.RefusalsLaws.{refusal_above}
use Rattle.saves.proofs.Saves.{save_in_run, save_no_run, save_size}
use Rattle.book.specs.Fresh.{entries_most}
use Rattle.std.specs.Prelude.{is_some}

-- what is left of the entries from a place on: none, or one and those after it
pub posts_next : (rs rest : List Record) (r : Record) (b : Book) → rs ≡ r ∷ rest → posts_of b (map raw_in rs) ≡ posts_of (post_of b r.raw).book (map raw_in rest)
unfolding posts_of
posts_next rs rest r b e = rw e refl

pub posts_end : (rs : List Record) (b : Book) → rs ≡ [] → posts_of b (map raw_in rs) ≡ b
unfolding posts_of
posts_end rs b e = rw e refl

pub put_next : (rs rest : List Record) (r : Record) (b : Book) (l : List ℕ) (i : ℕ) → rs ≡ r ∷ rest →
    put_all l i (refusals_of b (map raw_in rs)) ≡ put_all (set l i (post_of b r.raw).reply.refusal) (i + 1) (refusals_of (post_of b r.raw).book (map raw_in rest))
unfolding put_all refusals_of
put_next rs rest r b l i e = rw e refl

pub put_end : (rs : List Record) (b : Book) (l : List ℕ) (i : ℕ) → rs ≡ [] → put_all l i (refusals_of b (map raw_in rs)) ≡ l
unfolding put_all refusals_of
put_end rs b l i e = rw e refl

pub length_entries : (entries : List ℕ) → length (read_entries entries) ≡ length entries / record_bytes
unfolding read_entries
length_entries entries = length-map (decode_all (length entries / record_bytes) entries) raw_in ∙ length_decode_all (length entries / record_bytes) entries

length_refusals : (b : Book) (rs : List Raw) → length (refusals_of b rs) ≡ length rs
unfolding refusals_of
length_refusals b [] = refl
length_refusals b (r ∷ rs) = ap suc (length_refusals (post_of b r).book rs)

put_all_lem : (xs l : List ℕ) (i : ℕ) → i + length xs ≤ length l → put_all l i xs ≡ take i l ++ xs ++ drop (i + length xs) l
unfolding put_all
put_all_lem [] l i h = let z : i + 0 ≡ i = omega arith in rw (z, append-nil (take i l)) (sym (take-append-drop i l))
put_all_lem (x ∷ xs) l i h =
    let d : i + 1 + length xs ≡ i + suc (length xs) = omega arith in
    put_all_lem xs (set l i x) (i + 1) (omega (arith, length-set l i x)) ∙
    rw (drop-set-lt (i + 1 + length xs) l i x (omega arith), d, add-one i, take-suc-set l i x (omega arith))
    (ap (λ (p : List ℕ). p ++ drop (i + suc (length xs)) l) (append_assoc (take i l) (x ∷ []) xs))

-- where the result list has a place for each entry
pub results_put : (b : Book) (rs : List Raw) (l : List ℕ) → length rs ≤ length l →
    put_all l 0 (refusals_of b rs) ≡ refusals_of b rs ++ drop (length rs) l
results_put b rs l h =
    let n : 0 + length (refusals_of b rs) ≡ length rs = omega (arith, length_refusals b rs) in
    put_all_lem (refusals_of b rs) l 0 (omega (arith, length_refusals b rs)) ∙
    ap (λ (p : List ℕ). p ++ refusals_of b rs ++ drop (0 + length (refusals_of b rs)) l) (none l) ∙
    ap (λ (m : ℕ). refusals_of b rs ++ drop m l) n
  where
    none : (l : List ℕ) → take 0 l ≡ []
    none [] = refl
    none (x ∷ l) = refl

-- the image after the entries has a record for each entry at most
pub image_most : (b : Book) (entries : List ℕ) → bytes_of (next_of b entries) ≤ record_bytes * (min (min b.count entries_most + length entries / record_bytes) entries_most + 1)
image_most b entries = omega (arith, posts_count b (read_entries entries), length_entries entries)

-- a list leaves the run as it is
next_run : (b : Book) (entries : List ℕ) (t : Bool) → is_some b.run ≡ t → is_some (next_of b entries).run ≡ t
next_run b entries t e = ap is_some (posts_run b (read_entries entries)) ∙ e

pub carry_17 : (b : Book) (entries results output : List ℕ) → (length entries % record_bytes ≡ 0 → ⊥) →
    record { given = refused_carry 17 0; results = results; output = output } ≡ carry_into b entries results output
unfolding carry_into carry_refusal entries_refusal
carry_17 b entries results output h = rw (ne_eqb (length entries % record_bytes) 0 h, first_here 17 _ (omega arith)) refl

pub carry_22 : (b : Book) (entries results output : List ℕ) → length entries % record_bytes ≡ 0 → length results < length entries / record_bytes →
    record { given = refused_carry 22 0; results = results; output = output } ≡ carry_into b entries results output
unfolding carry_into carry_refusal entries_refusal carry_refusal_of
carry_22 b entries results output h k =
    let short = lt-ltb (length results) (length (read_entries entries)) (omega (arith, length_entries entries)) in
    rw (eq-eqb (length entries % record_bytes) 0 h, first_later 0 _ refl, short, first_here 22 _ (omega arith)) refl

-- where the entries and the result list are in order
module _ (b : Book) (entries results output : List ℕ) (h : length entries % record_bytes ≡ 0) (k : length entries / record_bytes ≤ length results) where
  long : ltb (length results) (length (read_entries entries)) ≡ false
  long = le-ltb (length results) (length (read_entries entries)) (omega (arith, length_entries entries))

  carry_saved : carry_refusal b entries results output ≡ (save_of (next_of b entries) output).refusal
  unfolding carry_refusal entries_refusal carry_refusal_of
  carry_saved = rw (eq-eqb (length entries % record_bytes) 0 h, first_later 0 _ refl, long, first_later 0 _ refl, first_only _) refl

  pub carry_29 : is_some b.run ≡ true →
      record { given = refused_carry 29 0; results = results; output = output } ≡ carry_into b entries results output
  unfolding carry_into
  carry_29 e = rw (carry_saved, (save_in_run (next_of b entries) output (next_run b entries true e)).0) refl

  pub carry_21 : is_some b.run ≡ false → ltb (length output) (bytes_of (next_of b entries)) ≡ true →
      record { given = refused_carry 21 0; results = results; output = output } ≡ carry_into b entries results output
  unfolding carry_into
  carry_21 none e = rw (carry_saved, (save_no_run (next_of b entries) output (next_run b entries false none)).0, e) refl

  pub carry_accepted : (next : Book) (marked after : List ℕ) (n : ℕ) → next ≡ next_of b entries → accepted_save n ≡ save_of next output →
      marked ≡ put_all results 0 (refusals_of b (read_entries entries)) → after ≡ saved_in next output →
      record { given = accepted_carry n; results = marked; output = after } ≡ carry_into b entries results output
  unfolding carry_into carry_results_of
  carry_accepted next marked after n q saved put left =
      let none : carry_refusal b entries results output ≡ 0 = carry_saved ∙ ap (λ (x : Book). (save_of x output).refusal) (sym q) ∙ ap (λ (x : SaveReply). x.refusal) (sym saved) in
      let written = put ∙ results_put b (read_entries entries) results (omega (arith, length_entries entries)) in
      rw (eq-eqb (carry_refusal b entries results output) 0 none, long, left, written, save_size next output n saved, q) refl

  -- where no run is open, an output that is not too short is not refused
  pub carry_fits : (next : Book) (n : Refusal) → is_some b.run ≡ false → next ≡ next_of b entries →
      ltb (length output) (bytes_of (next_of b entries)) ≡ false → refused_save (refusal_number n) ≡ save_of next output → ⊥
  carry_fits next n none q e saved =
      let fits : refused_save (refusal_number n) ≡ accepted_save (bytes_of (next_of b entries)) =
      saved ∙ rw (q, (save_no_run (next_of b entries) output (next_run b entries false none)).0, e) refl in
      let z : refusal_number n ≡ 0 = ap (λ (x : SaveReply). x.refusal) fits in
      omega (arith, refusal_above n)
