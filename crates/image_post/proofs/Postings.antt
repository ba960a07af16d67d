-- Laws of a posting to an image: which refusal stands first, and what an accepted one leaves.
use Prim.Native.Nat.{ℕ}
use mathlib.Core.Path.{◌≡◌, refl, sym, ap, ◌∙◌}
use mathlib.Core.List.{List}
use native.Mathlib.Omega.{arith}
use lib.ListN.{length}
use borrow.Author.Tests.{eq-eqb, ne_eqb}
use Rattle.entries.specs.Refusals.{refusal_number}
use Rattle.entries.specs.declared.refusals.Refusal.{Refusal}
use Rattle.book.specs.declared.Book.{Book}
use Rattle.book.specs.Posting.{post_of}
use Rattle.saves.specs.Saves.{SaveReply, refused_save, accepted_save, save_of, saved_in}
use Rattle.entries.proofs.Order.{first_here, first_later, first_only}
use Rattle.entries.proofs.RefusalsLaws.{refusal_above, is_refusal}
use Rattle.saves.proofs.Saves.{save_size, save_left}
use Rattle.codec.specs.Records.{record_bytes}
use Rattle.image_post.specs.Postings.{posting_given, refused_posting, read_entry, entry_refusal, post_refusal, post_into}

pub post_17 : (b : Book) (entry output : List ℕ) → (length entry ≡ record_bytes → ⊥) →
    record { given = refused_posting 17 0; output = output } ≡ post_into b entry output
unfolding post_into post_refusal entry_refusal
post_17 b entry output h = rw (ne_eqb (length entry) record_bytes h, first_here 17 _ (omega arith)) refl

pub post_refused : (b : Book) (entry output : List ℕ) (n : Refusal) → length entry ≡ record_bytes →
    (post_of b (read_entry entry)).reply.refusal ≡ refusal_number n →
    record { given = refused_posting (refusal_number n) 0; output = output } ≡ post_into b entry output
unfolding post_into post_refusal entry_refusal
post_refused b entry output n h e =
    rw (eq-eqb (length entry) record_bytes h, first_later 0 _ refl, e, first_here (refusal_number n) _ (refusal_above n), is_refusal n) refl

pub post_saved : (b : Book) (entry output : List ℕ) → length entry ≡ record_bytes → (post_of b (read_entry entry)).reply.refusal ≡ 0 →
    post_refusal b entry output ≡ (save_of (post_of b (read_entry entry)).book output).refusal
unfolding post_refusal entry_refusal
post_saved b entry output h e =
    rw (eq-eqb (length entry) record_bytes h, first_later 0 _ refl, first_later _ _ e, first_only _) refl

pub post_accepted : (b next : Book) (entry output after : List ℕ) (n : ℕ) → length entry ≡ record_bytes →
    (post_of b (read_entry entry)).reply.refusal ≡ 0 → next ≡ (post_of b (read_entry entry)).book → accepted_save n ≡ save_of next output →
    after ≡ saved_in next output →
    record { given = posting_given (post_of b (read_entry entry)).reply 0 n; output = after } ≡ post_into b entry output
unfolding post_into
post_accepted b next entry output after n h e q saved left =
    let none : post_refusal b entry output ≡ 0 = post_saved b entry output h e ∙ ap (λ (x : Book). (save_of x output).refusal) (sym q) ∙ ap (λ (x : SaveReply). x.refusal) (sym saved) in
    rw (eq-eqb (post_refusal b entry output) 0 none, left, save_size next output n saved, q) refl

-- where the save is refused
pub post_unsaved : (b next : Book) (entry output after : List ℕ) (n : Refusal) → length entry ≡ record_bytes →
    (post_of b (read_entry entry)).reply.refusal ≡ 0 → next ≡ (post_of b (read_entry entry)).book →
    refused_save (refusal_number n) ≡ save_of next output → after ≡ saved_in next output →
    record { given = refused_posting (refusal_number n) 0; output = after } ≡ post_into b entry output
unfolding post_into
post_unsaved b next entry output after n h e q saved left =
    let by : post_refusal b entry output ≡ refusal_number n = post_saved b entry output h e ∙ ap (λ (x : Book). (save_of x output).refusal) (sym q) ∙ ap (λ (x : SaveReply). x.refusal) (sym saved) in
    rw (by, is_refusal n, left, save_left next output (refusal_number n) (refusal_above n) saved) refl
