-- A refused load gives a fresh book, which has no entries.
use Prim.Native.Nat.{ℕ, ◌+◌}
use mathlib.Core.Path.{◌≡◌, refl, ap, ◌∙◌}
use mathlib.Core.Bool.{Bool, true, false, cond}
use mathlib.Core.List.{List, [], ◌∷◌}
use native.Mathlib.Omega.{arith}
use lib.Dec.{eqb}
use Rattle.std.specs.Prelude.{Ok, Err}
use Rattle.entries.specs.Refusals.{refusal_number, Check, decided_of}
use Rattle.entries.proofs.RefusalsLaws.{refusal_above}
use Rattle.codec.specs.Headers.{check_of}
use Rattle.codec.specs.declared.Record.{Record}
use Rattle.book.specs.Fresh.{fresh_book}
use Rattle.book.specs.Posting.{record_of}
use Rattle.book.specs.declared.Book.{Book}
use Rattle.loads.specs.Loaded.{LoadedReply, loaded_with, refused_load, record_refusal}
use Rattle.loads.specs.Loads.{load_all, records_in, load_of}
use Rattle.loads.specs.declared.Fault.{Fault}
use Rattle.image_read.specs.Checks.{check_given_of, check_given}

none_in_all : (rs : List Record) (b : Book) (i : ℕ) → ((load_all rs b i).refusal ≡ 0 → ⊥) → (load_all rs b i).book.count ≡ 0
unfolding load_all fresh_book
none_in_all [] b i h = absurd (h refl)
none_in_all (r ∷ rs) b i h = by (eqb (record_refusal b r) 0) h (none_in_all rs (record_of b r.raw).book (i + 1))
  where
    more : LoadedReply
    more = load_all rs (record_of b r.raw).book (i + 1)

    by : (t : Bool) → ((cond t more (refused_load (record_refusal b r) i)).refusal ≡ 0 → ⊥) → ((more.refusal ≡ 0 → ⊥) → more.book.count ≡ 0) →
        (cond t more (refused_load (record_refusal b r) i)).book.count ≡ 0
    by true k later = later k
    by false k later = refl

none_in : (s : List ℕ) → ((load_of s).refusal ≡ 0 → ⊥) → (load_of s).book.count ≡ 0
unfolding load_of decided_of fresh_book
none_in s h = by (check_of s) h
  where
    all : LoadedReply
    all = load_all (records_in s) fresh_book 1

    by : (c : Check) → ((decided_of c (λ n. refused_load (refusal_number n) 0) all).refusal ≡ 0 → ⊥) →
        (decided_of c (λ n. refused_load (refusal_number n) 0) all).book.count ≡ 0
    by (Err n) k = refl
    by (Ok x) k = none_in_all (records_in s) fresh_book 1 k

pub refused : (s : List ℕ) (b : Book) (f : Fault) → loaded_with b (Err f) ≡ load_of s → check_given_of (Err f) ≡ check_given (load_of s)
unfolding check_given_of
refused s b f e =
    let above : (load_of s).refusal ≡ 0 → ⊥ = λ z. omega (arith, refusal_above f.refusal, ap (λ (l : LoadedReply). l.refusal) e ∙ z) in
    let none : b.count ≡ 0 = ap (λ (l : LoadedReply). l.book.count) e ∙ none_in s above in
    rw none at (ap check_given e)
