-- What a turn of `carry_over` knows of the books and the lists.
--     Turn b₀ xs rs i b zs    i of the entries xs are posted to b₀, which made b; the result list, rs at first, is zs
--     next                    after one more
--     refused, accepted       what the contract says where the result list is too short, and at the end
use Rattle.std.proofs.Common.{◌≡◌, refl, sym, ◌∙◌, ap, ℕ, ◌+◌, ◌<◌, ◌≤◌, add-one, arith, true, false, List, [], ◌∷◌, ◌++◌, length, take, drop, append_assoc, append-nil, take-append-drop}
use Rattle.std.proofs.Math.ListN.{get_or, set}
use Rattle.std.proofs.Math.Seq.{drop-cons, take-suc-set, drop-length}
use Rattle.std.proofs.lemmas.List.{drop-set-lt, drop-drop}
use borrow.Author.Tests.{lt-ltb, le-ltb}
use Rattle.entries.specs.declared.raw.Raw.{Raw}
use Rattle.entries.specs.declared.refusals.Refusal.TheVariants.{ResultsShort}
use Rattle.book.specs.declared.Book.{Book}
use Rattle.book.specs.Posting.{post_of, posts_of}
use Rattle.entries.specs.Refusals.{check_number, Check}
use Rattle.book.specs.declared.Next.{Next}
use Rattle.std.specs.Prelude.{Ok, Err}
use Rattle.carry.specs.Carry.{refusals_of, short_of, carry_refusal_of, carry_book_of, carry_results_of, carried_reply, carry_of}

-- stands for what lies past the end of the entries
abbrev pub no_raw : Raw
no_raw = record { kind = 0; node = 0; account = 0; day = 0; serial = 0; amount = 0; named_serial = 0; a = 0; b = 0; named_node = 0 }

-- one entry more
posts_one : (b : Book) (xs : List Raw) (i : ℕ) → i < length xs → posts_of b (drop i xs) ≡ posts_of (post_of b (get_or xs i no_raw)).book (drop (i + 1) xs)
unfolding posts_of
posts_one b xs i lt = rw (add-one, drop-cons xs i no_raw)

refusals_one : (b : Book) (xs : List Raw) (i : ℕ) → i < length xs
    → refusals_of b (drop i xs) ≡ (post_of b (get_or xs i no_raw)).reply.refusal ∷ refusals_of (post_of b (get_or xs i no_raw)).book (drop (i + 1) xs)
unfolding refusals_of
refusals_one b xs i lt = rw (add-one, drop-cons xs i no_raw)

-- none left
posts_end : (b : Book) (xs : List Raw) → posts_of b (drop (length xs) xs) ≡ b
unfolding posts_of
posts_end b xs = rw drop-length

refusals_end : (b : Book) (xs : List Raw) → refusals_of b (drop (length xs) xs) ≡ []
unfolding refusals_of
refusals_end b xs = rw drop-length

-- what the contract says of the result r and the result list zs at the end
abbrev pub Said : Book → List Raw → List ℕ → Next Check → List ℕ → Type 0
Said b xs rs r zs = (carried_reply r ≡ carry_of b xs rs) × (zs ≡ carry_results_of b xs rs)

pub refused : (b : Book) (xs : List Raw) (rs : List ℕ) → length rs < length xs → Said b xs rs (record { book = b; answer = Err ResultsShort }) rs
unfolding carry_book_of check_number carry_refusal_of carry_results_of
refused b xs rs lt = let e : short_of xs rs ≡ true = lt-ltb (length rs) (length xs) lt in (rw e refl, rw e refl)

pub record Turn (b₀ : Book) (xs : List Raw) (rs : List ℕ) (i : ℕ) (b : Book) (zs : List ℕ) : Type 0 where
  pub within : i ≤ length xs
  pub posts : posts_of b (drop i xs) ≡ posts_of b₀ xs
  pub said : take i zs ++ refusals_of b (drop i xs) ≡ refusals_of b₀ xs
  pub rest : drop i zs ≡ drop i rs

module _ {b₀ : Book} {xs : List Raw} {rs : List ℕ} {i : ℕ} {b : Book} {zs : List ℕ} (t : Turn b₀ xs rs i b zs) where
  module _ (lt : i < length xs) (here : i < length zs) (b' : Book) (n : ℕ) (eb : b' ≡ (post_of b (get_or xs i no_raw)).book) (en : n ≡ (post_of b (get_or xs i no_raw)).reply.refusal) where
    said_next : take (i + 1) (set zs i n) ++ refusals_of b' (drop (i + 1) xs) ≡ refusals_of b₀ xs
    said_next = rw (add-one, take-suc-set zs i n here, append_assoc, en, eb, ← add-one, ← refusals_one b xs i lt) t.said

    pub next : Turn b₀ xs rs (i + 1) b' (set zs i n)
    next = record {
      within = omega arith;
      posts = rw (eb, ← posts_one b xs i lt) t.posts;
      said = said_next;
      rest = drop-set-lt (i + 1) zs i n (omega arith) ∙ sym (drop-drop 1 i zs) ∙ ap (drop 1) t.rest ∙ drop-drop 1 i rs;
    }

  module _ (fit : length xs ≤ length rs) (ge : length xs ≤ i) where
    all : i ≡ length xs
    all = omega (arith, t.within)

    last_book : b ≡ posts_of b₀ xs
    last_book = rw (← posts_end b xs, ← all) t.posts

    last_results : zs ≡ refusals_of b₀ xs ++ drop (length xs) rs
    last_results = let e : take i zs ≡ refusals_of b₀ xs = sym (append-nil (take i zs)) ∙ (rw (← refusals_end b xs, ← all) t.said) in rw (← take-append-drop i zs, e, t.rest, all) refl

    long : short_of xs rs ≡ false
    long = le-ltb (length rs) (length xs) fit

    pub accepted : Said b₀ xs rs (record { book = b; answer = Ok tt }) zs
    unfolding carry_book_of check_number carry_refusal_of carry_results_of
    accepted = (rw (long, last_book) refl, rw long last_results)
