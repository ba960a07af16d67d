-- A list of entries, replayed, is posted as a carry-over posts it.
use Prim.Native.Nat.{ℕ, ◌+◌}
use mathlib.Core.Path.{◌≡◌, refl, sym, ap, ◌∙◌}
use mathlib.Core.Bool.{false}
use mathlib.Core.List.{List, [], ◌∷◌, map}
use lib.ListN.{set}
use Rattle.std.specs.Prelude.{Ok, Err}
use Rattle.codec.specs.declared.Record.{Record}
use Rattle.book.specs.Posting.{post_of, posts_of}
use Rattle.book.specs.declared.Book.{Book}
use Rattle.book.specs.declared.Next.{Next}
use Rattle.carry.specs.Carry.{refusals_of}
use Rattle.loads.specs.Loaded.{LoadAnswer, loaded_with, loaded_reply, accepted_load, raw_in}
use Rattle.replays.specs.Replays.{listed_in, replay_of}
use Rattle.image_carry.specs.Carries.{read_entries, next_of, put_all}

-- nothing ends a list
replay_entries : (rs : List Record) (b : Book) (l : List ℕ) (i : ℕ) →
    replay_of false rs b l i ≡ record { loaded = accepted_load (posts_of b (map raw_in rs)); results = put_all l i (refusals_of b (map raw_in rs)) }
unfolding replay_of post_of posts_of refusals_of put_all
replay_entries [] b l i = refl
replay_entries (r ∷ rs) b l i = replay_entries rs (post_of b r.raw).book (set l i (post_of b r.raw).reply.refusal) (i + 1)

loaded_book : (l : Next LoadAnswer) → (loaded_reply l).book ≡ l.book
unfolding loaded_reply
loaded_book l = by l.answer
  where
    by : (a : LoadAnswer) → (loaded_with l.book a).book ≡ l.book
    by (Ok x) = refl
    by (Err f) = refl

-- what a replay gives, its book and the result list: the book after the entries, and their refusals
pub entries_posted : (b : Book) (entries results m : List ℕ) (l : Next LoadAnswer) →
    record { loaded = loaded_reply l; results = m } ≡ replay_of false (listed_in entries) b results 0 →
    (l.book ≡ next_of b entries) × (m ≡ put_all results 0 (refusals_of b (read_entries entries)))
unfolding read_entries
entries_posted b entries results m l e =
    let posted = e ∙ replay_entries (listed_in entries) b results 0 in
    (sym (loaded_book l) ∙ ap (λ p. p.loaded.book) posted, ap (λ p. p.results) posted)
