-- Round trips, for every list of calls and for every image that loads, and demand 3 of a loaded book.
use Rattle.std.specs.Prelude.{◌≡◌, false, List, [], ◌∷◌, map, reverse, ℕ}
use Rattle.codec.specs.Bytes.{Bytes}
use Rattle.entries.specs.declared.raw.Raw.{Raw}
use Rattle.book.specs.Fresh.{fresh_book}
use Rattle.book.specs.Posting.{record_of}
use Rattle.book.specs.declared.Book.{Book}
use Rattle.runs.specs.Runs.{without_run}
use Rattle.saves.specs.Saves.{image_of}
use Rattle.loads.specs.Loaded.{raw_in, accepted_load}
use Rattle.loads.specs.Loads.{records_in, load_of}
use Rattle.history.specs.History.{History}
use Rattle.history.specs.Images.{Typed, AllTyped, image_in}
use Rattle.history.specs.Agreement.{Kept}
use Rattle.history.specs.Runs.{Noted, is_open, charge_in, step_refusal}
use Rattle.history.specs.Calls.{Call, state_from, state_after, state_of, history_after, history_of}
use Rattle.history.specs.Claim.{book_after, book_of, Claim}

-- the history of an image: the entries of its records, newest first
abbrev pub history_in : List ℕ → History
history_in l = reverse (map raw_in (records_in l))

-- the book after each entry of a list is recorded in turn
unfoldable pub recorded_of : Book → List Raw → Book
recorded_of b [] = b
recorded_of b (r ∷ rs) = recorded_of (record_of b r).book rs

-- proofs/Trips.antt shows it. Of the bytes of an image and of the entries that joined it asks what every value of their type satisfies; a
-- step's charge satisfies it (`charge_typed`).
pub record Trips : Type 0 where
  -- the image of a book is that of the history that it keeps
  pub image : (b : Book) (h : History) → Kept b h → image_of b ≡ image_in h
  -- the book that a list of calls leaves loads from its image as the same book without its run, and whole where none is open
  pub saved_loads : (cs : List Call) → AllTyped (history_of cs) → load_of (image_of (book_of cs)) ≡ accepted_load (without_run (book_of cs))
  pub whole : (cs : List Call) → is_open (state_of cs).run ≡ false → without_run (book_of cs) ≡ book_of cs
  pub charge_typed : (cs : List Call) (n : Noted) (ns : List Noted) → (state_of cs).run.left ≡ n ∷ ns → step_refusal (history_of cs) (state_of cs).run ≡ 0 →
      Typed (charge_in (history_of cs) (state_of cs).run n)
  -- an image that loads is that of the loaded book: it saves as the same bytes
  pub loaded_saves : (l : List ℕ) → Bytes l → (load_of l).refusal ≡ 0 → image_of (load_of l).book ≡ l
  -- a load that is not refused gives the book in which its records are recorded in turn, with no run, and that book keeps their history
  pub loaded_recorded : (l : List ℕ) → (load_of l).refusal ≡ 0 → load_of l ≡ accepted_load (recorded_of fresh_book (map raw_in (records_in l)))
  pub loaded_idle : (l : List ℕ) → (load_of l).refusal ≡ 0 → without_run (load_of l).book ≡ (load_of l).book
  pub loaded_kept : (l : List ℕ) → (load_of l).refusal ≡ 0 → Kept (load_of l).book (history_in l)
  -- a book that was loaded and on which calls were made loads from its image as the same book without its run, and whole where none is open
  pub loaded_on : (l : List ℕ) → (load_of l).refusal ≡ 0 → (cs : List Call) → AllTyped (history_after (state_from (history_in l)) cs) →
      load_of (image_of (book_after (load_of l).book cs)) ≡ accepted_load (without_run (book_after (load_of l).book cs))
  pub loaded_whole : (l : List ℕ) → (load_of l).refusal ≡ 0 → (cs : List Call) → is_open (state_after (state_from (history_in l)) cs).run ≡ false →
      without_run (book_after (load_of l).book cs) ≡ book_after (load_of l).book cs

-- every list of calls on the book of an image that loads, from the history of its records on: proofs/Trips.antt shows it
abbrev pub Demand3Loaded : Type 0
Demand3Loaded = (l : List ℕ) → (load_of l).refusal ≡ 0 → (cs : List Call) → Claim (load_of l).book (state_from (history_in l)) cs
