-- Bills of zero days served: an image that has two of them, and a list of calls on the book that it loads as, with their answers, worked out
-- from the documents by hand.
use Rattle.std.specs.Prelude.{ℕ, ◌≡◌, true, false, List, [], ◌∷◌, map}
use Rattle.entries.specs.declared.raw.Raw.{Raw}
use Rattle.loads.specs.Loads.{load_of}
use Rattle.history.specs.History.{History, answers_along}
use Rattle.history.specs.Laws.{sums_of}
use Rattle.history.specs.Images.{image_in}
use Rattle.history.specs.Queries as queries
use Rattle.history.specs.Calls.{Call, posting, carry_over, opening, close, query, CallAnswer, carried, ran, queried, call_in, state_from, state_after}
use Rattle.history.specs.Trips.{history_in}
use Rattle.history.specs.Witness.{entry, accepted, refused, statement, stated, AnsweredCall, ◌gives◌, sums}

-- on account 6, a correction by node 2 of an entry of node 2: day, serial, amount, the serial that it names
abbrev correction : ℕ → ℕ → ℕ → ℕ → Raw
correction day serial amount named =
    record {
      kind = 8;
      node = 2;
      account = 6;
      day = day;
      serial = serial;
      amount = amount;
      named_serial = named;
      a = 0;
      b = 0;
      named_node = 2;
    }

-- The loaded entries, newest first. Account 5: bills of 12,000 for 0 of 30 days, which is 0, and of 9,000 for its full period, and a payment
-- of 9,500, which leaves credit 500. Account 6: a bill of 100,000,000 for 0 of 62 days, which is 0, corrected to 250: arrears 250.
abbrev pub history : History
history =
    entry 4 1 5 303 3 9500 0 0 0 ∷
    correction 302 259 250 258 ∷
    entry 3 1 5 301 2 9000 30 30 0 ∷
    entry 3 2 6 300 258 100000000 62 0 0 ∷
    entry 3 1 5 300 1 12000 30 0 0 ∷
    []

-- its image: the header, and a record on each line, the oldest first
abbrev pub image : List ℕ
image =
    67 ∷ 72 ∷ 66 ∷ 49 ∷ 5 ∷ 0 ∷ 0 ∷ 0 ∷ 0 ∷ 0 ∷ 0 ∷ 0 ∷ 0 ∷ 0 ∷ 0 ∷ 0 ∷ 0 ∷ 0 ∷ 0 ∷ 0 ∷ 0 ∷ 0 ∷ 0 ∷ 0 ∷
    3 ∷ 1 ∷ 5 ∷ 0 ∷ 44 ∷ 1 ∷ 0 ∷ 0 ∷ 1 ∷ 0 ∷ 0 ∷ 0 ∷ 224 ∷ 46 ∷ 0 ∷ 0 ∷ 0 ∷ 0 ∷ 0 ∷ 0 ∷ 30 ∷ 0 ∷ 0 ∷ 0 ∷
    3 ∷ 2 ∷ 6 ∷ 0 ∷ 44 ∷ 1 ∷ 0 ∷ 0 ∷ 2 ∷ 1 ∷ 0 ∷ 0 ∷ 0 ∷ 225 ∷ 245 ∷ 5 ∷ 0 ∷ 0 ∷ 0 ∷ 0 ∷ 62 ∷ 0 ∷ 0 ∷ 0 ∷
    3 ∷ 1 ∷ 5 ∷ 0 ∷ 45 ∷ 1 ∷ 1 ∷ 0 ∷ 2 ∷ 0 ∷ 0 ∷ 0 ∷ 40 ∷ 35 ∷ 0 ∷ 0 ∷ 0 ∷ 0 ∷ 0 ∷ 0 ∷ 30 ∷ 0 ∷ 30 ∷ 0 ∷
    8 ∷ 2 ∷ 6 ∷ 0 ∷ 46 ∷ 1 ∷ 2 ∷ 0 ∷ 3 ∷ 1 ∷ 0 ∷ 0 ∷ 250 ∷ 0 ∷ 0 ∷ 0 ∷ 2 ∷ 1 ∷ 0 ∷ 0 ∷ 0 ∷ 0 ∷ 0 ∷ 2 ∷
    4 ∷ 1 ∷ 5 ∷ 0 ∷ 47 ∷ 1 ∷ 3 ∷ 0 ∷ 3 ∷ 0 ∷ 0 ∷ 0 ∷ 28 ∷ 37 ∷ 0 ∷ 0 ∷ 0 ∷ 0 ∷ 0 ∷ 0 ∷ 0 ∷ 0 ∷ 0 ∷ 0 ∷
    []

abbrev pub NoDay : List AnsweredCall
NoDay =
    -- the bills at 0 are links that are read; the corrected one stands at 250
    (statement 5 3 gives stated 0 500 0 0 3 9000 9500 true) ∷
    (statement 6 2 gives stated 250 0 0 0 2 250 0 true) ∷
    -- one more is refused; with an old serial too, before 6; with a named pair by 5
    (posting (entry 3 1 5 310 4 12000 30 0 0) gives refused 30) ∷
    (posting (entry 3 1 5 310 3 12000 30 0 0) gives refused 30) ∷
    (posting (entry 3 1 5 310 4 12000 30 0 1) gives refused 5) ∷
    -- node 2's bill for 0 of 1 days, its payment of 300, which settles 250 and leaves credit 50, and its correction of that bill are carried
    -- over, with a result list of four places
    (carry_over (entry 3 2 6 310 260 800 1 0 0 ∷ entry 4 2 6 310 261 300 0 0 0 ∷ correction 310 262 800 260 ∷ []) (9 ∷ 9 ∷ 9 ∷ 9 ∷ []) gives carried 0 (30 ∷ 0 ∷ 8 ∷ 9 ∷ [])) ∷
    -- a bill for one day with the serial of the refused one: 6,200 / 62 = 100, which leaves credit 400
    (posting (entry 3 1 5 310 4 6200 62 1 0) gives accepted 7 0 0 0 0) ∷
    -- the loaded bill at 0, corrected to 700, charges 700: credit 400 falls to 0, and arrears are 300; not a second time
    (posting (entry 8 1 5 310 5 700 0 0 1) gives accepted 8 0 0 0 0) ∷
    (posting (entry 8 1 5 311 6 0 0 0 1) gives refused 16) ∷
    -- a run notes account 5's arrears: a bill for no day is refused during it too, and a correction waits
    (opening 2 320 100 gives ran 0) ∷
    (posting (entry 3 1 6 320 6 5000 62 0 0) gives refused 30) ∷
    (posting (entry 8 1 5 320 6 8000 0 0 2) gives refused 27) ∷
    (close gives ran 0) ∷
    -- bills of 700, 9,000 and 100; of account 6 the payment and the correction are read, and not the bill
    (statement 5 5 gives stated 300 0 0 0 5 9800 9500 true) ∷
    (statement 6 2 gives stated 0 50 0 0 2 0 300 false) ∷
    -- eight entries: 216 bytes
    (query (queries.save (7 ∷ [])) gives queried (queries.saved 21 0 (7 ∷ []))) ∷
    []

-- the entries after these calls: the payment, the bill for one day and the correction of the first bill have joined
abbrev pub later : History
later = entry 8 1 5 310 5 700 0 0 1 ∷ entry 3 1 5 310 4 6200 62 1 0 ∷ entry 4 2 6 310 261 300 0 0 0 ∷ history

abbrev pub calls : List Call
calls = map (λ (x : AnsweredCall). x.call) NoDay

abbrev pub answers : List CallAnswer
answers = map (λ (x : AnsweredCall). x.answer) NoDay

-- proofs/NoDayFigures.antt shows it
pub record NoDayFigures : Type 0 where
  -- the image's entries are these, and theirs is the image
  pub read : history_in image ≡ history
  pub written : image_in history ≡ image
  -- it loads
  pub loads : (load_of image).refusal ≡ 0
  -- the calls on these entries, with no run at first
  pub answered : answers_along call_in (state_from history) calls ≡ answers
  -- what they leave: these entries, and no run
  pub left : state_after (state_from history) calls ≡ state_from later
  -- the sums of accounts 5 and 6 then: 9,500 + 300 = 9,800, and 300 = 250 + 50
  pub accounts : map (λ (a : ℕ). sums_of later a) (5 ∷ 6 ∷ []) ≡ sums 0 9500 0 0 0 300 9800 0 0 0 0 0 0 ∷ sums 0 300 0 0 0 0 250 0 0 0 0 0 50 ∷ []
