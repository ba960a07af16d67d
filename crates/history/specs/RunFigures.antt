-- At the counter while late charges run: one list of calls with their answers, worked out from the documents by hand.
use Rattle.std.specs.Prelude.{ℕ, ◌≡◌, true, List, [], ◌∷◌, map}
use Rattle.history.specs.Laws.{sums_of}
use Rattle.history.specs.Queries as queries
use Rattle.history.specs.Calls.{Call, posting, opening, step, close, query, CallAnswer, ran, queried, answers_in, history_of}
use Rattle.history.specs.Witness.{entry, accepted, refused, statement, stated, AnsweredCall, ◌gives◌, sums}

abbrev pub counter : List AnsweredCall
counter =
    -- bills of 10,000 for account 3 and of 6,000 for account 5, which pays 1,000
    (posting (entry 3 1 3 100 1 10000 30 30 0) gives accepted 1 0 0 0 0) ∷
    (posting (entry 3 1 5 100 2 6000 30 30 0) gives accepted 2 0 0 0 0) ∷
    (posting (entry 4 1 5 100 3 1000 0 0 0) gives accepted 3 1000 0 0 0) ∷
    -- a run at 1.5% notes arrears of 10,000 and of 5,000; a correction and a save wait
    (opening 1 500 150 gives ran 0) ∷
    (posting (entry 8 1 5 500 4 5995 0 0 2) gives refused 27) ∷
    (query (queries.save (7 ∷ [])) gives queried (queries.saved 29 0 (7 ∷ []))) ∷
    (opening 2 500 150 gives ran 28) ∷
    -- account 3 is charged 150; account 5 pays all that it owes, and is charged 75 all the same; then the run is over
    (step gives accepted 4 0 0 0 0) ∷
    (posting (entry 4 1 5 500 5 5000 0 0 0) gives accepted 5 5000 0 0 0) ∷
    (step gives accepted 6 0 0 0 0) ∷
    (step gives refused 28) ∷
    (close gives ran 28) ∷
    -- the correction of the bill; none of a late charge, which can't be posted either
    (posting (entry 8 1 5 500 7 5995 0 0 2) gives accepted 7 5 0 0 0) ∷
    (posting (entry 8 1 5 500 8 10 0 0 6) gives refused 8) ∷
    (posting (entry 12 1 5 500 8 10 0 0 0) gives refused 1) ∷
    (statement 5 5 gives stated 70 0 0 0 5 6070 6000 true) ∷
    -- the next run, at 3%, notes the first one's charge too: 304.5 of 10,150 goes to the even cent; it is closed before account 5
    (opening 1 501 300 gives ran 0) ∷
    (step gives accepted 8 0 0 0 0) ∷
    (close gives ran 0) ∷
    (step gives refused 28) ∷
    (statement 3 3 gives stated 10454 0 0 0 3 10454 0 true) ∷
    []

abbrev pub calls : List Call
calls = map (λ (x : AnsweredCall). x.call) counter

abbrev pub answers : List CallAnswer
answers = map (λ (x : AnsweredCall). x.answer) counter

-- proofs/RunFigures.antt shows it, with the sums of accounts 3 and 5
pub record RunFigures : Type 0 where
  pub answered : answers_in calls ≡ answers
  pub accounts : map (λ (a : ℕ). sums_of (history_of calls) a) (3 ∷ 5 ∷ []) ≡ sums 0 0 0 0 0 10454 10454 0 0 0 0 0 0 ∷ sums 0 6000 0 0 0 70 6070 0 0 0 0 0 0 ∷ []
