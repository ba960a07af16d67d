-- Totals of calendar years: one list of calls with their answers, worked out from the documents by hand. 2000 is a leap year, days 0 to 365; then
-- come 2001 from day 366, 2002 from 731, 2003 from 1,096, 2004 from 1,461 and 2005 from 1,827; 2098 ends on day 36,159 and 2099 on 36,524.
use Rattle.std.specs.Prelude.{ℕ, ◌≡◌, List, [], ◌∷◌, map}
use Rattle.years.specs.Years.{plain_year}
use Rattle.years.specs.declared.Year.{Year}
use Rattle.history.specs.Laws.{AccountSums, sums_of}
use Rattle.history.specs.Years.{year_in}
use Rattle.history.specs.Queries as queries
use Rattle.history.specs.Calls.{Call, posting, carry_over, opening, step, query, CallAnswer, carried, ran, queried, answers_in, history_of}
use Rattle.history.specs.Witness.{entry, accepted, refused, AnsweredCall, ◌gives◌, sums}

-- the year's number; bills, payments, paid out, entries
abbrev year : ℕ → Call
year y = query (queries.year y)

abbrev totalled : ℕ → ℕ → ℕ → ℕ → CallAnswer
totalled bills payments paid_out entries = queried (queries.totalled (plain_year bills payments paid_out entries))

abbrev pub years : List AnsweredCall
years =
    (year 2000 gives totalled 0 0 0 0) ∷
    -- bills of 31,000 on day 365, of 9,000 × 10 / 30 = 3,000 on day 366, and of 7 / 2 on day 36,524, a half that goes to 4: arrears 34,004
    (posting (entry 3 1 1 365 1 31000 31 31 0) gives accepted 1 0 0 0 0) ∷
    (posting (entry 3 1 1 366 2 9000 30 10 0) gives accepted 2 0 0 0 0) ∷
    (posting (entry 3 1 1 36524 3 7 2 1 0) gives accepted 3 0 0 0 0) ∷
    (year 2000 gives totalled 31000 0 0 1) ∷
    (year 2001 gives totalled 3000 0 0 1) ∷
    (year 2099 gives totalled 4 0 0 1) ∷
    -- the first is corrected in 2001 to 28,000, which counts in 2000; the correction is an entry of 2001; arrears 31,004
    (posting (entry 8 1 1 400 4 28000 0 0 1) gives accepted 4 3000 0 0 0) ∷
    (year 2000 gives totalled 28000 0 0 1) ∷
    (year 2001 gives totalled 3000 0 0 2) ∷
    -- a bill of 5,000 in 2000, corrected in 2000 to 6,500; that of 2001 is corrected in 2099 to 0; arrears 34,504
    (posting (entry 3 1 1 100 5 5000 10 10 0) gives accepted 5 0 0 0 0) ∷
    (posting (entry 8 1 1 365 6 6500 0 0 5) gives accepted 6 0 0 0 0) ∷
    (posting (entry 8 1 1 36524 7 0 0 0 2) gives accepted 7 3000 0 0 0) ∷
    -- a second correction, a day after the last and a bill for no day are refused, and count nowhere; 28,000 + 6,500 in 2000
    (posting (entry 8 1 1 500 8 1 0 0 1) gives refused 16) ∷
    (posting (entry 3 1 1 36525 8 5000 10 10 0) gives refused 4) ∷
    (posting (entry 3 1 1 365 8 5000 30 0 0) gives refused 30) ∷
    (year 2000 gives totalled 34500 0 0 3) ∷
    (year 2001 gives totalled 0 0 0 2) ∷
    (year 2099 gives totalled 4 0 0 2) ∷
    -- payments of 10,000 in 2000, corrected in 2002 to 12,000, and of 2,500 in 2002: credit 14,500
    (posting (entry 4 1 2 365 8 10000 0 0 0) gives accepted 8 0 0 0 0) ∷
    (posting (entry 4 1 2 731 9 2500 0 0 0) gives accepted 9 0 0 0 0) ∷
    (posting (entry 8 1 2 731 10 12000 0 0 8) gives accepted 10 0 0 0 0) ∷
    (year 2000 gives totalled 34500 12000 0 4) ∷
    (year 2002 gives totalled 0 2500 0 2) ∷
    -- a contribution of 60,000 in 2000, a bill of 4,000 in 2001, and an added customer in 2003: 60,000 × 50 / (100 × 2) = 15,000, of which 11,000
    -- are paid out
    (posting (entry 1 1 3 365 11 60000 100 1 0) gives accepted 11 0 0 0 0) ∷
    (posting (entry 3 1 3 730 12 4000 30 30 0) gives accepted 12 0 0 0 0) ∷
    (posting (entry 2 1 3 1460 13 0 50 1 11) gives accepted 13 4000 11000 0 0) ∷
    -- on 2005-12-31 its period ends: a customer is refused, and an expiry retains 45,000, which are not paid out
    (posting (entry 2 1 3 2191 14 0 50 1 11) gives refused 12) ∷
    (posting (entry 7 1 3 2191 14 0 0 0 11) gives accepted 14 0 0 45000 0) ∷
    (year 2003 gives totalled 0 0 11000 1) ∷
    (year 2005 gives totalled 0 0 0 1) ∷
    -- a deposit of 20,000 at 3.65% in 2000, returned in 2001 after 365 days with interest of 730, and not a second time
    (posting (entry 5 1 4 365 15 20000 365 0 0) gives accepted 15 0 0 0 0) ∷
    (posting (entry 6 1 4 730 16 0 0 0 0) gives accepted 16 0 20730 0 730) ∷
    (posting (entry 6 1 4 730 17 0 0 0 0) gives refused 9) ∷
    (year 2000 gives totalled 34500 12000 0 6) ∷
    (year 2001 gives totalled 4000 0 20730 4) ∷
    -- a guarantee of 30,000 in 2000, payments of 5,000, 40,000 and 9,999 in 2001, and a bill in 2002 that leaves arrears 1,000
    (posting (entry 9 1 5 365 17 30000 0 0 0) gives accepted 17 0 0 0 0) ∷
    (posting (entry 4 1 5 366 18 5000 0 0 0) gives accepted 18 0 0 0 0) ∷
    (posting (entry 4 1 5 367 19 40000 0 0 0) gives accepted 19 0 0 0 0) ∷
    (posting (entry 4 1 5 730 20 9999 0 0 0) gives accepted 20 0 0 0 0) ∷
    (posting (entry 3 1 5 731 21 55999 30 30 0) gives accepted 21 0 0 0 0) ∷
    -- a reduction after 364 days is refused; one on day 731 gives back a tenth of 49,999, paid on days 367 to 731: 4,999, of which 3,999 are paid
    -- out in 2002
    (posting (entry 10 1 5 729 22 0 0 0 17) gives refused 25) ∷
    (posting (entry 10 1 5 731 22 0 0 0 17) gives accepted 22 1000 3999 0 0) ∷
    -- the payment of 9,999 is corrected in 2004 to 0: arrears 9,999; 2001 has payments of 45,000, and what was paid out in 2002 stays
    (posting (entry 8 1 5 1461 23 0 0 0 20) gives accepted 23 0 0 0 0) ∷
    (year 2001 gives totalled 4000 45000 20730 7) ∷
    (year 2002 gives totalled 55999 2500 3999 4) ∷
    (year 2004 gives totalled 0 0 0 1) ∷
    -- of node 2's payments, of 800 in 2098 and on a day after the last, the first is accepted; with no place for results none is posted
    (carry_over (entry 4 2 6 36159 1 800 0 0 0 ∷ entry 4 2 6 36525 2 900 0 0 0 ∷ []) (9 ∷ 9 ∷ 9 ∷ []) gives carried 0 (0 ∷ 4 ∷ 9 ∷ [])) ∷
    (carry_over (entry 4 2 6 36160 2 900 0 0 0 ∷ []) [] gives carried 22 []) ∷
    (year 2098 gives totalled 0 800 0 1) ∷
    (year 2099 gives totalled 4 0 0 2) ∷
    -- a run at 1% on 2099-12-31 notes arrears of 34,504 and of 9,999; account 1 is charged 345, which counts with bills of 2099
    (opening 2 36524 100 gives ran 0) ∷
    (year 2099 gives totalled 4 0 0 2) ∷
    (step gives accepted 25 0 0 0 0) ∷
    (year 2099 gives totalled 349 0 0 3) ∷
    -- account 5 pays 9,999 on 2099-01-01 during the run, a correction waits, and account 5 is charged 100; then the run is over
    (posting (entry 4 1 5 36160 24 9999 0 0 0) gives accepted 26 9999 0 0 0) ∷
    (posting (entry 8 1 1 36524 25 0 0 0 3) gives refused 27) ∷
    (step gives accepted 27 0 0 0 0) ∷
    (step gives refused 28) ∷
    (year 2099 gives totalled 449 9999 0 5) ∷
    (year 2098 gives totalled 0 800 0 1) ∷
    -- other years
    (year 2006 gives totalled 0 0 0 0) ∷
    (year 1999 gives totalled 0 0 0 0) ∷
    (year 2100 gives totalled 0 0 0 0) ∷
    (year 65535 gives totalled 0 0 0 0) ∷
    (year 0 gives totalled 0 0 0 0) ∷
    []

abbrev pub calls : List Call
calls = map (λ (x : AnsweredCall). x.call) years

abbrev pub answers : List CallAnswer
answers = map (λ (x : AnsweredCall). x.answer) years

-- the totals of 2000 to 2005, 2098 and 2099 after the list, of its 27 entries
abbrev pub yearly : List Year
yearly =
    plain_year 34500 12000 0 7 ∷
    plain_year 4000 45000 20730 7 ∷
    plain_year 55999 2500 3999 4 ∷
    plain_year 0 0 11000 1 ∷
    plain_year 0 0 0 1 ∷
    plain_year 0 0 0 1 ∷
    plain_year 0 800 0 1 ∷
    plain_year 449 9999 0 5 ∷
    []

-- The sums of accounts 1 to 6, of the same entries: both give bills of 94,948, payments of 70,299 and 35,729 paid out.
abbrev pub summed : List AccountSums
summed =
    sums 0 0 0 0 0 34849 34849 0 0 0 0 0 0 ∷
    sums 0 14500 0 0 0 0 0 0 0 0 0 0 14500 ∷
    sums 60000 0 0 0 0 0 4000 11000 45000 0 0 0 0 ∷
    sums 0 0 20000 0 730 0 0 20730 0 0 0 0 0 ∷
    sums 0 54999 0 30000 0 100 56099 3999 0 0 0 25001 0 ∷
    sums 0 800 0 0 0 0 0 0 0 0 0 0 800 ∷
    []

-- proofs/YearFigures.antt shows it
pub record YearFigures : Type 0 where
  pub answered : answers_in calls ≡ answers
  pub totals : map (λ (y : ℕ). year_in (history_of calls) y) (2000 ∷ 2001 ∷ 2002 ∷ 2003 ∷ 2004 ∷ 2005 ∷ 2098 ∷ 2099 ∷ []) ≡ yearly
  pub accounts : map (λ (a : ℕ). sums_of (history_of calls) a) (1 ∷ 2 ∷ 3 ∷ 4 ∷ 5 ∷ 6 ∷ []) ≡ summed
