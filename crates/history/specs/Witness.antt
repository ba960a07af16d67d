-- The figures P1 to P12, and those of a guarantee and of halves of a cent, as one list of calls with their answers, worked out from the
-- documents. It shows that demand 3 speaks of them: each kind of entry joins, and no sum of it is always zero.
use Rattle.std.specs.Prelude.{ℕ, min, ◌≡◌, Bool, true, false, List, [], ◌∷◌, map}
use Rattle.entries.specs.declared.raw.Raw.{Raw}
use Rattle.rules.specs.Answers.{posting_reply}
use Rattle.queries.specs.Replies.{statement_reply, contribution_reply}
use Rattle.history.specs.Laws.{AccountSums, sums_of}
use Rattle.history.specs.Queries as queries
use Rattle.history.specs.Calls.{Call, posting, carry_over, query, CallAnswer, posted, carried, queried, answers_in, history_of}

-- kind, node, account, day, serial; amount, a, b; the serial of node 1's entry that it names, or 0
abbrev pub entry : ℕ → ℕ → ℕ → ℕ → ℕ → ℕ → ℕ → ℕ → ℕ → Raw
entry kind node account day serial amount a b named =
    record {
      kind = kind;
      node = node;
      account = account;
      day = day;
      serial = serial;
      amount = amount;
      named_serial = named;
      a = a;
      b = b;
      named_node = min named 1;
    }

-- the entry's number; arrears settled, paid out, retained, interest
abbrev pub accepted : ℕ → ℕ → ℕ → ℕ → ℕ → CallAnswer
accepted number settled paid_out retained interest = posted (posting_reply 0 number settled paid_out retained interest)

abbrev pub refused : ℕ → CallAnswer
refused n = posted (posting_reply n 0 0 0 0 0)

-- account, allowance; arrears, credit, deposit held, held, links read, bills, payments, complete
abbrev pub statement : ℕ → ℕ → Call
statement account allowance = query (queries.statement account allowance)

abbrev pub stated : ℕ → ℕ → ℕ → ℕ → ℕ → ℕ → ℕ → Bool → CallAnswer
stated arrears credit deposit held links bills payments complete =
    queried (queries.stated (statement_reply 0 arrears credit deposit held links bills payments complete))

-- account, node, serial; amount, to arrears, paid out, held, retained, customers added, closed
abbrev contribution : ℕ → ℕ → ℕ → Call
contribution account node serial = query (queries.contribution account node serial)

abbrev given : ℕ → ℕ → ℕ → ℕ → ℕ → ℕ → Bool → CallAnswer
given amount to_arrears paid_out held retained added closed =
    queried (queries.given (contribution_reply 0 amount to_arrears paid_out held retained added closed))

pub record AnsweredCall : Type 0 where
  pub call : Call
  pub answer : CallAnswer

infix 20 ◌gives◌
abbrev pub ◌gives◌ : Call → CallAnswer → AnsweredCall
c gives x = record { call = c; answer = x }

abbrev pub witness : List AnsweredCall
witness =
    -- a contribution of 300,000 for 200 m of one phase, and a bill of 80,000 for its full period: arrears 80,000
    (posting (entry 1 1 1 100 1 300000 200 1 0) gives accepted 1 0 0 0 0) ∷
    (posting (entry 3 1 1 100 2 80000 30 30 0) gives accepted 2 0 0 0 0) ∷
    -- P1 to P5: 100 m shared, then 200 m four times
    (posting (entry 2 1 1 100 3 0 100 1 1) gives accepted 3 75000 0 0 0) ∷
    (posting (entry 2 1 1 100 4 0 200 1 1) gives accepted 4 5000 95000 0 0) ∷
    (posting (entry 2 1 1 100 5 0 200 1 1) gives accepted 5 0 75000 0 0) ∷
    (posting (entry 2 1 1 100 6 0 200 1 1) gives accepted 6 0 50000 0 0) ∷
    (posting (entry 2 1 1 100 7 0 200 1 1) gives accepted 7 0 0 0 0) ∷
    (statement 1 7 gives stated 0 0 0 0 7 80000 0 true) ∷
    (contribution 1 1 1 gives given 300000 80000 220000 0 0 5 false) ∷
    -- P6: a contribution on day 100, an expiry on 1,925, an added customer on 1,926; then added customers on 1,925
    (posting (entry 1 1 2 100 8 60000 100 1 0) gives accepted 8 0 0 0 0) ∷
    (posting (entry 7 1 2 1925 9 0 0 0 8) gives refused 13) ∷
    (posting (entry 2 1 2 1926 9 0 20 1 8) gives refused 12) ∷
    -- 60,000 × 20 / (100 × k), k from 2 to 5
    (posting (entry 2 1 2 1925 9 0 20 1 8) gives accepted 9 0 6000 0 0) ∷
    (posting (entry 2 1 2 1925 10 0 20 1 8) gives accepted 10 0 4000 0 0) ∷
    (posting (entry 2 1 2 1925 11 0 20 1 8) gives accepted 11 0 3000 0 0) ∷
    (posting (entry 2 1 2 1925 12 0 20 1 8) gives accepted 12 0 2400 0 0) ∷
    -- the expiry on 1,926 retains the rest; what is closed is not refunded, though the day is early
    (posting (entry 7 1 2 1926 13 0 0 0 8) gives accepted 13 0 0 44600 0) ∷
    (posting (entry 2 1 2 1925 14 0 20 1 8) gives refused 11) ∷
    (contribution 2 1 8 gives given 60000 0 15400 0 44600 4 true) ∷
    -- P11: a bill of 12,000; node 2's corrections to 10,000 and to 9,000 are carried over, with a result list of three places
    (posting (entry 3 1 3 100 14 12000 30 30 0) gives accepted 14 0 0 0 0) ∷
    (carry_over (entry 8 2 3 100 1 10000 0 0 14 ∷ entry 8 2 3 100 2 9000 0 0 14 ∷ []) (9 ∷ 9 ∷ 9 ∷ []) gives carried 0 (0 ∷ 16 ∷ 9 ∷ [])) ∷
    (statement 3 1 gives stated 10000 0 0 0 1 0 0 false) ∷
    (statement 3 2 gives stated 10000 0 0 0 2 10000 0 true) ∷
    -- P9: a deposit of 30,000 at 520, returned after 365 days
    (posting (entry 5 1 4 100 15 30000 520 0 0) gives accepted 16 0 0 0 0) ∷
    (statement 4 0 gives stated 0 0 30000 0 0 0 0 false) ∷
    (posting (entry 6 1 4 465 16 0 0 0 0) gives accepted 17 0 31560 0 1560) ∷
    -- P12: a payment of 10,000 and a bill of 6,000 leave credit 4,000; the payment is corrected to 1,000
    (posting (entry 4 1 5 100 17 10000 0 0 0) gives accepted 18 0 0 0 0) ∷
    (posting (entry 3 1 5 100 18 6000 30 30 0) gives accepted 19 0 0 0 0) ∷
    (statement 5 2 gives stated 0 4000 0 0 2 6000 10000 true) ∷
    (posting (entry 8 1 5 100 19 1000 0 0 17) gives accepted 20 0 0 0 0) ∷
    (statement 5 3 gives stated 5000 0 0 0 3 6000 1000 true) ∷
    -- a contribution of 1,000, a payment of 700 and a deposit of 500, which stay held, in credit and deposited
    (posting (entry 1 1 6 100 20 1000 10 1 0) gives accepted 21 0 0 0 0) ∷
    (posting (entry 4 1 6 100 21 700 0 0 0) gives accepted 22 0 0 0 0) ∷
    (posting (entry 5 1 6 100 22 500 0 0 0) gives accepted 23 0 0 0 0) ∷
    (statement 6 3 gives stated 0 700 500 1000 3 0 700 true) ∷
    -- a guarantee of 20,000 on day 100, payments of 30,000 and 40,000, and a bill that leaves arrears 1,000
    (posting (entry 9 1 7 100 23 20000 0 0 0) gives accepted 24 0 0 0 0) ∷
    (posting (entry 4 1 7 101 24 30000 0 0 0) gives accepted 25 0 0 0 0) ∷
    (posting (entry 4 1 7 465 25 40000 0 0 0) gives accepted 26 0 0 0 0) ∷
    (posting (entry 3 1 7 465 26 71000 30 30 0) gives accepted 27 0 0 0 0) ∷
    (posting (entry 9 1 7 465 27 700 0 0 0) gives refused 24) ∷
    -- a tenth of the payments is given back after 365 days, to arrears first
    (posting (entry 10 1 7 464 27 0 0 0 23) gives refused 25) ∷
    (posting (entry 10 1 7 465 27 0 0 0 23) gives accepted 28 1000 6000 0 0) ∷
    -- the rest is retained after five years; the next guarantee, of 700, stays held, and a statement's held is of contributions alone
    (posting (entry 11 1 7 1925 28 0 0 0 23) gives refused 26) ∷
    (posting (entry 11 1 7 1926 28 0 0 0 23) gives accepted 29 0 0 13000 0) ∷
    (posting (entry 10 1 7 1926 29 0 0 0 23) gives refused 11) ∷
    (posting (entry 9 1 7 1926 29 700 0 0 0) gives accepted 30 0 0 0 0) ∷
    (statement 7 7 gives stated 0 0 0 0 7 71000 70000 true) ∷
    -- P7, and P8, an exact half, which goes to the even cent; a correction of what it billed, 2, to 3
    (posting (entry 3 1 8 100 30 10000 30 7 0) gives accepted 31 0 0 0 0) ∷
    (statement 8 1 gives stated 2333 0 0 0 1 2333 0 true) ∷
    (posting (entry 3 1 8 100 31 5 2 1 0) gives accepted 32 0 0 0 0) ∷
    (statement 8 2 gives stated 2335 0 0 0 2 2335 0 true) ∷
    (posting (entry 8 1 8 100 32 3 0 0 31) gives accepted 33 0 0 0 0) ∷
    (statement 8 3 gives stated 2336 0 0 0 3 2336 0 true) ∷
    -- P10: a deposit of 1,000 at 100, returned after 18 days, and again after 19; then one of 750 after 73, whose interest is exactly 3 / 2
    (posting (entry 5 1 8 100 33 1000 100 0 0) gives accepted 34 0 0 0 0) ∷
    (posting (entry 6 1 8 118 34 0 0 0 0) gives accepted 35 1000 0 0 0) ∷
    (posting (entry 5 1 8 118 35 1000 100 0 0) gives accepted 36 0 0 0 0) ∷
    (posting (entry 6 1 8 137 36 0 0 0 0) gives accepted 37 1001 0 0 1) ∷
    (posting (entry 5 1 8 137 37 750 100 0 0) gives accepted 38 0 0 0 0) ∷
    (posting (entry 6 1 8 210 38 0 0 0 0) gives accepted 39 335 417 0 2) ∷
    []

abbrev pub calls : List Call
calls = map (λ (x : AnsweredCall). x.call) witness

abbrev pub answers : List CallAnswer
answers = map (λ (x : AnsweredCall). x.answer) witness

-- an account's sums after the list: contributions, payments, deposits, guarantees, interest, arrears; bills, paid out, retained, held,
-- deposit held, guarantee held, credit
abbrev pub sums : ℕ → ℕ → ℕ → ℕ → ℕ → ℕ → ℕ → ℕ → ℕ → ℕ → ℕ → ℕ → ℕ → AccountSums
sums contributions payments deposits guarantees interest arrears bills paid_out retained held deposit guarantee_held credit =
    record {
      contributions = contributions;
      payments = payments;
      deposits = deposits;
      guarantees = guarantees;
      interest = interest;
      arrears = arrears;
      bills = bills;
      paid_out = paid_out;
      retained = retained;
      held = held;
      deposit = deposit;
      guarantee_held = guarantee_held;
      credit = credit;
    }

abbrev pub summed : List AccountSums
summed =
    sums 300000 0 0 0 0 0 80000 220000 0 0 0 0 0 ∷
    sums 60000 0 0 0 0 0 0 15400 44600 0 0 0 0 ∷
    sums 0 0 0 0 0 10000 10000 0 0 0 0 0 0 ∷
    sums 0 0 30000 0 1560 0 0 31560 0 0 0 0 0 ∷
    sums 0 1000 0 0 0 5000 6000 0 0 0 0 0 0 ∷
    sums 1000 700 500 0 0 0 0 0 0 1000 500 0 700 ∷
    sums 0 70000 0 20700 0 0 71000 6000 13000 0 0 700 0 ∷
    sums 0 0 2750 0 3 0 2336 417 0 0 0 0 0 ∷
    []

-- proofs/Witness.antt shows it
pub record Witness : Type 0 where
  pub answered : answers_in calls ≡ answers
  pub accounts : map (λ (a : ℕ). sums_of (history_of calls) a) (1 ∷ 2 ∷ 3 ∷ 4 ∷ 5 ∷ 6 ∷ 7 ∷ 8 ∷ []) ≡ summed
