-- Lists of calls, and what the history says of them. Nothing here reads a book.
use Rattle.std.specs.Prelude.{ℕ, List, []}
use Rattle.entries.specs.declared.raw.Raw.{Raw}
use Rattle.rules.specs.declared.answers.PostingReply.{PostingReply}
use Rattle.history.specs.History.{History, offer, after, answers_along, replied_of, results_refusal, carry_offers, carry_verdicts}
use Rattle.history.specs.Runs.{State, state_with, no_run, arrival_in, opening_refusal, opened, step_refusal, stepped, step_reply, close_refusal, closed}
use Rattle.history.specs.Queries.{Query, QueryAnswer, query_in}

-- what the calls are given
pub data Call : Type 0 where
  posting : Raw → Call
  carry_over : List Raw → List ℕ → Call  -- the entries, and the result list as it is lent
  opening : ℕ → ℕ → ℕ → Call  -- of a run: node, day, rate
  step : Call
  close : Call
  query : Query → Call

-- what they answer
pub data CallAnswer : Type 0 where
  posted : PostingReply → CallAnswer  -- a step's too
  carried : ℕ → List ℕ → CallAnswer  -- the refusal number, and the result list after it
  ran : ℕ → CallAnswer  -- the refusal number of an opening or a close
  queried : QueryAnswer → CallAnswer

-- the next state, and the answer: a posting offers the history one entry, a carry-over that isn't itself refused each of its
-- entries in turn, a step its charge; a query adds nothing
unfoldable pub call_in : State → Call → State × CallAnswer
call_in s (posting r) =
    let w = arrival_in s.run in (state_with (offer w s.entries r) s.run, posted (replied_of w s.entries r))
call_in s (carry_over rs results) =
    let w = arrival_in s.run in
    (state_with (carry_offers w s.entries rs results) s.run, carried (results_refusal rs results) (carry_verdicts w s.entries rs results))
call_in s (opening node day rate) = let n = opening_refusal s.run node day rate in (opened n s node day rate, ran n)
call_in s step = (stepped (step_refusal s.entries s.run) s, posted (step_reply s))
call_in s close = (closed s, ran (close_refusal s.run))
call_in s (query q) = (s, queried (query_in s q))

-- with no run, as after a load
abbrev pub state_from : History → State
state_from h = state_with h no_run

abbrev pub state_after : State → List Call → State
state_after s cs = after call_in s cs

abbrev pub history_after : State → List Call → History
history_after s cs = (state_after s cs).entries

-- the state after a list of calls, which begins empty and with no run, and the answer to each at its point
abbrev pub state_of : List Call → State
state_of cs = state_after (state_from []) cs

abbrev pub history_of : List Call → History
history_of cs = history_after (state_from []) cs

abbrev pub answers_in : List Call → List CallAnswer
answers_in cs = answers_along call_in (state_from []) cs
