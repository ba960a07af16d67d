-- Figures of guarantees and of periods, worked out by hand: lists of entries, each offered in turn from the empty history on, and what
-- is replied.
use Rattle.std.specs.Prelude.{ℕ, ◌+◌, min, ◌≡◌, List, [], ◌∷◌, map}
use Rattle.entries.specs.declared.arrivals.Arrival.TheVariants.{Posted}
use Rattle.entries.specs.declared.raw.Raw.{Raw}
use Rattle.rules.specs.declared.answers.PostingReply.{PostingReply}
use Rattle.history.specs.History.{offer, replied_of, answers_along}

-- an entry of node 1, its serial last: account, kind, day, amount, a, b, the serial that it names or 0
abbrev pub entry : ℕ → ℕ → ℕ → ℕ → ℕ → ℕ → ℕ → ℕ → Raw
entry account kind day amount a b named serial =
    record {
      kind = kind;
      node = 1;
      account = account;
      day = day;
      serial = serial;
      amount = amount;
      named_serial = named;
      a = a;
      b = b;
      named_node = min named 1;
    }

-- of account 1: day and amount, or day and the serial that is named; a bill is for its full period
abbrev bill : ℕ → ℕ → ℕ → Raw
bill day amount = entry 1 3 day amount 30 30 0

abbrev payment : ℕ → ℕ → ℕ → Raw
payment day amount = entry 1 4 day amount 0 0 0

-- 1,000 for 10 m of one phase, and a customer who shares them
abbrev contribution : ℕ → ℕ → Raw
contribution day = entry 1 1 day 1000 10 1 0

abbrev customer : ℕ → ℕ → ℕ → Raw
customer day named = entry 1 2 day 0 10 1 named

abbrev expiry : ℕ → ℕ → ℕ → Raw
expiry day named = entry 1 7 day 0 0 0 named

abbrev correction : ℕ → ℕ → ℕ → ℕ → Raw
correction day named amount = entry 1 8 day amount 0 0 named

abbrev guarantee : ℕ → ℕ → ℕ → Raw
guarantee day amount = entry 1 9 day amount 0 0 0

abbrev reduction : ℕ → ℕ → ℕ → Raw
reduction day named = entry 1 10 day 0 0 0 named

abbrev retention : ℕ → ℕ → ℕ → Raw
retention day named = entry 1 11 day 0 0 0 named

-- refusal, settled, paid out, retained
abbrev Reply : Type 0
Reply = ℕ × ℕ × ℕ × ℕ

abbrev accepted : ℕ → ℕ → ℕ → Reply
accepted settled paid_out retained = (0, settled, paid_out, retained)

abbrev joins : Reply
joins = accepted 0 0 0

abbrev refused : ℕ → Reply
refused n = (n, 0, 0, 0)

-- an entry by its serial, and the reply that it should have
pub record Figure : Type 0 where
  pub entry : ℕ → Raw
  pub reply : Reply

infix 20 ◌gives◌
abbrev ◌gives◌ : (ℕ → Raw) → Reply → Figure
e gives r = record { entry = e; reply = r }

-- the entry of the n-th figure has serial n
abbrev numbered : ℕ → List Figure → List Raw
numbered n [] = []
numbered n (f ∷ fs) = f.entry n ∷ numbered (n + 1) fs

abbrev pub replies : List Figure → List Reply
replies fs =
    map (λ (x : PostingReply). (x.refusal, x.settled, x.paid_out, x.retained))
    (answers_along (λ h r. (offer Posted h r, replied_of Posted h r)) [] (numbered 1 fs))

-- a tenth of the payments from d - 364 to d; what is held; nothing
abbrev pub tenths : List Figure
tenths =
    (guarantee 100 10000 gives joins) ∷
    (payment 100 5000 gives joins) ∷
    (payment 101 7000 gives joins) ∷
    (payment 465 20000 gives joins) ∷
    (payment 466 9000 gives joins) ∷
    -- 25 at 364 days from the guarantee, and 10 before its day
    (reduction 464 1 gives refused 25) ∷
    (reduction 99 1 gives refused 10) ∷
    (reduction 465 1 gives accepted 0 2700 0) ∷
    -- from the reduction on day 465, on its day, and before it
    (reduction 829 1 gives refused 25) ∷
    (reduction 465 1 gives refused 25) ∷
    (reduction 300 1 gives refused 25) ∷
    (reduction 830 1 gives accepted 0 900 0) ∷
    -- a tenth of 100,000, and 6,400 held
    (payment 1195 100000 gives joins) ∷
    (reduction 1195 1 gives accepted 0 6400 0) ∷
    -- it is open, though nothing is held; a reduction of 0 moves the day on
    (guarantee 1195 1 gives refused 24) ∷
    (reduction 1560 1 gives accepted 0 0 0) ∷
    (reduction 1924 1 gives refused 25) ∷
    (reduction 1925 1 gives accepted 0 0 0) ∷
    -- 26 on the day before the end
    (retention 1925 1 gives refused 26) ∷
    (retention 1926 1 gives accepted 0 0 0) ∷
    -- closed: 11 before 25 and 26; the next guarantee is another
    (reduction 1926 1 gives refused 11) ∷
    (retention 1000 1 gives refused 11) ∷
    (guarantee 1926 800 gives joins) ∷
    (reduction 3000 1 gives refused 11) ∷
    (reduction 2291 23 gives joins) ∷
    (retention 3751 23 gives refused 26) ∷
    (retention 3752 23 gives accepted 0 0 800) ∷
    []

-- arrears first, the rest in cash; a payment of another account doesn't count
abbrev pub owing : List Figure
owing =
    (guarantee 0 50000 gives joins) ∷
    (payment 300 60000 gives joins) ∷
    (bill 310 62000 gives joins) ∷
    (entry 2 4 310 90000 0 0 0 gives joins) ∷
    (reduction 365 1 gives accepted 2000 4000 0) ∷
    (bill 370 5000 gives joins) ∷
    -- a reduction within what is owed, of a payment that settles 1,000 of it
    (payment 600 1000 gives accepted 1000 0 0) ∷
    (reduction 730 1 gives accepted 100 0 0) ∷
    -- the rest is retained, 43,900 of 50,000, though 3,900 are owed
    (retention 1827 1 gives accepted 0 0 43900) ∷
    []

-- payments as they stand at the posting, by their own days
abbrev pub standing : List Figure
standing =
    (guarantee 0 50000 gives joins) ∷
    (payment 300 1000 gives joins) ∷
    (payment 365 500 gives joins) ∷
    (correction 400 2 3000 gives joins) ∷
    (reduction 365 1 gives accepted 0 350 0) ∷
    -- a later correction changes no past reduction
    (correction 365 3 0 gives joins) ∷
    (reduction 730 1 gives joins) ∷
    (retention 2000 1 gives accepted 0 0 49650) ∷
    []

-- 9 cents, 4 and 6, 9 and 10: one floor of the sum
abbrev pub small : List Figure
small =
    (guarantee 0 100 gives joins) ∷
    (payment 365 9 gives joins) ∷
    (reduction 365 1 gives accepted 0 0 0) ∷
    (payment 730 4 gives joins) ∷
    (payment 366 6 gives joins) ∷
    (reduction 730 1 gives accepted 0 1 0) ∷
    (payment 1000 9 gives joins) ∷
    (payment 1001 10 gives joins) ∷
    (reduction 1095 1 gives accepted 0 1 0) ∷
    (retention 1827 1 gives accepted 0 0 98) ∷
    []

-- what is named, and fields
abbrev pub naming : List Figure
naming =
    (guarantee 0 100 gives joins) ∷
    (entry 1 1 0 100 10 1 0 gives joins) ∷
    (reduction 400 2 gives refused 8) ∷
    (retention 2000 2 gives refused 8) ∷
    (entry 1 7 2000 0 0 0 1 gives refused 8) ∷
    (entry 1 2 2000 0 1 1 1 gives refused 8) ∷
    (correction 0 1 50 gives refused 8) ∷
    -- another account's guarantee; a guarantee of each account
    (entry 2 10 400 0 0 0 1 gives refused 8) ∷
    (entry 2 9 0 100 0 0 0 gives joins) ∷
    -- a reduction, or a retention, with an amount; one that names nothing; a guarantee of nothing, or with a
    (entry 1 10 400 1 0 0 1 gives refused 5) ∷
    (entry 1 11 2000 1 0 0 1 gives refused 5) ∷
    (reduction 400 0 gives refused 5) ∷
    (guarantee 0 0 gives refused 5) ∷
    (entry 1 9 0 100 1 0 0 gives refused 5) ∷
    (entry 1 13 0 0 0 0 0 gives refused 1) ∷
    []

-- five calendar years, on the day before their end and on it
abbrev pub periods : List Figure
periods =
    -- from day 0, 2000-01-01, to 1,827, 2005-01-01
    (contribution 0 gives joins) ∷
    (customer 1826 1 gives accepted 0 500 0) ∷
    (expiry 1826 1 gives refused 13) ∷
    (customer 1827 1 gives refused 12) ∷
    (expiry 1827 1 gives accepted 0 0 500) ∷
    (guarantee 0 100 gives joins) ∷
    (retention 1826 6 gives refused 26) ∷
    (retention 1827 6 gives accepted 0 0 100) ∷
    -- from 59, 2000-02-29, to 1,886, 2005-03-01, and from the day before to 1,885
    (guarantee 59 100 gives joins) ∷
    (retention 1885 9 gives refused 26) ∷
    (retention 1886 9 gives accepted 0 0 100) ∷
    (contribution 59 gives joins) ∷
    (customer 1885 12 gives accepted 0 500 0) ∷
    (customer 1886 12 gives refused 12) ∷
    (expiry 1886 12 gives accepted 0 0 500) ∷
    (contribution 58 gives joins) ∷
    (expiry 1884 16 gives refused 13) ∷
    (customer 1885 16 gives refused 12) ∷
    -- from 34,698, 2094-12-31, to the last day
    (contribution 34698 gives joins) ∷
    (customer 36523 19 gives accepted 0 500 0) ∷
    (expiry 36523 19 gives refused 13) ∷
    (customer 36524 19 gives refused 12) ∷
    (expiry 36524 19 gives accepted 0 0 500) ∷
    -- from 34,699, 2095-01-01, and from the last day: they don't end
    (contribution 34699 gives joins) ∷
    (expiry 36524 24 gives refused 13) ∷
    (customer 36524 24 gives accepted 0 500 0) ∷
    (contribution 36524 gives joins) ∷
    (expiry 36524 27 gives refused 13) ∷
    -- guarantees: from 58, to the last day, and one that doesn't end
    (guarantee 58 100 gives joins) ∷
    (retention 1884 29 gives refused 26) ∷
    (retention 1885 29 gives accepted 0 0 100) ∷
    (guarantee 34698 100 gives joins) ∷
    (retention 36523 32 gives refused 26) ∷
    (retention 36524 32 gives accepted 0 0 100) ∷
    (guarantee 34699 100 gives joins) ∷
    (retention 36524 35 gives refused 26) ∷
    []

abbrev pub AllGiven : List (List Figure) → Type 0
AllGiven [] = Unit {0}
AllGiven (fs ∷ rest) = (replies fs ≡ map (λ (f : Figure). f.reply) fs) × AllGiven rest

-- the lemma; proofs/Guarantees.antt shows it
abbrev pub Guarantees : Type 0
Guarantees = AllGiven (tenths ∷ owing ∷ standing ∷ small ∷ naming ∷ periods ∷ [])
