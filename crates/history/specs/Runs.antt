-- Late-charge runs, as the history keeps them: it notes its own arrears, and each step's charge, unless refused, joins it. Nothing here reads
-- a book.
use Rattle.std.specs.Prelude.{ℕ, zero, suc, ◌+◌, Bool, true, false, cond, not, ◌||◌, List, [], ◌∷◌, length, leb, ltb}
use Rattle.entries.specs.Ranges.{between}
use Rattle.entries.specs.declared.arrivals.Arrival.{Arrival}
use Rattle.entries.specs.declared.arrivals.Arrival.TheVariants.{Posted, PostedInRun}
use Rattle.entries.specs.declared.raw.Raw.{Raw}
use Rattle.rules.specs.Formulas.{late_amount}
use Rattle.rules.specs.declared.answers.PostingReply.{PostingReply}
use Rattle.history.specs.History.{History, accounts, entries, last_day, last_serial, balance, four_amounts, ◌⇒◌, first_broken, replied_by}

-- an account and its arrears, as an opening notes them
pub record Noted : Type 0 where
  pub account : ℕ
  pub arrears : ℕ

-- a run: its node, day and rate, and the accounts that are left to charge, the next one first
pub record Run : Type 0 where
  pub node : ℕ
  pub day : ℕ
  pub rate : ℕ
  pub left : List Noted

abbrev pub run_of : ℕ → ℕ → ℕ → List Noted → Run
run_of node day rate left = record { node = node; day = day; rate = rate; left = left }

abbrev pub no_run : Run
no_run = run_of 0 0 0 []

-- a run with no account left is over
abbrev pub any_left : List Noted → Bool
any_left [] = false
any_left (n ∷ ns) = true

abbrev pub is_open : Run → Bool
is_open run = any_left run.left

-- what a list of calls leaves: the entries that joined, and the run
pub record State : Type 0 where
  pub entries : History
  pub run : Run

abbrev pub state_with : History → Run → State
state_with h run = record { entries = h; run = run }

-- how a posted entry comes in
abbrev pub arrival_in : Run → Arrival
arrival_in run = cond (is_open run) PostedInRun Posted

-- the rate is at most 1,000 hundredths of a percent, a serial at most 2^32 - 1
abbrev pub late_rate_most : ℕ
late_rate_most = 1000

abbrev pub serial_most : ℕ
serial_most = 4294967295

-- AN OPENING
-- an account in front of others, where it has arrears
abbrev pub with_note : ℕ → ℕ → List Noted → List Noted
with_note account arrears ns = cond (ltb 0 arrears) (record { account = account; arrears = arrears } ∷ ns) ns

-- the accounts 1 to n that have arrears, ascending, in front of others
unfoldable pub notes : History → ℕ → List Noted → List Noted
notes h zero ns = ns
notes h (suc n) ns = notes h n (with_note (suc n) (balance h (suc n)).arrears ns)

-- 28: during a run, or with its node, day or rate out of range
abbrev pub opening_refusal : Run → ℕ → ℕ → ℕ → ℕ
opening_refusal run node day rate = cond (is_open run || (not (between node 1 2) || (ltb last_day day || ltb late_rate_most rate))) 28 0

abbrev pub opened : ℕ → State → ℕ → ℕ → ℕ → State
opened zero s node day rate = state_with s.entries (run_of node day rate (notes s.entries accounts []))
opened (suc n) s node day rate = s

-- A STEP
-- the entry that charges an account: of the run's node and day, its serial the node's last plus 1, on the noted arrears
abbrev pub late_charge : ℕ → ℕ → ℕ → ℕ → ℕ → Raw
late_charge node account day serial amount =
    record { kind = 12; node = node; account = account; day = day; serial = serial; amount = amount; named_serial = 0; a = 0; b = 0; named_node = 0 }

abbrev pub charge_in : History → Run → Noted → Raw
charge_in h run n = late_charge run.node n.account run.day (last_serial h run.node + 1) (late_amount n.arrears run.rate)

-- 28: there is no run; 6: the serial passes 32 bits; 7
abbrev pub step_refusal : History → Run → ℕ
step_refusal h run =
    first_broken ((not (is_open run) ⇒ 28) ∷ (ltb serial_most (last_serial h run.node + 1) ⇒ 6) ∷ (leb entries (length h) ⇒ 7) ∷ [])

-- the charge joins, and the run goes on with the other accounts
abbrev pub charged : History → Run → List Noted → State
charged h run [] = state_with h run
charged h run (n ∷ ns) = state_with (charge_in h run n ∷ h) (run_of run.node run.day run.rate ns)

-- a refused step leaves the run at its account
abbrev pub stepped : ℕ → State → State
stepped zero s = charged s.entries s.run s.run.left
stepped (suc n) s = s

-- its answer is a posting's: the number, and four zeros
abbrev pub step_reply : State → PostingReply
step_reply s = replied_by (step_refusal s.entries s.run) (length s.entries + 1) (four_amounts 0 0 0 0)

-- A CLOSE
-- 28: there is no run
abbrev pub close_refusal : Run → ℕ
close_refusal run = cond (is_open run) 0 28

abbrev pub closed : State → State
closed s = state_with s.entries (cond (is_open s.run) no_run s.run)
