-- An account, and the two moves that serve all kinds.
use Rattle.std.specs.Prelude.{ℕ, Bool, false}
use Rattle.measures.specs.Cents.{cents, plus_of, minus_of}
use Rattle.measures.specs.Days.{day}
use Rattle.measures.specs.declared.Cents.{Cents}
use Rattle.measures.specs.declared.Day.{Day}
use Rattle.rules.specs.Moves.{settles, leaves, covers, owes}
use Rattle.rules.specs.declared.accounts.Account.{Account}
use Rattle.rules.specs.declared.accounts.Credited.{Credited}

abbrev pub account_of : Cents → Cents → Cents → ℕ → Day → Bool → ℕ → Account
account_of arrears credit deposit rate deposited guarantee newest =
    record {
      arrears = arrears;
      credit = credit;
      deposit = deposit;
      rate = rate;
      deposited = deposited;
      guarantee_open = guarantee;
      newest = newest;
    }

-- an account with no entries
abbrev pub no_account : Account
no_account = account_of (cents 0) (cents 0) (cents 0) 0 (day 0) false 0

-- To credit c
unfoldable pub credited_of : Account → Cents → Credited
credited_of acc c =
    let settled = cents (settles c.0 acc.arrears.0) in
    record {
      account =
          account_of (minus_of acc.arrears settled) acc.credit acc.deposit acc.rate acc.deposited acc.guarantee_open acc.newest;
      settled = settled;
      left = cents (leaves c.0 acc.arrears.0);
    }

-- what is left over is added to credit
unfoldable pub plus_credit_of : Account → Cents → Account
plus_credit_of acc left =
    account_of acc.arrears (plus_of acc.credit left) acc.deposit acc.rate acc.deposited acc.guarantee_open acc.newest

-- To charge c
unfoldable pub charged_of : Account → Cents → Account
charged_of acc c =
    account_of (plus_of acc.arrears (cents (owes c.0 acc.credit.0)))
    (minus_of acc.credit (cents (covers c.0 acc.credit.0)))
    acc.deposit
    acc.rate
    acc.deposited
    acc.guarantee_open
    acc.newest

-- the account with a deposit held
unfoldable pub with_deposit_of : Account → Cents → ℕ → Day → Account
with_deposit_of acc deposit rate deposited =
    account_of acc.arrears acc.credit deposit rate deposited acc.guarantee_open acc.newest

-- the account with a guarantee open, or none
unfoldable pub with_guarantee_of : Account → Bool → Account
with_guarantee_of acc guarantee = account_of acc.arrears acc.credit acc.deposit acc.rate acc.deposited guarantee acc.newest

-- the account with a newest entry
unfoldable pub with_newest_of : Account → ℕ → Account
with_newest_of acc newest = account_of acc.arrears acc.credit acc.deposit acc.rate acc.deposited acc.guarantee_open newest
