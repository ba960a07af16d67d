-- What a walk of the account's chain makes of a statement, and what no such account does.
use Prim.Native.Nat.{ℕ}
use mathlib.Core.Path.{◌≡◌}
use mathlib.Core.Bool.{true, false}
use native.Mathlib.Omega.{arith}
use lib.ListN.{length-map}
use Rattle.entries.specs.Ranges.{between}
use Rattle.entries.specs.Refusals.{refuse_if, decided_of}
use Rattle.entries.specs.declared.refusals.Refusal.TheVariants as no
use Rattle.book.specs.Fresh.{accounts_most, entries_most}
use Rattle.changes.specs.declared.Link.{Link}
use Rattle.book.specs.Posting.{account_at}
use Rattle.book.specs.declared.Book.{Book}
use Rattle.book.proofs.ChainLaws.{walk_short}
use Rattle.queries.specs.Chain.{walk_at, chain_at}
use Rattle.queries.specs.Walk.{no_sums, statement_figures_of}
use Rattle.queries.specs.Statements.{statement_reply_of, given_of, statement_of}
use Rattle.queries.specs.declared.statements.Sums.{Sums}
use Rattle.std.specs.Prelude.{Ok, Err}
use Rattle.queries.proofs.Walk.{sums_over, whole}

pub refused : (b : Book) (account allowance : ℕ) → between account 1 accounts_most ≡ false →
    statement_reply_of (Err no.UnknownAccount) ≡ statement_of b account allowance
unfolding statement_of decided_of refuse_if
refused b account allowance h = simp h

pub given : (b : Book) (account allowance : ℕ) (s : Sums) → between account 1 accounts_most ≡ true →
    s ≡ sums_over allowance no_sums (chain_at b account) →
    statement_reply_of (Ok (statement_figures_of s (account_at b account) allowance)) ≡ statement_of b account allowance
unfolding statement_of decided_of refuse_if statement_reply_of given_of statement_figures_of
given b account allowance s h e =
    let short = walk_short b.entries entries_most (account_at b account).newest in
    simp (h, e, whole allowance (chain_at b account) (rw (length-map (walk_at b account) (λ (l : Link). l.entry)) (omega arith)))
