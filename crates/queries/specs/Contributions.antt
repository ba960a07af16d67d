-- The contribution query, in document 01's numbers.
use Rattle.std.specs.Prelude.{ℕ, false, not, List, [], ◌∷◌, Result, Ok, Err}
use Rattle.entries.specs.Ranges.{between}
use Rattle.entries.specs.Data.{name_of, carries, of_contribution}
use Rattle.entries.specs.Refusals.{refusal_number, Row, ◌⇒◌, check_rows, decided_of}
use Rattle.entries.specs.declared.data.Data.{Data}
use Rattle.entries.specs.declared.refusals.Refusal.{Refusal}
use Rattle.entries.specs.declared.refusals.Refusal.TheVariants as no
use Rattle.book.specs.Fresh.{accounts_most}
use Rattle.book.specs.Chain.{sought_in}
use Rattle.book.specs.declared.Found.{Found}
use Rattle.book.specs.declared.Found.TheVariants.{At, Nothing}
use Rattle.book.specs.declared.Book.{Book}
use Rattle.queries.specs.Chain.{walk_at}
use Rattle.queries.specs.Replies.{contribution_reply}
use Rattle.queries.specs.declared.contributions.ContributionFigures.{ContributionFigures}
use Rattle.queries.specs.declared.contributions.ContributionReply.{ContributionReply}

abbrev pub ContributionAnswer : Type 0
ContributionAnswer = Result ContributionFigures Refusal

-- refused: the number and otherwise zeros; given: the figures
unfoldable pub contribution_reply_of : ContributionAnswer → ContributionReply
contribution_reply_of (Err n) = contribution_reply (refusal_number n) 0 0 0 0 0 0 false
contribution_reply_of (Ok f) =
    contribution_reply 0
    f.amount.0
    f.to_arrears.0
    f.paid_out.0
    f.held.0
    f.retained.0
    f.added
    f.closed

abbrev pub not_on_chain : ContributionReply
not_on_chain = contribution_reply_of (Err no.NotOnChain)

-- a contribution's figures; no other entry has them, nor an unused one
unfoldable pub contribution_figures_of : Data → ContributionReply
contribution_figures_of d =
    of_contribution d
    (λ _ _ added closed amount held to_arrears paid_out retained.
    contribution_reply 0 amount.0 to_arrears.0 paid_out.0 held.0 retained.0 added closed)
    not_on_chain

-- of the entry that a search ends in
unfoldable pub known_of : Found → ContributionReply
known_of Nothing = not_on_chain
known_of (At l) = contribution_figures_of l.entry.«data»

abbrev pub contribution_rows : ℕ → ℕ → List Row
contribution_rows account node =
    (not (between node 1 2) ⇒ no.UnknownNode) ∷ (not (between account 1 accounts_most) ⇒ no.UnknownAccount) ∷ []

-- 2, 3, then 8: no such entry on the account's chain, or not a contribution
unfoldable pub contribution_query_of : Book → ℕ → ℕ → ℕ → ContributionReply
contribution_query_of b account node serial =
    decided_of (check_rows (contribution_rows account node)) (λ n. contribution_reply_of (Err n))
    (known_of (sought_in (carries (name_of node serial)) (walk_at b account)))
