-- What the page printer writes of an account of a load, as bytes.
use Rattle.std.specs.Prelude.{ℕ, cond, List, eqb}
use Rattle.entries.specs.Ranges.{between}
use Rattle.entries.specs.Refusals.{refusal_number}
use Rattle.entries.specs.declared.refusals.Refusal.TheVariants as no
use Rattle.lines.specs.Lines.{refused_line}
use Rattle.book.specs.Fresh.{accounts_most}
use Rattle.loads.specs.Loaded.{LoadedReply}
use Rattle.pages.specs.Pages.{page_text_of}

-- the account's page; a refused image writes only `refused`, number, record, and an unknown account only `refused`, 3, 0
unfoldable pub printed_page : LoadedReply → ℕ → List ℕ
printed_page l account =
    cond (eqb l.refusal 0)
    (cond (between account 1 accounts_most) (page_text_of l.book account) (refused_line (refusal_number no.UnknownAccount) 0))
    (refused_line l.refusal l.faulty)
