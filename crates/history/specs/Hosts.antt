-- Demand 3 for hosts: lists of exported calls, each on the image that the one before it left.
use Rattle.std.specs.Prelude.{ℕ, ◌≡◌, cond, List, [], ◌∷◌, ◌++◌, length, take, replicate, eqb}
use Rattle.entries.specs.Kinds.{kind_of}
use Rattle.entries.specs.declared.arrivals.Arrival.TheVariants.{Posted}
use Rattle.entries.specs.declared.raw.Raw.{Raw}
use Rattle.entries.specs.declared.kinds.Kind.TheVariants as kind
use Rattle.codec.specs.Bytes.{Bytes}
use Rattle.codec.specs.Headers.{mark}
use Rattle.loads.specs.Loaded.{LoadedReply}
use Rattle.loads.specs.Loads.{load_of}
use Rattle.entries.specs.Order.{first_refusal}
use Rattle.image_read.specs.Checks.{check_given}
use Rattle.image_post.specs.Postings.{PostingExit, posting_given, refused_posting, read_entry, entry_refusal, post_image}
use Rattle.image_carry.specs.Carries.{CarryExit, accepted_carry, refused_carry, read_entries, entries_refusal, carry_image}
use Rattle.image_read.specs.Reads.{statement_given, statement_image, contribution_given, contribution_image, year_given, year_image}
use Rattle.image_page.specs.Pages.{PageImageExit, page_image_exit, page_image}
use Rattle.image_read.specs.declared.checks.CheckGiven.{CheckGiven}
use Rattle.image_read.specs.declared.reads.StatementGiven.{StatementGiven}
use Rattle.image_read.specs.declared.reads.ContributionGiven.{ContributionGiven}
use Rattle.image_read.specs.declared.reads.YearGiven.{YearGiven}
use Rattle.history.specs.History.{History, after, answers_along, judge_by, offer, offers, replied_of, results_refusal, carry_verdicts}
use Rattle.history.specs.Laws.{In, Lawful, Bounded}
use Rattle.history.specs.Years.{year_in}
use Rattle.history.specs.Queries.{statement_in, contribution_in, page_in}
use Rattle.history.specs.Images.{image_in, bytes_in, room_in, saved_by}
use Rattle.history.specs.Agreement.{Kept}
use Rattle.history.specs.Trips.{history_in}

-- the exported calls that only read an image, with what they are given beside it
pub data HostQuery : Type 0 where
  check : HostQuery
  statement : ℕ → ℕ → HostQuery  -- account, allowance
  contribution : ℕ → ℕ → ℕ → HostQuery  -- account, node, serial
  page : ℕ → List ℕ → HostQuery  -- account, and the output as it is lent
  year : ℕ → HostQuery  -- the year's number

-- what they give, with a page's output at the end
pub data HostQueryAnswer : Type 0 where
  checked : CheckGiven → HostQueryAnswer
  stated : StatementGiven → HostQueryAnswer
  given : ContributionGiven → HostQueryAnswer
  paged : PageImageExit → HostQueryAnswer
  totalled : YearGiven → HostQueryAnswer

-- what the exported calls are given beside the image
pub data HostCall : Type 0 where
  posting : List ℕ → List ℕ → HostCall  -- the entry, and the output as it is lent
  carry_over : List ℕ → List ℕ → List ℕ → HostCall  -- the entries, and the result list and the output as they are lent
  query : HostQuery → HostCall

-- what they give, with the result list and the output at the end
pub data HostAnswer : Type 0 where
  posted : PostingExit → HostAnswer
  carried : CarryExit → HostAnswer
  queried : HostQueryAnswer → HostAnswer

-- ON IMAGES
unfoldable pub host_query_of : LoadedReply → HostQuery → HostQueryAnswer
host_query_of l check = checked (check_given l)
host_query_of l (statement account allowance) = stated (statement_image l account allowance)
host_query_of l (contribution account node serial) = given (contribution_image l account node serial)
host_query_of l (page account output) = paged (page_image l account output)
host_query_of l (year y) = totalled (year_image l y)

-- the image to go on with: so many bytes of the output of a posting or a carry-over that is not refused, else the same
abbrev pub wrote : List ℕ → ℕ → ℕ → List ℕ → List ℕ
wrote l refusal bytes output = cond (eqb refusal 0) (take bytes output) l

-- that image, and what the call gives
unfoldable pub host_of : List ℕ → HostCall → List ℕ × HostAnswer
host_of l (posting entry output) =
    let o = post_image (load_of l) entry output in (wrote l o.given.refusal o.given.bytes o.output, posted o)
host_of l (carry_over entries results output) =
    let o = carry_image (load_of l) entries results output in (wrote l o.given.refusal o.given.bytes o.output, carried o)
host_of l (query q) = (l, queried (host_query_of (load_of l) q))

-- CONTRIBUTION_BOOK_FRESH: CHB1, and zeros
abbrev pub fresh_image : List ℕ
fresh_image = mark ++ replicate 20 0

-- BY THE HISTORY, which has no run: an image holds none
-- a posting: 17, then the judge's refusal, then 21
abbrev pub post_refusal_in : History → List ℕ → List ℕ → ℕ
post_refusal_in h entry output =
    first_refusal (entry_refusal entry ∷ judge_by Posted h (read_entry entry) ∷ room_in (offer Posted h (read_entry entry)) output ∷ [])

unfoldable pub post_in : History → List ℕ → List ℕ → PostingExit
post_in h entry output =
    let next = offer Posted h (read_entry entry) in
    cond (eqb (post_refusal_in h entry output) 0)
    (record { given = posting_given (replied_of Posted h (read_entry entry)) 0 (bytes_in next); output = saved_by next output })
    (record { given = refused_posting (post_refusal_in h entry output) 0; output = output })

-- a carry-over: 17, then 22, then 21
abbrev pub carry_refusal_in : History → List ℕ → List ℕ → List ℕ → ℕ
carry_refusal_in h entries results output =
    first_refusal (entries_refusal entries ∷ results_refusal (read_entries entries) results ∷ room_in (offers Posted h (read_entries entries)) output ∷ [])

unfoldable pub carry_in : History → List ℕ → List ℕ → List ℕ → CarryExit
carry_in h entries results output =
    let next = offers Posted h (read_entries entries) in
    cond (eqb (carry_refusal_in h entries results output) 0)
    (record { given = accepted_carry (bytes_in next); results = carry_verdicts Posted h (read_entries entries) results; output = saved_by next output })
    (record { given = refused_carry (carry_refusal_in h entries results output) 0; results = results; output = output })

unfoldable pub host_query_in : History → HostQuery → HostQueryAnswer
host_query_in h check = checked (record { refusal = 0; «record» = 0; entries = length h })
host_query_in h (statement account allowance) = stated (statement_given (statement_in h account allowance) 0)
host_query_in h (contribution account node serial) = given (contribution_given (contribution_in h account node serial) 0)
host_query_in h (page account output) = paged (page_image_exit (page_in h account output))
host_query_in h (year y) = totalled (year_given (year_in h y) 0 0)

-- the next history, and what the call gives: a posting that is not refused offers its entry, a carry-over the entries that it is given in
-- turn; a query adds nothing
unfoldable pub host_in : History → HostCall → History × HostAnswer
host_in h (posting entry output) =
    (cond (eqb (post_refusal_in h entry output) 0) (offer Posted h (read_entry entry)) h, posted (post_in h entry output))
host_in h (carry_over entries results output) =
    (cond (eqb (carry_refusal_in h entries results output) 0) (offers Posted h (read_entries entries)) h, carried (carry_in h entries results output))
host_in h (query q) = (h, queried (host_query_in h q))

-- what every lent entry and list of entries satisfies: each byte is below 256
abbrev pub Lent : HostCall → Type 0
Lent (posting entry output) = Bytes entry
Lent (carry_over entries results output) = Bytes entries
Lent (query q) = Unit {0}

abbrev pub AllLent : List HostCall → Type 0
AllLent [] = Unit {0}
AllLent (c ∷ cs) = Lent c × AllLent cs

-- a list of calls from an image on, and the history of that image
pub record HostClaim (l : List ℕ) (h : History) (cs : List HostCall) : Type 0 where
  -- what each call gives, and its result list and output at the end, is the history's at that point
  pub answered : answers_along host_of l cs ≡ answers_along host_in h cs
  -- the image after the list is the history's
  pub image : after host_of l cs ≡ image_in (after host_in h cs)
  -- it loads, and the loaded book keeps the history, whose every entry passed the judge
  pub loads : (load_of (after host_of l cs)).refusal ≡ 0
  pub kept : Kept (load_of (after host_of l cs)).book (after host_in h cs)
  -- the history's sums, and no two corrections on one account that name the same entry
  pub lawful : Lawful (after host_in h cs)
  -- no bill of zero days served joins
  pub no_day : (e : Raw) → In e (after host_in h cs) → kind_of e.kind ≡ kind.Bill → e.b ≡ 0 → In e h
  -- and bounds against saturation
  pub bounded : Bounded (after host_in h cs)

-- proofs/Hosts.antt shows it
pub record Demand3Hosts : Type 0 where
  -- every list of calls from the image of a fresh book on
  pub fresh : (cs : List HostCall) → AllLent cs → HostClaim fresh_image [] cs
  -- and from any image that loads, with the history of its records
  pub loaded : (l : List ℕ) → Bytes l → (load_of l).refusal ≡ 0 → (cs : List HostCall) → AllLent cs → HostClaim l (history_in l) cs
