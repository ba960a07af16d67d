-- Laws of the page printer's text: that of a page that is given, and of one that is refused.
use Prim.Native.Nat.{ℕ}
use mathlib.Core.Path.{◌≡◌, refl, sym, ap, ◌∙◌}
use mathlib.Core.Bool.{Bool, true, false}
use mathlib.Core.List.{List, ◌++◌}
use native.Mathlib.Omega.{arith}
use lib.ListN.{length, take, drop, replicate, length-append, length-drop}
use lib.Seq.{take_at}
use lib.Dec.{eqb}
use borrow.Author.Tests.{eqb-false}
use Rattle.entries.specs.Ranges.{between}
use Rattle.entries.specs.Refusals.{refusal_number, decided_of}
use Rattle.entries.proofs.RefusalsLaws.{refusal_above}
use Rattle.lines.specs.Lines.{refused_line}
use Rattle.book.specs.Fresh.{accounts_most}
use Rattle.loads.specs.Given.{bytes_given}
use Rattle.loads.specs.Loaded.{LoadedReply, record_number}
use Rattle.loads.specs.declared.Fault.{Fault}
use Rattle.loads.specs.declared.given.BytesGiven.{BytesGiven}
use Rattle.pages.specs.Rows.{page_bytes}
use Rattle.pages.specs.Pages.{page_text_of, page_of}
use Rattle.image_page.specs.Pages.{PageImageExit, page_image}
use Rattle.page_printer.specs.Printed.{printed_page}

abbrev exit : BytesGiven → List ℕ → PageImageExit
exit g after = record { given = g; output = after }

-- of a text that has just room for a page: the account's page is given and printed, or a refusal is, and the text stays
data Outcome (l : LoadedReply) (account : ℕ) (before : List ℕ) : Type 0 where
  paged : page_image l account before ≡ exit (bytes_given 0 0 page_bytes) (page_text_of l.book account ++ drop page_bytes before) →
      printed_page l account ≡ page_text_of l.book account → Outcome l account before
  refused : (n i : ℕ) → (n ≡ 0 → ⊥) → page_image l account before ≡ exit (bytes_given n i 0) before → printed_page l account ≡ refused_line n i →
      Outcome l account before

outcome : (l : LoadedReply) (account : ℕ) (before : List ℕ) → length before ≡ page_bytes → Outcome l account before
unfolding page_image printed_page page_of decided_of
outcome l account before room = by_tests (eqb l.refusal 0) (between account 1 accounts_most) refl refl
  where
    by_tests : (t u : Bool) → eqb l.refusal 0 ≡ t → between account 1 accounts_most ≡ u → Outcome l account before
    by_tests false u e f = refused l.refusal l.faulty (eqb-false _ _ e) (rw e refl) (rw e refl)
    by_tests true false e f = refused 3 0 (λ z. omega arith) (rw (e, f) refl) (rw (e, f) refl)
    by_tests true true e f = paged (rw (e, f, room) refl) (rw (e, f) refl)

-- a page's bytes before it is written
abbrev before : List ℕ
before = replicate page_bytes 0

module _ (l : LoadedReply) (account : ℕ) (after : List ℕ) where
  -- a page that is given: it has 5,346 bytes, since the text has as many as before
  pub given_page : (n : ℕ) → exit (bytes_given 0 0 n) after ≡ page_image l account before → length after ≡ page_bytes →
      (n ≡ page_bytes) × (take n after ≡ printed_page l account)
  given_page n e h = by_outcome (outcome l account before refl)
    where
      by_outcome : Outcome l account before → (n ≡ page_bytes) × (take n after ≡ printed_page l account)
      by_outcome (paged x p) =
          let m : n ≡ page_bytes = ap (λ (v : PageImageExit). v.given.bytes) (e ∙ x) in
          let a : after ≡ page_text_of l.book account ++ drop page_bytes before = ap (λ (v : PageImageExit). v.output) (e ∙ x) in
          let long : length (page_text_of l.book account) ≡ page_bytes =
          omega (arith, ap length a, length-append (page_text_of l.book account) (drop page_bytes before), length-drop page_bytes before) in
          (m, rw (m, a, p) (take_at (page_text_of l.book account) (drop page_bytes before) page_bytes long))
      by_outcome (refused r i f x p) = absurd (f (sym (ap (λ (v : PageImageExit). v.given.refusal) (e ∙ x))))

  -- a refusal: its line is printed
  pub given_refusal : (f : Fault) → exit (bytes_given (refusal_number f.refusal) (record_number f) 0) after ≡ page_image l account before →
      printed_page l account ≡ refused_line (refusal_number f.refusal) (record_number f)
  given_refusal f e = by_outcome (outcome l account before refl)
    where
      by_outcome : Outcome l account before → printed_page l account ≡ refused_line (refusal_number f.refusal) (record_number f)
      by_outcome (paged x p) = absurd (omega (arith, refusal_above f.refusal, ap (λ (v : PageImageExit). v.given.refusal) (e ∙ x)))
      by_outcome (refused r i h x p) =
          let number : refusal_number f.refusal ≡ r = ap (λ (v : PageImageExit). v.given.refusal) (e ∙ x) in
          let faulty : record_number f ≡ i = ap (λ (v : PageImageExit). v.given.«record») (e ∙ x) in
          rw (number, faulty) p
