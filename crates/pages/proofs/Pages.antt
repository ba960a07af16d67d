-- Laws of a page's lines: those that are left along an account's chain, and lines as bytes.
use Prim.Native.Nat.{ℕ, zero, suc, ◌+◌, ◌-◌, ◌≤◌, ◌<◌}
use mathlib.Core.Path.{◌≡◌, refl, sym, ap, ◌∙◌}
use mathlib.Core.List.{List, [], ◌∷◌, ◌++◌, append_assoc, append-nil}
use native.Mathlib.Numerals.{add-one, sub-one}
use native.Mathlib.Omega.{arith}
use lib.ListN.{length, take, drop, set, replicate, length-set, take-append-drop}
use lib.Seq.{drop-drop, drop-set-lt, take_all, take-suc-set}
use Rattle.std.specs.List.{flat_map}
use borrow.Author.Tests.{ltb-false, not-false}
use Rattle.entries.specs.Refusals.{check_rows, decided_of}
use Rattle.entries.specs.declared.refusals.Refusal.{Refusal}
use Rattle.std.specs.Prelude.{Ok, Err}
use Rattle.changes.specs.declared.Link.{Link}
use Rattle.entries.proofs.Ranges.{inside}
use Rattle.entries.proofs.RefusalsLaws.{unbroken}
use Rattle.book.specs.Fresh.{accounts_most}
use Rattle.book.specs.declared.Book.{Book}
use Rattle.queries.specs.Statements.{statement_of}
use Rattle.queries.specs.Chain.{walk_at}
use Rattle.pages.specs.Rows.{page_bytes, entries_shown, blank_row, entry_row, entry_rows, page_rows, text_of}
use Rattle.pages.specs.Pages.{entry_line_of, entry_lines_of, page_exit_of, page_refusals, page_of}

-- lines one after another
flat : (rows : List (List ℕ)) → flat_map (λ row. row) rows ≡ text_of rows
unfolding text_of
flat [] = refl
flat (row ∷ rows) = ap (λ t. row ++ t) (flat rows)

-- THE REST OF A PAGE, ALONG A CHAIN

blanks : (n : ℕ) → entry_rows n [] ≡ replicate n blank_row
unfolding entry_rows
blanks zero = refl
blanks (suc n) = ap (λ (rows : List (List ℕ)). blank_row ∷ rows) (blanks n)

fewer_blanks : (n : ℕ) → 0 < n → drop 1 (replicate n blank_row) ≡ replicate (n - 1) blank_row
fewer_blanks zero h = absurd (omega arith)
fewer_blanks (suc n) h = rw (sub-one (suc n)) refl

-- an entry's line, and those after it
one_line : (left : ℕ) (l : Link) (ls : List Link) → 0 < left →
    entry_rows left (entry_lines_of (l ∷ ls)) ≡ entry_row (entry_line_of (l.place + 1) l.entry) ∷ entry_rows (left - 1) (entry_lines_of ls)
unfolding entry_rows
one_line zero l ls h = absurd (omega arith)
one_line (suc n) l ls h = rw (sub-one (suc n)) refl

-- The lines of entries, of which the first so many are written and the others are blank: those that are written, and those of the links that
-- are left, are the whole.
pub record Begun (rows whole : List (List ℕ)) (i : ℕ) (ls : List Link) : Type 0 where
  pub long : length rows ≡ entries_shown
  pub blank : drop i rows ≡ replicate (entries_shown - i) blank_row
  pub text : take i rows ++ entry_rows (entries_shown - i) (entry_lines_of ls) ≡ whole

-- an entry's line more
pub begun_next : {rows whole : List (List ℕ)} {i : ℕ} {ls rest : List Link} (l : Link) (row : List ℕ) →
    i < entries_shown → ls ≡ l ∷ rest → row ≡ entry_row (entry_line_of (l.place + 1) l.entry) → Begun rows whole i ls → Begun (set rows i row) whole (i + 1) rest
begun_next {rows} {whole} {i} {ls} {rest} l row h e q k =
    let fewer : entries_shown - i - 1 ≡ entries_shown - (i + 1) = omega arith in
    let text = rw (e, one_line (entries_shown - i) l rest (omega arith), fewer) at k.text in
    let n = k.long in
    record {
      long = simp length-set n;
      blank = drop-set-lt (i + 1) rows i row (omega arith) ∙ sym (drop-drop 1 i rows) ∙
          (rw (k.blank, fewer_blanks (entries_shown - i) (omega arith), fewer));
      text =
          (let written : take (i + 1) (set rows i row) ≡ take i rows ++ (row ∷ []) = rw add-one (take-suc-set rows i row (omega arith)) in
          rw (written, append_assoc, q) text);
    }

-- no entry is left
pub begun_all : {rows whole : List (List ℕ)} {i : ℕ} {ls : List Link} → ls ≡ [] → Begun rows whole i ls → rows ≡ whole
begun_all {rows} {whole} {i} {ls} e k =
    sym (take-append-drop i rows) ∙ (rw (k.blank, ← blanks (entries_shown - i)) (rw e at k.text))

-- each line has an entry
pub begun_full : {rows whole : List (List ℕ)} {i : ℕ} {ls : List Link} → i ≡ entries_shown → Begun rows whole i ls → rows ≡ whole
unfolding entry_rows
begun_full {rows} {whole} {i} {ls} h k =
    let none : entries_shown - i ≡ 0 = omega arith in
    sym (append-nil rows) ∙ (rw (none, take_all i rows (omega (arith, k.long))) at k.text)

-- no line is left, or no entry
pub begun_ends : {rows whole : List (List ℕ)} {i left : ℕ} {ls : List Link} → i + left ≡ entries_shown → (0 < left → ls ≡ []) → Begun rows whole i ls → rows ≡ whole
begun_ends {left = zero} h e k = begun_full (omega arith) k
begun_ends {left = suc n} h e k = begun_all (e (omega arith)) k

-- THE CALL

-- what 3 and 23 leave
module _ (account bytes : ℕ) (e : Ok tt ≡ check_rows (page_refusals account bytes)) where
  pub is_known : account < 1000
  is_known = omega (arith, (inside account 1 accounts_most (not-false _ (unbroken 3 (page_refusals account bytes) (sym e)))).1)

  pub has_room : page_bytes ≤ bytes
  has_room = ltb-false bytes page_bytes (unbroken 23 (page_refusals account bytes) (sym e))

pub page_refused : (b : Book) (account : ℕ) (buf : List ℕ) (n : Refusal) → check_rows (page_refusals account (length buf)) ≡ Err n →
    page_exit_of (Err n) buf ≡ page_of b account buf
unfolding page_of page_exit_of decided_of
page_refused b account buf n e = rw e refl

-- the page is written
pub page_done : (b : Book) (account : ℕ) (text buf : List ℕ) → Ok tt ≡ check_rows (page_refusals account (length buf)) →
    text ≡ flat_map (λ row. row) (page_rows account (statement_of b account 0) (entry_lines_of (walk_at b account))) →
    page_exit_of (Ok page_bytes) (text ++ drop page_bytes buf) ≡ page_of b account buf
unfolding page_of page_exit_of decided_of
page_done b account text buf p e = rw (← p, e, flat _) refl
