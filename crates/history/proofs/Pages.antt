-- A page gives what the history has.
use mathlib.Core.Path.{◌≡◌, refl, ap, ap₂, ◌∙◌}
use Prim.Native.Nat.{ℕ, zero, suc, ◌+◌, ◌*◌, ◌≤◌, ◌<◌}
use mathlib.Core.Bool.{Bool, true, false, cond, not, ◌||◌}
use mathlib.Core.List.{List, [], ◌∷◌, ◌++◌}
use native.Mathlib.Omega.{arith}
use lib.ListN.{length, drop}
use lib.Dec.{eqb, ltb}
use Rattle.entries.specs.Kinds.{number_of, kind_of, same_of}
use Rattle.entries.specs.Ranges.{between}
use Rattle.std.specs.Prelude.{Ok, Err}
use Rattle.entries.specs.Refusals.{refusal_number, decided_of}
use Rattle.entries.specs.Data.{entry_of}
use Rattle.entries.specs.declared.raw.Raw.{Raw}
use Rattle.entries.specs.declared.kinds.Kind.{Kind}
use Rattle.entries.specs.declared.kinds.Kind.TheVariants as kind
use Rattle.entries.specs.declared.refusals.Refusal.TheVariants as no
use Rattle.entries.proofs.Ranges.{inside}
use Rattle.entries.proofs.KindsLaws.{every_kind, number_again}
use Rattle.book.specs.declared.Book.{Book}
use Rattle.codec.specs.declared.Record.{Record}
use Rattle.saves.specs.Saves.{raw_of}
use Rattle.pages.specs.Pages.{shown_amount, entry_line_of, entry_lines_of, page_text_of, page_exit, page_of}
use Rattle.pages.specs.Rows.{line_bytes, page_rows, AllLines, FiguresFit, EntryFits, AllFit}
use Rattle.pages.proofs.RowsLaws.{page_form, text_long}
use Rattle.history.specs.History.{History, accounts, on_account, fate, judge, ◌⇒◌, first_broken, held_amount}
use Rattle.history.specs.Laws.{Valid, empty, joins}
use Rattle.history.specs.Agreement.{kept_entry, kept_link, kept_walk, Kept}
use Rattle.history.specs.Queries.{statement_by, statement_in, entry_line_in, entry_lines_in, page_text_in, page_length, PagesFormed, page_by, page_in}
use Rattle.history.proofs.Accept.{accepts, fits}
use Rattle.history.proofs.Bound.{held_small, standing_small, some_small, either_small, total_small, bounded}
use Rattle.history.proofs.Tables.{kept_read}
use Rattle.history.proofs.Images.{record_kept}
use Rattle.history.proofs.Agreement.{agreement}
use Rattle.history.proofs.Queries.{statement_same}

picked : (t : Bool) (x y z : ℕ) → cond t (cond t x z) y ≡ cond t x y
picked true x y z = refl
picked false x y z = refl

module _ (all : History) where
  -- the line of an accepted entry, from what the book keeps of it
  line_same : (h : History) (e : Raw) → judge h e ≡ 0 → entry_line_of (length h + 1) (kept_entry all h e) ≡ entry_line_in all h e
  unfolding entry_line_of entry_line_in shown_amount entry_of
  line_same h e j =
      let posted : (raw_of (kept_entry all h e)).amount ≡ e.amount = ap (λ (x : Record). x.raw.amount) (record_kept all h e j) in
      rw ((kept_read (kind_of e.kind) e (fate all e) _ _).0, posted, picked, number_again e.kind (accepts h e j).kind_known)

  -- an account's lines, along its chain
  lines_same : {h : History} → Valid h → (a : ℕ) → entry_lines_of (kept_walk all h a) ≡ entry_lines_in all h a
  unfolding kept_walk entry_lines_in
  lines_same empty a = refl
  lines_same (joins {r} {h} v j) a = go (lines_same v a) (eqb r.account a)
    where
      go : entry_lines_of (kept_walk all h a) ≡ entry_lines_in all h a → (t : Bool) →
          entry_lines_of (cond t (kept_link all h r ∷ kept_walk all h a) (kept_walk all h a)) ≡ cond t (entry_line_in all h r ∷ entry_lines_in all h a) (entry_lines_in all h a)
      go ih true = ap₂ (λ l ls. l ∷ ls) (line_same h r j) ih
      go ih false = ih

module _ {b : Book} {h : History} (w : Kept b h) where
  text_same : (a : ℕ) → 1 ≤ a → a ≤ accounts → page_text_of b a ≡ page_text_in h a
  unfolding page_text_in
  text_same a l m = rw (agreement.chain b h w a l m, statement_same w a 0, lines_same h w.valid a) refl

  pub page_same : (a : ℕ) (buffer : List ℕ) → page_of b a buffer ≡ page_in h a buffer
  unfolding page_of page_in decided_of
  page_same a buffer = go (between a 1 accounts) refl (ltb (length buffer) page_length)
    where
      go : (t : Bool) → between a 1 accounts ≡ t → (u : Bool) →
          decided_of (cond (not t) (Err no.UnknownAccount) (cond u (Err no.PageBufferShort) (Ok tt))) (λ n. page_exit (refusal_number n) 0 buffer)
          (page_exit 0 page_length (page_text_of b a ++ drop page_length buffer)) ≡ page_by (cond (not t) 3 (cond u 23 0)) h a buffer
      go true e true = refl
      go true e false =
          let i = inside a 1 accounts e in ap (λ text. page_exit 0 page_length (text ++ drop page_length buffer)) (text_same a i.0 i.1)
      go false e true = refl
      go false e false = refl

-- THE FORM OF A PAGE

kind_small : (k : Kind) → number_of k < 256
kind_small = every_kind (λ k. number_of k < 256) (omega arith)

module _ {all : History} (v : Valid all) where
  -- an accepted entry's numbers have room in their columns
  line_fits : (h : History) (e : Raw) → judge h e ≡ 0 → EntryFits (entry_line_in all h e)
  unfolding entry_line_in
  line_fits h e j =
      let a = accepts h e j in
      let k = kind_of e.kind in
      let small = either_small (same_of k kind.Bill || same_of k kind.Payment) (fate all e).standing e.amount (standing_small v e a.ranges) (omega (arith, a.ranges.amount)) in
      record {
        number = omega (arith, a.room);
        day = omega (arith, a.day);
        kind = omega (arith, kind_small k, number_again e.kind a.kind_known);
        amount = omega (arith, small);
      }

  lines_fit : {h : History} → Valid h → (a : ℕ) → AllFit (entry_lines_in all h a)
  unfolding entry_lines_in
  lines_fit empty a = tt
  lines_fit (joins {r} {h} w j) a = go (lines_fit w a) (eqb r.account a)
    where
      go : AllFit (entry_lines_in all h a) → (t : Bool) → AllFit (cond t (entry_line_in all h r ∷ entry_lines_in all h a) (entry_lines_in all h a))
      go ih true = (line_fits h r j, ih)
      go ih false = ih

figures_fit : {h : History} → Valid h → (a : ℕ) → FiguresFit (statement_in h a 0)
unfolding statement_in
figures_fit {h} v a = go (first_broken ((not (between a 1 accounts) ⇒ 3) ∷ []))
  where
    go : (n : ℕ) → FiguresFit (statement_by n h a 0)
    go zero =
        let s = bounded v a in
        let room = fits v in
        let held = total_small held_amount h (on_account a) (λ e r. some_small (same_of (kind_of e.kind) kind.Contribution) (fate h e).held (omega (arith, held_small h e, r.amount))) v in
        record {
          arrears = omega (arith, s.arrears, room);
          credit = omega (arith, s.credit, room);
          deposit = omega (arith, s.deposit);
          held = omega (arith, held, room);
        }
    go (suc n) = record { arrears = omega arith; credit = omega arith; deposit = omega arith; held = omega arith }

formed : {h : History} → Valid h → (a : ℕ) → a ≤ accounts → AllLines (page_rows a (statement_in h a 0) (entry_lines_in h h a))
formed {h} v a l = page_form.columns a (statement_in h a 0) (entry_lines_in h h a) (omega arith) (figures_fit v a) (lines_fit v v a)

pub pages_formed : PagesFormed
unfolding page_text_in
pages_formed =
    record {
      columns = λ h v a l. formed v a l;
      bytes = λ h v a l.
          text_long _ (formed v a l) ∙ ap (λ n. line_bytes * n) (page_form.lines a (statement_in h a 0) (entry_lines_in h h a));
    }
