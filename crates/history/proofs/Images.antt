-- The records of a book that keeps a history are the history's.
use Prim.Native.Nat.{ℕ, ◌≤◌}
use mathlib.Core.Path.{◌≡◌, refl, ap}
use mathlib.Core.Bool.{Bool, true, false, cond}
use mathlib.Core.List.{List, map, map-append}
use native.Mathlib.Omega.{arith}
use lib.ListN.{length, take}
use lib.Seq.{take-suc}
use borrow.Author.Tests.{eqb-true}
use Rattle.entries.specs.Kinds.{number_of, kind_of, names_of}
use Rattle.entries.specs.Ranges.{named_fits, limits_of}
use Rattle.entries.specs.Data.{no_entry, entry_of}
use Rattle.entries.specs.declared.raw.Raw.{Raw}
use Rattle.entries.specs.declared.kinds.Kind.{Kind}
use Rattle.entries.specs.declared.kinds.Kind.TheVariants as kind
use Rattle.entries.specs.declared.data.Entry.{Entry}
use Rattle.entries.proofs.Ranges.{both_true, b_most, b_below, Ranged}
use Rattle.entries.proofs.KindsLaws.{number_again}
use Rattle.std.specs.Prelude.{is_some}
use Rattle.book.specs.declared.Book.{Book}
use Rattle.saves.specs.Saves.{raw_with, raw_of, entry_record, entry_count, bytes_of, image_of, refused_save, accepted_save, save_of, saved_in}
use Rattle.saves.proofs.Saves.{save_no_run}
use Rattle.history.specs.History.{History, Fate, judge}
use Rattle.history.specs.Laws.{Valid, empty, joins}
use Rattle.history.specs.Images.{newest_of, records_by, image_in, bytes_in, short_in, room_in, saved_by}
use Rattle.history.specs.Agreement.{kept_data, kept_entry, Placed, start, more, Kept}
use Rattle.history.proofs.Tests.{tested}
use Rattle.history.proofs.Accept.{accepts, fits}

-- AN ACCEPTED ENTRY IS RECOVERED WHOLE

-- the named pair of an entry that names none is zero
unnamed : (r : Raw) (t : Bool) → named_fits r t ≡ true → (cond t 0 r.named_node ≡ 0) × (cond t 0 r.named_serial ≡ 0)
unfolding named_fits
unnamed r true e = (refl, refl)
unnamed r false e = let p = both_true _ _ e in (eqb-true _ 0 p.0, eqb-true _ 0 p.1)

same_raw : {r : Raw} {k m s x y n : ℕ} →
    (k ≡ r.kind) × (m ≡ r.amount) × (s ≡ r.named_serial) × (x ≡ r.a) × (y ≡ r.b) × (n ≡ r.named_node) →
    record {
      kind = k;
      node = r.node;
      account = r.account;
      day = r.day;
      serial = r.serial;
      amount = m;
      named_serial = s;
      a = x;
      b = y;
      named_node = n;
    } ≡ r
same_raw e = rw (e.0, e.1, e.2, e.3, e.4, e.5) refl

raw_kept : (r : Raw) (k : Kind) (f : Fate) (settled paid_out next : ℕ) → number_of k ≡ r.kind → Ranged r k →
    (cond (names_of k) 0 r.named_node ≡ 0) × (cond (names_of k) 0 r.named_serial ≡ 0) → r.b ≤ b_most (limits_of k r.a).b →
    raw_with (entry_of r next (kept_data k r f settled paid_out)) (kept_data k r f settled paid_out) ≡ r
unfolding entry_of limits_of
raw_kept r kind.Unknown f s p next e g n y = same_raw (omega arith)
raw_kept r kind.Contribution f s p next e g n y = same_raw (omega arith)
raw_kept r kind.AddedCustomer f s p next e g n y = same_raw (omega arith)
raw_kept r kind.Bill f s p next e g n y = same_raw (omega arith)
raw_kept r kind.Payment f s p next e g n y = same_raw (omega arith)
raw_kept r kind.Deposit f s p next e g n y = same_raw (omega arith)
raw_kept r kind.DepositReturn f s p next e g n y = same_raw (omega arith)
raw_kept r kind.Expiry f s p next e g n y = same_raw (omega arith)
raw_kept r kind.Correction f s p next e g n y = same_raw (omega arith)
raw_kept r kind.Guarantee f s p next e g n y = same_raw (omega arith)
raw_kept r kind.Reduction f s p next e g n y = same_raw (omega arith)
raw_kept r kind.Retention f s p next e g n y = same_raw (omega arith)
raw_kept r kind.LateCharge f s p next e g n y = same_raw (omega arith)

pub record_kept : (all h : History) (r : Raw) → judge h r ≡ 0 → entry_record (kept_entry all h r) ≡ record { raw = r; next = newest_of h r.account }
unfolding raw_of entry_of
record_kept all h r j =
    let p = accepts h r j in
    let g = p.ranges.by_kind in
    ap (λ (x : Raw). record { raw = x; next = newest_of h r.account })
    (raw_kept r (kind_of r.kind) _ _ _ (newest_of h r.account) (number_again r.kind p.kind_known) g (unnamed r _ g.named) (b_below _ _ g.b))

-- AND SO IS THE IMAGE

records_kept : {all h : History} {es : List Entry} → Valid h → Placed all es h → length h ≤ length es → map entry_record (take (length h) es) ≡ records_by h
unfolding records_by
records_kept empty start l = refl
records_kept {all} {es = es} (joins {r} {h} v j) (more e rs) l =
    rw (take-suc es (length h) no_entry (omega arith), map-append entry_record (take (length h) es) _, e, record_kept all h r j, records_kept v rs (omega arith)) refl

module _ {b : Book} {h : History} (w : Kept b h) where
  size_same : entry_count b ≡ length h
  size_same = omega (arith, w.agrees.counted, fits w.valid)

  pub image_kept : image_of b ≡ image_in h
  unfolding image_of image_in
  image_kept = rw (size_same, records_kept w.valid w.agrees.rows (omega (arith, fits w.valid, w.agrees.entries_long))) refl

  pub bytes_same : bytes_of b ≡ bytes_in h
  bytes_same = rw size_same refl

  -- where no run is open, a save's answer, and its buffer
  module _ (idle : is_some b.run ≡ false) (buffer : List ℕ) where
    pub save_same : save_of b buffer ≡ record { refusal = room_in h buffer; bytes = cond (short_in h buffer) 0 (bytes_in h) }
    save_same =
        rw ((save_no_run b buffer idle).0, bytes_same)
        (tested (λ t. cond t (refused_save 21) (accepted_save (bytes_in h)) ≡ record { refusal = cond t 21 0; bytes = cond t 0 (bytes_in h) }) (short_in h buffer) (λ e. refl) (λ e. refl))

    pub saved_same : saved_in b buffer ≡ saved_by h buffer
    unfolding saved_by
    saved_same = rw ((save_no_run b buffer idle).1, bytes_same, image_kept) refl
