-- Round trips: a book and a history that agree determine each other, and the image is the history's.
use Prim.Native.Nat.{ℕ, zero, suc, ◌+◌, ◌≤◌}
use mathlib.Core.Path.{◌≡◌, refl, sym, ap, ◌∙◌}
use mathlib.Core.Bool.{cond}
use mathlib.Core.List.{List, [], ◌∷◌, ◌++◌, map, reverse_aux, append-nil, append_assoc}
use native.Mathlib.Omega.{arith}
use lib.ListN.{length, drop, length-append, length-drop, take-append-drop}
use lib.Seq.{drop_at}
use lib.Dec.{eqb}
use borrow.Author.Tests.{eqb-true, eqb-false}
use Rattle.entries.specs.declared.arrivals.Arrival.TheVariants.{Recorded}
use Rattle.entries.specs.declared.raw.Raw.{Raw}
use Rattle.rules.specs.declared.accounts.Account.{Account}
use Rattle.codec.specs.Bytes.{Bytes}
use Rattle.codec.specs.Records.{record_bytes, layout, FieldsFit, AllFieldsFit, encode_all, decode_record, decode_all}
use Rattle.codec.specs.Headers.{header_of, count_in}
use Rattle.codec.specs.declared.Record.{Record}
use Rattle.codec.proofs.Bytes.{bytes_drop}
use Rattle.codec.proofs.Layouts.{fit_unpack}
use Rattle.codec.proofs.Records.{length_encode_all, length_decode_all, decode_encode_all, encode_decode_all, in_range_append}
use Rattle.codec.proofs.Headers.{length_header, count_header, header_passes, checked, header_again}
use Rattle.book.specs.Fresh.{fresh_book}
use Rattle.book.specs.Posting.{account_at, record_of}
use Rattle.book.specs.declared.Book.{Book}
use Rattle.runs.specs.Runs.{without_run}
use Rattle.saves.specs.Saves.{image_of}
use Rattle.loads.specs.Loaded.{LoadedReply, raw_in, accepted_load, refused_load, record_refusal}
use Rattle.loads.specs.Loads.{records_in, load_all, load_of}
use Rattle.loads.proofs.Loads.{load_begins, load_checked, stop_none, none_stops, load_more}
use Rattle.history.specs.History.{History, entries, judge, offer}
use Rattle.history.specs.Laws.{Valid, empty, joins}
use Rattle.history.specs.Images.{newest_of, records_by, image_in, bytes_in, Typed, AllTyped}
use Rattle.history.specs.Agreement.{Kept, over, KeptState}
use Rattle.history.specs.Calls.{state_from}
use Rattle.history.specs.Trips.{history_in, recorded_of, Trips, Demand3Loaded}
use Rattle.history.proofs.Tests.{tested}
use Rattle.history.proofs.Accept.{accepts, fits}
use Rattle.history.proofs.Agreement.{agreement}
use Rattle.history.proofs.Determined.{determined}
use Rattle.history.proofs.Images.{image_kept}
use Rattle.history.proofs.Carry.{number_same}
use Rattle.history.proofs.Runs.{idle_run, idle_over, idle_entered, charge_typed}
use Rattle.history.proofs.Claim.{calls_same, fresh_kept, claim}

-- ONE RECORD

module _ {b : Book} {h : History} (w : Kept b h) (r : Raw) (j : judge h r ≡ 0) where
  kept_joined : Kept (record_of b r).book (r ∷ h)
  unfolding offer
  kept_joined = rw j at (agreement.entered Recorded b h w r)

  newest_kept : (account_at b r.account).newest ≡ newest_of h r.account
  newest_kept = let p = accepts h r j in ap (λ (x : Account). x.newest) (w.agrees.account r.account p.account_low p.account_high)

-- THE IMAGE OF A HISTORY LOADS

-- the book that keeps a history, by its records; it has no run
pub record Loads (h : History) : Type 0 where
  pub book : Book
  pub kept : Kept book h
  pub idle : without_run book ≡ book
  pub again : load_all (records_by h) fresh_book 1 ≡ accepted_load book

fresh_idle : without_run fresh_book ≡ fresh_book
unfolding without_run fresh_book
fresh_idle = refl

pub loads : {h : History} → Valid h → Loads h
unfolding records_by load_all
loads empty = record { book = fresh_book; kept = agreement.fresh; idle = fresh_idle; again = refl }
loads (joins {r} {h} v j) =
    let p = loads v in
    record {
      book = (record_of p.book r).book;
      kept = kept_joined p.kept r j;
      idle = idle_entered Recorded p.book r p.idle;
      again = load_more (records_by h) _ fresh_book p.book 1 p.again (rw (newest_kept p.kept r j) at (none_stops p.book r (number_same Recorded p.kept r ∙ j)));
    }

length_records : (h : History) → length (records_by h) ≡ length h
unfolding records_by
length_records [] = refl
length_records (r ∷ h) = omega (arith, length-append (records_by h) (record { raw = r; next = newest_of h r.account } ∷ []), length_records h)

newest_most : (h : History) (a : ℕ) → newest_of h a ≤ length h
unfolding newest_of
newest_most [] a = omega arith
newest_most (r ∷ h) a =
    tested (λ t. cond t (length h + 1) (newest_of h a) ≤ suc (length h)) (eqb r.account a) (λ e. omega arith) (λ e. omega (arith, newest_most h a))

-- every record fits its fields
in_range : (h : History) → AllTyped h → length h ≤ entries → AllFieldsFit (records_by h)
unfolding records_by
in_range [] t l = tt
in_range (r ∷ h) t l = in_range_append (records_by h) _ (in_range h t.1 (omega arith)) (one t.0, tt)
  where
    one : Typed r → FieldsFit (record { raw = r; next = newest_of h r.account })
    one f = omega (arith, newest_most h r.account)

pub length_image : (h : History) → length (image_in h) ≡ bytes_in h
unfolding image_in
length_image h = omega (arith, length-append (header_of (length h)) (encode_all (records_by h)), length_header (length h), length_encode_all (records_by h), length_records h)

pub image_loads : {h : History} (v : Valid h) → AllTyped h → load_of (image_in h) ≡ accepted_load (loads v).book
unfolding image_in
image_loads {h} v t =
    let n = fits v in
    let rest : List ℕ = encode_all (records_by h) in
    let passes = header_passes (length h) rest (omega arith) (length_image h) in
    let count : count_in (header_of (length h) ++ rest) ≡ length h = count_header (length h) rest (omega arith) in
    let body : drop record_bytes (header_of (length h) ++ rest) ≡ rest = drop_at (header_of (length h)) rest record_bytes (length_header (length h)) in
    let all : decode_all (length h) rest ≡ records_by h = rw (length_records h) at (decode_encode_all (records_by h) (in_range h t n)) in
    load_begins (header_of (length h) ++ rest) passes ∙ rw (count, body, all) (loads v).again

-- as the book that keeps it, without its run
pub saved : (b : Book) (h : History) → Kept b h → AllTyped h → load_of (image_of b) ≡ accepted_load (without_run b)
saved b h w t =
    let l = loads w.valid in ap load_of (image_kept w) ∙ image_loads w.valid t ∙ ap accepted_load (sym l.idle ∙ determined l.book b h l.kept w)

-- AN IMAGE THAT LOADS IS ITS HISTORY'S

-- what records that load make of a book and its history
record Extends (b : Book) (h : History) (rs : List Record) (i : ℕ) : Type 0 where
  whole : load_all rs b i ≡ accepted_load (recorded_of b (map raw_in rs))
  kept : Kept (recorded_of b (map raw_in rs)) (reverse_aux (map raw_in rs) h)
  idle : without_run (recorded_of b (map raw_in rs)) ≡ recorded_of b (map raw_in rs)
  records : records_by (reverse_aux (map raw_in rs) h) ≡ records_by h ++ rs

extend : (rs : List Record) (b : Book) (h : History) (i : ℕ) → Kept b h → without_run b ≡ b → (load_all rs b i).refusal ≡ 0 → Extends b h rs i
unfolding load_all recorded_of records_by
extend [] b h i w idle e = record { whole = refl; kept = w; idle = idle; records = sym (append-nil (records_by h)) }
extend (r ∷ rs) b h i w idle e =
    tested (λ t. (cond t (load_all rs (record_of b r.raw).book (i + 1)) (refused_load (record_refusal b r) i)).refusal ≡ 0 → Extends b h (r ∷ rs) i) (eqb (record_refusal b r) 0)
    (λ p z.
    let none = stop_none b r (eqb-true (record_refusal b r) 0 p) in
    let j : judge h (raw_in r) ≡ 0 = sym (number_same Recorded w (raw_in r)) ∙ none.0 in
    let next : r.next ≡ newest_of h (raw_in r).account = none.1 ∙ newest_kept w (raw_in r) j in
    let rest = extend rs (record_of b r.raw).book (raw_in r ∷ h) (i + 1) (kept_joined w (raw_in r) j) (idle_entered Recorded b r.raw idle) z in
    record { whole = rw p rest.whole; kept = rest.kept; idle = rest.idle; records = rest.records ∙ rw (← next) (append_assoc (records_by h) (r ∷ []) rs) })
    (λ p z. absurd (eqb-false _ 0 p z)) e

loaded : (l : List ℕ) → (load_of l).refusal ≡ 0 → Extends fresh_book [] (records_in l) 1
loaded l e =
    extend (records_in l) fresh_book [] 1 agreement.fresh fresh_idle (ap (λ (q : LoadedReply). q.refusal) (sym (load_begins l (load_checked l e))) ∙ e)

loaded_recorded : (l : List ℕ) → (load_of l).refusal ≡ 0 → load_of l ≡ accepted_load (recorded_of fresh_book (map raw_in (records_in l)))
loaded_recorded l e = load_begins l (load_checked l e) ∙ (loaded l e).whole

pub loaded_kept : (l : List ℕ) → (load_of l).refusal ≡ 0 → Kept (load_of l).book (history_in l)
loaded_kept l e = rw (loaded_recorded l e) (loaded l e).kept

loaded_idle : (l : List ℕ) → (load_of l).refusal ≡ 0 → without_run (load_of l).book ≡ (load_of l).book
loaded_idle l e = rw (loaded_recorded l e) (loaded l e).idle

loaded_state : (l : List ℕ) → (load_of l).refusal ≡ 0 → KeptState (load_of l).book (state_from (history_in l))
loaded_state l e = record { history = loaded_kept l e; run = over refl (idle_run (load_of l).book (loaded_idle l e)) }

pub image_again : (l : List ℕ) → Bytes l → (load_of l).refusal ≡ 0 → image_in (history_in l) ≡ l
unfolding image_in records_by
image_again l h e =
    let c = checked l (load_checked l e) in
    let sized = c.sized in
    let records : records_by (history_in l) ≡ records_in l = (loaded l e).records in
    let count : length (history_in l) ≡ count_in l =
    sym (length_records (history_in l)) ∙ ap (λ (q : List Record). length q) records ∙ length_decode_all (count_in l) (drop record_bytes l) in
    let body : encode_all (records_in l) ≡ drop record_bytes l = encode_decode_all (count_in l) (drop record_bytes l) (simp length-drop (omega arith)) (bytes_drop record_bytes l h) in
    rw (records, body, count, header_again l c h) (take-append-drop record_bytes l)

-- WHAT BYTES HOLD IS TYPED

raw_typed : (r : Record) → FieldsFit r → Typed (raw_in r)
raw_typed r f = omega arith

pub decoded_typed : (n : ℕ) (l : List ℕ) → Bytes l → AllTyped (map raw_in (decode_all n l))
unfolding decode_record
decoded_typed zero l h = tt
decoded_typed (suc n) l h = (raw_typed (decode_record l) (fit_unpack layout l h), decoded_typed n (drop record_bytes l) (bytes_drop record_bytes l h))

reverse_typed : (rs : List Raw) (h : History) → AllTyped rs → AllTyped h → AllTyped (reverse_aux rs h)
reverse_typed [] h t u = u
reverse_typed (r ∷ rs) h t u = reverse_typed rs (r ∷ h) t.1 (t.0, u)

pub image_typed : (l : List ℕ) → Bytes l → AllTyped (history_in l)
image_typed l h = reverse_typed (map raw_in (records_in l)) [] (decoded_typed (count_in l) (drop record_bytes l) (bytes_drop record_bytes l h)) tt

pub trips : Trips
trips =
    record {
      image = λ b h w. image_kept w;
      saved_loads = λ cs t. saved _ _ (calls_same fresh_kept cs).0.history t;
      charge_typed = λ cs n ns e r. charge_typed (calls_same fresh_kept cs).0 n ns e r;
      whole = λ cs o. idle_over (calls_same fresh_kept cs).0.run o;
      loaded_saves = λ l h e. image_kept (loaded_kept l e) ∙ image_again l h e;
      loaded_recorded = loaded_recorded;
      loaded_idle = loaded_idle;
      loaded_kept = loaded_kept;
      loaded_on = λ l e cs t. saved _ _ (calls_same (loaded_state l e) cs).0.history t;
      loaded_whole = λ l e cs o. idle_over (calls_same (loaded_state l e) cs).0.run o;
    }

pub demand3_loaded : Demand3Loaded
demand3_loaded l e cs = claim (loaded_state l e) cs
