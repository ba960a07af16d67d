-- Demand 3 for hosts: the image between two calls is that of a history, and loads as the book that keeps it.
use Prim.Native.Nat.{ℕ, ◌/◌}
use mathlib.Core.Path.{◌≡◌, refl, sym, ap, ◌∙◌}
use mathlib.Core.Bool.{Bool, true, false, cond}
use mathlib.Core.List.{List, [], ◌∷◌, ◌++◌}
use native.Mathlib.Omega.{arith}
use lib.ListN.{length, take, drop}
use lib.Seq.{take_at}
use lib.Dec.{eqb}
use borrow.Author.Tests.{eqb-true, eqb-false}
use Rattle.entries.specs.declared.arrivals.Arrival.TheVariants.{Posted}
use Rattle.entries.specs.declared.raw.Raw.{Raw}
use Rattle.codec.specs.Records.{record_bytes}
use Rattle.codec.specs.Headers.{header_of}
use Rattle.book.specs.Runs.{arrival_of}
use Rattle.std.specs.Prelude.{Option, is_some}
use Rattle.book.specs.Posting.{post_of, posts_of}
use Rattle.book.specs.declared.Book.{Book}
use Rattle.book.specs.declared.Run.{Run}
use Rattle.book.proofs.Posting.{posts_run}
use Rattle.runs.specs.Runs.{without_run}
use Rattle.loads.specs.Loaded.{accepted_load}
use Rattle.carry.specs.Carry.{carry_refusal_of}
use Rattle.entries.specs.Order.{first_refusal}
use Rattle.image_post.specs.Postings.{PostingExit, read_entry, post_refusal, post_into, post_image}
use Rattle.image_carry.specs.Carries.{CarryExit, read_entries, carry_refusal, carry_into, carry_image}
use Rattle.image_read.specs.Reads.{statement_image, contribution_image, year_image}
use Rattle.image_page.specs.Pages.{page_image}
use Rattle.history.specs.History.{History, offer, offers}
use Rattle.history.specs.Laws.{Valid, empty, joins, In}
use Rattle.history.specs.Images.{records_by, image_in, bytes_in, short_in, room_in, saved_by, AllTyped}
use Rattle.history.specs.Agreement.{Kept}
use Rattle.history.specs.Trips.{history_in}
use Rattle.history.specs.Hosts.{HostQuery, check, statement, contribution, page, year, HostCall, posting, carry_over, query, queried, host_query_of, wrote, host_of, fresh_image, post_refusal_in, post_in, carry_refusal_in, carry_in, host_query_in, host_in, Lent, AllLent, HostClaim, Demand3Hosts}
use Rattle.history.proofs.Tests.{tested, either}
use Rattle.history.proofs.Accept.{recorded}
use Rattle.history.proofs.Laws.{offered, laws}
use Rattle.history.proofs.Served.{host_adds}
use Rattle.history.proofs.Carry.{replied_number, posted_kept, posted_same, posted_run, posts_same, results_same}
use Rattle.history.proofs.Runs.{idle_run}
use Rattle.history.proofs.Calls.{lists_same, along}
use Rattle.history.proofs.Queries.{statement_same, contribution_same, year_same}
use Rattle.history.proofs.Pages.{page_same}
use Rattle.history.proofs.Images.{bytes_same, save_same, saved_same}
use Rattle.history.proofs.Trips.{length_image, loads, image_loads, image_again, image_typed, decoded_typed, loaded_kept}

-- WHAT A CALL GIVES, ON THE BOOK THAT KEEPS A HISTORY

-- it has no run: an image holds none
module _ {b : Book} {h : History} (w : Kept b h) (idle : without_run b ≡ b) where
  none_open : (run : Option Run) → run ≡ b.run → is_some run ≡ false
  none_open run e = rw (e, idle_run b idle) refl

  so : arrival_of b.run ≡ Posted
  unfolding arrival_of
  so = rw (idle_run b idle) refl

  post_same : (entry output : List ℕ) → post_into b entry output ≡ post_in h entry output
  unfolding post_into post_in post_refusal
  post_same entry output =
      let r = read_entry entry in
      let next = posted_kept Posted w so r in
      let shut = none_open (post_of b r).book.run (posted_run Posted w so r) in
      rw (posted_same Posted w so r, replied_number Posted h r, save_same next shut output, bytes_same next, saved_same next shut output) refl

  carry_same : (entries results output : List ℕ) → carry_into b entries results output ≡ carry_in h entries results output
  unfolding carry_into carry_in carry_refusal carry_refusal_of
  carry_same entries results output =
      let rs = read_entries entries in
      let next = (posts_same Posted w so rs).0 in
      let shut = none_open (posts_of b rs).run (posts_run b rs) in
      rw (save_same next shut output, bytes_same next, saved_same next shut output, results_same Posted w so rs results) refl

  query_same : (q : HostQuery) → host_query_of (accepted_load b) q ≡ host_query_in h q
  unfolding host_query_of host_query_in statement_image contribution_image page_image year_image
  query_same check = rw w.agrees.counted refl
  query_same (statement account allowance) = rw (statement_same w account allowance) refl
  query_same (contribution account node serial) = rw (contribution_same w account node serial) refl
  query_same (page account output) = rw (page_same w account output) refl
  query_same (year y) = rw (year_same w y) refl

-- THE IMAGE THAT IT LEAVES

-- where no refusal stands first, there is none
abbrev Zeros : List ℕ → Type 0
Zeros [] = Unit {0}
Zeros (n ∷ ns) = (n ≡ 0) × Zeros ns

none : (ns : List ℕ) → first_refusal ns ≡ 0 → Zeros ns
unfolding first_refusal
none [] e = tt
none (n ∷ ns) e =
    tested (λ t. cond t (first_refusal ns) n ≡ 0 → Zeros (n ∷ ns)) (eqb n 0) (λ p z. (eqb-true n 0 p, none ns z)) (λ p z. absurd (eqb-false n 0 p z)) e

front : (h : History) (output : List ℕ) → room_in h output ≡ 0 → take (bytes_in h) (saved_by h output) ≡ image_in h
unfolding saved_by
front h output e =
    tested (λ t. ◌≡◌ {A = ℕ} (cond t 21 0) 0 → take (bytes_in h) (cond t output (image_in h ++ drop (bytes_in h) output)) ≡ image_in h) (short_in h output) (λ p z. absurd (omega arith))
    (λ p z. take_at (image_in h) (drop (bytes_in h) output) (bytes_in h) (length_image h)) e

-- THE HISTORY THAT IT LEAVES

abbrev Sound : History → Type 0
Sound h = Valid h × AllTyped h

sound_offers : (rs : List Raw) (h : History) → AllTyped rs → Sound h → Sound (offers Posted h rs)
sound_offers [] h t s = s
sound_offers (r ∷ rs) h t s = sound_offers rs (offer Posted h r) t.1 (offered Sound Posted h r (λ j. (joins s.0 (recorded Posted h r j), (t.0, s.1))) s)

sound_next : (t : Bool) (rs : List Raw) (h : History) → AllTyped rs → Sound h → Sound (cond t (offers Posted h rs) h)
sound_next true rs h g s = sound_offers rs h g s
sound_next false rs h g s = s

call_same : {h : History} → Sound h → (c : HostCall) → Lent c →
    Sound (host_in h c).0 × ((host_of (image_in h) c).0 ≡ image_in (host_in h c).0) × ((host_of (image_in h) c).1 ≡ (host_in h c).1)
unfolding host_of host_in post_image carry_image post_in carry_in read_entries
call_same {h} s (posting entry output) g =
    let t = eqb (post_refusal_in h entry output) 0 in
    rw (image_loads s.0 s.1, post_same (loads s.0).kept (loads s.0).idle entry output) (
      sound_next t (read_entry entry ∷ []) h (decoded_typed 1 entry g) s,
      either (λ (o : PostingExit) (k : History). wrote (image_in h) o.given.refusal o.given.bytes o.output ≡ image_in k) t
          (λ e. let z = none _ (eqb-true _ 0 e) in rw (replied_number Posted h (read_entry entry) ∙ z.1.0) (front _ output z.1.1.0)) (λ e. rw e refl),
      refl,
    )
call_same {h} s (carry_over entries results output) g =
    let t = eqb (carry_refusal_in h entries results output) 0 in
    rw (image_loads s.0 s.1, carry_same (loads s.0).kept (loads s.0).idle entries results output) (
      sound_next t (read_entries entries) h (decoded_typed (length entries / record_bytes) entries g) s,
      either (λ (o : CarryExit) (k : History). wrote (image_in h) o.given.refusal o.given.bytes o.output ≡ image_in k) t
          (λ e. front _ output (none _ (eqb-true _ 0 e)).1.1.0) (λ e. rw e refl),
      refl,
    )
call_same s (query q) g = rw (image_loads s.0 s.1) (s, refl, ap queried (query_same (loads s.0).kept (loads s.0).idle q))

-- LISTS OF CALLS

record Stands (l : List ℕ) (h : History) (cs : List HostCall) : Type 0 where
  image : l ≡ image_in h
  sound : Sound h
  lent : AllLent cs

stands_next : (l : List ℕ) (h : History) (c : HostCall) (cs : List HostCall) → Stands l h (c ∷ cs) →
    Stands (host_of l c).0 (host_in h c).0 cs × ((host_of l c).1 ≡ (host_in h c).1)
stands_next l h c cs s =
    let p = call_same s.sound c s.lent.0 in
    rw s.image (record { image = p.1; sound = p.0; lent = s.lent.1 }, p.2)

hosted : (l : List ℕ) (h : History) (cs : List HostCall) → l ≡ image_in h → Sound h → AllLent cs → HostClaim l h cs
hosted l h cs e s g =
    let (r, answered) = lists_same host_of host_in Stands stands_next l h cs (record { image = e; sound = s; lent = g }) in
    let load = image_loads r.sound.0 r.sound.1 in
    record {
      answered = answered;
      image = r.image;
      loads = rw (r.image, load) refl;
      kept = rw (r.image, load) (loads r.sound.0).kept;
      lawful = laws.lawful _ r.sound.0;
      no_day = λ x m k z. along host_in (In x) (host_adds x k z) h cs m;
      bounded = laws.bounded _ r.sound.0;
    }

fresh_image_lem : fresh_image ≡ image_in []
unfolding image_in records_by header_of
fresh_image_lem = refl

pub demand3_hosts : Demand3Hosts
demand3_hosts =
    record {
      fresh = λ cs g. hosted fresh_image [] cs fresh_image_lem (empty, tt) g;
      loaded = λ l h e cs g. hosted l (history_in l) cs (sym (image_again l h e)) ((loaded_kept l e).valid, image_typed l h) g;
    }
