-- The figures of bills of zero days served, by computation. Their image loads, as no refusal stops one of its records.
use Prim.Native.Nat.{ℕ}
use mathlib.Core.Path.{◌≡◌, refl, sym, ap, subst, ◌∙◌}
use mathlib.Core.Bool.{Bool, true, false, ◌&&◌}
use mathlib.Core.List.{List, [], ◌∷◌}
use native.Mathlib.Omega.{arith}
use lib.Dec.{ltb}
use borrow.Author.Tests.{ltb-true}
use Rattle.measures.specs.Rounding.{rounded}
use Rattle.entries.specs.Kinds.{kind_of}
use Rattle.entries.specs.Ranges.{limits_of, between, named_fits, b_fits, in_range_of}
use Rattle.entries.proofs.Ranges.{both_true}
use Rattle.codec.specs.Bytes.{Bytes}
use Rattle.codec.specs.Records.{encode_record, decode_record}
use Rattle.codec.specs.Headers.{header_of}
use Rattle.loads.specs.Loaded.{LoadedReply}
use Rattle.loads.specs.Loads.{load_of}
use Rattle.history.specs.History.{History, last_serial, points, names, find, named, filter, sum, fate, move_by, balance, amounts, judge_by, offer, replied_of, added_up}
use Rattle.history.specs.Laws.{Valid, empty, joins}
use Rattle.history.specs.Queries.{statement_in, query_in}
use Rattle.history.specs.Images.{newest_of, records_by, image_in, saved_by, AllTyped}
use Rattle.history.specs.Runs.{is_open, State, notes}
use Rattle.history.specs.Calls.{call_in, state_from, state_after, history_after}
use Rattle.history.specs.Trips.{history_in}
use Rattle.history.specs.NoDayFigures.{history, image, later, calls, NoDayFigures}
use Rattle.history.proofs.Trips.{image_loads}

valid : Valid history
unfolding kind_of limits_of between named_fits b_fits in_range_of last_serial points names find named filter sum fate move_by balance judge_by
valid = joins (joins (joins (joins (joins empty refl) refl) refl) refl) refl

abbrev all_bytes : List ℕ → Bool
all_bytes [] = true
all_bytes (b ∷ bs) = ltb b 256 && all_bytes bs

bytes_of : (l : List ℕ) → all_bytes l ≡ true → Bytes l
bytes_of [] e = tt
bytes_of (b ∷ bs) e = let p = both_true _ _ e in (ltb-true b 256 p.0, bytes_of bs p.1)

pub image_bytes : Bytes image
image_bytes = bytes_of image refl

read : history_in image ≡ history
unfolding decode_record
read = refl

written : image_in history ≡ image
unfolding header_of encode_record newest_of records_by image_in
written = refl

-- the entries fit their fields
typed : AllTyped later
typed = (omega arith, (omega arith, (omega arith, (omega arith, (omega arith, (omega arith, (omega arith, (omega arith, tt))))))))

loads : (load_of image).refusal ≡ 0
loads = ap (λ (l : LoadedReply). l.refusal) (ap load_of (sym written) ∙ image_loads valid typed.1.1.1)

pub no_day_figures : NoDayFigures
unfolding rounded kind_of limits_of between named_fits b_fits in_range_of last_serial points names find named filter sum fate move_by balance amounts judge_by offer replied_of added_up statement_in query_in saved_by notes call_in
no_day_figures = record { read = read; written = written; loads = loads; answered = refl; left = refl; accounts = refl }

left_by_image : state_after (state_from (history_in image)) calls ≡ state_from later
left_by_image = ap (λ (h : History). state_after (state_from h) calls) read ∙ no_day_figures.left

-- what the round trips ask of the calls: the entries after them fit their fields, and the run is over
pub calls_typed : AllTyped (history_after (state_from (history_in image)) calls)
calls_typed = subst (λ (s : State). AllTyped s.entries) (sym left_by_image) typed

pub run_over : is_open (state_after (state_from (history_in image)) calls).run ≡ false
run_over = ap (λ (s : State). is_open s.run) left_by_image
