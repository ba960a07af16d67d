-- Laws of a text that is written into a buffer, and of one that stands over a buffer's start.
use Prim.Native.Nat.{ℕ, ◌+◌, ◌≤◌}
use mathlib.Core.Path.{◌≡◌, refl, sym, ap, ◌∙◌}
use mathlib.Core.List.{List, ◌++◌, append_assoc}
use native.Mathlib.Omega.{arith}
use lib.ListN.{length, take, drop, length-append}
use lib.Seq.{take_at, drop_at, drop-drop}
use borrow.Author.Tests.{le-leb}
use borrow.Rule.Slice.PartMut.{put_mid}
use Rattle.buffers.specs.Buffers.{Written, written_at}

-- what a writer leaves
abbrev pub written : List ℕ → ℕ → Written
written buf at = record { buffer = buf; place = at }

pub room : (text buf : List ℕ) (at : ℕ) → at + length text ≤ length buf →
    written (take at buf ++ (text ++ drop (at + length text) buf)) (at + length text) ≡ written_at text at buf
unfolding written_at
room text buf at h = rw (le-leb _ _ h) refl

-- a text at a buffer's start
pub at_start : (text buf after : List ℕ) (n : ℕ) → length text ≤ length buf → written after n ≡ written_at text 0 buf →
    (n ≡ length text) × (after ≡ text ++ drop n buf)
at_start text buf after n h e =
    let w = e ∙ sym (room text buf 0 (omega arith)) in
    let p : n ≡ 0 + length text = ap (λ (v : Written). v.place) w in
    (omega (arith, p), ap (λ (v : Written). v.buffer) w ∙ (rw p refl))

-- its length is within the buffer
pub within : (text buf after : List ℕ) (n : ℕ) → (n ≡ length text) × (after ≡ text ++ drop n buf) → n ≤ length after
within text buf after n e = rw (e.1, length-append, ← e.0) (omega arith)

-- a piece that is put just past it
pub over_more : (text piece before buf : List ℕ) (at width : ℕ) → length text ≡ at → buf ≡ text ++ drop at before →
    put_mid at width buf piece ≡ (text ++ piece) ++ drop (at + width) before
over_more text piece before buf at width h e =
    rw (e, take_at text (drop at before) at h, drop_at text (drop at before) at h, drop-drop width at before, append_assoc) refl
