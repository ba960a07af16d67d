-- A text that is written into a lent buffer.
use Rattle.std.specs.Prelude.{ℕ, ◌+◌, cond, List, ◌++◌, length, take, drop, leb}

-- the buffer's bytes, and the place after the text
pub record Written : Type 0 where
  pub buffer : List ℕ
  pub place : ℕ

-- A text goes over a buffer's bytes from a place on, and all others stay. Where the buffer has no room for the whole text,
-- the buffer and the place stay as they were.
unfoldable pub written_at : List ℕ → ℕ → List ℕ → Written
written_at text at buf =
    cond (leb (at + length text) (length buf))
    (record { buffer = take at buf ++ (text ++ drop (at + length text) buf); place = at + length text })
    (record { buffer = buf; place = at })
