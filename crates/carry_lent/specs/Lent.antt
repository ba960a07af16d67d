-- The array whose first entries are carried over.
use Rattle.std.specs.Prelude.{ℕ}

-- how many entries carry_first takes; not a number of document 01
abbrev pub at_once : ℕ
at_once = 64
