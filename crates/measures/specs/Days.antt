-- Days.
use Rattle.std.specs.Prelude.{ℕ, ◌-◌}
use Rattle.measures.specs.declared.Day.{Day}

-- 2099-12-31
abbrev pub last_day : ℕ
last_day = 36524

abbrev pub day : ℕ → Day
day n = record { 0 = n }

-- the days from an earlier day to a later one, and 0 where the order is another
abbrev pub since_of : Day → Day → ℕ
since_of later earlier = later.0 - earlier.0
