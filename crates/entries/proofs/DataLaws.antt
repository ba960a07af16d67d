-- What an entry counts.
use mathlib.Core.Path.{◌≡◌, refl}
use mathlib.Core.Bool.{Bool, true, false, cond}
use Rattle.entries.specs.Data.{standing_if}
use Rattle.measures.specs.Cents.{cents}
use Rattle.entries.specs.declared.data.Particulars.{Particulars}

-- the standing amount of an entry that counts, as a number
pub standing_if_lem : (t : Bool) (n : Particulars) → standing_if t n ≡ cents (cond t n.standing.0 0)
unfolding standing_if
standing_if_lem true n = refl
standing_if_lem false n = refl
