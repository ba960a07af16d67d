-- The longest image is that of a full book.
use mathlib.Core.Path.{refl}
use Rattle.loads.specs.Longest.{LongestIsFull}

pub longest_is_full : LongestIsFull
longest_is_full = refl
