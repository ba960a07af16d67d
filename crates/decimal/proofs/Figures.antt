-- The figures of decimal text.
use mathlib.Core.Path.{refl}
use Rattle.decimal.specs.Decimal.{digits_in, digits, dollars, right}
use Rattle.decimal.specs.Figures.{Figures}

pub read : Figures
unfolding digits_in digits dollars right
read = (refl, (refl, (refl, (refl, (refl, (refl, (refl, (refl, (refl, (refl, (refl, (refl, tt))))))))))))
