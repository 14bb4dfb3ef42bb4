-- The code's curves in the definitions' terms.
use Rattle.std.specs.Prelude.{◌≡◌, ℕ}
use Rattle.model.specs.Curves.{Curve, house_curve}
use Rattle.grader.specs.declared.curves.Curve.{Curve as Table}

-- a table as a curve
abbrev pub curve_of : Table → Curve
curve_of t = record { edges = t.edges; gains = t.gains }

-- it is a house curve
abbrev pub IsHouse : Table → Type 0
IsHouse t = (n : ℕ) × (curve_of t ≡ house_curve n)
