-- Taking a conjunction of tests apart.
use mathlib.Core.Path.{◌≡◌, refl}
use mathlib.Core.Bool.{Bool, true, false, ◌&&◌, false≢true}

-- both tests of a conjunction hold
pub both : (s t : Bool) → s && t ≡ true → (s ≡ true) × (t ≡ true)
both true true e = (refl, refl)
both true false e = absurd (false≢true e)
both false t e = absurd (false≢true e)
