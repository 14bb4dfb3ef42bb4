-- Choices by tests that are known.
use mathlib.Core.Path.{◌≡◌, ap}
use mathlib.Core.Bool.{Bool}
use Prim.Native.Nat.{ℕ}
use native.Mathlib.Omega.{arith}
use Rattle.model.specs.Choice.{pick}

-- choosing by a test that is known
pub pick_by : {A : Type 0} (t u : Bool) (a b : A) → t ≡ u → pick t a b ≡ pick u a b
pick_by t u a b e = ap (λ (v : Bool). pick v a b) e

-- from two answers that differ and yet are equal, everything follows
pub apart : {A : Type 0} → ◌≡◌ {A = ℕ} 0 1 → A
apart e = let b : ⊥ = omega arith in absurd b
