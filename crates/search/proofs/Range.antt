-- The range of budgets that a search has caught: one trial narrows it, and where it is one number, that is the
-- budget.
use mathlib.Core.Path.{◌≡◌}
use mathlib.Core.Bool.{Bool, true, false}
use mathlib.Core.List.{List}
use Prim.Native.Nat.{ℕ, ◌-◌, ◌≤◌, ◌<◌, min}
use native.Mathlib.Omega.{arith}
use Rattle.model.specs.Frames.{Frame}
use Rattle.certifier.specs.Caught.{Between}
use Rattle.search.specs.Search.{Scanned}

-- every budget that the frame allows
pub whole : (e : ℕ) (fs : List Frame) (i a lo hi top : ℕ) → lo ≤ hi → lo ≤ a → top ≡ min hi a →
    Between e fs i a lo hi lo top
whole e fs i a lo hi top p k q =
    record {
      low = omega arith;
      ordered = omega arith;
      high = omega arith;
      have = omega arith;
      taken = λ (z : lo < lo). omega arith;
      refused = λ (z : top < hi). omega arith;
    }

module _ {e : ℕ} {fs : List Frame} {i a lo hi good top : ℕ} (at : Between e fs i a lo hi good top) where
  -- where the range is one number
  pub caught : top ≤ good → Between e fs i a lo hi good good
  caught p =
      let q : top ≡ good = omega (arith, at.ordered) in
      record {
        low = at.low;
        ordered = omega arith;
        high = rw q at at.high;
        have = rw q at at.have;
        taken = at.taken;
        refused = rw q at at.refused;
      }

  module _ {g : ℕ} {ok : Bool} (above : good < g) (below : g ≤ top)
      (scanned : Scanned e fs i (a - g) (g - 1) ok) where
    -- a trial that goes on
    pub accepts : ok ≡ true → Between e fs i a lo hi g top
    accepts q =
        let k = scanned.goes q in
        record {
          low = omega (arith, at.low);
          ordered = below;
          high = at.high;
          have = at.have;
          taken = λ (z : lo < g). omega (arith, at.have);
          refused = at.refused;
        }

    -- a trial that fails
    pub rejects : ok ≡ false → Between e fs i a lo hi good (g - 1)
    rejects q =
        let k = scanned.fails q in
        record {
          low = at.low;
          ordered = omega arith;
          high = omega (arith, at.high);
          have = omega (arith, at.have);
          taken = at.taken;
          refused = λ (z : g - 1 < hi). omega (arith, at.have);
        }
