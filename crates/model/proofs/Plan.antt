-- The plan is feasible whenever anything is, serves most at every level, takes more first, and carries the lowest
-- charges.
use mathlib.Core.Logic.{⊎_elim}
use mathlib.Core.List.{List, [], ◌∷◌}
use Prim.Native.Nat.{ℕ, suc, ◌+◌, ◌-◌, ◌≤◌, ◌<◌, min, max}
use native.Mathlib.Nat.{le_refl}
use native.Mathlib.Omega.{arith}
use Rattle.model.specs.Frames.{Frame, room, left, Allowed, Feasible, reserve, budget, plan, served}
use Rattle.model.proofs.Order.{le_or_lt}
use Rattle.model.proofs.Feasibility.{more}
use Rattle.model.proofs.Reserve.{Serving, poor_times, rich, unit_times}
use Rattle.model.proofs.Budget.{IsLargest, budget_is}

within : (b lo hi d r c : ℕ) → b ≤ max lo (min hi (r - d)) → lo ≤ c → c ≤ hi → d + c ≤ r → (b ≤ hi) × (d + b ≤ r)
within b lo hi d r c q s t u = (omega arith, omega arith)

-- the budget is allowed wherever anything is
pub budget_allowed : (e y : ℕ) (f : Frame) (fs : List Frame) (c : ℕ) → Allowed f y c → Allowed f y (budget e y f fs)
budget_allowed e y f fs c a =
    let i = budget_is e y f fs in
    let w = within (budget e y f fs) f.least f.most f.drain (room f y) c i.high a.low a.high
    a.have in
    record { low = i.low; high = w.0; have = w.1 }

smaller_sum : (b c l s s' : ℕ) → c < b → b ≤ l → s - (b - c) ≤ s' → min c l + s - min b l ≤ s'
smaller_sum b c l s s' p q h = omega arith

-- A frame with room r, drain d and the largest budget b: any other budget c can be replaced by b, and the rest makes
-- up for it.
module _ (e l : ℕ) (fs : List Frame) (d r lo hi b : ℕ) (i : IsLargest e fs (r - d) lo (min hi (r - d)) b) where
  -- c takes more than b: the rest is poor, and wants each unit
  replace_larger : (c : ℕ) (cs : List ℕ) → b < c → c ≤ hi → d + c ≤ r → Feasible e (r - (d + c)) fs cs →
      Serving e (r - (d + b)) fs l (min c l + served l cs - min b l)
  replace_larger c cs h high have k =
      ⊎_elim
      (λ (p : l ≤ b). (cs, more e (r - (d + c)) (r - (d + b)) fs cs (omega arith) k, omega arith))
      (λ (p : b < l). larger_poor p (i.refused b (le_refl b) (omega arith)))
      (le_or_lt l b)
    where
      larger_poor : b < l → r - d ≤ b + reserve e b fs → Serving e (r - (d + b)) fs l (min c l + served l cs - min b l)
      larger_poor p q =
          let s = poor_times e (r - (d + c)) l b (c - b) fs cs (omega arith) (omega arith) k in
          (s.0, more e (r - (d + c) + (c - b)) (r - (d + b)) fs s.0 (omega arith) s.1, omega (arith, s.2))

  -- c takes less than b: what b leaves is rich at one level below b
  replace_smaller : (c : ℕ) (cs : List ℕ) → c < b → lo ≤ c → d + c ≤ r → Feasible e (r - (d + c)) fs cs →
      Serving e (r - (d + b)) fs l (min c l + served l cs - min b l)
  replace_smaller c cs h low have k = smaller (i.taken (b - 1) (omega arith) (omega arith))
    where
      smaller : suc (b - 1) + reserve e (b - 1) fs ≤ r - d →
          Serving e (r - (d + b)) fs l (min c l + served l cs - min b l)
      smaller q =
          ⊎_elim
          (λ (p : b ≤ l).
          let w = rich e (r - (d + b)) (r - (d + c)) 0 (b - 1) fs cs (omega arith) (omega arith) k in
          let s = unit_times e (r - (d + b)) l (b - c) fs w.0 cs w.1
          (more e (r - (d + c)) (r - (d + b) + (b - c)) fs cs (omega arith) k) in
          (s.0, s.1, smaller_sum b c l (served l cs) (served l s.0) h p s.2))
          (λ (p : l < b).
          let s = rich e (r - (d + b)) (r - (d + c)) l (b - 1) fs cs (omega arith) (omega arith) k in
          (s.0, s.1, omega (arith, s.2)))
          (le_or_lt b l)

  replace_any : (c : ℕ) (cs : List ℕ) → lo ≤ c → c ≤ hi → d + c ≤ r → Feasible e (r - (d + c)) fs cs →
      Serving e (r - (d + b)) fs l (min c l + served l cs - min b l)
  replace_any c cs low high have k =
      ⊎_elim
      (λ (p : c ≤ b).
      ⊎_elim
      (λ (q : b ≤ c). (cs, more e (r - (d + c)) (r - (d + b)) fs cs (omega arith) k, omega arith))
      (λ (q : c < b). replace_smaller c cs q low have k)
      (le_or_lt b c))
      (λ (p : b < c). replace_larger c cs p high have k)
      (le_or_lt c b)

-- the plan's budget in place of any feasible one
pub replace : (e y l : ℕ) (f : Frame) (fs : List Frame) (c : ℕ) (cs : List ℕ) → Allowed f y c →
    Feasible e (left f y c) fs cs →
    Serving e (left f y (budget e y f fs)) fs l (min c l + served l cs - min (budget e y f fs) l)
replace e y l f fs c cs a k =
    replace_any e l fs f.drain (room f y) f.least f.most (budget e y f fs) (budget_is e y f fs) c cs a.low
    a.high a.have k

-- the plan is feasible whenever anything is, and serves at least as much at every level
pub plan_best : (e y l : ℕ) (fs : List Frame) (cs : List ℕ) → Feasible e y fs cs →
    Feasible e y fs (plan e y fs) × (served l cs ≤ served l (plan e y fs))
unfolding plan served
plan_best e y l [] [] k = (k, le_refl _)
plan_best e y l [] (c ∷ cs) k = absurd k
plan_best e y l (f ∷ fs) [] k = absurd k
plan_best e y l (f ∷ fs) (c ∷ cs) k =
    let s = replace e y l f fs c cs k.0 k.1 in
    let p = plan_best e (left f y (budget e y f fs)) l fs s.0 s.1 in (
      (budget_allowed e y f fs c k.0, p.0),
      sums (min c l) (served l cs) (min (budget e y f fs) l)
          (served l s.0) (served l (plan e (left f y (budget e y f fs)) fs)) s.2 p.1,
    )
  where
    sums : (a b c d g : ℕ) → a + b - c ≤ d → d ≤ g → a + b ≤ c + g
    sums a b c d g p q = omega arith
