-- Demands 2 and 3 as statements about a request, whatever its size. They are proved in proofs/Requests.antt and
-- proofs/Needed.antt.
use Rattle.std.specs.Prelude.{◌≡◌, true, false, List, ℤ, get_or, ℕ, ◌≤◌}
use Rattle.model.specs.Request.{Request, NoMost, most_energy, with_capacity}
use Rattle.model.specs.Refusals.{reachable}
use Rattle.model.specs.Charge.{feasible, charges, losses, feasible_unlimited}
use Rattle.model.specs.Reward.{Qualifies, BestForAll, IsPlan, BestReward, IsNeeded}
use Rattle.model.specs.Frames.{served}
use Rattle.model.specs.Plan.{plan_of, needed_of}

-- for every request with start ≤ capacity and end ≤ capacity
pub record PlanDemand (r : Request) : Type 0 where
  -- something is feasible exactly when neither refusal 9 nor 11 holds
  pub within_reach : reachable r ≡ true → (bs : List ℕ) × (feasible r bs ≡ true)
  pub out_of_reach : reachable r ≡ false → (bs : List ℕ) → feasible r bs ≡ false
  -- then plan_of is the plan: feasible, best for every qualifying table, and it takes more at the first difference
  pub is_plan : reachable r ≡ true → IsPlan r (plan_of r)
  -- no other list is
  pub only_plan : (bs : List ℕ) → IsPlan r bs → bs ≡ plan_of r
  -- counting each budget up to a level, no feasible list serves more
  pub serves_most : (bs : List ℕ) → feasible r bs ≡ true → (l : ℕ) → served l bs ≤ served l (plan_of r)
  -- among the lists best for every table it has the lowest charge after every frame
  pub lowest_charges : (bs : List ℕ) → feasible r bs ≡ true → BestForAll r bs → (i : ℕ) →
      get_or (charges r (plan_of r)) i 0 ≤ get_or (charges r bs) i 0
  -- a frame without a most loses nothing, whatever the other frames have
  pub loses_nothing : (i : ℕ) → NoMost r i → get_or (losses r (plan_of r)) i 0 ≡ 0

-- for every request for which neither refusal 9 nor 11 holds without limit; its capacity plays no part
pub record NeededDemand (r : Request) : Type 0 where
  -- needed_of is the least capacity, at least start and end, that serves every table as unlimited storage does
  pub is_needed : IsNeeded r (needed_of r)
  -- no other number is
  pub only_needed : (c : ℕ) → IsNeeded r c → c ≡ needed_of r
  -- with unlimited storage every qualifying table has a best reward
  pub best_exists : (f : ℕ → ℤ) → Qualifies f (most_energy r) → (v : ℤ) × BestReward (feasible_unlimited r) f v
  -- unlimited storage is every capacity that is large enough, not one particular number
  pub unlimited : (c : ℕ) → most_energy r ≤ c → (bs : List ℕ) → feasible (with_capacity r c) bs ≡ feasible_unlimited r bs
