-- What can be read from a listing.
use Rattle.std.specs.Prelude.{◌≡◌, ◌⊎◌, true, false, List, ℕ, length}
use Rattle.model.specs.Request.{Request, frame_count}
use Rattle.model.specs.Refusals.{is_unreachable}
use Rattle.model.specs.Refusals.{Refusal}
use Rattle.model.specs.Charge.{feasible, charges, losses}
use Rattle.model.specs.Curves.{house_curve, grade}
use Rattle.model.specs.Reward.{IsPlan, IsNeeded}
use Rattle.printed.specs.Text.{refused_line, Shown, showing}

-- figures that are right for the request q: K, the capacity, the needed capacity, the plan, its charges, its losses and
-- its worth
pub record Right (q : Request) (g : Shown) : Type 0 where
  pub frames : g.frames ≡ frame_count q
  pub capacity : g.capacity ≡ q.figures.capacity
  pub needed : IsNeeded q g.needed
  pub plan : IsPlan q g.budgets
  pub after : g.charges ≡ charges q g.budgets
  pub lost : g.losses ≡ losses q g.budgets
  pub worth0 : g.worth0 ≡ grade (house_curve 0) g.budgets
  pub worth1 : g.worth1 ≡ grade (house_curve 1) g.budgets
  pub worth2 : g.worth2 ≡ grade (house_curve 2) g.budgets

-- figures with a charge and a loss for each budget
abbrev pub Paired : Shown → Type 0
Paired g = (length g.charges ≡ length g.budgets) × (length g.losses ≡ length g.budgets)

-- the text t shows these figures
abbrev pub Shows : List ℕ → Shown → Type 0
Shows t g = Paired g × (t ≡ showing g)

-- what can be read from a listing t of the request q
pub record ListMeans (q : Request) (t : List ℕ) : Type 0 where
  -- it shows figures, or a refusal
  pub form : ((g : Shown) × Shows t g) ⊎ ((f : Refusal) × (t ≡ refused_line f))
  -- whatever figures it shows, they are right: the budgets are the plan, the number is the needed capacity
  pub right : (g : Shown) → Shows t g → Right q g
  -- after "refused 9" or "refused 11", whatever its P, nothing is feasible
  pub no_plan : (f : Refusal) → is_unreachable f ≡ true → t ≡ refused_line f → (cs : List ℕ) → feasible q cs ≡ false
