-- What planning and the needed capacity promise of every argument: the equations, then their meaning.
use Rattle.std.specs.Prelude.{◌≡◌, true, false, List, [], ◌∷◌, ℕ, length, Result}
use Rattle.model.specs.declared.refusal.Refusal.{Refusal as Given}
use Rattle.model.specs.Answer.{said}
use Rattle.model.specs.Choice.{pick}
use Rattle.model.specs.Request.{Request, with_capacity}
use Rattle.model.specs.Refusals.{is_none, is_unreachable, plan_refusal, needed_refusal, outcome}
use Rattle.model.specs.Charge.{feasible, feasible_unlimited}
use Rattle.model.specs.Reward.{IsPlan, IsNeeded}
use Rattle.model.specs.Plan.{plan_of, needed_of}

-- planning request q with lists of l leasts and m mosts: budgets bs before and bs' after
pub record PlanSays (q : Request) (l m : ℕ) (bs bs' : List ℕ) (r : Result (Unit {0}) Given) : Type 0 where
  -- planned, or the first of its refusals that holds
  pub answer : said r ≡ outcome (plan_refusal q l m (length bs ∷ [])) tt
  -- the budgets are the plan, or as they were
  pub budgets : bs' ≡ pick (is_none (plan_refusal q l m (length bs ∷ []))) (plan_of q) bs
  -- if not refused they are the one feasible list that is best for every qualifying table and takes more first
  pub plan : is_none (plan_refusal q l m (length bs ∷ [])) ≡ true → IsPlan q bs'
  -- refusals 9 and 11 mean that nothing is feasible
  pub no_plan : is_unreachable (plan_refusal q l m (length bs ∷ [])) ≡ true → (cs : List ℕ) → feasible q cs ≡ false

-- the needed capacity of request q, whose own capacity plays no part, with lists of l leasts and m mosts
pub record NeededSays (q : Request) (l m : ℕ) (r : Result ℕ Given) : Type 0 where
  -- the capacity, or the first of its refusals that holds
  pub answer : said r ≡ outcome (needed_refusal q l m) (needed_of q)
  -- if not refused it is the least capacity that serves every qualifying table as unlimited storage does
  pub needed : is_none (needed_refusal q l m) ≡ true → IsNeeded q (needed_of q)
  -- refusals 9 and 11 mean that nothing is feasible, whatever the capacity, not even without limit
  pub no_plan : is_unreachable (needed_refusal q l m) ≡ true → (c : ℕ) (cs : List ℕ) →
      feasible (with_capacity q c) cs ≡ false
  pub no_open_plan : is_unreachable (needed_refusal q l m) ≡ true → (cs : List ℕ) → feasible_unlimited q cs ≡ false
  -- if not refused something is, without limit
  pub open_plan : is_none (needed_refusal q l m) ≡ true → (cs : List ℕ) × (feasible_unlimited q cs ≡ true)
  -- a request that differs in its capacity alone is refused alike and needs the same
  pub any_capacity : (c : ℕ) →
      (needed_refusal (with_capacity q c) l m ≡ needed_refusal q l m) × (needed_of (with_capacity q c) ≡ needed_of q)
