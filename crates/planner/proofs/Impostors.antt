-- Answers that look sensible and that the promises refuse, each on a request of document 01.
use mathlib.Core.Path.{◌≡◌, refl, sym, ◌∙◌}
use mathlib.Core.List.{List, [], ◌∷◌}
use Prim.Native.Nat.{ℕ}
use native.Mathlib.Omega.{arith}
use Rattle.std.proofs.Common.{Result, Ok, Err}
use Rattle.model.specs.declared.refusal.Refusal.{Refusal as Given}
use Rattle.model.specs.Answer.{told}
use Rattle.model.specs.Limits.{no_upper_end}
use Rattle.model.specs.Request.{Request, figures, bounded_request}
use Rattle.model.specs.Refusals.{plan_refusal, needed_refusal}
use Rattle.model.specs.Frames.{reserve, largest, budget, plan, requirement}
use Rattle.model.specs.Plan.{frames_of, plan_of, open_plan, peak, needed_of}
use Rattle.model.proofs.Outcome.{gave, no_refusal}
use Rattle.planner.specs.Says.{PlanSays, NeededSays}

-- lists with different heads are different
heads : (x y : ℕ) (xs ys : List ℕ) → (x ≡ y → ⊥) → x ∷ xs ≡ y ∷ ys → ⊥
heads x y xs ys h p = h (cc)

-- harvest 1, 2, and the other way round
abbrev pub rising : Request
rising = bounded_request (figures 9 0 0) (1 ∷ 2 ∷ []) (0 ∷ 0 ∷ []) (no_upper_end ∷ no_upper_end ∷ [])

abbrev pub falling : Request
falling = bounded_request (figures 9 0 0) (2 ∷ 1 ∷ []) (0 ∷ 0 ∷ []) (no_upper_end ∷ no_upper_end ∷ [])

-- the plan of harvest 1, 2 is 1, 2
written : (bs : List ℕ) (x y : ℕ) (r : Result (Unit {0}) Given) → PlanSays rising 2 2 (x ∷ y ∷ []) bs r → bs ≡ 1 ∷ 2 ∷ []
unfolding plan_of plan frames_of budget largest reserve
written bs x y r p = p.budgets

-- that of harvest 2, 1 is 2, 1
written_falling : (bs : List ℕ) (x y : ℕ) (r : Result (Unit {0}) Given) → PlanSays falling 2 2 (x ∷ y ∷ []) bs r → bs ≡ 2 ∷ 1 ∷ []
unfolding plan_of plan frames_of budget largest reserve
written_falling bs x y r p = p.budgets

-- all budgets 0 is feasible, and not the plan
pub all_zeros_refused : (x y : ℕ) (r : Result (Unit {0}) Given) → PlanSays rising 2 2 (x ∷ y ∷ []) (0 ∷ 0 ∷ []) r → ⊥
all_zeros_refused x y r p = heads 0 1 (0 ∷ []) (2 ∷ []) (λ q. omega arith) (written (0 ∷ 0 ∷ []) x y r p)

-- no fixed list is the plan of both harvests 1, 2 and 2, 1
pub fixed_plan_refused : (bs : List ℕ) (x y : ℕ) (r s : Result (Unit {0}) Given) → PlanSays rising 2 2 (x ∷ y ∷ []) bs r →
    PlanSays falling 2 2 (x ∷ y ∷ []) bs s → ⊥
fixed_plan_refused bs x y r s p q =
    heads 1 2 (2 ∷ []) (1 ∷ []) (λ z. omega arith) (sym (written bs x y r p) ∙ written_falling bs x y s q)

-- budgets left as they were
pub unwritten_refused : (r : Result (Unit {0}) Given) → PlanSays rising 2 2 (7 ∷ 7 ∷ []) (7 ∷ 7 ∷ []) r → ⊥
unwritten_refused r p = heads 7 1 (7 ∷ []) (2 ∷ []) (λ q. omega arith) (written (7 ∷ 7 ∷ []) 7 7 r p)

-- a refusal where there is a plan, whatever its number and P
pub refusal_refused : (bs : List ℕ) (x y : ℕ) (e : Given) →
    PlanSays rising 2 2 (x ∷ y ∷ []) bs (Err e) → ⊥
refusal_refused bs x y e p = no_refusal (plan_refusal rising 2 2 (2 ∷ [])) tt refl (told e) p.answer

-- start plus all harvest as the needed capacity of harvest 1, 2, which is 0
pub all_energy_refused : NeededSays rising 2 2 (Ok 3) → ⊥
unfolding needed_of open_plan plan frames_of budget largest reserve peak requirement
all_energy_refused p =
    let e : ◌≡◌ {A = ℕ} 3 0 = (gave (needed_refusal rising 2 2) (needed_of rising) 3 p.answer).1 in
    omega arith

-- a refusal where there is a needed capacity
pub needed_refusal_refused : (e : Given) → NeededSays rising 2 2 (Err e) → ⊥
needed_refusal_refused e p =
    no_refusal (needed_refusal rising 2 2) (needed_of rising) refl (told e) p.answer
