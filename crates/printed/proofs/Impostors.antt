-- Texts that look sensible and that are no listing, each of document 01's request with harvest 1, 2.
use mathlib.Core.Path.{◌≡◌, refl, ap, ◌∙◌}
use mathlib.Core.List.{List, [], ◌∷◌}
use Prim.Native.Nat.{ℕ}
use native.Mathlib.Omega.{arith}
use lib.ListN.{get_or}
use Rattle.model.specs.Refusals.{Refusal}
use Rattle.model.specs.Limits.{no_upper_end}
use Rattle.model.specs.Request.{Request, bounded_request, figures}
use Rattle.model.specs.Charge.{losses}
use Rattle.model.specs.Frames.{reserve, largest, budget, plan, requirement}
use Rattle.model.specs.Plan.{frames_of, plan_of, open_plan, peak, needed_of}
use Rattle.model.proofs.Requests.{plan_demand}
use Rattle.model.proofs.Needed.{needed_demand}
use Rattle.wordfile.specs.File.{file_bytes}
use Rattle.text.specs.Decimal.{decimal}
use Rattle.text.specs.Line.{line_of}
use Rattle.printed.specs.Text.{refused_line, Shown, showing, listing}
use Rattle.printed.specs.Means.{Paired, ListMeans}

-- its plan is 1, 2 and its needed capacity 0
abbrev pub asked : Request
asked = bounded_request (figures 9 0 0) (1 ∷ 2 ∷ []) (0 ∷ 0 ∷ []) (no_upper_end ∷ no_upper_end ∷ [])

-- no text that shows other budgets, whatever else it shows: zeros, or one fixed plan
pub other_budgets_refused : (g : Shown) → Paired g → ListMeans asked (showing g) → g.budgets ≡ 1 ∷ 2 ∷ []
unfolding plan_of plan frames_of budget largest reserve
other_budgets_refused g l m =
    (plan_demand asked (omega arith) (omega arith)).only_plan g.budgets (m.right g (l, refl)).plan

-- no text that shows other losses
pub other_losses_refused : (g : Shown) → Paired g → ListMeans asked (showing g) → g.losses ≡ 0 ∷ 0 ∷ []
other_losses_refused g l m = (m.right g (l, refl)).lost ∙ ap (losses asked) (other_budgets_refused g l m)

-- no text that shows another needed capacity: start plus all harvest, or the capacity
pub other_needed_refused : (g : Shown) → Paired g → ListMeans asked (showing g) → g.needed ≡ 0
unfolding needed_of open_plan plan frames_of budget largest reserve peak requirement
other_needed_refused g l m = (needed_demand asked refl).only_needed g.needed (m.right g (l, refl)).needed

-- the listing of its file is no refusal, whatever number and P
pub refusal_refused : (f : Refusal) → listing (file_bytes asked) ≡ refused_line f → ⊥
unfolding decimal line_of plan_of open_plan needed_of frames_of plan budget largest reserve requirement peak
refusal_refused f e = let z : ◌≡◌ {A = ℕ} 102 114 = ap (λ (t : List ℕ). get_or t 0 0) e in omega arith
