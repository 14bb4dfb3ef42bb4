-- What each entry's promise follows from: the refusal that was found, or the plan and the capacity that were computed.
use mathlib.Core.Path.{◌≡◌, refl, sym, subst, ap, ◌∙◌}
use mathlib.Core.Bool.{true, false, false≢true}
use mathlib.Core.List.{List, [], ◌∷◌}
use Prim.Native.Nat.{ℕ, max}
use native.Mathlib.Omega.{arith}
use lib.ListN.{length}
use Rattle.std.proofs.Common.{Result, Ok, Err}
use Rattle.model.specs.declared.refusal.Refusal.{Refusal as Given}
use Rattle.model.specs.Answer.{asked, leasts_lent, mosts_lent, told, said}
use Rattle.model.proofs.Answer.{told_some, said_refusal}
use Rattle.model.specs.Refusals.{Refusal}
use Rattle.model.specs.Choice.{pick}
use Rattle.model.specs.declared.Request.{Request as Asked}
use Rattle.model.specs.Request.{Request, leasts}
use Rattle.model.specs.Refusals.{is_none, plan_refusal, needed_refusal, gives, outcome}
use Rattle.model.specs.Reward.{IsPlan, IsNeeded}
use Rattle.model.specs.Frames.{plan}
use Rattle.model.specs.Plan.{frames_with, plan_of, boundless, open_plan, peak, needed_of}
use Rattle.model.proofs.Reach.{none_feasible, none_open, none_capacity, reachable_open}
use Rattle.model.proofs.Requests.{over_frames, within_reach, plan_is}
use Rattle.model.proofs.Needed.{open_plan_frames, needed_is}
use Rattle.model.proofs.Refusals.{plan_unreachable, needed_unreachable}
use Rattle.leveller.specs.Plan.{Ready}
use Rattle.request.proofs.Harvest.{total_fits}
use Rattle.request.proofs.Within.{PlanWithin, plan_within, NeededWithin, needed_within}
use Rattle.planner.specs.Says.{PlanSays, NeededSays}

-- of a request that is not refused, the planner's list is the plan
pub accepted_plan : (q : Request) (l m : ℕ) (ns : List ℕ) → is_none (plan_refusal q l m ns) ≡ true →
    IsPlan q (plan_of q)
accepted_plan q l m ns h =
    let w = (plan_within q l m ns h).served in
    plan_is q w.figures.start_fits w.figures.end_fits w.reach

-- and the planning core can plan it
pub plan_ready : (a : Asked) (ns : List ℕ) → PlanWithin (asked a) (leasts_lent a) (mosts_lent a) ns →
    Ready a a.figures.capacity
plan_ready a ns w =
    let q = asked a in
    let g = w.served.figures in
    let few = w.lent.frames.few in
    let all = total_fits q.harvest g.harvest_fits few in
    let reached = within_reach q g.start_fits g.end_fits w.served.reach in
    record {
      small = record { capacity_fits = omega (arith, g.capacity_small); end_fits = omega (arith, g.capacity_small, g.end_fits); energy_fits = omega (arith, g.capacity_small, g.start_fits) };
      start_fits = omega (arith, g.capacity_small, g.start_fits);
      few = few;
      leasts_long = w.lent.leasts;
      mosts_long = w.lent.mosts;
      able = (reached.0, over_frames q g.start_fits g.end_fits reached.0 reached.1);
    }

-- what it writes is the plan of the request
pub plan_found : (q : Request) (bs : List ℕ) →
    bs ≡ plan q.figures.end q.figures.start (frames_with q q.figures.capacity) → bs ≡ plan_of q
unfolding plan_of
plan_found q bs e = e

-- refused: nothing is written
pub plan_refused : (q : Request) (l m : ℕ) (bs : List ℕ) (e : Given) → told e ≡ plan_refusal q l m (length bs ∷ []) →
    PlanSays q l m bs bs (Err e)
plan_refused q l m bs e p =
    let h = told_some e in
    record {
      answer = said_refusal e tt p;
      budgets = subst (λ (g : Refusal). bs ≡ pick (is_none g) (plan_of q) bs) p (rw h refl);
      plan = λ k. absurd (false≢true (sym (subst (λ (g : Refusal). is_none g ≡ false) p h) ∙ k));
      no_plan = λ k. none_feasible q (plan_unreachable q l m (length bs ∷ []) k);
    }

-- not refused: the plan is written
pub plan_given : (q : Request) (l m : ℕ) (bs bs' : List ℕ) (f : Refusal) → f ≡ plan_refusal q l m (length bs ∷ []) →
    is_none f ≡ true → bs' ≡ plan_of q → PlanSays q l m bs bs' (Ok tt)
plan_given q l m bs bs' f p h b =
    record {
      answer = rw (← p, h);
      budgets = b ∙ subst (λ (g : Refusal). plan_of q ≡ pick (is_none g) (plan_of q) bs) p (rw h refl);
      plan = λ k. rw b (accepted_plan q l m (length bs ∷ []) k);
      no_plan = λ k. none_feasible q (plan_unreachable q l m (length bs ∷ []) k);
    }

-- a request whose needed capacity is not refused can be planned without limit
pub needed_ready : (a : Asked) → NeededWithin (asked a) (leasts_lent a) (mosts_lent a) → Ready a (boundless (asked a))
needed_ready a w =
    let q = asked a in
    let g = w.limits in
    let few = w.lent.frames.few in
    let all = total_fits q.harvest g.harvest_fits few in
    record {
      small = record { capacity_fits = omega (arith, g.start_small, g.end_small); end_fits = omega (arith, g.end_small); energy_fits = omega (arith, g.start_small) };
      start_fits = omega (arith, g.start_small);
      few = few;
      leasts_long = w.lent.leasts;
      mosts_long = w.lent.mosts;
      able = (open_plan q, open_plan_frames q w.reach);
    }

-- what the frames of the plan without limit ask for, with start and end, is the needed capacity
pub needed_found : (q : Request) (p : ℕ) →
    let s = q.figures.start in
    let e = q.figures.end in
    let fs = frames_with q (boundless q) in
    p ≡ peak e fs (plan e s fs) → max s (max e p) ≡ needed_of q
unfolding needed_of open_plan
needed_found q p h = ap (λ (n : ℕ). max q.figures.start (max q.figures.end n)) h

-- of a request that is not refused, the capacity is the needed one
accepted_needed : (q : Request) (l m : ℕ) → is_none (needed_refusal q l m) ≡ true → IsNeeded q (needed_of q)
accepted_needed q l m h = needed_is q (needed_within q l m h).reach

-- beside its answer, what the promise says of every request
needed_says : (q : Request) (l m : ℕ) (r : Result ℕ Given) →
    said r ≡ outcome (needed_refusal q l m) (needed_of q) → NeededSays q l m r
unfolding needed_of open_plan
needed_says q l m r a =
    record {
      answer = a;
      needed = accepted_needed q l m;
      no_plan = λ k. none_capacity q (needed_unreachable q l m k);
      no_open_plan = λ k. none_open q (needed_unreachable q l m k);
      open_plan = λ k. (leasts q, sym (reachable_open q) ∙ (needed_within q l m k).reach);
      any_capacity = λ c. (refl, refl);
    }

pub needed_refused : (q : Request) (l m : ℕ) (e : Given) → told e ≡ needed_refusal q l m → NeededSays q l m (Err e)
needed_refused q l m e p = needed_says q l m (Err e) (said_refusal e (needed_of q) p)

pub needed_given : (q : Request) (l m c : ℕ) (f : Refusal) → f ≡ needed_refusal q l m → is_none f ≡ true →
    c ≡ needed_of q → NeededSays q l m (Ok c)
needed_given q l m c f p h b = needed_says q l m (Ok c) (ap gives b ∙ rw (← p, h))
