-- What the parts of the listing say of a request that planning does not refuse, and of one that it does.
use mathlib.Core.Path.{◌≡◌, refl, ap, ◌∙◌}
use mathlib.Core.Bool.{true}
use mathlib.Core.List.{List, [], ◌∷◌, ◌++◌, map}
use Prim.Native.Nat.{ℕ, ◌≤◌}
use native.Mathlib.Omega.{arith}
use borrow.Author.Tests.{le-ltb}
use lib.IntN.{ℤ, pos}
use lib.ListN.{length}
use Rattle.model.specs.Refusals.{Refusal}
use Rattle.model.specs.Limits.{max_frames, max_capacity}
use Rattle.model.specs.Request.{Request, frame_count}
use Rattle.model.specs.Refusals as R
use Rattle.model.specs.Refusals.{is_none, plan_refusal, needed_refusal}
use Rattle.model.specs.Charge.{charges, losses}
use Rattle.model.specs.Trace.{trace, trace_losses}
use Rattle.model.specs.Plan.{plan_of, needed_of}
use Rattle.model.proofs.First.{first_none, none_first, both_none}
use Rattle.model.proofs.Requests.{plan_is}
use Rattle.model.proofs.Trace.{trace_charges, trace_losses_lem, feasible_drawable, feasible_length}
use Rattle.request.proofs.Within.{plan_within}
use Rattle.grader.specs.Says.{sums_of}
use Rattle.grader.specs.declared.Sums.{Sums}
use Rattle.text.specs.Line.{line_of, lines_of}
use Rattle.printed.specs.Text.{first_pattern, frame_pattern, worth_pattern, frame_rows, plan_text}
use Rattle.printed.proofs.Means.{open_reach}
use Rattle.printed.proofs.FrameLines.{amounts, amounts_pos}

-- what holds of a request that planning with lists of l leasts and m mosts does not refuse
pub record Accepted (q : Request) (l m : ℕ) : Type 0 where
  pub few : frame_count q ≤ max_frames
  pub start_fits : q.figures.start ≤ q.figures.capacity
  pub needed : is_none (needed_refusal q l m) ≡ true
  pub budgets : length (plan_of q) ≡ frame_count q
  pub charges : trace q (plan_of q) ≡ map pos (charges q (plan_of q))
  pub losses : trace_losses q (plan_of q) ≡ losses q (plan_of q)

pub accepted : (q : Request) (l m : ℕ) (ns : List ℕ) → is_none (plan_refusal q l m ns) ≡ true → Accepted q l m
accepted q l m ns e =
    let w = plan_within q l m ns e in
    let g = w.served.figures in
    let k = frame_count q in
    let a = both_none (R.lent_refusals k l m) (map (R.wrong_length k) ns ++ R.served_refusals q)
    (first_none (R.plan_refusals q l m ns) e) in
    let c = both_none (map (R.wrong_length k) ns) (R.served_refusals q) a.1 in
    let b = both_none (R.figure_refusals q) (R.bound_refusals q) c.1 in
    let o = first_none (R.out_of_reach q ∷ R.leasts_refused_unlimited q ∷ []) (open_reach q w.served.reach) in
    let f = (plan_is q g.start_fits g.end_fits w.served.reach).is_feasible in
    let d = feasible_drawable q (plan_of q) f in
    let s = low q.figures.start (omega (arith, g.capacity_small, g.start_fits)) in
    let t = low q.figures.end (omega (arith, g.capacity_small, g.end_fits)) in
    record {
      few = w.lent.frames.few;
      start_fits = g.start_fits;
      needed =
          ap is_none
          (none_first (R.needed_refusals q l m)
          (all_none (R.lent_refusals k l m) (R.open_limits q ++ R.open_refusals q) a.0
          (s, (t, (b.0.1.1.1.0, (b.1.0, o))))));
      budgets = feasible_length q (plan_of q) f;
      charges = trace_charges q (plan_of q) d;
      losses = trace_losses_lem q (plan_of q) d;
    }
  where
    low : (n : ℕ) → n ≤ max_capacity → is_none (R.over_capacity_limit n) ≡ true
    low n l = rw (le-ltb max_capacity n l)

    all_none : (fs gs : List Refusal) → R.AllNone fs → R.AllNone gs → R.AllNone (fs ++ gs)
    all_none [] gs x y = y
    all_none (f ∷ fs) gs x y = (x.0, all_none fs gs x.1 y)

-- its parts: the budgets bs, the charges ys after them and the losses ls
module _ (q : Request) (l m : ℕ) (w : Accepted q l m) (bs : List ℕ) (b : bs ≡ plan_of q) where
  module _ (ys : List ℤ) (ls : List ℕ) (traced : (ys ≡ trace q bs) × (ls ≡ trace_losses q bs)) where
    charges_are : ys ≡ map pos (charges q (plan_of q))
    charges_are = traced.0 ∙ (ap (trace q) b ∙ w.charges)

    losses_are : ls ≡ losses q (plan_of q)
    losses_are = traced.1 ∙ (ap (trace_losses q) b ∙ w.losses)

    -- the lines of the needed capacity n, of these parts and of their sums s
    pub shown_is : (n : ℕ) (s : Sums) → n ≡ needed_of q → s ≡ sums_of bs →
        line_of first_pattern (frame_count q ∷ q.figures.capacity ∷ n ∷ [])
        ++ (lines_of frame_pattern (frame_rows 1 bs (amounts ys) ls)
        ++ line_of worth_pattern (s.curve0 ∷ s.curve1 ∷ s.curve2 ∷ []))
        ≡ plan_text q
    shown_is n s z d =
        let e : amounts ys ≡ charges q (plan_of q) = ap amounts charges_are ∙ amounts_pos (charges q (plan_of q)) in
        rw (e, losses_are, d, z, b) refl
