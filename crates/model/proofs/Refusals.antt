-- Refusals 9 and 11 are given only where nothing can be reached.
use mathlib.Core.Path.{◌≡◌, refl, ap, sym, ◌∙◌}
use mathlib.Core.Bool.{Bool, true, false, false≢true}
use mathlib.Core.List.{List, [], ◌∷◌, ◌++◌, map}
use Prim.Native.Nat.{ℕ}
use lib.Dec.{eqb}
use borrow.Author.Tests.{eqb-true}
use Rattle.model.specs.Choice.{pick}
use Rattle.model.specs.Request.{Request, frame_count}
use Rattle.model.specs.Refusals.{Refusal, refusal, is_none, first_of, wrong_length, bounds_refused, lent_refusals}
use Rattle.model.specs.Refusals.{figure_refusals, bound_refusals, served_refusals, open_limits, open_refusals}
use Rattle.model.specs.Refusals.{out_of_reach, leasts_refused, leasts_refused_unlimited, is_unreachable, reachable}
use Rattle.model.specs.Refusals.{reachable_unlimited, plan_refusal, needed_refusal, start_refusal}
use Rattle.model.proofs.Numbers.{AllClear, Spares, lengths_clear, bounds_clear, lent_clear, figures_clear, open_clear}

-- the numbers by which nothing is feasible, 9 and 11
abbrev unreachable : ℕ → Bool
unreachable n = is_unreachable (refusal n 0)

-- a refusal that has neither
abbrev pub Other : Refusal → Type 0
Other f = is_unreachable f ≡ false

-- the refusals of lengths, figures, frames and bounds are neither
others : Spares unreachable
others =
    record {
      none = refl;
      frames = (refl, refl);
      lengths = refl;
      figures = (refl, refl, refl);
      harvests = refl;
      bounds = refl;
    }

-- where the first of a list is 9 or 11, so is the first of what follows the others
past_others : (fs gs : List Refusal) → AllClear unreachable fs → is_unreachable (first_of (fs ++ gs)) ≡ true →
    is_unreachable (first_of gs) ≡ true
past_others [] gs a h = h
past_others (f ∷ fs) gs a h = past_others fs gs a.1 (go (is_none f) h)
  where
    go : (t : Bool) → is_unreachable (pick t (first_of (fs ++ gs)) f) ≡ true →
        is_unreachable (first_of (fs ++ gs)) ≡ true
    go true h = h
    go false h = absurd (false≢true (sym a.0 ∙ h))

-- neither is no refusal
unreachable_some : (f : Refusal) → is_unreachable f ≡ true → is_none f ≡ false
unreachable_some f h = go (is_none f) refl
  where
    go : (t : Bool) → eqb f.number 0 ≡ t → t ≡ false
    go true q = absurd (false≢true (ap unreachable (sym (eqb-true f.number 0 q)) ∙ h))
    go false q = refl

-- a request that is to be served is refused with 9 or 11 only where nothing can be reached
served_unreachable : (r : Request) → is_unreachable (first_of (served_refusals r)) ≡ true → reachable r ≡ false
served_unreachable r h =
    let reach = out_of_reach r ∷ leasts_refused r ∷ [] in
    unreachable_some (first_of reach)
    (past_others (bounds_refused 1 r.bounds ∷ []) reach (bounds_clear unreachable refl 1 r.bounds refl, tt)
    (past_others (figure_refusals r) (bound_refusals r) (figures_clear unreachable others r) h))

-- and so are planning, the start of a shift and, without limit, the needed capacity
pub plan_unreachable : (r : Request) (l m : ℕ) (ns : List ℕ) → is_unreachable (plan_refusal r l m ns) ≡ true →
    reachable r ≡ false
plan_unreachable r l m ns h =
    let k = frame_count r in
    let written = map (wrong_length k) ns in
    served_unreachable r
    (past_others written (served_refusals r) (lengths_clear unreachable refl k ns refl)
    (past_others (lent_refusals k l m) (written ++ served_refusals r) (lent_clear unreachable others k l m) h))

pub start_unreachable : (r : Request) (l m : ℕ) → is_unreachable (start_refusal r l m) ≡ true → reachable r ≡ false
start_unreachable r l m h =
    let k = frame_count r in
    served_unreachable r
    (past_others (lent_refusals k l m) (served_refusals r) (lent_clear unreachable others k l m) h)

pub needed_unreachable : (r : Request) (l m : ℕ) → is_unreachable (needed_refusal r l m) ≡ true →
    reachable_unlimited r ≡ false
needed_unreachable r l m h =
    let k = frame_count r in
    let reach = out_of_reach r ∷ leasts_refused_unlimited r ∷ [] in
    unreachable_some (first_of reach)
    (past_others (bounds_refused 1 r.bounds ∷ []) reach (bounds_clear unreachable refl 1 r.bounds refl, tt)
    (past_others (open_limits r) (open_refusals r) (open_clear unreachable others r)
    (past_others (lent_refusals k l m) (open_limits r ++ open_refusals r) (lent_clear unreachable others k l m) h)))
