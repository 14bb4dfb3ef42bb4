-- Filling a list with the budgets of the rest: what the planner asks is there, and what either way writes.
use mathlib.Core.Path.{◌≡◌, sym, ap, ◌∙◌}
use mathlib.Core.Bool.{true, false, not}
use mathlib.Core.List.{List, [], ◌∷◌}
use Prim.Native.Nat.{ℕ}
use native.Mathlib.Omega.{arith}
use lib.ListN.{length, replicate}
use Rattle.model.specs.declared.Request.{Request as Asked}
use Rattle.model.specs.declared.refusal.Refusal.{Refusal as Given}
use Rattle.model.specs.Answer.{asked, told}
use Rattle.model.specs.Refusals.{Refusal, none, is_none, first_of, out_of_reach, leasts_refused, reachable}
use Rattle.model.specs.Limits.{max_harvest}
use Rattle.model.specs.Request.{bounds_of, frame_count}
use Rattle.model.specs.Charge.{all_within}
use Rattle.model.specs.Frames.{plan}
use Rattle.model.specs.Plan.{frames_with, plan_of}
use Rattle.model.proofs.Answer.{told_some}
use Rattle.model.proofs.Choice.{pick_by}
use Rattle.model.proofs.Requests.{over_frames, within_reach}
use Rattle.request.specs.Reach.{unreachable_by}
use Rattle.request.proofs.Harvest.{total_small}
use Rattle.request.proofs.Leasts.{leasts_are, unreachable_is}
use Rattle.leveller.specs.Plan.{Ready}
use Rattle.rest.specs.declared.Rest.TheVariants as rest
use Rattle.rest.specs.Rest.{zeros, ending_of, Fillable, rest_budgets}
use Rattle.rest.specs.Says.{ended}
use Rattle.rest.proofs.Ending.{short_by_lem, ending_short, ending_full}

-- filling the budgets of a request that is lent
module _ (a : Asked) (fits : Fillable (asked a))
    (leasts_long : length a.lists.least.now ≡ length a.lists.harvest.now)
    (mosts_long : length a.lists.most.now ≡ length a.lists.harvest.now) where
  abbrev hs : List ℕ
  hs = a.lists.harvest.now

  abbrev ls : List ℕ
  ls = a.lists.least.now

  abbrev ms : List ℕ
  ms = a.lists.most.now

  -- refusals 9 and 11 as the code finds them are those of the definition
  pub found : first_of (unreachable_by (asked a) ls) ≡ first_of (out_of_reach (asked a) ∷ leasts_refused (asked a) ∷ [])
  found =
      unreachable_is a.figures hs ls ms leasts_long mosts_long
      (ap (all_within (bounds_of ls ms)) (sym (leasts_are hs ls ms leasts_long mosts_long)) ∙ fits.leasts_within)

  -- so that one of them is found exactly when the request cannot be reached
  reached : none ≡ first_of (unreachable_by (asked a) ls) → reachable (asked a) ≡ true
  reached e = sym (ap is_none (e ∙ found))

  unreached : (e : Given) → told e ≡ first_of (unreachable_by (asked a) ls) → reachable (asked a) ≡ false
  unreached e d = sym (ap is_none (d ∙ found)) ∙ told_some e

  -- what the planner asks
  pub fill_ready : none ≡ first_of (unreachable_by (asked a) ls) → Ready a a.figures.capacity
  fill_ready e =
      let all = total_small max_harvest hs fits.small in
      let w = within_reach (asked a) fits.start_low fits.end_low (reached e) in
      record {
        small = record { capacity_fits = omega arith; end_fits = omega arith; energy_fits = omega arith };
        start_fits = omega arith;
        few = fits.few;
        leasts_long = leasts_long;
        mosts_long = mosts_long;
        able = (w.0, over_frames (asked a) fits.start_low fits.end_low w.0 w.1);
      }

  -- zeros where it is short
  pub fill_short : (e : Given) → told e ≡ first_of (unreachable_by (asked a) ls) → (n : ℕ) (ys : List ℕ) →
      n ≡ frame_count (asked a) → ys ≡ replicate n 0 → ys ≡ rest_budgets (asked a)
  fill_short e f n ys k d =
      d
      ∙ ap (λ (x : ℕ). replicate x 0) k
      ∙ sym (pick_by (ending_of (asked a)).short true (zeros (asked a)) (plan_of (asked a)) (ap not (unreached e f)))

  -- the plan where it is not
  pub fill_full : (ys : List ℕ) → none ≡ first_of (unreachable_by (asked a) ls) →
      ys ≡ plan a.figures.end a.figures.start (frames_with (asked a) a.figures.capacity) → ys ≡ rest_budgets (asked a)
  unfolding plan_of
  fill_full ys e d =
      d ∙ sym (pick_by (ending_of (asked a)).short false (zeros (asked a)) (plan_of (asked a)) (ap not (reached e)))

  -- how it ends either way
  pub ends_short : (e : Given) → told e ≡ first_of (unreachable_by (asked a) ls) → (m : ℕ) → m ≡ (told e).p →
      ended (rest.Short m) ≡ ending_of (asked a)
  ends_short e d m k =
      ending_short (asked a) m (unreached e d)
      (k ∙ ap (λ (x : Refusal). x.p) (d ∙ found) ∙ short_by_lem (asked a) fits.start_low fits.end_low)

  pub ends_full : none ≡ first_of (unreachable_by (asked a) ls) → ended rest.Planned ≡ ending_of (asked a)
  ends_full e = ending_full (asked a) (reached e)
