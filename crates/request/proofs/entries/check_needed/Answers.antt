-- The lists' lengths come first, then the limits; past them start plus all harvest is a store that no charge exceeds, so
-- that 11 with it is 11 without limit.
use Rattle.std.proofs.Common.{refl, sym, ap, ◌∙◌, [], ◌∷◌, ◌++◌, ◌*◌, ◌≤◌, arith}
use Rattle.model.specs.Answer.{asked, leasts_lent, mosts_lent}
use Rattle.model.specs.Limits.{max_frames, max_harvest}
use Rattle.model.specs.Request.{frame_count, total}
use Rattle.model.specs.Refusals.{Refusal, is_none, first_of, lent_refusals, open_limits, open_refusals, bounds_refused, out_of_reach}
use Rattle.model.proofs.First.{first_none, first_passed}
use Rattle.request.proofs.Harvest.{total_fits}
use Rattle.request.proofs.Leasts.{eleven_open}
use Rattle.request.proofs.Within.{LentWithin, lent_within, OpenWithin, open_within}
use Rattle.request.proofs.entries.check_needed.Goals as goal

-- past the two tests the lists have one length, the figures are within their limits, and all harvests together are few
pub open_store-capacity-requires : goal.open_store-capacity-requires
open_store-capacity-requires c =
    let a = c.args.request in
    let r = asked a in
    let k = frame_count r in
    let l = leasts_lent a in
    let m = mosts_lent a in
    let lent : LentWithin k l m =
    lent_within k l m (first_none (lent_refusals k l m) (ap is_none (sym c.in_ok-check_lists.ensures.refused))) in
    let limits : OpenWithin r = open_within r (first_none (open_limits r) (ap is_none (sym c.in_ok-check_open.ensures))) in
    let few : total r.harvest ≤ max_harvest * max_frames = total_fits r.harvest limits.harvest_fits lent.frames.few in
    (lent.frames.few, omega (arith, few, limits.start_small))

pub returns : goal.returns
returns c =
    let a = c.args.request in
    let r = asked a in
    first_passed (lent_refusals (frame_count r) (leasts_lent a) (mosts_lent a)) (open_limits r ++ open_refusals r)
    c.in_ok-check_lists.ensures.refused refl
    (first_passed (open_limits r) (open_refusals r) c.in_ok-check_open.ensures refl
    (c.check_bounded.ensures
    ∙ ap (λ (f : Refusal). first_of (bounds_refused 1 r.bounds ∷ out_of_reach r ∷ f ∷ []))
    (eleven_open r c.open_store-capacity.result (c.open_store-capacity.ensures))))
