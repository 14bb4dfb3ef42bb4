-- Refusal 10 comes first; past it the leasts are within the bounds, so that drawing them decides 9 and 11.
use Rattle.std.proofs.Common.{refl, sym, ap, ◌∙◌, [], ◌∷◌}
use Rattle.model.specs.Answer.{asked}
use Rattle.model.specs.Refusals.{is_none, bounds_refused, out_of_reach, leasts_refused}
use Rattle.model.proofs.First.{first_passed, first_last}
use Rattle.request.proofs.BadBounds.{bounds_none}
use Rattle.request.proofs.Leasts as law
use Rattle.request.proofs.reach.check_bounded.Goals as goal

pub returns : goal.returns
returns c =
    let a = c.args.whole.request in
    let l = a.lists in
    let r = asked a in
    first_passed (bounds_refused 1 r.bounds ∷ []) (out_of_reach r ∷ leasts_refused r ∷ [])
    (first_last c.in_ok-check_bounds.ensures (bounds_none 1 r.bounds))
    refl
    (c.check_reachable.ensures
    ∙ law.unreachable_is a.figures l.harvest.now l.least.now l.most.now c.args.whole.one_each.0 c.args.whole.one_each.1
    (law.leasts_in_lem 1 l.least.now l.most.now (ap is_none (sym c.in_ok-check_bounds.ensures))))
