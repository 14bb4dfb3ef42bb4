-- The parts are those of the request's plan, and their lines are written one behind the other.
use Rattle.model.specs.Answer.{asked, leasts_lent, mosts_lent}
use Rattle.std.proofs.Common.{[], ◌∷◌, length}
use Rattle.text.proofs.Written.{adds_same, adds_then}
use Rattle.listing.proofs.Parts as law
use Rattle.listing.proofs.listings.put_plan.Goals as goal

pub needed_capacity-needed-requires : goal.needed_capacity-needed-requires
needed_capacity-needed-requires c =
    let a = c.args in
    let r = a.request in
    let ns = length a.budgets.now ∷ [] in
    (law.accepted (asked r) (leasts_lent r) (mosts_lent r) ns c.requires.not_refused).needed

pub returns : goal.returns
returns c =
    let a = c.args in
    let r = a.request in
    let ns = length a.budgets.now ∷ [] in
    let w = law.accepted (asked r) (leasts_lent r) (mosts_lent r) ns c.requires.not_refused in
    let f = c.fill in
    adds_same
    (law.shown_is (asked r) (leasts_lent r) (mosts_lent r) w c.write_plan.new.budgets c.write_plan.ensures
    f.new.charges f.new.losses (f.ensures.charges_after, f.ensures.losses_after)
    c.needed_capacity-needed.result c.sums_of-sums.result
    c.needed_capacity-needed.ensures c.sums_of-sums.ensures)
    (adds_then c.put_first.ensures (adds_then c.put_frames.ensures c.put_worth.ensures))
