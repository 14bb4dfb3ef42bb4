-- The plan without limit is within the planning core's limits; with start and end, what it asks for is the definition.
use Rattle.std.proofs.Common.{ap, ◌∙◌, max}
use Rattle.model.specs.Answer.{asked, leasts_lent, mosts_lent}
use Rattle.request.proofs.Within.{needed_within}
use Rattle.planner.proofs.Entries as law
use Rattle.planner.proofs.needed.needed_capacity.Goals as goal

pub open-requires : goal.open-requires
open-requires c =
    let a = c.args.request in
    law.needed_ready a (needed_within (asked a) (leasts_lent a) (mosts_lent a) c.requires)

pub returns : goal.returns
returns c =
    let a = c.args.request in
    c.max-2.ensures
    ∙ (ap (max a.figures.start) c.max.ensures
    ∙ law.needed_found (asked a) c.peak-peak.result
    (rw (c.open.ensures.0, c.open.ensures.1, c.open.ensures.2) at c.peak-peak.ensures))
