-- The place that `position` answers is that of the first harvest over the limit.
use Rattle.std.proofs.Common.{rules, tests, ◌∙◌, ltb}
use Rattle.std.proofs.lemmas.Iterator.{YieldsList-from_slice}
use Rattle.std.proofs.lemmas.Iterator.Search.{position_from_yields_List}
use Rattle.std.proofs.lemmas.Iterator.Adapters.{position_from-zero}
use Rattle.model.specs.Limits.{max_harvest}
use Rattle.request.proofs.Harvest.{over_place}
use Rattle.request.proofs.figures.check_harvest.Goals as goal

pub returns-in-Some : goal.returns-in-Some
returns-in-Some c = over_place c.args.first c.args.harvest.now c.in-Some.is
    (position_from_yields_List (ltb max_harvest) _ _ _ c.position.ensures.ran
    (YieldsList-from_slice c.args.harvest.now cc) (λ x b q k. search (rules, tests))
    ∙ position_from-zero (ltb max_harvest) c.args.harvest.now)

pub returns-in-None : goal.returns-in-None
returns-in-None c = over_place c.args.first c.args.harvest.now c.in-None.is
    (position_from_yields_List (ltb max_harvest) _ _ _ c.position.ensures.ran
    (YieldsList-from_slice c.args.harvest.now cc) (λ x b q k. search (rules, tests))
    ∙ position_from-zero (ltb max_harvest) c.args.harvest.now)
