-- Where 9 does not hold and no frame has a least, the end charge is reached, so that 11 does not hold either.
use Rattle.std.proofs.Common.{ap, sym, refl}
use Rattle.model.specs.Refusals.{is_none}
use Rattle.model.specs.Answer.{asked}
use Rattle.request.proofs.Leasts.{no_leasts}
use Rattle.request.proofs.reach.check_reachable.Goals as goal

pub returns-then-none_has_least : goal.returns-then-none_has_least
returns-then-none_has_least c =
    no_leasts (asked c.args.whole.request) c.args.whole.request.lists.least.now c.args.whole.one_each.0 c.if-figures.true
    (c.if-none_has_least.ensures refl) (ap is_none (sym c.in_ok-check_reach.ensures))
