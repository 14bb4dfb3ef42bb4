-- Where no harvest is over the limit, refusal 6 is none.
use Rattle.std.proofs.Common.{rules, tests, ◌∙◌, sym, true, nat_le}
use Rattle.std.proofs.lemmas.Iterator.{YieldsList-from_slice}
use Rattle.std.proofs.lemmas.Iterator.Consumers.{fold_from_yields_List}
use Rattle.model.specs.Limits.{max_harvest}
use Rattle.request.proofs.Harvest.{over_looked}
use Rattle.request.proofs.Look.{look}
use Rattle.request.proofs.figures.all_within.Goals as goal

pub returns : goal.returns
returns c e =
    over_looked c.args.harvest.now
    (sym (fold_from_yields_List _ (look (λ x. nat_le x max_harvest)) true c.fold.result c.fold.ensures.ran
    (YieldsList-from_slice c.args.harvest.now cc) (λ a x b q k. search (rules, tests))) ∙ e)
