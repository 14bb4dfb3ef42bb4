-- Leasts that are all 0.
use Rattle.std.proofs.Common.{rules, tests, ◌∙◌, sym, true, nat_eq}
use Rattle.std.proofs.lemmas.Iterator.{YieldsList-from_slice}
use Rattle.std.proofs.lemmas.Iterator.Consumers.{fold_from_yields_List}
use Rattle.request.proofs.Look.{look, by_zeros}
use Rattle.request.proofs.reach.none_has_least.Goals as goal

pub returns : goal.returns
returns c e =
    by_zeros true c.args.least.now
    (sym (fold_from_yields_List _ (look (λ x. nat_eq x 0)) true c.fold.result c.fold.ensures.ran
    (YieldsList-from_slice c.args.least.now cc) (λ a x b q k. search (rules, tests))) ∙ e)
