-- Where no bounds are bad, refusal 10 is none.
use Rattle.std.proofs.Common.{rules, tests, ◌∙◌, sym, true, not}
use Rattle.std.proofs.lemmas.Iterator.{YieldsList-from_slice, YieldsList-from_zip}
use Rattle.std.proofs.lemmas.Iterator.Consumers.{fold_from_yields_List}
use Rattle.request.proofs.BadBounds.{bad_looked, bad_pair}
use Rattle.request.proofs.Look.{look}
use Rattle.request.proofs.bounds.all_good.Goals as goal

pub returns : goal.returns
returns c e =
    bad_looked c.args.least.now c.args.most.now
    (sym (fold_from_yields_List _ (look (λ p. not (bad_pair p))) true c.fold.result c.fold.ensures.ran
    (YieldsList-from_zip (YieldsList-from_slice c.args.least.now cc) (YieldsList-from_slice c.args.most.now cc))
    (λ a x b q k. search (rules, tests))) ∙ e)
