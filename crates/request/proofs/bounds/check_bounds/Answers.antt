-- The place that `position` answers is that of the first bad bounds.
use Rattle.std.proofs.Common.{rules, tests, ◌∙◌}
use Rattle.std.specs.List.{zip}
use Rattle.std.proofs.lemmas.Iterator.{YieldsList-from_slice, YieldsList-from_zip}
use Rattle.std.proofs.lemmas.Iterator.Search.{position_from_yields_List}
use Rattle.std.proofs.lemmas.Iterator.Adapters.{position_from-zero}
use Rattle.request.proofs.BadBounds.{bad_pair, bad_place}
use Rattle.request.proofs.bounds.check_bounds.Goals as goal

pub returns-in-Some : goal.returns-in-Some
returns-in-Some c = bad_place c.args.first c.args.whole.request.lists.least.now
    c.args.whole.request.lists.most.now c.in-Some.is
    (position_from_yields_List bad_pair c.position.new.self _ _ c.position.ensures.ran
    (YieldsList-from_zip (YieldsList-from_slice c.args.whole.request.lists.least.now cc)
    (YieldsList-from_slice c.args.whole.request.lists.most.now cc))
    (λ x b q k. search (rules, tests))
    ∙ position_from-zero bad_pair (zip c.args.whole.request.lists.least.now c.args.whole.request.lists.most.now))

pub returns-in-None : goal.returns-in-None
returns-in-None c = bad_place c.args.first c.args.whole.request.lists.least.now
    c.args.whole.request.lists.most.now c.in-None.is
    (position_from_yields_List bad_pair c.position.new.self _ _ c.position.ensures.ran
    (YieldsList-from_zip (YieldsList-from_slice c.args.whole.request.lists.least.now cc)
    (YieldsList-from_slice c.args.whole.request.lists.most.now cc))
    (λ x b q k. search (rules, tests))
    ∙ position_from-zero bad_pair (zip c.args.whole.request.lists.least.now c.args.whole.request.lists.most.now))
