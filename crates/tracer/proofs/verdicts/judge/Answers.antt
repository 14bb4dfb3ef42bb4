-- The place that `position` answers is that of the earliest charge below zero before the last; where there is none, the
-- test of the last charge is the definition's.
use Rattle.std.proofs.Common.{rules, tests, arith, true, false, length, take, ◌-◌, ◌+◌, ◌∙◌}
use Rattle.std.proofs.lemmas.Iterator.{YieldsList-from_slice}
use Rattle.std.proofs.lemmas.Iterator.Search.{position_from_yields_List}
use Rattle.std.proofs.lemmas.Iterator.Adapters.{position_from-zero}
use Rattle.tracer.proofs.Search as law
use Rattle.tracer.proofs.verdicts.judge.Goals as goal

pub returns-in-Some : goal.returns-in-Some
returns-in-Some c =
    let zs = c.args.charges.now in
    let n = length zs - 1 - 0 in
    let k = law.below_place n zs (omega arith) c.in-Some.is
    (position_from_yields_List law.is_below _ _ _ c.position.ensures.ran (YieldsList-from_slice (take n zs) c.iter.ensures.rest)
    (λ x b q k. search (rules, tests))
    ∙ position_from-zero law.is_below (take n zs)) in
    law.judged_below c.args.figures zs (c.in-Some.i + 1) (omega arith) (omega arith)

pub returns-in-None : goal.returns-in-None
returns-in-None c =
    let zs = c.args.charges.now in
    let n = length zs - 1 - 0 in
    let k = law.below_place n zs (omega arith) c.in-None.is
    (position_from_yields_List law.is_below _ _ _ c.position.ensures.ran (YieldsList-from_slice (take n zs) c.iter.ensures.rest)
    (λ x b q k. search (rules, tests))
    ∙ position_from-zero law.is_below (take n zs)) in
    law.judged_end c.args.figures (length zs - 1) zs (omega arith) (omega arith) (omega arith) (omega arith) true
    c.if-figures-charges.true

pub returns-in-None-2 : goal.returns-in-None-2
returns-in-None-2 c =
    let zs = c.args.charges.now in
    let n = length zs - 1 - 0 in
    let k = law.below_place n zs (omega arith) c.in-None-2.is
    (position_from_yields_List law.is_below _ _ _ c.position.ensures.ran (YieldsList-from_slice (take n zs) c.iter.ensures.rest)
    (λ x b q k. search (rules, tests))
    ∙ position_from-zero law.is_below (take n zs)) in
    law.judged_end c.args.figures (length zs - 1) zs (omega arith) (omega arith) (omega arith) (omega arith) false
    c.if-figures-charges.false
