-- The library's sum is the definition's, and 2^31 numbers below 2^32 add up below 2^63.
use Rattle.std.proofs.Common.{rules, ◌≡◌, ◌∙◌, ◌^◌, sum, arith}
use Rattle.request.proofs.Harvest.{total_is_sum, total_below}
use Rattle.request.proofs.sums.sum.Goals as goal

pub returns-clause-is : goal.returns-clause-is
returns-clause-is c =
    let e : c.sum.result ≡ sum c.args.list.now = search rules in
    e ∙ total_is_sum c.args.list.now

pub returns-clause-below : goal.returns-clause-below
returns-clause-below c =
    let e : c.sum.result ≡ sum c.args.list.now = search rules in
    let l = total_below (2 ^ 32) c.args.list.now (λ i. (c.type_inv.list i).fits) in
    let s = total_is_sum c.args.list.now in
    omega (arith, c.requires)
