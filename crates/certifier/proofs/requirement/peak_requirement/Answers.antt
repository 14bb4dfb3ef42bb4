-- One frame more, by the definition's recursion.
use Rattle.std.proofs.Common.{◌≡◌, ◌+◌, ◌-◌, ◌<◌, length, arith, refl}
use Rattle.certifier.specs.Says.{frames_in}
use Rattle.certifier.proofs.Reading.{frames_past}
use Rattle.certifier.proofs.Requires as law
use Rattle.certifier.proofs.requirement.peak_requirement.Goals as goal

pub loop-k-init : goal.loop-k-init
loop-k-init c =
    let a = c.args in
    let n = c.count-k.result in (
      omega (arith, a.frames.readable.small.end_fits),
      law.requires_end a.frames.rule.end (frames_in a.frames) a.budgets.now n
          (frames_past a.frames n (omega (arith, c.count-k.ensures))),
    )

pub loop-k-preserved : goal.loop-k-preserved
loop-k-preserved c =
    let l = c.loop-k in
    let k : l.k - 1 + 1 ≡ l.k = omega (arith, c.loop-k-test.true) in
    let here : l.k - 1 < length c.args.budgets.now = omega
    (arith, c.loop-k-test.true, l.auto.k, c.count-k.ensures, c.requires.0) in
    let f = c.at-f.ensures in (
      omega (
        arith,
        c.loop-k-test.true,
        l.auto.k,
        c.count-k.ensures,
        l.invariant.0,
        c.saturating_sub-charge.ensures,
        f.plain.drain_fits,
      ),
      rw (c.saturating_sub-charge.ensures, c.max-top.ensures, c.capacity_for.ensures)
          (law.requires_on c.args.budgets.now f here refl (rw k l.invariant.1)),
    )
