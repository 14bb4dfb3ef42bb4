-- Each round writes the first of the frames' lines that are left.
use Rattle.std.proofs.Common.{length, arith, rules, ap, ◌∙◌, nat_abs, ◌+◌, [], ◌∷◌}
use Rattle.model.proofs.Machine.{back}
use Rattle.text.specs.Line.{line_of}
use Rattle.printed.specs.Text.{frame_pattern}
use Rattle.std.proofs.lemmas.List.{length_push}
use Rattle.std.proofs.lemmas.Iterator.Consumers.{YieldsList-turn, YieldsList-end}
use Rattle.text.proofs.Written.{left_less, left_none, adds_same}
use Rattle.printed.proofs.FrameLines as law
use Rattle.printed.proofs.lines.put_frames.Goals as goal

pub loop-i-preserved : goal.loop-i-preserved
loop-i-preserved c =
    let a = c.args in
    let l = c.loop-i in
    let x = c.in-Some in
    let y = law.goes_over c.into_iter-i-iterator.result a.budgets.now a.charges.now a.losses.now (search rules) in
    let t = YieldsList-turn y l.yielded _ l.yielded_by _ c.next.new.self _ c.in-Some.is c.next.ensures.steps in
    left_less l.invariant (law.items_more _ _ _ _ t (length_push l.yielded _))
    (adds_same
    (ap (λ n. line_of frame_pattern ((x.i + 1) ∷ x.field-0-1-0-0.now ∷ n ∷ x.field-0-1-1.now ∷ []))
    (c.unsigned_abs.ensures.value ∙ ap nat_abs (back x.field-0-1-0-1.now (omega arith)))) c.put_line.ensures)

pub returns : goal.returns
returns c =
    let a = c.args in
    let l = c.loop-i in
    let y = law.goes_over c.into_iter-i-iterator.result a.budgets.now a.charges.now a.losses.now (search rules) in
    let t = YieldsList-end y l.yielded _ l.yielded_by _ c.next.new.self c.in-None.is c.next.ensures.steps in
    adds_same (law.rows_are a.budgets.now a.charges.now a.losses.now)
    (left_none l.invariant
    (law.items_none (length l.yielded) (law.items a.budgets.now a.charges.now a.losses.now) (omega (arith, t.1))))
