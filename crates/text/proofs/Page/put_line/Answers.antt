-- Each round writes the figure of a gap, or the byte that stands for itself: the front of what is left of the line.
use Rattle.std.proofs.Common.{arith, ap, ◌∙◌}
use mathlib.Core.Logic.{inl, inr}
use Rattle.text.proofs.Written as law
use Rattle.text.proofs.Line as line
use Rattle.text.proofs.Page.put_line.Goals as goal
use Rattle.text.proofs.Page.put_line.Goals.{then-byte-eq35+in_default, else-byte-eq35}

pub loop-byte-preserved-in-Some : goal.loop-byte-preserved-in-Some
loop-byte-preserved-in-Some c =
    let l = c.loop-byte in
    law.left_less l.invariant
    (line.at_gap c.args.pattern.now l.left.rest.now l.byte-index (omega arith) c.in-Some.field-0.now
    c.next.new.self.rest.now c.if-byte-eq35.true c.in-Some.ensures.steps) c.put_number.ensures

pub loop-byte-preserved : goal.loop-byte-preserved
loop-byte-preserved c =
    let l = c.loop-byte in
    law.left_less l.invariant
    (line.at_byte c.args.pattern.now l.left.rest.now l.byte-index (omega arith) c.if-byte-eq35.left.rest.now
    (elim c.if-byte-eq35.branch [
      | then-byte-eq35+in_default w ↦ let h = w.in_default.ensures.steps in
          (inr h.0, ap (λ f. f.rest.now) (w.left-is ∙ h.1))
      | else-byte-eq35 w ↦ (inl w.if-byte-eq35.false, ap (λ f. f.rest.now) w.left-is)
    ])) c.put_byte.ensures

pub returns : goal.returns
returns c =
    let l = c.loop-byte in
    law.left_none l.invariant (line.at_end c.args.pattern.now l.left.rest.now l.byte-index (omega arith))
