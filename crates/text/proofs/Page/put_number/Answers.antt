-- The kit's digits are the number's, and they are put as text.
use Rattle.std.proofs.Common.{◌∙◌}
use Rattle.text.proofs.Written.{adds_same}
use Rattle.text.proofs.Decimal.{digits_are}
use Rattle.text.proofs.Page.put_number.Goals as goal

pub returns : goal.returns
returns c =
    let d = c.decimal-k in
    adds_same (d.ensures.digits ∙ digits_are c.args.n d.result d.ensures.len) c.put.ensures
