-- What a call not refused gives: a shift, or how a planning ended.
use Rattle.shift.specs.declared.Shift.{Shift}
use Rattle.rest.specs.Rest.{Ending}

pub data Value : Type 0 where
  shift : Shift → Value
  ending : Ending → Value
