-- Refusals 9 and 11 as the code finds them, by drawing the leasts.
use Rattle.std.specs.Prelude.{not, List, [], ◌∷◌, ℕ}
use Rattle.model.specs.Refusals.{Refusal}
use Rattle.model.specs.Request.{Request}
use Rattle.model.specs.Charge.{drawable}
use Rattle.model.specs.Refusals.{refuse_if, out_of_reach}

-- of a request with leasts ls that are within its bounds
abbrev pub unreachable_by : Request → List ℕ → List Refusal
unreachable_by r ls = out_of_reach r ∷ refuse_if (not (drawable r ls)) 11 ∷ []
