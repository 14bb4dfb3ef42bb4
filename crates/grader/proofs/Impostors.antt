-- A refusal of everything is no answer of grading.
use mathlib.Core.List.{List}
use Prim.Native.Nat.{ℕ, ◌≤◌, ◌<◌}
use native.Mathlib.Omega.{arith}
use lib.ListN.{length}
use borrow.Author.Tests.{ne_eqb, le-ltb}
use Rattle.std.proofs.Common.{Err}
use Rattle.model.specs.declared.refusal.Refusal.{Refusal as Given}
use Rattle.model.specs.Answer.{told}
use Rattle.model.specs.Limits.{max_frames}
use Rattle.model.specs.Refusals.{grade_refusal}
use Rattle.model.proofs.Outcome.{no_refusal}
use Rattle.grader.specs.Says.{GradeSays, sums_of}

-- no refusal of a list of budgets that is not empty and within the most frames
pub not_refused : (bs : List ℕ) (e : Given) → 0 < length bs → length bs ≤ max_frames → GradeSays bs (Err e) → ⊥
not_refused bs e some few p =
    no_refusal (grade_refusal (length bs)) (sums_of bs)
    (rw (ne_eqb (length bs) 0 (λ z. omega arith), le-ltb max_frames (length bs) few)) (told e) p.answer
