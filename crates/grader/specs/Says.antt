-- What grading promises: the sums of the budgets on the three house curves, or refusal 1 or 2.
use Rattle.std.specs.Prelude.{◌≡◌, List, ℕ, ℤ, pos, length, Result, Ok}
use Rattle.model.specs.Refusals.{outcome, grade_refusal}
use Rattle.model.specs.Reward.{Qualifies, earned}
use Rattle.model.specs.Curves.{house_curve, worth, grade}
use Rattle.grader.specs.declared.Sums.{Sums}
use Rattle.model.specs.declared.refusal.Refusal.{Refusal as Given}
use Rattle.model.specs.Answer.{said}

-- the sums of a list of budgets
abbrev pub sums_of : List ℕ → Sums
sums_of bs = record {
  curve0 = grade (house_curve 0) bs;
  curve1 = grade (house_curve 1) bs;
  curve2 =
      grade (house_curve 2) bs;
}

-- a house curve as a reward table
abbrev pub house_table : ℕ → ℕ → ℤ
house_table c n = pos (worth (house_curve c) n)

-- bs the budgets, r the answer
pub record GradeSays (bs : List ℕ) (r : Result Sums Given) : Type 0 where
  pub answer : said r ≡ outcome (grade_refusal (length bs)) (sums_of bs)
  -- each curve qualifies over any range, and each sum is what the budgets earn by it
  pub qualifies : (c most : ℕ) → Qualifies (house_table c) most
  pub earns0 : (s : Sums) → r ≡ Ok s → earned (house_table 0) bs ≡ pos s.curve0
  pub earns1 : (s : Sums) → r ≡ Ok s → earned (house_table 1) bs ≡ pos s.curve1
  pub earns2 : (s : Sums) → r ≡ Ok s → earned (house_table 2) bs ≡ pos s.curve2
