-- The promise of grading, refused and not.
use mathlib.Core.Path.{◌≡◌, ap, ◌∙◌}
use mathlib.Core.List.{List}
use Prim.Native.Nat.{ℕ}
use lib.IntN.{pos}
use lib.ListN.{length}
use Rattle.std.proofs.Common.{Ok, Err}
use Rattle.model.specs.declared.refusal.Refusal.{Refusal as Given}
use Rattle.model.specs.Answer.{told}
use Rattle.model.proofs.Answer.{said_value, said_refusal}
use Rattle.model.specs.Refusals.{none, gives, grade_refusal}
use Rattle.model.specs.Curves.{house_curve, grade}
use Rattle.model.proofs.Curves.{house_qualifies, earned_grade}
use Rattle.model.proofs.Choice.{apart}
use Rattle.grader.specs.declared.Sums.{Sums}
use Rattle.grader.specs.Says.{sums_of, GradeSays}

-- a refusal is answered
pub refused : (bs : List ℕ) (e : Given) → told e ≡ grade_refusal (length bs) → GradeSays bs (Err e)
refused bs e p =
    record {
      answer = said_refusal e (sums_of bs) p;
      qualifies = house_qualifies;
      earns0 = λ s h. apart (cc);
      earns1 = λ s h. apart (cc);
      earns2 = λ s h. apart (cc);
    }

-- three numbers that are the sums on the three curves
pub sums_are : (bs : List ℕ) (x y z : ℕ) → x ≡ grade (house_curve 0) bs → y ≡ grade (house_curve 1) bs →
    z ≡ grade (house_curve 2) bs
    → ◌≡◌ {A = Sums} (record { curve0 = x; curve1 = y; curve2 = z }) (sums_of bs)
sums_are bs x y z p q r = rw (p, q, r)

-- the sums are what the budgets earn
pub graded : (bs : List ℕ) (s : Sums) → none ≡ grade_refusal (length bs) → s ≡ sums_of bs → GradeSays bs (Ok s)
graded bs s n p =
    record {
      answer = ap gives p ∙ said_value (sums_of bs) n;
      qualifies = house_qualifies;
      earns0 = λ t h. let e : sums_of bs ≡ t = cc in earned_grade (house_curve 0) bs
          ∙ ap (λ (u : Sums). pos u.curve0) e;
      earns1 = λ t h. let e : sums_of bs ≡ t = cc in earned_grade (house_curve 1) bs
          ∙ ap (λ (u : Sums). pos u.curve1) e;
      earns2 = λ t h. let e : sums_of bs ≡ t = cc in earned_grade (house_curve 2) bs
          ∙ ap (λ (u : Sums). pos u.curve2) e;
    }
