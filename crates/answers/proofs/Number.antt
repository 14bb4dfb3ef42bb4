-- What the number in an answer to C says: it is that of the entry's first refusal, 0 exactly where nothing is refused.
use mathlib.Core.Path.{◌≡◌, refl, sym, ap, ◌∙◌}
use mathlib.Core.Bool.{Bool, true, false}
use borrow.Author.Tests.{eq-eqb, eqb-true}
use Rattle.model.specs.Refusals.{Refusal}
use Rattle.model.specs.Choice.{pick}
use Rattle.model.specs.Refusals.{Outcome, gives, refuses, outcome, is_none}
use Rattle.answers.specs.Flat.{refusal_of}

module _ {A : Type 0} (f : Refusal) (v : A) (o : Outcome A) (is : o ≡ outcome f v) where
  pub number_is : (refusal_of o).number ≡ f.number
  number_is = ap (λ (x : Outcome A). (refusal_of x).number) is ∙ by (is_none f) refl
    where
      by : (t : Bool) → is_none f ≡ t → (refusal_of (pick t (gives v) (refuses f))).number ≡ f.number
      by true e = sym (eqb-true f.number 0 e)
      by false e = refl

  -- number 0: nothing is refused, and what the entry promises of that case holds
  pub accepted : (refusal_of o).number ≡ 0 → is_none f ≡ true
  accepted k = eq-eqb f.number 0 (sym number_is ∙ k)
