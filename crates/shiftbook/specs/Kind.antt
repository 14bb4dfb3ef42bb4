-- A kind of call: what comes back from it, what its entry promises, and what the logbook gives for it. Demand 3
-- speaks of kinds only.
use Rattle.std.specs.Prelude.{Bool, false, List, ℕ, eqb}
use Rattle.model.specs.Refusals.{Outcome, gives, refuses}
use Rattle.shiftbook.specs.Logbook.{Logbook, State}
use Rattle.shiftbook.specs.Value.{Value}

-- what a call tells: a value or a refusal with its P, and each lent list that it may write, as it is afterwards
pub record Told : Type 0 where
  pub answer : Outcome Value
  pub lists : List (List ℕ)

-- an outcome as one of these
abbrev pub valued : {A : Type 0} → (A → Value) → Outcome A → Outcome Value
valued f (gives v) = gives (f v)
valued f (refuses r) = refuses r

abbrev pub tells : {A : Type 0} → (A → Value) → Outcome A → List (List ℕ) → Told
tells f o ls = record { answer = valued f o; lists = ls }

-- whether an outcome is refusal n
abbrev pub is_number : {A : Type 0} → ℕ → Outcome A → Bool
is_number n (gives v) = false
is_number n (refuses f) = eqb f.number n

pub record Kind : Type 1 where
  -- what comes back
  pub Answer : Type 0
  -- the public promise of the entry that is called
  pub Says : State → Answer → Type 0
  -- what the caller holds afterwards
  pub leaves : State → Answer → State
  -- what the answer tells, and what the logbook gives
  pub told : Answer → Told
  pub due : Logbook → Told
  -- the logbook afterwards
  pub logged : Logbook → Logbook
  -- what the answer means by the logbook, where that is more than it tells
  pub Means : Logbook → Answer → Type 0
