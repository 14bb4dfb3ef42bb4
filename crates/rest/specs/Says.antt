-- What planning the rest and returning its part promise: the answer and every lent list by an equation, then what the
-- answer means.
use Rattle.std.specs.Prelude.{◌≡◌, true, List, [], ◌∷◌, ◌++◌, ℕ, ◌+◌, ◌*◌, ◌<◌, length, take, Result, Ok, Err}
use Rattle.std.specs.Borrow.{Bor}
use Rattle.model.specs.Choice.{pick}
use Rattle.model.specs.Refusals.{Refusal, none, Outcome, gives, refuses, outcome, is_none}
use Rattle.model.specs.declared.refusal.Refusal.{Refusal as Given}
use Rattle.model.specs.Answer.{told}
use Rattle.shift.specs.declared.Shift.{Shift}
use Rattle.rest.specs.declared.Rest.{Rest}
use Rattle.rest.specs.declared.Rest.TheVariants as rest
use Rattle.rest.specs.Rest.{Outlook, Ending, not_short, ending_of, rest_request, rest_refusal}
use Rattle.rest.specs.Rest.{part_refusal, part_of, replanned, RestMeans}

-- how a planning not refused ended
abbrev pub ended : Rest → Ending
ended rest.Planned = not_short
ended (rest.Short m) = record { short = true; missing = m }

-- what planning's answer says in document 01's terms: a refusal, or how the planning ended
abbrev pub rest_said : Result Rest Given → Outcome Ending
rest_said (Ok a) = gives (ended a)
rest_said (Err e) = refuses (told e)

-- planning the rest by that outlook: budgets b before, b' after
pub record RestSays (s : Shift) (p : Outlook) (b b' : List ℕ) (a : Result Rest Given) : Type 0 where
  -- planned, short with the missing amount, or the first refusal
  pub answer : rest_said a ≡ outcome (rest_refusal s p (length b ∷ [])) (ending_of (rest_request s p))
  -- the rest's budgets from the next frame on, earlier entries kept; after a refusal all of them
  pub budgets : b' ≡ pick (is_none (rest_refusal s p (length b ∷ []))) (replanned s.terms s.now p b) b
  -- planned: the plan of the rest; short: nothing is feasible
  pub means : RestMeans (rest_refusal s p (length b ∷ [])) s.now.recorded (rest_request s p) b b'

-- the part of budgets b that begins at the next frame: its contents, its position from the lent list's, and number
-- and P of the refusal
pub record PartSays (s : Shift) (b part : List ℕ) (at part_at : ℕ × ℕ) (number p : ℕ) : Type 0 where
  -- the first refusal, or 0
  pub number_is : number ≡ (part_refusal s (length b)).number
  pub p_is : p ≡ 0
  -- the budgets of the frames not yet recorded; nothing when refused
  pub contents : part ≡ pick (is_none (part_refusal s (length b))) (part_of s b) []
  -- it lies in the lent list's own memory, four bytes for each recorded frame further on; when refused, at its
  -- beginning
  pub block : part_at.0 ≡ at.0
  pub offset : part_at.1 ≡ at.1 + 4 * pick (is_none (part_refusal s (length b))) s.now.recorded 0
  -- what comes before the part and the part make up the lent list, and there is a frame to come
  pub rest :
      is_none (part_refusal s (length b)) ≡ true → (take s.now.recorded b ++ part ≡ b) × (0 < length part)

-- a part of a list, as its contents and its position in memory, and the refusal
pub record Part : Type 0 where
  pub contents : List ℕ
  pub at : ℕ × ℕ
  pub refusal : Refusal

-- the part that is returned; beside a refusal the empty part at the beginning of the list, which lies at that position
abbrev pub part_as : ℕ × ℕ → Result (Bor (List ℕ)) Given → Part
part_as at (Ok r) = record { contents = r.now; at = r.ref_ptr; refusal = none }
part_as at (Err e) = record { contents = []; at = at; refusal = told e }

-- the promise of a part, with budgets b lent at that position
abbrev pub PartIs : Shift → List ℕ → ℕ × ℕ → Part → Type 0
PartIs s b at x = PartSays s b x.contents at x.at x.refusal.number x.refusal.p
