-- The rest of a shift: the request it stands for, its refusals, when it is short, and its budgets.
use Rattle.std.specs.Prelude.{◌≡◌, Bool, true, false, not, ℕ, suc, ◌+◌, ◌-◌, ◌≤◌, ℤ, pos, negsuc}
use Rattle.std.specs.Prelude.{List, [], ◌∷◌, ◌++◌, map, length, get_or, take, drop, replicate}
use Rattle.model.specs.Refusals.{Refusal}
use Rattle.model.specs.Choice.{pick}
use Rattle.model.specs.Limits.{max_frames, max_harvest, max_capacity}
use Rattle.model.specs.Request.{Request, figures, bounds_of, bounded_request, frame_count, leasts}
use Rattle.model.specs.Refusals.{first_of, is_none, wrong_length, harvest_over_limit, bounds_refused, reachable}
use Rattle.model.specs.Charge.{all_within, feasible}
use Rattle.model.specs.Trace.{trace, last_from}
use Rattle.model.specs.Reward.{IsPlan}
use Rattle.model.specs.Plan.{plan_of}
use Rattle.shift.specs.declared.Terms.{Terms}
use Rattle.shift.specs.declared.Present.{Present}
use Rattle.shift.specs.declared.Shift.{Shift}
use Rattle.shift.specs.Shift.{not_shift, all_recorded}
use Rattle.rest.specs.declared.outlook.Outlook.{Outlook as Lent}

-- what is wanted: a least and a most for each frame of the shift, recorded ones included
pub record Wanted : Type 0 where
  pub least : List ℕ
  pub most : List ℕ

-- what planning the rest goes by: a harvest for each frame of the shift, and what is wanted
pub record Outlook : Type 0 where
  pub harvest : List ℕ
  pub wanted : Wanted

-- the outlook with those harvests, leasts and mosts
abbrev pub outlook : List ℕ → List ℕ → List ℕ → Outlook
outlook hs ls ms = record { harvest = hs; wanted = record { least = ls; most = ms } }

-- the outlook that is lent
abbrev pub lent : Lent → Outlook
lent a = outlook a.harvest.now a.wanted.least.now a.wanted.most.now

-- the rest as a request: the present charge for the start charge, and only the frames not yet recorded
abbrev pub rest_of : Terms → Present → Outlook → Request
rest_of k n p =
    let i = n.recorded in
    bounded_request (figures k.capacity n.charge k.end) (drop i p.harvest) (drop i p.wanted.least)
    (drop i p.wanted.most)

abbrev pub rest_request : Shift → Outlook → Request
rest_request s p = rest_of s.terms s.now p

-- the lengths of an outlook's lists
abbrev pub lengths_of : Outlook → List ℕ
lengths_of p = length p.harvest ∷ length p.wanted.least ∷ length p.wanted.most ∷ []

-- 7 of each of them, and of lists of lengths ns that are written, of K frames
abbrev pub length_refusals : ℕ → Outlook → List ℕ → List Refusal
length_refusals k p ns = map (wrong_length k) (lengths_of p ++ ns)

-- 6 and 10 over the unrecorded frames
abbrev pub rest_over_limit : Present → List ℕ → Refusal
rest_over_limit n hs = harvest_over_limit (suc n.recorded) (drop n.recorded hs)

abbrev pub rest_bounds : Present → Wanted → Refusal
rest_bounds n w = bounds_refused (suc n.recorded) (bounds_of (drop n.recorded w.least) (drop n.recorded w.most))

-- the refusals of planning that come after 7: 20, 6 and 10
abbrev pub unrecorded_refusals : Terms → Present → Outlook → List Refusal
unrecorded_refusals k n p = all_recorded k n ∷ rest_over_limit n p.harvest ∷ rest_bounds n p.wanted ∷ []

-- all of planning but 22, with lists of lengths ns that are written
abbrev pub planning_refusals : Terms → Present → Outlook → List ℕ → List Refusal
planning_refusals k n p ns = length_refusals k.frames p ns ++ unrecorded_refusals k n p

abbrev pub rest_refusals : Shift → Outlook → List ℕ → List Refusal
rest_refusals s p ns = not_shift s ∷ planning_refusals s.terms s.now p ns

abbrev pub rest_refusal : Shift → Outlook → List ℕ → Refusal
rest_refusal s p ns = first_of (rest_refusals s p ns)

-- the refusals of returning the rest's part of b budgets
abbrev pub part_refusals : Shift → ℕ → List Refusal
part_refusals s b = not_shift s ∷ wrong_length s.terms.frames b ∷ all_recorded s.terms s.now ∷ []

abbrev pub part_refusal : Shift → ℕ → Refusal
part_refusal s b = first_of (part_refusals s b)

-- the budgets of the frames not yet recorded
abbrev pub part_of : Shift → List ℕ → List ℕ
part_of s b = drop s.now.recorded b

-- how a planning not refused ends: short or not, and the missing amount, 0 if not short
pub record Ending : Type 0 where
  pub short : Bool
  pub missing : ℕ

-- no shortness to tell of
abbrev pub not_short : Ending
not_short = record { short = false; missing = 0 }

-- budget 0 for each frame
abbrev pub zeros : Request → List ℕ
zeros q = replicate (frame_count q) 0

-- what a charge misses of the end charge e, 0 if it misses nothing
abbrev pub missing_to : ℕ → ℤ → ℕ
missing_to e (pos x) = e - x
missing_to e (negsuc n) = e + suc n

-- what the end charge misses with budgets 0, which may be nothing
abbrev pub missing_with_zeros : Request → ℕ
missing_with_zeros q = missing_to q.figures.end (last_from (pos q.figures.start) (trace q (zeros q)))

-- short: by refusal 9 or 11 the rest cannot be served; missing is what budgets 0 miss
abbrev pub ending_of : Request → Ending
ending_of q =
    record { short = not (reachable q); missing = pick (reachable q) 0 (missing_with_zeros q) }

-- the budgets of the rest: its plan, or zeros when short
abbrev pub rest_budgets : Request → List ℕ
rest_budgets q = pick (ending_of q).short (zeros q) (plan_of q)

-- what writing them asks: figures and harvests within their limits, and leasts within the bounds
pub record Fillable (q : Request) : Type 0 where
  pub capacity_low : q.figures.capacity ≤ max_capacity
  pub start_low : q.figures.start ≤ q.figures.capacity
  pub end_low : q.figures.end ≤ q.figures.capacity
  pub few : frame_count q ≤ max_frames
  pub small : (i : ℕ) → get_or q.harvest i 0 ≤ max_harvest
  pub leasts_within : all_within q.bounds (leasts q) ≡ true

-- a budget list after planning: budgets bs from place n on, earlier entries kept
abbrev pub written_from : ℕ → List ℕ → List ℕ → List ℕ
written_from n b bs = take n b ++ bs

-- budgets b with those of the rest from the next frame on
abbrev pub replanned : Terms → Present → Outlook → List ℕ → List ℕ
replanned k n p b = written_from n.recorded b (rest_budgets (rest_of k n p))

-- what a planning means that has refusal f, n frames recorded and rest q, and makes budgets b' of b
pub record RestMeans (f : Refusal) (n : ℕ) (q : Request) (b b' : List ℕ) : Type 0 where
  -- the list keeps its length, and the recorded frames their budgets
  pub length_kept : length b' ≡ length b
  pub recorded_kept : take n b' ≡ take n b
  -- not short: the budgets from the next frame on are the plan of the rest
  pub plan : is_none f ≡ true → (ending_of q).short ≡ false → IsPlan q (drop n b')
  -- short: no assignment of the rest is feasible
  pub none_feasible : is_none f ≡ true → (ending_of q).short ≡ true → (bs : List ℕ) → feasible q bs ≡ false
