-- Refusals 1 to 7 and 9 to 11, each with its P. An entry has a list of them, in its order; the first that holds is
-- given.
use Rattle.std.specs.Prelude.{◌≡◌, Bool, true, false, not, ◌&&◌, ◌||◌, List, [], ◌∷◌, ◌++◌, map, ℕ, suc, ◌-◌, eqb, ltb}
use Rattle.model.specs.Choice.{pick}
use Rattle.model.specs.Limits.{max_frames, max_harvest, max_capacity, max_bound, no_upper_end}
use Rattle.model.specs.declared.Figures.{Figures}
use Rattle.model.specs.Request.{Bounds, Request, frame_count, most_energy, due, leasts}
use Rattle.model.specs.Charge.{feasible, feasible_unlimited}

-- a refusal: document 01's number and its P
pub record Refusal : Type 0 where
  pub number : ℕ
  pub p : ℕ

-- refusal number n with its P
abbrev pub refusal : ℕ → ℕ → Refusal
refusal n p = record { number = n; p = p }

-- no refusal: number 0
abbrev pub none : Refusal
none = refusal 0 0

abbrev pub is_none : Refusal → Bool
is_none f = eqb f.number 0

-- refusal n with P 0, if the test holds
abbrev pub refuse_if : Bool → ℕ → Refusal
refuse_if b n = pick b (refusal n 0) none

-- the first refusal of a list
abbrev pub first_of : List Refusal → Refusal
first_of [] = none
first_of (f ∷ fs) = pick (is_none f) (first_of fs) f

-- no refusal of a list holds: then, and only then, the first is none (proofs/First.antt)
abbrev pub AllNone : List Refusal → Type 0
AllNone [] = Unit {0}
AllNone (f ∷ fs) = (is_none f ≡ true) × AllNone fs

-- 1: no frames
abbrev pub no_frames : ℕ → Refusal
no_frames k = refuse_if (eqb k 0) 1

-- 2: too many frames
abbrev pub too_many_frames : ℕ → Refusal
too_many_frames k = refuse_if (ltb max_frames k) 2

-- 7: a lent list whose length n is not K
abbrev pub wrong_length : ℕ → ℕ → Refusal
wrong_length k n = refuse_if (not (eqb n k)) 7

-- 3: a figure above the largest capacity
abbrev pub over_capacity_limit : ℕ → Refusal
over_capacity_limit c = refuse_if (ltb max_capacity c) 3

-- 4: start above capacity
abbrev pub start_above_capacity : Figures → Refusal
start_above_capacity f = refuse_if (ltb f.capacity f.start) 4

-- 5: end above capacity
abbrev pub end_above_capacity : Figures → Refusal
end_above_capacity f = refuse_if (ltb f.capacity f.end) 5

-- 6: a harvest above its limit; P is the earliest such frame, the first of the list being frame k
abbrev pub harvest_over_limit : ℕ → List ℕ → Refusal
harvest_over_limit k [] = none
harvest_over_limit k (h ∷ hs) = elim (ltb max_harvest h) [ true ↦ refusal 6 k | false ↦ harvest_over_limit (suc k) hs ]

-- bounds that no frame may have: a least above its most, a least above its limit, or a most above it that is not "no
-- upper end"
abbrev pub bad_bounds : Bounds → Bool
bad_bounds w =
    ltb w.most w.least
    || (ltb max_bound w.least || (ltb max_bound w.most && not (eqb w.most no_upper_end)))

-- 10: such bounds; P is the earliest such frame, the first of the list being frame k
abbrev pub bounds_refused : ℕ → List Bounds → Refusal
bounds_refused k [] = none
bounds_refused k (w ∷ ws) = elim (bad_bounds w) [ true ↦ refusal 10 k | false ↦ bounds_refused (suc k) ws ]

-- 9: start plus all harvest is below what has to be there; P is the amount missing
abbrev pub out_of_reach : Request → Refusal
out_of_reach r = pick (ltb (most_energy r) (due r)) (refusal 9 (due r - most_energy r)) none

-- 11: the leasts taken as budgets are not feasible, with the capacity or with unlimited storage
abbrev pub leasts_refused : Request → Refusal
leasts_refused r = refuse_if (not (feasible r (leasts r))) 11

abbrev pub leasts_refused_unlimited : Request → Refusal
leasts_refused_unlimited r = refuse_if (not (feasible_unlimited r (leasts r))) 11

-- neither 9 nor 11: then, and only then, something is feasible (Demands.antt)
abbrev pub reachable : Request → Bool
reachable r = is_none (first_of (out_of_reach r ∷ leasts_refused r ∷ []))

abbrev pub reachable_unlimited : Request → Bool
reachable_unlimited r = is_none (first_of (out_of_reach r ∷ leasts_refused_unlimited r ∷ []))

-- a refusal by which nothing is feasible
abbrev pub is_unreachable : Refusal → Bool
is_unreachable f = eqb f.number 9 || eqb f.number 11

-- of a number of frames
abbrev pub frames_refusals : ℕ → List Refusal
frames_refusals k = no_frames k ∷ too_many_frames k ∷ []

-- of a request's figures and harvests
abbrev pub figure_refusals : Request → List Refusal
figure_refusals r =
    over_capacity_limit r.figures.capacity
    ∷ start_above_capacity r.figures
    ∷ end_above_capacity r.figures
    ∷ harvest_over_limit 1 r.harvest
    ∷ []

-- of a number of frames with lists of l leasts and m mosts
abbrev pub lent_refusals : ℕ → ℕ → ℕ → List Refusal
lent_refusals k l m = frames_refusals k ++ (wrong_length k l ∷ wrong_length k m ∷ [])

-- of a request's bounds and reach
abbrev pub bound_refusals : Request → List Refusal
bound_refusals r = bounds_refused 1 r.bounds ∷ out_of_reach r ∷ leasts_refused r ∷ []

-- of a request that is to be served
abbrev pub served_refusals : Request → List Refusal
served_refusals r = figure_refusals r ++ bound_refusals r

-- of planning, with lists of l leasts and m mosts, and lists of lengths ns that are written
abbrev pub plan_refusals : Request → ℕ → ℕ → List ℕ → List Refusal
plan_refusals r l m ns =
    let k = frame_count r in lent_refusals k l m ++ (map (wrong_length k) ns ++ served_refusals r)

abbrev pub plan_refusal : Request → ℕ → ℕ → List ℕ → Refusal
plan_refusal r l m ns = first_of (plan_refusals r l m ns)

-- of planning a request, all lists having an entry for each frame
abbrev pub whole_plan_refusal : Request → Refusal
whole_plan_refusal r = let k = frame_count r in plan_refusal r k k (k ∷ [])

-- of the needed capacity, in which the capacity plays no part: 3 is for start and end, 11 without limit
abbrev pub open_limits : Request → List Refusal
open_limits r =
    over_capacity_limit r.figures.start ∷ over_capacity_limit r.figures.end ∷ harvest_over_limit 1 r.harvest ∷ []

abbrev pub open_refusals : Request → List Refusal
open_refusals r = bounds_refused 1 r.bounds ∷ out_of_reach r ∷ leasts_refused_unlimited r ∷ []

abbrev pub needed_refusals : Request → ℕ → ℕ → List Refusal
needed_refusals r l m = lent_refusals (frame_count r) l m ++ (open_limits r ++ open_refusals r)

abbrev pub needed_refusal : Request → ℕ → ℕ → Refusal
needed_refusal r l m = first_of (needed_refusals r l m)

-- of tracing, with lists of n budgets, m charges and l losses
abbrev pub trace_refusals : Request → ℕ → ℕ → ℕ → List Refusal
trace_refusals r n m l =
    let k = frame_count r in
    frames_refusals k ++ (wrong_length k n ∷ wrong_length k m ∷ wrong_length k l ∷ figure_refusals r)

abbrev pub trace_refusal : Request → ℕ → ℕ → ℕ → Refusal
trace_refusal r n m l = first_of (trace_refusals r n m l)

-- of grading a list of k budgets
abbrev pub grade_refusal : ℕ → Refusal
grade_refusal k = first_of (frames_refusals k)

-- of starting a shift, with lists of l leasts and m mosts
abbrev pub start_refusals : Request → ℕ → ℕ → List Refusal
start_refusals r l m = lent_refusals (frame_count r) l m ++ served_refusals r

abbrev pub start_refusal : Request → ℕ → ℕ → Refusal
start_refusal r l m = first_of (start_refusals r l m)

-- what an entry answers: a value, or a refusal. Each answer type of the code has a definition into this
pub data Outcome (A : Type 0) : Type 0 where
  gives : A → Outcome A
  refuses : Refusal → Outcome A

-- the value, unless there is a refusal
abbrev pub outcome : {A : Type 0} → Refusal → A → Outcome A
outcome f v = pick (is_none f) (gives v) (refuses f)
