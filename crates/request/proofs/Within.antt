-- What it says of a request that none of its refusals holds.
use mathlib.Core.Path.{◌≡◌, refl, ap}
use mathlib.Core.Bool.{Bool, true, false, not}
use mathlib.Core.List.{List, [], ◌∷◌, ◌++◌, map}
use Prim.Native.Nat.{ℕ, suc, ◌≤◌}
use native.Mathlib.Omega.{arith}
use lib.Dec.{ltb, eqb}
use lib.ListN.{get_or}
use borrow.Author.Tests.{ltb-false, eqb-true, eqb-false, not-false}
use Rattle.model.specs.Refusals.{Refusal}
use Rattle.model.specs.Limits.{max_frames, max_harvest, max_capacity}
use Rattle.model.specs.Request.{Request, frame_count}
use Rattle.model.specs.Refusals as R
use Rattle.model.specs.Refusals.{is_none, refuse_if, AllNone}
use Rattle.model.proofs.First.{first_none, none_first, both_none}
use Rattle.request.proofs.Harvest.{harvest_small}

-- where a refusal made by a test is none, the test failed
pub test_failed : (t : Bool) (n : ℕ) → is_none (refuse_if t (suc n)) ≡ true → t ≡ false
test_failed true n e = let z : suc n ≡ 0 = eqb-true (suc n) 0 e in let b : ⊥ = omega arith in absurd b
test_failed false n e = refl

-- neither refusal 1 nor 2
pub record FramesWithin (k : ℕ) : Type 0 where
  pub some : 1 ≤ k
  pub few : k ≤ max_frames

pub frames_within : (k : ℕ) → AllNone (R.frames_refusals k) → FramesWithin k
frames_within k a =
    let n : k ≡ 0 → ⊥ = eqb-false k 0 (test_failed (eqb k 0) 0 a.0) in
    record { some = omega arith; few = ltb-false max_frames k (test_failed (ltb max_frames k) 1 a.1.0) }

-- not refusal 7
pub length_within : (k n : ℕ) → is_none (R.wrong_length k n) ≡ true → n ≡ k
length_within k n e = eqb-true n k (not-false (eqb n k) (test_failed (not (eqb n k)) 6 e))

-- not refusal 3 for one figure
pub capacity_within : (c : ℕ) → is_none (R.over_capacity_limit c) ≡ true → c ≤ max_capacity
capacity_within c e = ltb-false max_capacity c (test_failed (ltb max_capacity c) 2 e)

-- none of refusals 3, 4, 5 and 6
pub record FiguresWithin (r : Request) : Type 0 where
  pub capacity_small : r.figures.capacity ≤ max_capacity
  pub start_fits : r.figures.start ≤ r.figures.capacity
  pub end_fits : r.figures.end ≤ r.figures.capacity
  pub harvest_fits : (i : ℕ) → get_or r.harvest i 0 ≤ max_harvest

pub figures_within : (r : Request) → AllNone (R.figure_refusals r) → FiguresWithin r
figures_within r a =
    let f = r.figures in
    record {
      capacity_small = capacity_within f.capacity a.0;
      start_fits = ltb-false f.capacity f.start (test_failed (ltb f.capacity f.start) 3 a.1.0);
      end_fits = ltb-false f.capacity f.end (test_failed (ltb f.capacity f.end) 4 a.1.1.0);
      harvest_fits = harvest_small 1 r.harvest a.1.1.1.0;
    }

-- tracing is not refused
pub record TraceWithin (r : Request) (n m l : ℕ) : Type 0 where
  pub frames : FramesWithin (frame_count r)
  pub budgets : n ≡ frame_count r
  pub charges : m ≡ frame_count r
  pub losses : l ≡ frame_count r
  pub figures : FiguresWithin r

pub trace_within : (r : Request) (n m l : ℕ) → is_none (R.trace_refusal r n m l) ≡ true → TraceWithin r n m l
trace_within r n m l e =
    let k = frame_count r in
    let a = both_none (R.frames_refusals k)
    (R.wrong_length k n ∷ (R.wrong_length k m ∷ (R.wrong_length k l ∷ R.figure_refusals r)))
    (first_none (R.trace_refusals r n m l) e) in
    record {
      frames = frames_within k a.0;
      budgets = length_within k n a.1.0;
      charges = length_within k m a.1.1.0;
      losses = length_within k l a.1.1.1.0;
      figures = figures_within r a.1.1.1.1;
    }

-- lists of leasts and mosts with an entry for each of a few frames
pub record LentWithin (k l m : ℕ) : Type 0 where
  pub frames : FramesWithin k
  pub leasts : l ≡ k
  pub mosts : m ≡ k

pub lent_within : (k l m : ℕ) → AllNone (R.lent_refusals k l m) → LentWithin k l m
lent_within k l m a =
    record {
      frames = frames_within k (a.0, (a.1.0, tt));
      leasts = length_within k l a.1.1.0;
      mosts = length_within k m a.1.1.1.0;
    }

-- none of refusals 3 to 6 and 9 to 11
pub record ServedWithin (r : Request) : Type 0 where
  pub figures : FiguresWithin r
  pub reach : R.reachable r ≡ true

-- where neither refusal 9 nor 11 holds, both together don't
reach_within : (f g : Refusal) → is_none f ≡ true → is_none g ≡ true → is_none (R.first_of (f ∷ g ∷ [])) ≡ true
reach_within f g p q = ap is_none (none_first (f ∷ g ∷ []) (p, (q, tt)))

pub served_within : (r : Request) → AllNone (R.served_refusals r) → ServedWithin r
served_within r e =
    let a = both_none (R.figure_refusals r) (R.bound_refusals r) e in
    record {
      figures = figures_within r a.0;
      reach = reach_within (R.out_of_reach r) (R.leasts_refused r) a.1.1.0 a.1.1.1.0;
    }

-- planning is not refused
pub record PlanWithin (r : Request) (l m : ℕ) (ns : List ℕ) : Type 0 where
  pub lent : LentWithin (frame_count r) l m
  pub written : AllNone (map (R.wrong_length (frame_count r)) ns)
  pub served : ServedWithin r

pub plan_within : (r : Request) (l m : ℕ) (ns : List ℕ) → is_none (R.plan_refusal r l m ns) ≡ true → PlanWithin r l m ns
plan_within r l m ns e =
    let k = frame_count r in
    let a = both_none (R.lent_refusals k l m) (map (R.wrong_length k) ns ++ R.served_refusals r)
    (first_none (R.plan_refusals r l m ns) e) in
    let b = both_none (map (R.wrong_length k) ns) (R.served_refusals r) a.1 in
    record { lent = lent_within k l m a.0; written = b.0; served = served_within r b.1 }

-- starting a shift is not refused
pub record StartWithin (r : Request) (l m : ℕ) : Type 0 where
  pub lent : LentWithin (frame_count r) l m
  pub served : ServedWithin r

pub start_within : (r : Request) (l m : ℕ) → is_none (R.start_refusal r l m) ≡ true → StartWithin r l m
start_within r l m e =
    let k = frame_count r in
    let a = both_none (R.lent_refusals k l m) (R.served_refusals r) (first_none (R.start_refusals r l m) e) in
    record { lent = lent_within k l m a.0; served = served_within r a.1 }

-- start, end and harvests within the limits of the needed capacity
pub record OpenWithin (r : Request) : Type 0 where
  pub start_small : r.figures.start ≤ max_capacity
  pub end_small : r.figures.end ≤ max_capacity
  pub harvest_fits : (i : ℕ) → get_or r.harvest i 0 ≤ max_harvest

pub open_within : (r : Request) → AllNone (R.open_limits r) → OpenWithin r
open_within r a =
    record {
      start_small = capacity_within r.figures.start a.0;
      end_small = capacity_within r.figures.end a.1.0;
      harvest_fits = harvest_small 1 r.harvest a.1.1.0;
    }

-- the needed capacity is not refused
pub record NeededWithin (r : Request) (l m : ℕ) : Type 0 where
  pub lent : LentWithin (frame_count r) l m
  pub limits : OpenWithin r
  pub reach : R.reachable_unlimited r ≡ true

pub needed_within : (r : Request) (l m : ℕ) → is_none (R.needed_refusal r l m) ≡ true → NeededWithin r l m
needed_within r l m e =
    let k = frame_count r in
    let a = both_none (R.lent_refusals k l m) (R.open_limits r ++ R.open_refusals r)
    (first_none (R.needed_refusals r l m) e) in
    let b = both_none (R.open_limits r) (R.open_refusals r) a.1 in
    record {
      lent = lent_within k l m a.0;
      limits = open_within r b.0;
      reach = reach_within (R.out_of_reach r) (R.leasts_refused_unlimited r) b.1.1.0 b.1.1.1.0;
    }
