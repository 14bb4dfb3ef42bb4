-- The needed capacity of demand 2: needed_of is the least that serves every table as unlimited storage does.
use mathlib.Core.Path.{◌≡◌, refl, sym, ◌∙◌}
use mathlib.Core.Bool.{Bool, true, false}
use mathlib.Core.List.{List, [], ◌∷◌}
use lib.IntN.{ℤ, pos}
use lib.Signed.{◌≤ℤ◌}
use Prim.Native.Nat.{ℕ, ◌+◌, ◌≤◌, min, max}
use native.Mathlib.Nat.{le_refl}
use native.Mathlib.Omega.{arith}
use lib.Dec.{eqb}
use Rattle.model.specs.declared.Store.{Store}
use Rattle.model.specs.Choice.{pick}
use Rattle.model.specs.Limits.{no_upper_end}
use Rattle.model.specs.Request.{Bounds, absent, Request, first_bounds, later_bounds, total, most_energy, with_capacity}
use Rattle.model.specs.Charge.{feasible, feasible_unlimited}
use Rattle.model.specs.Refusals.{reachable, reachable_unlimited}
use Rattle.model.specs.Reward.{Qualifies, earned, BestReward, Serves, IsNeeded}
use Rattle.model.specs.Frames.{Feasible, served, requirement}
use Rattle.model.specs.Plan.{most_of, ceiling_of, capacity_for, frame_of, frames_of, store_of, frames_with, plan_of}
use Rattle.model.specs.Plan.{boundless, open_plan, peak, needed_of}
use Rattle.model.specs.Demands.{NeededDemand}
use Rattle.model.proofs.Integers as int
use Rattle.model.proofs.Tables.{level_qualifies}
use Rattle.model.proofs.Requirement.{Fits, feasible_fits, fits_feasible}
use Rattle.model.proofs.Ceilings.{Open, MostsWithin, OtherCeilings, requirement_same}
use Rattle.model.proofs.Ceilings.{ceilings_serve}
use Rattle.model.proofs.Reach.{feasible_spent, unlimited_storage, reachable_unlimited_is, feasible_open}
use Rattle.model.proofs.Requests.{earns_serves, plan_serves, plan_feasible, plan_feasible_by, plan_is}
use Rattle.model.proofs.Requests.{over_frames, from_frames}

-- the same store with another capacity
abbrev resized : ℕ → Store → Store
resized c s = record s { capacity = c }

-- frames of two capacities differ in their ceilings alone
frames_other : (s : Store) (c d : ℕ) (hs : List ℕ) (ws : List Bounds) →
    OtherCeilings (frames_of (resized c s) hs ws) (frames_of (resized d s) hs ws)
unfolding frames_of
frames_other s c d [] ws = tt
frames_other s c d (h ∷ hs) ws = (
  record { same_inflow = refl; same_drain = refl; same_least = refl; same_most = refl },
  frames_other s c d hs (later_bounds ws),
)

frames_open : (s : Store) (y : ℕ) (hs : List ℕ) (ws : List Bounds) → y + total hs ≤ s.capacity →
    Open y (frames_of s hs ws)
unfolding frames_of
frames_open s y [] ws h = tt
frames_open s y (x ∷ hs) ws h = (omega arith, frames_open s (y + x) hs (later_bounds ws) (omega arith))

-- a number that no most of the bounds is above
abbrev mosts_total : List Bounds → ℕ
mosts_total [] = 0
mosts_total (w ∷ ws) = w.most + mosts_total ws

most_within : (m n : ℕ) (w : Bounds) → w.most ≤ n → most_of m w ≤ m + n
most_within m n w p = go (eqb w.most no_upper_end)
  where
    go : (t : Bool) → pick t m w.most ≤ m + n
    go true = omega arith
    go false = omega arith

frames_mosts : (s : Store) (n : ℕ) (hs : List ℕ) (ws : List Bounds) → no_upper_end + mosts_total ws ≤ n →
    MostsWithin (s.energy + n) (frames_of s hs ws)
unfolding frames_of
frames_mosts s n [] ws p = tt
frames_mosts s n (h ∷ hs) [] p = (most_within s.energy n absent (omega arith), frames_mosts s n hs [] p)
frames_mosts s n (h ∷ hs) (w ∷ ws) p = (most_within s.energy n w (omega arith), frames_mosts s n hs ws (omega arith))

-- capacity_for is the least capacity whose ceiling is high enough
held_capacity : (n c h : ℕ) → n ≤ ceiling_of c h → capacity_for n h ≤ c
held_capacity n c h p = omega arith

capacity_holds : (n c h : ℕ) → capacity_for n h ≤ c → n ≤ ceiling_of c h
capacity_holds n c h p = omega arith

-- so a capacity that holds what a list requires is at least the list's peak
holds_peak : (s : Store) (e : ℕ) (hs : List ℕ) (ws : List Bounds) (bs : List ℕ) → Fits e (frames_of s hs ws) bs →
    peak e (frames_of s hs ws) bs ≤ s.capacity
unfolding frames_of peak
holds_peak s e [] ws bs k = omega arith
holds_peak s e (h ∷ hs) ws [] k = absurd k
holds_peak s e (h ∷ hs) ws (b ∷ bs) k =
    let f = frame_of s h (first_bounds ws) in
    let fs = frames_of s hs (later_bounds ws) in
    let n = f.drain + b + requirement e fs bs in
    max_within (capacity_for n h) (peak e fs bs) s.capacity (held_capacity n s.capacity h k.0.holds)
    (holds_peak s e hs (later_bounds ws) bs k.1)
  where
    max_within : (a b d : ℕ) → a ≤ d → b ≤ d → max a b ≤ d
    max_within a b d p q = omega arith

-- the peak does not look at ceilings
peak_same : (s : Store) (e c d : ℕ) (hs : List ℕ) (ws : List Bounds) (bs : List ℕ) →
    peak e (frames_of (resized c s) hs ws) bs ≡ peak e (frames_of (resized d s) hs ws) bs
unfolding frames_of peak
peak_same s e c d [] ws bs = refl
peak_same s e c d (h ∷ hs) ws [] = refl
peak_same s e c d (h ∷ hs) ws (b ∷ bs) =
    let us = later_bounds ws in
    rw (
      requirement_same e (frames_of (resized d s) hs us) (frames_of (resized c s) hs us) bs (frames_other s d c hs us),
      peak_same s e c d hs us bs,
    ) refl

-- and a capacity at least the peak holds the list
peak_holds : (s : Store) (e c d : ℕ) (hs : List ℕ) (ws : List Bounds) (bs : List ℕ) →
    Fits e (frames_of (resized c s) hs ws) bs → peak e (frames_of (resized c s) hs ws) bs ≤ d →
    Fits e (frames_of (resized d s) hs ws) bs
unfolding frames_of peak
peak_holds s e c d [] ws [] k q = tt
peak_holds s e c d [] ws (b ∷ bs) k q = absurd k
peak_holds s e c d (h ∷ hs) ws [] k q = absurd k
peak_holds s e c d (h ∷ hs) ws (b ∷ bs) k q =
    let us = later_bounds ws in
    let fs = frames_of (resized c s) hs us in
    let n = (frame_of s h (first_bounds ws)).drain + b + requirement e fs bs in
    let i = requirement_same e fs (frames_of (resized d s) hs us) bs (frames_other s c d hs us) in
    let u = left_max (capacity_for n h) (peak e fs bs) d q in (
      record { low = k.0.low; high = k.0.high; holds = rw i (capacity_holds n d h u.0) },
      peak_holds s e c d hs us bs k.1 u.1,
    )
  where
    left_max : (a b d : ℕ) → max a b ≤ d → (a ≤ d) × (b ≤ d)
    left_max a b d p = (omega arith, omega arith)

-- each capacity that no charge can exceed serves every table
unlimited_serves : (r : Request) (c : ℕ) → most_energy r ≤ c → Serves r c
unlimited_serves r c h f w v best =
    let u = best.reached in
    record {
      reached = (u.0, unlimited_storage r c h u.0 ∙ u.1, u.2);
      highest = λ bs k. best.highest bs (sym (unlimited_storage r c h bs) ∙ k);
    }

module _ (r : Request) (open_reach : reachable_unlimited r ≡ true) where
  -- then it is reachable with a capacity that no charge exceeds
  reach : reachable (with_capacity r (boundless r)) ≡ true
  reach = sym (reachable_unlimited_is r (boundless r) (omega arith)) ∙ open_reach

  open_plan_is : plan_of (with_capacity r (boundless r)) ≡ open_plan r
  unfolding plan_of open_plan
  open_plan_is = refl

  to_big : (bs : List ℕ) → feasible_unlimited r bs ≡ true → feasible (with_capacity r (boundless r)) bs ≡ true
  to_big bs k = unlimited_storage r (boundless r) (omega arith) bs ∙ k

  -- the open plan is feasible without limit, and no list earns more
  open_plan_unlimited : feasible_unlimited r (open_plan r) ≡ true
  open_plan_unlimited =
      sym (unlimited_storage r (boundless r) (omega arith) (open_plan r))
      ∙ (rw open_plan_is at (plan_feasible (with_capacity r (boundless r)) (omega arith) (omega arith) reach))

  open_plan_earns : (f : ℕ → ℤ) → Qualifies f (most_energy r) → (bs : List ℕ) → feasible_unlimited r bs ≡ true →
      earned f bs ≤ℤ earned f (open_plan r)
  open_plan_earns f w bs k =
      rw open_plan_is at
      ((plan_is (with_capacity r (boundless r)) (omega arith) (omega arith) reach).is_best f w bs (to_big bs k))

  open_plan_best : (f : ℕ → ℤ) → Qualifies f (most_energy r) →
      BestReward (feasible_unlimited r) f (earned f (open_plan r))
  open_plan_best f w =
      record { reached = (open_plan r, open_plan_unlimited, refl); highest = λ bs k. open_plan_earns f w bs k }

  -- the open plan over the frames of its capacity
  pub open_plan_frames : Feasible r.figures.end r.figures.start (frames_with r (boundless r)) (open_plan r)
  open_plan_frames =
      over_frames (with_capacity r (boundless r)) (omega arith) (omega arith) (open_plan r)
      (to_big (open_plan r) open_plan_unlimited)

  needed_start : r.figures.start ≤ needed_of r
  unfolding needed_of
  needed_start = omega arith

  needed_end : r.figures.end ≤ needed_of r
  unfolding needed_of
  needed_end = omega arith

  needed_peak : peak r.figures.end (frames_with r (boundless r)) (open_plan r) ≤ needed_of r
  unfolding needed_of
  needed_peak = omega arith

  -- the needed capacity lets the open plan be drawn
  open_plan_needed : feasible (with_capacity r (needed_of r)) (open_plan r) ≡ true
  open_plan_needed =
      let c = needed_of r in
      let e = r.figures.end in
      let s = store_of r (boundless r) in
      let fs = frames_with r (boundless r) in
      let g = feasible_fits e r.figures.start fs (open_plan r) open_plan_frames in
      let i = requirement_same e fs (frames_with r c) (open_plan r)
      (frames_other s (boundless r) c r.harvest r.bounds) in
      from_frames (with_capacity r c) needed_start needed_end (open_plan r)
      (fits_feasible e r.figures.start (frames_with r c) (open_plan r)
      (peak_holds s e (boundless r) c r.harvest r.bounds (open_plan r) g.0 needed_peak) (rw i g.1))

  needed_serves : Serves r (needed_of r)
  needed_serves f w v best =
      let u = best.reached in
      let up : v ≤ℤ earned f (open_plan r) = rw u.2 at (open_plan_earns f w u.0 u.1) in
      let down = best.highest (open_plan r) open_plan_unlimited in
      record {
        reached = (open_plan r, open_plan_needed, int.le_antisym (earned f (open_plan r)) v down up);
        highest = λ bs k. best.highest bs (feasible_open r (needed_of r) bs k);
      }

  -- a capacity that serves every table lets something earn as much as the open plan, level by level
  served_by : (d : ℕ) → Serves r d → (l : ℕ) →
      (bs : List ℕ) × (feasible (with_capacity r d) bs ≡ true) × (served l (open_plan r) ≤ served l bs)
  served_by d h l =
      let f : ℕ → ℤ = λ n. pos (min n l) in
      let w = level_qualifies l (most_energy r) in
      let b = (h f w (earned f (open_plan r)) (open_plan_best f w)).reached in (
        b.0,
        b.1,
        earns_serves l b.0 (open_plan r) (int.le_of_eq (earned f (open_plan r)) (earned f b.0) (sym b.2)),
      )

  -- so the plan with that capacity is feasible, and serves as much as the open plan at every level
  serves_feasible : (d : ℕ) → r.figures.start ≤ d → r.figures.end ≤ d → Serves r d →
      feasible (with_capacity r d) (plan_of (with_capacity r d)) ≡ true
  serves_feasible d s e h = let b = served_by d h 0 in plan_feasible_by (with_capacity r d) s e b.0 b.1

  serves_levels : (d : ℕ) → r.figures.start ≤ d → r.figures.end ≤ d → Serves r d → (l : ℕ) →
      served l (open_plan r) ≤ served l (plan_of (with_capacity r d))
  serves_levels d s e h l =
      let b = served_by d h l in
      let p = plan_serves (with_capacity r d) s e b.0 b.1 l in
      omega (arith, b.2)

  needed_least : (d : ℕ) → r.figures.start ≤ d → r.figures.end ≤ d → Serves r d → needed_of r ≤ d
  unfolding needed_of open_plan
  needed_least d x e h =
      let s = store_of r (boundless r) in
      let n = no_upper_end + mosts_total r.bounds in
      let q = plan_of (with_capacity r d) in
      let k = over_frames (with_capacity r d) x e q (serves_feasible d x e h) in
      let p = ceilings_serve r.figures.end (s.energy + n) r.figures.start (frames_with r (boundless r))
      (frames_with r d) q (frames_other s (boundless r) d r.harvest r.bounds)
      (frames_mosts s n r.harvest r.bounds (le_refl n))
      (frames_open s r.figures.start r.harvest r.bounds (omega arith)) k
      (serves_levels d x e h) in
      let t = holds_peak (store_of r d) r.figures.end r.harvest r.bounds (open_plan r)
      (feasible_fits r.figures.end r.figures.start (frames_with r d) (open_plan r) p).0 in
      three r.figures.start r.figures.end
      (peak r.figures.end (frames_with r (boundless r)) (open_plan r)) d x e
      (rw (peak_same s r.figures.end (boundless r) d r.harvest r.bounds (open_plan r)) t)
    where
      three : (a b c d : ℕ) → a ≤ d → b ≤ d → c ≤ d → max a (max b c) ≤ d
      three a b c d p q s = omega arith

  -- no more is needed than start plus all harvest
  pub needed_at_most : needed_of r ≤ most_energy r
  needed_at_most =
      let k = feasible_spent (with_capacity r (boundless r)) (open_plan r) (to_big (open_plan r) open_plan_unlimited) in
      needed_least (most_energy r) (omega arith) (omega arith)
      (unlimited_serves r (most_energy r) (le_refl (most_energy r)))

  pub needed_is : IsNeeded r (needed_of r)
  needed_is = record { over_start = needed_start; over_end = needed_end; serves = needed_serves; least = needed_least }

  -- demand 2's needed capacity
  pub needed_demand : NeededDemand r
  needed_demand =
      record {
        is_needed = needed_is;
        only_needed =
            λ c k. same c (needed_of r) (k.least (needed_of r) needed_start needed_end needed_serves)
            (needed_least c k.over_start k.over_end k.serves);
        best_exists = λ f w. (earned f (open_plan r), open_plan_best f w);
        unlimited = unlimited_storage r;
      }
    where
      same : (a b : ℕ) → a ≤ b → b ≤ a → a ≡ b
      same a b p q = omega arith
