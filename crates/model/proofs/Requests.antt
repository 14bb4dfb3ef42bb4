-- Demand 3 for a request: plan_of is the one feasible list that is best for every table and takes more first.
use mathlib.Core.Path.{◌≡◌, refl, sym, ap, ◌∙◌}
use mathlib.Core.Logic.{◌⊎◌, inl, inr, ⊎_elim}
use mathlib.Core.Bool.{Bool, true, false, ◌&&◌, ◌||◌, false≢true}
use mathlib.Core.List.{List, [], ◌∷◌}
use lib.IntN.{ℤ, pos}
use lib.Signed.{◌≤ℤ◌}
use lib.ListN.{length, get_or}
use Prim.Native.Nat.{ℕ, zero, suc, ◌≤◌, ◌<◌, min}
use native.Mathlib.Omega.{arith}
use lib.Dec.{ltb, eqb}
use borrow.Author.Tests.{ltb-true, eqb-true}
use Rattle.model.specs.declared.Store.{Store}
use Rattle.model.specs.Request.{Request, leasts, frame_count, most_energy}
use Rattle.model.specs.Charge.{feasible, feasible_from, charges}
use Rattle.model.specs.Refusals.{reachable}
use Rattle.model.specs.Reward.{Qualifies, earned, BestForAll, takes_more, IsPlan}
use Rattle.model.specs.Frames.{Frame, left, Feasible, served}
use Rattle.model.specs.Plan.{store_of, frames_with, plan_of}
use Rattle.model.specs.Demands.{PlanDemand}
use Rattle.model.proofs.Integers as int
use Rattle.model.proofs.Tests.{both}
use Rattle.model.proofs.Tables.{WithinAll, served_earns, level_qualifies, earned_level}
use Rattle.model.proofs.Trace.{feasible_length, feasible_drawable, feasible_within}
use Rattle.model.proofs.Plan.{plan_best}
use Rattle.model.proofs.Lowest.{MostServed, takes_more_lem, lowest, AtMost}
use Rattle.model.proofs.Bridge.{taken_withdrawn, frames_feasible, feasible_frames, frames_within, charges_at_most}
use Rattle.model.proofs.Lengths.{frames_length, plan_of_length}
use Rattle.model.proofs.Lossless.{plan_lossless}
use Rattle.model.proofs.Reach.{feasible_spent, total_within, reachable_is, feasible_reachable, none_feasible}

-- what the frames of a request share, and its frames
abbrev store : Request → Store
store r = store_of r r.figures.capacity

abbrev pub request_frames : Request → List Frame
request_frames r = frames_with r r.figures.capacity

-- a list that earns most for every table serves most at every level
pub earns_serves : (l : ℕ) (bs cs : List ℕ) → earned (λ n. pos (min n l)) cs ≤ℤ earned (λ n. pos (min n l)) bs →
    served l cs ≤ served l bs
earns_serves l bs cs h = int.le_pos (served l cs) (served l bs) (rw (earned_level l cs, earned_level l bs) at h)

either : (s t : Bool) → s || t ≡ true → (s ≡ true) ⊎ (t ≡ true)
either true t p = inl refl
either false t p = inr p

-- what it is to take more at the first difference
more_first : (b c : ℕ) (bs cs : List ℕ) → takes_more (b ∷ bs) (c ∷ cs) ≡ true →
    (c < b) ⊎ ((b ≡ c) × (takes_more bs cs ≡ true))
more_first b c bs cs p =
    ⊎_elim
    (λ (q : ltb c b ≡ true). inl (ltb-true c b q))
    (λ (q : eqb b c && takes_more bs cs ≡ true).
    let z = both (eqb b c) (takes_more bs cs) q in
    inr (eqb-true b c z.0, z.1))
    (either (ltb c b) (eqb b c && takes_more bs cs) p)

-- two lists cannot both take more
more_once : (bs cs : List ℕ) → takes_more bs cs ≡ true → takes_more cs bs ≡ true → ⊥
more_once [] cs p q = false≢true p
more_once (b ∷ bs) [] p q = false≢true p
more_once (b ∷ bs) (c ∷ cs) p q =
    ⊎_elim
    (λ (u : c < b).
    ⊎_elim
    (λ (v : b < c). not_both b c v u)
    (λ (v : (c ≡ b) × (takes_more cs bs ≡ true)). not_less c b v.0 u)
    (more_first c b cs bs q))
    (λ (u : (b ≡ c) × (takes_more bs cs ≡ true)).
    ⊎_elim
    (λ (v : b < c). not_less b c u.0 v)
    (λ (v : (c ≡ b) × (takes_more cs bs ≡ true)). more_once bs cs u.1 v.1)
    (more_first c b cs bs q))
    (more_first b c bs cs p)
  where
    not_both : (a b : ℕ) → a < b → b < a → ⊥
    not_both a b p q = omega arith

    not_less : (a b : ℕ) → a ≡ b → a < b → ⊥
    not_less a b p q = omega arith

-- at most everywhere is at most at each index
at_most_at : (xs ys : List ℕ) → AtMost xs ys → (i : ℕ) → get_or xs i 0 ≤ get_or ys i 0
at_most_at [] ys k i = omega arith
at_most_at (x ∷ xs) [] k i = absurd k
at_most_at (x ∷ xs) (y ∷ ys) k zero = k.0
at_most_at (x ∷ xs) (y ∷ ys) k (suc i) = at_most_at xs ys k.1 i

-- budgets that are feasible over frames are one for each
frames_long : (r : Request) (bs : List ℕ) → Feasible r.figures.end r.figures.start (request_frames r) bs →
    length bs ≡ frame_count r
frames_long r bs k =
    go r.figures.end r.figures.start (request_frames r) bs k ∙ frames_length (store r) r.harvest r.bounds
  where
    go : (e y : ℕ) (fs : List Frame) (bs : List ℕ) → Feasible e y fs bs → length bs ≡ length fs
    go e y [] [] k = refl
    go e y [] (b ∷ bs) k = absurd k
    go e y (f ∷ fs) [] k = absurd k
    go e y (f ∷ fs) (b ∷ bs) k = ap suc (go e (left f y b) fs bs k.1)

module _ (r : Request) (start_fits : r.figures.start ≤ r.figures.capacity)
    (end_fits : r.figures.end ≤ r.figures.capacity) where
  shown : r.figures.start ≡ min r.figures.capacity r.figures.start
  shown = omega (arith, start_fits)

  pub over_frames : (bs : List ℕ) → feasible r bs ≡ true →
      Feasible r.figures.end r.figures.start (request_frames r) bs
  over_frames bs k =
      feasible_frames (store r) r.figures.end end_fits r.figures.start r.figures.start r.harvest r.bounds bs shown
      (omega arith) (feasible_within r bs k)
      (ap (feasible_from r.figures.capacity r.figures.end r.figures.start r.harvest)
      (taken_withdrawn r r.figures.capacity bs (feasible_length r bs k)) ∙ feasible_drawable r bs k)

  pub from_frames : (bs : List ℕ) → Feasible r.figures.end r.figures.start (request_frames r) bs →
      feasible r bs ≡ true
  from_frames bs k =
      rw (
        frames_within (store r) r.figures.end r.figures.start r.harvest r.bounds bs k,
        sym (taken_withdrawn r r.figures.capacity bs (frames_long r bs k)),
        frames_feasible (store r) r.figures.end end_fits r.figures.start r.figures.start r.harvest r.bounds bs shown k,
      ) refl

  pub within_reach : reachable r ≡ true → (bs : List ℕ) × (feasible r bs ≡ true)
  within_reach h = (leasts r, sym (reachable_is r) ∙ h)

  pub plan_serves : (bs : List ℕ) → feasible r bs ≡ true → (l : ℕ) → served l bs ≤ served l (plan_of r)
  unfolding plan_of
  plan_serves bs k l = (plan_best r.figures.end r.figures.start l (request_frames r) bs (over_frames bs k)).1

  -- where anything is feasible, the plan is
  pub plan_feasible_by : (bs : List ℕ) → feasible r bs ≡ true → feasible r (plan_of r) ≡ true
  unfolding plan_of
  plan_feasible_by bs k =
      from_frames (plan_of r)
      (plan_best r.figures.end r.figures.start 0 (request_frames r) bs (over_frames bs k)).0

  pub plan_feasible : reachable r ≡ true → feasible r (plan_of r) ≡ true
  plan_feasible h = let w = within_reach h in plan_feasible_by w.0 w.1

  within_all : (bs : List ℕ) → feasible r bs ≡ true → WithinAll (most_energy r) bs
  within_all bs k = total_within (most_energy r) bs (omega (arith, feasible_spent r bs k))

  -- serving as much at every level is earning as much for every table
  pub serves_earns : (bs cs : List ℕ) → feasible r bs ≡ true → feasible r cs ≡ true →
      ((l : ℕ) → served l cs ≤ served l bs) →
      (f : ℕ → ℤ) → Qualifies f (most_energy r) → earned f cs ≤ℤ earned f bs
  serves_earns bs cs p q h f w =
      served_earns f (most_energy r) w bs cs (feasible_length r cs q ∙ sym (feasible_length r bs p)) (within_all bs p)
      (within_all cs q) h

  most_served : (cs : List ℕ) → BestForAll r cs → MostServed r.figures.end r.figures.start (request_frames r) cs
  most_served cs best ds k l =
      earns_serves l cs ds (best (λ n. pos (min n l)) (level_qualifies l (most_energy r)) ds (from_frames ds k))

  pub plan_is : reachable r ≡ true → IsPlan r (plan_of r)
  unfolding plan_of
  plan_is h =
      let k = plan_feasible h in
      record {
        is_feasible = k;
        is_best = λ f w cs q. serves_earns (plan_of r) cs k q (λ l. plan_serves cs q l) f w;
        takes_more = λ cs q best. takes_more_lem r.figures.end r.figures.start (request_frames r) cs
            (over_frames cs q) (most_served cs best);
      }

  pub lowest_charges : (bs : List ℕ) → feasible r bs ≡ true → BestForAll r bs → (i : ℕ) →
      get_or (charges r (plan_of r)) i 0 ≤ get_or (charges r bs) i 0
  unfolding plan_of
  lowest_charges bs k best =
      at_most_at (charges r (plan_of r)) (charges r bs)
      (rw (sym (taken_withdrawn r r.figures.capacity (plan_of r) (plan_of_length r)), sym (taken_withdrawn r r.figures.capacity bs (feasible_length r bs k)))
      (charges_at_most (store r) r.figures.start r.figures.start r.figures.start r.figures.start r.harvest r.bounds
      (plan_of r) bs shown shown
      (lowest r.figures.end r.figures.start r.figures.start (request_frames r) bs bs (omega arith)
      (over_frames bs k) (over_frames bs k) (most_served bs best))))

-- two plans of a request are the same list
pub one_plan : (r : Request) (bs cs : List ℕ) → IsPlan r bs → IsPlan r cs → bs ≡ cs
one_plan r bs cs p q =
    ⊎_elim
    (λ (u : cs ≡ bs). sym u)
    (λ (u : takes_more bs cs ≡ true).
    ⊎_elim
    (λ (v : bs ≡ cs). v)
    (λ (v : takes_more cs bs ≡ true). absurd (more_once bs cs u v))
    (q.takes_more bs p.is_feasible p.is_best))
    (p.takes_more cs q.is_feasible q.is_best)

-- demand 3, and reach of demand 2
pub plan_demand : (r : Request) → r.figures.start ≤ r.figures.capacity → r.figures.end ≤ r.figures.capacity →
    PlanDemand r
plan_demand r s e =
    record {
      within_reach = within_reach r s e;
      out_of_reach = none_feasible r;
      is_plan = plan_is r s e;
      only_plan =
          λ bs p. one_plan r bs (plan_of r) p (plan_is r s e (feasible_reachable r bs p.is_feasible));
      serves_most = plan_serves r s e;
      lowest_charges = lowest_charges r s e;
      loses_nothing = plan_lossless r s e;
    }
