-- Among the lists that serve most at every level, the plan takes more first and carries the lowest charge after every
-- frame.
use mathlib.Core.Path.{◌≡◌, refl}
use mathlib.Core.Logic.{◌⊎◌, inl, inr, ⊎_elim}
use mathlib.Core.Bool.{true}
use mathlib.Core.List.{List, [], ◌∷◌}
use Prim.Native.Nat.{ℕ, suc, ◌+◌, ◌-◌, ◌≤◌, ◌<◌, min}
use native.Mathlib.Nat.{le_refl}
use native.Mathlib.Omega.{arith}
use borrow.Author.Tests.{lt-ltb, le-ltb, eq-eqb}
use Rattle.model.specs.Frames.{Frame, room, left, Allowed, Feasible, reserve, budget, plan, served}
use Rattle.model.specs.Reward.{takes_more}
use Rattle.model.proofs.Order.{le_or_lt}
use Rattle.model.proofs.Feasibility.{more}
use Rattle.model.proofs.Reserve.{Serving, poor}
use Rattle.model.proofs.Budget.{IsLargest, budget_is}
use Rattle.model.proofs.Plan.{budget_allowed, replace, plan_best}

-- no feasible list serves more at any level
abbrev pub MostServed : ℕ → ℕ → List Frame → List ℕ → Type 0
MostServed e y fs cs = (ds : List ℕ) → Feasible e y fs ds → (l : ℕ) → served l ds ≤ served l cs

-- what follows a frame serves most from what is left
pub most_rest : (e y : ℕ) (f : Frame) (fs : List Frame) (c : ℕ) (cs : List ℕ) → Allowed f y c →
    MostServed e y (f ∷ fs) (c ∷ cs) →
    MostServed e (left f y c) fs cs
unfolding served
most_rest e y f fs c cs a m ds k l = omega (arith, m (c ∷ ds) (a, k) l)

-- the plan serves most
pub plan_most : (e y : ℕ) (fs : List Frame) → MostServed e y fs (plan e y fs)
plan_most e y fs ds k l = (plan_best e y l fs ds k).1

-- A frame with room r, drain d and the largest budget b; another list has room r' and budget c, and carries less on.
module _ (e : ℕ) (fs : List Frame) (d r r' lo hi b c : ℕ) (cs : List ℕ)
    (i : IsLargest e fs (r - d) lo (min hi (r - d)) b)
    (more_Room : r ≤ r') (high : c ≤ hi) (have : d + c ≤ r') (less : r' - (d + c) < r - (d + b)) where
  lower_budget : b < c
  lower_budget = omega (arith, more_Room, have, less)

  -- its rest is below the reserve of b
  lower_poor : r' - (d + c) < reserve e b fs
  lower_poor = below (i.refused b (le_refl b) (omega (arith, more_Room, high, have, less)))
    where
      below : r - d ≤ b + reserve e b fs → r' - (d + c) < reserve e b fs
      below q = omega (arith, more_Room, have, less)

  -- so one unit less here serves one more at level b
  lower_serves : Feasible e (r' - (d + c)) fs cs → Serving e (r' - (d + (c - 1))) fs b (suc (served b cs))
  lower_serves k =
      let s = poor e (r' - (d + c)) b b fs cs (le_refl b) lower_poor k in
      (s.0, more e (suc (r' - (d + c))) (r' - (d + (c - 1))) fs s.0 (one_more lower_budget) s.1, s.2)
    where
      one_more : b < c → suc (r' - (d + c)) ≤ r' - (d + (c - 1))
      one_more p = omega (arith, have)

better_sum : (b c s s' : ℕ) → b < c → suc s ≤ s' → min (c - 1) b + s' ≤ min c b + s → ⊥
better_sum b c s s' p q h = omega arith

room_grows : (f : Frame) (y y' : ℕ) → y ≤ y' → room f y ≤ room f y'
room_grows f y y' h = omega arith

-- the plan carries on no more than a list that serves most from at least its charge
pub lowest_first : (e y y' : ℕ) (f : Frame) (fs : List Frame) (c : ℕ) (cs : List ℕ) → y ≤ y' → Allowed f y' c →
    Feasible e (left f y' c) fs cs → MostServed e y' (f ∷ fs) (c ∷ cs) → left f y (budget e y f fs) ≤ left f y' c
unfolding served
lowest_first e y y' f fs c cs h a k m =
    ⊎_elim
    (λ (p : left f y (budget e y f fs) ≤ left f y' c). p)
    (λ (p : left f y' c < left f y (budget e y f fs)). absurd (clash (budget e y f fs) (budget_is e y f fs) p))
    (le_or_lt (left f y (budget e y f fs)) (left f y' c))
  where
    clash : (b : ℕ) → IsLargest e fs (room f y - f.drain) f.least (min f.most (room f y - f.drain)) b →
        left f y' c < left f y b → ⊥
    clash b i p =
        let g = room_grows f y y' h in
        let q = lower_budget e fs f.drain (room f y) (room f y') f.least f.most b c cs i g a.high
        a.have p in
        let s = lower_serves e fs f.drain (room f y) (room f y') f.least f.most b c cs i g a.high
        a.have p k in
        better_sum b c (served b cs) (served b s.0) q s.2
        (m ((c - 1) ∷ s.0) (
          record {
            low = low_one f.least b c i.low q;
            high = high_one c f.most a.high;
            have =
                have_one f.drain c (room f y') a.have;
          },
          s.1,
        ) b)
      where
        low_one : (lo b c : ℕ) → lo ≤ b → b < c → lo ≤ c - 1
        low_one lo b c p q = omega arith

        high_one : (c hi : ℕ) → c ≤ hi → c - 1 ≤ hi
        high_one c hi p = omega arith

        have_one : (d c r : ℕ) → d + c ≤ r → d + (c - 1) ≤ r
        have_one d c r p = omega arith

-- the list takes what the plan takes, or less at the first difference
takes_more_step : (e y : ℕ) (f : Frame) (fs : List Frame) (b c : ℕ) (bs cs : List ℕ) → c ≤ b →
    (c ≡ b → (cs ≡ bs) ⊎ (takes_more bs cs ≡ true)) → (c ∷ cs ≡ b ∷ bs) ⊎ (takes_more (b ∷ bs) (c ∷ cs) ≡ true)
takes_more_step e y f fs b c bs cs h ih =
    ⊎_elim
    (λ (p : b ≤ c). same (omega arith) (ih (omega arith)))
    (λ (p : c < b). inr (rw (lt-ltb c b p) refl))
    (le_or_lt b c)
  where
    same : c ≡ b → (cs ≡ bs) ⊎ (takes_more bs cs ≡ true) → (c ∷ cs ≡ b ∷ bs) ⊎ (takes_more (b ∷ bs) (c ∷ cs) ≡ true)
    same q =
        ⊎_elim
        (λ (p : cs ≡ bs). inl (cc))
        (λ (p : takes_more bs cs ≡ true). inr (rw (le-ltb c b (omega arith), eq-eqb b c (omega arith)) p))

no_more : (d r b c : ℕ) → d + c ≤ r → d + b ≤ r → r - (d + b) ≤ r - (d + c) → c ≤ b
no_more d r b c p q h = omega arith

-- a list that serves as much as the plan at every level is the plan, or takes less at the first difference
pub takes_more_lem : (e y : ℕ) (fs : List Frame) (cs : List ℕ) → Feasible e y fs cs → MostServed e y fs cs →
    (cs ≡ plan e y fs) ⊎ (takes_more (plan e y fs) cs ≡ true)
unfolding plan
takes_more_lem e y [] [] k m = inl refl
takes_more_lem e y [] (c ∷ cs) k m = absurd k
takes_more_lem e y (f ∷ fs) [] k m = absurd k
takes_more_lem e y (f ∷ fs) (c ∷ cs) k m =
    let b = budget e y f fs in
    let a = budget_allowed e y f fs c k.0 in
    takes_more_step e y f fs b c (plan e (left f y b) fs) cs
    (no_more f.drain (room f y) b c k.0.have a.have
    (lowest_first e y y f fs c cs (le_refl y) k.0 k.1 m))
    (λ (q : c ≡ b). takes_more_lem e (left f y b) fs cs (rw q at k.1) (rw q at (most_rest e y f fs c cs k.0 m)))

-- the charge carried on after each frame
unfoldable pub carried : ℕ → List Frame → List ℕ → List ℕ
carried y [] bs = []
carried y (f ∷ fs) [] = []
carried y (f ∷ fs) (b ∷ bs) = left f y b ∷ carried (left f y b) fs bs

-- each entry of the first list is at most that of the second
abbrev pub AtMost : List ℕ → List ℕ → Type 0
AtMost [] ys = Unit {0}
AtMost (x ∷ xs) [] = ⊥
AtMost (x ∷ xs) (y ∷ ys) = (x ≤ y) × AtMost xs ys

-- the plan carries the lowest charge after every frame among the lists that serve most, even from a larger charge
pub lowest : (e y y' : ℕ) (fs : List Frame) (ws cs : List ℕ) → y ≤ y' → Feasible e y fs ws → Feasible e y' fs cs →
    MostServed e y' fs cs → AtMost (carried y fs (plan e y fs)) (carried y' fs cs)
unfolding plan carried
lowest e y y' [] ws cs h w k m = tt
lowest e y y' (f ∷ fs) [] cs h w k m = absurd w
lowest e y y' (f ∷ fs) (x ∷ ws) [] h w k m = absurd k
lowest e y y' (f ∷ fs) (x ∷ ws) (c ∷ cs) h w k m =
    let b = budget e y f fs in
    let z = lowest_first e y y' f fs c cs h k.0 k.1 m in
    let s = replace e y 0 f fs x ws w.0 w.1 in
    (z, lowest e (left f y b) (left f y' c) fs s.0 cs z s.1 k.1 (most_rest e y' f fs c cs k.0 m))
