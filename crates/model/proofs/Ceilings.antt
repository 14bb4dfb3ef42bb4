-- Ceilings under which something serves as much as the open plan at every level let the open plan itself be drawn.
use mathlib.Core.Path.{◌≡◌, refl}
use mathlib.Core.Logic.{⊎_elim}
use mathlib.Core.List.{List, [], ◌∷◌}
use Prim.Native.Nat.{ℕ, suc, ◌+◌, ◌-◌, ◌≤◌, ◌<◌, min}
use native.Mathlib.Nat.{le_refl, le_trans}
use native.Mathlib.Omega.{arith}
use Rattle.model.specs.Frames.{Frame, room, left, Allowed, Feasible, reserve, budget, plan, served, requirement}
use Rattle.model.proofs.Order.{le_or_lt}
use Rattle.model.proofs.Feasibility.{more}
use Rattle.model.proofs.Reserve.{Serving, poor_times, rich}
use Rattle.model.proofs.Plan.{plan_best}
use Rattle.model.proofs.Lowest.{MostServed, most_rest, plan_most, lowest_first}
use Rattle.model.proofs.Requirement.{Fits, feasible_fits, fits_feasible}

-- open from charge y: no ceiling is met, whatever is drawn
abbrev pub Open : ℕ → List Frame → Type 0
Open y [] = Unit {0}
Open y (f ∷ fs) = (y + f.inflow ≤ f.ceiling) × Open (y + f.inflow) fs

pub open_less : (y y' : ℕ) (fs : List Frame) → y ≤ y' → Open y' fs → Open y fs
open_less y y' [] h o = tt
open_less y y' (f ∷ fs) h o = (omega (arith, o.0), open_less (y + f.inflow) (y' + f.inflow) fs (omega arith) o.1)

-- no most is above L, so that serving at level L is drawing in total
abbrev pub MostsWithin : ℕ → List Frame → Type 0
MostsWithin L [] = Unit {0}
MostsWithin L (f ∷ fs) = (f.most ≤ L) × MostsWithin L fs

-- with n units more, whatever serves at most n more at the highest level can be served
raise : (e y z L n : ℕ) (fs : List Frame) (bs cs : List ℕ) → Feasible e y fs cs → Feasible e z fs bs →
    served L bs ≤ served L cs + n →
    Serving e (y + n) fs L (served L bs)
raise e y z L n fs bs cs k p h =
    ⊎_elim
    (λ (q : y + n ≤ reserve e L fs).
    let s = poor_times e y L L n fs cs (le_refl L) q k in
    (s.0, s.1, omega (arith, s.2)))
    (λ (q : reserve e L fs < y + n). rich e (y + n) z L L fs bs (le_refl L) (omega arith) p)
    (le_or_lt (y + n) (reserve e L fs))

-- no list feasible from y draws more in total
abbrev MostDrawn : ℕ → ℕ → ℕ → List Frame → List ℕ → Type 0
MostDrawn e L y fs bs = (ds : List ℕ) → Feasible e y fs ds → served L ds ≤ served L bs

-- one step of the next law: the open store's room is all there is
module _ (e L y z : ℕ) (f : Frame) (fs : List Frame) (b c : ℕ) (bs cs : List ℕ) (within : f.most ≤ L)
    (op : y + f.inflow ≤ f.ceiling)
    (less : z < y) (kb : Allowed f y b) (kbs : Feasible e (left f y b) fs bs)
    (most : MostDrawn e L y (f ∷ fs) (b ∷ bs)) (kc : Allowed f z c)
    (kcs : Feasible e (left f z c) fs cs) (h : served L (b ∷ bs) ≤ served L (c ∷ cs)) where
  -- otherwise one unit more of the charge could be drawn here
  first_no_less : b ≤ c
  unfolding served
  first_no_less =
      ⊎_elim
      (λ (p : b ≤ c). p)
      (λ (p : c < b). absurd
      (clash p kb.high kc.low kc.have h within
      (most (suc c ∷ cs) (one_more p kb.high kc.low kc.have op less))))
      (le_or_lt b c)
    where
      one_more : c < b → b ≤ f.most → f.least ≤ c → f.drain + c ≤ room f z → y + f.inflow ≤ f.ceiling → z < y →
          Feasible e y (f ∷ fs) (suc c ∷ cs)
      one_more p q r s o l = (
        record { low = omega arith; high = omega arith; have = omega arith },
        more e (left f z c)
            (left f y (suc c)) fs cs (omega arith) kcs,
      )

      clash : c < b → b ≤ f.most → f.least ≤ c → f.drain + c ≤ room f z →
          min b L + served L bs ≤ min c L + served L cs → f.most ≤ L →
          min (suc c) L + served L cs ≤ min b L + served L bs → ⊥
      clash p q r s u v w = omega arith

  -- so the rest can be drawn from what b leaves of the smaller charge
  rest_drawn : Serving e (z + f.inflow - (f.drain + b)) fs L (served L bs)
  unfolding served
  rest_drawn =
      let k = sums first_no_less within kc.high h in
      let s = raise e (left f z c) (left f y b) L (c - b) fs bs cs kcs kbs k in (
        s.0,
        more e (left f z c + (c - b)) (z + f.inflow - (f.drain + b)) fs s.0
            (charge first_no_less kc.have) s.1,
        s.2,
      )
    where
      sums : b ≤ c → f.most ≤ L → c ≤ f.most → min b L + served L bs ≤ min c L + served L cs →
          served L bs ≤ served L cs + (c - b)
      sums p q r s = omega arith

      charge : b ≤ c → f.drain + c ≤ room f z → left f z c + (c - b) ≤ z + f.inflow - (f.drain + b)
      charge p q = omega arith

most_drawn_rest : (e L y : ℕ) (f : Frame) (fs : List Frame) (b : ℕ) (bs : List ℕ) → Allowed f y b →
    MostDrawn e L y (f ∷ fs) (b ∷ bs) → MostDrawn e L (left f y b) fs bs
unfolding served
most_drawn_rest e L y f fs b bs a m ds k = omega (arith, m (b ∷ ds) (a, k))

requires_no_more : (z i d b c m q : ℕ) → b ≤ c → d + c ≤ min m (z + i) → q ≤ z + i - (d + b) → d + b + q - i ≤ z
requires_no_more z i d b c m q p h k = omega arith

-- of an open store: a list that draws the most in total requires no more than any charge from which as much can be
-- drawn
pub least_requirement : (e L y z : ℕ) (fs : List Frame) (bs cs : List ℕ) → MostsWithin L fs → Open y fs →
    Feasible e y fs bs →
    MostDrawn e L y fs bs → Feasible e z fs cs → served L bs ≤ served L cs → requirement e fs bs ≤ z
unfolding requirement
least_requirement e L y z [] [] [] w o k m q h = q
least_requirement e L y z [] [] (c ∷ cs) w o k m q h = absurd q
least_requirement e L y z [] (b ∷ bs) cs w o k m q h = absurd k
least_requirement e L y z (f ∷ fs) [] cs w o k m q h = absurd k
least_requirement e L y z (f ∷ fs) (b ∷ bs) [] w o k m q h = absurd q
least_requirement e L y z (f ∷ fs) (b ∷ bs) (c ∷ cs) w o k m q h =
    ⊎_elim
    (λ (p : y ≤ z). le_trans (feasible_fits e y (f ∷ fs) (b ∷ bs) k).1 p)
    (λ (p : z < y).
    let s = rest_drawn e L y z f fs b c bs cs w.0 o.0 p k.0 k.1 m q.0 q.1 h in
    requires_no_more z f.inflow f.drain b c f.ceiling (requirement e fs bs)
    (first_no_less e L y z f fs b c bs cs w.0 o.0 p k.0 k.1 m q.0 q.1 h)
    q.0.have
    (least_requirement e L (left f y b) (z + f.inflow - (f.drain + b)) fs bs s.0 w.1
    (open_less (left f y b) (y + f.inflow) fs (omega arith) o.1) k.1
    (most_drawn_rest e L y f fs b bs k.0 m) s.1 s.2))
    (le_or_lt y z)

-- the frame with its inflow moved into the charge before it
abbrev filled : Frame → Frame
filled f = record { inflow = 0; ceiling = f.ceiling; drain = f.drain; least = f.least; most = f.most }

filled_room : (f : Frame) (y : ℕ) → room (filled f) (y + f.inflow) ≡ room f y
filled_room f y = omega arith

fill_feasible : (e y : ℕ) (f : Frame) (fs : List Frame) (b : ℕ) (bs : List ℕ) → Feasible e y (f ∷ fs) (b ∷ bs) →
    Feasible e (y + f.inflow) (filled f ∷ fs) (b ∷ bs)
fill_feasible e y f fs b bs k = (
  record { low = k.0.low; high = k.0.high; have = omega (arith, k.0.have) },
  more e (left f y b)
      (left (filled f) (y + f.inflow) b) fs bs (omega arith) k.1,
)

unfill_feasible : (e y : ℕ) (f : Frame) (fs : List Frame) (b : ℕ) (bs : List ℕ) →
    Feasible e (y + f.inflow) (filled f ∷ fs) (b ∷ bs) →
    Feasible e y (f ∷ fs) (b ∷ bs)
unfill_feasible e y f fs b bs k = (
  record { low = k.0.low; high = k.0.high; have = omega (arith, k.0.have) },
  more e
      (left (filled f) (y + f.inflow) b) (left f y b) fs bs (omega arith) k.1,
)

-- a list that serves most also draws the most, with the inflow moved
fill_most : (e L y : ℕ) (f : Frame) (fs : List Frame) (bs : List ℕ) → MostServed e y (f ∷ fs) bs →
    MostDrawn e L (y + f.inflow) (filled f ∷ fs) bs
fill_most e L y f fs bs m [] k = absurd k
fill_most e L y f fs bs m (d ∷ ds) k = m (d ∷ ds) (unfill_feasible e y f fs d ds k) L

-- the same frames with other ceilings
pub record OtherCeiling (f g : Frame) : Type 0 where
  pub same_inflow : g.inflow ≡ f.inflow
  pub same_drain : g.drain ≡ f.drain
  pub same_least : g.least ≡ f.least
  pub same_most : g.most ≡ f.most

abbrev pub OtherCeilings : List Frame → List Frame → Type 0
OtherCeilings [] [] = Unit {0}
OtherCeilings [] (g ∷ gs) = ⊥
OtherCeilings (f ∷ fs) [] = ⊥
OtherCeilings (f ∷ fs) (g ∷ gs) = OtherCeiling f g × OtherCeilings fs gs

-- requirements do not look at ceilings
pub requirement_same : (e : ℕ) (fs gs : List Frame) (bs : List ℕ) → OtherCeilings fs gs →
    requirement e gs bs ≡ requirement e fs bs
unfolding requirement
requirement_same e [] [] bs s = refl
requirement_same e [] (g ∷ gs) bs s = absurd s
requirement_same e (f ∷ fs) [] bs s = absurd s
requirement_same e (f ∷ fs) (g ∷ gs) [] s = refl
requirement_same e (f ∷ fs) (g ∷ gs) (b ∷ bs) s =
    let i = requirement_same e fs gs bs s.1 in
    rw (s.0.same_drain, s.0.same_inflow, i) refl

-- an open store allows what any ceilings allow
pub open_feasible : (e y z : ℕ) (fs gs : List Frame) (bs : List ℕ) → OtherCeilings fs gs → Open y fs → z ≤ y →
    Feasible e z gs bs →
    Feasible e y fs bs
open_feasible e y z [] [] [] s o h k = omega arith
open_feasible e y z [] [] (b ∷ bs) s o h k = absurd k
open_feasible e y z [] (g ∷ gs) bs s o h k = absurd s
open_feasible e y z (f ∷ fs) [] bs s o h k = absurd s
open_feasible e y z (f ∷ fs) (g ∷ gs) [] s o h k = absurd k
open_feasible e y z (f ∷ fs) (g ∷ gs) (b ∷ bs) s o h k =
    let i = s.0.same_inflow in
    let d = s.0.same_drain in
    let n = open_numbers y z f.inflow g.inflow f.ceiling g.ceiling f.drain g.drain b h i d o.0
    k.0.have in (
      record {
        low = omega (arith, k.0.low, s.0.same_least);
        high =
            omega (arith, k.0.high, s.0.same_most);
        have = n.0;
      },
      open_feasible e (left f y b) (left g z b) fs gs bs
          s.1 (open_less (left f y b) (y + f.inflow) fs n.2 o.1) n.1 k.1,
    )
  where
    open_numbers : (y z i j m n d d' b : ℕ) → z ≤ y → j ≡ i → d' ≡ d → y + i ≤ m → d' + b ≤ min n (z + j) →
        (d + b ≤ min m (y + i)) × (min n (z + j) - (d' + b) ≤ min m (y + i) - (d + b)) ×
        (min m (y + i) - (d + b) ≤ y + i)
    open_numbers y z i j m n d d' b h p q o k = (omega arith, omega arith, omega arith)

-- One frame of an open store: b is the plan's budget from charge y, c that of a list that serves most from z ≥ y.
module _ (e L y z : ℕ) (f : Frame) (fs : List Frame) (c : ℕ) (cs : List ℕ) (w : MostsWithin L (f ∷ fs)) (h : y ≤ z)
    (o : Open z (f ∷ fs))
    (k : Feasible e y (f ∷ fs) (plan e y (f ∷ fs))) (q : Feasible e z (f ∷ fs) (c ∷ cs)) where
  -- the plan requires no more than the other list before the frame's inflow is taken off
  requires_less : served L (plan e y (f ∷ fs)) + z ≤ served L (c ∷ cs) + y →
      f.drain + budget e y f fs + requirement e fs
      (plan e (left f y (budget e y f fs)) fs) ≤ f.drain + c + requirement e fs cs
  unfolding plan requirement
  requires_less s =
      let b = budget e y f fs in
      let bs = plan e (left f y b) fs in
      let g = (feasible_fits e z (f ∷ fs) (c ∷ cs) q).0 in
      let n = f.drain + c + requirement e fs cs in
      sub_zero (f.drain + b + requirement e fs bs) n
      (least_requirement e L (y + f.inflow) n (filled f ∷ fs) (b ∷ bs) (c ∷ cs) w
      (omega (arith, o.0), open_less (y + f.inflow + 0) (z + f.inflow) fs (omega arith) o.1)
      (fill_feasible e y f fs b bs k) (fill_most e L y f fs (b ∷ bs) (plan_most e y (f ∷ fs)))
      (fits_feasible e n (filled f ∷ fs) (c ∷ cs)
      (record { low = g.0.low; high = g.0.high; holds = g.0.holds }, g.1) (omega arith)) (omega arith))
    where
      sub_zero : (a b : ℕ) → a - 0 ≤ b → a ≤ b
      sub_zero a b p = omega arith

  -- what the two have drawn and carry on stays in balance
  balance_on : served L (plan e y (f ∷ fs)) + z ≤ served L (c ∷ cs) + y →
      served L (plan e (left f y (budget e y f fs)) fs) + left f z c ≤ served L cs + left f y (budget e y f fs)
  unfolding plan served
  balance_on s =
      numbers (budget e y f fs) f.most f.drain f.inflow f.ceiling
      (served L (plan e (left f y (budget e y f fs)) fs)) (served L cs) k.0.high q.0.high w.0
      k.0.have q.0.have h o.0 s
    where
      plain : (b c d i s s' : ℕ) → d + b ≤ y + i → d + c ≤ z + i → b + s + z ≤ c + s' + y →
          s + (z + i - (d + c)) ≤ s' + (y + i - (d + b))
      plain b c d i s s' p q r = omega arith

      numbers : (b hi d i m s s' : ℕ) → b ≤ hi → c ≤ hi → hi ≤ L → d + b ≤ min m (y + i) → d + c ≤ min m (z + i) →
          y ≤ z → z + i ≤ m →
          min b L + s + z ≤ min c L + s' + y → s + (min m (z + i) - (d + c)) ≤ s' + (min m (y + i) - (d + b))
      numbers b hi d i m s s' p q w u v h o r =
          let ry : min m (y + i) ≡ y + i = omega arith in
          let rz : min m (z + i) ≡ z + i = omega arith in
          let mb : min b L ≡ b = omega arith in
          let mc : min c L ≡ c = omega arith in
          rw (ry, rz) (plain b c d i s s' (rw ry at u) (rw rz at v) (rw (mb, mc) at r))

-- other ceilings hold whatever the plan requires, if they hold what a list requires that serves as much
fits_open : (e L y z : ℕ) (fs gs : List Frame) (cs : List ℕ) → OtherCeilings fs gs → MostsWithin L fs → y ≤ z →
    Open z fs →
    Feasible e y fs (plan e y fs) → Feasible e z fs cs → MostServed e z fs cs →
    served L (plan e y fs) + z ≤ served L cs + y →
    Fits e gs cs → Fits e gs (plan e y fs)
unfolding plan
fits_open e L y z [] [] cs s w h o k q m t g = tt
fits_open e L y z [] (g₁ ∷ gs) cs s w h o k q m t g = absurd s
fits_open e L y z (f ∷ fs) [] cs s w h o k q m t g = absurd s
fits_open e L y z (f ∷ fs) (g₁ ∷ gs) [] s w h o k q m t g = absurd q
fits_open e L y z (f ∷ fs) (g₁ ∷ gs) (c ∷ cs) s w h o k q m t g =
    let b = budget e y f fs in
    let bs = plan e (left f y b) fs in
    let low = lowest_first e y z f fs c cs h q.0 q.1 m in
    let less = requires_less e L y z f fs c cs w h o k q t in (
      record {
        low = rw s.0.same_least k.0.low;
        high = rw s.0.same_most k.0.high;
        holds =
            holds_less g₁.drain f.drain b c g₁.ceiling (requirement e gs bs) (requirement e fs bs)
            (requirement e gs cs) (requirement e fs cs) s.0.same_drain (requirement_same e fs gs bs s.1)
            (requirement_same e fs gs cs s.1) less g.0.holds;
      },
      fits_open e L (left f y b) (left f z c) fs gs cs
          s.1 w.1 low (open_less (left f z c) (z + f.inflow) fs (omega arith) o.1) k.1 q.1
          (most_rest e z f fs c cs q.0 m) (balance_on e L y z f fs c cs w h o k q t) g.1,
    )
  where
    holds_less : (d d' b c m q q' r r' : ℕ) → d ≡ d' → q ≡ q' → r ≡ r' → d' + b + q' ≤ d' + c + r' → d + c + r ≤ m →
        d + b + q ≤ m
    holds_less d d' b c m q q' r r' p u v h k = omega arith

-- ceilings under which something serves as much as the open plan at every level let the open plan be drawn
pub ceilings_serve : (e L y : ℕ) (fs gs : List Frame) (cs : List ℕ) → OtherCeilings fs gs → MostsWithin L fs →
    Open y fs →
    Feasible e y gs cs → ((l : ℕ) → served l (plan e y fs) ≤ served l cs) → Feasible e y gs (plan e y fs)
ceilings_serve e L y fs gs cs s w o q h =
    let k = open_feasible e y y fs gs cs s o (le_refl y) q in
    let p = (plan_best e y 0 fs cs k).0 in
    fits_feasible e y gs (plan e y fs)
    (fits_open e L y y fs gs cs s w (le_refl y) o p k (λ ds d l. le_trans (plan_best e y l fs ds d).1 (h l))
    (omega (arith, h L)) (feasible_fits e y gs cs q).0)
    (rw (requirement_same e fs gs (plan e y fs) s) (feasible_fits e y fs (plan e y fs) p).1)
