-- The reserve of a level: a store below it wants every unit, a store at it misses none below that level, and no unit
-- is worth more than one.
use mathlib.Core.Path.{◌≡◌}
use mathlib.Core.Logic.{◌⊎◌, inl, inr, ⊎_elim}
use mathlib.Core.List.{List, [], ◌∷◌}
use Prim.Native.Nat.{ℕ, zero, suc, ◌+◌, ◌-◌, ◌≤◌, ◌<◌, min, max}
use native.Mathlib.Nat.{le_refl, le_trans}
use native.Mathlib.Omega.{arith}
use Rattle.model.specs.Frames.{Frame, room, left, Allowed, Feasible, draw, reserve, served}
use Rattle.model.proofs.Order.{le_or_lt}
use Rattle.model.proofs.Feasibility.{more}

not_both : (a b : ℕ) → a < b → b ≤ a → ⊥
not_both a b p q = omega arith

below_both : (y m r i : ℕ) → y < min (m - i) (r - i) → (y + i < m) × (y + i < r)
below_both y m r i k = (omega arith, omega arith)

at_either : (y m r i : ℕ) → min (m - i) (r - i) ≤ y → (m ≤ y + i) ⊎ (r ≤ y + i)
at_either y m r i k = ⊎_elim (λ (p : m ≤ y + i). inl p) (λ (p : y + i < m). inr (omega arith)) (le_or_lt m (y + i))

-- what it means to be below a frame's reserve, and to be at it
pub below_reserve : (e y l : ℕ) (f : Frame) (fs : List Frame) → y < reserve e l (f ∷ fs) →
    (y + f.inflow < f.ceiling) × (y + f.inflow < f.drain + draw f l + reserve e l fs)
unfolding reserve
below_reserve e y l f fs h = below_both y f.ceiling (f.drain + draw f l + reserve e l fs) f.inflow h

pub at_reserve : (e y l : ℕ) (f : Frame) (fs : List Frame) → reserve e l (f ∷ fs) ≤ y →
    (f.ceiling ≤ y + f.inflow) ⊎ (f.drain + draw f l + reserve e l fs ≤ y + f.inflow)
unfolding reserve
at_reserve e y l f fs h = at_either y f.ceiling (f.drain + draw f l + reserve e l fs) f.inflow h

-- at the reserve of a frame that is not full, there is enough for the level and the reserve of the rest
pub not_full : (e y l : ℕ) (f : Frame) (fs : List Frame) → reserve e l (f ∷ fs) ≤ y → y + f.inflow < f.ceiling →
    f.drain + draw f l + reserve e l fs ≤ y + f.inflow
not_full e y l f fs h p =
    ⊎_elim
    (λ (q : f.ceiling ≤ y + f.inflow). absurd (not_both (y + f.inflow) f.ceiling p q))
    (λ (q : f.drain + draw f l + reserve e l fs ≤ y + f.inflow). q)
    (at_reserve e y l f fs h)

grows_step : (c d i x x' r r' : ℕ) → x ≤ x' → r ≤ r' → min c (d + x + r - i) ≤ min c (d + x' + r' - i)
grows_step c d i x x' r r' p q = omega arith

-- the reserve grows with the level
pub reserve_grows : (e l m : ℕ) (fs : List Frame) → l ≤ m → reserve e l fs ≤ reserve e m fs
unfolding reserve
reserve_grows e l m [] h = le_refl _
reserve_grows e l m (f ∷ fs) h =
    grows_step (f.ceiling - f.inflow) f.drain f.inflow (draw f l) (draw f m) (reserve e l fs) (reserve e m fs)
    (omega arith)
    (reserve_grows e l m fs h)

-- a list feasible from a charge, serving at a level at least a given amount
abbrev pub Serving : ℕ → ℕ → List Frame → ℕ → ℕ → Type 0
Serving e y fs l n = (c : List ℕ) × Feasible e y fs c × (n ≤ served l c)

-- the unit is drawn in this frame
poor_here : (e y l m : ℕ) (f : Frame) (fs : List Frame) (b : ℕ) (bs : List ℕ) → y < reserve e m (f ∷ fs) → b < l →
    b < f.most →
    Allowed f y b → Feasible e (left f y b) fs bs → Serving e (suc y) (f ∷ fs) l (suc (served l (b ∷ bs)))
unfolding served
poor_here e y l m f fs b bs h p q a k =
    let g = below_reserve e y m f fs h in (
      suc b ∷ bs,
      (
        record { low = omega arith; high = omega arith; have = omega arith },
        more e (left f y b)
            (left f (suc y) (suc b)) fs bs (omega arith) k,
      ),
      omega arith,
    )

-- the unit is carried on
poor_on : (e y l m : ℕ) (f : Frame) (fs : List Frame) (b : ℕ) (bs : List ℕ) → y < reserve e m (f ∷ fs) → draw f m ≤ b →
    Allowed f y b → (left f y b < reserve e m fs → Serving e (suc (left f y b)) fs l (suc (served l bs))) →
    Serving e (suc y) (f ∷ fs) l (suc (served l (b ∷ bs)))
unfolding served
poor_on e y l m f fs b bs h p a ih =
    let g = below_reserve e y m f fs h in
    let low : f.least ≤ b = a.low in
    let have : f.drain + b ≤ y + f.inflow = omega (arith, a.have) in
    let r = ih (omega arith) in (
      b ∷ r.0,
      (
        record { low = a.low; high = a.high; have = omega arith },
        more e (suc (left f y b))
            (left f (suc y) b) fs r.0 (omega arith) r.1,
      ),
      omega (arith, r.2),
    )

-- a poor store wants every unit: below the reserve of level m, one unit more serves one more at every level from m on
pub poor : (e y l m : ℕ) (fs : List Frame) (bs : List ℕ) → m ≤ l → y < reserve e m fs → Feasible e y fs bs →
    Serving e (suc y) fs l (suc (served l bs))
unfolding reserve
poor e y l m [] [] s h k = absurd (not_both y e h k)
poor e y l m [] (b ∷ bs) s h k = absurd k
poor e y l m (f ∷ fs) [] s h k = absurd k
poor e y l m (f ∷ fs) (b ∷ bs) s h k =
    ⊎_elim
    (λ (p : min l f.most ≤ b). poor_on e y l m f fs b bs h (omega (arith, k.0.low)) k.0
    (λ q. poor e (left f y b) l m fs bs s q k.1))
    (λ (p : b < min l f.most). poor_here e y l m f fs b bs h (omega arith) (omega arith) k.0 k.1)
    (le_or_lt (min l f.most) b)

-- the same n times over, while the store stays below the reserve
pub poor_times : (e y l m n : ℕ) (fs : List Frame) (bs : List ℕ) → m ≤ l → y + n ≤ reserve e m fs →
    Feasible e y fs bs →
    Serving e (y + n) fs l (served l bs + n)
poor_times e y l m zero fs bs s h k = (bs, more e y (y + 0) fs bs (omega arith) k, omega arith)
poor_times e y l m (suc n) fs bs s h k =
    let r = poor_times e y l m n fs bs s (omega arith) k in
    let q = poor e (y + n) l m fs r.0 s (omega arith) r.1 in
    (q.0, more e (suc (y + n)) (y + suc n) fs q.0 (omega arith) q.1, omega (arith, r.2, q.2))

-- a full store serves whatever any charge serves
rich_full : (e y y' l : ℕ) (f : Frame) (fs : List Frame) (b : ℕ) (bs : List ℕ) → f.ceiling ≤ y + f.inflow →
    Allowed f y' b →
    Feasible e (left f y' b) fs bs → Serving e y (f ∷ fs) l (served l (b ∷ bs))
rich_full e y y' l f fs b bs h a k =
    let g : room f y' ≤ room f y = omega arith in (
      b ∷ bs,
      (
        record { low = a.low; high = a.high; have = omega arith },
        more e (left f y' b) (left f y b) fs bs
            (omega arith) k,
      ),
      le_refl _,
    )

-- drawing no more than level m misses nothing at level l ≤ m
capped_draw : (lo hi l m b : ℕ) → l ≤ m → b ≤ hi → min b l ≤ min b (max lo (min hi m))
capped_draw lo hi l m b h k = omega arith

-- a store that is not full draws at most level m here and keeps its reserve
rich_on : (e y l m : ℕ) (f : Frame) (fs : List Frame) (b : ℕ) (bs : List ℕ) → l ≤ m → y + f.inflow < f.ceiling →
    f.drain + draw f m + reserve e m fs ≤ y + f.inflow → f.least ≤ b → b ≤ f.most →
    ((z : ℕ) → reserve e m fs ≤ z → Serving e z fs l (served l bs)) → Serving e y (f ∷ fs) l (served l (b ∷ bs))
unfolding served
rich_on e y l m f fs b bs s p₀ h low high ih =
    let x = min b (draw f m) in
    let u : room f y ≡ y + f.inflow = omega arith in
    let p : min b l ≤ x = capped_draw f.least f.most l m b s high in
    let q : (f.least ≤ x) × (x ≤ b) × (x ≤ draw f m) = (omega arith, omega arith, omega arith) in
    let r = ih (left f y x)
    (carries f.drain (draw f m) x (reserve e m fs) (y + f.inflow) (room f y) u h q.2) in (
      x ∷ r.0,
      (
        record {
          low = q.0;
          high = le_trans q.1 high;
          have =
              has f.drain (draw f m) x (reserve e m fs) (y + f.inflow) (room f y) u h q.2;
        },
        r.1,
      ),
      sums
          (min b l) x l (served l bs) (served l r.0) p (omega arith) r.2,
    )
  where
    carries : (d w x r a room : ℕ) → room ≡ a → d + w + r ≤ a → x ≤ w → r ≤ room - (d + x)
    carries d w x r a room p q s = omega arith

    has : (d w x r a room : ℕ) → room ≡ a → d + w + r ≤ a → x ≤ w → d + x ≤ room
    has d w x r a room p q s = omega arith

    sums : (v x l s s' : ℕ) → v ≤ x → v ≤ l → s ≤ s' → v + s ≤ min x l + s'
    sums v x l s s' p q r = omega arith

-- a rich store wants nothing at that level: at the reserve of level m it serves, at every level up to m, whatever any
-- charge serves
pub rich : (e y y' l m : ℕ) (fs : List Frame) (bs : List ℕ) → l ≤ m → reserve e m fs ≤ y → Feasible e y' fs bs →
    Serving e y fs l (served l bs)
unfolding reserve
rich e y y' l m [] [] s h k = ([], h, le_refl _)
rich e y y' l m [] (b ∷ bs) s h k = absurd k
rich e y y' l m (f ∷ fs) [] s h k = absurd k
rich e y y' l m (f ∷ fs) (b ∷ bs) s h k =
    ⊎_elim
    (λ (p : f.ceiling ≤ y + f.inflow). rich_full e y y' l f fs b bs p k.0 k.1)
    (λ (p : y + f.inflow < f.ceiling).
    rich_on e y l m f fs b bs s p (not_full e y m f fs h p) k.0.low k.0.high
    (λ z q. rich e z (left f y' b) l m fs bs s q k.1))
    (le_or_lt f.ceiling (y + f.inflow))

-- the missing unit is drawn less in this frame
unit_here : (e y l : ℕ) (f : Frame) (fs : List Frame) (b : ℕ) (bs : List ℕ) → y + f.inflow < f.ceiling →
    f.least < b →
    Allowed f (suc y) b → Feasible e (left f (suc y) b) fs bs → Serving e y (f ∷ fs) l (served l (b ∷ bs) - 1)
unfolding served
unit_here e y l f fs b bs p q a k = (
  (b - 1) ∷ bs,
  (
    record { low = omega arith; high = omega (arith, a.high); have = omega (arith, a.have) },
    more e
        (left f (suc y) b) (left f y (b - 1)) fs bs (omega (arith, a.have)) k,
  ),
  omega arith,
)

-- the missing unit is carried on; w is what is feasible without it
unit_on : (e y l : ℕ) (f : Frame) (fs : List Frame) (b w : ℕ) (bs ws : List ℕ) → y + f.inflow < f.ceiling →
    b ≤ f.least →
    Allowed f y w → Feasible e (left f y w) fs ws → Allowed f (suc y) b →
    (Feasible e (left f y b) fs ws → Serving e (left f y b) fs l (served l bs - 1)) →
    Serving e y (f ∷ fs) l (served l (b ∷ bs) - 1)
unfolding served
unit_on e y l f fs b w bs ws p q a k v ih =
    let r = ih (more e (left f y w) (left f y b) fs ws (omega (arith, a.low)) k) in (
      b ∷ r.0,
      (record { low = v.low; high = v.high; have = omega (arith, a.low, a.have) }, r.1),
      omega
          (arith, r.2),
    )

-- a unit is worth at most one: what is served with one unit more is served without it, less one at most
pub unit : (e y l : ℕ) (fs : List Frame) (ws bs : List ℕ) → Feasible e y fs ws → Feasible e (suc y) fs bs →
    Serving e y fs l (served l bs - 1)
unit e y l [] [] [] w k = ([], w, omega arith)
unit e y l [] [] (b ∷ bs) w k = absurd k
unit e y l [] (x ∷ ws) bs w k = absurd w
unit e y l (f ∷ fs) [] bs w k = absurd w
unit e y l (f ∷ fs) (x ∷ ws) [] w k = absurd k
unit e y l (f ∷ fs) (x ∷ ws) (b ∷ bs) w k =
    ⊎_elim
    (λ (p : f.ceiling ≤ y + f.inflow). less_one (rich_full e y (suc y) l f fs b bs p k.0 k.1))
    (λ (p : y + f.inflow < f.ceiling).
    ⊎_elim
    (λ (q : b ≤ f.least).
    unit_on e y l f fs b x bs ws p q w.0 w.1 k.0
    (λ v. unit e (left f y b) l fs ws bs v (more e (left f (suc y) b) (suc (left f y b)) fs bs (omega arith) k.1)))
    (λ (q : f.least < b). unit_here e y l f fs b bs p q k.0 k.1)
    (le_or_lt b f.least))
    (le_or_lt f.ceiling (y + f.inflow))
  where
    less_one : Serving e y (f ∷ fs) l (served l (b ∷ bs)) → Serving e y (f ∷ fs) l (served l (b ∷ bs) - 1)
    less_one s = (s.0, s.1, omega (arith, s.2))

-- the same n times over
pub unit_times : (e y l n : ℕ) (fs : List Frame) (ws bs : List ℕ) → Feasible e y fs ws → Feasible e (y + n) fs bs →
    Serving e y fs l (served l bs - n)
unit_times e y l zero fs ws bs w k = (bs, more e (y + 0) y fs bs (omega arith) k, omega arith)
unit_times e y l (suc n) fs ws bs w k =
    let r = unit e (y + n) l fs ws bs (more e y (y + n) fs ws (omega arith) w)
    (more e (y + suc n) (suc (y + n)) fs bs (omega arith) k) in
    let q = unit_times e y l n fs ws r.0 w r.1 in
    (q.0, q.1, omega (arith, r.2, q.2))
