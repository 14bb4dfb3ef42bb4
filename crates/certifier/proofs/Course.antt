-- From frame to frame along certified levels: what comes into a frame lies between the needs of its level and of
-- one level more.
use mathlib.Core.Path.{◌≡◌, refl}
use mathlib.Core.Logic.{⊎_elim}
use mathlib.Core.List.{List, [], ◌∷◌}
use Prim.Native.Nat.{ℕ, ◌+◌, ◌-◌, ◌≤◌, ◌<◌, min}
use native.Mathlib.Omega.{arith}
use lib.ListN.{length, drop, set, get_or}
use Rattle.std.proofs.lemmas.List.{drop_more, drop-set-lt}
use Rattle.model.specs.Frames.{Frame, reserve}
use Rattle.model.proofs.Order.{le_or_lt}
use Rattle.model.proofs.Reserve.{reserve_grows}
use Rattle.certifier.specs.Frame.{frame, Read}
use Rattle.certifier.specs.Course.{need, Bounded, Steady, Turn, Turns, Course, CourseFrom}
use Rattle.certifier.specs.Course.{Within, Starts, StartsFrom, Certified}

-- the reserve before a frame, by what the frame needs
pub reserve_frame : (e l : ℕ) (f : Frame) (fs : List Frame) →
    reserve e l (f ∷ fs) ≡ min (f.ceiling - f.inflow) (need e l f fs - f.inflow)
unfolding reserve
reserve_frame e l f fs = refl

-- a charge at the reserve of a level gives what the level needs, and one not above the reserve of one level more, or a
-- full store, no more than that level needs
pub enters : {e n a : ℕ} {f : Frame} {fs : List Frame} (y : ℕ) → Steady e f fs n a → reserve e n (f ∷ fs) ≤ y →
    (Bounded n → min y (f.ceiling - f.inflow) ≤ reserve e (n + 1) (f ∷ fs)) →
    Within e y f fs n
enters {e} {n} {a} {f} {fs} y s low high =
    record {
      rich = omega (arith, reserve_frame e n f fs, s.rich, low);
      poor = λ b. no_more f.ceiling f.inflow (reserve_frame e (n + 1) f fs) (s.poor b) (high b);
    }
  where
    no_more : {q v : ℕ} (m h : ℕ) → v ≡ min (m - h) (q - h) → min m h ≤ q → min y (m - h) ≤ v → min m (y + h) ≤ q
    no_more m h s k l = omega arith

-- a charge y between the reserves of level l and of one level more, before a frame of level n
module _ {e l n : ℕ} {f : Frame} {fs : List Frame} (y : ℕ) (turn : Turn e f fs l n) (low : reserve e l (f ∷ fs) ≤ y)
    (high : Bounded l → y ≤ reserve e (l + 1) (f ∷ fs)) where
  turn_low : reserve e n (f ∷ fs) ≤ y
  turn_low =
      ⊎_elim
      (λ (p : n ≤ l). omega (arith, low, reserve_grows e n l (f ∷ fs) p))
      (λ (p : l < n). omega (arith, turn.empty p))
      (le_or_lt n l)

  turn_high : Bounded n → min y (f.ceiling - f.inflow) ≤ reserve e (n + 1) (f ∷ fs)
  turn_high b =
      ⊎_elim
      (λ (p : l ≤ n). omega (arith, high (omega arith), reserve_grows e (l + 1) (n + 1) (f ∷ fs) (omega arith)))
      (λ (p : n < l). omega (arith, turn.full p))
      (le_or_lt l n)

-- so the next frame starts with its level
starts_on : (e l z : ℕ) (fs : List Frame) (ls rs : List ℕ) → Turns e fs l ls → Course e fs ls rs →
    reserve e l fs ≤ z →
    (Bounded l → z ≤ reserve e (l + 1) fs) → Starts e z fs ls
starts_on e l z [] ls rs t c low high = tt
starts_on e l z (f ∷ fs) [] rs t c low high = absurd t
starts_on e l z (f ∷ fs) (n ∷ ls) [] t c low high = absurd c
starts_on e l z (f ∷ fs) (n ∷ ls) (a ∷ rs) t c low high = enters z c.0 (turn_low z t low high)
    (turn_high z t low high)

-- what a certificate says at frame i
pub record First (e y : ℕ) (fs : List Frame) (i : ℕ) (ls rs : List ℕ) (f : Frame) : Type 0 where
  pub within : Within e y f (drop (i + 1) fs) (get_or ls i 0)
  pub after : get_or rs i 0 ≡ reserve e (get_or ls i 0) (drop (i + 1) fs)
  pub turns : Turns e (drop (i + 1) fs) (get_or ls i 0) (drop (i + 1) ls)
  pub course : CourseFrom e fs (i + 1) ls rs

module _ {e y : ℕ} {fs : List Frame} {i : ℕ} (ls rs : List ℕ) where
  pub first : {h m d lo hi : ℕ} → Read fs i h m d lo hi → i < length ls → i < length rs → Certified e y fs i ls rs →
      First e y fs i ls rs (frame h m d lo hi)
  unfolding CourseFrom StartsFrom
  first read p q c =
      let s = rw (read.is, drop_more ls i 0 p) at c.starts in
      let k = rw (read.is, drop_more ls i 0 p, drop_more rs i 0 q) at c.course in
      record { within = s; after = k.0.after; turns = k.1; course = k.2 }

  -- and that it holds again at the next frame, from a charge between the reserves, when a budget has been written
  -- over the level
  pub onward : {f : Frame} (b z : ℕ) → First e y fs i ls rs f → reserve e (get_or ls i 0) (drop (i + 1) fs) ≤ z →
      (Bounded (get_or ls i 0) → z ≤ reserve e (get_or ls i 0 + 1) (drop (i + 1) fs)) →
      Certified e z fs (i + 1) (set ls i b) rs
  unfolding CourseFrom StartsFrom
  onward b z c low high =
      record {
        starts =
            rw (drop-set-lt (i + 1) ls i b (omega arith))
            (starts_on e (get_or ls i 0) z (drop (i + 1) fs) (drop (i + 1) ls) (drop (i + 1) rs) c.turns
            c.course low high);
        course = rw (drop-set-lt (i + 1) ls i b (omega arith)) c.course;
      }
