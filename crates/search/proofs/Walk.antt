-- Drawing a level frame after frame: what fails or goes on from where it has come to, does so from the start.
use mathlib.Core.Path.{◌≡◌, refl, sym}
use mathlib.Core.Bool.{Bool, true, false, false≢true}
use mathlib.Core.List.{List}
use Prim.Native.Nat.{ℕ, ◌+◌, ◌-◌, ◌≤◌, ◌<◌, ◌^◌, min}
use native.Mathlib.Omega.{arith}
use lib.ListN.{length}
use Rattle.model.specs.Frames.{Frame}
use Rattle.certifier.specs.Frame.{reserve_at, drawn, Read}
use Rattle.search.specs.Search.{Scanned}
use Rattle.certifier.proofs.Reserve.{at_frame, at_end}

-- drawn from a charge at frame i on, the level has come to frame k with charge y
pub record Walk (e : ℕ) (fs : List Frame) (i charge l k y : ℕ) : Type 0 where
  pub charge_fits : y ≤ 2 ^ 33
  pub keeps : reserve_at e fs k l ≤ y → reserve_at e fs i l ≤ charge
  pub drops : y < reserve_at e fs k l → charge < reserve_at e fs i l

-- nothing is drawn yet
pub start : (e : ℕ) (fs : List Frame) (i y l : ℕ) → y ≤ 2 ^ 33 → Walk e fs i y l i y
start e fs i y l h = record { charge_fits = h; keeps = λ k. k; drops = λ k. k }

module _ {e : ℕ} {fs : List Frame} {i charge l k y : ℕ} (walk : Walk e fs i charge l k y) where
  -- the level goes on, or it fails
  goes : reserve_at e fs k l ≤ y → Scanned e fs i charge l true
  goes p = record { goes = λ _. walk.keeps p; fails = λ z. absurd (false≢true (sym z)) }

  fails : y < reserve_at e fs k l → Scanned e fs i charge l false
  fails p = record { goes = λ z. absurd (false≢true z); fails = λ _. walk.drops p }

  -- past the last frame the charge decides
  pub ends : (ok : Bool) → (ok ≡ true → e ≤ y) → (ok ≡ false → y < e) → length fs ≤ k → Scanned e fs i charge l ok
  ends true p q n = goes (omega (arith, at_end e fs k l n, p refl))
  ends false p q n = fails (omega (arith, at_end e fs k l n, q refl))

  module _ {h m d lo hi : ℕ} (read : Read fs k h m d lo hi) where
    -- the store is full
    pub full : m ≤ y + h → Scanned e fs i charge l true
    full f = goes (omega (arith, at_frame e l read))

    -- the frame cannot take the level
    pub dry : (w : ℕ) → w ≡ drawn lo hi l → y + h < m → y + h < d + w → Scanned e fs i charge l false
    dry w z f p = fails (omega (arith, at_frame e l read))

    -- the frame takes it
    pub on : (w : ℕ) → w ≡ drawn lo hi l → y + h < m → d + w ≤ y + h → Walk e fs i charge l (k + 1) (y + h - (d + w))
    on w z f p =
        let q : reserve_at e fs k l ≡ min (m - h) (d + w + reserve_at e fs (k + 1) l - h) = rw z (at_frame e l read) in
        record {
          charge_fits = omega (arith, read.plain.ceiling_fits);
          keeps = λ v. walk.keeps (omega arith);
          drops = λ v. walk.drops (omega arith);
        }
