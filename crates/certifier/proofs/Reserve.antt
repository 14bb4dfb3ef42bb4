-- The reserve of a level for the frames from a number on: what it is at a frame and at the end, and that it grows
-- with the level.
use mathlib.Core.Path.{◌≡◌}
use mathlib.Core.List.{List}
use Prim.Native.Nat.{ℕ, ◌+◌, ◌-◌, ◌≤◌, min}
use lib.ListN.{length, drop, drop_of_length-le}
use Rattle.model.specs.Frames.{Frame, reserve}
use Rattle.model.proofs.Reserve.{reserve_grows}
use Rattle.certifier.specs.Frame.{drawn, reserve_at, Read}

-- the reserve grows with the level
pub grows : (e : ℕ) (fs : List Frame) (i l m : ℕ) → l ≤ m → reserve_at e fs i l ≤ reserve_at e fs i m
unfolding reserve_at
grows e fs i l m h = reserve_grows e l m (drop i fs) h

-- the reserve before a frame, from that after it
pub at_frame : (e l : ℕ) {fs : List Frame} {i h m d lo hi : ℕ} → Read fs i h m d lo hi →
    reserve_at e fs i l ≡ min (m - h) (d + drawn lo hi l + reserve_at e fs (i + 1) l - h)
unfolding reserve_at reserve
at_frame e l r = rw r.is

-- past the last frame it is the end charge
pub at_end : (e : ℕ) (fs : List Frame) (i l : ℕ) → length fs ≤ i → reserve_at e fs i l ≡ e
unfolding reserve_at reserve
at_end e fs i l h = rw (drop_of_length-le fs {i = i} h)
