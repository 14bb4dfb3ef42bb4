-- One frame in signed 64-bit numbers: nothing wraps, and the results are the charge after the frame and what it loses.
use mathlib.Core.Path.{◌≡◌}
use mathlib.Core.Bool.{Bool, true, false}
use Prim.Native.Nat.{ℕ, ◌+◌, ◌-◌, ◌≤◌, ◌<◌, ◌^◌}
use native.Mathlib.Omega.{arith}
use lib.IntN.{ℤ, pos, negsuc, ◌+ℤ◌, ◌-ℤ◌}
use lib.Signed.{mag, le_z}
use mir.Syntax.{w64}
use mir.Val.{to_z, of_z}
use mir.Facts.{to_z_pos, to_z-of_z}
use Rattle.model.specs.Choice.{pick}
use Rattle.model.specs.Trace.{at_hand_z, traced_end}
use Rattle.model.specs.declared.frame.TracedEnd.{TracedEnd}
use Rattle.model.proofs.Integers.{up, down, plus_parts, minus_parts, one_side}

-- a number that is not too large, widened
pub wide : (n : ℕ) → n < 2 ^ 33 → to_z w64 n ≡ pos n
wide n h = to_z_pos w64 (omega arith)

-- so a 32-bit number
pub widen : (n : ℕ) → n < 2 ^ 32 → to_z w64 n ≡ pos n
widen n h = wide n (omega arith)

-- a number in range, stored and read back
pub back : (x : ℤ) → mag x < 2 ^ 63 → to_z w64 (of_z w64 x) ≡ x
back x h = to_z-of_z {w = w64} (record { sfits = h })

-- the size of a number by its parts
mag_is : (a : ℤ) → mag a ≡ up a + (down a - 1)
mag_is (pos n) = omega arith
mag_is (negsuc n) = omega arith

-- a natural number added
mag_plus : (x : ℤ) (n : ℕ) → mag (x +ℤ pos n) ≤ mag x + n
mag_plus x n = omega (arith, plus_parts x (pos n), mag_is x, mag_is (x +ℤ pos n), one_side x, one_side (x +ℤ pos n))

-- a natural number taken away
mag_minus : (x : ℤ) (n : ℕ) → mag (x -ℤ pos n) ≤ mag x + n
mag_minus x n = omega (arith, minus_parts x (pos n), mag_is x, mag_is (x -ℤ pos n), one_side x, one_side (x -ℤ pos n))

-- what a frame ends with as a record
abbrev pub ended : ℤ → ℕ → TracedEnd
ended y l = record { charge = y; lost = l }

-- a choice is no larger than both together
mag_pick : (t : Bool) (a b : ℤ) → mag (pick t a b) ≤ mag a + mag b
mag_pick true a b = omega arith
mag_pick false a b = omega arith

-- how far one frame moves the charge
pub after_small : (c : ℕ) (x : ℤ) (h b : ℕ) → c < 2 ^ 32 → h < 2 ^ 32 → b < 2 ^ 33 →
    mag (traced_end c x h b).charge < mag x + 2 ^ 34
after_small c x h b fc fh fb =
    let y = at_hand_z c x h -ℤ pos b in
    omega (arith, mag_pick (le_z (pos c) y) (pos c) y, mag_plus x h, mag_minus (at_hand_z c x h) b)
