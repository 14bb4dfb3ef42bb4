-- Linear facts of whole numbers by `omega`: a whole number is split into its parts above and below zero, and each
-- operation gets one linear law.
use mathlib.Core.Path.{◌≡◌, refl, ap}
use mathlib.Core.Bool.{Bool, true, false, cond}
use Prim.Native.Nat.{ℕ, zero, suc, ◌+◌, ◌-◌, ◌≤◌, ◌<◌, min}
use native.Mathlib.Omega.{arith}
use lib.IntN.{ℤ, pos, negsuc, neg_ℤ, sub_ℕ, ◌+ℤ◌, ◌-ℤ◌}
use lib.Signed.{◌≤ℤ◌}
use lib.Dec.{ltb, leb→le, le→leb}
use borrow.Author.Tests.{ltb-true, ltb-false}

-- the part above zero
abbrev pub up : ℤ → ℕ
up (pos n) = n
up (negsuc n) = 0

-- the part below zero
abbrev pub down : ℤ → ℕ
down (pos n) = 0
down (negsuc n) = suc n

-- the difference of two natural numbers, by which is smaller
sub_by : (a b : ℕ) (t : Bool) → ltb a b ≡ t →
    up (cond t (negsuc (b - suc a)) (pos (a - b))) + b ≡ a + down (cond t (negsuc (b - suc a)) (pos (a - b)))
sub_by a b true e = omega (arith, ltb-true a b e)
sub_by a b false e = omega (arith, ltb-false a b e)

-- the difference of two natural numbers
sub_parts : (a b : ℕ) → up (sub_ℕ a b) + b ≡ a + down (sub_ℕ a b)
sub_parts a b = sub_by a b (ltb a b) refl

-- the opposite has the parts exchanged
neg_parts : (a : ℤ) → (up (neg_ℤ a) ≡ down a) × (down (neg_ℤ a) ≡ up a)
neg_parts (pos zero) = (refl, refl)
neg_parts (pos (suc n)) = (refl, refl)
neg_parts (negsuc n) = (refl, refl)

-- the sum
pub plus_parts : (a b : ℤ) → up (a +ℤ b) + (down a + down b) ≡ up a + up b + down (a +ℤ b)
plus_parts (pos a) (pos b) = omega arith
plus_parts (pos a) (negsuc b) = omega (arith, sub_parts a (suc b))
plus_parts (negsuc a) (pos b) = omega (arith, sub_parts b (suc a))
plus_parts (negsuc a) (negsuc b) = omega arith

-- the difference
pub minus_parts : (a b : ℤ) → up (a -ℤ b) + (down a + up b) ≡ up a + down b + down (a -ℤ b)
minus_parts a b = omega (arith, plus_parts a (neg_ℤ b), neg_parts b)

-- the order, as an order of parts
pub le_parts : (a b : ℤ) → a ≤ℤ b → up a + down b ≤ up b + down a
le_parts (pos a) (pos b) h = omega (arith, leb→le a b h.le)
le_parts (pos a) (negsuc b) h = absurd h.le
le_parts (negsuc a) (pos b) h = omega arith
le_parts (negsuc a) (negsuc b) h = omega (arith, leb→le b a h.le)

-- and back
pub parts_le : (a b : ℤ) → up a + down b ≤ up b + down a → a ≤ℤ b
parts_le (pos a) (pos b) h = record { le = le→leb a b (omega arith) }
parts_le (pos a) (negsuc b) h = absurd (omega arith)
parts_le (negsuc a) (pos b) h = record { le = tt }
parts_le (negsuc a) (negsuc b) h = record { le = le→leb b a (omega arith) }

-- numbers whose parts differ by the same are equal
pub parts_eq : (a b : ℤ) → up a + down b ≡ up b + down a → a ≡ b
parts_eq (pos a) (pos b) h = ap pos (omega arith)
parts_eq (pos a) (negsuc b) h = absurd (omega arith)
parts_eq (negsuc a) (pos b) h = absurd (omega arith)
parts_eq (negsuc a) (negsuc b) h = ap negsuc (omega arith)

-- one of the parts is 0
pub one_side : (a : ℤ) → min (up a) (down a) ≡ 0
one_side (pos n) = omega arith
one_side (negsuc n) = omega arith

-- the part above zero keeps the order
pub up_mono : (a b : ℤ) → a ≤ℤ b → up a ≤ up b
up_mono a b h = omega (arith, le_parts a b h, one_side a)

-- the order is reflexive
pub le_refl : (a : ℤ) → a ≤ℤ a
le_refl a = parts_le a a (omega arith)

-- transitive
pub le_trans : (a b c : ℤ) → a ≤ℤ b → b ≤ℤ c → a ≤ℤ c
le_trans a b c h k = parts_le a c (omega (arith, le_parts a b h, le_parts b c k))

-- and antisymmetric
pub le_antisym : (a b : ℤ) → a ≤ℤ b → b ≤ℤ a → a ≡ b
le_antisym a b h k = parts_eq a b (omega (arith, le_parts a b h, le_parts b a k))

-- equal numbers are in order
pub le_of_eq : (a b : ℤ) → a ≡ b → a ≤ℤ b
le_of_eq a b e = rw e (le_refl b)

-- natural numbers keep their order
pub pos_le : (m n : ℕ) → m ≤ n → pos m ≤ℤ pos n
pos_le m n h = parts_le (pos m) (pos n) (omega arith)

-- and have no other
pub le_pos : (m n : ℕ) → pos m ≤ℤ pos n → m ≤ n
le_pos m n h = omega (arith, le_parts (pos m) (pos n) h)

-- a difference of natural numbers that is not below zero
pub minus_pos : (a b : ℕ) → b ≤ a → pos a -ℤ pos b ≡ pos (a - b)
minus_pos a b h = parts_eq (pos a -ℤ pos b) (pos (a - b)) (omega (arith, minus_parts (pos a) (pos b)))

-- and one that is
pub minus_neg : (a b : ℕ) → a < b → pos a -ℤ pos b ≡ negsuc (b - suc a)
minus_neg a b h = parts_eq (pos a -ℤ pos b) (negsuc (b - suc a)) (omega (arith, minus_parts (pos a) (pos b)))

-- differences of natural numbers are ordered as sums
pub pos_minus_le : (a b c d : ℕ) → a + d ≤ c + b → (pos a -ℤ pos b) ≤ℤ (pos c -ℤ pos d)
pos_minus_le a b c d h =
    parts_le (pos a -ℤ pos b) (pos c -ℤ pos d)
    (omega (arith, minus_parts (pos a) (pos b), minus_parts (pos c) (pos d)))

-- sums keep the order
pub plus_mono : (a b c d : ℤ) → a ≤ℤ b → c ≤ℤ d → (a +ℤ c) ≤ℤ (b +ℤ d)
plus_mono a b c d h k =
    parts_le (a +ℤ c) (b +ℤ d) (omega (arith, plus_parts a c, plus_parts b d, le_parts a b h, le_parts c d k))

-- two sums are added part by part
pub plus_swap : (a b c d : ℤ) → (a +ℤ b) +ℤ (c +ℤ d) ≡ (a +ℤ c) +ℤ (b +ℤ d)
plus_swap a b c d =
    parts_eq ((a +ℤ b) +ℤ (c +ℤ d)) ((a +ℤ c) +ℤ (b +ℤ d))
    (omega (
      arith,
      plus_parts a b,
      plus_parts c d,
      plus_parts (a +ℤ b) (c +ℤ d),
      plus_parts a c,
      plus_parts b d,
      plus_parts (a +ℤ c) (b +ℤ d),
    ))

-- a number at least a is a and a natural number
pub rise_is : (a b : ℤ) → a ≤ℤ b → b ≡ pos (up (b -ℤ a)) +ℤ a
rise_is a b h =
    let d = pos (up (b -ℤ a)) in
    parts_eq b (d +ℤ a) (omega (arith, plus_parts d a, minus_parts b a, le_parts a b h, one_side (b -ℤ a)))
