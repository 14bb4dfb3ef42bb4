-- What the search for a budget finds, and that this fixes the budget.
use mathlib.Core.Path.{◌≡◌, refl, ap}
use mathlib.Core.Logic.{⊎_elim}
use mathlib.Core.Bool.{Bool, true, false}
use mathlib.Core.List.{List}
use Prim.Native.Nat.{ℕ, zero, suc, ◌+◌, ◌-◌, ◌≤◌, ◌<◌, min, max}
use native.Mathlib.Nat.{le_refl}
use native.Mathlib.Omega.{arith}
use lib.Dec.{leb}
use borrow.Author.Tests.{leb-true, leb-false}
use Rattle.model.specs.Frames.{Frame, room, reserve, largest, budget}
use Rattle.model.proofs.Order.{le_or_lt}
use Rattle.model.proofs.Reserve.{reserve_grows}

-- b is the largest budget from lo on and up to top that leaves the reserve of one level below it, of what the frame
-- has (a)
pub record IsLargest (e : ℕ) (fs : List Frame) (a lo top b : ℕ) : Type 0 where
  pub low : lo ≤ b
  pub high : b ≤ max lo top
  -- every level below b leaves its reserve
  pub taken : (x : ℕ) → lo ≤ x → x < b → suc x + reserve e x fs ≤ a
  -- no level from b on does
  pub refused : (x : ℕ) → b ≤ x → x < top → a ≤ x + reserve e x fs

at_level : (e x z : ℕ) (fs : List Frame) → x ≡ z → reserve e x fs ≡ reserve e z fs
at_level e x z fs p = ap (λ (n : ℕ). reserve e n fs) p

pub largest_is : (e : ℕ) (fs : List Frame) (a lo n : ℕ) → IsLargest e fs a lo (lo + n) (largest e fs a lo n)
unfolding largest
largest_is e fs a lo zero =
    record {
      low = omega arith;
      high = omega arith;
      taken = λ x p q. absurd (none x p q);
      refused =
          λ x p q. absurd (over x p q);
    }
  where
    none : (x : ℕ) → lo ≤ x → x < lo → ⊥
    none x p q = omega arith

    over : (x : ℕ) → lo ≤ x → x < lo + 0 → ⊥
    over x p q = omega arith
largest_is e fs a lo (suc n) = go (leb (lo + suc n + reserve e (lo + n) fs) a) refl (largest_is e fs a lo n)
  where
    go : (t : Bool) → leb (lo + suc n + reserve e (lo + n) fs) a ≡ t →
        IsLargest e fs a lo (lo + n) (largest e fs a lo n) →
        IsLargest e fs a lo (lo + suc n) (elim t [ true ↦ lo + suc n | false ↦ largest e fs a lo n ])
    go true q i =
        record {
          low = omega arith;
          high = omega arith;
          taken = λ x p k. omega (arith, leb-true, reserve_grows e x (lo + n) fs (omega arith));
          refused = λ x p k. absurd (over x p k);
        }
      where
        over : (x : ℕ) → lo + suc n ≤ x → x < lo + suc n → ⊥
        over x p k = omega arith
    go false q i =
        record {
          low = i.low;
          high = omega (arith, i.high);
          taken = i.taken;
          refused = λ x p k.
              ⊎_elim
              (λ (z : lo + n ≤ x). omega (arith, leb-false, at_level e x (lo + n) fs (omega arith)))
              (λ (z : x < lo + n). i.refused x p z)
              (le_or_lt (lo + n) x);
        }

whole : (e : ℕ) (fs : List Frame) (a lo top : ℕ) → IsLargest e fs a lo top (largest e fs a lo (top - lo))
whole e fs a lo top =
    let i = largest_is e fs a lo (top - lo) in
    record {
      low = i.low;
      high = omega (arith, i.high);
      taken = i.taken;
      refused =
          λ x p q. i.refused x p (omega (arith, i.low));
    }

-- the plan's budget is the largest of its frame
pub budget_is : (e y : ℕ) (f : Frame) (fs : List Frame) →
    IsLargest e fs (room f y - f.drain) f.least (min f.most (room f y - f.drain)) (budget e y f fs)
unfolding budget
budget_is e y f fs = whole e fs (room f y - f.drain) f.least (min f.most (room f y - f.drain))

-- only one number is the largest budget
below_largest : (e : ℕ) (fs : List Frame) (a lo top b c : ℕ) → IsLargest e fs a lo top b → IsLargest e fs a lo top c →
    b < c → ⊥
below_largest e fs a lo top b c i j h =
    let low : lo ≤ b = i.low in
    let high : c ≤ max lo top = j.high in
    let t = j.taken b low h in
    let r = i.refused b (le_refl b) (omega arith) in
    omega arith

pub one_largest : (e : ℕ) (fs : List Frame) (a lo top b c : ℕ) → IsLargest e fs a lo top b →
    IsLargest e fs a lo top c → b ≡ c
one_largest e fs a lo top b c i j =
    ⊎_elim
    (λ (p : b ≤ c).
    ⊎_elim
    (λ (q : c ≤ b). same b c p q)
    (λ (q : b < c). absurd (below_largest e fs a lo top b c i j q))
    (le_or_lt c b))
    (λ (p : c < b). absurd (below_largest e fs a lo top c b j i p))
    (le_or_lt b c)
  where
    same : (b c : ℕ) → b ≤ c → c ≤ b → b ≡ c
    same b c p q = omega arith

-- a budget is the largest if it leaves the reserve of one level below it and one unit more would not leave its own
pub largest_found : (e : ℕ) (fs : List Frame) (a lo top b : ℕ) → lo ≤ b → b ≤ max lo top →
    (lo < b → b + reserve e (b - 1) fs ≤ a) →
    (b < top → a ≤ b + reserve e b fs) → IsLargest e fs a lo top b
largest_found e fs a lo top b low high t r =
    record {
      low = low;
      high = high;
      taken = λ x p q. omega (arith, t (omega arith), reserve_grows e x (b - 1) fs (omega arith));
      refused = λ x p q. omega (arith, r (omega arith), reserve_grows e b x fs p);
    }
