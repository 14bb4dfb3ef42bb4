-- What a certified frame spends is the plan's budget, and leaves a charge between the reserves of its level and of
-- one level more.
use mathlib.Core.Path.{◌≡◌, refl}
use mathlib.Core.Logic.{⊎_elim}
use mathlib.Core.List.{List}
use Prim.Native.Nat.{ℕ, ◌+◌, ◌-◌, ◌≤◌, ◌<◌, ◌^◌, min}
use native.Mathlib.Nat.{le_refl}
use native.Mathlib.Omega.{arith}
use lib.ListN.{length, drop, set, get_or}
use Rattle.model.specs.Frames.{Frame}
use Rattle.model.proofs.Order.{le_or_lt}
use Rattle.certifier.specs.Frame.{drawn, reserve_at, Read}
use Rattle.certifier.specs.Course.{Bounded, Certified}
use Rattle.certifier.specs.Caught.{Between}
use Rattle.certifier.specs.Steps.{Able, Stepped}
use Rattle.certifier.specs.Says.{Spent}
use Rattle.certifier.proofs.Reserve.{grows}
use Rattle.certifier.proofs.Course.{first, onward}
use Rattle.certifier.proofs.Steps.{allows, stepped}

-- the budget b of a frame that has a, and what it leaves, at level l
pub record Spends (e : ℕ) (fs : List Frame) (i a lo hi l b : ℕ) : Type 0 where
  pub found : Between e fs i a lo hi b b
  pub low : reserve_at e fs i l ≤ a - b
  pub high : Bounded l → a - b ≤ reserve_at e fs i (l + 1)

-- what a frame that has a knows of its level l, followed by the frames from i on
module _ {e : ℕ} {fs : List Frame} {i a lo hi l b : ℕ} (bounds : lo ≤ hi) (fits : hi < 2 ^ 32)
    (rich : drawn lo hi l + reserve_at e fs i l ≤ a)
    (poor : Bounded l → a ≤ drawn lo hi (l + 1) + reserve_at e fs i (l + 1)) where
  -- b is x, the largest that leaves a reserve, and leaves so much
  spends_all : (x : ℕ) → b ≡ x → lo ≤ x → x ≤ hi → x ≤ a → (lo < x → x + reserve_at e fs i (x - 1) ≤ a) →
      (x < hi → a ≤ x + reserve_at e fs i x) → reserve_at e fs i l ≤ a - x →
      (Bounded l → a - x ≤ reserve_at e fs i (l + 1)) → Spends e fs i a lo hi l b
  spends_all x q low high have taken refused least most =
      let found : Between e fs i a lo hi x x =
      record { low = low; ordered = le_refl x; high = high; have = have; taken = taken; refused = refused } in
      rw q (record { found = found; low = least; high = most })

  -- the level is below the least
  spends_least : l < lo → b ≡ lo → Spends e fs i a lo hi l b
  spends_least p q =
      let w : drawn lo hi l ≡ lo = omega arith in
      let v : drawn lo hi (l + 1) ≡ lo = omega arith in
      let r = rw w at rich in
      let s : a ≤ lo + reserve_at e fs i (l + 1) = (rw v at poor) (omega arith) in
      let g = grows e fs i (l + 1) lo (omega arith) in
      spends_all lo q (omega arith) bounds (omega arith) (λ (z : lo < lo). omega arith) (λ _. omega arith)
      (omega arith) (λ _. omega arith)

  -- the level is at or above the most
  spends_most : lo ≤ l → hi ≤ l → b ≡ hi → Spends e fs i a lo hi l b
  spends_most k p q =
      let w : drawn lo hi l ≡ hi = omega arith in
      let v : drawn lo hi (l + 1) ≡ hi = omega arith in
      let r = rw w at rich in
      let s = rw v at poor in
      let g = grows e fs i (hi - 1) l (omega arith) in
      spends_all hi q bounds (omega arith) (omega arith) (λ _. omega arith) (λ (z : hi < hi). omega arith)
      (omega arith) (λ (z : Bounded l). omega (arith, s z))

  -- the level is inside the bounds
  module _ (k : lo ≤ l) (p : l < hi) where
    spends_more : l + reserve_at e fs i l < a → b ≡ l + 1 → Spends e fs i a lo hi l b
    spends_more h q =
        let w : drawn lo hi (l + 1) ≡ l + 1 = omega arith in
        let s : a ≤ l + 1 + reserve_at e fs i (l + 1) = (rw w at poor) (omega arith) in
        let z : l + 1 - 1 ≡ l = omega arith in
        spends_all (l + 1) q (omega arith) (omega arith) (omega arith) (λ _. rw z (omega arith)) (λ _. s)
        (omega arith) (λ _. omega arith)

    spends_level : a ≤ l + reserve_at e fs i l → b ≡ l → Spends e fs i a lo hi l b
    spends_level h q =
        let w : drawn lo hi l ≡ l = omega arith in
        let r = rw w at rich in
        let g = grows e fs i (l - 1) l (omega arith) in
        let u = grows e fs i l (l + 1) (omega arith) in
        spends_all l q k (omega arith) (omega arith) (λ _. omega arith) (λ _. h) (omega arith) (λ _. omega arith)

  -- in every case
  pub spends : (v : ℕ) → v ≡ reserve_at e fs i l → Spent lo hi a l v b → Spends e fs i a lo hi l b
  spends v q s =
      ⊎_elim
      (λ (k : lo ≤ l).
      ⊎_elim
      (λ (p : hi ≤ l). spends_most k p (s.at_most k p))
      (λ (p : l < hi).
      ⊎_elim
      (λ (h : a ≤ l + v). spends_level k p (rw q at h) (s.level k p h))
      (λ (h : l + v < a). spends_more k p (rw q at h) (s.more k p h))
      (le_or_lt a (l + v)))
      (le_or_lt hi l))
      (λ (k : l < lo). spends_least k (s.at_least k))
      (le_or_lt lo l)

-- one frame of the forward pass: b is a step of the plan, and the levels are certified again for what is left
pub record Follows (e : ℕ) (fs : List Frame) (i y a b : ℕ) (ls rs : List ℕ) : Type 0 where
  pub step : Stepped e fs i y b (a - b)
  pub certified : Certified e (a - b) fs (i + 1) (set ls i b) rs
  pub have : b ≤ a
  pub charge_fits : a - b ≤ 2 ^ 33

pub follows : {e : ℕ} {fs : List Frame} {i y h m d lo hi a b l v : ℕ} (ls rs : List ℕ) → Read fs i h m d lo hi →
    Able e fs i y →
    a ≡ min m (y + h) - d → i < length ls → i < length rs → Certified e y fs i ls rs → l ≡ get_or ls i 0 →
    v ≡ get_or rs i 0 →
    Spent lo hi a l v b → Follows e fs i y a b ls rs
unfolding reserve_at
follows {e} {fs} {i} {y} {h} {m} {d} {lo} {hi} {a} {b} ls rs read able has level after certified is-level is-after
    spent =
    let c = first ls rs read level after certified in
    let l = get_or ls i 0 in
    let rest = drop (i + 1) fs in
    let s = spends {e = e} {fs = fs} {i = i + 1} {a = a} {lo = lo} {hi = hi} {l = l} {b = b}
    (allows e read able).bounds read.plain.most_fits (omega (arith, has, c.within.rich))
    (λ k. omega (arith, has, c.within.poor k)) (get_or rs i 0) c.after (rw (is-level, is-after) at spent) in
    record {
      step = stepped read able has s.found refl;
      certified = onward ls rs b (a - b) c s.low s.high;
      have = s.found.have;
      charge_fits = omega (arith, has, read.plain.ceiling_fits);
    }
