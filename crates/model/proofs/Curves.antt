-- A curve whose gains pass one test qualifies as a reward table; its worth is a sum of five products, one for each
-- band.
use mathlib.Core.Path.{◌≡◌, refl, ap, sym, ◌∙◌}
use mathlib.Core.Bool.{Bool, true, false, ◌&&◌}
use mathlib.Core.List.{List, [], ◌∷◌}
use Prim.Native.Nat.{ℕ, zero, suc, ◌+◌, ◌*◌, ◌-◌, ◌≤◌, min}
use native.Mathlib.Nat.{sub-eq-zero_of_le, mul-zero}
use native.Mathlib.Omega.{arith}
use lib.IntN.{pos, ◌+ℤ◌}
use lib.Dec.{leb}
use borrow.Author.Tests.{leb-true, leb-false}
use Rattle.model.specs.Choice.{pick}
use Rattle.model.specs.Curves.{Curve, house_curve, gain_at, unit_gain, worth, grade, falls}
use Rattle.model.specs.Reward.{Qualifies, earned}
use Rattle.model.proofs.Integers as int
use Rattle.model.proofs.Tests.{both}

-- what is left of falling numbers falls
falls_tail : (g : ℕ) (gs : List ℕ) → falls (g ∷ gs) ≡ true → falls gs ≡ true
falls_tail g [] e = refl
falls_tail g (h ∷ gs) e = (both (leb h g) (falls (h ∷ gs)) e).1

-- of two numbers at most c, either is
pick_le : (t : Bool) (a b c : ℕ) → a ≤ c → b ≤ c → pick t a b ≤ c
pick_le true a b c h k = h
pick_le false a b c h k = k

-- no gain is above the number before the gains
gain_below : (n g : ℕ) (es gs : List ℕ) → falls (g ∷ gs) ≡ true → gain_at n es gs ≤ g
gain_below n g es [] e = omega arith
gain_below n g [] (h ∷ gs) e = leb-true h g (both (leb h g) (falls (h ∷ gs)) e).0
gain_below n g (x ∷ es) (h ∷ gs) e =
    let b = both (leb h g) (falls (h ∷ gs)) e in
    let l = leb-true h g b.0 in
    let i = gain_below n h es gs b.1 in
    pick_le (leb n x) h (gain_at n es gs) g l (omega arith)

-- one unit on, by where the two units lie
gain_by : (n x g a b : ℕ) (s t : Bool) → leb (suc n) x ≡ s → leb n x ≡ t → a ≤ b → a ≤ g → pick s g a ≤ pick t g b
gain_by n x g a b true true p q h k = omega arith
gain_by n x g a b true false p q h k = omega (arith, leb-true (suc n) x p, leb-false n x q)
gain_by n x g a b false true p q h k = k
gain_by n x g a b false false p q h k = h

-- where the gains fall, no unit earns more than the one before it
gain_falls : (n : ℕ) (es gs : List ℕ) → falls gs ≡ true → gain_at (suc n) es gs ≤ gain_at n es gs
gain_falls n es [] e = omega arith
gain_falls n [] (g ∷ gs) e = omega arith
gain_falls n (x ∷ es) (g ∷ gs) e =
    gain_by n x g (gain_at (suc n) es gs) (gain_at n es gs) (leb (suc n) x) (leb n x) refl refl
    (gain_falls n es gs (falls_tail g gs e))
    (gain_below (suc n) g es gs e)

-- a curve whose gains fall qualifies, over any range
pub falls_qualifies : (c : Curve) (m : ℕ) → falls c.gains ≡ true → Qualifies (λ n. pos (worth c n)) m
falls_qualifies c m e =
    record {
      never_falls = λ n h. int.pos_le (worth c n) (worth c (suc n)) (omega arith);
      never_grows = λ n h.
          int.pos_minus_le (worth c (suc (suc n))) (worth c (suc n)) (worth c (suc n)) (worth c n)
          (omega (arith, gain_falls (suc n) c.edges c.gains e));
    }

-- the test, over each of the three tables; no gain is above 24
house_falls : (c : ℕ) → falls (24 ∷ (house_curve c).gains) ≡ true
house_falls zero = refl
house_falls (suc zero) = refl
house_falls (suc (suc n)) = refl

-- the house curves qualify
pub house_qualifies : (c m : ℕ) → Qualifies (λ n. pos (worth (house_curve c) n)) m
house_qualifies c m = falls_qualifies (house_curve c) m (falls_tail 24 (house_curve c).gains (house_falls c))

-- what a curve earns as a reward table is its grade
pub earned_grade : (c : Curve) (bs : List ℕ) → earned (λ n. pos (worth c n)) bs ≡ pos (grade c bs)
earned_grade c [] = refl
earned_grade c (b ∷ bs) = ap (λ z. pos (worth c b) +ℤ z) (earned_grade c bs)

-- no budget is worth more than 24 for each unit
pub worth_bound : (c e : ℕ) → worth (house_curve c) e ≤ 24 * e
worth_bound c zero = omega arith
worth_bound c (suc n) =
    omega (arith, worth_bound c n, gain_below (suc n) 24 (house_curve c).edges (house_curve c).gains (house_falls c))

-- what e units earn beyond the first x, band by band: the gain of a band for each unit in it
abbrev pub bands : ℕ → ℕ → List ℕ → List ℕ → ℕ
bands e x es [] = 0
bands e x [] (g ∷ gs) = g * (e - x)
bands e x (y ∷ es) (g ∷ gs) = g * (min e y - x) + bands e y es gs

-- no edge is below the one before it, the first not below x
abbrev pub rises : ℕ → List ℕ → Bool
rises x [] = true
rises x (y ∷ es) = leb x y && rises y es

-- no units beyond the first x, nothing earned
bands_none : (e x : ℕ) (es gs : List ℕ) → rises x es ≡ true → e ≤ x → bands e x es gs ≡ 0
bands_none e x es [] r h = refl
bands_none e x [] (g ∷ gs) r h = rw (sub-eq-zero_of_le h) (mul-zero g)
bands_none e x (y ∷ es) (g ∷ gs) r h =
    let b = both (leb x y) (rises y es) r in
    let l = leb-true x y b.0 in
    let i = bands_none e y es gs b.1 (omega arith) in
    let u : min e y - x ≡ 0 = omega arith in
    rw (u, i) (omega arith)

-- one unit more, by whether it lies in the first band
bands_by : (e x y g : ℕ) (es gs : List ℕ) → rises x (y ∷ es) ≡ true → x ≤ e →
    (y ≤ e → bands (suc e) y es gs ≡ bands e y es gs + gain_at (suc e) es gs) →
    (t : Bool) → leb (suc e) y ≡ t →
    bands (suc e) x (y ∷ es) (g ∷ gs) ≡ bands e x (y ∷ es) (g ∷ gs) + pick t g (gain_at (suc e) es gs)
bands_by e x y g es gs r h i true p =
    let b = both (leb x y) (rises y es) r in
    let l = leb-true (suc e) y p in
    let u : min (suc e) y - x ≡ suc (e - x) = omega arith in
    let v : min e y - x ≡ e - x = omega arith in
    rw (u, v, bands_none (suc e) y es gs b.1 l, bands_none e y es gs b.1 (omega arith)) (omega arith)
bands_by e x y g es gs r h i false p =
    let l = leb-false (suc e) y p in
    let u : min (suc e) y ≡ y = omega arith in
    let v : min e y ≡ y = omega arith in
    let j = i (omega arith) in
    rw (u, v, j) (omega arith)

-- one unit more adds its gain
bands_more : (e x : ℕ) (es gs : List ℕ) → rises x es ≡ true → x ≤ e →
    bands (suc e) x es gs ≡ bands e x es gs + gain_at (suc e) es gs
bands_more e x es [] r h = refl
bands_more e x [] (g ∷ gs) r h =
    let u : suc e - x ≡ suc (e - x) = omega arith in
    rw u (omega arith)
bands_more e x (y ∷ es) (g ∷ gs) r h =
    bands_by e x y g es gs r h (λ l. bands_more e y es gs (both (leb x y) (rises y es) r).1 l) (leb (suc e) y) refl

-- where the edges rise, a budget's worth is the sum of its bands
pub worth_bands : (c : Curve) (e : ℕ) → rises 0 c.edges ≡ true → worth c e ≡ bands e 0 c.edges c.gains
worth_bands c zero r = sym (bands_none 0 0 c.edges c.gains r (omega arith))
worth_bands c (suc e) r =
    ap (λ n. n + unit_gain c (suc e)) (worth_bands c e r) ∙ sym (bands_more e 0 c.edges c.gains r (omega arith))

-- the edges of the house curves rise
house_rises : (c : ℕ) → rises 0 (house_curve c).edges ≡ true
house_rises zero = refl
house_rises (suc zero) = refl
house_rises (suc (suc n)) = refl

-- so the worth of a budget on a house curve is the sum of its five bands
pub house_bands : (c e : ℕ) → worth (house_curve c) e ≡ bands e 0 (house_curve c).edges (house_curve c).gains
house_bands c e = worth_bands (house_curve c) e (house_rises c)
