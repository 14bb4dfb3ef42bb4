-- The worth of a budget one band at a time, and the sum over a list.
use mathlib.Core.Path.{◌≡◌, refl, sym, ap, ◌∙◌}
use mathlib.Core.List.{List, [], ◌∷◌}
use Prim.Native.Nat.{ℕ, zero, suc, ◌+◌, ◌-◌, ◌*◌, ◌≤◌, ◌<◌, min}
use native.Mathlib.Numerals.{add-one}
use native.Mathlib.Omega.{arith}
use lib.ListN.{length, get_or, drop, drop_of_length-le}
use lib.Seq.{drop-cons}
use Rattle.std.proofs.Common.{◌⊎◌, inl, inr}
use Rattle.model.specs.Curves.{Curve, house_curve, worth, grade}
use Rattle.model.proofs.Curves.{bands, house_bands, worth_bound}
use Rattle.grader.specs.declared.curves.Curve.{Curve as Table}
use Rattle.grader.specs.Curves.{curve_of, IsHouse}

-- an entry of a table of three rows is the one of its curve
pub entry : (f : ℕ → List ℕ) (c j : ℕ) → c < 3 → get_or (get_or (f 0 ∷ (f 1 ∷ (f 2 ∷ []))) c []) j 0 ≡ get_or (f c) j 0
entry f zero j h = refl
entry f (suc zero) j h = refl
entry f (suc (suc zero)) j h = refl
entry f (suc (suc (suc c))) j h = let b : ⊥ = omega arith in absurd b

-- four edges and five gains
pub edges_four : (c : ℕ) → length (house_curve c).edges ≡ 4
edges_four zero = refl
edges_four (suc zero) = refl
edges_four (suc (suc c)) = refl

pub gains_five : (c : ℕ) → length (house_curve c).gains ≡ 5
gains_five zero = refl
gains_five (suc zero) = refl
gains_five (suc (suc c)) = refl

module _ (t : Table) (h : IsHouse t) (e : ℕ) where
  -- on a house curve the bands are all of the worth, which is bounded
  pub table_bands : bands e 0 t.edges t.gains ≡ worth (curve_of t) e
  table_bands =
      ap (λ (c : Curve). bands e 0 c.edges c.gains) h.1
      ∙ sym (house_bands h.0 e)
      ∙ ap (λ (c : Curve). worth c e) (sym h.1)

  pub table_bound : worth (curve_of t) e ≤ 24 * e
  table_bound = rw h.1 (worth_bound h.0 e)

  -- before the first band
  pub table_start : (es gs : List ℕ) → es ≡ t.edges → gs ≡ t.gains → (length gs ≡ length es + 1)
      × (get_or gs (length es) 0 ≡ get_or t.gains 4 0) × (0 + bands e 0 es gs ≡ worth (curve_of t) e)
  table_start es gs p q =
      let l = ap (λ (c : Curve). length c.edges) h.1 ∙ edges_four h.0 in
      let m = ap (λ (c : Curve). length c.gains) h.1 ∙ gains_five h.0 in
      rw (p, q, l) (omega arith, refl, omega (arith, table_bands))

-- a band's part is in the worth
pub band_part : (e x w sum y g u : ℕ) (es gs fs hs : List ℕ) → es ≡ y ∷ fs → gs ≡ g ∷ hs →
    sum + bands e x es gs ≡ w → u ≡ min e y - x → sum + g * u ≤ w
band_part e x w sum y g u es gs fs hs p q r s =
    let a = rw (p, q) at r in
    rw s (omega (arith, a))

-- where edges or gains are at an end, the edges are
pub edges_over : (es gs : List ℕ) → (es ≡ []) ⊎ (gs ≡ []) → length gs ≡ length es + 1 → length es ≡ 0
edges_over es gs (inl p) l = ap length p
edges_over es gs (inr p) l = let m = ap length p in omega arith

-- past the last edge the last gain is for every unit that is left
pub band_end : (e x w sum g : ℕ) (es gs : List ℕ) → length es ≡ 0 → length gs ≡ length es + 1 →
    g ≡ get_or gs (length es) 0 → sum + bands e x es gs ≡ w → sum + g * (e - x) ≡ w
band_end e x w sum g [] [] l m p q = let b : ⊥ = omega arith in absurd b
band_end e x w sum g [] (h ∷ gs) l m p q = rw p q
band_end e x w sum g (y ∷ es) gs l m p q = let b : ⊥ = omega arith in absurd b

-- one more budget of a list
pub grade_more : (c : Curve) (i : ℕ) (bs : List ℕ) → i < length bs →
    grade c (drop i bs) ≡ worth c (get_or bs i 0) + grade c (drop (i + 1) bs)
grade_more c i bs l = rw (add-one i) (ap (grade c) (drop-cons bs i 0 l))

-- every budget counted
pub grade_over : (c : Curve) (i : ℕ) (bs : List ℕ) → length bs ≤ i → grade c (drop i bs) ≡ 0
grade_over c i bs l = ap (grade c) (drop_of_length-le bs {i = i} l)
