-- The lines of frames, one after the other, as a loop over budgets, charges and losses writes them.
use mathlib.Core.Path.{◌≡◌, refl, sym, ap, ◌∙◌}
use mathlib.Core.List.{List, [], ◌∷◌, ◌++◌, map}
use Prim.Native.Nat.{ℕ, suc, ◌+◌, ◌^◌, ◌≤◌, ◌<◌}
use native.Mathlib.Omega.{arith}
use lib.Dec.{T}
use lib.IntN.{ℤ, pos, negsuc, nat_abs}
use lib.ListN.{length, get_or, drop, drop_of_length-le}
use lib.Signed.{mag, non_neg}
use mir.Syntax.{w64}
use mir.Val.{Fits, to_z, of_z}
use Rattle.model.proofs.Machine.{back}
use Rattle.std.proofs.lemmas.List.{at_drop_more}
use Rattle.std.specs.List.{zip, enumerate_from}
use Rattle.std.specs.Borrow.{Bor}
use Rattle.std.specs.Prelude.{Option}
use Rattle.std.specs.Slice.Iter.{iter_rest}
use Rattle.std.specs.declared.iter.Enumerate.{Enumerate}
use Rattle.std.specs.declared.iter.Zip.{Zip}
use Rattle.std.specs.Iterator.Adapters.{enumerate_steps, enumerate_source, enumerate_count, zip_first, zip_second}
use Rattle.std.proofs.Common.{Iter}
use Rattle.std.proofs.iter.Yields.{fronts}
use Rattle.std.proofs.lemmas.Iterator.{YieldsList, YieldsList-from_zip, YieldsList-from_slice, zips}
use Rattle.std.proofs.lemmas.Iterator.Consumers.{YieldsList-from_enumerate}
use Rattle.text.specs.Line.{line_of, lines_of}
use Rattle.printed.specs.Text.{frame_pattern, frame_rows}

-- the amounts of charges
abbrev pub amounts : List ℤ → List ℕ
amounts zs = map nat_abs zs

-- ---- as a loop goes over them

-- a frame's index, budget, charge and loss
abbrev pub Item : Type 0
Item = ℕ × ((ℕ × ℤ) × ℕ)

-- the figures of its line
abbrev pub row : Item → List ℕ
row x = (x.0 + 1) ∷ x.1.0.0 ∷ nat_abs x.1.0.1 ∷ x.1.1 ∷ []

-- the frames that the loop goes over
abbrev pub items : List ℕ → List ℤ → List ℕ → List Item
items bs zs ls = enumerate_from 0 (zip (zip bs zs) ls)

-- their lines, from a frame on
abbrev pub items_from : ℕ → List Item → List ℕ
items_from i xs = lines_of frame_pattern (map row (drop i xs))

pub items_more : (i j : ℕ) (xs : List Item) (x : Item) → (i < length xs) × (x ≡ get_or xs i x) → j ≡ i + 1 →
    items_from i xs ≡ line_of frame_pattern (row x) ++ items_from j xs
items_more i j xs x h e =
    at_drop_more (λ (ys : List Item). lines_of frame_pattern (map row ys)) xs i x h.0
    ∙ (ap (λ (y : Item). line_of frame_pattern (row y) ++ items_from (i + 1) xs) (sym h.1)
    ∙ ap (λ (k : ℕ). line_of frame_pattern (row x) ++ items_from k xs) (sym e))

pub items_none : (i : ℕ) (xs : List Item) → length xs ≤ i → items_from i xs ≡ []
items_none i xs l = rw (drop_of_length-le xs {i = i} l) refl

-- the loop goes over them
abbrev pub Going : Type 0
Going = Enumerate (Zip (Zip (Iter ℕ) (Iter ℤ)) (Iter ℕ))

abbrev pub steps : Going → Option (ℕ × ((Bor ℕ × Bor ℤ) × Bor ℕ)) → Going → Type 0
steps = enumerate_steps (zips (zips fronts fronts) fronts)

abbrev pub item : ℕ × ((Bor ℕ × Bor ℤ) × Bor ℕ) → Item
item p = (p.0, ((p.1.0.0.now, p.1.0.1.now), p.1.1.now))

pub goes_over : (s : Going) (bs : List ℕ) (zs : List ℤ) (ls : List ℕ) →
    (iter_rest (zip_first (zip_first (enumerate_source s))) ≡ bs)
    × (iter_rest (zip_second (zip_first (enumerate_source s))) ≡ zs)
    × (iter_rest (zip_second (enumerate_source s)) ≡ ls)
    × (enumerate_count s ≡ 0) → YieldsList steps item s (items bs zs ls)
goes_over s bs zs ls h =
    YieldsList-from_enumerate
    (YieldsList-from_zip (YieldsList-from_zip (YieldsList-from_slice bs h.0) (YieldsList-from_slice zs h.1))
    (YieldsList-from_slice ls h.2)) h.3

-- they are the rows of the frames' lines
rows_from : (n : ℕ) (bs : List ℕ) (zs : List ℤ) (ls : List ℕ) →
    map row (enumerate_from n (zip (zip bs zs) ls)) ≡ frame_rows (n + 1) bs (amounts zs) ls
rows_from n [] zs ls = refl
rows_from n (b ∷ bs) [] ls = refl
rows_from n (b ∷ bs) (z ∷ zs) [] = refl
rows_from n (b ∷ bs) (z ∷ zs) (l ∷ ls) =
    let e : n + 1 + 1 ≡ suc (n + 1) = omega arith in
    ap (λ (rs : List (List ℕ)). row (n, ((b, z), l)) ∷ rs)
    (rows_from (n + 1) bs zs ls ∙ ap (λ (k : ℕ). frame_rows k bs (amounts zs) ls) e)

pub rows_are : (bs : List ℕ) (zs : List ℤ) (ls : List ℕ) →
    items_from 0 (items bs zs ls) ≡ lines_of frame_pattern (frame_rows 1 bs (amounts zs) ls)
rows_are bs zs ls = ap (lines_of frame_pattern) (rows_from 0 bs zs ls)

-- the amounts of charges that are none below zero
pub amounts_pos : (xs : List ℕ) → amounts (map pos xs) ≡ xs
amounts_pos [] = refl
amounts_pos (x ∷ xs) = ap (λ (r : List ℕ). x ∷ r) (amounts_pos xs)

-- a charge that is not below zero, read as a signed number of 64 bits, fits an unsigned one
pub charge_fits : (z : ℤ) → T (non_neg z) → mag z < 2 ^ 63 →
    T (non_neg (to_z w64 (of_z w64 z))) × Fits w64 (nat_abs (to_z w64 (of_z w64 z)))
charge_fits z t h = rw (back z h) (t, small z t h)
  where
    small : (z : ℤ) → T (non_neg z) → mag z < 2 ^ 63 → Fits w64 (nat_abs z)
    small (pos n) t h = record { fits = omega arith }
    small (negsuc n) t h = absurd t
