-- Lines of a pattern: gap by gap, how long they are, and that they tell their figures.
use mathlib.Core.Path.{◌≡◌, refl, sym, ap, ◌∙◌}
use mathlib.Core.Logic.{◌⊎◌, inl, inr}
use mathlib.Core.Bool.{Bool, true, false}
use mathlib.Core.List.{List, [], ◌∷◌, ◌++◌}
use Prim.Native.Nat.{ℕ, suc, ◌+◌, ◌^◌, ◌≤◌, ◌<◌}
use native.Mathlib.Numerals.{add-one}
use native.Mathlib.Omega.{arith}
use lib.Dec.{eqb}
use lib.ListN.{length, get_or, drop, length-append, drop_of_length-le}
use lib.Seq.{drop-cons}
use borrow.Author.Tests.{eq-eqb, ne_eqb}
use Rattle.text.specs.Decimal.{decimal}
use Rattle.text.specs.Line.{gap, line_of, room_of}
use Rattle.text.proofs.Decimal.{decimal_length}

-- ---- a pattern from its front

-- without figures it stands as it is
pub line_bare : (p : List ℕ) → line_of p [] ≡ p
unfolding line_of
line_bare [] = refl
line_bare (b ∷ p) = refl

-- another byte than a gap stands for itself
pub line_byte : (b : ℕ) (p ns : List ℕ) → eqb b gap ≡ false → line_of (b ∷ p) ns ≡ b ∷ line_of p ns
unfolding line_of
line_byte b p [] e = ap (λ (t : List ℕ). b ∷ t) (sym (line_bare p))
line_byte b p (n ∷ ns) e = rw (e, line_of) refl

-- a gap stands for the next figure
pub line_gap : (b : ℕ) (p : List ℕ) (n : ℕ) (ns : List ℕ) → eqb b gap ≡ true → line_of (b ∷ p) (n ∷ ns) ≡ decimal n
    ++ line_of p ns
unfolding line_of
line_gap b p n ns e = rw (e, line_of) refl

-- the same, from a byte of a list on
module _ (p ns : List ℕ) (i : ℕ) (l : i < length p) where
  pub at_gap : (n : ℕ) (rest : List ℕ) → get_or p i 0 ≡ gap → ns ≡ n ∷ rest →
      line_of (drop i p) ns ≡ decimal n ++ line_of (drop (i + 1) p) rest
  at_gap n rest e m =
      rw (drop-cons p i 0 l, m, add-one i)
      (line_gap (get_or p i 0) (drop (suc i) p) n rest (eq-eqb (get_or p i 0) gap e))

  pub at_byte : (rest : List ℕ) → ((get_or p i 0 ≡ gap → ⊥) ⊎ (length ns ≡ 0)) × (rest ≡ ns) →
      line_of (drop i p) ns ≡ (get_or p i 0 ∷ []) ++ line_of (drop (i + 1) p) rest
  at_byte rest (inl f, e) =
      rw (e, drop-cons p i 0 l, add-one i)
      (line_byte (get_or p i 0) (drop (suc i) p) ns (ne_eqb (get_or p i 0) gap f))
  at_byte rest (inr m, e) =
      let z : ns ≡ [] = drop_of_length-le ns {i = 0} (omega arith) in
      rw (e, z, drop-cons p i 0 l, add-one i)
      (line_bare (get_or p i 0 ∷ drop (suc i) p)
      ∙ ap (λ (t : List ℕ). get_or p i 0 ∷ t) (sym (line_bare (drop (suc i) p))))

pub at_end : (p ns : List ℕ) (i : ℕ) → length p ≤ i → line_of (drop i p) ns ≡ []
unfolding line_of
at_end p ns i l = rw (drop_of_length-le p {i = i} l) refl

-- ---- how long a line is

-- figures of at most so many digits, at least one
abbrev pub Narrow : List ℕ → List ℕ → Type 0
Narrow [] [] = Unit {0}
Narrow [] (d ∷ ds) = ⊥
Narrow (n ∷ ns) [] = ⊥
Narrow (n ∷ ns) (d ∷ ds) = (1 ≤ d) × (n < 10 ^ d) × Narrow ns ds

-- a line of narrow figures has room in the longest
pub line_fits : (p ns ds : List ℕ) → Narrow ns ds → length (line_of p ns) ≤ room_of p ds
unfolding line_of
line_fits [] ns ds h = omega arith
line_fits (b ∷ p) [] [] h = omega arith
line_fits (b ∷ p) [] (d ∷ ds) h = absurd h
line_fits (b ∷ p) (n ∷ ns) [] h = absurd h
line_fits (b ∷ p) (n ∷ ns) (d ∷ ds) h = go (eqb b gap) (line_fits p ns ds h.2) (line_fits p (n ∷ ns) (d ∷ ds) h)
  where
    go : (t : Bool) → length (line_of p ns) ≤ room_of p ds → length (line_of p (n ∷ ns)) ≤ room_of p (d ∷ ds) →
        length {A = ℕ} (elim t as (λ _. List ℕ) [ true ↦ decimal n ++ line_of p ns | false ↦ b ∷ line_of p (n ∷ ns) ])
        ≤ (elim t as (λ _. ℕ) [ true ↦ d + room_of p ds | false ↦ suc (room_of p (d ∷ ds)) ])
    go true i j = omega (arith, length-append (decimal n) (line_of p ns), decimal_length n d h.0 h.1)
    go false i j = omega arith
