-- The three house curves: four edges, five gains per unit.
use Rattle.std.specs.Prelude.{Bool, true, ◌&&◌, List, [], ◌∷◌, ℕ, zero, suc, ◌+◌, leb}
use Rattle.model.specs.Choice.{pick}

pub record Curve : Type 0 where
  pub edges : List ℕ
  pub gains : List ℕ

-- document 01's table; any number from 2 on is curve 2
abbrev pub house_curve : ℕ → Curve
house_curve zero = record { edges = 100 ∷ 300 ∷ 700 ∷ 1500 ∷ []; gains = 16 ∷ 8 ∷ 4 ∷ 2 ∷ 1 ∷ [] }
house_curve (suc zero) = record { edges = 50 ∷ 200 ∷ 800 ∷ 2000 ∷ []; gains = 24 ∷ 12 ∷ 3 ∷ 1 ∷ 0 ∷ [] }
house_curve (suc (suc n)) = record { edges = 1000 ∷ 2000 ∷ 4000 ∷ 8000 ∷ []; gains = 5 ∷ 4 ∷ 3 ∷ 2 ∷ 1 ∷ [] }

-- what unit number n earns: the first gain if n is at most the first edge, and so on
abbrev pub gain_at : ℕ → List ℕ → List ℕ → ℕ
gain_at n es [] = 0
gain_at n [] (g ∷ gs) = g
gain_at n (x ∷ es) (g ∷ gs) = pick (leb n x) g (gain_at n es gs)

abbrev pub unit_gain : Curve → ℕ → ℕ
unit_gain c n = gain_at n c.edges c.gains

-- what a budget earns: the gains of its units, numbered from 1
abbrev pub worth : Curve → ℕ → ℕ
worth c zero = 0
worth c (suc n) = worth c n + unit_gain c (suc n)

-- the sum over a list of budgets
abbrev pub grade : Curve → List ℕ → ℕ
grade c [] = 0
grade c (b ∷ bs) = worth c b + grade c bs

-- no number of the list is above the one before it: the test by which a curve qualifies
abbrev pub falls : List ℕ → Bool
falls [] = true
falls (x ∷ []) = true
falls (x ∷ (y ∷ xs)) = leb y x && falls (y ∷ xs)
