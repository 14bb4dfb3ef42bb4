-- What is taken out of the store: one number for each budget, and with the end charge as much as budgets and what is due.
use mathlib.Core.Path.{◌≡◌, refl}
use mathlib.Core.List.{List, [], ◌∷◌}
use Prim.Native.Nat.{ℕ, ◌+◌, ◌≤◌}
use lib.ListN.{length}
use Rattle.model.specs.Request.{Request, frame_count, total, due, withdrawn}

pub withdrawn_length : (r : Request) (bs : List ℕ) → length (withdrawn r bs) ≡ length bs
withdrawn_length r bs = refl

pub withdrawn_total : (r : Request) (bs : List ℕ) → length bs ≡ frame_count r →
    total (withdrawn r bs) + r.figures.end ≡ total bs + due r
withdrawn_total r bs l = refl

-- each number of the first list is at most that of the second, and there are as many
abbrev pub Below : List ℕ → List ℕ → Type 0
Below [] [] = Unit {0}
Below [] (b ∷ bs) = ⊥
Below (d ∷ ds) [] = ⊥
Below (d ∷ ds) (b ∷ bs) = (d ≤ b) × Below ds bs

-- lower budgets take less out
pub withdrawn_below : (r : Request) (ds bs : List ℕ) → Below ds bs → Below (withdrawn r ds) (withdrawn r bs)
withdrawn_below r ds bs k = k
