-- Reward tables, and which assignments are best.
use Rattle.std.specs.Prelude.{◌≡◌, ◌⊎◌, Bool, true, false, ◌&&◌, ◌||◌, List, [], ◌∷◌, ℤ, pos, ◌+ℤ◌, ◌-ℤ◌, ◌≤ℤ◌, ℕ, suc, ◌≤◌, ◌<◌, eqb, ltb}
use Rattle.model.specs.Request.{Request, most_energy, with_capacity}
use Rattle.model.specs.Charge.{feasible, feasible_unlimited}

-- a table over energy from 0 to a most qualifies: each step up is at least 0 and no greater than the step before it
pub record Qualifies (f : ℕ → ℤ) (most : ℕ) : Type 0 where
  pub never_falls : (n : ℕ) → n < most → f n ≤ℤ f (suc n)
  pub never_grows : (n : ℕ) → suc n < most → (f (suc (suc n)) -ℤ f (suc n)) ≤ℤ (f (suc n) -ℤ f n)

-- what an assignment earns
abbrev pub earned : (ℕ → ℤ) → List ℕ → ℤ
earned f [] = pos 0
earned f (b ∷ bs) = f b +ℤ earned f bs

-- best for a table: no feasible assignment earns more
abbrev pub BestFor : Request → (ℕ → ℤ) → List ℕ → Type 0
BestFor r f bs = (cs : List ℕ) → feasible r cs ≡ true → earned f cs ≤ℤ earned f bs

-- best for every qualifying table
abbrev pub BestForAll : Request → List ℕ → Type 0
BestForAll r bs = (f : ℕ → ℤ) → Qualifies f (most_energy r) → BestFor r f bs

-- at the first frame where the two differ, the first has more
abbrev pub takes_more : List ℕ → List ℕ → Bool
takes_more [] cs = false
takes_more (b ∷ bs) [] = false
takes_more (b ∷ bs) (c ∷ cs) = ltb c b || (eqb b c && takes_more bs cs)

-- demand 3: the plan is feasible, best for every table, and takes more at the first difference than any other such
-- list
pub record IsPlan (r : Request) (bs : List ℕ) : Type 0 where
  pub is_feasible : feasible r bs ≡ true
  pub is_best : BestForAll r bs
  pub takes_more : (cs : List ℕ) → feasible r cs ≡ true → BestForAll r cs → (cs ≡ bs) ⊎ (takes_more bs cs ≡ true)

-- v is the best reward of a table among the lists that pass a test
pub record BestReward (allowed : List ℕ → Bool) (f : ℕ → ℤ) (v : ℤ) : Type 0 where
  pub reached : (bs : List ℕ) × (allowed bs ≡ true) × (earned f bs ≡ v)
  pub highest : (bs : List ℕ) → allowed bs ≡ true → earned f bs ≤ℤ v

-- capacity c serves every table as unlimited storage does: the best reward without limit is the best reward with c
abbrev pub Serves : Request → ℕ → Type 0
Serves r c =
    (f : ℕ → ℤ) → Qualifies f (most_energy r) → (v : ℤ) → BestReward (feasible_unlimited r) f v →
    BestReward (feasible (with_capacity r c)) f v

-- the needed capacity: the least, at least start and end charge, that serves every table as unlimited storage does
pub record IsNeeded (r : Request) (c : ℕ) : Type 0 where
  pub over_start : r.figures.start ≤ c
  pub over_end : r.figures.end ≤ c
  pub serves : Serves r c
  pub least : (d : ℕ) → r.figures.start ≤ d → r.figures.end ≤ d → Serves r d → c ≤ d
