-- The numbers of refusals: whose test holds where one comes from a list; and that the code can tell each of a list.
use mathlib.Core.Path.{◌≡◌, refl, sym, ◌∙◌}
use mathlib.Core.Bool.{Bool, true, false, not, false≢true}
use mathlib.Core.List.{List, [], ◌∷◌, ◌++◌, map}
use Prim.Native.Nat.{ℕ, suc}
use lib.Dec.{ltb, eqb}
use Rattle.model.specs.declared.refusal.Refusal.{Refusal as Given}
use Rattle.model.specs.declared.refusal.Refusal.TheVariants as given
use Rattle.model.specs.Answer.{told}
use Rattle.model.specs.Refusals.{Refusal}
use Rattle.model.specs.Choice.{pick}
use Rattle.model.specs.Limits.{max_harvest}
use Rattle.model.specs.Request.{Bounds}
use Rattle.model.specs.Refusals.{refusal, none, is_none, first_of, wrong_length, harvest_over_limit, bad_bounds}
use Rattle.model.specs.Refusals.{bounds_refused}
use Rattle.model.proofs.Numbers.{AllClear, first_clear}

-- whether a number is n, and that none of a list of refusals has it
abbrev pub is : ℕ → ℕ → Bool
is n k = eqb k n

abbrev pub Without : ℕ → List Refusal → Type 0
Without n fs = AllClear (is n) fs

-- where only one refusal of a list can have number n, it has it
pub only_at :
    (n : ℕ) (fs : List Refusal) (g : Refusal) (gs : List Refusal) → eqb 0 n ≡ false → Without n fs → Without n gs →
    eqb (first_of (fs ++ (g ∷ gs))).number n ≡ true → eqb g.number n ≡ true
only_at n [] g gs z v w e = go (is_none g) e
  where
    go : (t : Bool) → eqb (pick t (first_of gs) g).number n ≡ true → eqb g.number n ≡ true
    go true q = absurd (false≢true (sym (first_clear (is n) z gs w) ∙ q))
    go false q = q
only_at n (f ∷ fs) g gs z v w e = go (is_none f) (only_at n fs g gs z v.1 w) e
  where
    go :
        (t : Bool) → (eqb (first_of (fs ++ (g ∷ gs))).number n ≡ true → eqb g.number n ≡ true) →
        eqb (pick t (first_of (fs ++ (g ∷ gs))) f).number n ≡ true → eqb g.number n ≡ true
    go true ih q = ih q
    go false ih q = absurd (false≢true (sym v.0 ∙ q))

-- a test whose refusal has come holds
pub tested : (n : ℕ) (t : Bool) (g : Refusal) → eqb 0 n ≡ false → eqb (pick t g none).number n ≡ true → t ≡ true
tested n true g z e = refl
tested n false g z e = absurd (false≢true (sym z ∙ e))

-- a refusal that the code can tell, if it is one
abbrev pub Tellable : Refusal → Type 0
Tellable f = is_none f ≡ false → (e : Given) × (told e ≡ f)

abbrev pub AllTellable : List Refusal → Type 0
AllTellable [] = Unit {0}
AllTellable (f ∷ fs) = Tellable f × AllTellable fs

-- of two such lists joined it can tell each
pub joined_told : (fs gs : List Refusal) → AllTellable fs → AllTellable gs → AllTellable (fs ++ gs)
joined_told [] gs v w = w
joined_told (f ∷ fs) gs v w = (v.0, joined_told fs gs v.1 w)

-- and of each such list the first
pub first_told : (fs : List Refusal) → AllTellable fs → Tellable (first_of fs)
first_told [] w = λ e. absurd (false≢true (sym e))
first_told (f ∷ fs) w = go (is_none f) refl (first_told fs w.1)
  where
    go : (t : Bool) → is_none f ≡ t → Tellable (first_of fs) → Tellable (pick t (first_of fs) f)
    go true d i = i
    go false d i = w.0

-- a refusal by a test
pub test_told : (t : Bool) (e : Given) → Tellable (pick t (told e) none)
test_told true e n = (e, refl)
test_told false e n = absurd (false≢true (sym n))

-- 7, 6 and 10
pub lengths_told : (k : ℕ) (ns : List ℕ) → AllTellable (map (wrong_length k) ns)
lengths_told k [] = tt
lengths_told k (n ∷ ns) = (test_told (not (eqb n k)) given.WrongLength, lengths_told k ns)

pub harvest_told : (k : ℕ) (hs : List ℕ) → Tellable (harvest_over_limit k hs)
harvest_told k [] = λ n. absurd (false≢true (sym n))
harvest_told k (h ∷ hs) = go (ltb max_harvest h) (harvest_told (suc k) hs)
  where
    go :
        (t : Bool) → Tellable (harvest_over_limit (suc k) hs) →
        Tellable (elim t as (λ _. Refusal) [ true ↦ refusal 6 k | false ↦ harvest_over_limit (suc k) hs ])
    go true i = λ n. (given.HarvestAboveLimit k, refl)
    go false i = i

pub bounds_told : (k : ℕ) (ws : List Bounds) → Tellable (bounds_refused k ws)
bounds_told k [] = λ n. absurd (false≢true (sym n))
bounds_told k (w ∷ ws) = go (bad_bounds w) (bounds_told (suc k) ws)
  where
    go :
        (t : Bool) → Tellable (bounds_refused (suc k) ws) →
        Tellable (elim t as (λ _. Refusal) [ true ↦ refusal 10 k | false ↦ bounds_refused (suc k) ws ])
    go true i = λ n. (given.BadBounds k, refl)
    go false i = i
