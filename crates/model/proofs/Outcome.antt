-- An outcome taken apart.
use mathlib.Core.Path.{◌≡◌, refl, sym, ◌∙◌}
use mathlib.Core.Bool.{Bool, true, false, false≢true}
use Prim.Native.Nat.{ℕ}
use native.Mathlib.Omega.{arith}
use Rattle.model.specs.Refusals.{Refusal}
use Rattle.model.specs.Choice.{pick}
use Rattle.model.specs.Refusals.{gives, refuses, outcome, is_none}

module _ {A : Type 0} (f : Refusal) (v : A) where
  -- a value was given: there is no refusal, and it is the value
  pub gave : (w : A) → gives w ≡ outcome f v → (is_none f ≡ true) × (w ≡ v)
  gave w e = go (is_none f) refl e
    where
      go : (t : Bool) → is_none f ≡ t → gives w ≡ pick t (gives v) (refuses f) → (is_none f ≡ true) × (w ≡ v)
      go true q h = (q, cc)
      go false q h = let z : ◌≡◌ {A = ℕ} 0 1 = cc in absurd (omega arith)

  -- a refusal was given: it is the one
  pub refused : (g : Refusal) → refuses g ≡ outcome f v → (is_none f ≡ false) × (g ≡ f)
  refused g e = go (is_none f) refl e
    where
      go : (t : Bool) → is_none f ≡ t → refuses g ≡ pick t (gives v) (refuses f) → (is_none f ≡ false) × (g ≡ f)
      go true q h = let z : ◌≡◌ {A = ℕ} 0 1 = cc in absurd (omega arith)
      go false q h = (q, cc)

  -- nothing refused, no refusal
  pub no_refusal : is_none f ≡ true → (g : Refusal) → refuses g ≡ outcome f v → ⊥
  no_refusal n g e = false≢true (sym (refused g e).0 ∙ n)
