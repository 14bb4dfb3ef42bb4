-- What a look at all elements of a list shows, which takes the tests together by `&`: where it answers "true", no element
-- is one that is refused.
use Rattle.std.proofs.Common.{◌≡◌, refl, ap, ◌∙◌, Bool, true, ◌&&◌, List, [], ◌∷◌, ℕ, suc, length, replicate, nat_eq, eqb-true}
use Rattle.std.specs.List.{fold}
use Rattle.model.specs.Refusals.{Refusal, none}
use Rattle.model.proofs.Tests.{both}

-- all tests passed so far, and one more
abbrev pub look : {A : Type 0} → (A → Bool) → Bool → A → Bool
look good passed x = passed && good x

-- a look that answers "true" began with it
began : {A : Type 0} (good : A → Bool) (b : Bool) (xs : List A) → fold (look good) b xs ≡ true → b ≡ true
began good b [] e = e
began good b (x ∷ xs) e = (both b (good x) (began good (b && good x) xs e)).0

-- and its first element is good
first_good : {A : Type 0} (good : A → Bool) (b : Bool) (x : A) (xs : List A) → fold (look good) b (x ∷ xs) ≡ true →
    good x ≡ true
first_good good b x xs e = (both b (good x) (began good (b && good x) xs e)).1

module _ {A : Type 0} (good : A → Bool) (F : ℕ → List A → Refusal) (empty : (k : ℕ) → F k [] ≡ none)
    (later : (k : ℕ) (x : A) (xs : List A) → good x ≡ true → F k (x ∷ xs) ≡ F (suc k) xs) where
  -- so a refusal of the first element that is not good is none
  pub by_look : (b : Bool) (xs : List A) → fold (look good) b xs ≡ true → (k : ℕ) → F k xs ≡ none
  by_look b [] e k = empty k
  by_look b (x ∷ xs) e k = later k x xs (first_good good b x xs e) ∙ by_look (b && good x) xs e (suc k)

-- numbers that are all 0
pub by_zeros : (b : Bool) (xs : List ℕ) → fold (look (λ x. nat_eq x 0)) b xs ≡ true → xs ≡ replicate (length xs) 0
by_zeros b [] e = refl
by_zeros b (x ∷ xs) e =
    let z : x ≡ 0 = eqb-true x 0 (first_good (λ y. nat_eq y 0) b x xs e) in
    rw z (ap (λ (ys : List ℕ). 0 ∷ ys) (by_zeros (b && nat_eq x 0) xs e))
