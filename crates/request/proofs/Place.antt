-- The refusal of a list by the place of the first element that fails a test.
use Rattle.std.proofs.Common.{◌≡◌, refl, sym, ap, ◌∙◌, Bool, true, false, cond, List, [], ◌∷◌, ℕ, suc, ◌+◌, Option, Some, None, arith}
use Rattle.std.specs.List.{position_from}
use Rattle.model.specs.Refusals.{Refusal, refusal, none}

-- refusal n with the place as its P, the first of the list being number k
abbrev pub at_place : ℕ → ℕ → Option ℕ → Refusal
at_place n k None = none
at_place n k (Some i) = refusal n (k + i)

module _ {A : Type 0} (n : ℕ) (test : A → Bool) (F : ℕ → List A → Refusal) (empty : (k : ℕ) → F k [] ≡ none)
    (here : (k : ℕ) (x : A) (xs : List A) → test x ≡ true → F k (x ∷ xs) ≡ refusal n k)
    (later : (k : ℕ) (x : A) (xs : List A) → test x ≡ false → F k (x ∷ xs) ≡ F (suc k) xs) where
  by_place_from : (k i : ℕ) (xs : List A) → at_place n k (position_from test i xs) ≡ F (k + i) xs
  by_place_from k i [] = sym (empty (k + i))
  by_place_from k i (x ∷ xs) = go (test x) refl (by_place_from k (i + 1) xs)
    where
      go : (t : Bool) → test x ≡ t → at_place n k (position_from test (i + 1) xs) ≡ F (k + (i + 1)) xs →
          at_place n k (cond t (Some i) (position_from test (i + 1) xs)) ≡ F (k + i) (x ∷ xs)
      go true e ih = sym (here (k + i) x xs e)
      go false e ih =
          let s : k + (i + 1) ≡ suc (k + i) = omega arith in
          ih ∙ ap (λ (m : ℕ). F m xs) s ∙ sym (later (k + i) x xs e)

  -- the refusal of a list is that of the place that `position` answers
  pub by_place : (k : ℕ) (xs : List A) {r s : Option ℕ} → r ≡ s → r ≡ position_from test 0 xs → at_place n k s ≡ F k xs
  by_place k xs {r} {s} p q =
      let z : k + 0 ≡ k = omega arith in
      ap (at_place n k) (sym p ∙ q) ∙ by_place_from k 0 xs ∙ ap (λ (m : ℕ). F m xs) z
