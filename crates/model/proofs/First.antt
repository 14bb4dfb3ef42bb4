-- The first refusal of a list: it is none exactly when each is; of one refusal, and of lists joined.
use mathlib.Core.Path.{◌≡◌, refl, sym, ap, ◌∙◌}
use mathlib.Core.Bool.{Bool, true, false, false≢true}
use mathlib.Core.List.{List, [], ◌∷◌, ◌++◌}
use Rattle.model.specs.Refusals.{Refusal}
use Rattle.model.specs.Choice.{pick}
use Rattle.model.specs.Refusals.{none, is_none, first_of, AllNone}
use Rattle.model.proofs.Choice.{pick_by}

-- where the first refusal is none, each is
pub first_none : (fs : List Refusal) → is_none (first_of fs) ≡ true → AllNone fs
first_none [] e = tt
first_none (f ∷ fs) e = go (is_none f) refl (first_none fs) e
  where
    go : (t : Bool) → is_none f ≡ t → (is_none (first_of fs) ≡ true → AllNone fs) →
        is_none (pick t (first_of fs) f) ≡ true →
        (is_none f ≡ true) × AllNone fs
    go true q i h = (q, i h)
    go false q i h = absurd (false≢true (sym q ∙ h))

-- where each refusal is none, the first is
pub none_first : (fs : List Refusal) → AllNone fs → first_of fs ≡ none
none_first [] a = refl
none_first (f ∷ fs) a = pick_by (is_none f) true (first_of fs) f a.0 ∙ none_first fs a.1

-- of two lists joined, each is none where all are
pub both_none : (xs ys : List Refusal) → AllNone (xs ++ ys) → AllNone xs × AllNone ys
both_none [] ys a = (tt, a)
both_none (x ∷ xs) ys a = let i = both_none xs ys a.1 in ((a.0, i.0), i.1)

-- the first of one list and then another
pub first_of_append : (xs ys : List Refusal) → first_of (xs ++ ys) ≡ pick (is_none (first_of xs)) (first_of ys) (first_of xs)
first_of_append [] ys = refl
first_of_append (x ∷ xs) ys = go (is_none x) refl (first_of_append xs ys)
  where
    go : (t : Bool) → is_none x ≡ t → first_of (xs ++ ys) ≡ pick (is_none (first_of xs)) (first_of ys) (first_of xs)
        → pick t (first_of (xs ++ ys)) x ≡ pick (is_none (pick t (first_of xs) x)) (first_of ys) (pick t (first_of xs) x)
    go true e ih = ih
    go false e ih = sym (pick_by (is_none x) false (first_of ys) x e)

-- where it has none, the other list decides
pub first_passed : (xs ys : List Refusal) {f g : Refusal} → f ≡ first_of xs → is_none f ≡ true → g ≡ first_of ys →
    g ≡ first_of (xs ++ ys)
first_passed xs ys {f} p h q =
    q
    ∙ sym (first_of_append xs ys
    ∙ pick_by (is_none (first_of xs)) true (first_of ys) (first_of xs) (ap is_none (sym p) ∙ h))

-- of two lists that begin alike, the first refusals are the same if they are where nothing of the beginning holds
pub behind :
    (fs gs hs : List Refusal) → (AllNone fs → first_of gs ≡ first_of hs) → first_of (fs ++ gs) ≡ first_of (fs ++ hs)
behind fs gs hs h = first_of_append fs gs ∙ go (is_none (first_of fs)) refl ∙ sym (first_of_append fs hs)
  where
    go :
        (t : Bool) → is_none (first_of fs) ≡ t →
        pick t (first_of gs) (first_of fs) ≡ pick t (first_of hs) (first_of fs)
    go true e = h (first_none fs e)
    go false e = refl

-- a list of one refusal gives that refusal, if its P is 0 where its number is
pub first_of_one : (f : Refusal) → (is_none f ≡ true → f ≡ none) → first_of (f ∷ []) ≡ f
first_of_one f h = go (is_none f) refl
  where
    go : (t : Bool) → is_none f ≡ t → pick t none f ≡ f
    go true q = sym (h q)
    go false q = refl

-- the same for the last of a list
pub first_last : {f f' : Refusal} → f ≡ f' → (is_none f' ≡ true → f' ≡ none) → f ≡ first_of (f' ∷ [])
first_last {f} {f'} p h = p ∙ sym (first_of_one f' h)
