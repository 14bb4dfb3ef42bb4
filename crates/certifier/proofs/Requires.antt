-- The backward pass of requirements.
use mathlib.Core.Path.{◌≡◌, refl}
use mathlib.Core.List.{List}
use Prim.Native.Nat.{ℕ, ◌+◌, ◌-◌, ◌≤◌, ◌<◌, max}
use lib.ListN.{length, drop, get_or, drop_of_length-le}
use Rattle.std.proofs.lemmas.List.{drop_more}
use Rattle.model.specs.Frames.{Frame, requirement}
use Rattle.model.specs.Plan.{capacity_for, peak}
use Rattle.certifier.specs.Frame.{Read}

-- before frame k: what the rest requires there, and the least capacity that its frames ask for
pub record Required (e : ℕ) (fs : List Frame) (bs : List ℕ) (k charge top : ℕ) : Type 0 where
  pub charge_is : charge ≡ requirement e (drop k fs) (drop k bs)
  pub top_is : top ≡ peak e (drop k fs) (drop k bs)

-- past the last frame
pub requires_end : (e : ℕ) (fs : List Frame) (bs : List ℕ) (k : ℕ) → length fs ≤ k → Required e fs bs k e 0
unfolding requirement peak
requires_end e fs bs k p =
    let q = drop_of_length-le fs {i = k} p in
    record { charge_is = rw q refl; top_is = rw q refl }

-- one frame more
pub requires_on : {e : ℕ} {fs : List Frame} (bs : List ℕ) {k charge top h m d lo hi b : ℕ} → Read fs k h m d lo hi →
    k < length bs →
    b ≡ get_or bs k 0 → Required e fs bs (k + 1) charge top →
    Required e fs bs k (d + b + charge - h) (max (capacity_for (d + b + charge) h) top)
unfolding requirement peak
requires_on bs {k} read p q s =
    rw (q, s.charge_is, s.top_is)
    (record { charge_is = rw (read.is, drop_more bs k 0 p) refl; top_is = rw (read.is, drop_more bs k 0 p) refl })
