-- A frame's budget found is the plan's budget, and the plan goes on from what it leaves.
use mathlib.Core.Path.{◌≡◌, sym, ap, subst, ◌∙◌}
use mathlib.Core.List.{List, ◌∷◌, ◌++◌, append_assoc, append-nil}
use Prim.Native.Nat.{ℕ, ◌+◌, ◌-◌, ◌≤◌, ◌<◌, ◌^◌, min}
use native.Mathlib.Numerals.{add-one}
use native.Mathlib.Omega.{arith}
use lib.ListN.{length, drop, take, set, length-set, drop_of_length-le}
use lib.Seq.{take_all, take-suc-set}
use Rattle.model.specs.Frames.{Frame, left, Allowed, Feasible, budget, plan}
use Rattle.model.proofs.Budget.{IsLargest, budget_is, one_largest, largest_found}
use Rattle.certifier.specs.Frame.{frame, reserve_at, Read}
use Rattle.certifier.specs.Caught.{Between}
use Rattle.certifier.specs.Steps.{Able, Stepped, Written}

-- a budget that a search has caught is the largest
is_largest : (e : ℕ) (fs : List Frame) (i a lo hi b : ℕ) → Between e fs i a lo hi b b →
    IsLargest e (drop i fs) a lo (min hi a) b
unfolding reserve_at
is_largest e fs i a lo hi b f =
    largest_found e (drop i fs) a lo (min hi a) b f.low (omega (arith, f.high, f.have)) f.taken
    (λ (p : b < min hi a). f.refused (omega arith))

-- and so the plan's budget
budget_found : (e y : ℕ) (fs : List Frame) (i h m d lo hi b : ℕ) → Between e fs i (min m (y + h) - d) lo hi b b →
    budget e y (frame h m d lo hi) (drop i fs) ≡ b
budget_found e y fs i h m d lo hi b f =
    one_largest e (drop i fs) (min m (y + h) - d) lo (min hi (min m (y + h) - d))
    (budget e y (frame h m d lo hi) (drop i fs)) b
    (budget_is e y (frame h m d lo hi) (drop i fs))
    (is_largest e fs i (min m (y + h) - d) lo hi b f)

-- what a frame allows where the plan can be drawn
pub record Allows (y h m d lo hi : ℕ) : Type 0 where
  pub bounds : lo ≤ hi
  pub drains : d ≤ min m (y + h)
  pub reach : lo ≤ min m (y + h) - d

pub allows : (e : ℕ) {fs : List Frame} {i y h m d lo hi : ℕ} → Read fs i h m d lo hi → Able e fs i y →
    Allows y h m d lo hi
unfolding Able plan
allows e {fs} {i} {y} {h} {m} {d} {lo} {hi} read able =
    let f = frame h m d lo hi in
    let b = budget e y f (drop (i + 1) fs) in
    let k : Allowed f y b × Feasible e (left f y b) (drop (i + 1) fs) (plan e (left f y b) (drop (i + 1) fs)) = rw
    read.is at able in
    let low : lo ≤ b = k.0.low in
    let high : b ≤ hi = k.0.high in
    let have : d + b ≤ min m (y + h) = k.0.have in
    record { bounds = omega arith; drains = omega arith; reach = omega arith }

-- the plan and its feasibility after a frame whose budget is b and leaves z
module _ (e y : ℕ) (f : Frame) (fs : List Frame) (b z : ℕ) (is : budget e y f fs ≡ b) (leaves : left f y b ≡ z) where
  plan_on : plan e y (f ∷ fs) ≡ b ∷ plan e z fs
  unfolding plan
  plan_on = rw is (ap (λ (n : ℕ). b ∷ plan e n fs) leaves)

  able_on : Feasible e y (f ∷ fs) (plan e y (f ∷ fs)) → Feasible e z fs (plan e z fs)
  unfolding plan
  able_on k = subst (λ (n : ℕ). Feasible e n fs (plan e n fs)) leaves (rw is at k).1

-- a budget caught is a step of the plan
pub stepped : {e : ℕ} {fs : List Frame} {i y h m d lo hi a b z : ℕ} → Read fs i h m d lo hi → Able e fs i y →
    a ≡ min m (y + h) - d → Between e fs (i + 1) a lo hi b b → z ≡ a - b → Stepped e fs i y b z
unfolding Able
stepped {e} {fs} {i} {y} {h} {m} {d} {lo} {hi} {a} {b} {z} read able q found carries =
    let f = frame h m d lo hi in
    let rest = drop (i + 1) fs in
    let is = budget_found e y fs (i + 1) h m d lo hi b (rw q at found) in
    let leaves : min m (y + h) - (d + b) ≡ z = omega (arith, q, carries) in
    record {
      is = rw read.is (plan_on e y f rest b z is leaves);
      fits = omega (arith, found.high, read.plain.most_fits);
      able = able_on e y f rest b z is leaves (rw read.is at able);
    }

-- a loop that writes the plan from a start charge stands at frame i of n with charge y
pub record Writing (e : ℕ) (fs : List Frame) (n start i y : ℕ) (bs : List ℕ) : Type 0 where
  pub within : i ≤ n
  pub same_length : length bs ≡ n
  pub charge_fits : y ≤ 2 ^ 33
  pub able : Able e fs i y
  pub written : Written e fs i y bs (plan e start fs)

-- one more is written
write_on : {e : ℕ} {fs : List Frame} {i y b z : ℕ} {bs whole : List ℕ} → Stepped e fs i y b z → i < length bs →
    Written e fs i y bs whole → Written e fs (i + 1) z (set bs i b) whole
write_on {e} {fs} {i} {y} {b} {z} {bs = bs} st l w =
    record {
      is =
          rw (add-one i, take-suc-set bs i b l, append_assoc)
          (ap (λ (t : List ℕ). take i bs ++ t) (sym (rw (add-one i) at st.is)) ∙ w.is);
    }

pub writing_on : {e : ℕ} {fs : List Frame} {n start i y b z : ℕ} {bs : List ℕ} → Writing e fs n start i y bs → i < n →
    Stepped e fs i y b z → z ≤ 2 ^ 33 → Writing e fs n start (i + 1) z (set bs i b)
writing_on {i = i} {b = b} {bs = bs} w l st f =
    record {
      within = omega arith;
      same_length = length-set bs i b ∙ w.same_length;
      charge_fits = f;
      able = st.able;
      written = write_on st (omega (arith, w.same_length)) w.written;
    }

-- all are written
pub writing_done : {e : ℕ} {fs : List Frame} {n start i y : ℕ} {bs : List ℕ} → Writing e fs n start i y bs →
    length fs ≤ i → n ≤ i →
    bs ≡ plan e start fs
unfolding plan
writing_done {fs = fs} {i = i} {bs = bs} w h l =
    sym (append-nil bs)
    ∙ (rw (take_all i bs (omega (arith, w.same_length)), drop_of_length-le fs {i = i} h) at w.written.is)
