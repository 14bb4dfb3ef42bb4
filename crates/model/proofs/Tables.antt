-- What serves most at every level earns most on every qualifying table; and each level is itself a qualifying table.
use mathlib.Core.Path.{◌≡◌, refl, ap, sym, ◌∙◌}
use mathlib.Core.Bool.{Bool, true, false}
use mathlib.Core.List.{List, [], ◌∷◌}
use Prim.Native.Nat.{ℕ, zero, suc, ◌+◌, ◌*◌, ◌-◌, ◌≤◌, ◌<◌, min}
use native.Mathlib.Nat.{mul-le-mul_left, add-mul, add_comm}
use native.Mathlib.Decide.{dec_le}
use native.Mathlib.Omega.{arith}
use lib.ListN.{length}
use lib.IntN.{ℤ, pos, ◌+ℤ◌, ◌-ℤ◌, +ℤ_idl, +ℤ_assoc}
use lib.Signed.{◌≤ℤ◌}
use lib.Dec.{ltb}
use borrow.Author.Tests.{ltb-true, lt-ltb}
use Rattle.model.specs.Choice.{pick}
use Rattle.model.specs.Frames.{served}
use Rattle.model.specs.Reward.{Qualifies, earned}
use Rattle.model.proofs.Integers as int

-- every number of a list is at most m
abbrev pub WithinAll : ℕ → List ℕ → Type 0
WithinAll m [] = Unit {0}
WithinAll m (b ∷ bs) = (b ≤ m) × WithinAll m bs

-- the sum of the first k steps
abbrev first_steps : (ℕ → ℕ) → ℕ → ℕ
first_steps s zero = 0
first_steps s (suc k) = first_steps s k + s k

-- what a list is worth by its steps, each number counting up to level k
abbrev worth_by_steps : (ℕ → ℕ) → ℕ → List ℕ → ℕ
worth_by_steps s k [] = 0
worth_by_steps s k (b ∷ bs) = first_steps s (min b k) + worth_by_steps s k bs

-- a level more adds its step to every number that reaches it
level_one : (s : ℕ → ℕ) (k b : ℕ) →
    first_steps s (min b (suc k)) + s k * min b k ≡ first_steps s (min b k) + s k * min b (suc k)
level_one s k b =
    elim (dec_le b k) [
      | yes p ↦ (let u : min b (suc k) ≡ b = omega arith in let v : min b k ≡ b = omega arith in rw (u, v) refl)
      | no p ↦ (let u : min b (suc k) ≡ suc k = omega arith in let v : min b k ≡ k = omega arith in
          rw (u, v) (omega arith))
    ]

-- the same for a whole list
level_more : (s : ℕ → ℕ) (k : ℕ) (bs : List ℕ) →
    worth_by_steps s (suc k) bs + s k * served k bs ≡ worth_by_steps s k bs + s k * served (suc k) bs
unfolding served
level_more s k [] = omega arith
level_more s k (b ∷ bs) = omega (arith, level_one s k b, level_more s k bs)

-- at level 0 nothing is worth anything
level_none : (s : ℕ → ℕ) (bs : List ℕ) → (worth_by_steps s 0 bs ≡ 0) × (served 0 bs ≡ 0)
unfolding served
level_none s [] = (refl, refl)
level_none s (b ∷ bs) =
    let u : min b 0 ≡ 0 = omega arith in
    let i = level_none s bs in
    rw u (omega arith, omega arith)

-- a product splits with its first factor
split_factor : (s t n : ℕ) → t ≤ s → s * n ≡ t * n + (s - t) * n
split_factor s t n h =
    let q : s ≡ t + (s - t) = omega arith in
    ap (λ z. z * n) q ∙ add-mul t (s - t) n

-- one level more, over plain numbers: step s at this level and t at the next, worths v and services w before and after
weigh : (s t vc vb vc' vb' wc wb wc' wb' : ℕ) → t ≤ s → wc' ≤ wb' →
    vc' + s * wc ≡ vc + s * wc' → vb' + s * wb ≡ vb + s * wb' → vc + s * wb ≤ vb + s * wc →
    vc' + t * wb' ≤ vb' + t * wc'
weigh s t vc vb vc' vb' wc wb wc' wb' h k p q i =
    omega (arith, split_factor s t wc' h, split_factor s t wb' h, mul-le-mul_left {m = wc'} {n = wb'} (s - t) k)

-- the weighted comparison at every level
weighted : (s : ℕ → ℕ) → ((n : ℕ) → s (suc n) ≤ s n) → (bs cs : List ℕ) → ((l : ℕ) → served l cs ≤ served l bs) →
    (k : ℕ) →
    worth_by_steps s k cs + s k * served k bs ≤ worth_by_steps s k bs + s k * served k cs
weighted s falls bs cs h zero =
    rw ((level_none s bs).0, (level_none s bs).1, (level_none s cs).0, (level_none s cs).1) (omega arith)
weighted s falls bs cs h (suc k) =
    weigh (s k) (s (suc k)) (worth_by_steps s k cs) (worth_by_steps s k bs) (worth_by_steps s (suc k) cs)
    (worth_by_steps s (suc k) bs)
    (served k cs) (served k bs) (served (suc k) cs) (served (suc k) bs)
    (falls k) (h (suc k)) (level_more s k cs) (level_more s k bs) (weighted s falls bs cs h k)

-- so what serves more at every level is worth more
served_worth : (s : ℕ → ℕ) → ((n : ℕ) → s (suc n) ≤ s n) → (bs cs : List ℕ) → ((l : ℕ) → served l cs ≤ served l bs) →
    (k : ℕ) →
    worth_by_steps s k cs ≤ worth_by_steps s k bs
served_worth s falls bs cs h k =
    omega (arith, weighted s falls bs cs h k, mul-le-mul_left {m = served k cs} {n = served k bs} (s k) (h k))

-- the steps of a table up to m as natural numbers, 0 from m on
step_of : (ℕ → ℤ) → ℕ → ℕ → ℕ
step_of f m n = pick (ltb n m) (int.up (f (suc n) -ℤ f n)) 0

-- within the table, a step leads from one number to the next
step_within : (f : ℕ → ℤ) (m : ℕ) → Qualifies f m → (n : ℕ) → n < m → f (suc n) ≡ pos (step_of f m n) +ℤ f n
unfolding step_of
step_within f m q n h = rw (lt-ltb n m h) (int.rise_is (f n) (f (suc n)) (q.never_falls n h))

-- a step is at most the one before it, by whether it lies within the table
step_by : (f : ℕ → ℤ) (m : ℕ) → Qualifies f m → (n : ℕ) (t : Bool) → ltb (suc n) m ≡ t →
    pick t (int.up (f (suc (suc n)) -ℤ f (suc n))) 0 ≤ step_of f m n
unfolding step_of
step_by f m q n true e =
    let h = ltb-true (suc n) m e in
    rw (lt-ltb n m (omega arith))
    (int.up_mono (f (suc (suc n)) -ℤ f (suc n)) (f (suc n) -ℤ f n) (q.never_grows n h))
step_by f m q n false e = omega arith

-- the steps of a qualifying table never grow
steps_fall : (f : ℕ → ℤ) (m : ℕ) → Qualifies f m → (n : ℕ) → step_of f m (suc n) ≤ step_of f m n
unfolding step_of
steps_fall f m q n = step_by f m q n (ltb (suc n) m) refl

-- a table is its number at 0 and its steps
table_is : (f : ℕ → ℤ) (m : ℕ) → Qualifies f m → (b : ℕ) → b ≤ m → f b ≡ pos (first_steps (step_of f m) b) +ℤ f 0
table_is f m q zero h = sym (+ℤ_idl (f 0))
table_is f m q (suc b) h =
    let s = step_of f m b in
    let v = first_steps (step_of f m) b in
    step_within f m q b h
    ∙ ap (λ z. pos s +ℤ z) (table_is f m q b (omega arith))
    ∙ sym (+ℤ_assoc (pos s) (pos v) (f 0))
    ∙ ap (λ n. pos n +ℤ f 0) (add_comm s v)

-- what a list earns is its worth by steps and the table's number at 0 for each entry
earned_is : (f : ℕ → ℤ) (m : ℕ) → Qualifies f m → (bs : List ℕ) → WithinAll m bs →
    earned f bs ≡ pos (worth_by_steps (step_of f m) m bs) +ℤ earned (λ n. f 0) bs
earned_is f m q [] w = refl
earned_is f m q (b ∷ bs) w =
    let s = step_of f m in
    let u : min b m ≡ b = omega arith in
    rw (u, table_is f m q b w.0, earned_is f m q bs w.1)
    (int.plus_swap (pos (first_steps s b)) (f 0) (pos (worth_by_steps s m bs)) (earned (λ n. f 0) bs))

-- what a constant table gives depends on the length only
earned_constant : (z : ℤ) (bs cs : List ℕ) → length cs ≡ length bs → earned (λ n. z) cs ≡ earned (λ n. z) bs
earned_constant z [] [] e = refl
earned_constant z [] (c ∷ cs) e = absurd (omega arith)
earned_constant z (b ∷ bs) [] e = absurd (omega arith)
earned_constant z (b ∷ bs) (c ∷ cs) e = ap (λ y. z +ℤ y) (earned_constant z bs cs (omega arith))

-- of two equally long lists within a table, the one that serves more at every level earns more
pub served_earns : (f : ℕ → ℤ) (m : ℕ) → Qualifies f m → (bs cs : List ℕ) → length cs ≡ length bs →
    WithinAll m bs → WithinAll m cs → ((l : ℕ) → served l cs ≤ served l bs) → earned f cs ≤ℤ earned f bs
served_earns f m q bs cs e wb wc h =
    let s = step_of f m in
    let vb = worth_by_steps s m bs in
    let vc = worth_by_steps s m cs in
    let zb = earned (λ n. f 0) bs in
    let zc = earned (λ n. f 0) cs in
    let l : vc ≤ vb = served_worth s (steps_fall f m q) bs cs h m in
    rw (earned_is f m q bs wb, earned_is f m q cs wc)
    (int.plus_mono (pos vc) (pos vb) zc zb (int.pos_le vc vb l) (int.le_of_eq zc zb (earned_constant (f 0) bs cs e)))

-- the table of a level qualifies
pub level_qualifies : (l m : ℕ) → Qualifies (λ n. pos (min n l)) m
level_qualifies l m =
    record {
      never_falls = λ n h. int.pos_le (min n l) (min (suc n) l) (omega arith);
      never_grows =
          λ n h. int.pos_minus_le (min (suc (suc n)) l) (min (suc n) l) (min (suc n) l) (min n l) (omega arith);
    }

-- and gives what is served at that level
pub earned_level : (l : ℕ) (bs : List ℕ) → earned (λ n. pos (min n l)) bs ≡ pos (served l bs)
unfolding served
earned_level l [] = refl
earned_level l (b ∷ bs) = ap (λ z. pos (min b l) +ℤ z) (earned_level l bs)
