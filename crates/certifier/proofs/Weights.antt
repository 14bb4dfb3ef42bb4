-- The backward pass: what it holds before a frame, and that one frame more keeps it.
use mathlib.Core.Path.{◌≡◌, refl, sym, ◌∙◌}
use mathlib.Core.Logic.{⊎_elim}
use mathlib.Core.List.{List, ◌∷◌}
use Prim.Native.Nat.{ℕ, ◌+◌, ◌-◌, ◌≤◌, ◌<◌, ◌^◌, min}
use native.Mathlib.Nat.{le_refl, min-le_left}
use native.Mathlib.Omega.{arith}
use lib.ListN.{length, drop, set, get_or, drop_of_length-le}
use Rattle.std.proofs.lemmas.List.{drop_more, drop-set}
use Rattle.model.specs.Frames.{Frame, reserve}
use Rattle.model.proofs.Order.{le_or_lt}
use Rattle.model.proofs.Reserve.{reserve_grows}
use Rattle.certifier.specs.declared.frame.At.{At}
use Rattle.certifier.specs.declared.weight.Weight.{Weight}
use Rattle.certifier.specs.Frame.{frame, Read}
use Rattle.certifier.specs.Course.{Bounded, Steady, Turn, Turns, CourseFrom, StartsFrom}
use Rattle.certifier.specs.Says.{Light, TurnedAt, WeighedAt}
use Rattle.certifier.proofs.Course.{reserve_frame, enters}

-- before frame k: the reserves of its level and of one level more, a charge that no reserve is above, when a level
-- may come before it and when a charge may
pub record Holds (e : ℕ) (fs : List Frame) (k : ℕ) (ls : List ℕ) (level low high gap : ℕ) : Type 0 where
  pub low_is : low ≡ reserve e level (drop k fs)
  pub high_is : high ≡ reserve e (level + 1) (drop k fs)
  pub under : (x : ℕ) → reserve e x (drop k fs) ≤ gap
  pub turns : (l : ℕ) → (l < level → low ≡ 0) → (level < l → gap ≤ high) → Turns e (drop k fs) l (drop k ls)
  pub starts : (y : ℕ) → low ≤ y → (Bounded level → min y gap ≤ high) → StartsFrom e y fs k ls

-- past the last frame
pub past : (e : ℕ) (fs : List Frame) (k : ℕ) (ls : List ℕ) → length fs ≤ k → Holds e fs k ls 0 e e e
unfolding reserve StartsFrom
past e fs k ls p =
    let q = drop_of_length-le fs {i = k} p in
    record {
      low_is = rw q refl;
      high_is = rw q refl;
      under = λ x. rw q (le_refl e);
      turns = λ l _ _. rw q tt;
      starts = λ y _ _. rw q tt;
    }

pub past_course : (e : ℕ) (fs : List Frame) (k : ℕ) (ls rs : List ℕ) → length fs ≤ k → CourseFrom e fs k ls rs
unfolding CourseFrom
past_course e fs k ls rs p = rw (drop_of_length-le fs {i = k} p) tt

-- no reserve is above what the store can take over
pub weighed_light : {f : At} {l : ℕ} {w v : Weight} → WeighedAt f l w v → f.ceiling - f.inflow < 2 ^ 32 → Light v
weighed_light weighed fits =
    record { low_fits = omega (arith, weighed.low_is, fits); high_fits = omega (arith, weighed.high_is, fits) }

-- what a level before frame k reserves there
module _ {e : ℕ} {fs : List Frame} {k : ℕ} {ls : List ℕ} (w : Weight)
    (holds : Holds e fs k ls w.level w.low w.high w.gap) (l : ℕ) {low high : ℕ}
    (turned : TurnedAt l w low high) where
  -- at a level x: l itself or one more
  turned_at : (x v : ℕ) → (l < w.level → (w.low ≡ 0) × (v ≡ 0) × (x ≤ w.level)) →
      (w.level < l → (w.gap ≤ w.high) × (v ≡ w.high) × (w.level + 1 ≤ x)) →
      (l ≡ w.level → v ≡ reserve e x (drop k fs)) →
      v ≡ reserve e x (drop k fs)
  turned_at x v rise fall same =
      ⊎_elim
      (λ (p : l ≤ w.level).
      ⊎_elim
      (λ (q : w.level ≤ l). same (omega arith))
      (λ (q : l < w.level). none (rise q) (reserve_grows e x w.level (drop k fs) (rise q).2))
      (le_or_lt w.level l))
      (λ (p : w.level < l). all (fall p) (reserve_grows e (w.level + 1) x (drop k fs) (fall p).2) (holds.under x))
      (le_or_lt l w.level)
    where
      none : {r : ℕ} → (w.low ≡ 0) × (v ≡ 0) × (x ≤ w.level) → r ≤ reserve e w.level (drop k fs) → v ≡ r
      none t g = omega (arith, holds.low_is)

      all : {r : ℕ} → (w.gap ≤ w.high) × (v ≡ w.high) × (w.level + 1 ≤ x) →
          reserve e (w.level + 1) (drop k fs) ≤ r → r ≤ w.gap → v ≡ r
      all t g u = omega (arith, holds.high_is)

  turned_low : low ≡ reserve e l (drop k fs)
  turned_low =
      turned_at l low (λ p. ((turned.rise p).0, (turned.rise p).1, omega arith))
      (λ p. ((turned.fall p).0, (turned.fall p).1, omega arith))
      (λ q. (turned.same q).0 ∙ (rw q holds.low_is))

  turned_high : high ≡ reserve e (l + 1) (drop k fs)
  turned_high =
      turned_at (l + 1) high (λ p. ((turned.rise p).0, (turned.rise p).2, omega arith))
      (λ p. ((turned.fall p).0, (turned.fall p).2, omega arith))
      (λ q. (turned.same q).1 ∙ (rw q holds.high_is))

  turned_turns : Turns e (drop k fs) l (drop k ls)
  turned_turns = holds.turns l (λ p. (turned.rise p).0) (λ p. (turned.fall p).0)

-- frame k at level l, put before what w holds
module _ {e : ℕ} {fs : List Frame} {k : ℕ} {ls : List ℕ} (f : At) (l : ℕ) (w v : Weight)
    (read : Read fs k f.inflow f.ceiling f.drain f.least f.most)
    (holds : Holds e fs (k + 1) ls w.level w.low w.high w.gap) (weighed : WeighedAt f l w v)
    (here : k < length ls) (level : l ≡ get_or ls k 0) where
  abbrev this : Frame
  this = frame f.inflow f.ceiling f.drain f.least f.most

  abbrev rest : List Frame
  rest = drop (k + 1) fs

  weighed_steady : Steady e this rest l v.after
  weighed_steady =
      let low = turned_low w holds l weighed.turned in
      let high = turned_high w holds l weighed.turned in
      record { after = low; rich = rw low at weighed.rich; poor = rw high at weighed.poor }

  -- its reserves
  weighed_low : v.low ≡ reserve e l (this ∷ rest)
  weighed_low =
      let low = turned_low w holds l weighed.turned in
      (rw low at weighed.low_is) ∙ sym (reserve_frame e l this rest)

  weighed_high : v.high ≡ reserve e (l + 1) (this ∷ rest)
  weighed_high =
      let high = turned_high w holds l weighed.turned in
      (rw high at weighed.high_is) ∙ sym (reserve_frame e (l + 1) this rest)

  weighed_under : (x : ℕ) → reserve e x (this ∷ rest) ≤ v.gap
  weighed_under x = rw (weighed.gap_is, reserve_frame e x this rest) (min-le_left _ _)

  weighed_turn : (x : ℕ) → (x < l → v.low ≡ 0) → (l < x → v.gap ≤ v.high) → Turn e this rest x l
  weighed_turn x low high =
      record {
        empty = λ p. sym weighed_low ∙ low p;
        full = λ p. rw (sym weighed.gap_is, sym weighed_high) (high p);
      }

  -- and so it holds before frame k
  weighed_holds : Holds e fs k ls v.level v.low v.high v.gap
  unfolding StartsFrom
  weighed_holds =
      rw weighed.level_is
      (record {
        low_is = rw read.is weighed_low;
        high_is = rw read.is weighed_high;
        under = λ x. rw read.is (weighed_under x);
        turns = λ x low high. rw (read.is, drop_more ls k 0 here, sym level) (weighed_turn x low high);
        starts = λ y low high.
            rw (read.is, drop_more ls k 0 here, sym level)
            (enters y weighed_steady (rw (sym weighed_low) low)
            (λ b. rw (sym weighed.gap_is, sym weighed_high) (high b)));
      })

  -- with what its level reserves written
  weighed_course : (rs : List ℕ) → k < length rs → CourseFrom e fs (k + 1) ls rs →
      CourseFrom e fs k ls (set rs k v.after)
  unfolding CourseFrom
  weighed_course rs p c =
      rw (read.is, drop_more ls k 0 here, sym level, drop-set rs k v.after p)
      (weighed_steady, turned_turns w holds l weighed.turned, c)

  -- all that the loop keeps
  pub weighed_on : (rs : List ℕ) → k < length rs → CourseFrom e fs (k + 1) ls rs →
      Light v × Holds e fs k ls v.level v.low v.high v.gap × CourseFrom e fs k ls (set rs k v.after)
  weighed_on rs p c = (weighed_light weighed read.plain.store_fits, weighed_holds, weighed_course rs p c)
