-- The number of digits that the kit writes is the number of digits, and a number below 10 ^ k has at most k.
use mathlib.Core.Path.{◌≡◌, refl, ap}
use mathlib.Core.Bool.{Bool, true, false}
use Prim.Native.Nat.{ℕ, zero, suc, ◌-◌, ◌*◌, ◌/◌, ◌%◌, ◌^◌, ◌≤◌, ◌<◌}
use native.Mathlib.Omega.{arith}
use native.Mathlib.Nat.{pow-suc, pow-le-pow_right}
use native.Mathlib.Decide.{dec_le}
use mathlib.Core.List.{[], ◌∷◌}
use lib.Dec.{ltb}
use lib.ListN.{length, length-append}
use borrow.Author.Tests.{ltb-true, ltb-false}
use Rattle.io.specs.Digits.{hex_digit_ascii, last_digits, IsDigitCount}
use Rattle.text.specs.Decimal.{places_in, decimal}

-- fewest digits are no more than any other fewest
no_more : (n j k : ℕ) → IsDigitCount 10 1 n j → IsDigitCount 10 1 n k → k ≤ j
no_more n j k a b =
    elim (dec_le k j) [
      | yes p ↦ p
      | no p ↦ let q : 10 ^ (k - 1) ≤ n = b.2 (omega (arith, a.0)) in
          let r : 10 ^ j ≤ 10 ^ (k - 1) = pow-le-pow_right {n = 10} (omega arith) {i = j} {j = k - 1} (omega arith) in
          absurd (omega (arith, a.1))
    ]

-- so there is one number of fewest digits
one_fewest : (n j k : ℕ) → IsDigitCount 10 1 n j → IsDigitCount 10 1 n k → j ≡ k
one_fewest n j k a b = let p = no_more n j k a b in let q = no_more n k j b a in omega arith

-- a number of at least two digits has one more than its tenth
one_more : (n k : ℕ) → 10 ≤ n → IsDigitCount 10 1 (n / 10) k → IsDigitCount 10 1 n (suc k)
one_more n k l r =
    let e : 10 ^ suc k ≡ 10 ^ k * 10 = pow-suc 10 k in
    (omega arith, omega (arith, r.1), λ h. elim (dec_le k 1) [ yes p ↦ low p | no p ↦ high p ])
  where
    low : k ≤ 1 → 10 ^ (suc k - 1) ≤ n
    low p = let q : suc k - 1 ≡ 1 = omega (arith, r.0) in rw q l

    high : (k ≤ 1 → ⊥) → 10 ^ (suc k - 1) ≤ n
    high p =
        let q : suc k - 1 ≡ suc (k - 1) = omega arith in
        let m : 10 ^ (k - 1) ≤ n / 10 = r.2 (omega arith) in
        let e : 10 ^ suc (k - 1) ≡ 10 ^ (k - 1) * 10 = pow-suc 10 (k - 1) in
        rw q (omega arith)

-- looked for often enough, they are the fewest
pub places_in_lem : (f n : ℕ) → n ≤ f → IsDigitCount 10 1 n (places_in f n)
places_in_lem zero n l = (omega arith, omega arith, λ h. absurd (omega arith))
places_in_lem (suc f) n l = go (ltb n 10) refl (λ g. places_in_lem f (n / 10) g)
  where
    go : (t : Bool) → ltb n 10 ≡ t → (n / 10 ≤ f → IsDigitCount 10 1 (n / 10) (places_in f (n / 10))) →
        IsDigitCount 10 1 n (elim t as (λ _. ℕ) [ true ↦ 1 | false ↦ suc (places_in f (n / 10)) ])
    go true e ih = (omega arith, omega (arith, ltb-true n 10 e), λ h. absurd (omega arith))
    go false e ih =
        let m = ltb-false n 10 e in
        one_more n (places_in f (n / 10)) m (ih (omega arith))

-- the digits that the kit gives are the number's
pub digits_are : (n k : ℕ) → IsDigitCount 10 1 n k → last_digits 10 k n ≡ decimal n
unfolding decimal
digits_are n k a = ap (λ (j : ℕ). last_digits 10 j n) (one_fewest n k (places_in n n) a (places_in_lem n n (omega arith)))

-- so many digits are so long
pub digits_length : (b k n : ℕ) → length (last_digits b k n) ≡ k
digits_length b zero n = refl
digits_length b (suc k) n =
    let i = digits_length b k (n / b) in
    omega (arith, length-append (last_digits b k (n / b)) (hex_digit_ascii (n % b) ∷ []))

-- a number that k digits can hold is written in at most k
pub decimal_length : (n k : ℕ) → 1 ≤ k → n < 10 ^ k → length (decimal n) ≤ k
unfolding decimal
decimal_length n k l h =
    let a = places_in_lem n n (omega arith) in
    rw (digits_length 10 (places_in n n) n)
    (elim (dec_le (places_in n n) k) [
      | yes p ↦ p
      | no p ↦ let q : 10 ^ (places_in n n - 1) ≤ n = a.2 (omega arith) in
          let r : 10 ^ k ≤ 10 ^ (places_in n n - 1) =
          pow-le-pow_right {n = 10} (omega arith) {i = k} {j = places_in n n - 1} (omega arith) in
          absurd (omega arith)
    ])
