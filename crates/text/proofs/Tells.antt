-- Text tells its figures: two equal texts, made by one pattern, show the same numbers.
use mathlib.Core.Path.{◌≡◌, refl, sym, ap, ◌∙◌}
use mathlib.Core.Bool.{Bool, true, false, false≢true, not, ◌&&◌}
use mathlib.Core.List.{List, [], ◌∷◌, ◌++◌, append_assoc}
use Prim.Native.Nat.{ℕ, zero, suc, ◌+◌, ◌-◌, ◌*◌, ◌/◌, ◌%◌, ◌^◌, ◌≤◌, ◌<◌}
use native.Mathlib.Omega.{arith}
use native.Mathlib.Nat.{pow-suc}
use lib.Dec.{eqb, ltb}
use lib.ListN.{length}
use borrow.Author.Tests.{lt-ltb, ltb-true}
use Rattle.io.specs.Digits.{hex_digit_ascii, last_digits}
use Rattle.text.specs.Decimal.{places_in, places, decimal}
use Rattle.text.specs.Line.{gap, line_of, lines_of}
use Rattle.text.proofs.Decimal.{places_in_lem}
use Rattle.text.proofs.Line.{line_bare, line_byte, line_gap}

-- ---- digits

-- the number that digits say, behind a number that was said before
abbrev value : ℕ → List ℕ → ℕ
value n [] = n
value n (b ∷ bs) = value (n * 10 + (b - 48)) bs

value_append : (n : ℕ) (xs ys : List ℕ) → value n (xs ++ ys) ≡ value (value n xs) ys
value_append n [] ys = refl
value_append n (x ∷ xs) ys = value_append (n * 10 + (x - 48)) xs ys

-- the byte of a digit below 10
glyph_is : (d : ℕ) → d < 10 → hex_digit_ascii d ≡ 48 + d
glyph_is d h = rw (lt-ltb d 10 h) refl

digits_value : (k n : ℕ) → n < 10 ^ k → value 0 (last_digits 10 k n) ≡ n
digits_value zero n h = omega arith
digits_value (suc k) n h =
    let z = pow-suc 10 k in
    let g = glyph_is (n % 10) (omega arith) in
    let i = digits_value k (n / 10) (omega arith) in
    value_append 0 (last_digits 10 k (n / 10)) (hex_digit_ascii (n % 10) ∷ []) ∙ omega arith

-- the digits of a number tell it
decimal_value : (n : ℕ) → value 0 (decimal n) ≡ n
unfolding decimal
decimal_value n = digits_value (places_in n n) n (places_in_lem n n (omega arith)).1

-- a list of digits' bytes
abbrev AllDigits : List ℕ → Type 0
AllDigits [] = Unit {0}
AllDigits (b ∷ bs) = (48 ≤ b) × (b ≤ 57) × AllDigits bs

all_digits : (k n : ℕ) → AllDigits (last_digits 10 k n)
all_digits zero n = tt
all_digits (suc k) n =
    let g = glyph_is (n % 10) (omega arith) in
    snoc (last_digits 10 k (n / 10)) (hex_digit_ascii (n % 10)) (all_digits k (n / 10)) (omega arith) (omega arith)
  where
    snoc : (xs : List ℕ) (b : ℕ) → AllDigits xs → 48 ≤ b → b ≤ 57 → AllDigits (xs ++ (b ∷ []))
    snoc [] b a l h = (l, h, tt)
    snoc (x ∷ xs) b a l h = (a.0, a.1, snoc xs b a.2 l h)

decimal_digits : (n : ℕ) → AllDigits (decimal n)
unfolding decimal
decimal_digits n = all_digits (places n) n

-- ---- a number and what follows it

-- digits end where another byte stands
digits_end : (xs ys : List ℕ) (s : ℕ) (r t : List ℕ) → AllDigits xs → AllDigits ys → s < 48 → xs ++ (s ∷ r) ≡ ys
    ++ (s ∷ t) →
    (xs ≡ ys) × (r ≡ t)
digits_end [] [] s r t a b l e = (refl, cc)
digits_end [] (y ∷ ys) s r t a b l e = let z : s ≡ y = cc in absurd (omega arith)
digits_end (x ∷ xs) [] s r t a b l e = let z : x ≡ s = cc in absurd (omega arith)
digits_end (x ∷ xs) (y ∷ ys) s r t a b l e =
    let h : x ≡ y = cc in
    let k : xs ++ (s ∷ r) ≡ ys ++ (s ∷ t) = cc in
    let i = digits_end xs ys s r t a.2 b.2 l k in
    let p = i.0 in
    (cc, i.1)

-- a number followed by a byte below the digits, as a space or a line end
number_same : (n m x : ℕ) (r t : List ℕ) → x < 48 → decimal n ++ (x ∷ r) ≡ decimal m ++ (x ∷ t) → (n ≡ m) × (r ≡ t)
number_same n m x r t l e =
    let s = digits_end (decimal n) (decimal m) x r t (decimal_digits n) (decimal_digits m) l e in
    (sym (decimal_value n) ∙ (ap (value 0) s.0 ∙ decimal_value m), s.1)

-- ---- a line

-- a byte below the digits that is no gap stands behind the gap
abbrev apart : List ℕ → Bool
apart [] = false
apart (b ∷ p) = ltb b 48 && not (eqb b gap)

-- a pattern tells its figures if such a byte stands behind each gap
abbrev pub telling : List ℕ → Bool
telling [] = true
telling (b ∷ p) = elim (eqb b gap) [ true ↦ apart p && telling p | false ↦ telling p ]

-- the gaps of a pattern
abbrev pub gaps : List ℕ → ℕ
gaps [] = 0
gaps (b ∷ p) = elim (eqb b gap) [ true ↦ suc (gaps p) | false ↦ gaps p ]

both : (s t : Bool) → s && t ≡ true → (s ≡ true) × (t ≡ true)
both true t e = (refl, e)
both false t e = absurd (false≢true e)

not_gap : (t : Bool) → not t ≡ true → t ≡ false
not_gap true e = sym e
not_gap false e = refl

-- a figure and the byte behind it
figure_front : (b c : ℕ) (p : List ℕ) (n : ℕ) (ns r : List ℕ) → eqb b gap ≡ true → eqb c gap ≡ false →
    line_of (b ∷ c ∷ p) (n ∷ ns) ++ r ≡ decimal n ++ (c ∷ (line_of p ns ++ r))
figure_front b c p n ns r g h =
    rw (line_gap b (c ∷ p) n ns g, line_byte c p ns h) (append_assoc (decimal n) (c ∷ line_of p ns) r)

-- what a pattern's tail tells, as the induction hands it on
abbrev Told : List ℕ → Type 0
Told p =
    (ns ms r t : List ℕ) → telling p ≡ true → length ns ≡ gaps p → length ms ≡ gaps p → line_of p ns ++ r ≡ line_of p ms
    ++ t →
    (ns ≡ ms) × (r ≡ t)

gap_told : (b : ℕ) (p : List ℕ) → Told p → eqb b gap ≡ true → (ns ms r t : List ℕ) → apart p && telling p ≡ true →
    length ns ≡ suc (gaps p) → length ms ≡ suc (gaps p) → line_of (b ∷ p) ns ++ r ≡ line_of (b ∷ p) ms ++ t →
    (ns ≡ ms) × (r ≡ t)
gap_told b [] ih g ns ms r t o k l e = absurd (false≢true o)
gap_told b (c ∷ p) ih g [] ms r t o k l e = absurd (omega arith)
gap_told b (c ∷ p) ih g (n ∷ ns) [] r t o k l e = absurd (omega arith)
gap_told b (c ∷ p) ih g (n ∷ ns) (m ∷ ms) r t o k l e =
    let a = both (apart (c ∷ p)) (telling (c ∷ p)) o in
    let s = both (ltb c 48) (not (eqb c gap)) a.0 in
    let h = not_gap (eqb c gap) s.1 in
    let u = number_same n m c (line_of p ns ++ r) (line_of p ms ++ t) (ltb-true c 48 s.0)
    (sym (figure_front b c p n ns r g h) ∙ (e ∙ figure_front b c p m ms t g h)) in
    let v = ih ns ms r t a.1 (omega arith) (omega arith)
    (rw (line_byte c p ns h, line_byte c p ms h) (ap (λ (x : List ℕ). c ∷ x) u.1)) in
    let x = u.0 in
    let y = v.0 in
    (cc, v.1)

byte_told : (b : ℕ) (p : List ℕ) → Told p → eqb b gap ≡ false → (ns ms r t : List ℕ) → telling p ≡ true →
    length ns ≡ gaps p → length ms ≡ gaps p → line_of (b ∷ p) ns ++ r ≡ line_of (b ∷ p) ms ++ t → (ns ≡ ms) × (r ≡ t)
byte_told b p ih g ns ms r t o k l e =
    let d : b ∷ (line_of p ns ++ r) ≡ b ∷ (line_of p ms ++ t) = rw (line_byte b p ns g, line_byte b p ms g) at e in
    ih ns ms r t o k l (cc)

-- a line of such a pattern tells its figures, and what follows it
pub line_same : (p : List ℕ) → Told p
line_same [] [] [] r t o k l e = (refl, rw (line_bare []) at e)
line_same [] [] (m ∷ ms) r t o k l e = absurd (omega arith)
line_same [] (n ∷ ns) ms r t o k l e = absurd (omega arith)
line_same (b ∷ p) ns ms r t o k l e = go (eqb b gap) refl (line_same p) o k l
  where
    go : (q : Bool) → eqb b gap ≡ q → Told p →
        (elim q as (λ _. Bool) [ true ↦ apart p && telling p | false ↦ telling p ]) ≡ true →
        length ns ≡ (elim q as (λ _. ℕ) [ true ↦ suc (gaps p) | false ↦ gaps p ]) →
        length ms ≡ (elim q as (λ _. ℕ) [ true ↦ suc (gaps p) | false ↦ gaps p ]) → (ns ≡ ms) × (r ≡ t)
    go true g ih o k l = gap_told b p ih g ns ms r t o k l e
    go false g ih o k l = byte_told b p ih g ns ms r t o k l e

-- ---- lines up to a letter

-- rows of so many figures
abbrev pub AllLong : ℕ → List (List ℕ) → Type 0
AllLong k [] = Unit {0}
AllLong k (ns ∷ rows) = (length ns ≡ k) × AllLong k rows

-- digits and the byte behind them begin with no letter
no_letter : (ds : List ℕ) (s w : ℕ) (r t : List ℕ) → AllDigits ds → s < 48 → 57 < w → ds ++ (s ∷ r) ≡ w ∷ t → ⊥
no_letter [] s w r t a l h e = let z : s ≡ w = cc in omega arith
no_letter (d ∷ ds) s w r t a l h e = let z : d ≡ w = cc in omega (arith, a.1)

-- the pattern of a figure and a byte behind it, and what follows
module _ (s : ℕ) (p : List ℕ) (low : s < 48) (other : eqb s gap ≡ false) (told : telling p ≡ true) (w : ℕ)
    (letter : 57 < w) where
  -- its line is no line that begins with a letter
  line_no_letter : (ns r t : List ℕ) → length ns ≡ suc (gaps p) → line_of (gap ∷ s ∷ p) ns ++ r ≡ w ∷ t → ⊥
  line_no_letter [] r t k e = omega arith
  line_no_letter (n ∷ ns) r t k e =
      no_letter (decimal n) s w (line_of p ns ++ r) t (decimal_digits n) low letter
      (sym (figure_front gap s p n ns r refl other) ∙ e)

  front : (ns : List ℕ) (rows : List (List ℕ)) (r : List ℕ) →
      lines_of (gap ∷ s ∷ p) (ns ∷ rows) ++ (w ∷ r) ≡ line_of (gap ∷ s ∷ p) ns ++ (lines_of (gap ∷ s ∷ p) rows ++ (w ∷ r))
  front ns rows r = append_assoc (line_of (gap ∷ s ∷ p) ns) (lines_of (gap ∷ s ∷ p) rows) (w ∷ r)

  -- lines of it, up to a line that begins with the letter, tell their rows and that line
  pub lines_same : (xs ys : List (List ℕ)) (r t : List ℕ) → AllLong (suc (gaps p)) xs → AllLong (suc (gaps p)) ys →
      lines_of (gap ∷ s ∷ p) xs ++ (w ∷ r) ≡ lines_of (gap ∷ s ∷ p) ys ++ (w ∷ t) → (xs ≡ ys) × (r ≡ t)
  lines_same [] [] r t k l e = (refl, cc)
  lines_same [] (y ∷ ys) r t k l e =
      absurd (line_no_letter y (lines_of (gap ∷ s ∷ p) ys ++ (w ∷ t)) r l.0 (sym (front y ys t) ∙ sym e))
  lines_same (x ∷ xs) [] r t k l e =
      absurd (line_no_letter x (lines_of (gap ∷ s ∷ p) xs ++ (w ∷ r)) t k.0 (sym (front x xs r) ∙ e))
  lines_same (x ∷ xs) (y ∷ ys) r t k l e =
      let telling-gap : telling (gap ∷ s ∷ p) ≡ true = rw (lt-ltb s 48 low, other) told in
      let u = line_same (gap ∷ s ∷ p) x y (lines_of (gap ∷ s ∷ p) xs ++ (w ∷ r))
      (lines_of (gap ∷ s ∷ p) ys ++ (w ∷ t)) telling-gap
      (rw other k.0) (rw other l.0) (sym (front x xs r) ∙ (e ∙ front y ys t)) in
      let v = lines_same xs ys r t k.1 l.1 u.1 in
      let a = u.0 in
      let b = v.0 in
      (cc, v.1)
