-- Numbers as text: the kit's decimal digits, as few as hold the number.
use Rattle.std.specs.Prelude.{true, false, List, ℕ, zero, suc, ◌/◌, ltb}
use Rattle.io.specs.Digits.{last_digits}

-- how many decimal digits a number has, looked for so many times
abbrev pub places_in : ℕ → ℕ → ℕ
places_in zero n = 1
places_in (suc f) n = elim (ltb n 10) [ true ↦ 1 | false ↦ suc (places_in f (n / 10)) ]

-- how many decimal digits a number has
abbrev pub places : ℕ → ℕ
places n = places_in n n

-- a number in decimal digits
unfoldable pub decimal : ℕ → List ℕ
decimal n = last_digits 10 (places n) n
