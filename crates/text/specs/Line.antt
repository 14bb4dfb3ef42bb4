-- Lines of a fixed shape: a pattern with a gap for each figure.
use Rattle.std.specs.Prelude.{true, false, List, [], ◌∷◌, ◌++◌, ℕ, suc, ◌+◌, eqb, length}
use Rattle.text.specs.Decimal.{decimal}

-- the byte of a pattern that stands for a figure: #
abbrev pub gap : ℕ
gap = 35

-- the line of a pattern: the next figure in decimal digits in place of each gap, as long as there are figures
unfoldable pub line_of : List ℕ → List ℕ → List ℕ
line_of [] ns = []
line_of (b ∷ p) [] = b ∷ p
line_of (b ∷ p) (n ∷ ns) = elim (eqb b gap) [ true ↦ decimal n ++ line_of p ns | false ↦ b ∷ line_of p (n ∷ ns) ]

-- lines of one pattern, one after the other, each with figures of its own
abbrev pub lines_of : List ℕ → List (List ℕ) → List ℕ
lines_of p [] = []
lines_of p (ns ∷ rows) = line_of p ns ++ lines_of p rows

-- the bytes of the longest line of a pattern whose figures have at most so many digits
abbrev pub room_of : List ℕ → List ℕ → ℕ
room_of [] ds = 0
room_of (b ∷ p) [] = suc (length p)
room_of (b ∷ p) (d ∷ ds) = elim (eqb b gap) [ true ↦ d + room_of p ds | false ↦ suc (room_of p (d ∷ ds)) ]
