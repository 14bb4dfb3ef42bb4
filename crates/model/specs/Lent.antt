-- What a lent list holds after values were written into it.
use Rattle.std.specs.Prelude.{List, ◌++◌, ℕ, ◌+◌, length, take, drop}

-- the list with xs at its front; the surplus keeps its values
abbrev pub over : List ℕ → List ℕ → List ℕ
over xs ys = xs ++ drop (length xs) ys

-- the list with xs in the place of its values from index at on
abbrev pub over_at : ℕ → List ℕ → List ℕ → List ℕ
over_at at xs ys = take at ys ++ (xs ++ drop (at + length xs) ys)
