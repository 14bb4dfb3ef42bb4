-- The words of a word file by what they say, and the number that each is.
use Rattle.std.specs.Prelude.{◌≡◌, List, ℕ, ◌<◌, ◌≤◌, ◌^◌, length, get_or, Option, Some, None}
use Rattle.words.specs.Words.{word_of, bound_word, figure_kind, harvest_kind, end_kind, least_mark, most_mark}
use Rattle.words.specs.declared.word.Word.{Word}
use Rattle.words.specs.declared.word.Word.TheVariants.{Figure, Harvest, Least, Most, End}

-- the number of a word
abbrev pub spelt : Word → ℕ
spelt (Figure v) = word_of figure_kind v
spelt (Harvest v) = word_of harvest_kind v
spelt (Least a) = bound_word least_mark a
spelt (Most a) = bound_word most_mark a
spelt (End v) = word_of end_kind v

-- what a word says fits beside its kind or its mark
abbrev pub Fits : Word → Type 0
Fits (Figure v) = v < 2 ^ 30
Fits (Harvest v) = v < 2 ^ 30
Fits (Least a) = a < 2 ^ 29
Fits (Most a) = a < 2 ^ 29
Fits (End v) = v < 2 ^ 30

-- a word that says what the number n does
pub record Spells (w : Word) (n : ℕ) : Type 0 where
  pub is : spelt w ≡ n
  pub fits : Fits w

-- what word i of a list is: none where there is none
abbrev pub Found : List ℕ → ℕ → Option Word → Type 0
Found ws i None = length ws ≤ i
Found ws i (Some w) = (i < length ws) × Spells w (get_or ws i 0)
