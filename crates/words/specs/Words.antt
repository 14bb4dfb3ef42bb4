-- Words of 32 bits: the kind in the top two bits, the value in the low 30; a bound's mark in the top three, its amount
-- in the low 29. Four bytes each, the lowest first.
use Rattle.std.specs.Prelude.{List, [], ◌∷◌, ◌++◌, ℕ, zero, suc, ◌+◌, ◌*◌, ◌/◌, ◌%◌, ◌^◌, length, get_or, drop}

-- the top two bits
abbrev pub kind_of : ℕ → ℕ
kind_of w = w / 2 ^ 30

-- the low 30 bits
abbrev pub value_in : ℕ → ℕ
value_in w = w % 2 ^ 30

-- the word of a kind and a value
abbrev pub word_of : ℕ → ℕ → ℕ
word_of k v = k * 2 ^ 30 + v

-- the top three bits, the low 29, and the word of a mark and an amount
abbrev pub mark_of : ℕ → ℕ
mark_of w = w / 2 ^ 29

abbrev pub amount_in : ℕ → ℕ
amount_in w = w % 2 ^ 29

abbrev pub bound_word : ℕ → ℕ → ℕ
bound_word m a = m * 2 ^ 29 + a

-- the four bytes of a word
abbrev pub word_bytes : ℕ → List ℕ
word_bytes w = w % 256 ∷ w / 256 % 256 ∷ w / 65536 % 256 ∷ w / 16777216 % 256 ∷ []

-- the bytes of a list of words
abbrev pub bytes_of : List ℕ → List ℕ
bytes_of [] = []
bytes_of (w ∷ ws) = word_bytes w ++ bytes_of ws

-- the word that four bytes make
abbrev pub four_bytes : ℕ → ℕ → ℕ → ℕ → ℕ
four_bytes a b c d = a + 256 * (b + 256 * (c + 256 * d))

-- the word that begins at a byte
abbrev pub word_at : List ℕ → ℕ → ℕ
word_at s at = four_bytes (get_or s at 0) (get_or s (at + 1) 0) (get_or s (at + 2) 0) (get_or s (at + 3) 0)

-- the first n words of a list of bytes
abbrev pub words_from : ℕ → List ℕ → List ℕ
words_from zero s = []
words_from (suc n) s = word_at s 0 ∷ words_from n (drop 4 s)

-- the whole words of a list of bytes
abbrev pub words_of : List ℕ → List ℕ
words_of s = words_from (length s / 4) s

-- the kinds of words: a figure, a harvest, a bound, the end word
abbrev pub figure_kind : ℕ
figure_kind = 0

abbrev pub harvest_kind : ℕ
harvest_kind = 1

abbrev pub bound_kind : ℕ
bound_kind = 2

abbrev pub end_kind : ℕ
end_kind = 3

-- the marks of bounds, their kind with bit 29: a least, a most
abbrev pub least_mark : ℕ
least_mark = 4

abbrev pub most_mark : ℕ
most_mark = 5
