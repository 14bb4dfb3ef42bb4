-- A word has the parts that it is made of, and four bytes stored one after the other are the word's.
use mathlib.Core.Path.{◌≡◌, ◌∙◌}
use mathlib.Core.List.{List, append_assoc}
use Prim.Native.Nat.{ℕ, suc, ◌+◌, ◌^◌, ◌≤◌, ◌<◌}
use native.Mathlib.Omega.{arith}
use lib.ListN.{length, get_or, set, take, drop}
use lib.Seq.{sets-eq}
use Rattle.model.specs.Lent.{over_at}
use Rattle.words.specs.Words.{kind_of, value_in, word_of, mark_of, amount_in, bound_word, word_bytes}

-- a word has the kind and the value that it is made of
pub word_kind : (k v : ℕ) → v < 2 ^ 30 → kind_of (word_of k v) ≡ k
word_kind k v l = omega arith

pub word_value : (k v : ℕ) → v < 2 ^ 30 → value_in (word_of k v) ≡ v
word_value k v l = omega arith

-- a bound's word has the mark and the amount that it is made of
pub bound_mark : (m a : ℕ) → a < 2 ^ 29 → mark_of (bound_word m a) ≡ m
bound_mark m a l = omega arith

pub bound_amount : (m a : ℕ) → a < 2 ^ 29 → amount_in (bound_word m a) ≡ a
bound_amount m a l = omega arith

-- the four bytes of a word stored one after the other
pub put_is : (s : List ℕ) (at w : ℕ) (bs : List ℕ) → at + 4 ≤ length s → bs ≡ word_bytes w →
    set (set (set (set s at (get_or bs 0 0)) (at + 1) (get_or bs 1 0)) (at + 2) (get_or bs 2 0)) (at + 3) (get_or bs 3 0)
    ≡ over_at at (word_bytes w) s
put_is s at w bs h e =
    let e1 : at + 1 ≡ suc at = omega arith in
    let e2 : at + 2 ≡ suc (suc at) = omega arith in
    let e3 : at + 3 ≡ suc (suc (suc at)) = omega arith in
    rw (e, e1, e2, e3) (sets-eq (word_bytes w) s at h ∙ append_assoc (take at s) (word_bytes w) (drop (at + 4) s))
