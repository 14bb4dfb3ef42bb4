-- Words as bytes and back, and words put into a list one behind the other.
use mathlib.Core.Path.{◌≡◌, refl, ap, ◌∙◌}
use mathlib.Core.List.{List, [], ◌∷◌, ◌++◌}
use Prim.Native.Nat.{ℕ, zero, suc, ◌+◌, ◌*◌, ◌/◌, ◌%◌, ◌^◌, ◌≤◌, ◌<◌}
use native.Mathlib.Omega.{arith}
use lib.ListN.{length, get_or, drop, length-append}
use lib.Seq.{get_or-drop}
use Rattle.model.specs.Lent.{over_at}
use Rattle.words.specs.Words.{word_bytes, bytes_of, four_bytes, word_at, words_from, words_of}
use Rattle.words.specs.Puts.{Puts, Wrote}
use Rattle.words.specs.declared.writer.Writer.{Writer}
use Rattle.words.proofs.Lists.{write_on, write_nothing, write_length}

-- ---- the words in a list of bytes

from_length : (n : ℕ) (s : List ℕ) → length (words_from n s) ≡ n
from_length zero s = refl
from_length (suc n) s = ap suc (from_length n (drop 4 s))

pub words_length : (s : List ℕ) → length (words_of s) ≡ length s / 4
words_length s = from_length (length s / 4) s

-- the word at a byte of what is left of a list
word_drop : (s : List ℕ) (m at : ℕ) → word_at (drop m s) at ≡ word_at s (m + at)
word_drop s m at =
    let e1 : m + (at + 1) ≡ m + at + 1 = omega arith in
    let e2 : m + (at + 2) ≡ m + at + 2 = omega arith in
    let e3 : m + (at + 3) ≡ m + at + 3 = omega arith in
    rw (get_or-drop m s at 0, get_or-drop m s (at + 1) 0, get_or-drop m s (at + 2) 0, get_or-drop m s (at + 3) 0, e1, e2, e3)

-- word number i
pub words_at : (n : ℕ) (s : List ℕ) (i : ℕ) → i < n → get_or (words_from n s) i 0 ≡ word_at s (4 * i)
words_at zero s i l = absurd (omega arith)
words_at (suc n) s zero l = refl
words_at (suc n) s (suc i) l =
    let e : 4 + 4 * i ≡ 4 * suc i = omega arith in
    words_at n (drop 4 s) i (omega arith) ∙ (word_drop s 4 (4 * i) ∙ ap (word_at s) e)

-- ---- the bytes of words

pub bytes_length : (ws : List ℕ) → length (bytes_of ws) ≡ 4 * length ws
bytes_length [] = refl
bytes_length (w ∷ ws) = let e = bytes_length ws in omega arith

bytes_append : (vs ws : List ℕ) → bytes_of (vs ++ ws) ≡ bytes_of vs ++ bytes_of ws
bytes_append [] ws = refl
bytes_append (v ∷ vs) ws = ap (λ (r : List ℕ). word_bytes v ++ r) (bytes_append vs ws)

-- m words of bytes, written as bytes again
from_back : (m : ℕ) (s : List ℕ) → length s ≡ 4 * m → ((i : ℕ) → get_or s i 0 < 256) → bytes_of (words_from m s) ≡ s
from_back zero [] e b = refl
from_back zero (x ∷ s) e b = absurd (omega arith)
from_back (suc m) [] e b = absurd (omega arith)
from_back (suc m) (x ∷ []) e b = absurd (omega arith)
from_back (suc m) (x ∷ (y ∷ [])) e b = absurd (omega arith)
from_back (suc m) (x ∷ (y ∷ (z ∷ []))) e b = absurd (omega arith)
from_back (suc m) (x ∷ (y ∷ (z ∷ (t ∷ s)))) e b =
    four x y z t (bytes_of (words_from m s)) s (b 0) (b 1) (b 2) (b 3)
    (from_back m s (omega arith) (λ i. b (suc (suc (suc (suc i))))))
  where
    four : (x y z t : ℕ) (rest s : List ℕ) → x < 256 → y < 256 → z < 256 → t < 256 → rest ≡ s →
        word_bytes (four_bytes x y z t) ++ rest ≡ x ∷ (y ∷ (z ∷ (t ∷ s)))
    four x y z t rest s hx hy hz ht e =
        let a : four_bytes x y z t % 256 ≡ x = omega arith in
        let p : four_bytes x y z t / 256 ≡ y + 256 * (z + 256 * t) = omega arith in
        let q : four_bytes x y z t / 65536 ≡ z + 256 * t = omega arith in
        let r : four_bytes x y z t / 16777216 ≡ t = omega arith in
        let b : (y + 256 * (z + 256 * t)) % 256 ≡ y = omega arith in
        let c : (z + 256 * t) % 256 ≡ z = omega arith in
        let d : t % 256 ≡ t = omega arith in
        rw (a, p, q, r, b, c, d, e)

-- bytes that are whole words, read as words and written as bytes again
pub bytes_back : (s : List ℕ) → length s ≡ 4 * (length s / 4) → ((i : ℕ) → get_or s i 0 < 256) → bytes_of (words_of s) ≡ s
bytes_back s e b = from_back (length s / 4) s e b

-- words of 32 bits, written as bytes and read again
pub words_back : (ws : List ℕ) → ((i : ℕ) → get_or ws i 0 < 2 ^ 32) → words_of (bytes_of ws) ≡ ws
words_back ws h =
    let n : length (bytes_of ws) / 4 ≡ length ws = omega (arith, bytes_length ws) in
    ap (λ (k : ℕ). words_from k (bytes_of ws)) n ∙ go ws h
  where
    again : (w : ℕ) (vs ws : List ℕ) → w < 2 ^ 32 → vs ≡ ws →
        ◌≡◌ {A = List ℕ} (four_bytes (w % 256) (w / 256 % 256) (w / 65536 % 256) (w / 16777216 % 256) ∷ vs) (w ∷ ws)
    again w vs ws l e =
        let p : w / 65536 ≡ w / 256 / 256 = omega arith in
        let q : w / 16777216 ≡ w / 65536 / 256 = omega arith in
        let r : w / 65536 / 256 < 256 = omega arith in
        let b : w / 65536 ≡ w / 65536 % 256 + 256 * (w / 16777216 % 256) = omega arith in
        let a : four_bytes (w % 256) (w / 256 % 256) (w / 65536 % 256) (w / 16777216 % 256) ≡ w = omega arith in
        cc

    go : (ws : List ℕ) → ((i : ℕ) → get_or ws i 0 < 2 ^ 32) → words_from (length ws) (bytes_of ws) ≡ ws
    go [] h = refl
    go (w ∷ ws) h = again w (words_from (length ws) (bytes_of ws)) ws (h 0) (go ws (λ i. h (suc i)))

-- ---- words put into a list

-- no words put
pub puts_none : (at : ℕ) (o : List ℕ) → Puts [] at o o at
puts_none at o = record { list = write_nothing o at; behind = omega arith }

module _ {vs o o' : List ℕ} {at m : ℕ} (p : Puts vs at o o' m) (l : at + length (bytes_of vs) ≤ length o) where
  -- words put, and then words put behind them
  pub puts_more : {ws : List ℕ} {n : ℕ} {o'' : List ℕ} → Puts ws m o' o'' n → Puts (vs ++ ws) at o o'' n
  puts_more {ws} {n} {o''} q =
      let b = bytes_append vs ws in
      record {
        list =
            rw b
            (q.list
            ∙ (ap (over_at m (bytes_of ws)) p.list
            ∙ (ap (λ (k : ℕ). over_at k (bytes_of ws) (over_at at (bytes_of vs) o)) p.behind
            ∙ write_on (bytes_of vs) (bytes_of ws) o at l)));
        behind = rw b (omega (arith, p.behind, q.behind, length-append (bytes_of vs) (bytes_of ws)));
      }

  -- putting words keeps the length
  pub puts_length : length o' ≡ length o
  puts_length = ap length p.list ∙ write_length (bytes_of vs) o at l

-- a writer that puts words, and then words behind them
pub wrote_more :
    {vs ws : List ℕ} {a b c : Writer} → Wrote vs a b → a.at + length (bytes_of vs) ≤ length a.out.now → Wrote ws b c →
    Wrote (vs ++ ws) a c
wrote_more p l q = record { puts = puts_more p.puts l q.puts; same = q.same ∙ p.same }
