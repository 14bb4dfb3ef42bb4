-- What kind a word has that was read.
use mathlib.Core.Path.{◌≡◌, refl, sym, ap, ◌∙◌}
use Prim.Native.Nat.{ℕ}
use native.Mathlib.Omega.{arith}
use Rattle.words.specs.Words.{kind_of}
use Rattle.words.specs.Spelt.{Spells, spelt, Fits}
use Rattle.words.specs.declared.word.Word.{Word}
use Rattle.words.specs.declared.word.Word.TheVariants.{Figure, Harvest, Least, Most, End}

pub says_harvest : {x : Word} {v n m : ℕ} → x ≡ Harvest v → Spells x n → n ≡ m → kind_of m ≡ 1
says_harvest {x} {v} {n} {m} e s p =
    let f : Fits (Harvest v) = rw e at s.fits in
    let i : spelt (Harvest v) ≡ n = sym (ap spelt e) ∙ s.is in
    omega (arith, f, i, p)

pub says_other :
    (x : Word) {n m : ℕ} → ((v : ℕ) → x ≡ Harvest v → ⊥) → ((v : ℕ) → x ≡ End v → ⊥) → Spells x n → n ≡ m →
    (kind_of m ≡ 3 → ⊥) × (kind_of m ≡ 1 → ⊥)
says_other (Figure v) h e s p = (λ z. omega (arith, s.fits, s.is, p, z), λ z. omega (arith, s.fits, s.is, p, z))
says_other (Harvest v) h e s p = absurd (h v refl)
says_other (Least a) h e s p = (λ z. omega (arith, s.fits, s.is, p, z), λ z. omega (arith, s.fits, s.is, p, z))
says_other (Most a) h e s p = (λ z. omega (arith, s.fits, s.is, p, z), λ z. omega (arith, s.fits, s.is, p, z))
says_other (End v) h e s p = absurd (e v refl)
