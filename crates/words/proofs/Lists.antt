-- Values written into a lent list one behind the other.
use mathlib.Core.Path.{◌≡◌, refl, sym, ap, ◌∙◌}
use mathlib.Core.List.{List, [], ◌++◌, append_assoc}
use Prim.Native.Nat.{ℕ, ◌+◌, ◌≤◌}
use native.Mathlib.Nat.{zero-add}
use native.Mathlib.Omega.{arith}
use lib.ListN.{length, take, drop, length-append, length-take, length-drop, take-append-drop}
use lib.Seq.{take_at, drop-append-add, drop-drop, take-length, paste}
use Rattle.model.specs.Lent.{over, over_at}

-- written at a place, and then written on behind it
pub write_on :
    (p q ys : List ℕ) (at : ℕ) → at + length p ≤ length ys →
    over_at (at + length p) q (over_at at p ys) ≡ over_at at (p ++ q) ys
write_on p q ys at l =
    let h : List ℕ = take at ys ++ p in
    let r : List ℕ = drop (at + length p) ys in
    let n : length h ≡ at + length p = omega (arith, length-append (take at ys) p, length-take at ys) in
    let e : at + length p + length q ≡ at + length (p ++ q) = omega (arith, length-append p q) in
    let back : drop (at + length p + length q) (h ++ r) ≡ drop (at + length (p ++ q)) ys =
    ap (λ (k : ℕ). drop (k + length q) (h ++ r)) (sym n)
    ∙ (drop-append-add h r (length q) ∙ (drop-drop (length q) (at + length p) ys ∙ ap (λ (k : ℕ). drop k ys) e)) in
    rw (sym (append_assoc (take at ys) p r), take_at h r (at + length p) n, back)
    (append_assoc (take at ys) p (q ++ drop (at + length (p ++ q)) ys)
    ∙ ap (λ (z : List ℕ). take at ys ++ z) (sym (append_assoc p q (drop (at + length (p ++ q)) ys))))

-- written from the first place on
pub over_zero : (xs ys : List ℕ) → over_at 0 xs ys ≡ over xs ys
over_zero xs ys = rw (zero-add (length xs)) refl

-- the whole list pasted at the front
pub pasted_all : (d s : List ℕ) (n : ℕ) → n ≡ length s → paste d 0 s n ≡ over s d
pasted_all d s n e = rw (e, zero-add (length s), take-length s) refl

-- nothing written
pub write_nothing : (ys : List ℕ) (at : ℕ) → ys ≡ over_at at [] ys
write_nothing ys at =
    let e : at + 0 ≡ at = omega arith in
    sym (ap (λ (k : ℕ). take at ys ++ drop k ys) e ∙ take-append-drop at ys)

-- writing keeps the length
pub write_length : (xs ys : List ℕ) (at : ℕ) → at + length xs ≤ length ys → length (over_at at xs ys) ≡ length ys
write_length xs ys at l =
    omega (
      arith,
      length-append (take at ys) (xs ++ drop (at + length xs) ys),
      length-append xs (drop (at + length xs) ys),
      length-take at ys,
      length-drop (at + length xs) ys,
    )
