-- Text in a lent list: a byte finds room or none, pieces go one behind the other, and a loop writes what is left of a
-- text.
use mathlib.Core.Path.{◌≡◌, refl, sym, ap, subst, ◌∙◌}
use mathlib.Core.List.{List, [], ◌∷◌, ◌++◌, append_assoc, append-nil}
use Prim.Native.Nat.{ℕ, ◌+◌, ◌-◌, ◌≤◌, ◌<◌, min}
use native.Mathlib.Omega.{arith}
use lib.ListN.{length, set, take, drop, length-append, length-take, length-drop}
use native.Mathlib.Decide.{dec_le}
use Rattle.std.proofs.lemmas.List.{take_min, drop_at, drop-drop, take-append-le, take-append-drop, take-set, drop-set}
use Rattle.std.proofs.Math.Seq.{take-nil, take_all, take_at, take-append-add}
use Rattle.model.specs.Lent.{over}
use Rattle.text.specs.Wrote.{Wrote, Puts}
use Rattle.text.specs.Page.{Adds}
use Rattle.text.specs.declared.Page.{Page}

-- ---- a text in a list

-- nothing written yet
wrote_none : (o : List ℕ) → Wrote [] o o 0
wrote_none o =
    let e : take {A = ℕ} (length o) [] ≡ [] = take-nil (length o) in
    record { bytes = rw e refl; count = omega arith }

-- what is written stays within the list, whose length it keeps
wrote_within : (t o o' : List ℕ) (n : ℕ) → Wrote t o o' n → (n ≤ length o') × (length o' ≡ length o)
wrote_within t o o' n w =
    let k : length o' ≡ length o =
    ap length w.bytes
    ∙ omega (
      arith,
      length-append (take (length o) t) (drop (length (take (length o) t)) o),
      length-take (length o) t,
      length-drop (length (take (length o) t)) o,
    ) in
    (omega (arith, w.count), k)

-- a text that finds room is what the list begins with
wrote_front : (t o o' : List ℕ) (n : ℕ) → length t ≤ length o → Wrote t o o' n →
    (n ≡ length t) × (o' ≡ t ++ drop (length t) o)
wrote_front t o o' n l w =
    (omega (arith, w.count), w.bytes ∙ ap (λ (x : List ℕ). over x o) (take_all (length o) t l))

pub wrote_whole : (t o o' : List ℕ) (n : ℕ) → length t ≤ length o → Wrote t o o' n → (n ≡ length t) × (take n o' ≡ t)
wrote_whole t o o' n l w =
    let f = wrote_front t o o' n l w in
    (f.0, ap (take n) f.1 ∙ take_at t (drop (length t) o) n (sym f.0))

-- ---- a text written on

-- the front of a text with another behind it
take_both : (k m : ℕ) (t x : List ℕ) → m ≡ min (length x) (k - min (length t) k) → take k (t ++ x) ≡ take k t ++ take m x
take_both k m t x e = elim (dec_le (length t) k) [ yes p ↦ room p | no p ↦ full p ]
  where
    room : length t ≤ k → take k (t ++ x) ≡ take k t ++ take m x
    room p =
        let c : k ≡ length t + (k - length t) = omega arith in
        let d : m ≡ min (k - length t) (length x) = omega arith in
        ap (λ (j : ℕ). take j (t ++ x)) c
        ∙ (take-append-add t x (k - length t)
        ∙ (ap (λ (l : List ℕ). t ++ l) (sym (take_min (k - length t) x) ∙ ap (λ (j : ℕ). take j x) (sym d))
        ∙ ap (λ (l : List ℕ). l ++ take m x) (sym (take_all k t p))))

    full : (length t ≤ k → ⊥) → take k (t ++ x) ≡ take k t ++ take m x
    full p =
        let d : m ≡ 0 = omega arith in
        take-append-le k t x (omega arith)
        ∙ sym (ap (λ (j : ℕ). take k t ++ take j x) d ∙ append-nil (take k t))

-- as much of it as finds room, y, in the place of as many values
pub part_put : (x y o : List ℕ) (n m k : ℕ) → m ≡ min (length x) (length o - n) → y ≡ take m x → k ≡ m →
    Puts x o n (take n o ++ (y ++ drop k (drop n o))) (n + m)
part_put x y o n m k e f g = record { behind = λ t z w. whole t z w }
  where
    whole : (t z : List ℕ) → Wrote t z o n → Wrote (t ++ x) z (take n o ++ (y ++ drop k (drop n o))) (n + m)
    whole t z w =
        let s = (wrote_within t z o n w).1 in
        let a = take (length z) t in
        let c = w.count in
        let la : length a ≡ n = length-take (length z) t ∙ omega arith in
        let front : take n o ≡ a = ap (take n) w.bytes ∙ take_at a (drop (length a) z) n la in
        let back : drop n o ≡ drop n z =
        ap (drop n) w.bytes ∙ (drop_at a (drop (length a) z) n la ∙ ap (λ (j : ℕ). drop j z) la) in
        let b : take (length z) (t ++ x) ≡ a ++ take m x = take_both (length z) m t x (omega arith) in
        let l : length (a ++ take m x) ≡ n + m = omega (arith, length-append a (take m x), length-take m x) in
        record {
          bytes =
              rw (front, back, f, g, b, l)
              (ap (λ (r : List ℕ). a ++ (take m x ++ r)) (drop-drop m n z)
              ∙ sym (append_assoc a (take m x) (drop (n + m) z)));
          count = omega (arith, length-append t x);
        }

-- ---- a byte written on

-- a byte that finds room
pub byte_put : (o : List ℕ) (n b : ℕ) → n < length o → Puts (b ∷ []) o n (set o n b) (n + 1)
byte_put o n b l =
    let e : take n o ++ (b ∷ drop 1 (drop n o)) ≡ set o n b =
    ap (λ (t : List ℕ). take n o ++ (b ∷ t)) (drop-drop 1 n o)
    ∙ (ap (λ (t : List ℕ). t ++ (b ∷ drop (n + 1) o)) (sym (take-set o n b))
    ∙ (ap (λ (t : List ℕ). take n (set o n b) ++ t) (sym (drop-set o n b l)) ∙ take-append-drop n (set o n b))) in
    subst (λ (t : List ℕ). Puts (b ∷ []) o n t (n + 1)) e (part_put (b ∷ []) (b ∷ []) o n 1 1 (omega arith) refl refl)

-- a byte that finds none
pub byte_left_out : (o : List ℕ) (n b : ℕ) → length o ≤ n → Puts (b ∷ []) o n o n
byte_left_out o n b l =
    let z : n + 0 ≡ n = omega arith in
    let p = part_put (b ∷ []) [] o n 0 0 (omega arith) refl refl in
    rw (z, take-append-drop n o) at p

-- ---- pieces one behind the other

-- a text written at the front
pub puts_first : {x o o' : List ℕ} {n : ℕ} → Puts x o 0 o' n → Wrote x o o' n
puts_first {o = o} p = p.behind [] o (wrote_none o)

module _ {o : List ℕ} {n : ℕ} where
  pub puts_same : {x y o' : List ℕ} {n' : ℕ} → x ≡ y → Puts x o n o' n' → Puts y o n o' n'
  puts_same {o' = o'} {n'} e p = subst (λ (t : List ℕ). Puts t o n o' n') e p

  pub puts_then : {x y o₁ o₂ : List ℕ} {n₁ n₂ : ℕ} → Puts x o n o₁ n₁ → Puts y o₁ n₁ o₂ n₂ → Puts (x ++ y) o n o₂ n₂
  puts_then {x} {y} p q =
      record { behind = λ t l w. rw (append_assoc t x y) at (q.behind (t ++ x) l (p.behind t l w)) }

-- ---- what is left of a text

-- of the text x, from n in o on, all is written but y, from n' in o' on
pub record Leaves (x o : List ℕ) (n : ℕ) (y o' : List ℕ) (n' : ℕ) : Type 0 where
  pub rest : (l : List ℕ) (m : ℕ) → Puts y o' n' l m → Puts x o n l m

module _ {x o y o₁ : List ℕ} {n n₁ : ℕ} where
  -- its next piece written
  pub leaves_less : {a z o₂ : List ℕ} {n₂ : ℕ} → Leaves x o n y o₁ n₁ → y ≡ a ++ z → Puts a o₁ n₁ o₂ n₂ →
      Leaves x o n z o₂ n₂
  leaves_less f e p = record { rest = λ l m q. f.rest l m (puts_same (sym e) (puts_then p q)) }

  -- nothing left: the text is written
  pub leaves_none : Leaves x o n y o₁ n₁ → y ≡ [] → Puts x o n o₁ n₁
  leaves_none f e = f.rest o₁ n₁ (puts_same (sym e) (record { behind = λ t l w. rw append-nil w }))

-- ---- pages

pub adds_same : {x y : List ℕ} {p q : Page} → x ≡ y → Adds x p q → Adds y p q
adds_same {p = p} {q} e a = subst (λ (t : List ℕ). Adds t p q) e a

pub adds_then : {x y : List ℕ} {p q r : Page} → Adds x p q → Adds y q r → Adds (x ++ y) p r
adds_then a b =
    record { same_list = b.same_list ∙ a.same_list; as_long = b.as_long ∙ a.as_long; puts = puts_then a.puts b.puts }

-- of the text x, from the page p on, all is written but y, from the page q on, of the same lent list
pub record Left (x : List ℕ) (p : Page) (y : List ℕ) (q : Page) : Type 0 where
  pub same_list : q.out.ghost_name ≡ p.out.ghost_name
  pub as_long : length q.out.now ≡ length p.out.now
  pub leaves : Leaves x p.out.now p.at y q.out.now q.at

module _ {x y : List ℕ} {p q : Page} where
  -- its next piece written
  pub left_less : {a z : List ℕ} {r : Page} → Left x p y q → y ≡ a ++ z → Adds a q r → Left x p z r
  left_less f e b =
      record {
        same_list = b.same_list ∙ f.same_list;
        as_long = b.as_long ∙ f.as_long;
        leaves = leaves_less f.leaves e b.puts;
      }

  -- nothing left: the text is written
  pub left_none : Left x p y q → y ≡ [] → Adds x p q
  left_none f e = record { same_list = f.same_list; as_long = f.as_long; puts = leaves_none f.leaves e }
