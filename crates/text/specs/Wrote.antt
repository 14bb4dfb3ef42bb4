-- What it means that a text was written into a lent list, and written on behind what is there.
use Rattle.std.specs.Prelude.{◌≡◌, List, ◌++◌, ℕ, min, length, take}
use Rattle.model.specs.Lent.{over}

-- a text t written into the list o, which is o' after it: as much of the text as there is room for, n bytes of it;
-- the surplus keeps its values. With n below the length of the list the text is whole
pub record Wrote (t o o' : List ℕ) (n : ℕ) : Type 0 where
  pub bytes : o' ≡ over (take (length o) t) o
  pub count : n ≡ min (length t) (length o)

-- the text x written on: whatever text was written before, n bytes of it in o, with x behind it it is written after,
-- n' bytes in o'
pub record Puts (x o : List ℕ) (n : ℕ) (o' : List ℕ) (n' : ℕ) : Type 0 where
  pub behind : (t l : List ℕ) → Wrote t l o n → Wrote (t ++ x) l o' n'
