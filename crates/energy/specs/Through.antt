-- What an exported function promises: what the entry under it promises.
use Rattle.std.specs.Prelude.{◌≡◌}

-- there is an answer of the entry of which its promise holds, and r, the answer to C, is this answer made flat
pub record Through {A R : Type 0} (Says : A → Type 0) (flat : A → R) (r : R) : Type 0 where
  pub answer : A
  pub says : Says answer
  pub is_flat : r ≡ flat answer
