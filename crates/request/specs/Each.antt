-- Lists that have one length.
use Rattle.std.specs.Prelude.{◌≡◌, List, ℕ, length}

-- a least and a most for each harvest
abbrev pub OneEach : List ℕ → List ℕ → List ℕ → Type 0
OneEach hs ls ms = (length ls ≡ length hs) × (length ms ≡ length hs)
