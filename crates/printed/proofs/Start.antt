-- A file's listing depends on its first bytes alone, one more than a file may have: what is longer is refused
-- whatever it holds.
use mathlib.Core.Path.{◌≡◌, refl, sym, ap, ◌∙◌}
use mathlib.Core.List.{List}
use Prim.Native.Nat.{ℕ, ◌+◌, ◌<◌}
use native.Mathlib.Omega.{arith}
use native.Mathlib.Decide.{dec_le}
use borrow.Author.Tests.{lt-ltb}
use lib.ListN.{length, take, length-take}
use lib.Seq.{take_all}
use Rattle.model.specs.Limits.{max_file_bytes}
use Rattle.model.specs.Refusals.{refusal}
use Rattle.printed.specs.Text.{refused_line, listing}

-- a file above its limit is refused with 2
long_listing : (s : List ℕ) → max_file_bytes < length s → listing s ≡ refused_line (refusal 2 0)
long_listing s l = rw (lt-ltb max_file_bytes (length s) l) refl

-- the listing of the first bytes is the listing of the file
pub first_bytes : (s : List ℕ) → listing (take (max_file_bytes + 1) s) ≡ listing s
first_bytes s =
    elim (dec_le (length s) (max_file_bytes + 1)) [
      | yes p ↦ ap listing (take_all (max_file_bytes + 1) s p)
      | no p ↦ long_listing (take (max_file_bytes + 1) s) (omega (arith, length-take (max_file_bytes + 1) s))
          ∙ sym (long_listing s (omega arith))
    ]

-- so two files that begin alike have the same listing
pub begin_alike : (s t : List ℕ) → take (max_file_bytes + 1) s ≡ take (max_file_bytes + 1) t → listing s ≡ listing t
begin_alike s t e = sym (first_bytes s) ∙ (ap listing e ∙ first_bytes t)
