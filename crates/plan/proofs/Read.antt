-- The listing of what was read is the listing of the file.
use mathlib.Core.Path.{◌≡◌, sym, ap, ◌∙◌}
use mathlib.Core.List.{List}
use Prim.Native.Nat.{ℕ, ◌+◌, ◌≤◌, ◌<◌}
use native.Mathlib.Omega.{arith}
use lib.ListN.{length, take}
use lib.Seq.{take-take}
use Rattle.model.specs.Limits.{max_file_bytes}
use Rattle.printed.specs.Text.{listing}
use Rattle.printed.proofs.Start.{begin_alike}
use Rattle.plan.specs.Read.{BeginsWith}

-- with room for one byte more than a file may have, what was read has the file's listing
pub listing_of_read : (s list : List ℕ) (n : ℕ) → max_file_bytes < length list → BeginsWith s list n →
    listing (take n list) ≡ listing s
listing_of_read s list n l b =
    let m : max_file_bytes + 1 ≤ length list = omega arith in
    begin_alike (take n list) s (sym (ap (take (max_file_bytes + 1)) b) ∙ take-take (max_file_bytes + 1) (length list) s m)
