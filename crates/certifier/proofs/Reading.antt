-- The frames of a request, read one by one.
use mathlib.Core.Path.{◌≡◌, refl}
use mathlib.Core.List.{List, [], ◌∷◌}
use Prim.Native.Nat.{ℕ, zero, suc, ◌+◌, ◌<◌, ◌≤◌}
use native.Mathlib.Numerals.{add-one}
use native.Mathlib.Omega.{arith}
use lib.ListN.{length, drop, get_or}
use Rattle.model.specs.Request.{bounds, bounds_of}
use Rattle.model.specs.declared.Store.{Store}
use Rattle.model.specs.Plan.{most_of, frame_of, frames_of}
use Rattle.model.proofs.Lengths.{frames_length}
use Rattle.certifier.specs.declared.frames.Frames.{Frames}
use Rattle.certifier.specs.Says.{frames_in, frame_count}

-- frame i has the harvest, the least and the most i
frames_suc : (s : Store) (i : ℕ) (hs ls ms : List ℕ) → length ls ≡ length hs → length ms ≡ length hs → i < length hs →
    drop i (frames_of s hs (bounds_of ls ms))
    ≡ frame_of s (get_or hs i 0) (bounds (get_or ls i 0) (get_or ms i 0))
    ∷ drop (suc i) (frames_of s hs (bounds_of ls ms))
unfolding frames_of
frames_suc s i [] ls ms p q k = let z : ⊥ = omega arith in absurd z
frames_suc s i (h ∷ hs) [] ms p q k = let z : ⊥ = omega arith in absurd z
frames_suc s i (h ∷ hs) (l ∷ ls) [] p q k = let z : ⊥ = omega arith in absurd z
frames_suc s zero (h ∷ hs) (l ∷ ls) (n ∷ ms) p q k = refl
frames_suc s (suc i) (h ∷ hs) (l ∷ ls) (n ∷ ms) p q k =
    frames_suc s i hs ls ms (omega arith) (omega arith) (omega arith)

-- what the code's reading of frame i gives
pub frames_read : (fs : Frames) (i hi : ℕ) → i < frame_count fs →
    hi ≡ most_of fs.rule.store.energy (bounds 0 (get_or fs.lists.most.now i 0)) →
    let w = bounds (get_or fs.lists.least.now i 0) (get_or fs.lists.most.now i 0) in
    drop i (frames_in fs)
    ≡ record (frame_of fs.rule.store (get_or fs.lists.harvest.now i 0) w) { most = hi }
    ∷ drop (i + 1) (frames_in fs)
frames_read fs i hi l x =
    rw (x, add-one i)
    (frames_suc fs.rule.store i fs.lists.harvest.now fs.lists.least.now fs.lists.most.now
    fs.readable.leasts_long fs.readable.mosts_long l)

-- past the last harvest there is no frame
pub frames_past : (fs : Frames) (k : ℕ) → frame_count fs ≤ k → length (frames_in fs) ≤ k
frames_past fs k h =
    rw (frames_length fs.rule.store fs.lists.harvest.now (bounds_of fs.lists.least.now fs.lists.most.now)) h
