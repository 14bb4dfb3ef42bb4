-- Which files are the writer's: those that the reader accepts, without a word that says nothing, whose request the
-- writer does not refuse.
use mathlib.Core.Path.{◌≡◌, sym, ap, ◌∙◌, subst}
use mathlib.Core.Bool.{true}
use mathlib.Core.List.{List}
use Prim.Native.Nat.{ℕ, ◌<◌}
use native.Mathlib.Nat.{le_refl}
use native.Mathlib.Omega.{arith}
use lib.ListN.{length, get_or}
use Rattle.model.specs.Request.{Request, frame_count}
use Rattle.model.specs.Refusals.{is_none}
use Rattle.request.proofs.BadBounds.{bounds_length}
use Rattle.words.specs.Words.{bytes_of, words_of}
use Rattle.words.proofs.Bytes.{bytes_back}
use Rattle.wordfile.specs.File.{leasts_in, mosts_in, request_in, read_refusal, file_bytes, write_refusal}
use Rattle.wordfile.specs.Says.{IsWritten, IsWritable, WritersFiles}
use Rattle.wordfile.proofs.Refused.{leasts_length, mosts_length, read_within, write_within, file_read}
use Rattle.wordfile.proofs.Written.{file_back}

-- the file of a request that the writer does not refuse
file_writable :
    (q : Request) → length q.bounds ≡ frame_count q →
    is_none (write_refusal q (frame_count q) (frame_count q) (length (file_bytes q))) ≡ true → IsWritable (file_bytes q)
file_writable q each e =
    let k = frame_count q in
    let s = file_bytes q in
    let w = write_within q k k (length s) e in
    let b = file_back q w.fits each in
    let r = file_read q k k k w.fits each w.lent.frames.few (le_refl k) (le_refl k) (le_refl k) in
    let back = sym b.request in (
      subst (λ (x : Request). is_none (read_refusal s (frame_count x) (frame_count x) (frame_count x)) ≡ true) back
          (ap is_none r),
      b.saying,
      subst (λ (x : Request). is_none (write_refusal x (frame_count x) (frame_count x) (length s)) ≡ true) back e,
    )

pub writers_files : (s : List ℕ) → WritersFiles s
writers_files s = record { writable = writable; written = written }
  where
    writable : IsWritten s → IsWritable s
    writable (q, each, e, file) =
        let k = frame_count q in
        let n = ap (λ (t : List ℕ). is_none (write_refusal q k k (length t))) file in
        subst IsWritable file (file_writable q each (n ∙ e))

    written : ((i : ℕ) → get_or s i 0 < 256) → IsWritable s → IsWritten s
    written bytes (accepted, saying, e) =
        let q = request_in s in
        let k = frame_count q in
        let r = read_within s k k k accepted in
        let ws = words_of s in
        let l = leasts_length ws in
        let each : length q.bounds ≡ k =
        bounds_length (leasts_in ws) (mosts_in ws) (omega (arith, l, mosts_length ws)) ∙ l in
        (q, each, e, r.file ∙ (ap bytes_of saying ∙ bytes_back s r.whole bytes))
