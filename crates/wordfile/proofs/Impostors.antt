-- A refusal of everything is no answer of the reader or the writer.
use mathlib.Core.Path.{refl}
use mathlib.Core.List.{List, [], ◌∷◌}
use Prim.Native.Nat.{ℕ, ◌≤◌}
use lib.ListN.{length}
use borrow.Author.Tests.{le-ltb}
use Rattle.std.specs.Prelude.{Err}
use Rattle.model.specs.declared.refusal.Refusal.{Refusal as Given}
use Rattle.model.specs.Answer.{told}
use Rattle.model.specs.Limits.{no_upper_end}
use Rattle.model.specs.Request.{Request, bounded_request, figures}
use Rattle.model.proofs.Outcome.{no_refusal}
use Rattle.wordfile.specs.File.{request_in, file_bytes, write_refusal}
use Rattle.wordfile.specs.Says.{ReadSays, WriteSays, header_of, read_refused}

-- a request of two frames, the second with a least and a most, whose file has 32 bytes
abbrev pub asked : Request
asked = bounded_request (figures 9 0 0) (1 ∷ 2 ∷ []) (0 ∷ 1 ∷ []) (no_upper_end ∷ 3 ∷ [])

-- no refusal to read its file into lists of two or more entries, whatever its number and P
pub not_refused_read :
    (h l m h' l' m' : List ℕ) (f : Given) → 2 ≤ length h → 2 ≤ length l → 2 ≤ length m →
    ReadSays (file_bytes asked) h l m h' l' m' (Err f) → ⊥
not_refused_read h l m h' l' m' f a b c p =
    no_refusal (read_refused (file_bytes asked) h l m) (header_of (request_in (file_bytes asked)))
    (rw (le-ltb (length h) 2 a, le-ltb (length l) 2 b, le-ltb (length m) 2 c) refl) (told f) p.answer

-- nor to write it into 32 bytes or more
pub not_refused_write : (o o' : List ℕ) (f : Given) → 32 ≤ length o → WriteSays asked 2 2 o o' (Err f) → ⊥
not_refused_write o o' f l p =
    no_refusal (write_refusal asked 2 2 (length o)) (length (file_bytes asked)) (rw (le-ltb (length o) 32 l) refl) (told f)
    p.answer
