-- Files computed from the definitions: where broken ones are refused, and one with bounds.
use mathlib.Core.Path.{◌≡◌, refl}
use mathlib.Core.List.{List, [], ◌∷◌}
use Prim.Native.Nat.{ℕ}
use Rattle.model.specs.Limits.{no_upper_end}
use Rattle.model.specs.Request.{bounded_request, figures}
use Rattle.model.specs.Refusals.{none, refusal}
use Rattle.words.specs.Words.{bytes_of}
use Rattle.wordfile.specs.File.{request_of, read_refusal, file_words}

-- no byte, a broken first word, no fourth word, a wrong count, a word too many, a list too short; and no harvests with
-- count 0, which is a file
pub broken_places :
    (read_refusal [] 2 2 2 ≡ refusal 8 0)
    × (read_refusal (0 ∷ 0 ∷ 0 ∷ []) 2 2 2 ≡ refusal 8 0)
    × (read_refusal (bytes_of (0 ∷ 0 ∷ 0 ∷ [])) 2 2 2 ≡ refusal 8 3)
    × (read_refusal (bytes_of (9 ∷ 0 ∷ 0 ∷ 0x40000001 ∷ 0x40000002 ∷ 0xC0000001 ∷ [])) 2 2 2 ≡ refusal 8 5)
    × (read_refusal (bytes_of (9 ∷ 0 ∷ 0 ∷ 0x40000001 ∷ 0xC0000001 ∷ 0 ∷ [])) 2 2 2 ≡ refusal 8 5)
    × (read_refusal (bytes_of (9 ∷ 0 ∷ 0 ∷ 0x40000001 ∷ 0x40000002 ∷ 0xC0000002 ∷ [])) 2 1 2 ≡ refusal 7 0)
    × (read_refusal (bytes_of (0 ∷ 0 ∷ 0 ∷ 0xC0000000 ∷ [])) 0 0 0 ≡ none)
broken_places = (refl, refl, refl, refl, refl, refl, refl)

-- bounds out of their order: before the first harvest, a least behind a most, a second least, a second most, among the
-- figures; and a least of 0 and a most of 0, which are in order
pub bounds_places :
    (read_refusal (bytes_of (9 ∷ 0 ∷ 0 ∷ 0x80000001 ∷ 0xC0000000 ∷ [])) 2 2 2 ≡ refusal 8 3)
    × (read_refusal (bytes_of (9 ∷ 0 ∷ 0 ∷ 0x40000001 ∷ 0xA0000003 ∷ 0x80000001 ∷ 0xC0000001 ∷ [])) 2 2 2 ≡ refusal 8 5)
    × (read_refusal (bytes_of (9 ∷ 0 ∷ 0 ∷ 0x40000001 ∷ 0x80000001 ∷ 0x80000001 ∷ 0xC0000001 ∷ [])) 2 2 2 ≡ refusal 8 5)
    × (read_refusal (bytes_of (9 ∷ 0 ∷ 0 ∷ 0x40000001 ∷ 0xA0000003 ∷ 0xA0000003 ∷ 0xC0000001 ∷ [])) 2 2 2 ≡ refusal 8 5)
    × (read_refusal (bytes_of (9 ∷ 0 ∷ 0xA0000003 ∷ 0x40000001 ∷ 0xC0000001 ∷ [])) 2 2 2 ≡ refusal 8 2)
    × (read_refusal (bytes_of (9 ∷ 0 ∷ 0 ∷ 0x40000001 ∷ 0x80000000 ∷ 0xA0000000 ∷ 0xC0000001 ∷ [])) 2 2 2 ≡ none)
bounds_places = (refl, refl, refl, refl, refl, refl)

-- a file with a least and a most, with a most alone and with none, the request in it, and its file
abbrev pub bounded_file : List ℕ
bounded_file =
    9 ∷ 0 ∷ 0 ∷ 0x40000001 ∷ 0x80000002 ∷ 0xA0000003 ∷ 0x40000004 ∷ 0xA0000005 ∷ 0x40000006 ∷ 0xC0000003 ∷ []

pub bounds_found :
    (request_of bounded_file
    ≡ bounded_request (figures 9 0 0) (1 ∷ 4 ∷ 6 ∷ []) (2 ∷ 0 ∷ 0 ∷ []) (3 ∷ 5 ∷ no_upper_end ∷ []))
    × (file_words (request_of bounded_file) ≡ bounded_file)
bounds_found = (refl, refl)
