-- What listing a word file promises.
use Rattle.std.specs.Prelude.{◌≡◌, List, ℕ, ◌≤◌, length, take, Result, Ok, Err}
use Rattle.model.specs.declared.refusal.Refusal.{Refusal as Given}
use Rattle.model.specs.Answer.{told}
use Rattle.wordfile.specs.File.{request_in}
use Rattle.text.specs.declared.Page.{Page}
use Rattle.text.specs.Page.{Adds}
use Rattle.text.specs.Wrote.{Wrote}
use Rattle.printed.specs.Text.{listing_bytes, refused_line, listing}
use Rattle.printed.specs.Means.{ListMeans}

-- the text x is written on the page p, which is p' after it; or a refusal is answered whose line the text is, and the
-- page is as it was
abbrev pub AddsOrRefuses : List ℕ → Page → Page → Result (Unit {0}) Given → Type 0
AddsOrRefuses x p p' (Ok v) = Adds x p p'
AddsOrRefuses x p p' (Err e) = (refused_line (told e) ≡ x) × (p' ≡ p)

-- listing the file s with the list o lent, o' after it, n bytes answered
pub record ListSays (s o o' : List ℕ) (n : ℕ) : Type 0 where
  pub text : Wrote (listing s) o o' n
  -- the room of every listing holds it whole
  pub whole : listing_bytes ≤ length o → (n ≡ length (listing s)) × (take n o' ≡ listing s)
  -- and what it shows is right
  pub means : ListMeans (request_in s) (listing s)
