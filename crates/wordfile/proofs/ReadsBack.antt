-- What the writer wrote, the reader reads back as the request: a theorem about the two entries' promises.
use mathlib.Core.Path.{◌≡◌, refl, sym, ap, ◌∙◌}
use mathlib.Core.List.{List, [], ◌∷◌, map}
use Prim.Native.Nat.{ℕ, ◌≤◌}
use native.Mathlib.Omega.{arith}
use lib.ListN.{length, take, drop}
use lib.Seq.{drop_at}
use Rattle.model.specs.declared.Figures.{Figures}
use Rattle.std.specs.Prelude.{Result}
use Rattle.model.specs.declared.refusal.Refusal.{Refusal as Given}
use Rattle.model.specs.Answer.{said}
use Rattle.model.specs.Refusals.{Refusal}
use Rattle.model.specs.Request.{Bounds, Request, bounds_of, bounded_request}
use Rattle.model.specs.Refusals.{gives, outcome}
use Rattle.model.proofs.Outcome.{gave}
use Rattle.model.specs.Lent.{over}
use Rattle.words.specs.Words.{words_of}
use Rattle.wordfile.specs.File.{leasts_in, mosts_in, request_in, write_refusal, file_bytes}
use Rattle.wordfile.specs.Says.{ReadSays, WriteSays, header_of, filled}
use Rattle.wordfile.specs.declared.reader.Header.{Header}
use Rattle.wordfile.proofs.Refused.{leasts_length, mosts_length, write_within}

-- the leasts and the mosts of bounds made of two lists
leasts_of : (ls ms : List ℕ) → length ls ≡ length ms → map (λ (w : Bounds). w.least) (bounds_of ls ms) ≡ ls
leasts_of [] ms e = refl
leasts_of (l ∷ ls) [] e = absurd (omega arith)
leasts_of (l ∷ ls) (m ∷ ms) e = ap (λ (y : List ℕ). l ∷ y) (leasts_of ls ms (omega arith))

mosts_of : (ls ms : List ℕ) → length ls ≡ length ms → map (λ (w : Bounds). w.most) (bounds_of ls ms) ≡ ms
mosts_of [] [] e = refl
mosts_of [] (m ∷ ms) e = absurd (omega arith)
mosts_of (l ∷ ls) [] e = absurd (omega arith)
mosts_of (l ∷ ls) (m ∷ ms) e = ap (λ (y : List ℕ). m ∷ y) (mosts_of ls ms (omega arith))

-- a request's figures and lists are written into o, which gives n bytes; those are read with lists h, l and m lent, each
-- of at least K entries
pub reads_back :
    (f : Figures) (hs ls ms o o' h l m h' l' m' : List ℕ) (w : Result ℕ Given) (r : Result Header Given) (n : ℕ) →
    let q = bounded_request f hs ls ms in WriteSays q (length ls) (length ms) o o' w → said w ≡ gives n →
    ReadSays (take n o') h l m h' l' m' r → length hs ≤ length h → length hs ≤ length l → length hs ≤ length m →
    (said r ≡ gives (header_of q))
    × (h' ≡ over hs h)
    × (l' ≡ over ls l)
    × (m' ≡ over ms m)
    × (drop n o' ≡ drop n o)
reads_back f hs ls ms o o' h l m h' l' m' w r n ws e rs x y z =
    let q = bounded_request f hs ls ms in
    let refused = write_refusal q (length ls) (length ms) (length o) in
    let g = gave refused (length (file_bytes q)) n (sym e ∙ ws.answer) in
    let b = ws.reads_back g.0 n (length h) (length l) (length m) e x y z in
    let c = (write_within q (length ls) (length ms) (length o) g.0).lent in
    let o_is : o' ≡ over (file_bytes q) o = rw g.0 at ws.bytes in
    let s = take n o' in
    let vs = words_of s in
    let j : length (leasts_in vs) ≡ length (mosts_in vs) = leasts_length vs ∙ sym (mosts_length vs) in
    let k : length ls ≡ length ms = c.leasts ∙ sym c.mosts in
    let bs = ap (λ (x : Request). x.bounds) b.1 in
    let found : leasts_in vs ≡ ls =
    sym (leasts_of (leasts_in vs) (mosts_in vs) j) ∙ (ap (map (λ (w : Bounds). w.least)) bs ∙ leasts_of ls ms k) in
    let found-mosts : mosts_in vs ≡ ms =
    sym (mosts_of (leasts_in vs) (mosts_in vs) j) ∙ (ap (map (λ (w : Bounds). w.most)) bs ∙ mosts_of ls ms k) in (
      rs.answer
          ∙ (ap (λ (f : Refusal). outcome f (header_of (request_in s))) b.0
          ∙ ap (λ (x : Request). gives (header_of x)) b.1),
      rs.harvest
          ∙ (ap (λ (f : Refusal). filled f (request_in s).harvest h) b.0
          ∙ ap (λ (x : Request). over x.harvest h) b.1),
      rs.least
          ∙ (ap (λ (f : Refusal). filled f (leasts_in vs) l) b.0 ∙ ap (λ (x : List ℕ). over x l) found),
      rs.most
          ∙ (ap (λ (f : Refusal). filled f (mosts_in vs) m) b.0 ∙ ap (λ (x : List ℕ). over x m) found-mosts),
      rw (o_is, g.1) (drop_at (file_bytes q) (drop (length (file_bytes q)) o) (length (file_bytes q)) refl),
    )
