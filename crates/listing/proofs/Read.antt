-- A file that is read has its request's listing, one that is not has the reader's refusal; what listing promises
-- follows from the text.
use mathlib.Core.Path.{◌≡◌, refl, sym, ap, subst, ◌∙◌}
use mathlib.Core.Bool.{true}
use mathlib.Core.List.{List}
use Prim.Native.Nat.{ℕ, ◌≤◌}
use native.Mathlib.Omega.{arith}
use lib.ListN.{length, take, drop}
use lib.Seq.{take_at}
use Rattle.std.specs.Prelude.{Result, Ok}
use Rattle.model.specs.declared.refusal.Refusal.{Refusal as Given}
use Rattle.model.specs.Answer.{said}
use Rattle.model.specs.Refusals.{Refusal}
use Rattle.model.specs.Lent.{over}
use Rattle.model.specs.Limits.{max_frames}
use Rattle.model.specs.Request.{bounded_request}
use Rattle.model.specs.Refusals.{is_none}
use Rattle.model.proofs.Choice.{pick_by}
use Rattle.model.proofs.Outcome.{gave}
use Rattle.words.specs.Words.{words_of}
use Rattle.wordfile.specs.File.{harvests_in, leasts_in, mosts_in, request_in, read_refusal}
use Rattle.wordfile.specs.Says.{ReadSays, read_refused, filled, header_of}
use Rattle.wordfile.proofs.Refused.{read_within, leasts_length, mosts_length}
use Rattle.wordfile.specs.declared.reader.Header.{Header}
use Rattle.text.specs.Wrote.{Wrote}
use Rattle.printed.specs.Text.{refused_line, request_text, listing}
use Rattle.printed.proofs.Fits.{whole_listing}
use Rattle.printed.proofs.Means.{listing_means}
use Rattle.text.specs.declared.Page.{Page}
use Rattle.text.specs.Page.{Adds}
use Rattle.text.proofs.Written.{puts_first}
use Rattle.listing.specs.Says.{AddsOrRefuses, ListSays}

-- the front of a list that was filled
front : (n : ℕ) (f : Refusal) (xs ys zs : List ℕ) → zs ≡ filled f xs ys → is_none f ≡ true → n ≡ length xs →
    take n zs ≡ xs
front n f xs ys zs e h k =
    rw (k, e, pick_by (is_none f) true (over xs ys) ys h) (take_at xs (drop (length xs) ys) (length xs) refl)

-- reading the file s with lists h, l and m lent, which have room for every frame, h', l' and m' after it
module _ {s h l m h' l' m' : List ℕ} {r : Result Header Given} (w : ReadSays s h l m h' l' m' r)
    (room : (length h ≡ max_frames) × (length l ≡ max_frames) × (length m ≡ max_frames)) where
  -- with that room the refusal is the listing's
  same_refusal : read_refused s h l m ≡ read_refusal s max_frames max_frames max_frames
  same_refusal = rw (room.0, room.1, room.2) refl

  -- accepted: the frames are few, and with the lists read the request has the file's listing
  pub is_read : (a : Header) → r ≡ Ok a →
      (a.frames ≤ max_frames)
      × (request_text (bounded_request a.figures (take a.frames h') (take a.frames l')
      (take a.frames m')) ≡ listing s)
  is_read a e =
      let q = request_in s in
      let ws = words_of s in
      let f = read_refusal s max_frames max_frames max_frames in
      let g = gave (read_refused s h l m) (header_of q) a (sym (ap said e) ∙ w.answer) in
      let n : is_none f ≡ true = ap is_none (sym same_refusal) ∙ g.0 in
      let k : a.frames ≡ length (harvests_in ws) = ap (λ (x : Header). x.frames) g.1 in
      let hs = front a.frames (read_refused s h l m) (harvests_in ws) h h' w.harvest g.0 k in
      let ls = front a.frames (read_refused s h l m) (leasts_in ws) l l' w.least g.0
      (k ∙ sym (leasts_length ws)) in
      let ms = front a.frames (read_refused s h l m) (mosts_in ws) m m' w.most g.0
      (k ∙ sym (mosts_length ws)) in
      let u : a.figures ≡ q.figures = ap (λ (x : Header). x.figures) g.1 in
      let few = (read_within s (length h) (length l) (length m) g.0).harvests in (
        omega arith,
        rw (hs, ls, ms, u) (sym (pick_by (is_none f) true (request_text q) (refused_line f) n)),
      )

-- the same text, told otherwise
pub same_text : (p q : Page) (r : Result (Unit {0}) Given) {x y : List ℕ} → x ≡ y → AddsOrRefuses x p q r →
    AddsOrRefuses y p q r
same_text p q r e w = subst (λ (t : List ℕ). AddsOrRefuses t p q r) e w

-- the text written is all that the promise speaks of
pub list_says : {s o o' : List ℕ} {n : ℕ} → Wrote (listing s) o o' n → ListSays s o o' n
list_says {s} {o} {o'} {n} w = record { text = w; whole = λ l. whole_listing s o o' n l w; means = listing_means s }

-- and so is a text put on an empty page
pub page_says : {s o o' : List ℕ} {n : ℕ} (p q : Page) → Adds (listing s) p q → (p.out.now ≡ o) × (p.at ≡ 0) →
    (o' ≡ q.out.now) × (n ≡ q.at) → ListSays s o o' n
page_says p q a b e = list_says (rw (e.0, e.1) (puts_first (rw (b.0, b.1) at a.puts)))
