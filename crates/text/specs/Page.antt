-- What it means that a text is written on a page, behind what is there.
use Rattle.std.specs.Prelude.{◌≡◌, List, ℕ, length}
use Rattle.text.specs.declared.Page.{Page}
use Rattle.text.specs.Wrote.{Puts}

-- the page p with the text x written on is p', of the same lent list, which is as long as it was
pub record Adds (x : List ℕ) (p p' : Page) : Type 0 where
  pub same_list : p'.out.ghost_name ≡ p.out.ghost_name
  pub as_long : length p'.out.now ≡ length p.out.now
  pub puts : Puts x p.out.now p.at p'.out.now p'.at
