-- What putting words into a list of bytes promises.
use Rattle.std.specs.Prelude.{◌≡◌, List, ℕ, ◌+◌, length}
use Rattle.model.specs.Lent.{over_at}
use Rattle.words.specs.Words.{bytes_of}
use Rattle.words.specs.declared.writer.Writer.{Writer}

-- the words ws put into the list o from byte at on, which gives o'; r is the place behind them
pub record Puts (ws : List ℕ) (at : ℕ) (o o' : List ℕ) (r : ℕ) : Type 0 where
  pub list : o' ≡ over_at at (bytes_of ws) o
  pub behind : r ≡ at + length (bytes_of ws)

-- a writer after it put the words ws: into the list that it had, from its place on
pub record Wrote (ws : List ℕ) (w w' : Writer) : Type 0 where
  pub puts : Puts ws w.at w.out.now w'.out.now w'.at
  pub same : w'.out.ghost_name ≡ w.out.ghost_name
