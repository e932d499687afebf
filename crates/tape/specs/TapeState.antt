-- What a tape remembers beside its sense byte. A reader must believe: the blocks in their order, how many of
-- them stand before the position, and the open command are all that it is.
use Rattle.std.specs.Prelude.{ℕ, List}

-- the open command; of a write the bytes taken so far, of a read the bytes that it has still to hand out
pub data Command : Type 0 where
  none : Command
  writing : List ℕ → Command
  reading : List ℕ → Command
  reading_backward : List ℕ → Command

pub record TapeState : Type 0 where
  pub blocks : List (List ℕ)
  pub position : ℕ
  pub command : Command
