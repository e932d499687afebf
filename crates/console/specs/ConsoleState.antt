-- What a console remembers beside its sense byte. A reader must believe: the paper printed so far, the line
-- that waits and the open command are all that it is.
use Rattle.std.specs.Prelude.{ℕ, List}

-- the open command; the list is the bytes that it has still to hand out
pub data Command : Type 0 where
  none : Command
  printing : Command
  reading_line : List ℕ → Command

pub record ConsoleState : Type 0 where
  pub paper : List ℕ
  pub line : List ℕ
  pub command : Command
