-- What the open command asks of the fields. A reader must believe of `in_order` that it is the order in which a
-- direction reads a block's bytes, and nothing of the others: they only bound what the code keeps.
use Rattle.std.specs.Prelude.{ℕ, List, reverse}
use Rattle.tape.specs.declared.code.Direction.{Direction}
use Rattle.tape.specs.declared.code.Direction.TheVariants.{Forward, Backward}
use Rattle.tape.specs.declared.state.Phase.{Phase}
use Rattle.tape.specs.declared.state.Phase.TheVariants.{Idle, Writing, Reading}

-- backward, the last byte comes first
abbrev pub in_order : Direction → List ℕ → List ℕ
in_order Forward block = block
in_order Backward block = reverse block

-- how many bytes have been handed out
abbrev pub bytes_read : Phase → ℕ
bytes_read Idle = 0
bytes_read Writing = 0
bytes_read (Reading direction gone) = gone

-- how many blocks are being written
abbrev pub blocks_written : Phase → ℕ
blocks_written Idle = 0
blocks_written Writing = 1
blocks_written (Reading direction gone) = 0

-- how many blocks are being read
abbrev pub blocks_read : Phase → ℕ
blocks_read Idle = 0
blocks_read Writing = 0
blocks_read (Reading Forward gone) = 1
blocks_read (Reading Backward gone) = 0

-- how many blocks are being read backward
abbrev pub blocks_read_backward : Phase → ℕ
blocks_read_backward Idle = 0
blocks_read_backward Writing = 0
blocks_read_backward (Reading Forward gone) = 0
blocks_read_backward (Reading Backward gone) = 1
