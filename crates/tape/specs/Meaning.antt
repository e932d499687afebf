-- What the tape's fields mean. A reader must believe: the blocks and the bytes that are being written are the
-- reel's, a read stands at the block at the position, or backward at the one before it, and has still to hand out
-- what lies past the bytes handed out.
use Rattle.std.specs.Prelude.{ℕ, ◌-◌, Bool, List, [], length, drop, nat_lt, slice_index_or, Result}
use Rattle.unit.specs.declared.state.Unit.{Unit as Device}
use Rattle.unit.specs.UnitMachine.{UnitState}
use Rattle.unit.specs.Meaning.{unit_meaning}
use Rattle.tape.specs.TapeState.{TapeState, Command, none, writing, reading, reading_backward}
use Rattle.device.specs.declared.interface.Begun.{Begun}
use Rattle.unit.specs.declared.model.Fault.{Fault}
use Rattle.tape.specs.TapeMachine.{tape_core, begin_read, begin_read_backward}
use Rattle.tape.specs.Standing.{in_order}
use Rattle.tape.specs.declared.state.TapeModel.{TapeModel}
use Rattle.tape.specs.declared.code.Direction.{Direction}
use Rattle.tape.specs.declared.code.Direction.TheVariants.{Forward, Backward}
use Rattle.tape.specs.declared.state.Phase.{Phase}
use Rattle.tape.specs.declared.state.Phase.TheVariants.{Idle, Writing, Reading}

-- the block that a read in this direction hands out
abbrev pub block_in : Direction → TapeModel → List ℕ
block_in Forward m = slice_index_or m.reel.blocks m.position []
block_in Backward m = slice_index_or m.reel.blocks (m.position - 1) []

-- a read in this direction that has these bytes still to hand out
abbrev pub reading_in : Direction → List ℕ → Command
reading_in Forward rest = reading rest
reading_in Backward rest = reading_backward rest

abbrev pub command_of : Phase → TapeModel → Command
command_of Idle m = none
command_of Writing m = writing m.reel.written
command_of (Reading direction gone) m = reading_in direction (drop gone (in_order direction (block_in direction m)))

abbrev pub model_meaning : TapeModel → TapeState
model_meaning m = record {
  blocks = m.reel.blocks;
  position = m.position;
  command = command_of m.phase m;
}

-- the whole device
abbrev pub meaning : Device TapeModel → UnitState tape_core
meaning tape = unit_meaning tape_core model_meaning tape

-- the start of a read in this direction, and whether a block is left there
abbrev pub begin_in : Direction → TapeState → Result Begun Fault × TapeState
begin_in Forward s = begin_read s
begin_in Backward s = begin_read_backward s

abbrev pub block_left : Direction → TapeModel → Bool
block_left Forward m = nat_lt m.position (length m.reel.blocks)
block_left Backward m = nat_lt 0 m.position
