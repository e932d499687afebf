-- The tape's commands. A reader must believe: 64 blocks, 8,192 bytes in all, 4,096 in one block, and for each
-- code the answer and the state after it, are as here; what every device shares is added by `unit_machine`.
use Rattle.std.specs.Prelude.{ℕ, ◌+◌, ◌-◌, min, Bool, cond, ◌&&◌, List, [], ◌∷◌, ◌++◌, reverse, length, take, drop, sum_by, ◌==◌, nat_lt, slice_index_or, Ok, Err, Result}
use Rattle.device.specs.declared.interface.Begun.{Begun}
use Rattle.device.specs.declared.interface.Begun.TheVariants.{Immediate, Open}
use Rattle.device.specs.Machine.{Machine, Pending, shut, giving, taking}
use Rattle.unit.specs.declared.model.Fault.{Fault}
use Rattle.unit.specs.Core.{Core, unknown_command, nothing_left}
use Rattle.unit.specs.UnitMachine.{UnitState, unit_machine, unit_at_first}
use Rattle.tape.specs.TapeState.{TapeState, Command, none, writing, reading, reading_backward}

abbrev pub with_open : Command → TapeState → TapeState
with_open now_open s = record { blocks = s.blocks; position = s.position; command = now_open }

-- how many bytes these blocks have in all
abbrev pub bytes_in : List (List ℕ) → ℕ
bytes_in stored = sum_by length stored

-- how many bytes a block behind these may have
abbrev pub room_after : List (List ℕ) → ℕ
room_after stored = min 4096 (8192 - bytes_in stored)

-- whether a block is left and a byte is left behind these
abbrev pub has_room : List (List ℕ) → Bool
has_room stored = nat_lt (length stored) 64 && nat_lt (bytes_in stored) 8192

-- no block or no byte is left, and nothing changes
abbrev pub refuse : TapeState → Result Begun Fault × TapeState
refuse s = (Err nothing_left, s)

-- what a write keeps: the blocks before the position
abbrev pub kept : TapeState → List (List ℕ)
kept s = take s.position s.blocks

-- 01: drops the blocks past the position, and opens for at least 1 byte and as many as there is room for
-- behind those that it keeps; with no room there it is refused
abbrev pub begin_write : TapeState → Result Begun Fault × TapeState
begin_write s =
    cond (has_room (kept s)) (Ok (Open 1 (room_after (kept s))), record { blocks = kept s; position = s.position; command = writing [] }) (refuse s)

-- 02: opens with the next block; with none, it is refused
abbrev pub begin_read : TapeState → Result Begun Fault × TapeState
begin_read s =
    let next = slice_index_or s.blocks s.position [] in
    cond (nat_lt s.position (length s.blocks)) (Ok (Open (length next) (length next)), with_open (reading next) s) (refuse s)

-- 0C: opens with the previous block, its last byte first; with none, it is refused
abbrev pub begin_read_backward : TapeState → Result Begun Fault × TapeState
begin_read_backward s =
    let previous = slice_index_or s.blocks (s.position - 1) [] in
    cond (nat_lt 0 s.position) (Ok (Open (length previous) (length previous)), with_open (reading_backward (reverse previous)) s) (refuse s)

-- 07: stands before the first block; status 0C
abbrev pub rewind : TapeState → Result Begun Fault × TapeState
rewind s = (Ok (Immediate 0x0C), record { blocks = s.blocks; position = 0; command = none })

-- the tape has no other code of its own
abbrev pub begin_own : ℕ → TapeState → Result Begun Fault × TapeState
begin_own code s =
    cond (code == 0x01) (begin_write s) (
    cond (code == 0x02) (begin_read s) (
    cond (code == 0x0C) (begin_read_backward s) (
    cond (code == 0x07) (rewind s) (Err unknown_command, s))))

-- what the open command has still to move, where these blocks are stored
abbrev pub pending_during : Command → List (List ℕ) → Pending
pending_during none stored = shut
pending_during (writing done) stored = taking (room_after stored - length done)
pending_during (reading rest) stored = giving rest
pending_during (reading_backward rest) stored = giving rest

-- the command after n bytes were asked for
abbrev pub given_during : ℕ → Command → Command
given_during n none = none
given_during n (writing done) = writing done
given_during n (reading rest) = reading (drop n rest)
given_during n (reading_backward rest) = reading_backward (drop n rest)

-- the command after these bytes were offered, where these blocks are stored
abbrev pub taken_during : List ℕ → List (List ℕ) → Command → Command
taken_during offered stored none = none
taken_during offered stored (writing done) = writing (done ++ take (room_after stored - length done) offered)
taken_during offered stored (reading rest) = reading rest
taken_during offered stored (reading_backward rest) = reading_backward rest

-- the end of a write adds the block, if a byte moved
abbrev pub blocks_after : Command → List (List ℕ) → List (List ℕ)
blocks_after none stored = stored
blocks_after (writing done) stored = cond (length done == 0) stored (stored ++ done ∷ [])
blocks_after (reading rest) stored = stored
blocks_after (reading_backward rest) stored = stored

-- and stands past it; the end of a read stands past the block, or backward before it
abbrev pub position_after : Command → ℕ → ℕ
position_after none passed = passed
position_after (writing done) passed = cond (length done == 0) passed (passed + 1)
position_after (reading rest) passed = passed + 1
position_after (reading_backward rest) passed = passed - 1

-- the end: status 0C
abbrev pub end_own : TapeState → Result ℕ Fault × TapeState
end_own s = (
  Ok 0x0C,
  record {
    blocks = blocks_after s.command s.blocks;
    position = position_after s.command s.position;
    command = none;
  },
)

abbrev pub tape_core : Core
tape_core = record {
  State = TapeState;
  pending = λ s. pending_during s.command s.blocks;
  started = λ code s. begin_own code s;
  given = λ n s. with_open (given_during n s.command) s;
  taken = λ offered s. with_open (taken_during offered s.blocks s.command) s;
  ended = λ s. end_own s;
}

abbrev pub tape_machine : Machine
tape_machine = unit_machine tape_core

-- at first: these blocks, the position before them, and nothing open
abbrev pub at_first : List (List ℕ) → UnitState tape_core
at_first stored = unit_at_first tape_core (record { blocks = stored; position = 0; command = none })
