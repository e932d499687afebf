-- What a program finds that writes and reads a tape. A reader must believe: a block is written by code 01, its
-- bytes and the end, and read by a reading code, so many bytes and the end; and the three theorems are what it
-- relies on.
use Rattle.std.specs.Prelude.{◌≡◌, ℕ, zero, suc, ◌+◌, ◌<◌, ◌≤◌, List, [], ◌∷◌, ◌++◌, reverse, length, take}
use Rattle.device.specs.Machine.{shut, due}
use Rattle.unit.specs.UnitMachine.{UnitState}
use Rattle.tape.specs.TapeMachine.{tape_core, tape_machine, kept, room_after}

-- the tape after the start of a command
abbrev pub after_begin : ℕ → UnitState tape_core → UnitState tape_core
after_begin code u = (tape_machine.begun code u).1

-- the tape after these bytes were written as a block
abbrev pub after_write : List ℕ → UnitState tape_core → UnitState tape_core
after_write offered u = (tape_machine.ended (tape_machine.taken offered (after_begin 0x01 u))).1

abbrev pub after_rewind : UnitState tape_core → UnitState tape_core
after_rewind u = after_begin 0x07 u

-- the bytes that a reading code has to hand out
abbrev pub heard : ℕ → UnitState tape_core → List ℕ
heard code u = due (tape_machine.pending (after_begin code u))

-- the tape after a read by this code that asked for so many bytes
abbrev pub after_read : ℕ → ℕ → UnitState tape_core → UnitState tape_core
after_read code n u = (tape_machine.ended (tape_machine.given n (after_begin code u))).1

-- what so many reads hand out, one after the other, each in full
abbrev pub all_heard : ℕ → UnitState tape_core → List (List ℕ)
all_heard zero u = []
all_heard (suc n) u = heard 0x02 u ∷ all_heard n (after_read 0x02 (length (heard 0x02 u)) u)

-- nothing is open, and the position is on the tape
abbrev pub AtRest : UnitState tape_core → Type 0
AtRest u = (tape_machine.pending u ≡ shut) × (u.core.position ≤ length u.core.blocks)

-- a block of these bytes has room at the position
abbrev pub FitsHere : List ℕ → UnitState tape_core → Type 0
FitsHere offered u =
    (u.core.position < 64) × (0 < length offered) × (length offered ≤ room_after (kept u.core))

-- what is written is read back after a rewind, behind the blocks that stood before it
abbrev pub WrittenIsReadBack : Type 0
WrittenIsReadBack =
    (offered : List ℕ) (u : UnitState tape_core) → AtRest u → FitsHere offered u
    → all_heard (u.core.position + 1) (after_rewind (after_write offered u)) ≡ kept u.core ++ offered ∷ []

-- a block just written is read backward as its reverse, and the position is then where the block begins
abbrev pub WrittenIsReadBackward : Type 0
WrittenIsReadBackward =
    (offered : List ℕ) (n : ℕ) (u : UnitState tape_core) → AtRest u → FitsHere offered u
    → (heard 0x0C (after_write offered u) ≡ reverse offered)
    × ((after_read 0x0C n (after_write offered u)).core.position ≡ u.core.position)

-- a write, with room or without, leaves the blocks before the position: at its start, while it takes bytes,
-- and after its end
abbrev pub BlocksBeforeStay : Type 0
BlocksBeforeStay =
    (offered : List ℕ) (u : UnitState tape_core) → AtRest u
    → (take u.core.position (after_begin 0x01 u).core.blocks ≡ kept u.core)
    × (take u.core.position (tape_machine.taken offered (after_begin 0x01 u)).core.blocks ≡ kept u.core)
    × (take u.core.position (after_write offered u).core.blocks ≡ kept u.core)
