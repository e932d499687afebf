-- What a program does with a disk. A reader must believe: to locate, to write and to read are these calls, in
-- this order, and the bytes of a write or a read may be moved in any parts.
use Rattle.std.specs.Prelude.{◌≡◌, ℕ, min, List, ◌++◌, length, take, drop}
use Rattle.device.specs.Machine.{shut, due}
use Rattle.device.specs.Parts.{handed_out, given_all, taken_all}
use Rattle.unit.specs.UnitMachine.{UnitState}
use Rattle.disk.specs.declared.blocks.Location.{Location}
use Rattle.disk.specs.Naming.{naming}
use Rattle.disk.specs.DiskMachine.{disk_core, disk_machine}

abbrev pub State : Type 0
State = UnitState disk_core

-- no command is open
abbrev pub Idle : State → Type 0
Idle s = disk_machine.pending s ≡ shut

abbrev pub place_of : ℕ → ℕ → Location
place_of start blocks = record { first = start; count = blocks }

-- the status that a locate of some blocks ends with, and the disk after it
abbrev pub locating_ends : ℕ → ℕ → State → ℕ × State
locating_ends start blocks s = disk_machine.ended (disk_machine.taken (naming (place_of start blocks)) (disk_machine.begun 0x43 s).1)

abbrev pub located : ℕ → ℕ → State → State
located start blocks s = (locating_ends start blocks s).1

-- the disk while the located blocks are written
abbrev pub while_written : List (List ℕ) → State → State
while_written parts s = taken_all disk_machine parts (disk_machine.begun 0x41 s).1

-- the status that the write ends with, and the disk after it
abbrev pub writing_ends : List (List ℕ) → State → ℕ × State
writing_ends parts s = disk_machine.ended (while_written parts s)

abbrev pub written : List (List ℕ) → State → State
written parts s = (writing_ends parts s).1

-- the bytes that a read of the located blocks has to hand out
abbrev pub to_read : State → List ℕ
to_read s = due (disk_machine.pending (disk_machine.begun 0x42 s).1)

-- what a read of the located blocks hands out, in parts of these sizes, and the disk after it
abbrev pub read_out : List ℕ → State → List ℕ
read_out sizes s = handed_out disk_machine sizes (disk_machine.begun 0x42 s).1

abbrev pub after_read : List ℕ → State → State
after_read sizes s = (disk_machine.ended (given_all disk_machine sizes (disk_machine.begun 0x42 s).1)).1

-- a buffer after these bytes were handed out into it
abbrev pub overlaid : List ℕ → List ℕ → List ℕ
overlaid bytes buffer = take (length buffer) bytes ++ drop (min (length buffer) (length bytes)) buffer
