-- What a model means: a device without its sense byte. A reader must believe: a model is a state, what its
-- open command has still to move, and four fixed functions of the state, of which the start and the end of
-- a command may each be a fault, with a status and a sense byte to set; a code that no model knows is the fault of
-- status 02 with sense 80, and that nothing is left the fault of status 0E with sense 40.
use Rattle.std.specs.Prelude.{ℕ, Bool, true, false, List, Result}
use Rattle.device.specs.declared.interface.Begun.{Begun}
use Rattle.device.specs.Machine.{Pending, shut, giving, taking}
use Rattle.unit.specs.declared.model.Fault.{Fault}

pub record Core : Type 1 where
  pub State : Type 0
  pub pending : State → Pending
  pub started : ℕ → State → Result Begun Fault × State
  pub given : ℕ → State → State
  pub taken : List ℕ → State → State
  pub ended : State → Result ℕ Fault × State

abbrev pub is_open : Pending → Bool
is_open shut = false
is_open (giving bytes) = true
is_open (taking n) = true

-- the answer to a code that is no command of the device: status 02, and sense 80
abbrev pub unknown_command : Fault
unknown_command = record { status = 0x02; sense = 0x80 }

-- the answer to a command that needs paper, a line, a byte or a block where none is left: status 0E, and sense 40
abbrev pub nothing_left : Fault
nothing_left = record { status = 0x0E; sense = 0x40 }
