-- The console's commands. A reader must believe: paper of 2,048 bytes, and for each code the answer and
-- the state after it, are as here; what every device shares is added by `unit_machine`.
use Rattle.std.specs.Prelude.{ℕ, ◌-◌, cond, List, [], ◌++◌, length, take, drop, Ok, Err, Result, ◌==◌}
use Rattle.device.specs.declared.interface.Begun.{Begun}
use Rattle.device.specs.declared.interface.Begun.TheVariants.{Open}
use Rattle.device.specs.Machine.{Machine, Pending, shut, giving, taking}
use Rattle.unit.specs.declared.model.Fault.{Fault}
use Rattle.unit.specs.Core.{Core, unknown_command, nothing_left}
use Rattle.unit.specs.UnitMachine.{UnitState, unit_machine, unit_at_first}
use Rattle.console.specs.ConsoleState.{ConsoleState, Command, none, printing, reading_line}

abbrev pub with_open : Command → ConsoleState → ConsoleState
with_open now_open s = record { paper = s.paper; line = s.line; command = now_open }

abbrev pub with_paper : List ℕ → ConsoleState → ConsoleState
with_paper printed s = record { paper = printed; line = s.line; command = s.command }

-- how many bytes of paper are left once so many are printed
abbrev pub paper_left : ℕ → ℕ
paper_left printed = 2048 - printed

-- 09: opens for as much as there is paper left; with none left, status 0E and sense 40
abbrev pub begin_write : ConsoleState → Result Begun Fault × ConsoleState
begin_write s =
    cond (paper_left (length s.paper) == 0) (Err nothing_left, s) (Ok (Open 0 (paper_left (length s.paper))), with_open printing s)

-- 0A: opens with the waiting line; with an empty line, status 0E and sense 40
abbrev pub begin_read : ConsoleState → Result Begun Fault × ConsoleState
begin_read s =
    cond (length s.line == 0) (Err nothing_left, s) (Ok (Open (length s.line) (length s.line)), with_open (reading_line s.line) s)

-- the console has no other code of its own
abbrev pub begin_own : ℕ → ConsoleState → Result Begun Fault × ConsoleState
begin_own code s = cond (code == 0x09) (begin_write s) (cond (code == 0x0A) (begin_read s) (Err unknown_command, s))

-- what the open command has still to move, once so many bytes are printed
abbrev pub pending_during : Command → ℕ → Pending
pending_during none printed = shut
pending_during printing printed = taking (paper_left printed)
pending_during (reading_line bytes) printed = giving bytes

-- the command after n bytes were asked for
abbrev pub given_during : ℕ → Command → Command
given_during n none = none
given_during n printing = printing
given_during n (reading_line bytes) = reading_line (drop n bytes)

-- the bytes that go to the paper, once so many are printed
abbrev pub accepted_during : Command → ℕ → List ℕ → List ℕ
accepted_during none printed bytes = []
accepted_during printing printed bytes = take (paper_left printed) bytes
accepted_during (reading_line rest) printed bytes = []

-- the line that waits after the end: a read removes it
abbrev pub line_after : Command → List ℕ → List ℕ
line_after none waiting = waiting
line_after printing waiting = waiting
line_after (reading_line bytes) waiting = []

-- the end: status 0C
abbrev pub end_own : ConsoleState → Result ℕ Fault × ConsoleState
end_own s = (Ok 0x0C, record { paper = s.paper; line = line_after s.command s.line; command = none })

abbrev pub console_core : Core
console_core = record {
  State = ConsoleState;
  pending = λ s. pending_during s.command (length s.paper);
  started = λ code s. begin_own code s;
  given = λ n s. with_open (given_during n s.command) s;
  taken = λ bytes s. with_paper (s.paper ++ accepted_during s.command (length s.paper) bytes) s;
  ended = λ s. end_own s;
}

abbrev pub console_machine : Machine
console_machine = unit_machine console_core

-- at first: empty paper, this line waiting, and nothing open
abbrev pub at_first : List ℕ → UnitState console_core
at_first waiting = unit_at_first console_core (record { paper = []; line = waiting; command = none })
