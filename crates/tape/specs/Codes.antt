-- The tape's command codes. A reader must believe: 01 is a write, 02 a read, 0C a read backward and 07 a rewind, and
-- the tape has no other of its own.
use Rattle.std.specs.Prelude.{ℕ, cond, Ok, Err, Result, ◌==◌}
use Rattle.unit.specs.declared.model.Fault.{Fault}
use Rattle.unit.specs.Core.{unknown_command}
use Rattle.tape.specs.declared.code.Code.{Code}
use Rattle.tape.specs.declared.code.Code.TheVariants.{Write, Read, Rewind}
use Rattle.tape.specs.declared.code.Direction.TheVariants.{Forward, Backward}

abbrev pub byte_of : Code → ℕ
byte_of Write = 0x01
byte_of (Read Forward) = 0x02
byte_of (Read Backward) = 0x0C
byte_of Rewind = 0x07

abbrev pub decoded : ℕ → Result Code Fault
decoded code =
    cond (code == 0x01) (Ok Write) (
    cond (code == 0x02) (Ok (Read Forward)) (
    cond (code == 0x0C) (Ok (Read Backward)) (
    cond (code == 0x07) (Ok Rewind) (Err unknown_command))))
