-- The disk's own codes. A reader must believe: 41 is a write, 42 is a read, 43 is a locate, and the disk has
-- no other.
use Rattle.std.specs.Prelude.{ℕ, cond, Ok, Err, Result, ◌==◌}
use Rattle.unit.specs.declared.model.Fault.{Fault}
use Rattle.unit.specs.Core.{unknown_command}
use Rattle.disk.specs.declared.code.Code.{Code}
use Rattle.disk.specs.declared.code.Code.TheVariants.{Write, Read, Locate}

abbrev pub byte_of : Code → ℕ
byte_of Write = 0x41
byte_of Read = 0x42
byte_of Locate = 0x43

abbrev pub decoded : ℕ → Result Code Fault
decoded code =
    cond (code == 0x43) (Ok Locate) (cond (code == 0x41) (Ok Write) (cond (code == 0x42) (Ok Read) (Err unknown_command)))
