-- The console's own codes. A reader must believe: 09 is a write, 0A is a read, and the console has no other.
use Rattle.std.specs.Prelude.{ℕ, cond, Ok, Err, Result, ◌==◌}
use Rattle.unit.specs.declared.model.Fault.{Fault}
use Rattle.unit.specs.Core.{unknown_command}
use Rattle.console.specs.declared.state.commands.Code.{Code}
use Rattle.console.specs.declared.state.commands.Code.TheVariants.{Write, Read}

abbrev pub decoded : ℕ → Result Code Fault
decoded code = cond (code == 0x09) (Ok Write) (cond (code == 0x0A) (Ok Read) (Err unknown_command))
