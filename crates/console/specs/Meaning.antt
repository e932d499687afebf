-- What the console's fields mean. A reader must believe: paper and line are what they hold, and an open
-- reading command has still to hand out what lies past the bytes handed out.
use Rattle.std.specs.Prelude.{ℕ, List, drop}
use Rattle.short_list.specs.Lists.{items}
use Rattle.unit.specs.declared.state.Unit.{Unit as Device}
use Rattle.unit.specs.UnitMachine.{UnitState}
use Rattle.unit.specs.Meaning.{unit_meaning}
use Rattle.console.specs.ConsoleState.{ConsoleState, Command, none, printing, reading_line}
use Rattle.console.specs.ConsoleMachine.{console_core}
use Rattle.console.specs.declared.state.ConsoleModel.{ConsoleModel}
use Rattle.console.specs.declared.state.Phase.{Phase}
use Rattle.console.specs.declared.state.Phase.TheVariants.{Idle, Printing, ReadingLine}

abbrev pub command_of : Phase → List ℕ → Command
command_of Idle waiting = none
command_of Printing waiting = printing
command_of (ReadingLine gone) waiting = reading_line (drop gone waiting)

abbrev pub model_meaning : ConsoleModel → ConsoleState
model_meaning m = record {
  paper = m.paper.items;
  line = items m.line;
  command = command_of m.phase (items m.line);
}

-- the whole device
abbrev pub meaning : Device ConsoleModel → UnitState console_core
meaning console = unit_meaning console_core model_meaning console
