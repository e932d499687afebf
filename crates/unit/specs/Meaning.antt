-- What a device's fields mean. A reader must believe: the sense byte, the sense command and what the model
-- means are all that a device is.
use Rattle.unit.specs.Core.{Core}
use Rattle.unit.specs.UnitMachine.{UnitState}
use Rattle.unit.specs.declared.state.Unit.{Unit as Device}

abbrev pub unit_meaning : {M : Type 0} (c : Core) → (M → c.State) → Device M → UnitState c
unit_meaning c own unit = record { sense = unit.sense; sensing = unit.sensing; core = own unit.model }
