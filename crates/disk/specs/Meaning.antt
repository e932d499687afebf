-- What the disk's fields mean. A reader must believe: a write accepts the bytes up to its end, and a read has
-- still to hand out those up to its end.
use Rattle.std.specs.Prelude.{◌≡◌, ℕ, ◌+◌, ◌-◌, List, take, drop, Some, None, Option, Ok, Err, Result}
use Rattle.unit.specs.declared.model.Fault.{Fault}
use Rattle.unit.specs.declared.state.Unit.{Unit as Device}
use Rattle.unit.specs.UnitMachine.{UnitState}
use Rattle.unit.specs.Meaning.{unit_meaning}
use Rattle.disk.specs.declared.blocks.Location.{Location}
use Rattle.disk.specs.declared.extent.Extent.{Extent}
use Rattle.disk.specs.Blocks.{address_of}
use Rattle.disk.specs.DiskState.{DiskState, Command, none, locating, writing, reading}
use Rattle.disk.specs.DiskMachine.{disk_core, not_located}
use Rattle.disk.specs.declared.state.DiskModel.{DiskModel}
use Rattle.disk.specs.declared.state.Phase.{Phase}
use Rattle.disk.specs.declared.state.Phase.TheVariants.{Idle, Locating, Writing, Reading}

abbrev pub command_of : Phase → List ℕ → Command
command_of Idle store = none
command_of (Locating parameters) store = locating parameters.items
command_of (Writing extent) store = writing extent.next (extent.limit - extent.next)
command_of (Reading extent) store = reading (drop extent.next (take extent.limit store))

abbrev pub model_meaning : DiskModel → DiskState
model_meaning m = record {
  bytes = m.bytes;
  location = m.location;
  command = command_of m.phase m.bytes;
}

-- an extent goes from the first byte of the located blocks to their end
abbrev pub Located : Option Location → Result Extent Fault → Type 0
Located None result = result ≡ Err not_located
Located (Some place) (Ok extent) = (extent.next ≡ address_of place.first) × (extent.limit ≡ address_of (place.first + place.count))
Located (Some place) (Err fault) = ⊥

-- the whole device
abbrev pub meaning : Device DiskModel → UnitState disk_core
meaning disk = unit_meaning disk_core model_meaning disk
