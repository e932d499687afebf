-- The disk's commands. A reader must believe: for each code the answer and the state after it, what a locate
-- names, and where the bytes of a write go, are as here; what every device shares is added by `unit_machine`.
use Rattle.std.specs.Prelude.{ℕ, ◌+◌, ◌-◌, cond, List, [], ◌++◌, length, take, drop, Some, None, Option, Ok, Err, Result, ◌==◌}
use Rattle.format.specs.Laying.{put_at}
use Rattle.device.specs.declared.interface.Begun.{Begun}
use Rattle.device.specs.declared.interface.Begun.TheVariants.{Open}
use Rattle.device.specs.Machine.{Machine, Pending, shut, giving, taking}
use Rattle.unit.specs.declared.model.Fault.{Fault}
use Rattle.unit.specs.Core.{Core, unknown_command}
use Rattle.unit.specs.UnitMachine.{UnitState, unit_machine, unit_at_first}
use Rattle.disk.specs.declared.blocks.Location.{Location}
use Rattle.disk.specs.Blocks.{size_of, address_of, range_exists, blocks_at}
use Rattle.disk.specs.Naming.{named_by}
use Rattle.disk.specs.DiskState.{DiskState, Command, none, locating, writing, reading}

abbrev pub with_open : Command → DiskState → DiskState
with_open now_open s = record { bytes = s.bytes; location = s.location; command = now_open }

abbrev pub with_store : List ℕ → Command → DiskState → DiskState
with_store store now_open s = record { bytes = store; location = s.location; command = now_open }

-- nothing is open, and this is the location
abbrev pub closed_at : Option Location → DiskState → DiskState
closed_at place s = record { bytes = s.bytes; location = place; command = none }

-- the answer to a write or a read without a location: status 02 and sense 80
abbrev pub not_located : Fault
not_located = record { status = 0x02; sense = 0x80 }

-- the end of a locate that names no blocks of the disk: status 0E and sense 80
abbrev pub no_such_blocks : Fault
no_such_blocks = record { status = 0x0E; sense = 0x80 }

-- 43: opens for the 4 bytes that name a location
abbrev pub begin_locate : DiskState → Result Begun Fault × DiskState
begin_locate s = (Ok (Open 4 4), with_open (locating []) s)

-- 41: opens for as many bytes as the located blocks have; without a location, status 02 and sense 80
abbrev pub begin_write : Option Location → DiskState → Result Begun Fault × DiskState
begin_write None s = (Err not_located, s)
begin_write (Some place) s =
    (Ok (Open (size_of place.count) (size_of place.count)), with_open (writing (address_of place.first) (size_of place.count)) s)

-- 42: opens with the bytes of the located blocks; without a location, status 02 and sense 80
abbrev pub begin_read : Option Location → DiskState → Result Begun Fault × DiskState
begin_read None s = (Err not_located, s)
begin_read (Some place) s =
    (Ok (Open (size_of place.count) (size_of place.count)), with_open (reading (blocks_at place.first place.count s.bytes)) s)

-- the disk has no other code of its own
abbrev pub begin_own : ℕ → DiskState → Result Begun Fault × DiskState
begin_own code s =
    cond (code == 0x43) (begin_locate s) (
    cond (code == 0x41) (begin_write s.location s) (
    cond (code == 0x42) (begin_read s.location s) (Err unknown_command, s)))

-- what the open command has still to move
abbrev pub pending_during : Command → Pending
pending_during none = shut
pending_during (locating taken) = taking (4 - length taken)
pending_during (writing address n) = taking n
pending_during (reading rest) = giving rest

-- the command after n bytes were asked for
abbrev pub given_during : ℕ → Command → Command
given_during n none = none
given_during n (locating taken) = locating taken
given_during n (writing address m) = writing address m
given_during n (reading rest) = reading (drop n rest)

-- the command after bytes were offered
abbrev pub taken_during : List ℕ → Command → Command
taken_during offered none = none
taken_during offered (locating taken) = locating (taken ++ take (4 - length taken) offered)
taken_during offered (writing address n) = writing (address + length (take n offered)) (n - length offered)
taken_during offered (reading rest) = reading rest

-- the store after bytes were offered: those that a write accepts are in their place
abbrev pub store_during : List ℕ → Command → List ℕ → List ℕ
store_during offered none store = store
store_during offered (locating taken) store = store
store_during offered (writing address n) store = put_at address (take n offered) store
store_during offered (reading rest) store = store

-- these blocks, if they exist and the command that names them took all 4 bytes
abbrev pub location_of : ℕ → Location → Option Location
location_of taken place = cond (taken == 4) (cond (range_exists place.first place.count) (Some place) None) None

-- the location that a locate's bytes name
abbrev pub location_by : List ℕ → Option Location
location_by taken = location_of (length taken) (named_by taken)

-- the end of a locate: a location and status 0C, or else none, status 0E and sense 80
abbrev pub end_locate : Option Location → DiskState → Result ℕ Fault × DiskState
end_locate None s = (Err no_such_blocks, closed_at None s)
end_locate (Some place) s = (Ok 0x0C, closed_at (Some place) s)

-- the end of a write or a read: status 0C, and the location is used up
abbrev pub end_own : Command → DiskState → Result ℕ Fault × DiskState
end_own none s = (Ok 0x0C, closed_at s.location s)
end_own (locating taken) s = end_locate (location_by taken) s
end_own (writing address n) s = (Ok 0x0C, closed_at None s)
end_own (reading rest) s = (Ok 0x0C, closed_at None s)

abbrev pub disk_core : Core
disk_core = record {
  State = DiskState;
  pending = λ s. pending_during s.command;
  started = λ code s. begin_own code s;
  given = λ n s. with_open (given_during n s.command) s;
  taken = λ offered s. with_store (store_during offered s.command s.bytes) (taken_during offered s.command) s;
  ended = λ s. end_own s.command s;
}

abbrev pub disk_machine : Machine
disk_machine = unit_machine disk_core

-- at first: these bytes, no location, and nothing open
abbrev pub at_first : List ℕ → UnitState disk_core
at_first store = unit_at_first disk_core (record { bytes = store; location = None; command = none })
