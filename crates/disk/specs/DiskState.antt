-- What a disk remembers beside its sense byte. A reader must believe: its bytes, the blocks that the next
-- read or write is for, and the open command are all that it is.
use Rattle.std.specs.Prelude.{◌≡◌, ℕ, ◌+◌, ◌≤◌, List, length, Some, None, Option}
use Rattle.disk.specs.declared.blocks.Location.{Location}

-- the open command
pub data Command : Type 0 where
  none : Command
  -- a locate, and the bytes that it has taken
  locating : List ℕ → Command
  -- a write: the address of its next byte, and how many bytes are still accepted
  writing : ℕ → ℕ → Command
  -- a read, and the bytes that it has still to hand out
  reading : List ℕ → Command

pub record DiskState : Type 0 where
  pub bytes : List ℕ
  pub location : Option Location
  pub command : Command

-- the block behind the located ones
abbrev pub location_end : Option Location → ℕ
location_end None = 0
location_end (Some place) = place.first + place.count

-- a disk has 64 blocks of 512 bytes, and its location names none past the last
abbrev pub Whole : DiskState → Type 0
Whole s = (length s.bytes ≡ 32768) × (location_end s.location ≤ 64)
