-- What a program can rely on. A reader must believe that these two statements say it.
use Rattle.std.specs.Prelude.{◌≡◌, ℕ, ◌+◌, ◌<◌, ◌≤◌, true, ◌⊎◌, List, length, Some, None, Option}
use Rattle.device.specs.Parts.{total, joined}
use Rattle.disk.specs.declared.blocks.Location.{Location}
use Rattle.disk.specs.Blocks.{size_of, range_exists, block_at}
use Rattle.disk.specs.DiskState.{Whole}
use Rattle.disk_driver.specs.Programs.{State, Idle, located, while_written, written, read_out}

-- a read returns the bytes last written to its blocks: once some blocks are located and written in full, and
-- located again, a read of them in full hands out what was written
abbrev pub ReadReturnsWhatWasWritten : Type 0
ReadReturnsWhatWasWritten =
    (start blocks : ℕ) (parts : List (List ℕ)) (sizes : List ℕ) (s : State)
    → Idle s → Whole s.core → range_exists start blocks ≡ true
    → length (joined parts) ≡ size_of blocks → total sizes ≡ size_of blocks
    → read_out sizes (located start blocks (written parts (located start blocks s))) ≡ joined parts

-- a block that is not among the located ones
abbrev pub NotLocated : ℕ → Option Location → Type 0
NotLocated block None = Unit {0}
NotLocated block (Some place) = (block < place.first) ⊎ (place.first + place.count ≤ block)

-- a write changes no other block, neither while it is open nor at its end
abbrev pub WriteChangesNoOtherBlock : Type 0
WriteChangesNoOtherBlock =
    (parts : List (List ℕ)) (s : State) (block : ℕ)
    → Idle s → Whole s.core → NotLocated block s.core.location
    → (block_at block (while_written parts s).core.bytes ≡ block_at block s.core.bytes)
    × (block_at block (written parts s).core.bytes ≡ block_at block s.core.bytes)
