-- Where blocks lie. A reader must believe: a store is 64 blocks of 512 bytes, one after the other, and its
-- bytes are a list from address 0 on.
use Rattle.std.specs.Prelude.{ℕ, ◌+◌, ◌*◌, Bool, false, cond, List, ◌++◌, take, drop, replicate, ◌==◌, nat_le}

-- how many bytes so many blocks have
abbrev pub size_of : ℕ → ℕ
size_of blocks = 512 * blocks

-- the address of a block's first byte
abbrev pub address_of : ℕ → ℕ
address_of block = 512 * block

-- whether a range of blocks exists: it has at least one block, and its end is not past 64
abbrev pub range_exists : ℕ → ℕ → Bool
range_exists start blocks = cond (blocks == 0) false (nat_le (start + blocks) 64)

-- n bytes from an address on; zeros stand for bytes past the end of the store
abbrev pub bytes_at : ℕ → ℕ → List ℕ → List ℕ
bytes_at address n store = take n (drop address store ++ replicate n 0)

-- the bytes of a range of blocks
abbrev pub blocks_at : ℕ → ℕ → List ℕ → List ℕ
blocks_at start blocks store = bytes_at (address_of start) (size_of blocks) store

-- the bytes of one block
abbrev pub block_at : ℕ → List ℕ → List ℕ
block_at block store = blocks_at block 1 store
