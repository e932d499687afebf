-- How four bytes name blocks. A reader must believe: a count of blocks and the first block, two bytes each.
use Rattle.std.specs.Prelude.{ℕ, List, ◌++◌}
use Rattle.format.specs.Bytes.{reader, half_word_at, half_word_bytes}
use Rattle.disk.specs.declared.blocks.Location.{Location}

-- the blocks that the bytes name, whether they exist or not
abbrev pub named_by : List ℕ → Location
named_by bytes = record { first = half_word_at (reader bytes) 2; count = half_word_at (reader bytes) 0 }

-- the bytes that name some blocks
abbrev pub naming : Location → List ℕ
naming place = half_word_bytes place.count ++ half_word_bytes place.first
