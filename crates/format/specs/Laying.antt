-- Bytes laid into a storage. A reader must believe: they stand from an address on, and the other bytes stay.
use Rattle.std.specs.Prelude.{ℕ, List, ◌++◌, length, take, drop}

-- the storage with these bytes at an address, and its other bytes as before
abbrev pub put_at : ℕ → List ℕ → List ℕ → List ℕ
put_at address written storage = take address storage ++ (written ++ drop (length written) (drop address storage))
