-- Which blocks a tape is made with. A reader must believe: bytes are cut into blocks one after the other, and
-- a tape holds them where there are at most 64, each has 1 to 4,096 bytes, all have at most 8,192, and no
-- byte is left over.
use Rattle.std.specs.Prelude.{◌≡◌, ℕ, ◌<◌, ◌≤◌, List, [], ◌∷◌, length, take, drop, sum, slice_index}

-- the first block has the first length, and so on
abbrev pub cut : List ℕ → List ℕ → List (List ℕ)
cut [] all = []
cut (n ∷ ns) all = take n all ∷ cut ns (drop n all)

pub record LengthsFit (sizes : List ℕ) : Type 0 where
  pub few : length sizes ≤ 64
  pub filled : (k : ℕ) → k < length sizes → 0 < slice_index sizes k
  pub short : (k : ℕ) → k < length sizes → slice_index sizes k ≤ 4096
  pub small : sum sizes ≤ 8192

pub record Holdable (all sizes : List ℕ) : Type 0 where
  pub fit : LengthsFit sizes
  pub whole : sum sizes ≡ length all
