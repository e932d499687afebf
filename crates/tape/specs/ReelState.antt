-- What a tape stores. A reader must believe: bytes are cut into blocks of the given lengths, one after the other,
-- and what is left of them is a block that is being written. Of blocks that lie one behind the other, the lengths are
-- from each bound to the next.
use Rattle.std.specs.Prelude.{◌≡◌, ℕ, ◌-◌, ◌<◌, ◌≤◌, List, [], ◌∷◌, length, drop, sum, slice_index}
use Rattle.tape.specs.Cutting.{cut}

pub record ReelState : Type 0 where
  pub blocks : List (List ℕ)
  pub written : List ℕ

abbrev pub stored : List ℕ → List ℕ → ReelState
stored sizes all = record { blocks = cut sizes all; written = drop (sum sizes) all }

-- how long blocks are that end at these places, where the first of them begins at `start`
abbrev pub lengths_from : ℕ → List ℕ → List ℕ
lengths_from start [] = []
lengths_from start (e ∷ ends) = (e - start) ∷ lengths_from e ends

-- how long blocks with these bounds are
abbrev pub lengths_of : List ℕ → List ℕ
lengths_of [] = []
lengths_of (start ∷ ends) = lengths_from start ends

-- what lengths and bytes keep: at most 64 blocks, none of them empty, and each byte of them there
pub record ReelFits (sizes all : List ℕ) : Type 0 where
  pub few : length sizes ≤ 64
  pub filled : (k : ℕ) → k < length sizes → 0 < slice_index sizes k
  pub there : sum sizes ≤ length all
  pub small : length all ≤ 8192

-- what bounds and bytes keep: the first bound is 0, and so the blocks lie in the bytes
pub record BoundsFit (bounds all : List ℕ) : Type 0 where
  pub begun : 0 < length bounds
  pub from_zero : slice_index bounds 0 ≡ 0
  pub fit : ReelFits (lengths_of bounds) all
