-- Sets of frames as lists. A reader must believe: a list of frames means the set of those that stand in it,
-- and a list of flags the set of those whose flag is on.
use Rattle.std.specs.Prelude.{ℕ, Bool, false, ◌||◌, List, [], ◌∷◌, ◌==◌, slice_index_or}

-- the set of the frames in a list
abbrev pub among : List ℕ → ℕ → Bool
among [] f = false
among (x ∷ xs) f = x == f || among xs f

-- the set of the frames whose flag is on
abbrev pub flagged : List Bool → ℕ → Bool
flagged flags f = slice_index_or flags f false

-- no frame is free
abbrev pub none : ℕ → Bool
none f = false
