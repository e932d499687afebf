-- Moving in parts. A reader must believe: the parts of a move are moved one after the other.
use Rattle.std.specs.Prelude.{◌≡◌, ℕ, ◌+◌, List, [], ◌∷◌, ◌++◌, take}
use Rattle.device.specs.Machine.{Machine, due}

abbrev pub total : List ℕ → ℕ
total [] = 0
total (n ∷ ns) = n + total ns

abbrev pub joined : List (List ℕ) → List ℕ
joined [] = []
joined (bytes ∷ rest) = bytes ++ joined rest

-- gives of these sizes, one after the other: the bytes, and the state left
abbrev pub handed_out : (m : Machine) → List ℕ → m.State → List ℕ
handed_out m [] s = []
handed_out m (n ∷ ns) s = take n (due (m.pending s)) ++ handed_out m ns (m.given n s)

abbrev pub given_all : (m : Machine) → List ℕ → m.State → m.State
given_all m [] s = s
given_all m (n ∷ ns) s = given_all m ns (m.given n s)

-- takes of these parts, one after the other: the state left
abbrev pub taken_all : (m : Machine) → List (List ℕ) → m.State → m.State
taken_all m [] s = s
taken_all m (bytes ∷ rest) s = taken_all m rest (m.taken bytes s)

-- however a move is cut into parts, it is one move of the whole
abbrev pub PartsAreOneMove : Machine → Type 0
PartsAreOneMove m =
    ((sizes : List ℕ) (s : m.State) → (given_all m sizes s ≡ m.given (total sizes) s) × (handed_out m sizes s ≡ take (total sizes) (due (m.pending s))))
    × ((parts : List (List ℕ)) (s : m.State) → taken_all m parts s ≡ m.taken (joined parts) s)
