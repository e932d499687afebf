-- A guest's bytes. A reader must believe: each is the host byte at the place of its address, and a host byte
-- past the host's end reads 0.
use Rattle.std.specs.Prelude.{◌≡◌, ℕ, ◌<◌, List, map, length, Result, slice_index}
use Rattle.std.specs.List.{range_with_len}
use Rattle.format.specs.declared.ccw.Format.{Format}
use Rattle.rules.specs.TakingUp.{answered, cell_of, taken_up}
use Rattle.rules.specs.declared.place.Broken.{Broken}
use Rattle.rules.specs.declared.place.Place.{Place}
use Rattle.rules.specs.declared.place.Taken.{Taken}
use Rattle.map.specs.Places.{end_of, place_of}

-- the host byte at the place of a guest address
abbrev pub byte_at : List ℕ → List ℕ → ℕ → ℕ
byte_at fs host address = slice_index host (place_of fs address)

-- the guest's bytes, from its address 0 to its end
unfoldable pub guest_bytes : List ℕ → List ℕ → List ℕ
guest_bytes fs host = map (byte_at fs host) (range_with_len 0 (end_of fs))

-- these are the host bytes that the places of the guest's addresses lead to, one for each address
abbrev pub ByPlace : List ℕ → List ℕ → List ℕ → Type 0
ByPlace fs host bytes = (length bytes ≡ end_of fs) × ((address : ℕ) → address < end_of fs → slice_index bytes address ≡ byte_at fs host address)

-- taking up a place through the view gives the same answer as on any plain copy of the guest's bytes
abbrev pub AsOnACopy : List ℕ → List ℕ → Format → Place → Result Taken Broken → Type 0
AsOnACopy fs host format place answer = (copy : List ℕ) → ByPlace fs host copy → answered cell_of answer ≡ taken_up format copy place
