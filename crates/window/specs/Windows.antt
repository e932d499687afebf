-- The part of a map that a window shows. A reader must believe: page 0 of a window is the page of the map
-- below at which the window starts, and so on; its free frames are those of the map below.
use Rattle.std.specs.Prelude.{ℕ, ◌+◌, ◌-◌, ◌<◌, ◌≤◌, min, Bool, List, length, take, drop}
use Rattle.map.specs.Law.{PutDone}

-- a window of `count` pages from `first` on lies inside the map below
abbrev pub Inside : ℕ → ℕ → List ℕ → Type 0
Inside first count fs = (1 ≤ count) × (first + count ≤ length fs)

-- the page of the map below that is page 0 of the window; it is `first` of a window inside the map below
abbrev pub start_of : ℕ → List ℕ → ℕ
start_of first fs = min first (length fs - 1)

-- the frames of the pages that the window shows
abbrev pub shown : ℕ → ℕ → List ℕ → List ℕ
shown first count fs = take count (drop (start_of first fs) fs)

-- a put through a window changes exactly that page of the map below
abbrev pub PutThrough : ℕ → ℕ → List ℕ → (ℕ → Bool) → ℕ → ℕ → List ℕ → (ℕ → Bool) → Type 0
PutThrough first count fs free page frame fs' free' =
    (page < length (shown first count fs)) × PutDone fs free (start_of first fs + page) frame fs' free'
