-- What a map means, and its law. A reader must believe: a map is a list of frames, the frame of page 0
-- first, and a set of free frames; a frame serves one page at most, and frame 0 serves none.
use Rattle.std.specs.Prelude.{◌≡◌, ℕ, ◌<◌, ◌≤◌, Bool, true, false, cond, List, length, ◌==◌, ◌≢◌, slice_index, slice_set}
use Rattle.format.specs.declared.refusal.Refusal.{Refusal}
use Rattle.format.specs.declared.refusal.Refusal.TheVariants.{FrameTaken}

-- every listed frame is one of 1 to 255
abbrev pub Ranged : List ℕ → Type 0
Ranged fs = (i : ℕ) → i < length fs → (1 ≤ slice_index fs i) × (slice_index fs i ≤ 255)

-- no two pages have one frame
abbrev pub Distinct : List ℕ → Type 0
Distinct fs = (i j : ℕ) → i < j → j < length fs → slice_index fs i ≢ slice_index fs j

-- no listed frame is free
abbrev pub Kept : List ℕ → (ℕ → Bool) → Type 0
Kept fs free = (i : ℕ) → i < length fs → free (slice_index fs i) ≡ false

-- every free frame is one of 1 to 255
abbrev pub Spare : (ℕ → Bool) → Type 0
Spare free = (f : ℕ) → free f ≡ true → (1 ≤ f) × (f ≤ 255)

-- the law of every map
abbrev pub Lawful : List ℕ → (ℕ → Bool) → Type 0
Lawful fs free = (1 ≤ length fs) × (length fs ≤ 128) × Ranged fs × Distinct fs × Kept fs free × Spare free

-- the free frames once `frame` is taken and `old` is given back
abbrev pub exchanged : (ℕ → Bool) → ℕ → ℕ → ℕ → Bool
exchanged free frame old f = cond (f == frame) false (cond (f == old) true (free f))

-- a put that is done: the page was there and the frame was free; now the page has the frame, every other
-- page has what it had, and the page's old frame is free
abbrev pub PutDone : List ℕ → (ℕ → Bool) → ℕ → ℕ → List ℕ → (ℕ → Bool) → Type 0
PutDone fs free page frame fs' free' =
    (page < length fs) × (free frame ≡ true) × (fs' ≡ slice_set fs page frame)
    × ((f : ℕ) → free' f ≡ exchanged free frame (slice_index fs page) f)

-- a put that is refused: there is no such page, or the frame is not free
abbrev pub PutRefused : List ℕ → (ℕ → Bool) → ℕ → ℕ → Refusal → Type 0
PutRefused fs free page frame refusal = (refusal ≡ FrameTaken) × (page < length fs → free frame ≢ true)
