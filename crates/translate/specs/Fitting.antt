-- Numbers that fit. Nothing here has to be believed: only private functions cite it.
use Rattle.std.specs.Prelude.{ℕ, ◌<◌, ◌≤◌, List, [], ◌∷◌, length, Some, None, Option}
use Rattle.walk.specs.Walks.{Trail}
use Rattle.translate.specs.Frames.{words_of}

-- each below a limit
abbrev pub Below : ℕ → List ℕ → Type 0
Below limit [] = Unit {0}
Below limit (x ∷ xs) = (x < limit) × Below limit xs

abbrev pub ClosesBelow : ℕ → Option ℕ → Type 0
ClosesBelow limit None = Unit {0}
ClosesBelow limit (Some j) = j < limit

-- the words of an accepted program fit, and lie inside the guest's storage; a TIC leads to one of 64 cells
pub record FitsFrame (limit : ℕ) (w : Trail) : Type 0 where
  pub words : length (words_of w.cells) ≤ 768
  pub inside : Below limit (words_of w.cells)
  pub closes : ClosesBelow 64 w.closes
