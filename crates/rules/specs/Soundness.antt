-- What holds of every CCW that is taken up. A reader must believe: this is what makes it safe to run.
use Rattle.std.specs.Prelude.{ℕ, ◌+◌, ◌<◌, ◌≤◌, false}
use Rattle.rules.specs.Areas.{Shaped}
use Rattle.rules.specs.TakingUp.{Cell, backward}

pub record Sound (L : ℕ) (t : Cell) : Type 0 where
  -- its eight bytes lie inside storage
  pub inside : t.ccw.address + 8 ≤ L
  -- it has bytes to move
  pub some : 0 < t.ccw.value.count
  -- its area lies inside storage, each piece in one block, and comes to its count
  pub shaped : Shaped (backward t.code) L false t.ccw.value.count t.pieces
