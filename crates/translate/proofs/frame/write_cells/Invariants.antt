use Rattle.std.proofs.Common.{◌≡◌, ◌+◌, ◌*◌, ◌≤◌, map, drop}
use Rattle.format.specs.Laying.{put_at}
use Rattle.rules.specs.TakingUp.{cell_of}
use Rattle.walk.specs.Walks.{cells_of}
use Rattle.translate.specs.Frames.{cells_bytes}
use Rattle.short_list.specs.Lists.{items}
use Rattle.translate.proofs.frame.write_cells.Given as goal

-- the cells there are, with those still to come, are the whole
abbrev pub invariant-loop-index : goal.invariant-loop-index
invariant-loop-index l =
    (put_at (8 * l.index) (cells_bytes (map cell_of (drop l.index (items l.cells))) l.list) l.part ≡ put_at 0 (cells_bytes (cells_of l.cells) 1024) l.initial.part)
    × (l.list ≤ 1024 + 132 * l.index)
