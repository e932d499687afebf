use Rattle.std.proofs.Common.{◌≡◌, ◌*◌, ◌++◌, map, length, drop}
use Rattle.rules.specs.TakingUp.{cell_of}
use Rattle.walk.specs.Walks.{cells_of}
use Rattle.walk.specs.OwnBytes.{extents_in, extents_of}
use Rattle.short_list.specs.Lists.{items}
use Rattle.walk.proofs.own_bytes.asking.own_bytes_of.Given as goal

-- the extents there are, with those of the cells to come, are all
abbrev pub invariant-loop-taken : goal.invariant-loop-taken
invariant-loop-taken l =
    (extents_in l.own ++ extents_of (map cell_of (drop l.taken-index (items l.cells))) ≡ extents_of (cells_of l.cells))
    × (length (extents_in l.own) ≡ 2 * l.taken-index)
