use Rattle.std.proofs.Common.{◌≡◌, map, drop}
use Rattle.rules.specs.TakingUp.{cell_of}
use Rattle.walk.specs.Walks.{cells_of, met}
use Rattle.short_list.specs.Lists.{items}
use Rattle.walk.proofs.visited.Visited.met_before.Given as goal

-- none of the places so far is the one asked for
abbrev pub invariant-loop-index : goal.invariant-loop-index
invariant-loop-index l = met l.address l.command (map cell_of (drop l.index (items l.self.cells))) l.index ≡ met l.address l.command (cells_of l.self.cells) 0
