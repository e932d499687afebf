use Rattle.std.proofs.Common.{◌≡◌, ◌-◌, true, [], length, None}
use Rattle.format.specs.Bytes.{reader}
use Rattle.rules.specs.TakingUp.{reach}
use Rattle.walk.specs.Walks.{cells_of, walk}
use Rattle.walk.proofs.Trails.{whole}
use Rattle.walk.proofs.walking.walk_program.Given as goal

abbrev pub invariant-walk : goal.invariant-walk
invariant-walk g l =
    let st = g.S.Storage.bytes l.storage in
    let p = l.place in
    whole (reach st) (reader st) (cells_of l.visited.cells) l.visited.words p.address p.first p.command ≡ walk 65 (reach st) (reader st) [] 0 l.start true None

abbrev pub decreases-walk : goal.decreases-walk
decreases-walk g l = 64 - length (cells_of l.visited.cells)
