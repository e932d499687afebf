use Rattle.std.proofs.Common.{sym}
use Rattle.walk.specs.Walks.{cells_of}
use Rattle.walk.proofs.Trails.{look_inside}
use Rattle.walk.proofs.visited.Visited.visit.Goals as goal

pub returns-clause-inside : goal.returns-clause-inside
returns-clause-inside g c =
    let p = c.args.place in
    let visited = c.args.self.now in
    look_inside (g.S.Storage.bytes c.args.storage.now) (cells_of visited.cells) visited.words p.address c.in_ok-address.address p.first p.command (sym c.in_ok-address.ensures) c.look_at.result c.look_at.ensures.is
