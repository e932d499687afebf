use Rattle.std.proofs.Common.{◌≡◌, [], refl, arith}
use Rattle.walk.specs.SoundTrails.{pieces_in}
use Rattle.walk.specs.Walks.{cells_of}
use Rattle.walk.proofs.visited.Visited.none.Goals as goal

pub invariant_of-result : goal.invariant_of-result
unfolding pieces_in
invariant_of-result c =
    let empty : cells_of c.new.result ≡ [] = rw c.new.ensures in
    record { few = rw empty (omega arith); counted = rw empty refl; short = omega arith }
