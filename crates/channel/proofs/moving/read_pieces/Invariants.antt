use Rattle.std.proofs.Common.{◌≡◌, ◌+◌, min, length}
use Rattle.device.specs.Machine.{due}
use Rattle.channel.specs.Moves.{lay}
use Rattle.rules.specs.Areas.{area, sizes, listed}
use Rattle.channel.proofs.Tables.{Rest}
use Rattle.channel.proofs.moving.read_pieces.Given as goal

-- the pieces that are left have the shape of an area, and what is moved with them comes to the whole
abbrev pub invariant-loop-piece : goal.invariant-loop-piece
invariant-loop-piece g l =
    let d = g.D.Device in
    let m = d.machine in
    let ps = listed l.pieces in
    let rest = l.piece-iterator.rest.now in
    let old = due (m.pending (d.state l.initial.device)) in
    let new = due (m.pending (d.state l.device)) in
    (l.moved + min (sizes rest) (length new) ≡ min (sizes ps) (length old))
    × (lay (area l.backward rest) new l.storage ≡ lay (area l.backward ps) old l.initial.storage)
    × (m.given (sizes rest) (d.state l.device) ≡ m.given (sizes ps) (d.state l.initial.device))
    × Rest l.backward (length l.initial.storage) rest
