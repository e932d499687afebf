use Rattle.std.proofs.Common.{◌≡◌, ◌+◌, min, false, map, length}
use Rattle.device.specs.Machine.{room}
use Rattle.format.specs.Bytes.{reader}
use Rattle.rules.specs.Areas.{area, sizes, listed}
use Rattle.channel.proofs.Tables.{Rest}
use Rattle.channel.proofs.moving.write_pieces.Given as goal

-- the pieces that are left have the shape of an area, and what is moved with them comes to the whole
abbrev pub invariant-loop-piece : goal.invariant-loop-piece
invariant-loop-piece g l =
    let d = g.D.Device in
    let m = d.machine in
    let ps = listed l.pieces in
    let rest = l.piece-iterator.rest.now in
    (l.moved + min (sizes rest) (room (m.pending (d.state l.device))) ≡ min (sizes ps) (room (m.pending (d.state l.initial.device))))
    × (m.taken (map (reader l.storage) (area false rest)) (d.state l.device) ≡ m.taken (map (reader l.storage) (area false ps)) (d.state l.initial.device))
    × Rest false (length l.storage) rest
