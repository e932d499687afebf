use Rattle.std.proofs.Common.{arith}
use Rattle.rules.specs.TakingUp.{cell_of, reach}
use Rattle.channel.proofs.Tables.{moved_within}
use Rattle.channel.proofs.step.move_and_settle.Goals as goal

pub settle-requires : goal.settle-requires
settle-requires g c =
    let d = g.D.Device in
    let st = c.args.storage.now in
    omega (arith, c.move_area-moved.ensures.count, moved_within d.machine (reach st) (cell_of c.args.taken.now) st (d.state c.args.device.now) c.requires)
