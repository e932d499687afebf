use Rattle.std.proofs.Common.{min, length, ap, ◌∙◌, arith}
use Rattle.device.specs.Machine.{due}
use Rattle.channel.proofs.Laying.{length_part, piece_laid}
use Rattle.channel.proofs.moving.read_upward.Goals as goal

pub returns-clause-bytes : goal.returns-clause-bytes
returns-clause-bytes g c =
    let l = due (g.D.Device.machine.pending (g.D.Device.state c.args.device.now)) in
    let len = length_part c.args.piece.first c.args.piece.size c.args.storage.now c.requires in
    let count = c.give.ensures.count ∙ ap (λ x. min x (length l)) len in
    let bytes = rw len at c.give.ensures.bytes in
    piece_laid c.args.piece.first c.args.piece.size _ c.give.result l c.args.storage.now c.give.new.buffer (omega arith) c.requires count bytes
