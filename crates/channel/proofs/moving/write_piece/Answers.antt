use Rattle.std.proofs.Common.{ap, ◌∙◌}
use Rattle.channel.proofs.Laying.{piece_read}
use Rattle.channel.proofs.moving.write_piece.Goals as goal

pub returns-clause-became : goal.returns-clause-became
returns-clause-became g c =
    let d = g.D.Device in
    c.take.ensures.became ∙ ap (λ x. d.machine.taken x (d.state c.args.device.now)) (piece_read c.args.piece.first c.args.piece.size c.args.storage.now c.requires)
