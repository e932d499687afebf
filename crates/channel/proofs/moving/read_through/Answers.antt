use Rattle.std.proofs.Common.{◌≡◌, true, length, take, drop, sym, ap, ◌∙◌, length-take}
use Rattle.std.proofs.lemmas.List.{take_at}
use Rattle.device.specs.Machine.{due}
use Rattle.channel.specs.Moves.{lay}
use Rattle.rules.specs.Areas.{run}
use Rattle.channel.proofs.Laying.{length_run}
use Rattle.channel.proofs.Tables.{lay_cut}
use Rattle.channel.proofs.moving.read_through.Goals as goal

pub returns-clause-bytes : goal.returns-clause-bytes
returns-clause-bytes g c =
    let l = due (g.D.Device.machine.pending (g.D.Device.state c.args.device.now)) in
    let n = length c.args.scratch.now in
    let got = c.give-got.result in
    let len : length (take n l) ≡ got = length-take n l ∙ sym c.give-got.ensures.count in
    let front : take got c.give-got.new.buffer ≡ take n l = ap (take got) c.give-got.ensures.bytes ∙ take_at (take n l) (drop got c.args.scratch.now) got len in
    let down = run true c.args.first n in
    let st = c.args.storage.now in
    c.store_downward.ensures ∙ ap (λ x. lay down x st) front ∙ ap (λ j. lay down (take j l) st) (sym (length_run true c.args.first n)) ∙ lay_cut down l st
