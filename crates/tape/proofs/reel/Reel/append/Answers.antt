use Rattle.std.proofs.Common.{◌-◌, length, ap, arith, length-take}
use Rattle.short_list.specs.Lists.{items}
use Rattle.tape.specs.ReelState.{lengths_of}
use Rattle.tape.specs.TapeMachine.{room_after}
use Rattle.tape.proofs.Cuts.{room_is}
use Rattle.tape.proofs.reel.Reel.append.Goals as goal

pub returns-clause-count : goal.returns-clause-count
returns-clause-count c =
    let room = room_is (lengths_of (items c.self.inside.bounds)) (items c.self.inside.bytes) c.self.invariant.fit.there in
    let same = ap (λ r. room_after r.blocks - length r.written) c.self.view_is in
    let there = c.self.invariant.fit.there in
    omega (arith, length-take c.min-n.result c.args.bytes.now)
