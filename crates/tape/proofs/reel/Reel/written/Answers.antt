use Rattle.std.proofs.Common.{ap, arith}
use Rattle.short_list.specs.Lists.{items}
use Rattle.tape.specs.ReelState.{lengths_of}
use Rattle.tape.specs.TapeMachine.{bytes_in}
use Rattle.tape.proofs.Cuts.{cut_bytes, written_size}
use Rattle.tape.proofs.reel.Reel.written.Goals as goal

pub returns : goal.returns
returns c =
    let sizes = lengths_of (items c.self.inside.bounds) in
    let all = items c.self.inside.bytes in
    let size = written_size sizes all c.args.self.now c.self.view_is in
    let whole = cut_bytes sizes all c.self.invariant.fit.there in
    omega (arith, ap (λ r. bytes_in r.blocks) c.self.view_is)
