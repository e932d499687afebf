use Rattle.std.proofs.Common.{length, ap, arith}
use Rattle.tape.proofs.Cuts.{cut_count}
use Rattle.tape.proofs.state.access.new_tape.Goals as goal

pub invariant_of-new : goal.invariant_of-new
invariant_of-new c =
    let few = c.in_ok-reel.ensures.0.fit.few in
    let blocks = ap (λ r. length r.blocks) c.in_ok-reel.ensures.1 in
    let count = cut_count c.args.lengths.now c.args.bytes.now in
    record { read_fits = omega arith; blocks_fit = omega arith; on_tape = omega arith; past_first = omega arith }
