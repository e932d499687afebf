use Rattle.std.proofs.Common.{◌<◌, length, ap, arith}
use Rattle.std.proofs.lemmas.Grind.{common_steps}
use Rattle.std.proofs.lemmas.List.Sums.{sum_by-take-le}
use Rattle.short_list.specs.Lists.{items}
use Rattle.tape.specs.ReelState.{lengths_of}
use Rattle.tape.proofs.Cuts.{cut_count}
use Rattle.tape.proofs.Bounds.{count_of, bound_at}
use Rattle.tape.proofs.reel.Reel.start_of.Goals as goal

pub returns-clause-fits : goal.returns-clause-fits
returns-clause-fits c =
    let bounds = items c.self.inside.bounds in
    let sizes = lengths_of bounds in
    let all = items c.self.inside.bytes in
    let fits = c.self.invariant in
    let there = fits.fit.there in
    let small = fits.fit.small in
    let count = cut_count sizes all in
    let bounds_count = count_of bounds fits.begun in
    let blocks = ap (λ r. length r.blocks) c.self.view_is in
    let part = sum_by-take-le (λ x. x) sizes c.args.index in
    let inside : c.args.index < length bounds = omega arith in
    let begins = bound_at c.args.index bounds all fits inside in
    grind (arith, common_steps)
