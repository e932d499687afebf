use Rattle.std.proofs.Common.{◌≡◌, [], ◌∷◌, ◌++◌, length, ap, arith, rules}
use Rattle.std.proofs.lemmas.Grind.{common_steps}
use Rattle.short_list.specs.Lists.{items}
use Rattle.tape.specs.ReelState.{lengths_of}
use Rattle.tape.proofs.Cuts.{cut_count, written_size, closed, fits_closed}
use Rattle.tape.proofs.Bounds.{count_of, bound_push}
use Rattle.tape.proofs.reel.Reel.close.Goals as goal

pub invariant_of-self : goal.invariant_of-self
invariant_of-self c =
    let bounds = items c.self.inside.bounds in
    let sizes = lengths_of bounds in
    let all = items c.self.inside.bytes in
    let fits = c.self.invariant in
    let begun = fits.begun in
    let from_zero = fits.from_zero in
    let count = cut_count sizes all in
    let bounds_count = count_of bounds begun in
    let blocks = ap (λ r. length r.blocks) c.self.view_is in
    let size = written_size sizes all c.args.self.now c.self.view_is in
    let pushed : items c.push.new.self ≡ bounds ++ length all ∷ [] = grind (arith, rules) in
    record {
      begun = grind (arith, common_steps);
      from_zero = grind (arith, common_steps);
      fit = rw (pushed, bound_push bounds all fits) (fits_closed sizes all fits.fit (omega arith) (omega arith));
    }

pub returns : goal.returns
returns c =
    let bounds = items c.self.inside.bounds in
    let sizes = lengths_of bounds in
    let all = items c.self.inside.bytes in
    let count = cut_count sizes all in
    let bounds_count = count_of bounds c.self.invariant.begun in
    let blocks = ap (λ r. length r.blocks) c.self.view_is in
    let pushed : items c.push.new.self ≡ bounds ++ length all ∷ [] = grind (arith, rules) in
    let sizes_pushed = bound_push bounds all c.self.invariant in
    let closes = closed sizes all c.self.invariant.fit.there in
    cc
