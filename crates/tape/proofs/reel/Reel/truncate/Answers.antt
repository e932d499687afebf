use Rattle.std.proofs.Common.{◌≡◌, ◌+◌, take, sum, ap, ◌∙◌, arith}
use Rattle.std.proofs.lemmas.Grind.{common_steps}
use Rattle.short_list.specs.Lists.{items}
use Rattle.tape.specs.ReelState.{lengths_of}
use Rattle.tape.proofs.Cuts.{begins_at, fits_truncated}
use Rattle.tape.proofs.Bounds.{take_of}
use Rattle.tape.proofs.reel.Reel.truncate.Goals as goal

pub invariant_of-self : goal.invariant_of-self
invariant_of-self c =
    let bounds = items c.self.inside.bounds in
    let sizes = lengths_of bounds in
    let all = items c.self.inside.bytes in
    let k = c.args.blocks in
    let fits = c.self.invariant in
    let begun = fits.begun in
    let from_zero = fits.from_zero in
    let begins =
    c.start_of-end.ensures.before ∙ begins_at k sizes all c.args.self.now c.self.view_is fits.fit.there in
    let bytes_kept : items c.truncate.new.self ≡ take (sum (take k sizes)) all =
    c.truncate.ensures ∙ ap (λ n. take n all) begins in
    let bounds_kept : items c.truncate-2.new.self ≡ take (k + 1) bounds = c.truncate-2.ensures in
    let sizes_kept : lengths_of (items c.truncate-2.new.self) ≡ take k sizes =
    ap lengths_of bounds_kept ∙ take_of k bounds in
    record {
      begun = grind (arith, common_steps);
      from_zero = grind (arith, common_steps);
      fit = rw (bytes_kept, sizes_kept) (fits_truncated k sizes all fits.fit);
    }
