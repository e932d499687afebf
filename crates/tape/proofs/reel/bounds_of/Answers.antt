use Rattle.std.proofs.Common.{◌<◌, length, slice_index_or, refl, arith}
use Rattle.std.proofs.lemmas.Grind.{common_steps}
use Rattle.short_list.specs.Lists.{items}
use Rattle.tape.proofs.Bounds.{count_of, bound_next}
use Rattle.tape.proofs.reel.bounds_of.Goals as goal

pub loop-length-preserved : goal.loop-length-preserved
loop-length-preserved c =
    let lengths = c.args.lengths.now in
    let bounds = items c.loop-length.bounds in
    let i = c.loop-length.length-index in
    let before = c.loop-length.invariant in
    let begun = before.begun in
    let from_zero = before.from_zero in
    let so_far = before.so_far in
    let summed = before.summed in
    let count = count_of bounds begun in
    let few = c.requires.few in
    let inside : i < length lengths = c.loop-length-test.true in
    let shorter : length bounds < 65 = grind (arith, common_steps) in
    let pushed = c.push-in-loop-length.ensures.room shorter in
    let next =
    bound_next bounds lengths i c.loop-length.end (slice_index_or lengths i 0) c.requires begun from_zero so_far summed inside refl in
    record {
      begun = grind (arith, common_steps);
      from_zero = grind (arith, common_steps);
      so_far = grind (arith, common_steps);
      summed = grind (arith, common_steps);
    }
