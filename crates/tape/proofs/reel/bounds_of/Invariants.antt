use Rattle.std.proofs.Common.{◌≡◌, ◌<◌, length, take, sum, slice_index}
use Rattle.short_list.specs.Lists.{items}
use Rattle.tape.specs.ReelState.{lengths_of}
use Rattle.tape.proofs.reel.bounds_of.Given as goal

abbrev pub invariant-loop-length : goal.invariant-loop-length
invariant-loop-length l = record {
  begun : 0 < length (items l.bounds);
  from_zero : slice_index (items l.bounds) 0 ≡ 0;
  so_far : lengths_of (items l.bounds) ≡ take l.length-index l.lengths;
  summed : l.end ≡ sum (take l.length-index l.lengths);
}
