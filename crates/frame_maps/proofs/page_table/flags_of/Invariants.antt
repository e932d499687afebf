use Rattle.std.proofs.Common.{◌≡◌, ℕ, length, take}
use Rattle.frame_maps.specs.FrameSets.{among, flagged}
use Rattle.frame_maps.proofs.page_table.flags_of.Given as goal

abbrev pub invariant-loop-frame : goal.invariant-loop-frame
invariant-loop-frame l = record {
  long : length l.flags ≡ 256;
  same : (f : ℕ) → flagged l.flags f ≡ among (take l.frame-index l.frames) f;
}
