use Rattle.std.proofs.Common.{ℕ, ◌<◌}
use Rattle.frame_maps.specs.FrameSets.{flagged}
use Rattle.frame_maps.proofs.Flags.{Good}
use Rattle.frame_maps.proofs.page_table.keeps_law.Given as goal

abbrev pub invariant-loop-page : goal.invariant-loop-page
invariant-loop-page l = (k : ℕ) → k < l.page → Good l.listed (flagged l.flags) k
