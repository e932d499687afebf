use Rattle.std.proofs.Common.{true, refl, ◌∙◌, arith}
use Rattle.std.proofs.lemmas.List.{length-set}
use Rattle.frame_maps.proofs.Flags.{flagged_none, flagged_more}
use Rattle.frame_maps.proofs.page_table.flags_of.Goals as goal

pub loop-frame-init : goal.loop-frame-init
loop-frame-init c = record { long = refl; same = λ f. flagged_none 256 f }

pub loop-frame-preserved : goal.loop-frame-preserved
loop-frame-preserved c =
    let l = c.loop-frame in record {
      long = length-set l.flags c.from.result true ∙ l.invariant.long;
      same = flagged_more l.flags c.args.frames.now l.frame-index c.from.result c.from.ensures (omega arith) (omega arith) l.invariant.same;
    }
