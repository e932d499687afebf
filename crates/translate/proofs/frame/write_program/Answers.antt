use Rattle.std.proofs.Common.{◌≡◌, ◌+◌, ◌*◌, ◌++◌, length, ap, ◌∙◌, arith}
use Rattle.std.proofs.Math.ListN.{length-map}
use Rattle.format.specs.Laying.{put_at}
use Rattle.rules.specs.TakingUp.{cell_of}
use Rattle.walk.specs.Walks.{cells_of}
use Rattle.translate.specs.Frames.{cells_bytes, closing_bytes}
use Rattle.translate.proofs.Puts.{put_more, put_zeros, length-cells}
use Rattle.short_list.specs.Lists.{items}
use Rattle.translate.proofs.frame.write_program.Goals as goal

pub returns : goal.returns
returns c =
    let w = c.args.walked.now in
    let part = c.args.part.now in
    let cells = cells_of w.cells in
    let written = cells_bytes cells 1024 in
    let closing = closing_bytes w.closes in
    let at = 8 * c.len.result in
    let size = length-cells cells 1024 in
    let count = length-map (items w.cells) cell_of in
    let behind : at ≡ 0 + length written = omega (arith, c.len.ensures.value) in
    c.write_closing.ensures
    ∙ ap (put_at at closing) c.write_cells.ensures
    ∙ put_more 0 at written closing part (omega arith) behind
    ∙ ap (put_at 0 (written ++ closing)) c.requires.0
    ∙ put_zeros 1024 (written ++ closing)
