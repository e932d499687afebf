use Rattle.std.proofs.Common.{◌+◌, ◌*◌, ◌≤◌, List, map, length, ap, ◌∙◌, arith}
use Rattle.format.specs.Laying.{put_at}
use Rattle.format.specs.Layouts.{ccw_bytes}
use Rattle.rules.specs.declared.place.Taken.{Taken}
use Rattle.rules.specs.TakingUp.{cell_of}
use Rattle.walk.proofs.Trails.{entry_at, entry_none}
use Rattle.translate.proofs.Puts.{cell_turn, cells_end}
use Rattle.short_list.specs.Lists.{items}
use Rattle.translate.proofs.frame.write_cells.Goals as goal

pub loop-index-preserved : goal.loop-index-preserved
loop-index-preserved c =
    let i = c.loop-index.index in
    let part = c.loop-index.part in
    let inv = c.loop-index.invariant in
    let bytes = c.encode.ensures.is ∙ ap ccw_bytes c.cell_ccw-cell.ensures in
    let room : 8 * i + length c.encode.result ≤ length part = omega (arith, ap length bytes, c.requires, c.loop-index.auto.part, c.deref-taken-items.ensures.1) in
    let next = entry_at (λ (l : List Taken). map cell_of l) (items c.args.cells.now) c.deref-taken-items.result.now i c.taken-item.result c.deref-taken-items.ensures.0 c.loop-index-test.true c.taken-item.is in (
      cell_turn i c.loop-index.list c.len.result (cell_of c.taken-item.result) _ _ part c.put_at.new.storage _ (omega arith) (c.put_at.ensures.whole room ∙ ap (λ x. put_at (8 * i) x part) bytes) c.len.ensures.value next inv.0,
      omega (arith, inv.1, c.len.ensures.fits),
    )

pub returns : goal.returns
returns c =
    let none = entry_none (λ (l : List Taken). map cell_of l) (items c.args.cells.now) c.deref-taken-items.result.now c.loop-index.index c.deref-taken-items.ensures.0 c.loop-index-test.false in
    cells_end (8 * c.loop-index.index) c.loop-index.list _ c.loop-index.part _ none c.loop-index.invariant.0
