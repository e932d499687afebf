use Rattle.std.proofs.Common.{◌+◌, List, ◌++◌, map, drop, sym, ap, ◌∙◌, arith}
use Rattle.std.proofs.lemmas.List.{append-nil}
use Rattle.rules.specs.declared.place.Taken.{Taken}
use Rattle.rules.specs.TakingUp.{cell_of}
use Rattle.walk.specs.OwnBytes.{extents_in, extents_of}
use Rattle.walk.proofs.Trails.{entry_at, entry_none}
use Rattle.walk.proofs.Touching.{extents_more, extents_none}
use Rattle.short_list.specs.Lists.{items}
use Rattle.walk.proofs.own_bytes.asking.own_bytes_of.Goals as goal

pub loop-taken-preserved : goal.loop-taken-preserved
loop-taken-preserved c =
    let xs = (items c.args.cells.now) in
    let i = c.loop-taken.taken-index in
    let t = c.taken-item.result in
    let es = extents_in c.loop-taken.own in
    let inv = c.loop-taken.invariant in
    let next = entry_at (λ (l : List Taken). es ++ extents_of (map cell_of l)) xs c.deref-taken-items.result.now i t c.deref-taken-items.ensures.0 c.loop-taken-test.true c.taken-item.is in (
      ap (λ x. x ++ extents_of (map cell_of (drop (i + 1) xs))) c.push_cell.ensures.list
          ∙ extents_more es (cell_of t) (map cell_of (drop (i + 1) xs))
          ∙ sym next
          ∙ inv.0,
      omega (arith, c.push_cell.ensures.len, inv.1),
    )

pub returns : goal.returns
returns c =
    let es = extents_in c.loop-taken.own in
    let end = entry_none (λ (l : List Taken). es ++ extents_of (map cell_of l)) (items c.args.cells.now) c.deref-taken-items.result.now c.loop-taken.taken-index c.deref-taken-items.ensures.0 c.loop-taken-test.false in
    sym (append-nil es) ∙ ap (λ x. es ++ x) (sym extents_none) ∙ sym end ∙ c.loop-taken.invariant.0
