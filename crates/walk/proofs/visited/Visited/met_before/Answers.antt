use Rattle.std.proofs.Common.{◌+◌, List, map, drop, sym, ◌∙◌}
use Rattle.rules.specs.declared.place.Taken.{Taken}
use Rattle.rules.specs.TakingUp.{cell_of}
use Rattle.walk.specs.Walks.{met}
use Rattle.walk.proofs.Trails.{entry_at, entry_none, met_here, met_on, met_none}
use Rattle.short_list.specs.Lists.{items}
use Rattle.walk.proofs.visited.Visited.met_before.Goals as goal

pub loop-index-preserved : goal.loop-index-preserved
loop-index-preserved c =
    let a = c.args.address in
    let command = c.args.command in
    let xs = (items c.args.self.now.cells) in
    let i = c.loop-index.index in
    let t = c.cell-item.result in
    sym (met_on a command (cell_of t) (map cell_of (drop (i + 1) xs)) i (sym c.is_same_place.ensures ∙ c.if-is_same_place.false))
    ∙ sym (entry_at (λ (l : List Taken). met a command (map cell_of l) i) xs c.deref-cell-items.result.now i t c.deref-cell-items.ensures.0 c.loop-index-test.true c.cell-item.is)
    ∙ c.loop-index.invariant

pub returns-then-is_same_place : goal.returns-then-is_same_place
returns-then-is_same_place c =
    let a = c.args.address in
    let command = c.args.command in
    let xs = (items c.args.self.now.cells) in
    let i = c.loop-index.index in
    let t = c.cell-item.result in
    sym (met_here a command (cell_of t) (map cell_of (drop (i + 1) xs)) i (sym c.is_same_place.ensures ∙ c.if-is_same_place.true))
    ∙ sym (entry_at (λ (l : List Taken). met a command (map cell_of l) i) xs c.deref-cell-items.result.now i t c.deref-cell-items.ensures.0 c.loop-index-test.true c.cell-item.is)
    ∙ c.loop-index.invariant

pub returns-after-loop-index : goal.returns-after-loop-index
returns-after-loop-index c =
    let a = c.args.address in
    let command = c.args.command in
    let i = c.loop-index.index in
    sym (met_none a command i)
    ∙ sym (entry_none (λ (l : List Taken). met a command (map cell_of l) i) (items c.args.self.now.cells) c.deref-cell-items.result.now i c.deref-cell-items.ensures.0 c.loop-index-test.false)
    ∙ c.loop-index.invariant
