use Rattle.std.proofs.Common.{arith, rules}
use Rattle.short_list.specs.Lists.{items}
use Rattle.tape.specs.ReelState.{lengths_of}
use Rattle.tape.proofs.Cuts.{begins_within, ends_within, found}
use Rattle.tape.proofs.reel.Reel.block.Goals as goal

pub slice_bounds-result-count : goal.slice_bounds-result-count
slice_bounds-result-count c =
    begins_within (lengths_of (items c.self.inside.bounds)) (items c.self.inside.bytes) c.args.index c.start_of-start.result c.start_of-end.result c.args.self.now c.self.view_is c.self.invariant.fit (omega arith) c.start_of-start.ensures.before c.start_of-end.ensures.before

pub slice_bounds-result-start : goal.slice_bounds-result-start
slice_bounds-result-start c =
    let first = slice_bounds-result-count c in
    search rules

pub slice_bounds-result-end : goal.slice_bounds-result-end
slice_bounds-result-end c =
    let first = slice_bounds-result-count c in
    let last =
    ends_within (lengths_of (items c.self.inside.bounds)) (items c.self.inside.bytes) c.deref.result.now c.args.index c.start_of-end.result c.args.self.now c.self.view_is c.self.invariant.fit c.deref.ensures.0 (omega arith) c.start_of-end.ensures.before in
    search rules

pub returns : goal.returns
returns c =
    found (lengths_of (items c.self.inside.bounds)) (items c.self.inside.bytes) c.deref.result.now c.args.index c.start_of-start.result c.start_of-end.result c.args.self.now c.self.view_is c.self.invariant.fit c.deref.ensures.0 (omega arith) c.start_of-start.ensures.before c.start_of-end.ensures.before
