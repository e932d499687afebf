use Rattle.std.proofs.Common.{◌+◌, slice_index, rules, arith}
use Rattle.rules.proofs.Filling.{filled}
use Rattle.rules.proofs.storage.bytes_at.Goals as goal

pub returns : goal.returns
returns g c i small =
    filled _ _ c.from_fn.result g.row.N 0 c.from_fn.ensures.items.each (λ j. slice_index (g.S.Storage.bytes c.args.storage.now) (c.args.address + j))
    (λ k y q called. search rules) i (omega arith) (omega (arith, small))
