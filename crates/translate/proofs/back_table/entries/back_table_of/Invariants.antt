use Rattle.std.proofs.Common.{◌≡◌, ◌^◌, ◌++◌, map, drop}
use Rattle.rules.specs.TakingUp.{cell_of}
use Rattle.walk.specs.Walks.{cells_of}
use Rattle.translate.specs.Fitting.{Below}
use Rattle.translate.specs.Kept.{addresses_in}
use Rattle.translate.specs.Translations.{ccw_addresses}
use Rattle.short_list.specs.Lists.{items}
use Rattle.translate.proofs.back_table.entries.back_table_of.Given as goal

-- the addresses there are, with those still to come, are all
abbrev pub invariant-loop-taken : goal.invariant-loop-taken
invariant-loop-taken l =
    let left = ccw_addresses (map cell_of (drop l.taken-index (items l.cells))) in
    (addresses_in l.back ++ left ≡ ccw_addresses (cells_of l.cells)) × (l.back.len ≡ l.taken-index) × Below (2 ^ 31) left
