use Rattle.std.proofs.Common.{arith}
use Rattle.translate.proofs.Tables.{zeros_below}
use Rattle.translate.proofs.back_table.BackTable.new.Goals as goal

pub invariant_of-result : goal.invariant_of-result
invariant_of-result c = record { short = omega arith; inside = zeros_below 2147483648 64 (omega arith) }
