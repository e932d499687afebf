use Rattle.std.proofs.Common.{◌≤◌, length, All, arith, rules}
use Rattle.std.proofs.lemmas.List.Sums.{sum_by-le}
use Rattle.tape.proofs.reel.Reel.new.Goals as goal

pub total-requires : goal.total-requires
total-requires c =
    let lengths = c.args.lengths.now in
    let short : All (λ n. n ≤ 4096) lengths = search rules in
    let few : length lengths ≤ 64 = search rules in
    omega (arith, sum_by-le (λ x. x) 4096 lengths short)
