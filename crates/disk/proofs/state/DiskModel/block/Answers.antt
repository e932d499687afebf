use Rattle.std.proofs.Common.{◌*◌, ◌/◌, ◌<◌, ◌≤◌, length, ap, arith, rules}
use Rattle.disk.proofs.Stored.{chunk_is_block}
use Rattle.disk.proofs.state.DiskModel.block.Goals as goal

pub returns : goal.returns
returns c =
    let store = c.args.self.now.bytes in
    let front = c.as_chunks.ensures.front in
    let count = c.as_chunks.ensures.front_len in
    let counted = ap (λ n. n / 512) c.args.self.now.full in
    let inside : c.args.index < 64 = grind (arith, rules) in
    let fits : 512 * 64 ≤ length store = omega (arith, c.args.self.now.full) in
    let here = chunk_is_block c.args.index 64 store c.in_ok-block.block.now inside fits in
    grind (arith, rules)
