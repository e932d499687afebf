use Rattle.std.proofs.Common.{[], ◌∷◌, length, ap, ◌∙◌, rules}
use Rattle.disk.specs.Blocks.{block_at}
use Rattle.disk.specs.Meaning.{meaning}
use Rattle.disk_driver.proofs.Programmed.{bytes_come_back, others_stay}
use Rattle.disk_driver.proofs.write_and_read_back.Goals as goal

pub returns-clause-same : goal.returns-clause-same
returns-clause-same c = λ at_rest r size asked.
    let place = c.args.location in
    bytes_come_back place.first place.count c.args.bytes.now (meaning c.args.disk.now) (meaning c.write_blocks.new.disk) at_rest c.args.disk.now.model.full (search rules) c.write_blocks.ensures.became
    c.read_blocks.result c.args.back.now c.read_blocks.new.buffer size asked c.read_blocks.ensures.count c.read_blocks.ensures.filled

pub returns-clause-kept : goal.returns-clause-kept
returns-clause-kept c = λ at_rest block apart.
    let place = c.args.location in
    ap (λ x. block_at block x.core.bytes) c.read_blocks.ensures.became
    ∙ others_stay place.first place.count c.args.bytes.now (meaning c.args.disk.now) (meaning c.write_blocks.new.disk) at_rest c.args.disk.now.model.full (search rules) c.write_blocks.ensures.became
    (length c.args.back.now ∷ []) block apart
