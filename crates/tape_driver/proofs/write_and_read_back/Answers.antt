use Rattle.std.proofs.Common.{ap, ◌∙◌}
use Rattle.tape_driver.specs.Theorems.{after_write, after_rewind, heard}
use Rattle.tape.specs.Meaning.{meaning}
use Rattle.tape_driver.proofs.AtRest.{written_is_read_back, one_block, all_read}
use Rattle.tape_driver.proofs.write_and_read_back.Goals as goal

pub returns-clause-same : goal.returns-clause-same
returns-clause-same c = λ idle some short wide.
    let bytes = c.args.bytes.now in
    let got = c.read_block.ensures in
    let first = c.rewind.ensures in
    let second = c.write_block.ensures.became ∙ ap (after_write bytes) first in
    let third = c.rewind-2.ensures ∙ ap after_rewind second in
    let block = ap (heard 0x02) third ∙ one_block bytes (meaning c.args.tape.now) idle some short in
    all_read c.args.buffer.now c.read_block.new.buffer bytes _ c.read_block.result block wide got.count got.bytes

pub returns-clause-always : goal.returns-clause-always
returns-clause-always c = written_is_read_back
