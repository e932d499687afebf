use Rattle.std.proofs.Common.{◌≤◌, reverse, length, ap, ◌∙◌, arith}
use Rattle.std.proofs.lemmas.List.{length-reverse}
use Rattle.tape_driver.specs.Theorems.{after_read, heard}
use Rattle.tape.specs.Meaning.{meaning}
use Rattle.tape_driver.proofs.AtRest.{written_is_read_backward, blocks_before_stay, all_read}
use Rattle.tape_driver.proofs.write_and_read_backward.Goals as goal

pub returns-clause-same : goal.returns-clause-same
returns-clause-same c = λ idle fits wide.
    let bytes = c.args.bytes.now in
    let buffer = c.args.buffer.now in
    let m = c.args.tape.now.model in
    let got = c.read_backward.ensures in
    let written = c.write_block.ensures.became in
    let on = m.on_tape in
    let on_tape : m.position ≤ length m.reel.blocks = omega arith in
    let back = written_is_read_backward bytes (length buffer) (meaning c.args.tape.now) (idle, on_tape) fits in
    let block = ap (heard 0x0C) written ∙ back.0 in
    let size = length-reverse bytes in
    let read = all_read buffer c.read_backward.new.buffer (reverse bytes) _ c.read_backward.result block (omega arith) got.count got.bytes in (
      read.0 ∙ size,
      read.1,
      ap (λ u. u.core.position) (got.became ∙ ap (after_read 0x0C (length buffer)) written) ∙ back.1,
    )

pub returns-clause-always : goal.returns-clause-always
returns-clause-always c = written_is_read_backward

pub returns-clause-stay : goal.returns-clause-stay
returns-clause-stay c = blocks_before_stay
