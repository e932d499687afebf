use Rattle.std.proofs.Common.{◌+◌, ◌-◌, length, ap, ◌∙◌, arith}
use Rattle.format.specs.Laying.{put_at}
use Rattle.channel.proofs.Laying.{back_laid}
use Rattle.channel.proofs.moving.store_downward.Goals as goal

pub returns : goal.returns
returns c =
    let v = c.args.first in
    let bs = c.args.bytes.now in
    let st = c.args.storage.now in
    let turned = c.reverse.ensures.after in
    let long = c.reverse.ensures.len in
    c.put_at.ensures.whole (omega arith)
    ∙ ap (λ j. put_at (v + 1 - j) c.reverse.new.self st) long
    ∙ ap (λ xs. put_at (v + 1 - length bs) xs st) turned
    ∙ back_laid v c.args.size bs st c.requires.0 c.requires.1.0 c.requires.1.1
