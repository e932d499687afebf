use Rattle.std.proofs.Common.{rules}
use Rattle.rules.proofs.Shapes.{answer_sound}
use Rattle.rules.proofs.taking_up.take_up.Goals as goal

pub returns-clause-sound : goal.returns-clause-sound
returns-clause-sound g c = answer_sound c.args.format (g.S.Storage.bytes c.args.storage.now) c.args.place c.read_up.result (search rules)
