use Rattle.std.proofs.Math.Seq.{take-set-lt}
use Rattle.short_list.proofs.list.ShortList.set.Goals as goal

pub returns-then-index-self : goal.returns-then-index-self
returns-then-index-self g c = take-set-lt c.args.self.now.count c.args.self.now.places c.args.index c.args.element c.if-index-self.true
