use Rattle.std.proofs.Common.{sym, subst, rules}
use Rattle.channel.specs.Steps.{ChangesOnlyArea}
use Rattle.program.proofs.Changing.{changes_only_area}
use Rattle.program.proofs.Program.step.Goals as goal

pub returns-clause-area : goal.returns-clause-area
returns-clause-area g c =
    let d = g.D.Device in
    let p = c.args.self.now in
    let st = c.args.storage.now in
    subst (ChangesOnlyArea p.format p.run st) (sym (search rules)) (changes_only_area d.machine p.format st (d.state c.args.device.now) p.run)
