use Rattle.std.proofs.Common.{ℕ, ap}
use Rattle.channel.specs.Steps.{World}
use Rattle.program.specs.declared.Program.{Program}
use Rattle.agree.specs.Correspondence.{world}
use Rattle.agree.proofs.Whole.{advanced_together}
use Rattle.agree.proofs.twin.Twin.advance.Goals as goal

pub returns-clause-together : goal.returns-clause-together
returns-clause-together g c =
    let on = world g.D.Device.machine in
    let state = g.D.Device.state in
    let programs = c.programs.ensures in
    let host_format = ap (λ (p : Program × Program). p.0.format) programs in
    let direct_format = ap (λ (p : Program × Program). p.1.format) programs in
    let host_run = ap (λ (p : Program × Program). p.0.run) programs in
    let direct_run = ap (λ (p : Program × Program). p.1.run) programs in
    let host_ran = ap (λ (r : ℕ × World g.D.Device.machine). r.1) c.advance-host_progress.ensures.world in
    let direct_ran = ap (λ (r : ℕ × World g.D.Device.machine). r.1) c.advance-direct_progress.ensures.world in
    advanced_together _ _ (g.met.M.Map.lawful _) _ _ _ c.args.limit
    (on c.args.host.now (state c.args.host_device.now) c.args.self.now.host)
    (on c.args.direct.now (state c.args.direct_device.now) c.args.self.now.direct)
    (on c.advance-host_progress.new.storage (state c.advance-host_progress.new.device) c.advance-host_progress.new.self.run)
    (on c.advance-direct_progress.new.storage (state c.advance-direct_progress.new.device) c.advance-direct_progress.new.self.run)
    host_format direct_format (cc) (cc)
