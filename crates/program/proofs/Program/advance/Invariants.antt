use Rattle.std.proofs.Common.{◌≡◌, ◌-◌}
use Rattle.channel.specs.Steps.{World}
use Rattle.program.proofs.Advancing.{Under}
use Rattle.program.proofs.Program.advance.Given as goal

-- the steps taken and those still to come are the whole
abbrev pub invariant-loop-count : goal.invariant-loop-count
invariant-loop-count g l =
    let d = g.D.Device in
    let F = l.initial.self.format in
    let before : World d.machine = record { storage = l.initial.storage; state = d.state l.initial.device; run = l.initial.self.run } in
    let here : World d.machine = record { storage = l.storage; state = d.state l.device; run = l.self.run } in
    (l.self.format ≡ F) × Under d.machine F l.count (l.limit - l.count) l.limit here before
