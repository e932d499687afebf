use Rattle.std.proofs.Common.{◌≡◌, ◌+◌, ◌≤◌, min, length}
use Rattle.device.specs.Machine.{due}
use Rattle.device.proofs.skipping.skip.Given as goal

abbrev pub invariant-loop-left : goal.invariant-loop-left
invariant-loop-left g l =
    let d = g.D.Device in
    let m = d.machine in
    (l.left ≤ l.count)
    × (l.moved + min l.left (length (due (m.pending (d.state l.device)))) ≡ min l.count (length (due (m.pending (d.state l.initial.device)))))
    × (m.given l.left (d.state l.device) ≡ m.given l.count (d.state l.initial.device))

abbrev pub decreases-loop-left : goal.decreases-loop-left
decreases-loop-left g l = l.left
