use Rattle.std.proofs.Common.{◌≡◌, suc, ◌+◌, ◌-◌, sym, ap, ◌∙◌, arith}
use Rattle.std.proofs.lemmas.Bool.{not-true, not-false}
use Rattle.channel.specs.Steps.{World, stepped, is_ended}
use Rattle.program.proofs.Advancing.{advanced_none, advanced_ended, one_taken, all_taken, counted_at}
use Rattle.program.proofs.Program.advance.Goals as goal

-- the program ends before `limit`
pub returns-then-not-is_running-clause-world : goal.returns-then-not-is_running-clause-world
returns-then-not-is_running-clause-world g c =
    let d = g.D.Device in
    let m = d.machine in
    let F = c.args.self.now.format in
    let left = c.args.limit - c.loop-count.count in
    let here : World m = record { storage = c.loop-count.storage; state = d.state c.loop-count.device; run = c.loop-count.self.run } in
    let before : World m = record { storage = c.args.storage.now; state = d.state c.args.device.now; run = c.args.self.now.run } in
    let over = not-false (is_ended here.run) (sym c.is_running.ensures ∙ c.if-not-is_running.true) in
    all_taken m F c.loop-count.count left c.args.limit here before (advanced_ended m F left here over) c.loop-count.invariant.1

pub returns-then-not-is_running-clause-counted : goal.returns-then-not-is_running-clause-counted
returns-then-not-is_running-clause-counted g c =
    counted_at g.D.Device.machine c.args.self.now.format c.loop-count.count c.args.limit _ _ (returns-then-not-is_running-clause-world g c)

pub loop-count-preserved : goal.loop-count-preserved
loop-count-preserved g c =
    let d = g.D.Device in
    let m = d.machine in
    let F = c.args.self.now.format in
    let count = c.loop-count.count in
    let limit = c.args.limit in
    let here : World m = record { storage = c.loop-count.storage; state = d.state c.loop-count.device; run = c.loop-count.self.run } in
    let before : World m = record { storage = c.args.storage.now; state = d.state c.args.device.now; run = c.args.self.now.run } in
    let after : World m = record { storage = c.step.new.storage; state = d.state c.step.new.device; run = c.step.new.self.run } in
    let runs = not-true (is_ended here.run) (sym c.is_running.ensures ∙ c.if-not-is_running.false) in
    let e : after ≡ stepped m F here = c.step.ensures.world ∙ ap (λ f. stepped m f here) c.loop-count.invariant.0 in
    let left : limit - count ≡ suc (limit - (count + 1)) = omega arith in
    (c.step.ensures.format ∙ c.loop-count.invariant.0, one_taken m F count (limit - count) (limit - (count + 1)) limit here after before left runs e c.loop-count.invariant.1)

-- all of `limit` are taken
pub returns-clause-world : goal.returns-clause-world
returns-clause-world g c =
    let d = g.D.Device in
    let m = d.machine in
    let F = c.args.self.now.format in
    let count = c.loop-count.count in
    let limit = c.args.limit in
    let here : World m = record { storage = c.loop-count.storage; state = d.state c.loop-count.device; run = c.loop-count.self.run } in
    let before : World m = record { storage = c.args.storage.now; state = d.state c.args.device.now; run = c.args.self.now.run } in
    let end : limit ≡ count = omega arith in
    ap (λ n. (n, here)) end ∙ all_taken m F count (limit - count) limit here before (advanced_none m F (limit - count) here (omega arith)) c.loop-count.invariant.1

pub returns-clause-counted : goal.returns-clause-counted
returns-clause-counted g c = counted_at g.D.Device.machine c.args.self.now.format c.args.limit c.args.limit _ _ (returns-clause-world g c)
