use Rattle.std.proofs.Common.{◌≡◌, ◌≤◌, min, length, sym, ap, ◌∙◌, arith, length-take}
use Rattle.format.specs.Classes.{backwards}
use Rattle.device.specs.Machine.{due}
use Rattle.rules.specs.Areas.{listed, area}
use Rattle.rules.specs.TakingUp.{backward, reach}
use Rattle.channel.specs.Moves.{lay}
use Rattle.channel.proofs.Tables.{shaped_wider, shaped_sizes, lay_area}
use Rattle.channel.proofs.step.read_area.Goals as goal

pub read_pieces-requires : goal.read_pieces-requires
read_pieces-requires g c =
    let t = c.args.taken.now in
    let st = c.args.storage.now in
    let b : c.backward-backward.result ≡ backward t.code = c.backward-backward.ensures ∙ ap backwards c.from.ensures in
    let fits : reach st ≤ length st = omega arith in
    rw b (shaped_wider (backward t.code) (reach st) (length st) _ t.ccw.value.count (listed t.pieces) fits c.requires.shaped)

pub returns : goal.returns
returns g c =
    let m = g.D.Device.machine in
    let s = g.D.Device.state c.args.device.now in
    let t = c.args.taken.now in
    let st = c.args.storage.now in
    let count = t.ccw.value.count in
    let b : c.backward-backward.result ≡ backward t.code = c.backward-backward.ensures ∙ ap backwards c.from.ensures in
    let e = shaped_sizes (backward t.code) (reach st) _ count (listed t.pieces) c.requires.shaped in
    let done = c.read_pieces.ensures in
    record {
      count = done.moved ∙ ap (λ j. min j (length (due (m.pending s)))) e ∙ sym (length-take count (due (m.pending s)));
      bytes = done.bytes ∙ ap (λ k. lay (area k (listed t.pieces)) (due (m.pending s)) st) b ∙ lay_area (backward t.code) (listed t.pieces) count (due (m.pending s)) st e;
      became = done.became ∙ ap (λ j. m.given j s) e;
    }
