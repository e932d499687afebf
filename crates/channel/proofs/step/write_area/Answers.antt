use Rattle.std.proofs.Common.{◌≡◌, ◌≤◌, min, false, map, length, sym, ap, ◌∙◌, subst, arith}
use Rattle.std.proofs.Math.ListN.{length-map}
use Rattle.format.specs.Bytes.{reader}
use Rattle.device.specs.Machine.{room}
use Rattle.rules.specs.Areas.{listed, area, sizes, Shaped}
use Rattle.rules.specs.TakingUp.{cell_of, backward, reach}
use Rattle.channel.specs.Moves.{addresses_of, gathered}
use Rattle.channel.proofs.Directions.{writes_upward}
use Rattle.channel.proofs.Tables.{shaped_wider, shaped_sizes, length-area}
use Rattle.channel.proofs.step.write_area.Goals as goal

pub write_pieces-requires : goal.write_pieces-requires
write_pieces-requires g c =
    let t = c.args.taken.now in
    let st = c.args.storage.now in
    let fits : reach st ≤ length st = omega arith in
    subst (λ k. Shaped k (length st) false t.ccw.value.count (listed t.pieces)) (writes_upward t.code c.requires.1)
    (shaped_wider (backward t.code) (reach st) (length st) false t.ccw.value.count (listed t.pieces) fits c.requires.0.shaped)

pub returns : goal.returns
returns g c =
    let m = g.D.Device.machine in
    let s = g.D.Device.state c.args.device.now in
    let t = c.args.taken.now in
    let st = c.args.storage.now in
    let f = writes_upward t.code c.requires.1 in
    let done = c.write_pieces.ensures in
    let e = shaped_sizes (backward t.code) (reach st) false t.ccw.value.count (listed t.pieces) c.requires.0.shaped in
    let len : length (gathered (cell_of t) st) ≡ sizes (listed t.pieces) = length-map (addresses_of (cell_of t)) (reader st) ∙ length-area (backward t.code) (listed t.pieces) in
    record {
      count = done.moved ∙ ap (λ j. min j (room (m.pending s))) (sym len);
      became = done.became ∙ ap (λ k. m.taken (map (reader st) (area k (listed t.pieces))) s) (sym f);
    }
