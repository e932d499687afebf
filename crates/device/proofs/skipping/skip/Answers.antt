use Rattle.std.proofs.Common.{◌≡◌, ◌+◌, ◌-◌, ◌≤◌, length, sym, ap, ◌∙◌, arith, length-drop, rules}
use Rattle.device.specs.Machine.{due}
use Rattle.device.proofs.Moving.{given_due, given_more, parts_are_one_move}
use Rattle.device.proofs.skipping.skip.Goals as goal

pub loop-left-preserved : goal.loop-left-preserved
loop-left-preserved g c =
    let d = g.D.Device in
    let m = d.machine in
    let s = d.state c.loop-left.device in
    let k = c.min-size.result in
    let left = c.loop-left.left in
    let inv = c.loop-left.invariant in
    let done = c.skip_block-moved.ensures in
    let l = ap (λ x. length (due (m.pending x))) done.became ∙ ap length (given_due d.laws k s) ∙ length-drop k (due (m.pending s)) in
    let fits : k ≤ left = search rules in
    let e : k + (left - k) ≡ left = omega arith in (
      omega arith,
      omega (arith, l, done.moved, inv.1),
      ap (m.given (left - k)) done.became ∙ given_more d.laws k (left - k) s ∙ ap (λ j. m.given j s) e ∙ inv.2,
    )

pub returns : goal.returns
returns g c =
    let d = g.D.Device in
    let m = d.machine in
    let s = d.state c.loop-left.device in
    let z : c.loop-left.left ≡ 0 = omega arith in
    let inv = c.loop-left.invariant in
    record {
      moved = omega (arith, inv.1);
      became = sym (d.laws.give_none s) ∙ sym (ap (λ j. m.given j s) z) ∙ inv.2;
      parts = parts_are_one_move d.laws;
    }
