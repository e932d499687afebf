use Rattle.std.proofs.Common.{◌≡◌, ◌+◌, ◌-◌, ◌*◌, ◌<◌, min, ◌++◌, length, sym, ap, ◌∙◌, append_assoc, arith, rules}
use Rattle.std.proofs.lemmas.List.{append-nil}
use Rattle.rules.specs.Areas.{listed, cut, serves, onward}
use Rattle.rules.proofs.AreaSteps.{cut_step, cut_none, cutting}
use Rattle.short_list.specs.Lists.{items}
use Rattle.rules.proofs.area.Area.cut.Goals as goal

pub loop-left-preserved : goal.loop-left-preserved
loop-left-preserved g c =
    let k = c.args.self.now.backward in
    let at = c.loop-left.at in
    let left = c.loop-left.left in
    let n = c.min-size.result in
    let inv = c.loop-left.invariant in
    let size : n ≡ min left (serves k at) = search rules in
    let some : 0 < left = omega arith in
    let on = c.step_on-at.ensures in
    let fits : length (items c.loop-left.pieces) < 33 = search rules in
    let room_on : (0 < left - n) → (serves k c.step_on-at.result ≡ 2048) × (left - n + 2048 * (length (items c.loop-left.pieces) + 1) < c.args.self.now.ccw.value.count + 2048) =
    rw on (cutting k at left (length (items c.loop-left.pieces)) c.args.self.now.ccw.value.count n size inv.1 inv.4 inv.3) in (
      ap (λ x. listed c.push.new.self ++ cut k (left - n) x (left - n)) on
          ∙ ap (λ x. x ++ cut k (left - n) (onward k at n) (left - n)) (c.push.ensures.room fits)
          ∙ append_assoc (listed c.loop-left.pieces) _ _
          ∙ ap (λ x. listed c.loop-left.pieces ++ x) (sym (cut_step k at left n some size))
          ∙ inv.0,
      omega arith,
      search rules,
      search rules,
      λ h more. let r = room_on more in (r.0, rw (c.push.ensures.longer fits) r.1),
    )

pub returns : goal.returns
returns g c =
    let z : c.loop-left.left ≡ 0 = omega arith in
    sym (append-nil (listed c.loop-left.pieces))
    ∙ ap (λ x. listed c.loop-left.pieces ++ x) (sym (ap (λ j. cut c.args.self.now.backward j c.loop-left.at j) z ∙ cut_none c.args.self.now.backward 0 c.loop-left.at))
    ∙ c.loop-left.invariant.0
