use Rattle.std.proofs.Common.{◌≡◌, ◌+◌, ◌*◌, ◌<◌, ◌≤◌, true, false, length}
use Rattle.format.specs.Bytes.{reader}
use Rattle.rules.specs.Areas.{listed, by_words}
use Rattle.rules.specs.TakingUp.{reach}
use Rattle.rules.proofs.AreaSteps.{onto}
use Rattle.short_list.specs.Lists.{items}
use Rattle.rules.proofs.area.Area.by_words.Given as goal

abbrev pub invariant-loop-left : goal.invariant-loop-left
invariant-loop-left g l =
    let st = g.S.Storage.bytes l.self.storage.now in
    let w = l.self.ccw in
    (onto (listed l.pieces) (by_words l.self.backward (reach st) (reader st) w.address l.left l.later l.at l.left) ≡ by_words l.self.backward (reach st) (reader st) w.address w.value.count false w.value.address w.value.count)
    × (l.left ≤ w.value.count)
    × (l.later ≡ false → length (items l.pieces) ≡ 0)
    × (l.later ≡ true → 0 < l.left → l.left + 2048 * length (items l.pieces) < w.value.count + 2048)

abbrev pub decreases-loop-left : goal.decreases-loop-left
decreases-loop-left g l = l.left
