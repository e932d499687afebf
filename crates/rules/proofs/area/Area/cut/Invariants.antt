use Rattle.std.proofs.Common.{◌≡◌, ◌+◌, ◌*◌, ◌^◌, ◌<◌, ◌≤◌, true, ◌++◌, length}
use Rattle.rules.specs.Areas.{listed, cut, serves}
use Rattle.short_list.specs.Lists.{items}
use Rattle.rules.proofs.area.Area.cut.Given as goal

-- what is left to cut, put behind the pieces there are, is the whole
abbrev pub invariant-loop-left : goal.invariant-loop-left
invariant-loop-left g l =
    (listed l.pieces ++ cut l.self.backward l.left l.at l.left ≡ cut l.self.backward l.self.ccw.value.count l.self.ccw.value.address l.self.ccw.value.count)
    × (l.left ≤ l.self.ccw.value.count)
    × (l.at + l.left ≤ 2 ^ 33)
    × (l.self.backward ≡ true → l.left ≤ l.at + 1)
    × (0 < length (items l.pieces) → 0 < l.left → (serves l.self.backward l.at ≡ 2048) × (l.left + 2048 * length (items l.pieces) < l.self.ccw.value.count + 2048))

abbrev pub decreases-loop-left : goal.decreases-loop-left
decreases-loop-left g l = l.left
