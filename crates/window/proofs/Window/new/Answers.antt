use Rattle.std.proofs.Common.{ℕ, List, refl, subst, arith}
use Rattle.map.specs.Law.{Lawful}
use Rattle.window.specs.Windows.{Inside}
use Rattle.window.specs.Showing.{starts_inside, shown_inside, shown_lawful}
use Rattle.window.proofs.Window.new.Goals as goal

pub returns : goal.returns
returns g c =
    let first = c.args.first in
    let count = c.args.count in
    let fs = g.M.Map.frames c.args.below in
    let free = g.M.Map.free c.args.below in
    let law = g.met.M.Map.lawful c.args.below in
    let inside : Inside first count fs = (omega arith, omega arith) in
    let same = shown_inside first count fs inside in
    record {
      answer = (inside, refl, refl, refl, starts_inside first count fs inside, same);
      lawful = subst (λ (xs : List ℕ). Lawful xs free) same (shown_lawful first count fs free inside.0 law);
    }
